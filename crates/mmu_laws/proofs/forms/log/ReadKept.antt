-- What a line has read of a dirty log after a step of it, alone: pages of dirty guest frames, whose bits are clear where it takes them out.
use Rattle.std.proofs.Common.{◌≡◌, ◌≢◌, ◌⊎◌, inl, inr, ◌<◌, List, [], ℕ, refl, sym, subst, ap, ◌∙◌}
use Rattle.std.specs.Prelude.{Bool, Option, Some, false, if◌then◌else◌, true}
use Rattle.core_views.specs.declared.place.LogPlace.{LogPlace}
use Rattle.core_views.specs.declared.place.LogPlace.TheVariants.{AtOnce, Exclude, Take, Root, Walk, Protect, Release, Ask, Await, Peek}
use Rattle.core_views.specs.declared.place.Place.{Place}
use Rattle.core_views.specs.declared.place.Place.TheVariants as place
use Rattle.core_views.specs.declared.sizes.Sizes.{Sizes}
use Rattle.core_views.specs.declared.trace.Command.{Command}
use Rattle.core_views.specs.declared.trace.Line.{Line}
use Rattle.core_views.specs.declared.trace.Slot.{Slot as SlotOf}
use Rattle.core_views.specs.Flat.{Flat}
use Rattle.core_views.specs.Held.{Held}
use Rattle.core_views.specs.Sizes.{actors_of}
use Rattle.spte_words.specs.declared.area.Area.TheVariants as area
use Rattle.part_steps.specs.declared.part_step.PartStep.TheVariants as part
use Rattle.part_steps.specs.PartTasks.{own_index, part_task}
use Rattle.part_steps.specs.declared.part_step.PartStep.{PartStep}
use Rattle.part_steps.specs.declared.task.Task.{Task}
use Rattle.mmu_core.specs.forms.access.AccessSteps.{task_by}
use Rattle.mmu_core.specs.lines.Forms.{note_at}
use Rattle.mmu_core.specs.lines.PartAt.{touch_at}
use Rattle.mmu_core.proofs.forms.log.ReadingPlaces.{IsOfReading, reading_is}
use Rattle.part_steps.specs.SweepTopics.{has_entry}
use Rattle.part_steps.specs.SlotWords.{page_of}
use Rattle.mmu_core.specs.declared.log_next.LogNext.TheVariants as next
use Rattle.mmu_core.specs.forms.log.LogKnows.{IsReading, LogKnows, Reads}
use Rattle.mmu_core.specs.forms.log.LogSteps.{log_next, log_part, log_reads, read_more, reads_last, slot_asked}
use Rattle.mmu_core.specs.machine.Steps.{task_at}
use Rattle.mmu_core.specs.machine.View.{View, answer_in, words_after}
use Rattle.mmu_core.proofs.lines.EitherPlace.{either_place}
use Rattle.mmu_core.proofs.lines.KnowsKept.{step_knows}
use Rattle.mmu_core.proofs.forms.log.LogNeeds.{mask_small}
use Rattle.mmu_core.proofs.machine.Columns.{same_or}
use Rattle.log_invariant.specs.Covered.{is_marked}
use Rattle.log_invariant.specs.forms.log.LogReads.{IsRead, has_taken}
use Rattle.mmu_core.specs.forms.log.Readings.{has_begun}
use Rattle.mmu_core.specs.forms.log.Readings.{Reading, own_reading, reading_at}
use Rattle.log_invariant.proofs.LogBits.{was_there}
use Rattle.log_invariant.proofs.LogWords.{is_on_log, log_same}
use Rattle.log_invariant.proofs.StepPlaces.{of_hand}
use Rattle.mmu_laws.specs.forms.log.ReadingsAlone.{ReadingHasBegun, HasReadPage, LeavesClear, WritesLater, WritesLaterAt, has_read}
use Rattle.mmu_laws.proofs.forms.log.MarkedBits.{take_clears}
use Rattle.mmu_laws.proofs.forms.log.ReadPages.{IsNew, ReadsLogged, next_mask, next_word, none_read, read_now, reads_logged}
use Rattle.mmu_laws.proofs.forms.log.AskedPages.{read_inside}
use Rattle.mmu_laws.proofs.forms.log.LoneReadingSteps.{StepsAlone}
use Rattle.mmu_laws.proofs.flat.BeginningsKept.{StandsAt, stands_at}
use Rattle.mmu_laws.proofs.forms.log.BegunLater.{begun_later}

-- ---- places of a reading

-- What has read a word, or taken a page, has begun to read.
pub read_begun : (q : LogPlace) → has_read q ≡ true → has_begun q ≡ true
read_begun (AtOnce refusal) is = is
read_begun Exclude is = is
read_begun (Peek begun) is = is
read_begun _ is = refl

pub taken_begun : (q : LogPlace) → has_taken q ≡ true → has_begun q ≡ true
taken_begun (AtOnce refusal) is = is
taken_begun Exclude is = is
taken_begun (Peek begun) is = absurd (cc is)
taken_begun _ is = refl

-- A line that is about to write has no reading under way.
no_write : (p : Place) (command : Command) (h : Held) (r : Reading) (gfn : ℕ) → reading_at p command h ≡ Some r → WritesLaterAt p command gfn → ⊥
no_write (place.Access q) command h r gfn is W = cc is
no_write _ command h r gfn is W = W

abbrev pub is_refused : LogPlace → Bool
is_refused (AtOnce refusal) = true
is_refused _ = false

-- ---- after each step

module _ (z : Sizes) (v : View) (f : Flat) (a : ℕ) (line : Line) (p : Place) (q : LogPlace) (command : Command) (X : StepsAlone z v f a line p)
    (at : reading_at p line.command (v.hand a) ≡ Some (record { place = q; command = command })) where
  abbrev h : Held
  h = v.hand a

  abbrev slot : SlotOf
  slot = slot_asked h command

  abbrev x : ℕ
  x = answer_in (task_at p line.command h) v.words

  there : IsOfReading p line.command h (record { place = q; command = command })
  there = reading_is p line.command h _ at

  pub known : LogKnows q command h
  known = there.knows (step_knows z v a line line.command p X.step X.ready.holds)

  abbrev note : ℕ
  note = note_at p line.command h

  task_is : task_at p line.command h ≡ part_task (log_part q h command) (own_index h) h.topics note
  task_is = ap (λ (s : Option PartStep). task_by s h note (touch_at line.command h)) there.part

  found_is : x ≡ answer_in (part_task (log_part q h command) (own_index h) h.topics note) v.words
  found_is = ap (λ (task : Task). answer_in task v.words) task_is

  pub logged : Reads command h → ReadsLogged v command h
  logged K = reads_logged z v a line line.command p q command at X.step X.ready.holds K

  -- No line is about to write.
  pub no_writer : (i gfn : ℕ) → i < actors_of z → WritesLater (v.hand i) gfn → ⊥
  no_writer i gfn lt W = by (same_or i a)
    where
      by : (i ≡ a) ⊎ (i ≢ a) → ⊥
      by (inl e) =
          no_write p line.command h _ gfn at
          (of_hand z v a line line.command p X.step (λ place_ c. WritesLaterAt place_ c gfn) (λ sizes slots c none. absurd none)
          (subst (λ j. WritesLater (v.hand j) gfn) e W))
      by (inr ne) = subst (λ place_. WritesLaterAt place_ (v.hand i).state.line.command gfn) (X.idle i lt ne) W

  -- So the pages of marked bits are dirty.
  dirty : (gfn : ℕ) → (L : ReadsLogged v command h) → (words : List ℕ) → IsRead slot command words gfn
      → is_marked (v.words area.Log) (page_of slot gfn) ≡ true → f.facts.pending gfn ≡ true
  dirty gfn L words R marked =
      by (X.exact.bits L.id gfn slot L.logged (read_inside slot command words gfn L.inside R) marked)
    where
      by : (f.facts.pending gfn ≡ true) ⊎ ((i : ℕ) × (i < actors_of z) × WritesLater (v.hand i) gfn) → f.facts.pending gfn ≡ true
      by (inl is) = is
      by (inr (i, lt, W)) = absurd (no_writer i gfn lt W)

  -- The reading is the hand's own, once it has begun to read.
  here : has_begun q ≡ true → own_reading h ≡ Some (record { place = q; command = command })
  here begun =
      let stands : StandsAt h line line.command p = stands_at z v a line line.command p X.step (begun_later p line.command h _ at begun) in
      ap (λ place_. reading_at place_ h.state.line.command h) stands.at ∙ ap (λ c. reading_at p c h) stands.command_is ∙ at

  -- What it had read is dirty, what it had taken out is clear, and what is dirty was due.
  had_read : (gfn : ℕ) → has_read q ≡ true → IsRead slot command h.harvest gfn → f.facts.pending gfn ≡ true
  had_read gfn has R =
      X.exact.read a gfn X.step.there (subst (λ (o : Option Reading). HasReadPage o h gfn) (sym (here (read_begun q has))) (has, R))

  pub had_taken : (gfn : ℕ) → has_taken q ≡ true → IsRead slot command h.harvest gfn → is_marked (v.words area.Log) (page_of slot gfn) ≡ false
  had_taken gfn has R =
      subst (λ (o : Option Reading). LeavesClear o h (v.words area.Log) gfn) (here (taken_begun q has)) (X.exact.taken a gfn X.step.there) (has, R)

  pub due_before : has_begun q ≡ true → (gfn : ℕ) → f.facts.pending gfn ≡ true → f.past.due gfn ≡ true
  due_before has gfn is = X.exact.due a gfn X.step.there (subst ReadingHasBegun (sym (here has)) has) is

  -- The word that it reads next: with it, it has read a page that it had read, or one whose bit is set.
  module _ (begun : Bool) (K : Reads command h) (R : IsReading begun slot command h) (gfn : ℕ) (found : x ≡ v.words area.Log (next_word begun command h))
      (is : IsRead slot command (read_more begun slot command h x) gfn) where
    more : ((begun ≡ true) × IsRead slot command h.harvest gfn) ⊎ IsNew v h command gfn (logged K) begun
    more = read_now v h command gfn (logged K) begun R (subst (λ y. IsRead slot command (read_more begun slot command h y) gfn) found is)

    more_dirty : (begun ≡ true → has_read q ≡ true) → f.facts.pending gfn ≡ true
    more_dirty has = by more
      where
        by : ((begun ≡ true) × IsRead slot command h.harvest gfn) ⊎ IsNew v h command gfn (logged K) begun → f.facts.pending gfn ≡ true
        by (inl (b, was)) = had_read gfn (has b) was
        by (inr N) = dirty gfn (logged K) _ is N.marked

  -- ---- what it has taken out is clear

  abbrev IsClear : ℕ → Type 0
  IsClear gfn = is_marked (words_after (task_at p line.command h) v.words area.Log) (page_of slot gfn) ≡ false

  -- A step that isn't a take leaves the log.
  still_clear : is_on_log (log_part q h command) ≡ false → has_taken q ≡ true → (gfn : ℕ) → IsRead slot command h.harvest gfn → IsClear gfn
  still_clear off has gfn R =
      ap (λ (log : ℕ → ℕ). is_marked log (page_of slot gfn))
      (ap (λ (task : Task). words_after task v.words area.Log) task_is ∙ log_same (log_part q h command) (own_index h) h.topics note v.words off)
      ∙ had_taken gfn has R

-- By the place in the order.
module _ (z : Sizes) (v : View) (f : Flat) (a : ℕ) (line : Line) (p : Place) (command : Command) (X : StepsAlone z v f a line p) where
  abbrev slot_ : SlotOf
  slot_ = slot_asked (v.hand a) command

  abbrev At : LogPlace → Type 0
  At q = reading_at p line.command (v.hand a) ≡ Some (record { place = q; command = command })

  abbrev Reads_ : LogPlace → ℕ → Type 0
  Reads_ q gfn = IsRead slot_ command (log_reads q command (v.hand a) (answer_in (task_at p line.command (v.hand a)) v.words)) gfn

  nothing_read : (q : LogPlace) (at : At q) → Reads command (v.hand a) → (gfn : ℕ) → IsRead slot_ command [] gfn → ⊥
  nothing_read q at K gfn R =
      let L = logged z v f a line p q command X at K in none_read slot_ command gfn L.even L.whole L.inside R

  -- What it has read then is dirty.
  pub read_dirty : (q : LogPlace) → At q → is_refused q ≡ false → (gfn : ℕ) → Reads_ q gfn → f.facts.pending gfn ≡ true
  read_dirty (AtOnce refusal) at runs gfn R = absurd (cc runs)
  read_dirty Exclude at runs gfn R = absurd (nothing_read Exclude at (known z v f a line p Exclude command X at).1.0 gfn R)
  read_dirty (Take begun) at runs gfn R =
      let K = known z v f a line p (Take begun) command X at in
      more_dirty z v f a line p (Take begun) command X at begun K.2.0 K.3 gfn (found_is z v f a line p (Take begun) command X at) R (λ b. b)
  read_dirty (Peek begun) at runs gfn R =
      let K = known z v f a line p (Peek begun) command X at in
      more_dirty z v f a line p (Peek begun) command X at begun K.1 K.3 gfn (found_is z v f a line p (Peek begun) command X at) R (λ b. b)
  read_dirty Root at runs gfn R = had_read z v f a line p Root command X at gfn refl R
  read_dirty (Walk page) at runs gfn R = had_read z v f a line p (Walk page) command X at gfn refl R
  read_dirty (Protect page) at runs gfn R = had_read z v f a line p (Protect page) command X at gfn refl R
  read_dirty Release at runs gfn R = had_read z v f a line p Release command X at gfn refl R
  read_dirty Ask at runs gfn R = had_read z v f a line p Ask command X at gfn refl R
  read_dirty Await at runs gfn R = had_read z v f a line p Await command X at gfn refl R

  abbrev Clear : ℕ → Type 0
  Clear gfn = is_marked (words_after (task_at p line.command (v.hand a)) v.words area.Log) (page_of slot_ gfn) ≡ false

  take_clear : (begun : Bool) (at : At (Take begun)) (gfn : ℕ) → Reads_ (Take begun) gfn → Clear gfn
  take_clear begun at gfn R =
      subst (λ (task : Task). is_marked (words_after task v.words area.Log) page ≡ false) (sym (task_is z v f a line p (Take begun) command X at))
      (by (more z v f a line p (Take begun) command X at begun K.2.0 K.3 gfn (found_is z v f a line p (Take begun) command X at) R))
    where
      K : LogKnows (Take begun) command (v.hand a)
      K = known z v f a line p (Take begun) command X at

      page : ℕ
      page = page_of slot_ gfn

      word : ℕ
      word = next_word begun command (v.hand a)

      mask : ℕ
      mask = next_mask begun command (v.hand a)

      task : Task
      task = part_task (part.Take word mask) (own_index (v.hand a)) (v.hand a).topics (note_at p line.command (v.hand a))

      none : (b : Bool) → is_marked (v.words area.Log) page ≡ false → is_marked (words_after task v.words area.Log) page ≡ b → b ≡ false
      none false clear is = refl
      none true clear is =
          let was = was_there (own_index (v.hand a)) (v.hand a).topics (note_at p line.command (v.hand a)) v.words word mask page is in absurd (cc (was, clear))

      by : ((begun ≡ true) × IsRead slot_ command (v.hand a).harvest gfn)
          ⊎ IsNew v (v.hand a) command gfn (logged z v f a line p (Take begun) command X at K.2.0) begun
          → is_marked (words_after task v.words area.Log) page ≡ false
      by (inl (b, was)) = none _ (had_taken z v f a line p (Take begun) command X at gfn b was) refl
      by (inr N) =
          take_clears (own_index (v.hand a)) (v.hand a).topics (note_at p line.command (v.hand a)) v.words word mask page (mask_small command slot_ _)
          N.here N.asked_for

  -- So it is, where the line goes on, of all that it has read.
  pub taken_clear : (q to : LogPlace) → At q
      → log_next q command (v.hand a) (answer_in (task_at p line.command (v.hand a)) v.words) ≡ next.Goes to → has_taken to ≡ true
      → (gfn : ℕ) → Reads_ q gfn → Clear gfn
  taken_clear (AtOnce refusal) to at is has gfn R = absurd (cc is)
  taken_clear Exclude to at is has gfn R = absurd (nothing_read Exclude at (known z v f a line p Exclude command X at).1.0 gfn R)
  taken_clear (Take begun) to at is has gfn R = take_clear begun at gfn R
  taken_clear (Peek begun) to at is has gfn R = by (reads_last begun slot_ command (v.hand a).topics) is
    where
      by : (last : Bool) → (if last then next.Reads else next.Goes (Peek true)) ≡ next.Goes to → Clear gfn
      by true e = absurd (cc e)
      by false e = let same : Peek true ≡ to = cc e in let none : has_taken to ≡ false = ap has_taken (sym same) in absurd (cc (none, has))
  taken_clear Root to at is has gfn R = still_clear z v f a line p Root command X at refl refl gfn R
  taken_clear (Walk page) to at is has gfn R =
      still_clear z v f a line p (Walk page) command X at
      (either_place (λ step. is_on_log step ≡ false) (has_entry (v.hand a).topics.walk) (part.WalkAnew _) (part.Walk _) refl refl) refl gfn R
  taken_clear (Protect page) to at is has gfn R = still_clear z v f a line p (Protect page) command X at refl refl gfn R
  taken_clear Release to at is has gfn R = still_clear z v f a line p Release command X at refl refl gfn R
  taken_clear Ask to at is has gfn R = still_clear z v f a line p Ask command X at refl refl gfn R
  taken_clear Await to at is has gfn R = still_clear z v f a line p Await command X at refl refl gfn R
