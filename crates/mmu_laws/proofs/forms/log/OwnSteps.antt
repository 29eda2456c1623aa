-- After each step of a reading of a dirty log it has read what its place says, whatever the form of its line.
use Rattle.std.proofs.Common.{◌≡◌, ◌+◌, ◌++◌, List, [], ◌∷◌, ℕ, arith, refl, sym, subst, ap, ◌∙◌}
use Rattle.std.proofs.lemmas.Bool.Decides.{nat_tests}
use Rattle.std.specs.Prelude.{◌==◌, ◌≤◌, ◌||◌, Bool, true, false, not, nat_lt, if◌then◌else◌, None, Option, Some}
use Rattle.core_views.specs.declared.event.EventKind.{EventKind}
use Rattle.core_views.specs.declared.event.EventKind.TheVariants.{Taken}
use Rattle.core_views.specs.declared.place.LogPlace.{LogPlace}
use Rattle.core_views.specs.declared.place.LogPlace.TheVariants.{AtOnce, Exclude, Take, Root, Walk, Protect, Release, Ask, Await, Peek}
use Rattle.core_views.specs.declared.place.Place.{Place}
use Rattle.core_views.specs.declared.sizes.Sizes.{Sizes}
use Rattle.core_views.specs.declared.topics.Topics.{Topics}
use Rattle.core_views.specs.declared.trace.Command.{Command}
use Rattle.core_views.specs.declared.trace.Line.{Line}
use Rattle.core_views.specs.declared.trace.Slot.{Slot as SlotOf}
use Rattle.core_views.specs.Events.{after_all}
use Rattle.core_views.specs.Flat.{Flat}
use Rattle.core_views.specs.Held.{Held}
use Rattle.core_views.specs.LogCommands.{log_read, words_asked}
use Rattle.core_views.specs.Past.{Past}
use Rattle.spte_words.specs.declared.area.Area.TheVariants as area
use Rattle.spte_words.specs.Entries.{kind_of}
use Rattle.part_steps.specs.ControlBits.{has_to_flush}
use Rattle.part_steps.specs.PartTasks.{own_index}
use Rattle.part_steps.specs.SweepTopics.{walk_on}
use Rattle.mmu_core.specs.declared.log_next.LogNext.TheVariants as comes
use Rattle.mmu_core.specs.lines.Forms.{note_at, outcome_at}
use Rattle.mmu_core.specs.forms.log.LogKnows.{LogKnows}
use Rattle.mmu_core.specs.forms.log.LogSteps.{after_entry, after_page, awaits_last, first_word, frames_read, next_page, read_more, reads_last, slot_asked}
use Rattle.mmu_core.specs.forms.log.LogSteps.{word_end}
use Rattle.mmu_core.specs.forms.log.LogSteps.{log_next, log_reads, word_read}
use Rattle.mmu_core.specs.forms.log.LogTells.{harvested, log_tells, shown, taken}
use Rattle.mmu_core.specs.machine.Outcomes.{place_after}
use Rattle.mmu_core.specs.machine.View.{View, words_after}
use Rattle.mmu_core.proofs.lines.EitherPlace.{either_place, one_place}
use Rattle.log_invariant.proofs.StepPlaces.{takes_there}
use Rattle.log_invariant.proofs.forms.log.LogExcuse.{at_hand}
use Rattle.mmu_core.proofs.forms.log.LogPlaces.{is_over}
use Rattle.mmu_core.proofs.forms.log.ReadingPlaces.{GoesOnReading, after_reading, reading_ends, reading_goes}
use Rattle.mmu_core.proofs.machine.Stepping.{IsStep}
use Rattle.mmu_core.specs.forms.log.Readings.{Reading, has_begun, reading_at}
use Rattle.part_steps.specs.declared.task.Task.{Task}
use Rattle.mmu_laws.proofs.flat.FlatKept.{told_events}
use Rattle.mmu_laws.proofs.flat.LogsKept.{ReadyLogs}
use Rattle.mmu_laws.proofs.forms.log.OwnReadings.{reads_more, take_reads}
use Rattle.mmu_laws.proofs.forms.log.PagePlaces.{each_entry, each_page}
use Rattle.mmu_laws.specs.forms.log.ReadSoFar.{HasReadTo, ReadSoFar}
use Rattle.mmu_laws.proofs.forms.log.Readings.{ReadsWord}
use Rattle.mmu_laws.proofs.forms.log.ReadSlots.{ReadsOf}
use Rattle.mmu_laws.proofs.forms.log.ReadingSteps.{after, begins, begun, causes, first_peek, found_is, had, knows, last_word, named, next_peek, task_is}
use Rattle.mmu_laws.proofs.forms.log.ReadingSteps.{then_, topics, x}
use Rattle.mmu_laws.proofs.flat.Told.{told}
use Rattle.mmu_laws.proofs.forms.log.ReadingLeaves.{HasReadAll, is_later, later_read, same_log, silent, tells_on}

module _ (z : Sizes) (v : View) (f : Flat) (a : ℕ) (line : Line) (own_command : Command) (p : Place) (command : Command) (ready : ReadyLogs z v f)
    (S : IsStep z v a line own_command p) where
  abbrev h : Held
  h = v.hand a

  abbrev slot : SlotOf
  slot = slot_asked h command

  abbrev log : ℕ → ℕ
  log = v.words area.Log

  abbrev found : ℕ
  found = x z v f a line own_command p command ready S

  abbrev hand : Held
  hand = then_ z v f a line own_command p command ready S

  abbrev words : ℕ → ℕ
  words = after z v f a line own_command p command ready S

  abbrev started : Flat
  started = begun z v f a line own_command p command ready S

  abbrev end : Flat
  end = after_all (told_events v a line own_command p) f

  abbrev At : LogPlace → Type 0
  At q = reading_at p own_command h ≡ Some (record { place = q; command = command })

  -- The order comes to this place with the step.
  abbrev GoesOn : LogPlace → LogPlace → Type 0
  GoesOn q to = log_next q command h found ≡ comes.Goes to

  abbrev to_ : LogPlace → Option Reading
  to_ q = Some (record { place = q; command = command })

  goes : (q to : LogPlace) (at : At q) → GoesOn q to → GoesOnReading p own_command h found (record { place = q; command = command }) to
  goes q to at is = reading_goes p own_command h found _ to at is

  -- ---- the hand, the log and the flat state after the step

  -- What is so with these words is so of the hand after the step, where the order has read them.
  at_then : (q to : LogPlace) (at : At q) → GoesOn q to → (read : List ℕ) → log_reads q command h found ≡ read → (P : Held → Type 0)
      → P (record hand { slots = h.slots; harvest = read }) → P hand
  at_then q to at is read same P so =
      let A = after_reading line p own_command h found _ at in at_hand hand h.slots read A.slots (A.words to is ∙ same) P so

  -- ---- what is read then

  -- What is read by the reading that is under way after the step.
  abbrev Reads : Option Reading → Type 0
  Reads o = ReadSoFar o hand words end.past

  abbrev Then : Type 0
  Then = Reads (reading_at (place_after (outcome_at p own_command h found)) own_command hand)

  lands : (q to : LogPlace) (at : At q) → GoesOn q to → Reads (to_ to) → Then
  lands q to at is R = subst Reads (sym ((goes q to at is).stands hand)) R

  -- Where the order is over, nothing is read yet.
  ends : (q : LogPlace) (at : At q) → is_over (log_next q command h found) ≡ true → Then
  ends q at over = by (reading_at (place_after (outcome_at p own_command h found)) own_command hand) refl
    where
      by : (o : Option Reading) → reading_at (place_after (outcome_at p own_command h found)) own_command hand ≡ o → Reads o
      by None is = tt
      by (Some more) is = λ begun_. let none = reading_ends p own_command h found _ at over hand more is in absurd (cc (none, begun_))

  -- All words are read.
  abbrev ReadAll : Held → (ℕ → ℕ) → Past → Type 0
  ReadAll k l past = HasReadAll command k l past

  on_later : (q to : LogPlace) (at : At q) → GoesOn q to → has_begun q ≡ true → takes_there q ≡ false → log_tells q command h found ≡ []
      → log_reads q command h found ≡ h.harvest → is_later to ≡ true → ReadAll h log f.past → Then
  on_later q to at is begun_ other none read later H =
      lands q to at is
      (subst (λ (g : Flat). ReadSoFar (to_ to) hand words g.past) (sym (silent z v f a line own_command p command S q to at is begun_ none))
      (subst (λ (l : ℕ → ℕ). ReadSoFar (to_ to) hand l f.past) (sym (same_log z v f a line own_command p command S q at other))
      (later_read to command hand log f.past later (at_then q to at is h.harvest read (λ k. ReadAll k log f.past) H))))

  -- ---- the steps that read

  take_read : (b : Bool) (at : At (Take b)) → Then
  take_read b at =
      lands (Take b) to at refl
      (subst (λ (g : Flat). ReadSoFar (to_ to) hand words g.past) (sym (silent z v f a line own_command p command S (Take b) to at refl refl refl))
      (one_place (λ q. (GoesOn (Take b) q) → ReadSoFar (to_ q) hand words f.past) (reads_last b slot command h.topics) Root (Take true)
      (λ last is begun_. at_then (Take b) Root at is read refl (λ k. ReadAll k words f.past)
      (To (last_word z v f a line own_command p command ready S b K.3 last) more))
      (λ on is begun_. at_then (Take b) (Take true) at is read refl
      (λ k. HasReadTo words (slot_asked k command) command true k.harvest hand.topics.next_log_word f.past)
      (To (sym (ap (λ (t : Topics). t.next_log_word) (topics z v f a line own_command p command ready S (Take b) at))) more)) refl))
    where
      to : LogPlace
      to = if reads_last b slot command h.topics then Root else Take true

      read : List ℕ
      read = read_more b slot command h found

      K : LogKnows (Take b) command h
      K = knows z v f a line own_command p command ready S (Take b) at

      To : {m n : ℕ} → m ≡ n → HasReadTo words slot command true read m f.past → HasReadTo words slot command true read n f.past
      To is H = subst (λ n. HasReadTo words slot command true read n f.past) is H

      word : ℕ
      word = word_read b slot command h.topics

      more : HasReadTo words slot command true read (word + 1) f.past
      more =
          let W = (named z v f a line own_command p command ready S (Take b) at K.2.0).whole in
          subst (λ y. HasReadTo words slot command true (read_more b slot command h y) (word + 1) f.past)
          (sym (found_is z v f a line own_command p command ready S (Take b) at))
          (reads_more b slot command W h log words true f.past K.3
          (subst (λ (task : Task). ReadsWord slot command W log (words_after task v.words area.Log) true word)
          (sym (task_is z v f a line own_command p command ready S (Take b) at))
          (take_reads slot command W (own_index h) h.topics (note_at p own_command h) v.words word))
          (causes z v f a line own_command p command ready S (Take b) at K.2.0 f ready.logs)
          (had z v f a line own_command p command ready S (Take b) at refl))

  exclude_read : (at : At Exclude) → Then
  exclude_read at = by (found == 0) refl
    where
      K : LogKnows Exclude command h
      K = knows z v f a line own_command p command ready S Exclude at

      N : ReadsOf v h command
      N = named z v f a line own_command p command ready S Exclude at K.1.0

      begins_at : LogPlace
      begins_at = if nat_lt 0 (words_asked command slot) then Take false else Root

      past_then : Past
      past_then = (after_all (told h.state.actor ((Taken N.id ∷ []) ++ [])) started).past

      first : HasReadTo log slot command true [] (first_word slot command) past_then
      first = begins z v f a line own_command p command ready S Exclude at K.1.0 refl true

      tells : (b : Bool) → (found == 0) ≡ b → log_tells Exclude command h found ≡ (if b then taken (log_read command) else [])
      tells b e = ap (λ (b : Bool). if b then taken (log_read command) else []) e

      by : (b : Bool) → (found == 0) ≡ b → Then
      by false e =
          lands Exclude Exclude at (ap (λ (b : Bool). comes.Goes (if b then begins_at else Exclude)) e) (λ begun_. absurd (cc begun_))
      by true e =
          lands Exclude begins_at at is
          (subst (λ (g : Flat). ReadSoFar (to_ begins_at) hand words g.past)
          (sym (tells_on z v f a line own_command p command S Exclude begins_at at is (Taken N.id ∷ []) (tells true e ∙ ap taken N.reads)))
          (subst (λ (l : ℕ → ℕ). ReadSoFar (to_ begins_at) hand l past_then) (sym (same_log z v f a line own_command p command S Exclude at refl))
          (one_place (λ q. GoesOn Exclude q → ReadSoFar (to_ q) hand log past_then) (nat_lt 0 (words_asked command slot)) (Take false) Root
          (λ some is begun_. at_then Exclude (Take false) at is [] refl
          (λ k. HasReadTo log (slot_asked k command) command true [] (first_word (slot_asked k command) command) past_then) first)
          (λ none is begun_. at_then Exclude Root at is [] refl (λ k. ReadAll k log past_then)
          (let few : words_asked command slot ≤ 0 = grind (arith, nat_tests) in
          let last : first_word slot command ≡ word_end slot command = omega (arith, few) in
          subst (λ n. HasReadTo log slot command true [] n past_then) last first)) is)))
        where
          is : GoesOn Exclude begins_at
          is = ap (λ (b : Bool). comes.Goes (if b then begins_at else Exclude)) e

  await_read : (at : At Await) → Then
  await_read at = by (has_to_flush found || not (awaits_last h)) refl
    where
      by : (waits : Bool) → (has_to_flush found || not (awaits_last h)) ≡ waits → Then
      by true e =
          on_later Await Await at (ap (λ (b : Bool). if b then comes.Goes Await else comes.Reads) e) refl refl
          (ap (λ (b : Bool). if b then [] else harvested (log_read command) (frames_read slot command h.harvest)) e) refl refl
          (had z v f a line own_command p command ready S Await at refl)
      by false e = ends Await at (ap (λ (b : Bool). is_over (if b then comes.Goes Await else comes.Reads)) e)

  -- The next word to load.
  abbrev Peeked : Held → Past → Type 0
  Peeked k past = HasReadTo log (slot_asked k command) command false k.harvest hand.topics.next_log_word past

  peek_on : (b : Bool) (at : At (Peek b)) → GoesOn (Peek b) (Peek true)
      → HasReadTo log slot command false (read_more b slot command h found) (word_read b slot command h.topics + 1) end.past → Then
  peek_on b at is H =
      lands (Peek b) (Peek true) at is (λ begun_.
      subst (λ (l : ℕ → ℕ). HasReadTo l (slot_asked hand command) command false hand.harvest hand.topics.next_log_word end.past)
      (sym (same_log z v f a line own_command p command S (Peek b) at refl))
      (at_then (Peek b) (Peek true) at is (read_more b slot command h found) refl (λ k. Peeked k end.past)
      (subst (λ n. HasReadTo log slot command false (read_more b slot command h found) n end.past)
      (sym (ap (λ (t : Topics). t.next_log_word) (topics z v f a line own_command p command ready S (Peek b) at))) H)))

  peek_read : (b : Bool) (at : At (Peek b)) → Then
  peek_read b at = by b at (reads_last b slot command h.topics) refl
    where
      shows : Bool → Bool → List EventKind
      shows b last =
          (if b then [] else taken (log_read command))
          ++ (if last then shown (log_read command) (frames_read slot command (read_more b slot command h found)) else [])

      by : (b : Bool) (at : At (Peek b)) (last : Bool) → reads_last b slot command h.topics ≡ last → Then
      by b at true e = ends (Peek b) at (ap (λ (last : Bool). is_over (if last then comes.Reads else comes.Goes (Peek true))) e)
      by true at false e =
          let is : GoesOn (Peek true) (Peek true) = ap (λ (last : Bool). if last then comes.Reads else comes.Goes (Peek true)) e in
          peek_on true at is
          (subst (λ (g : Flat). HasReadTo log slot command false (read_more true slot command h found) (h.topics.next_log_word + 1) g.past)
          (sym (silent z v f a line own_command p command S (Peek true) (Peek true) at is refl (ap (shows true) e))) (next_peek z v f a line own_command p
          command ready S at))
      by false at false e =
          let is : GoesOn (Peek false) (Peek true) = ap (λ (last : Bool). if last then comes.Reads else comes.Goes (Peek true)) e in
          let N = named z v f a line own_command p command ready S (Peek false) at (knows z v f a line own_command p command ready S (Peek false) at).1 in
          peek_on false at is
          (subst (λ (g : Flat). HasReadTo log slot command false (read_more false slot command h found) (first_word slot command + 1) g.past)
          (sym (tells_on z v f a line own_command p command S (Peek false) (Peek true) at is (Taken N.id ∷ []) (ap (shows false) e ∙ ap (λ (o : Option ℕ).
          taken o ++ []) N.reads)))
          (first_peek z v f a line own_command p command ready S at))

  -- ---- each step

  pub own_read : (q : LogPlace) → At q → Then
  own_read (AtOnce refusal) at = ends (AtOnce refusal) at refl
  own_read Exclude at = exclude_read at
  own_read (Take b) at = take_read b at
  own_read Root at =
      on_later Root (after_page (next_page slot command h.harvest 0)) at refl refl refl refl refl
      (each_page (λ q. is_later q ≡ true) refl (λ page. refl) (next_page slot command h.harvest 0))
      (had z v f a line own_command p command ready S Root at refl)
  own_read (Walk page) at =
      let next : Option ℕ = next_page slot command h.harvest (page + 1) in
      on_later (Walk page) (after_entry (kind_of (walk_on h.topics).level found) page (after_page next) found) at refl refl refl refl refl
      (each_entry (λ q. is_later q ≡ true) refl (λ other. refl) (λ other. refl) (kind_of (walk_on h.topics).level found) page next found)
      (had z v f a line own_command p command ready S (Walk page) at refl)
  own_read (Protect page) at =
      on_later (Protect page) (after_page (next_page slot command h.harvest (page + 1))) at refl refl refl refl refl
      (each_page (λ q. is_later q ≡ true) refl (λ other. refl) (next_page slot command h.harvest (page + 1)))
      (had z v f a line own_command p command ready S (Protect page) at refl)
  own_read Release at = on_later Release Ask at refl refl refl refl refl refl (had z v f a line own_command p command ready S Release at refl)
  own_read Ask at =
      let more : Bool = nat_lt (h.topics.flush.asked + 1) h.state.sizes.vcpus in
      on_later Ask (if more then Ask else Await) at refl refl refl refl refl (either_place (λ q. is_later q ≡ true) more Ask Await refl refl)
      (had z v f a line own_command p command ready S Ask at refl)
  own_read Await at = await_read at
  own_read (Peek b) at = peek_read b at
