-- After each step of a line that is alone the bits of logs say what is dirty, and a reading under way has read what is dirty.
use Rattle.std.proofs.Common.{◌≡◌, ◌≢◌, ◌⊎◌, ◌<◌, ◌++◌, ℕ, List, refl, sym, subst, ap, ◌∙◌}
use Rattle.std.specs.Prelude.{Bool, None, Option, Some, false, is_some, option_map, true}
use Rattle.core_views.specs.declared.actor.Actor.{Actor}
use Rattle.core_views.specs.declared.place.LogPlace.{LogPlace}
use Rattle.core_views.specs.declared.place.LogPlace.TheVariants.{AtOnce}
use Rattle.core_views.specs.declared.place.Place.{Place}
use Rattle.core_views.specs.declared.place.Place.TheVariants as place
use Rattle.core_views.specs.declared.place.SlotChangePlace.TheVariants as change
use Rattle.core_views.specs.declared.sizes.Sizes.{Sizes}
use Rattle.core_views.specs.declared.trace.Command.{Command}
use Rattle.core_views.specs.declared.trace.Line.{Line}
use Rattle.core_views.specs.declared.trace.Slot.{Slot as SlotOf}
use Rattle.core_views.specs.Actors.{is_same}
use Rattle.core_views.specs.Alone.{ReadDirty}
use Rattle.core_views.specs.Events.{after_all}
use Rattle.core_views.specs.Flat.{Flat, Idle, LineUnderWay}
use Rattle.core_views.specs.Held.{Held}
use Rattle.core_views.specs.LogCommands.{log_read}
use Rattle.core_views.specs.Past.{FrameSet}
use Rattle.core_views.specs.Sizes.{actors_of}
use Rattle.core_views.specs.Slots.{contains}
use Rattle.core_views.proofs.SameActor.{same_is}
use Rattle.spte_words.specs.declared.area.Area.TheVariants as area
use Rattle.part_steps.specs.SlotWords.{page_of}
use Rattle.mmu_core.specs.declared.log_next.LogNext.{LogNext}
use Rattle.mmu_core.specs.declared.log_next.LogNext.TheVariants as next
use Rattle.mmu_core.specs.declared.outcome.Outcome.{Outcome}
use Rattle.mmu_core.specs.invariant.Invariant.{Invariant, KnowsPart}
use Rattle.mmu_core.specs.lines.Forms.{outcome_at, tells_at}
use Rattle.mmu_core.specs.forms.log.LogSteps.{log_next, log_reads, slot_asked}
use Rattle.mmu_core.specs.lines.Rests.{IsUnderWay}
use Rattle.mmu_core.specs.machine.Outcomes.{answering, place_after}
use Rattle.mmu_core.specs.machine.Steps.{beginning, task_at}
use Rattle.mmu_core.specs.machine.View.{View, answer_in, hand_after, stepped, words_after}
use Rattle.mmu_core.proofs.lines.KnowsKept.{step_knows}
use Rattle.mmu_core.proofs.forms.log.LogTold.{log_knows_reads}
use Rattle.mmu_core.proofs.machine.Columns.{at_upd, upd_same}
use Rattle.mmu_core.proofs.machine.HandAfter.{loads_same}
use Rattle.log_invariant.specs.Covered.{is_marked}
use Rattle.log_invariant.specs.forms.log.LogReads.{IsRead}
use Rattle.mmu_core.specs.forms.log.Readings.{Reading, has_begun, own_reading, reading_at}
use Rattle.log_invariant.proofs.HeldLogs.{IsLoggedNow}
use Rattle.mmu_laws.specs.forms.log.ReadingsAlone.{ReadingHasBegun, HasReadPage, LeavesClear, LogsAreExact, WritesLater}
use Rattle.mmu_laws.proofs.alone.BitsKept.{bits_kept}
use Rattle.mmu_laws.proofs.forms.slot_change.BitsPublished.{bits_published}
use Rattle.mmu_laws.proofs.forms.log.NoReadings.{tells_none}
use Rattle.mmu_laws.proofs.forms.log.LoneReadingEvents.{readings_exact}
use Rattle.mmu_laws.proofs.alone.ToldFlat.{answer_none, begin_none, none_append, none_read_dirty}
use Rattle.mmu_laws.proofs.forms.log.ReadKept.{due_before, is_refused, read_begun, read_dirty, taken_begun, taken_clear}
use Rattle.mmu_laws.proofs.forms.log.LoneReadingSteps.{GoesStill, StepsAlone, goes_still}
use Rattle.mmu_laws.proofs.flat.FlatKept.{told_events, told_kinds}
use Rattle.mmu_laws.proofs.flat.Told.{told_others}
use Rattle.mmu_core.proofs.lines.Forms.{knows_for}
use Rattle.mmu_laws.proofs.forms.log.ReadsNot.{reads_not}
use Rattle.mmu_core.proofs.forms.log.LogPlaces.{is_over}
use Rattle.mmu_core.proofs.forms.log.ReadingPlaces.{reading_ends, reading_goes, reading_is}
use Rattle.core_views.specs.Harvests.{slot_read}
use Rattle.core_views.specs.SlotSets.{MemorySlots}
use Rattle.mmu_core.specs.forms.slot_change.SlotTargets.{slot_or_none}

-- ---- a step of a line that reads no log

no_log_line : (p : Place) (command : Command) (h : Held) → reading_at p command h ≡ None → IsUnderWay p → KnowsPart p command h
    → is_some (log_read command) ≡ true → ⊥
no_log_line p command h other begun K reads = let none = reads_not p command h (knows_for p command h begun K) other in cc (none, reads)

module _ (z : Sizes) (v : View) (f : Flat) (a : ℕ) (line : Line) (p : Place) (X : StepsAlone z v f a line p)
    (kept : Invariant z (stepped a line line.command p v)) where
  abbrev h : Held
  h = v.hand a

  abbrev x : ℕ
  x = answer_in (task_at p line.command h) v.words

  abbrev g : Held
  g = hand_after line line.command p h x

  abbrev after : View
  after = stepped a line line.command p v

  -- It comes to no place of one that does.
  no_log_after : reading_at p line.command h ≡ None → (q : LogPlace) → place_after (outcome_at p line.command h x) ≡ place.Log q → ⊥
  no_log_after other q at =
      let K : KnowsPart g.state.place line.command g =
      subst (λ (y : Held). KnowsPart y.state.place y.state.line.command y) (upd_same v.hand a g) (kept.knows a X.step.there) in
      no_log_line p line.command h other X.step.begun (step_knows z v a line line.command p X.step X.ready.holds)
      (log_knows_reads q line.command g (subst (λ r. KnowsPart r line.command g) at K))

  -- So no reading is under way after it.
  none_after : reading_at p line.command h ≡ None → own_reading g ≡ None
  none_after other = by (place_after (outcome_at p line.command h x)) refl
    where
      by : (q : Place) → place_after (outcome_at p line.command h x) ≡ q → reading_at q line.command g ≡ None
      by (place.Log q) at = absurd (no_log_after other q at)
      by _ at = refl

-- ---- a step of one that does

goes_unrefused : (p q : LogPlace) (command : Command) (h : Held) (x : ℕ) → log_next p command h x ≡ next.Goes q → is_refused p ≡ false
goes_unrefused (AtOnce refusal) q command h x is = absurd (cc is)
goes_unrefused _ q command h x is = refl

module _ (z : Sizes) (v : View) (f : Flat) (a gfn : ℕ) (line : Line) (p : Place) (r : Reading) (X : StepsAlone z v f a line p)
    (at : reading_at p line.command (v.hand a) ≡ Some r) where
  abbrev own : Held
  own = v.hand a

  abbrev found : ℕ
  found = answer_in (task_at p line.command own) v.words

  -- the hand after the step
  abbrev k : Held
  k = hand_after line line.command p own found

  abbrev slot : SlotOf
  slot = slot_asked own r.command

  abbrev behind : Flat
  behind = after_all (told_events v a line line.command p) f

  abbrev log : ℕ → ℕ
  log = words_after (task_at p line.command own) v.words area.Log

  reads : is_some (log_read r.command) ≡ true
  reads = log_knows_reads r.place r.command own ((reading_is p line.command own r at).knows (step_knows z v a line line.command p X.step X.ready.holds))

  still : (q : LogPlace) → log_next r.place r.command own found ≡ next.Goes q → GoesStill z v f a line p r X at reads q
  still q is = goes_still z v f a line p r X at reads q is (due_before z v f a line p r.place r.command X at)

  same : slot_asked k r.command ≡ slot
  same = ap (λ (slots : MemorySlots). slot_or_none (option_map (λ m. m.slot) (slot_read slots r.command))) (reading_is p line.command own r at).slots

  abbrev IsOfSlot : List ℕ → Type 0
  IsOfSlot read = IsRead slot r.command read gfn

  of_slot : (q : LogPlace) → log_next r.place r.command own found ≡ next.Goes q → IsRead (slot_asked k r.command) r.command k.harvest gfn
      → IsOfSlot (log_reads r.place r.command own found)
  of_slot q is R =
      subst IsOfSlot (reading_goes p line.command own found r q at is).reads (subst (λ (s : SlotOf). IsRead s r.command k.harvest gfn) same R)

  -- What is so where no reading is under way that has begun, and where the order goes on, is so of the reading after the step.
  then_ : (P : Option Reading → Type 0) → P None → ((more : Reading) → has_begun more.place ≡ false → P (Some more))
      → ((q : LogPlace) → log_next r.place r.command own found ≡ next.Goes q → P (Some (record { place = q; command = r.command }))) → P (own_reading k)
  then_ P none first on = by (log_next r.place r.command own found) refl
    where
      ended : (o : Option Reading) → own_reading k ≡ o → is_over (log_next r.place r.command own found) ≡ true → P o
      ended None is over = none
      ended (Some more) is over = first more (reading_ends p line.command own found r at over k more is)

      by : (n : LogNext) → log_next r.place r.command own found ≡ n → P (own_reading k)
      by (next.Goes q) is = subst P (sym ((reading_goes p line.command own found r q at is).stands k)) (on q is)
      by (next.Refused refusal) is = ended (own_reading k) refl (ap is_over is)
      by next.Reads is = ended (own_reading k) refl (ap is_over is)

  -- Where it goes on, what it has read is dirty, what it has taken out is clear, and what is dirty is due.
  pub own_read : HasReadPage (own_reading k) k gfn → behind.facts.pending gfn ≡ true
  own_read =
      then_ (λ o. HasReadPage o k gfn → behind.facts.pending gfn ≡ true) (λ R. absurd R)
      (λ more none R. absurd (let begun = read_begun more.place R.0 in cc (none, begun)))
      (λ q is R. ap (λ (s : FrameSet). s gfn) (still q is).pending
      ∙ read_dirty z v f a line p r.command X r.place at (goes_unrefused r.place q r.command own found is) gfn (of_slot q is R.1))

  pub own_taken : LeavesClear (own_reading k) k log gfn
  own_taken =
      then_ (λ o. LeavesClear o k log gfn) tt (λ more none T. absurd (let begun = taken_begun more.place T.0 in cc (none, begun)))
      (λ q is T. ap (λ (s : SlotOf). is_marked log (page_of s gfn)) same
      ∙ taken_clear z v f a line p r.command X r.place q at is T.0 gfn (of_slot q is T.1))

  pub own_due : ReadingHasBegun (own_reading k) → behind.facts.pending gfn ≡ true → behind.past.due gfn ≡ true
  own_due =
      then_ (λ o. ReadingHasBegun o → behind.facts.pending gfn ≡ true → behind.past.due gfn ≡ true) (λ begun. absurd begun)
      (λ more none begun. absurd (cc (none, begun))) (λ q is begun dirty. (still q is).due begun gfn dirty)

-- ---- each step

module _ (z : Sizes) (v : View) (f : Flat) (a : ℕ) (line : Line) where
  abbrev Step : Place → Type 0
  Step p = StepsAlone z v f a line p

  abbrev Kept : Place → Type 0
  Kept p = Invariant z (stepped a line line.command p v)

  abbrev hand_at : Place → Held
  hand_at p = hand_after line line.command p (v.hand a) (answer_in (task_at p line.command (v.hand a)) v.words)

  abbrev left : Place → Flat
  left p = after_all (told_events v a line line.command p) f

  hand_read : (p : Place) → Step p → Kept p → (gfn : ℕ) → HasReadPage (own_reading (hand_at p)) (hand_at p) gfn → (left p).facts.pending gfn ≡ true
  hand_read p X kept gfn R = by (reading_at p line.command (v.hand a)) refl
    where
      by : (o : Option Reading) → reading_at p line.command (v.hand a) ≡ o → (left p).facts.pending gfn ≡ true
      by (Some r) at = own_read z v f a gfn line p r X at R
      by None at = absurd (subst (λ (o : Option Reading). HasReadPage o (hand_at p) gfn) (none_after z v f a line p X kept at) R)

  hand_taken : (p : Place) → Step p → Kept p → (gfn : ℕ)
      → LeavesClear (own_reading (hand_at p)) (hand_at p) ((stepped a line line.command p v).words area.Log) gfn
  hand_taken p X kept gfn = by (reading_at p line.command (v.hand a)) refl
    where
      by : (o : Option Reading) → reading_at p line.command (v.hand a) ≡ o
          → LeavesClear (own_reading (hand_at p)) (hand_at p) ((stepped a line line.command p v).words area.Log) gfn
      by (Some r) at = own_taken z v f a gfn line p r X at
      by None at =
          subst (λ (o : Option Reading). LeavesClear o (hand_at p) ((stepped a line line.command p v).words area.Log) gfn)
          (sym (none_after z v f a line p X kept at)) tt

  hand_due : (p : Place) → Step p → Kept p → (gfn : ℕ) → ReadingHasBegun (own_reading (hand_at p)) → (left p).facts.pending gfn ≡ true
      → (left p).past.due gfn ≡ true
  hand_due p X kept gfn begun dirty = by (reading_at p line.command (v.hand a)) refl
    where
      by : (o : Option Reading) → reading_at p line.command (v.hand a) ≡ o → (left p).past.due gfn ≡ true
      by (Some r) at = own_due z v f a gfn line p r X at begun dirty
      by None at = absurd (subst ReadingHasBegun (none_after z v f a line p X kept at) begun)

  all_bits : (p : Place) → Step p → Kept p → (id gfn : ℕ) (slot : SlotOf) → IsLoggedNow (stepped a line line.command p v) id slot → contains gfn slot ≡ true
      → is_marked ((stepped a line line.command p v).words area.Log) (page_of slot gfn) ≡ true
      → ((left p).facts.pending gfn ≡ true) ⊎ ((i : ℕ) × (i < actors_of z) × WritesLater ((stepped a line line.command p v).hand i) gfn)
  all_bits (place.SlotChange change.Publish) X kept id gfn slot logged has set = bits_published z v f a line X kept id gfn slot logged has set
  all_bits p X kept id gfn slot logged has set = bits_kept z v f a line p X refl id gfn slot logged has set

  module _ (p : Place) (X : Step p) (kept : Kept p) where
    abbrev behind_view : View
    behind_view = stepped a line line.command p v

    same_actor : (i : ℕ) → (behind_view.hand i).state.actor ≡ (v.hand i).state.actor
    same_actor =
        at_upd (λ i (y : Held). y.state.actor ≡ (v.hand i).state.actor) v.hand a (hand_at p)
        (loads_same p line.command (v.hand a) (answer_in (task_at p line.command (v.hand a)) v.words)).actor (λ i apart. refl)

    -- The hand of another actor has no reading under way.
    none_there : (j : ℕ) → j < actors_of z → j ≢ a → own_reading (v.hand j) ≡ None
    none_there j there apart = ap (λ q. reading_at q (v.hand j).state.line.command (v.hand j)) (X.idle j there apart)

    all_read : (i gfn : ℕ) → i < actors_of z → HasReadPage (own_reading (behind_view.hand i)) (behind_view.hand i) gfn → (left p).facts.pending gfn ≡ true
    all_read i gfn lt =
        at_upd (λ j (y : Held). j < actors_of z → HasReadPage (own_reading y) y gfn → (left p).facts.pending gfn ≡ true) v.hand a (hand_at p)
        (λ there R. hand_read p X kept gfn R)
        (λ j apart there R. absurd (subst (λ (o : Option Reading). HasReadPage o (v.hand j) gfn) (none_there j there apart) R)) i lt

    all_taken : (i gfn : ℕ) → i < actors_of z → LeavesClear (own_reading (behind_view.hand i)) (behind_view.hand i) (behind_view.words area.Log) gfn
    all_taken i gfn lt =
        at_upd (λ j (y : Held). j < actors_of z → LeavesClear (own_reading y) y (behind_view.words area.Log) gfn) v.hand a (hand_at p)
        (λ there. hand_taken p X kept gfn)
        (λ j apart there. subst (λ (o : Option Reading). LeavesClear o (v.hand j) (behind_view.words area.Log) gfn) (sym (none_there j there apart)) tt) i lt

    all_due : (i gfn : ℕ) → i < actors_of z → ReadingHasBegun (own_reading (behind_view.hand i)) → (left p).facts.pending gfn ≡ true
        → (left p).past.due gfn ≡ true
    all_due i gfn lt =
        at_upd (λ j (y : Held). j < actors_of z → ReadingHasBegun (own_reading y) → (left p).facts.pending gfn ≡ true → (left p).past.due gfn ≡ true) v.hand a
        (hand_at p) (λ there begun dirty. hand_due p X kept gfn begun dirty)
        (λ j apart there begun dirty. absurd (subst ReadingHasBegun (none_there j there apart) begun)) i lt

    all_under : (x : Actor) → ((left p).under x).stage ≢ Idle → (i : ℕ) × (i < actors_of z) × (x ≡ (behind_view.hand i).state.actor)
    all_under x under = by (is_same (v.hand a).state.actor x) refl
      where
        by : (same : Bool) → is_same (v.hand a).state.actor x ≡ same → (i : ℕ) × (i < actors_of z) × (x ≡ (behind_view.hand i).state.actor)
        by true same = (a, X.step.there, sym (same_is (v.hand a).state.actor x same) ∙ sym (same_actor a))
        by false apart =
            let W = X.exact.under x (λ e. under (ap (λ (u : LineUnderWay). u.stage) (told_others (v.hand a).state.actor x
            (beginning (v.hand a).state.place line ++ told_kinds v a line line.command p) f apart) ∙ e)) in
            (W.0, W.1, W.2 ∙ sym (same_actor W.0))

    -- The logs are exact after the step.
    pub exact_kept : LogsAreExact z behind_view (left p)
    exact_kept = record { bits = all_bits p X kept; read = all_read; taken = all_taken; due = all_due; under = all_under }

  -- And what it tells reads just what is dirty.
  pub step_reads : (p : Place) → Step p → ReadDirty f (told_events v a line line.command p)
  step_reads (place.Log p) X = readings_exact z v f a line p X
  step_reads p X =
      let x : ℕ = answer_in (task_at p line.command (v.hand a)) v.words in
      let o : Outcome = outcome_at p line.command (v.hand a) x in
      none_read_dirty (v.hand a).state.actor (beginning (v.hand a).state.place line ++ (tells_at p line.command (v.hand a) x ++ answering o line)) f
      (none_append (beginning (v.hand a).state.place line) (tells_at p line.command (v.hand a) x ++ answering o line) (begin_none (v.hand a).state.place line)
      (none_append (tells_at p line.command (v.hand a) x) (answering o line) (tells_none p line.command (v.hand a) x refl) (answer_none o line)))
