-- The dirty log that a line gives a slot stands in the manager's record from the publication on.
use Rattle.std.proofs.Common.{◌≡◌, ◌<◌, ◌+◌, ℕ, refl, sym, subst, ap, ◌∙◌}
use Rattle.std.specs.Option.{option_map}
use Rattle.std.specs.Prelude.{true, false, ◌==◌, nat_lt, if◌then◌else◌, is_some, Option, Some, None}
use Rattle.core_views.specs.declared.answer.Answer.TheVariants.{Starved}
use Rattle.core_views.specs.declared.answer.Refusal.{Refusal}
use Rattle.core_views.specs.declared.place.BeginPlace.TheVariants as begins
use Rattle.core_views.specs.declared.place.Place.{Place}
use Rattle.core_views.specs.declared.place.Place.TheVariants as place
use Rattle.core_views.specs.declared.place.SlotChangePlace.{SlotChangePlace}
use Rattle.core_views.specs.declared.place.SlotChangePlace.TheVariants as change
use Rattle.core_views.specs.declared.sizes.Sizes.{Sizes}
use Rattle.core_views.specs.declared.memory_slot.MemorySlot.{MemorySlot}
use Rattle.core_views.specs.declared.trace.Command.{Command}
use Rattle.core_views.specs.declared.trace.Command.TheVariants.{SetLog}
use Rattle.core_views.specs.declared.trace.Line.{Line}
use Rattle.core_views.specs.Held.{Held}
use Rattle.core_views.specs.Refusals.{is_logged}
use Rattle.core_views.specs.Sizes.{actors_of}
use Rattle.core_views.specs.SlotCommands.{change_at_once, slot_armed, slot_invalidated, slots_after}
use Rattle.core_views.specs.Slots.{is_some_and}
use Rattle.core_views.specs.SlotSets.{MemorySlots, slot_of_id}
use Rattle.core_views.proofs.SlotLines.{log_here, logged_so}
use Rattle.part_steps.specs.LogHoldings.{log_end}
use Rattle.part_steps.specs.SetHoldings.{own_open}
use Rattle.part_steps.specs.PartTasks.{words_filled}
use Rattle.part_steps.specs.declared.part_step.PartStep.{PartStep}
use Rattle.mmu_core.specs.declared.claim.FreeMap.TheVariants.{Pages}
use Rattle.mmu_core.specs.declared.invalidate.BeginNext.{BeginNext}
use Rattle.mmu_core.specs.declared.invalidate.BeginNext.TheVariants as begins_next
use Rattle.mmu_core.specs.invariant.Invariant.{Invariant, KnowsPart}
use Rattle.mmu_core.specs.orders.ClaimSteps.{claim_next}
use Rattle.mmu_core.specs.lines.Forms.{first_place, outcome_at, records_at}
use Rattle.mmu_core.specs.orders.InvalidateSteps.{begin_next}
use Rattle.mmu_core.specs.forms.slot_change.SlotChangeKnows.{SlotChangeKnows, slot_change_retires}
use Rattle.mmu_core.specs.forms.slot_change.SlotChangeSteps.{after_set_begin, arm_word, log_target, slot_change_first, slot_change_outcome}
use Rattle.mmu_core.specs.forms.slot_change.SlotChangeSteps.{slot_change_records, slot_target}
use Rattle.mmu_core.specs.machine.Outcomes.{place_after}
use Rattle.mmu_core.specs.machine.Steps.{task_at}
use Rattle.mmu_core.specs.machine.View.{View, answer_in, hand_after, part_stepped, stepped}
use Rattle.mmu_core.proofs.lines.EitherPlace.{each_claim, either_place}
use Rattle.mmu_core.proofs.lines.KnowsKept.{step_knows}
use Rattle.mmu_core.proofs.lines.Forms.{knows_for}
use Rattle.mmu_core.proofs.machine.Columns.{at_upd}
use Rattle.mmu_core.proofs.machine.Stepping.{IsStep}
use Rattle.log_invariant.proofs.StepPlaces.{of_hand}
use Rattle.mmu_laws.specs.forms.slot_change.GivenLogs.{HasGiven, LogsGiven}

-- ---- where a step leads

module _ (id : ℕ) (h : Held) (x : ℕ) where
  abbrev Given : Place → Type 0
  Given q = HasGiven (SetLog id true) q h.slots

  -- It has the log already.
  all_given : is_logged id h.slots ≡ true → (q : Place) → Given q
  all_given is (place.SlotChange q) = λ late. is
  all_given is _ = tt

  -- The set isn't published there.
  early : (q : SlotChangePlace) → slot_change_retires q ≡ false → Given (place.SlotChange q)
  early q none late = absurd (cc (none, late))

  -- The publication gives it the log.
  given_now : is_some (slot_armed h.slots (SetLog id true)) ≡ true → is_logged id (slots_after (SetLog id true) h.slots) ≡ true
  given_now there = ap (is_some_and (λ (m : MemorySlot). m.logged)) (log_here id true h.slots) ∙ by (slot_of_id id h.slots) there
    where
      by : (was : Option MemorySlot) → is_some (option_map (λ (m : MemorySlot). m.slot) was) ≡ true
          → is_some_and (λ (m : MemorySlot). m.logged) (logged_so true was) ≡ true
      by None there = absurd (cc there)
      by (Some was) there = refl

  change_given : (p : SlotChangePlace) → SlotChangeKnows p (SetLog id true) h → Given (place.SlotChange p)
      → HasGiven (SetLog id true) (place_after (slot_change_outcome p (SetLog id true) h x)) (slot_change_records p (SetLog id true) h.slots)
  change_given change.Publish K G = λ late. given_now (K.3 refl)
  change_given (change.AtOnce r) K G = tt
  change_given (change.Claim begun) K G =
      each_claim (λ o. Given (place_after o)) (claim_next Pages begun h.state.sizes h.topics.claim x) (place.SlotChange (change.Claim true))
      (place.SlotChange change.Fill) Starved (early (change.Claim true) refl) (early change.Fill refl) tt
  change_given change.Fill K G =
      either_place (λ q. Given (place.SlotChange q)) (nat_lt (words_filled h.topics.owned + 1) 512) change.Fill change.Role (early change.Fill refl)
      (early change.Role refl)
  change_given change.Role K G =
      either_place (λ q. Given (place.SlotChange q)) (is_some (slot_invalidated h.slots (SetLog id true))) (change.Begin begins.Exclude)
      (if is_some (slot_armed h.slots (SetLog id true)) then change.Arm false else change.Exclude) (early (change.Begin begins.Exclude) refl)
      (either_place (λ q. Given (place.SlotChange q)) (is_some (slot_armed h.slots (SetLog id true))) (change.Arm false) change.Exclude
      (early (change.Arm false) refl) (early change.Exclude refl))
  change_given (change.Arm begun) K G =
      let slot = log_target h (SetLog id true) in
      either_place (λ q. Given (place.SlotChange q)) (nat_lt (arm_word begun slot h.topics + 1) (log_end slot)) (change.Arm true) change.Exclude
      (early (change.Arm true) refl) (early change.Exclude refl)
  change_given (change.Begin p) K G = by (begin_next p h.state.sizes (slot_target h (SetLog id true)) h.topics x)
    where
      by : (next : BeginNext) → Given (place.SlotChange (after_set_begin next))
      by (begins_next.Goes q) = early (change.Begin q) refl
      by begins_next.Begun = early change.Exclude refl
  change_given change.Exclude K G =
      either_place (λ q. Given (place.SlotChange q)) (x == 0) change.Count change.Exclude (early change.Count refl) (early change.Exclude refl)
  change_given change.Count K G =
      either_place (λ q. Given (place.SlotChange q)) (x == own_open h.topics.invalidations) change.Publish change.Close (early change.Publish refl)
      (early change.Close refl)
  change_given change.Close K G = early change.Exclude refl
  change_given p K G = all_given (G refl) (place_after (slot_change_outcome p (SetLog id true) h x))

given_after : (command : Command) (p : Place) (h : Held) (x : ℕ) → KnowsPart p command h → HasGiven command p h.slots
    → HasGiven command (place_after (outcome_at p command h x)) (records_at p command h.slots)
given_after (SetLog id true) (place.SlotChange p) h x K G = change_given id h x p K.1 G
given_after (SetLog id true) place.Between h x K G = tt
given_after (SetLog id true) p h x K G = absurd (let mine = knows_for p (SetLog id true) h tt K in cc mine)
given_after _ p h x K G = tt

given_first : (z : Sizes) (slots now_ : MemorySlots) (command : Command) → HasGiven command (first_place z slots command) now_
given_first z slots now_ (SetLog id true) = by (change_at_once z (SetLog id true) slots)
  where
    by : (r : Option (Option Refusal)) → HasGiven (SetLog id true) (place.SlotChange (slot_change_first r)) now_
    by None = λ late. absurd (cc late)
    by (Some refusal) = λ late. absurd (cc late)
given_first z slots now_ _ = tt

-- ---- each step keeps it

-- The hand's line has given its log where it makes a step.
pub given_here : (z : Sizes) (v : View) (a : ℕ) (line : Line) (command : Command) (p : Place) → IsStep z v a line command p → LogsGiven z v
    → HasGiven command p (v.hand a).slots
given_here z v a line command p S G =
    of_hand z v a line command p S (λ q c. HasGiven c q (v.hand a).slots) (λ sizes slots c between. given_first sizes slots (v.hand a).slots c) (G a S.there)

-- So it has after each step of a line, and after one of an actor with no line left.
pub given_kept : (z : Sizes) (v : View) (a : ℕ) (line : Line) (command : Command) (p : Place) → IsStep z v a line command p → Invariant z v → LogsGiven z v
    → LogsGiven z (stepped a line command p v)
given_kept z v a line command p S I G =
    let h : Held = v.hand a in
    let x : ℕ = answer_in (task_at p command h) v.words in
    at_upd (λ i (g : Held). i < actors_of z → HasGiven g.state.line.command g.state.place g.slots) v.hand a (hand_after line command p h x)
    (λ lt. subst (λ c. HasGiven c (place_after (outcome_at p command h x)) (records_at p command h.slots)) (sym S.command_is)
    (given_after command p h x (step_knows z v a line command p S I) (given_here z v a line command p S G)))
    (λ i apart. G i)

pub idle_given_kept : (z : Sizes) (v : View) (a : ℕ) (step : PartStep) (note : ℕ) → LogsGiven z v → LogsGiven z (part_stepped a step note v)
idle_given_kept z v a step note G =
    at_upd (λ i (g : Held). i < actors_of z → HasGiven g.state.line.command g.state.place g.slots) v.hand a _ (G a) (λ i apart. G i)
