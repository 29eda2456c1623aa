-- A line that changes a slot at its places: all that the invariant asks of a form.
use Rattle.std.proofs.Common.{ℕ}
use Rattle.core_views.specs.declared.place.Place.TheVariants as place
use Rattle.core_views.specs.declared.place.SlotChangePlace.{SlotChangePlace}
use Rattle.core_views.specs.declared.sizes.Sizes.{Sizes}
use Rattle.core_views.specs.declared.trace.Command.{Command}
use Rattle.core_views.specs.declared.trace.Line.{Line}
use Rattle.mmu_core.specs.forms.slot_change.SlotChangeSteps.{slot_change_part}
use Rattle.mmu_core.specs.invariant.Invariant.{Invariant}
use Rattle.mmu_core.specs.invariant.TopicsInvariant.{TopicsInvariant}
use Rattle.mmu_core.specs.machine.View.{View}
use Rattle.mmu_core.proofs.forms.access.AccessParts.{AreSmall, may_make}
use Rattle.mmu_core.proofs.forms.slot_change.SlotChangeKept.{slot_change_kept}
use Rattle.mmu_core.proofs.forms.slot_change.SlotChangeMakes.{change_needs, change_replaces, change_said}
use Rattle.mmu_core.proofs.invariant.FormKept.{FormKept}
use Rattle.mmu_core.proofs.invariant.PartBounded.{part_rests_at}
use Rattle.mmu_core.proofs.invariant.QuietHand.{one_step}
use Rattle.mmu_core.proofs.lines.KnowsKept.{step_knows, step_leaves}
use Rattle.mmu_core.proofs.machine.PartStepping.{IsPart}
use Rattle.mmu_core.proofs.machine.Stepping.{IsStep}
use Rattle.mmu_core.specs.forms.slot_change.SlotChangeKnows.{SlotChangeRests}
use Rattle.core_views.specs.Held.{Held}
use Rattle.spte_words.specs.declared.area.Area.{Area}
use Rattle.part_steps.specs.PartTasks.{own_index}
use Rattle.mmu_core.specs.forms.slot_change.SlotChangeSteps.{slot_change_note, slot_change_task}
use Rattle.mmu_core.specs.machine.View.{answer_in}
use Rattle.part_steps.specs.PartBounds.{PartRests}
use Rattle.part_steps.specs.PartSteps.{PartNeeds}
use Rattle.mmu_core.proofs.forms.access.FaultKnown.{parts_answer}
use Rattle.mmu_core.specs.invariant.Invariant.{KnowsPart, RetiresPart}
use Rattle.mmu_core.proofs.lines.KnowsKept.{KnowsAfter}
use Rattle.mmu_core.proofs.lines.StepTopics.{knows_by}
use Rattle.mmu_core.proofs.forms.slot_change.SlotChangeKnown.{WordsSay, slot_change_known}
use Rattle.mmu_core.proofs.forms.slot_change.SlotChangeNeeds.{slot_change_rests}

-- It has what its step asks besides what the step of a part needs.
pub change_rests : (z : Sizes) (v : View) (a : ℕ) (line : Line) (p : SlotChangePlace) (command : Command)
    → IsStep z v a line command (place.SlotChange p) → Invariant z v → SlotChangeRests p command (v.hand a)
change_rests z v a line p command S I = slot_change_rests p command (v.hand a) (step_knows z v a line command (place.SlotChange p) S I).1

-- What it knows after it.
pub own_slot_change : (p : SlotChangePlace) (line : Line) (h : Held) (command : Command) (words : Area → ℕ → ℕ) → PartRests h
    → KnowsPart (place.SlotChange p) command h → RetiresPart (place.SlotChange p) h.topics → PartNeeds (slot_change_part p h command) h
    → WordsSay p command h (answer_in (slot_change_task p h command) words)
    → KnowsAfter line command (place.SlotChange p) h (answer_in (slot_change_task p h command) words)
own_slot_change p line h command words R K left N W =
    let v : ℕ = answer_in (slot_change_task p h command) words in
    let A = parts_answer (slot_change_part p h command) (own_index h) h.topics (slot_change_note p h) words in
    knows_by (place.SlotChange p) line command h v (K.0, N, slot_change_rests p command h K.1)
    (λ cached. slot_change_known line h command cached v K.0 p R K.1 left W A)

-- The step of a part that it makes at its place is one that its actor may make.
pub makes_slot_change : (z : Sizes) (v : View) (a : ℕ) (line : Line) (p : SlotChangePlace) (command : Command) → AreSmall v
    → IsStep z v a line command (place.SlotChange p) → Invariant z v → TopicsInvariant z v
    → IsPart z v a (slot_change_part p (v.hand a) command)
makes_slot_change z v a line p command small S I P =
    may_make z v a (slot_change_part p (v.hand a) command) small I P S.there (change_needs z v a line p command S I P)
    (change_replaces z v a line p command small S I P)

pub slot_change_keeps : (p : SlotChangePlace) (c : Command) → FormKept (place.SlotChange p) c
slot_change_keeps p c = record {
  needs = λ z v a line S I P.
      ((step_knows z v a line c (place.SlotChange p) S I).0, change_needs z v a line p c S I P, change_rests z v a line p c S I);
  knows = λ z v a line S I P there.
      own_slot_change p line (v.hand a) c v.words (part_rests_at z v a I P there) (step_knows z v a line c (place.SlotChange p) S I)
      (step_leaves z v a line c (place.SlotChange p) S I) (change_needs z v a line p c S I P) (change_said z v a line p c S I P);
  makes = λ z v a line small S I P. one_step (IsPart z v a) (slot_change_part p (v.hand a) c) (makes_slot_change z v a line p c small S I P);
  kept = λ z v a line S I P makes knows. slot_change_kept z v a line p c S I P makes knows;
}
