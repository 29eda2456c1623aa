-- The hand of a line holds what its next step needs, where this is a step of a part.
use Rattle.std.proofs.Common.{◌≡◌, sym}
use Rattle.std.specs.Prelude.{Some}
use Rattle.core_views.specs.declared.place.Place.{Place}
use Rattle.core_views.specs.declared.trace.Command.{Command}
use Rattle.core_views.specs.Held.{Held}
use Rattle.part_steps.specs.declared.part_step.PartStep.{PartStep}
use Rattle.part_steps.specs.PartSteps.{PartNeeds}
use Rattle.mmu_core.specs.lines.Forms.{RestsAt, part_at}
use Rattle.mmu_core.proofs.lines.ByStep as by

pub step_needs : (p : Place) (c : Command) (h : Held) (step : PartStep) → RestsAt p c h → Some step ≡ part_at p c h → PartNeeds step h
step_needs p c h step R is = by.step_needs p c h step R (sym is)
