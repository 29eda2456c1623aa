-- A hand may make a step of a part.
use Rattle.std.specs.Prelude.{ℕ}
use Rattle.core_views.specs.Held.{Held}
use Rattle.part_steps.specs.declared.part_step.PartStep.{PartStep}
use Rattle.mmu_core.specs.machine.Enabled.{Enabled}
use Rattle.part_steps.specs.PartTasks.{part_kind}
use Rattle.part_steps.specs.PartSteps.{PartNeeds}

-- The hand holds what the step of the part needs, and allows it.
pub record MayMake (step : PartStep) (note : ℕ) (h : Held) : Type 0 where
  pub needs : PartNeeds step h
  pub enabled : Enabled h (part_kind h step note)
