-- The next step of an actor.
use Rattle.std.specs.Prelude.{ℕ}
use Rattle.core_views.specs.declared.kind.Kind.{Kind}
use Rattle.core_views.specs.declared.sizes.Sizes.{Sizes}
use Rattle.core_views.specs.Held.{Held}
use Rattle.mmu_core.specs.machine.Enabled.{mmu}
use Rattle.mmu_core.specs.machine.Machine.{Step, World, hand_in}
use Rattle.mmu_core.specs.machine.Steps.{task_of}
use Rattle.part_steps.specs.Tasks.{kind_of_task}

-- the step that an actor's hand is to make next
abbrev pub next_step : Sizes → World Held → ℕ → Step Kind
next_step z w actor = record { actor = actor; kind = kind_of_task z (task_of (hand_in mmu w actor)) }
