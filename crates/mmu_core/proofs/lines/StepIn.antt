-- The step of a line, in a view where the invariant holds: a step of a part that its actor may make, or a touch.
use Rattle.std.proofs.Common.{◌≡◌, ℕ, refl, sym, subst}
use Rattle.std.specs.Prelude.{Option, Some, None}
use Rattle.core_views.specs.declared.place.Place.{Place}
use Rattle.core_views.specs.declared.sizes.Sizes.{Sizes}
use Rattle.core_views.specs.declared.trace.Command.{Command}
use Rattle.core_views.specs.declared.trace.Line.{Line}
use Rattle.core_views.specs.declared.trace.Op.{Op}
use Rattle.part_steps.specs.declared.part_step.PartStep.{PartStep}
use Rattle.part_steps.specs.declared.task.Task.{Task}
use Rattle.part_steps.specs.PartTasks.{own_index, part_task}
use Rattle.mmu_core.specs.lines.Forms.{note_at, part_at}
pub use Rattle.mmu_core.proofs.lines.StepTopics.{topics_of_step}
use Rattle.mmu_core.specs.forms.access.AccessSteps.{task_by, touch_of}
use Rattle.mmu_core.specs.invariant.Invariant.{Invariant}
use Rattle.mmu_core.specs.lines.PartAt.{task_at, touch_at}
use Rattle.mmu_core.specs.invariant.TopicsInvariant.{TopicsInvariant}
use Rattle.mmu_core.specs.machine.View.{View}
use Rattle.mmu_core.proofs.forms.access.AccessParts.{AreSmall}
use Rattle.mmu_core.proofs.invariant.Kept.{makes_at}
use Rattle.mmu_core.proofs.invariant.QuietKept.{MakesAt, touched}
use Rattle.mmu_core.proofs.machine.PartStepping.{IsPart}
use Rattle.mmu_core.proofs.machine.Stepping.{IsStep}

pub data StepIn (z : Sizes) (v : View) (a : ℕ) : Task → Type 0 where
  Makes : (step : PartStep) (note : ℕ) → IsPart z v a step → StepIn z v a (part_task step (own_index (v.hand a)) (v.hand a).topics note)
  Touches : (op : Op) (index : ℕ) → StepIn z v a (touch_of op index)

step_by : (z : Sizes) (v : View) (a : ℕ) (s : Option PartStep) (note : ℕ) (touch : Task) → ((step : PartStep) → s ≡ Some step → IsPart z v a step)
    → (s ≡ None → (op : Op) × (index : ℕ) × (touch ≡ touch_of op index))
    → StepIn z v a (task_by s (v.hand a) note touch)
step_by z v a None note touch makes touches = let T = touches refl in subst (StepIn z v a) (sym T.2) (Touches T.0 T.1)
step_by z v a (Some step) note touch makes touches = Makes step note (makes step refl)

-- It is the step of a part that its actor may make, where it is one of a part, and else a touch.
pub step_of : (z : Sizes) (v : View) (a : ℕ) (command : Command) (p : Place) → MakesAt z v a p command → StepIn z v a (task_at p command (v.hand a))
step_of z v a command p makes =
    step_by z v a (part_at p command (v.hand a)) (note_at p command (v.hand a)) (touch_at command (v.hand a)) makes (touched p command (v.hand a))

pub step_in : (z : Sizes) (v : View) (a : ℕ) (line : Line) (command : Command) (p : Place) → AreSmall v → IsStep z v a line command p → Invariant z v
    → TopicsInvariant z v → StepIn z v a (task_at p command (v.hand a))
step_in z v a line command p small S I P = step_of z v a command p (makes_at z v a line command p small S I P)
