-- The step of a line is the step of a part, or a touch.
use Rattle.std.proofs.Common.{◌≡◌, ◌⊎◌, inl, inr, ℕ, refl, sym, subst}
use Rattle.std.specs.Option.{IfSome}
use Rattle.std.specs.Prelude.{Option, Some, None}
use Rattle.core_views.specs.declared.place.Place.{Place}
use Rattle.core_views.specs.declared.place.Place.TheVariants as place
use Rattle.core_views.specs.declared.trace.Command.{Command}
use Rattle.core_views.specs.declared.trace.Command.TheVariants.{Access}
use Rattle.core_views.specs.declared.trace.Op.{Op}
use Rattle.core_views.specs.Held.{Held}
use Rattle.core_views.specs.Slots.{is_write}
use Rattle.spte_words.specs.Areas.{content_index}
use Rattle.part_steps.specs.declared.part_step.PartStep.{PartStep}
use Rattle.part_steps.specs.declared.task.Task.{Task}
use Rattle.part_steps.specs.PartTasks.{own_index, part_task}
use Rattle.part_steps.specs.PartSteps.{PartNeeds}
use Rattle.part_steps.specs.Tasks.{map_of}
use Rattle.mmu_core.specs.forms.access.Cached.{frame_used}
use Rattle.mmu_core.specs.forms.access.AccessSteps.{access_note, access_part, task_by, touch_of}
use Rattle.mmu_core.specs.lines.Forms.{note_at, part_at, RestsAt}
use Rattle.mmu_core.specs.lines.PartAt.{task_at, touch_at}
use Rattle.mmu_core.specs.forms.access.AccessKnows.{RestsOn, TouchNeeds}
use Rattle.mmu_core.proofs.lines.Forms.{RestsOnPart, other_rests}
use Rattle.mmu_core.proofs.forms.access.UsedTranslations.{part_needs}

pub data StepAt (command : Command) (h : Held) : Task → Type 0 where
  Makes : (step : PartStep) (note : ℕ) → PartNeeds step h → StepAt command h (part_task step (own_index h) h.topics note)
  Touches : (gfn word : ℕ) (op : Op) → command ≡ Access gfn word op → TouchNeeds gfn (is_write op) h
      → StepAt command h (touch_of op (content_index (map_of h.state.sizes) (frame_used gfn h.state) word))

access_step : (s : Option PartStep) (h : Held) (note gfn word : ℕ) (op : Op) → RestsOn s gfn (is_write op) h
    → StepAt (Access gfn word op) h (task_by s h note (touch_of op (content_index (map_of h.state.sizes) (frame_used gfn h.state) word)))
access_step None h note gfn word op R = Touches gfn word op refl R
access_step (Some step) h note gfn word op R = Makes step note R

other_step : (p : Place) (command : Command) (h : Held) → (RestsAt p command h → ⊥) ⊎ RestsOnPart p command h → RestsAt p command h
    → StepAt command h (task_at p command h)
other_step p command h (inl never) R = absurd (never R)
other_step p command h (inr P) R =
    subst (λ (s : Option PartStep). StepAt command h (task_by s h (note_at p command h) (touch_at command h))) (sym P.at)
    (Makes P.step (note_at p command h) (P.needs R).0)

pub step_at : (p : Place) (command : Command) (h : Held) → RestsAt p command h → StepAt command h (task_at p command h)
step_at (place.Access p) (Access gfn word op) h R = access_step (access_part p gfn h.topics) h (access_note p) gfn word op R
step_at (place.Access p) _ h R = absurd R
step_at p command h R = other_step p command h (other_rests p command h tt) R

-- What the step of a part needs that a line is to make.
pub step_needs : (p : Place) (command : Command) (h : Held) (step : PartStep) → RestsAt p command h → part_at p command h ≡ Some step → PartNeeds step h
step_needs p command h step R is = subst (λ (s : Option PartStep). IfSome s (λ x. PartNeeds x h)) is (needs p command R)
  where
    other : (q : Place) (c : Command) → (RestsAt q c h → ⊥) ⊎ RestsOnPart q c h → RestsAt q c h → IfSome (part_at q c h) (λ x. PartNeeds x h)
    other q c (inl rests_not) N = absurd (rests_not N)
    other q c (inr P) N = subst (λ (s : Option PartStep). IfSome s (λ x. PartNeeds x h)) (sym P.at) (P.needs N).0

    needs : (q : Place) (c : Command) → RestsAt q c h → IfSome (part_at q c h) (λ x. PartNeeds x h)
    needs (place.Access q) (Access gfn word op) N = part_needs (access_part q gfn h.topics) gfn (is_write op) h N
    needs (place.Access q) _ N = absurd N
    needs q c N = other q c (other_rests q c h tt) N
