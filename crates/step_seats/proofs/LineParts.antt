-- The step of a line at its place, where it is one of a part, is one that its actor may make.
use Rattle.std.proofs.Common.{◌≡◌, ◌<◌, ℕ, Option, Some, length, sym, subst, ap, ◌∙◌}
use Rattle.core_views.specs.declared.place.Place.{Place}
use Rattle.core_views.specs.declared.trace.Command.{Command}
use Rattle.core_views.specs.Held.{Held}
use Rattle.spte_words.proofs.Places.{place_below}
use Rattle.part_steps.specs.declared.part_step.PartStep.{PartStep}
use Rattle.part_steps.specs.declared.task.Task.{Task}
use Rattle.part_steps.specs.PartTasks.{own_index, part_kind, part_task}
use Rattle.part_steps.specs.PartSteps.{PartNeeds}
use Rattle.part_steps.specs.Tasks.{kind_of_task, map_of}
use Rattle.mmu_core.specs.forms.access.AccessSteps.{task_by}
use Rattle.mmu_core.specs.lines.Forms.{note_at, part_at, RestsAt}
use Rattle.mmu_core.specs.lines.PartAt.{touch_at}
use Rattle.mmu_core.specs.lines.Rests.{Rests}
use Rattle.mmu_core.specs.machine.MayMake.{MayMake}
use Rattle.mmu_core.specs.machine.Steps.{place_at, task_at, task_of}
use Rattle.mmu_core.specs.machine.Turns.{line_of}
use Rattle.mmu_core.proofs.lines.ByStep.{step_needs}
use Rattle.mmu_core.proofs.machine.Which.{enabled_is}
use Rattle.mmu_core.proofs.words.PartFits.{part_small, part_within_by}

-- The hand's next line stands at this place.
module _ (p : Place) (c : Command) (h : Held) (left : length h.answers < length h.lines) (rests : Rests h) (stands : place_at h.state.place h ≡ p)
    (command : (line_of h).command ≡ c) where
  pub place_rests : RestsAt p c h
  place_rests = subst (λ (x : Command). RestsAt p x h) command (subst (λ (q : Place). RestsAt q (line_of h).command h) stands rests.at)

  pub place_task : task_of h ≡ task_at p c h
  place_task = ap (λ (q : Place). task_at q (line_of h).command h) stands ∙ ap (λ (x : Command). task_at p x h) command

  pub place_may_make : (step : PartStep) → part_at p c h ≡ Some step → MayMake step (note_at p c h) h
  place_may_make step is =
      let note : ℕ = note_at p c h in
      let needs : PartNeeds step h = step_needs p c h step place_rests is in
      let task : task_of h ≡ part_task step (own_index h) h.topics note = place_task ∙ ap (λ (x : Option PartStep). task_by x h note (touch_at c h)) is in
      record {
        needs = needs;
        enabled = enabled_is h (part_kind h step note) (record {
          left = left;
          rests = rests;
          is = sym (ap (λ (t : Task). kind_of_task h.state.sizes t) task);
          inside =
              place_below (map_of h.state.sizes) (part_task step (own_index h) h.topics note).area (part_task step (own_index h) h.topics note).index
              (part_within_by step h note needs rests.part);
          small = part_small step h note needs rests.part;
        });
      }
