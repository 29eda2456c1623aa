-- The step of a line is the step of a part that its place names, or a touch; and what is so where its hand stands is so there.
use Rattle.std.proofs.Common.{◌≡◌, ℕ, refl, sym, subst, ap, ◌∙◌}
use Rattle.std.specs.Prelude.{Option, Some, None}
use Rattle.core_views.specs.declared.place.Place.{Place}
use Rattle.core_views.specs.declared.place.Place.TheVariants as place
use Rattle.core_views.specs.declared.sizes.Sizes.{Sizes}
use Rattle.core_views.specs.declared.trace.Command.{Command}
use Rattle.core_views.specs.declared.trace.Line.{Line}
use Rattle.core_views.specs.declared.trace.Op.{Op}
use Rattle.core_views.specs.Held.{Held}
use Rattle.part_steps.specs.declared.part_step.PartStep.{PartStep}
use Rattle.part_steps.specs.declared.task.Task.{Task}
use Rattle.part_steps.specs.PartTasks.{own_index, part_task}
use Rattle.mmu_core.specs.invariant.Invariant.{Invariant}
use Rattle.mmu_core.specs.invariant.TopicsInvariant.{TopicsInvariant}
use Rattle.mmu_core.specs.forms.access.AccessSteps.{task_by, touch_of}
use Rattle.mmu_core.specs.lines.Forms.{note_at, part_at, first_place}
use Rattle.mmu_core.specs.lines.PartAt.{task_at, touch_at}
use Rattle.mmu_core.specs.machine.View.{View}
use Rattle.mmu_core.proofs.invariant.Kept.{makes_at}
use Rattle.mmu_core.proofs.invariant.QuietKept.{touched}
use Rattle.mmu_core.proofs.forms.access.AccessParts.{AreSmall}
use Rattle.mmu_core.proofs.machine.PartStepping.{IsPart, behind_part}
use Rattle.mmu_core.proofs.machine.Stepping.{IsStep}
use Rattle.part_steps.specs.Tasks.{kind_of_task}
use Rattle.part_steps.specs.TopicSteps.{topics_after}
use Rattle.mmu_core.proofs.words.PartTopics.{is_there, part_topics_is}
use Rattle.mmu_core.proofs.lines.KnowsKept.{touch_topics}
use Rattle.core_views.specs.SlotSets.{MemorySlots}
pub use Rattle.log_invariant.proofs.UsualSteps.{publishes, publishes_none, takes_bits}
pub use Rattle.log_invariant.proofs.forms.log.TakesBits.{takes, takes_none, takes_of, takes_there}
use Rattle.mmu_core.specs.machine.Steps.{line_at, next_line, place_at}

-- ---- the step of a line, with the place that names it

-- It is the step of a part that the place names, or a touch where the place names none.
pub data StepAt (z : Sizes) (v : View) (a : ℕ) (named : Option PartStep) : Task → Type 0 where
  Makes : (step : PartStep) (note : ℕ) → named ≡ Some step → IsPart z v a step
      → StepAt z v a named (part_task step (own_index (v.hand a)) (v.hand a).topics note)
  Touches : (op : Op) (index : ℕ) → named ≡ None → StepAt z v a named (touch_of op index)

pub step_at : (z : Sizes) (v : View) (a : ℕ) (line : Line) (command : Command) (p : Place) → AreSmall v → IsStep z v a line command p → Invariant z v
    → TopicsInvariant z v → StepAt z v a (part_at p command (v.hand a)) (task_at p command (v.hand a))
step_at z v a line command p small S I P =
    by (part_at p command h) refl (makes_at z v a line command p small S I P) (touched p command h)
  where
    h : Held
    h = v.hand a

    named : Option PartStep
    named = part_at p command h

    note : ℕ
    note = note_at p command h

    by : (s : Option PartStep) → named ≡ s → ((step : PartStep) → s ≡ Some step → IsPart z v a step)
        → (s ≡ None → (op : Op) × (index : ℕ) × (touch_at command h ≡ touch_of op index))
        → StepAt z v a named (task_by s h note (touch_at command h))
    by None is makes touches = let T = touches refl in subst (StepAt z v a named) (sym T.2) (Touches T.0 T.1 is)
    by (Some step) is makes touches = Makes step note is (makes step refl)

-- What its actor holds after it is as the step of the part says, or as it was before the touch.
pub topics_named : (z : Sizes) (v : View) (a : ℕ) (named : Option PartStep) (task : Task) (x : ℕ) → StepAt z v a named task
    → topics_after (v.hand a).state.sizes (kind_of_task (v.hand a).state.sizes task) (v.hand a).topics x ≡ behind_part named (v.hand a).topics x
topics_named z v a named _ x (Makes step note is S) =
    part_topics_is (v.hand a).state.sizes step (own_index (v.hand a)) (v.hand a).topics note x (is_there step (v.hand a) S.needs)
    ∙ ap (λ (s : Option PartStep). behind_part s (v.hand a).topics x) (sym is)
topics_named z v a named _ x (Touches op index is) =
    touch_topics (v.hand a).state.sizes op index (v.hand a).topics x ∙ ap (λ (s : Option PartStep). behind_part s (v.hand a).topics x) (sym is)

-- ---- where a line stands, which is about to begin or has begun

-- It is of the place and the command of its hand, unless it is about to begin.
pub of_hand : (z : Sizes) (v : View) (a : ℕ) (line : Line) (command : Command) (p : Place) → IsStep z v a line command p
    → (Is : Place → Command → Type 0) → ((sizes : Sizes) (slots : MemorySlots) (c : Command) → Is place.Between (v.hand a).state.line.command
    → Is (first_place sizes slots c) c) → Is (v.hand a).state.place (v.hand a).state.line.command → Is p command
of_hand z v a line command p S Is first is =
    subst (λ q. Is q command) S.place_is
    (subst (λ c. Is (place_at h.state.place h) c) (ap (λ (l : Line). l.command) (sym S.line_is) ∙ S.command_is) (by h.state.place is))
  where
    h : Held
    h = v.hand a

    by : (q : Place) → Is q h.state.line.command → Is (place_at q h) (line_at q h).command
    by place.Between e = first h.state.sizes h.slots (next_line h).command e
    by _ e = e
