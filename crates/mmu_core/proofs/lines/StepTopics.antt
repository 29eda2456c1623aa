-- What the actor of a line holds after its step, as the step of the part says; and so what it knows then.
use Rattle.std.proofs.Common.{◌≡◌, ℕ, refl, sym, subst, ap, ◌∙◌}
use Rattle.std.specs.Prelude.{Option, Some, None}
use Rattle.circular_buffer.specs.Buffer.{Buffer}
use Rattle.core_views.specs.declared.cache.Translation.{Translation}
use Rattle.core_views.specs.declared.place.Place.{Place}
use Rattle.core_views.specs.declared.topics.Topics.{Topics}
use Rattle.core_views.specs.declared.trace.Command.{Command}
use Rattle.core_views.specs.declared.trace.Line.{Line}
use Rattle.core_views.specs.declared.trace.Op.{Op}
use Rattle.core_views.specs.Held.{Held}
use Rattle.part_steps.specs.declared.part_step.PartStep.{PartStep}
use Rattle.part_steps.specs.declared.task.Task.{Task}
use Rattle.part_steps.specs.PartSteps.{PartNeeds}
use Rattle.part_steps.specs.PartTasks.{own_index}
use Rattle.part_steps.specs.Tasks.{kind_of_task}
use Rattle.part_steps.specs.TopicSteps.{topics_after}
use Rattle.mmu_core.specs.forms.access.AccessSteps.{task_by, touch_of}
use Rattle.mmu_core.specs.forms.access.Cached.{flushed}
use Rattle.mmu_core.specs.lines.Forms.{RestsAt, caches_at, note_at, outcome_at, part_at}
use Rattle.mmu_core.specs.lines.PartAt.{task_at, touch_at}
use Rattle.mmu_core.proofs.invariant.QuietKept.{touched}
use Rattle.mmu_core.proofs.lines.ByStep.{step_needs}
use Rattle.mmu_core.proofs.lines.KnowsKept.{KnowsAfter, KnowsBehind, touch_topics}
use Rattle.mmu_core.proofs.machine.PartStepping.{behind_part}
use Rattle.mmu_core.proofs.machine.HandWith.{hand_with}
use Rattle.mmu_core.proofs.words.PartTopics.{is_there, part_topics_is}

-- What its actor holds after it is as the step of the part says, or as it was before the touch.
topics_by_step : (s : Option PartStep) (h : Held) (note : ℕ) (touch : Task) (v : ℕ) → ((step : PartStep) → s ≡ Some step → PartNeeds step h)
    → (s ≡ None → (op : Op) × (index : ℕ) × (touch ≡ touch_of op index))
    → topics_after h.state.sizes (kind_of_task h.state.sizes (task_by s h note touch)) h.topics v ≡ behind_part s h.topics v
topics_by_step None h note touch v needs touches =
    let T = touches refl in
    ap (λ (x : Task). topics_after h.state.sizes (kind_of_task h.state.sizes x) h.topics v) T.2 ∙ touch_topics h.state.sizes T.0 T.1 h.topics v
topics_by_step (Some step) h note touch v needs touches = part_topics_is h.state.sizes step (own_index h) h.topics note v (is_there step h (needs step refl))

pub topics_of_step : (p : Place) (command : Command) (h : Held) (v : ℕ) → RestsAt p command h
    → topics_after h.state.sizes (kind_of_task h.state.sizes (task_at p command h)) h.topics v ≡ behind_part (part_at p command h) h.topics v
topics_of_step p command h v R =
    topics_by_step (part_at p command h) h (note_at p command h) (touch_at command h) v (λ step is. step_needs p command h step R is) (touched p command h)

-- What it knows of the hand that holds this, it knows of its hand.
pub knows_by : (p : Place) (line : Line) (command : Command) (h : Held) (v : ℕ) → RestsAt p command h
    → ((cached : Buffer Translation)
    → KnowsBehind (outcome_at p command h v) command (hand_with line command p h (behind_part (part_at p command h) h.topics v) cached v))
    → KnowsAfter line command p h v
knows_by p line command h v R knows =
    let cached : Buffer Translation = flushed (kind_of_task h.state.sizes (task_at p command h)) (caches_at p command h v) v in
    subst (λ (t : Topics). KnowsBehind (outcome_at p command h v) command (hand_with line command p h t cached v))
    (sym (topics_of_step p command h v R)) (knows cached)
