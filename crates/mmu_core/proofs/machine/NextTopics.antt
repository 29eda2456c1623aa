-- What a step makes of the topics, whether it is a line's or a part's.
use Rattle.std.proofs.Common.{◌≡◌, ℕ, refl, ◌∙◌}
use Rattle.std.specs.Prelude.{Bool, true, false}
use Rattle.core_views.specs.declared.kind.Kind.{Kind}
use Rattle.core_views.specs.Held.{Held}
use Rattle.part_steps.specs.declared.part_step.PartStep.{PartStep}
use Rattle.part_steps.specs.PartTasks.{own_index, part_kind}
use Rattle.part_steps.specs.PartSteps.{PartNeeds}
use Rattle.part_steps.specs.PartTopics.{part_topics}
use Rattle.mmu_core.specs.machine.Steps.{has_line, next, next_by}
use Rattle.part_steps.specs.TopicSteps.{topics_after}
use Rattle.mmu_core.proofs.words.PartTopics.{is_there, part_topics_is}

pub next_topics : (h : Held) (k : Kind) (v : ℕ) → (next h k v).topics ≡ topics_after h.state.sizes k h.topics v
unfolding next
next_topics h k v = by (has_line h)
  where
    by : (b : Bool) → (next_by b h k v).topics ≡ topics_after h.state.sizes k h.topics v
    by true = refl
    by false = refl

-- The step of a part changes the topics as the part says.
pub topics_behind : (h : Held) (step : PartStep) (note v : ℕ) → PartNeeds step h → (next h (part_kind h step note) v).topics ≡ part_topics step h.topics v
topics_behind h step note v N = next_topics h (part_kind h step note) v ∙ part_topics_is h.state.sizes step (own_index h) h.topics note v (is_there step h N)
