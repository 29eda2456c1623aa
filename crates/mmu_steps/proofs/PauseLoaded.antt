-- What a load of the pause changes of what its actor holds.
use Rattle.std.proofs.Common.{◌≡◌, ℕ, sym, ap, ◌∙◌, arith}
use Rattle.core_views.specs.declared.kind.Kind.{Kind}
use Rattle.core_views.specs.declared.kind.StepKind.{StepKind}
use Rattle.core_views.specs.declared.kind.StepKind.TheVariants.{Control}
use Rattle.core_views.specs.declared.sizes.Sizes.{Sizes}
use Rattle.core_views.specs.declared.topics.Topics.{Topics}
use Rattle.core_views.specs.Kinds.{kind_named}
use Rattle.part_steps.specs.ControlTopics.{controlled}
use Rattle.part_steps.specs.TopicSteps.{topics_after, topics_by}
use Rattle.mmu_core.proofs.words.MapTopics.{lone_is}

-- The actor has the pause, and nothing else of it is changed.
pub pause_loaded : (z : Sizes) (k : Kind) (t : Topics) (v : ℕ) → kind_named k.code ≡ Control → k.word ≡ 7 → record t { pause = v } ≡ topics_after z k t v
unfolding topics_after
pause_loaded z k t v named at =
    sym (ap (λ (n : StepKind). topics_by n z k t v) named ∙ ap (λ (word : ℕ). controlled z word t v) at ∙ lone_is z 7 t v (omega arith))
