-- What the step of a line's place comes to, where all other actors rest.
use Rattle.std.proofs.Common.{◌≡◌, ◌<◌, ℕ}
use Rattle.std.specs.Prelude.{false}
use Rattle.core_views.specs.declared.place.Place.{Place}
use Rattle.core_views.specs.declared.sizes.Sizes.{Sizes}
use Rattle.core_views.specs.declared.topics.Topics.{Topics}
use Rattle.core_views.specs.declared.trace.Command.{Command}
use Rattle.core_views.specs.Held.{Held}
use Rattle.spte_words.specs.declared.area.Area.{Area}
use Rattle.mmu_core.specs.declared.outcome.Outcome.{Outcome}
use Rattle.mmu_core.specs.declared.outcome.Outcome.TheVariants.{Goes, Ends}
use Rattle.mmu_core.specs.alone.AloneKnows.{AloneKnows}
use Rattle.mmu_core.specs.lines.Forms.{steps_left, outcome_at}
use Rattle.mmu_core.specs.alone.LineAlone.{StarvedOnlyWithout, line_waits}
use Rattle.mmu_core.specs.lines.Rests.{IsUnderWay}
use Rattle.mmu_core.specs.machine.Steps.{task_at}
use Rattle.mmu_core.specs.machine.View.{answer_in, words_after}
use Rattle.part_steps.specs.Tasks.{kind_of_task}
use Rattle.part_steps.specs.TopicSteps.{topics_after}

-- After a step the line goes on, with what its next place asks and fewer than n steps left; or it is answered.
abbrev pub GoesAlone : Outcome → Command → Sizes → (Area → ℕ → ℕ) → Topics → ℕ → Type 0
GoesAlone (Goes p) command y words t n = IsUnderWay p × AloneKnows p command words t × (steps_left p command y t < n)
GoesAlone (Ends answer) command y words t n = StarvedOnlyWithout answer y words

-- The step of a place goes through.
pub record GoesOnAlone (p : Place) (command : Command) (h : Held) (words : Area → ℕ → ℕ) (u : Topics) : Type 0 where
  pub goes : line_waits p command h (answer_in (task_at p command h) words) ≡ false
  pub next : GoesAlone (outcome_at p command h (answer_in (task_at p command h) words)) command h.state.sizes
      (words_after (task_at p command h) words) u (steps_left p command h.state.sizes h.topics)

-- what is held after the step of a place
abbrev pub topics_at : Place → Command → Held → (Area → ℕ → ℕ) → Topics
topics_at p command h words = topics_after h.state.sizes (kind_of_task h.state.sizes (task_at p command h)) h.topics (answer_in (task_at p command h) words)
