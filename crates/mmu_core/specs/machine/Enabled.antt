-- Which step a hand allows; and the machine of this project.
use Rattle.std.specs.Prelude.{◌≡◌, ◌<◌, ◌^◌, ◌⊎◌, ℕ, false, length}
use Rattle.core_views.specs.declared.kind.Kind.{Kind}
use Rattle.core_views.specs.Held.{Held}
use Rattle.core_views.specs.Kinds.{after, answer}
use Rattle.core_views.specs.Sizes.{AreSizes}
use Rattle.spte_words.specs.Areas.{total}
use Rattle.part_steps.specs.declared.part_step.PartStep.{PartStep}
use Rattle.mmu_core.specs.machine.Machine.{Core}
use Rattle.part_steps.specs.PartBounds.{FrameCountersPart}
use Rattle.part_steps.specs.PartTasks.{IsWithin, part_kind}
use Rattle.part_steps.specs.PartSteps.{PartNeeds, needs_line}
use Rattle.mmu_core.specs.lines.Rests.{Rests}
use Rattle.mmu_core.specs.machine.Steps.{has_line, next, nobody, task_of}
use Rattle.part_steps.specs.Tasks.{kind_of_task, map_of}

-- The hand has a line without an answer, it holds what the line rests on, and the step is the next one of this line, in the order
-- of the line's steps, at one of the words.
pub record IsNext (h : Held) (k : Kind) : Type 0 where
  pub left : length h.answers < length h.lines
  pub rests : Rests h
  pub is : k ≡ kind_of_task h.state.sizes (task_of h)
  pub inside : k.word < total (map_of h.state.sizes)
  pub small : k.new < 2 ^ 64

-- The hand has no line left, its counters of frames are in their bounds, and it holds what a step of a part needs that isn't one of lines alone; the step is on
-- a word of its area.
pub record IsPartStep (h : Held) (k : Kind) : Type 0 where
  pub none_left : has_line h ≡ false
  pub sizes : AreSizes h.state.sizes
  pub counters : FrameCountersPart h.state.sizes h.topics.frames
  pub step : PartStep
  pub free : needs_line step ≡ false
  pub note : ℕ
  pub is : k ≡ part_kind h step note
  pub needs : PartNeeds step h
  pub within : IsWithin h step
  pub small : k.new < 2 ^ 64

-- A hand allows its line's next step, and where it has no line left, each step of a part that it holds the needs of and that isn't one of
-- lines alone.
unfoldable pub Enabled : Held → Kind → Type 0
Enabled h k = IsNext h k ⊎ IsPartStep h k

-- the machine of this project
abbrev pub mmu : Core Held Kind
mmu = record { Enabled = Enabled; word = λ k. k.word; after = after; answer = answer; next = next; nobody = nobody }
