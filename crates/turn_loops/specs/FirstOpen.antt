-- Which line is the first one of the file that has no answer.
use Rattle.std.specs.Prelude.{◌≡◌, ◌<◌, ◌≤◌, ℕ, List, All, map, take, nat_lt, if◌then◌else◌, slice_get}
use Rattle.std.specs.Prelude.{Option, Some, None}
use Rattle.std.specs.List.{Contains}
use Rattle.core_views.specs.declared.event.Event.{Event}
use Rattle.core_views.specs.declared.sizes.Sizes.{Sizes}
use Rattle.core_views.specs.declared.trace.Line.{Line}
use Rattle.core_views.specs.Held.{Held}
use Rattle.core_views.specs.Sizes.{actors_of}
use Rattle.core_views.specs.Text.{answers_of}
use Rattle.mmu_core.specs.machine.Enabled.{mmu}
use Rattle.mmu_core.specs.machine.Machine.{World, hand_in}
use Rattle.mmu_core.specs.machine.Steps.{next_line}
use Rattle.mmu_core.specs.machine.Worlds.{history}
use Rattle.turn_loops.specs.Rounds.{AllAnswered}
use Rattle.turn_loops.specs.Turning.{HasLineLeft}

-- This is the first line of the file that has no answer: its actor's next one, and no other actor's next one stands before it.
pub record IsFirstOpen (z : Sizes) (w : World Held) (line : Line) : Type 0 where
  pub actor : ℕ
  pub there : actor < actors_of z
  pub left : HasLineLeft actor w
  pub is : next_line (hand_in mmu w actor) ≡ line
  pub first : (i : ℕ) → i < actors_of z → HasLineLeft i w → line.number ≤ (next_line (hand_in mmu w i)).number

-- the numbers of the lines that a history answers
abbrev pub numbers_answered : List Event → List ℕ
numbers_answered history = map (λ x. x.number) (answers_of history)

-- The history answers each line that stands before this one in the file, and not this one.
pub record IsFirstInFile (history : List Event) (lines : List Line) (line : Line) : Type 0 where
  pub before : ℕ
  pub is : slice_get lines before ≡ Some line
  pub answered : All (λ other. Contains (numbers_answered history) other.number) (take before lines)
  pub open_ : Contains (numbers_answered history) line.number → ⊥

-- the one of two lines that stands first in the file, if they are there
abbrev pub earlier_of : Option Line → Option Line → Option Line
earlier_of None next = next
earlier_of (Some line) None = Some line
earlier_of (Some line) (Some other) = if nat_lt other.number line.number then Some other else Some line

-- Where there is such a line, it is this; where there is none, each line is answered.
abbrev pub FirstOpen : Sizes → World Held → Option Line → Type 0
FirstOpen z w (Some line) = IsFirstOpen z w line
FirstOpen z w None = AllAnswered z w
