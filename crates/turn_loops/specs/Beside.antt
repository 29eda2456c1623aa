-- What lines that run beside others take: so many turns, by their delays.
use Rattle.std.specs.Prelude.{◌+◌, ◌*◌, ◌≤◌, ℕ, List, length, Bool, ◌&&◌, ◌==◌}
use Rattle.std.specs.List.{sum_by}
use Rattle.core_views.specs.declared.kind.Kind.{Kind}
use Rattle.core_views.specs.declared.sizes.Sizes.{Sizes}
use Rattle.core_views.specs.declared.trace.Line.{Line}
use Rattle.core_views.specs.Held.{Held}
use Rattle.mmu_core.specs.lines.Bounds.{most_steps}
use Rattle.mmu_core.specs.machine.Enabled.{mmu}
use Rattle.mmu_core.specs.machine.Machine.{Step, World, hand_in}
use Rattle.mmu_core.specs.machine.Turns.{line_of}
use Rattle.core_theorem.specs.Turns.{begins_line, bounds_of, delays_line, how_many}

-- The step's actor has the line with this number under way, or it is its next one.
abbrev pub is_numbered : ℕ → World Held → Step Kind → Bool
is_numbered number w s = (line_of (hand_in mmu w s.actor)).number == number

-- how many of these steps, made one after the other from this world on, are delays of the line with this number
abbrev pub delays_of : ℕ → World Held → List (Step Kind) → ℕ
delays_of number w ss = how_many (λ u s. is_numbered number u s && delays_line u s) w ss

-- The delays of these lines account for so many turns: these are at most the sum, over the lines, of what the line's command allows
-- (`most_steps`), times one more than the line's delays. And so by the steps alone: at most as many as its command allows for each delay of a
-- line among them, and for each line that begins in them, and no more lines begin there than these.
pub record AreForDelays (z : Sizes) (lines : List Line) (turns : ℕ) (w : World Held) (ss : List (Step Kind)) : Type 0 where
  pub over_lines : turns ≤ sum_by (λ line. most_steps z line.command * (delays_of line.number w ss + 1)) lines
  pub over_steps : turns ≤ bounds_of delays_line z w ss + bounds_of begins_line z w ss
  pub few_begin : how_many begins_line w ss ≤ length lines
