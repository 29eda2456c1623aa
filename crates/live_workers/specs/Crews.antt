-- A board whose hands are all with workers, one for each actor.
use Rattle.std.specs.Prelude.{◌≡◌, ℕ, List, None, Some, false, length, replicate, take}
use Rattle.core_views.specs.declared.kind.Kind.{Kind}
use Rattle.core_views.specs.declared.trace.Trace.{Trace}
use Rattle.core_views.specs.Held.{Handful, Held}
use Rattle.core_views.specs.Sizes.{actors_of, sizes_of}
use Rattle.mmu_core.specs.machine.Enabled.{mmu}
use Rattle.mmu_core.specs.machine.Machine.{Step, World, run}
use Rattle.mmu_core.specs.machine.Steps.{has_line}
use Rattle.mmu_core.specs.machine.Worlds.{IsStart}
use Rattle.table_seats.specs.Boards.{AllHands, BoardView, Fits, begun}
use Rattle.table_seats.specs.Passes.{PassView, steps_before_split}
use Rattle.table_seats.specs.Rule.{Holds}
use Rattle.turn_loops.specs.Replays.{RunsLines}
use Rattle.turn_loops.specs.Weaves.{lines_above}
use Rattle.live_workers.specs.Posts.{AllHaveRun, AreReady, Post}
use Rattle.live_workers.specs.declared.crew.Crew.{Crew}

-- The lines above `go` have run from the trace's start, each alone, to the world in which the first hand was split off.
pub record HasBegun (trace : Trace) (b : BoardView) (past : List (Step Kind)) : Type 0 where
  pub start : World Held
  pub is_start : IsStart (sizes_of trace.header) trace.lines start
  pub alone : RunsLines (sizes_of trace.header) start (take (lines_above trace.go) trace.lines) (run mmu (begun b.start) past)

-- The first pass of the board has no hand left.
pub record HasNoHand (b : BoardView) (past : List (Step Kind)) (t : PassView) : Type 0 where
  pub fits : Fits b t
  pub split : steps_before_split t.knows ≡ Some past
  pub hands : t.hands ≡ replicate (length b.start.hands) None

-- The workers of a trace, posted at a board: one for each actor, in the order of the actors. `Ready` says what holds of them.
pub record IsCrew (Ready : BoardView → List (Step Kind) → List Post → Type 0) (trace : Trace) (crew : Crew) : Type 0 where
  pub past : List (Step Kind)
  pub begun : HasBegun trace crew.board past
  pub first : HasNoHand crew.board past crew.pass
  pub count : length crew.workers.items ≡ actors_of (sizes_of trace.header)
  pub wide : length crew.board.start.hands ≡ actors_of (sizes_of trace.header)
  pub workers : Ready crew.board past crew.workers.items

abbrev pub IsMustered : Trace → Crew → Type 0
IsMustered trace crew = IsCrew AreReady trace crew

abbrev pub HasWorked : Trace → Crew → Type 0
HasWorked trace crew = IsCrew AllHaveRun trace crew

-- One pass of the board has every hand, each of which has answered all its lines. Its first hand was split off after the lines above `go` had run.
pub record IsCollected (trace : Trace) (b : BoardView) (t : PassView) : Type 0 where
  pub past : List (Step Kind)
  pub begun : HasBegun trace b past
  pub fits : Fits b t
  pub split : steps_before_split t.knows ≡ Some past
  pub count : length t.hands ≡ actors_of (sizes_of trace.header)
  pub all : AllHands t.hands
  pub done : (i : ℕ) (h : Handful) → Holds t.hands i h → has_line h.core ≡ false
