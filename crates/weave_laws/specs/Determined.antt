-- That a weave has one meaning: a trace and a limit of rounds determine its steps, and so its text.
use Rattle.std.specs.Prelude.{◌≡◌, ◌⊎◌, ℕ, List, length}
use Rattle.core_views.specs.declared.kind.Kind.{Kind}
use Rattle.core_views.specs.declared.sizes.Sizes.{Sizes}
use Rattle.core_views.specs.declared.trace.Line.{Line}
use Rattle.core_views.specs.declared.trace.Trace.{Trace}
use Rattle.core_views.specs.Held.{Held}
use Rattle.core_views.specs.Sizes.{sizes_of}
use Rattle.mmu_core.specs.machine.Enabled.{mmu}
use Rattle.mmu_core.specs.machine.Machine.{Legal, Step, World, run}
use Rattle.mmu_core.specs.machine.Worlds.{IsStart}
use Rattle.turn_loops.specs.Replays.{Replays}
use Rattle.turn_loops.specs.Rounds.{AllAnswered}
use Rattle.turn_loops.specs.Weaves.{FollowsBoth, FollowsSoFar}
use Rattle.weave_engine.specs.Woven.{IsWholeText}

-- The steps follow all of the trace: the lines above `go` and the items of the schedule had all their turns, and turns in rounds were made until `limit`
-- of them were, or no actor had a line left.
pub record FollowsAll (trace : Trace) (limit : ℕ) (start : World Held) (steps : List (Step Kind)) : Type 0 where
  pub so_far : FollowsSoFar trace limit start steps
  pub both : FollowsBoth trace limit start steps so_far
  pub over : (length so_far.rounds ≡ limit) ⊎ AllAnswered (sizes_of trace.header) (run mmu start steps)

-- Machines of one size, with the same lines, start in one world.
abbrev pub StartsAreOne : Type 0
StartsAreOne = (z : Sizes) (lines : List Line) (start other : World Held) → IsStart z lines start → IsStart z lines other → start ≡ other

-- Steps that may be made from the start of a trace, and that follow all of it, are one list.
abbrev pub StepsAreDetermined : Type 0
StepsAreDetermined =
    (trace : Trace) (limit : ℕ) (start other : World Held) (steps more : List (Step Kind))
    → IsStart (sizes_of trace.header) trace.lines start → IsStart (sizes_of trace.header) trace.lines other
    → Legal mmu start steps → Legal mmu other more → FollowsAll trace limit start steps → FollowsAll trace limit other more
    → (start ≡ other) × (steps ≡ more)

-- Two whole texts of a weave of one trace, with one limit, are the same, whether each line is answered or one is left open; and so are the worlds that they
-- lead to.
abbrev pub TextsAreDetermined : Type 0
TextsAreDetermined =
    (trace : Trace) (limit : ℕ) (closing other : World Held) (text more : List ℕ) → IsWholeText trace limit closing text
    → IsWholeText trace limit other more → (closing ≡ other) × (text ≡ more)

-- Two replays of the same lines of one trace have the same steps, print the same, and lead to the same world, however small the pool is.
abbrev pub ReplaysAreDetermined : Type 0
ReplaysAreDetermined =
    (trace : Trace) (lines : List Line) (bytes more : List ℕ) (closing other : World Held) (R : Replays trace lines bytes closing)
    (S : Replays trace lines more other) → (R.start ≡ S.start) × (R.runs.steps ≡ S.runs.steps) × (bytes ≡ more) × (closing ≡ other)
