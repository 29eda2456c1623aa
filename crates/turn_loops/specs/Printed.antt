-- Lines that ran one after another, and what was printed of them, whoever prints it.
use Rattle.std.specs.Prelude.{◌≤◌, ℕ, List, Result, Ok, Err, take}
use Rattle.core_views.specs.declared.sizes.Sizes.{Sizes}
use Rattle.core_views.specs.declared.trace.Line.{Line}
use Rattle.core_views.specs.Held.{Held}
use Rattle.mmu_core.specs.machine.Machine.{World}
use Rattle.tdp_io.specs.declared.sink.Stop.{Stop}
use Rattle.turn_loops.specs.Marks.{Mark, turns_from}
use Rattle.turn_loops.specs.Replays.{RunsLines}

module _ {V : Type 0} (prints : V → List Mark → V → Type 0) (stops : V → List Mark → Stop → V → Type 0) where
  -- The first lines ran one after another, each alone, from this world to that one, and their turns were printed; or fewer of them ran so.
  abbrev pub PrintsLines : Sizes → World Held → List Line → ℕ → World Held → V → V → Result (Unit {0}) Stop → Type 0
  PrintsLines z start lines count end_ p q (Ok u) = (r : RunsLines z start (take count lines) end_) × prints p (turns_from start r.steps) q
  PrintsLines z start lines count end_ p q (Err stop) =
      (ran : ℕ) × (ran ≤ count) × (r : RunsLines z start (take ran lines) end_) × stops p (turns_from start r.steps) stop q
