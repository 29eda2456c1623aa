-- What the engine's own functions promise each other of what is printed, whoever prints it.
use Rattle.std.specs.Prelude.{◌≡◌, ◌⊎◌, ℕ, List, [], ◌∷◌, ◌++◌, Option, Some, None, Result, Ok, Err, take}
use Rattle.core_views.specs.declared.no_memory.NoMemory.{NoMemory}
use Rattle.core_views.specs.declared.trace.Line.{Line}
use Rattle.core_views.specs.declared.trace.Trace.{Trace}
use Rattle.core_views.specs.Held.{Held}
use Rattle.mmu_core.specs.machine.Machine.{World}
use Rattle.step_seats.specs.Moves.{world_of}
use Rattle.tdp_io.specs.declared.sink.Stop.{Stop}
use Rattle.tdp_io.specs.declared.sink.Stop.TheVariants.{Failed, NoMemory as Full}
use Rattle.turn_loops.specs.Marks.{Mark, Over, turns_from}
use Rattle.turn_loops.specs.Replays.{Replays}
use Rattle.turn_loops.specs.Weaves.{WeavesAll, WeavesPart, WeavesSoFar}
use Rattle.weave_engine.specs.Woven.{open_of}
use Rattle.weave_engine.specs.declared.ran.How.{How}
use Rattle.weave_engine.specs.declared.ran.How.TheVariants.{Done, WriteFault, Unfinished}
use Rattle.weave_engine.specs.declared.ran.OpenLine.{OpenLine}
use Rattle.weave_engine.specs.declared.ran.Ran.{Ran}

module _ {V : Type 0} (prints : V → List Mark → V → Type 0) (stops : V → List Mark → Stop → V → Type 0) where
  -- All lines of a trace ran one after another, each alone, and their turns were printed; or, where that stopped, some of them, or all and the
  -- end was being printed.
  abbrev pub PrintsReplayed : Trace → World Held → V → V → Result (Option OpenLine) Stop → Type 0
  PrintsReplayed trace closing p q (Ok (Some line)) = ⊥
  PrintsReplayed trace closing p q (Ok None) =
      (bytes : List ℕ) × (R : Replays trace trace.lines bytes closing) × prints p (turns_from R.start R.runs.steps ++ Over None ∷ []) q
  PrintsReplayed trace closing p q (Err stop) =
      ((count : ℕ) × (bytes : List ℕ) × (R : Replays trace (take count trace.lines) bytes closing) × stops p (turns_from R.start R.runs.steps) stop q)
      ⊎ ((bytes : List ℕ) × (R : Replays trace trace.lines bytes closing) × stops p (turns_from R.start R.runs.steps ++ Over None ∷ []) stop q)

  -- how a replay was printed, by how it ended with this world; it leaves no line unfinished
  abbrev pub ReplayPrinted : Trace → World Held → V → V → How → Type 0
  ReplayPrinted trace closing p q Done = PrintsReplayed trace closing p q (Ok None)
  ReplayPrinted trace closing p q WriteFault = PrintsReplayed trace closing p q (Err Failed)
  ReplayPrinted trace closing p q (Unfinished actor line) = ⊥

  abbrev pub PrintsReplay : Trace → V → V → Result Ran NoMemory → Type 0
  PrintsReplay trace p q (Ok ran) = ReplayPrinted trace (world_of ran.closing.words ran.closing.hands) p q ran.how
  PrintsReplay trace p q (Err e) = (closing : World Held) × PrintsReplayed trace closing p q (Err Full)

  -- How a replay was printed on a machine that was given, which ended in this world.
  abbrev pub PrintsReplayOn : Trace → World Held → V → V → Result How NoMemory → Type 0
  PrintsReplayOn trace closing p q (Ok how) = ReplayPrinted trace closing p q how
  PrintsReplayOn trace closing p q (Err e) = PrintsReplayed trace closing p q (Err Full)

  -- The trace was woven, and its marks were printed: each line is answered.
  abbrev pub PrintsAll : Trace → ℕ → World Held → V → V → Type 0
  PrintsAll trace limit closing p q =
      (bytes : List ℕ) × (W : WeavesAll trace limit bytes closing) × prints p (W.weaves.so_far.follows.marks ++ Over None ∷ []) q

  -- The rounds ended before this line was answered, of which this is the actor and the number.
  abbrev pub PrintsOpen : Trace → ℕ → World Held → V → V → OpenLine → Type 0
  PrintsOpen trace limit closing p q open_ =
      (line : Line) × (open_of line ≡ open_) × (bytes : List ℕ) × (W : WeavesPart trace limit bytes closing line)
      × prints p (W.weaves.so_far.follows.marks ++ Over (Some line) ∷ []) q

  -- It stopped for this: after some of its steps, or when it was over.
  abbrev pub PrintsUntil : Stop → Trace → ℕ → World Held → V → V → Type 0
  PrintsUntil stop trace limit closing p q =
      ((bytes : List ℕ) × (W : WeavesSoFar trace limit bytes closing) × stops p W.follows.marks stop q)
      ⊎ (((bytes : List ℕ) × (W : WeavesAll trace limit bytes closing) × stops p (W.weaves.so_far.follows.marks ++ Over None ∷ []) stop q)
      ⊎ ((bytes : List ℕ) × (line : Line) × (W : WeavesPart trace limit bytes closing line)
      × stops p (W.weaves.so_far.follows.marks ++ Over (Some line) ∷ []) stop q))

  abbrev pub PrintsWoven : Trace → ℕ → World Held → V → V → Result (Option OpenLine) Stop → Type 0
  PrintsWoven trace limit closing p q (Ok None) = PrintsAll trace limit closing p q
  PrintsWoven trace limit closing p q (Ok (Some open_)) = PrintsOpen trace limit closing p q open_
  PrintsWoven trace limit closing p q (Err stop) = PrintsUntil stop trace limit closing p q

  -- how a weave was printed, by how it ended with this world
  abbrev pub PrintsBy : Trace → ℕ → World Held → V → V → How → Type 0
  PrintsBy trace limit closing p q Done = PrintsAll trace limit closing p q
  PrintsBy trace limit closing p q (Unfinished actor number) = PrintsOpen trace limit closing p q (record { actor = actor; number = number })
  PrintsBy trace limit closing p q WriteFault = PrintsUntil Failed trace limit closing p q

  abbrev pub PrintsWeave : Trace → ℕ → V → V → Result Ran NoMemory → Type 0
  PrintsWeave trace limit p q (Ok ran) = PrintsBy trace limit (world_of ran.closing.words ran.closing.hands) p q ran.how
  PrintsWeave trace limit p q (Err e) = (closing : World Held) × PrintsUntil Full trace limit closing p q

  -- How a weave was printed on a machine that was given, which ended in this world.
  abbrev pub PrintsWeaveOn : Trace → ℕ → World Held → V → V → Result How NoMemory → Type 0
  PrintsWeaveOn trace limit closing p q (Ok how) = PrintsBy trace limit closing p q how
  PrintsWeaveOn trace limit closing p q (Err e) = PrintsUntil Full trace limit closing p q
