-- What the engine's own functions promise each other of what is written.
use Rattle.std.specs.Prelude.{◌≡◌, ◌≤◌, ℕ, List, ◌++◌, Option, Some, None, Result, Ok, Err, length}
use Rattle.std.specs.Io.KnownBytes.{Appends}
use Rattle.core_views.specs.declared.no_memory.NoMemory.{NoMemory}
use Rattle.core_views.specs.declared.trace.Trace.{Trace}
use Rattle.core_views.specs.Held.{Held}
use Rattle.mmu_core.specs.machine.Machine.{World}
use Rattle.step_seats.specs.Moves.{world_of}
use Rattle.tdp_io.specs.Ends.{AppendsPrefix}
use Rattle.tdp_io.specs.declared.sink.Stop.{Stop}
use Rattle.tdp_io.specs.declared.sink.Stop.TheVariants.{Failed, NoMemory as Full}
use Rattle.weave_engine.specs.Pieces.{WritesMost, most_waiting}
use Rattle.turn_loops.specs.Replays.{Replays, ReplaysUntil}
use Rattle.weave_engine.specs.declared.ran.How.{How}
use Rattle.weave_engine.specs.declared.ran.How.TheVariants.{Done, WriteFault, Unfinished}
use Rattle.weave_engine.specs.declared.ran.OpenLine.{OpenLine}
use Rattle.weave_engine.specs.declared.ran.Ran.{Ran}

-- A text was put: what was written by it, and what waits after it, are what waited before and the text, and at most 8,192 bytes wait. Where the
-- writing stopped, a prefix of what waited and of the text was written.
abbrev pub Buffers : Option (List ℕ) → Option (List ℕ) → List ℕ → List ℕ → Result (Unit {0}) Stop → List ℕ → Type 0
Buffers before after waited waits (Ok u) text =
    (written : List ℕ) × Appends before after written × (written ++ waits ≡ waited ++ text) × (length waits ≤ most_waiting)
Buffers before after waited waits (Err e) text = AppendsPrefix before after (waited ++ text)

-- What a replay of all lines prints was written, and no line is open; or, where it stopped, what it had printed but for little.
abbrev pub WritesLines : Trace → World Held → Option (List ℕ) → Option (List ℕ) → Result (Option OpenLine) Stop → Type 0
WritesLines trace closing before after (Ok (Some line)) = ⊥
WritesLines trace closing before after (Ok None) = (bytes : List ℕ) × Replays trace trace.lines bytes closing × Appends before after bytes
WritesLines trace closing before after (Err stop) = (bytes : List ℕ) × ReplaysUntil stop trace closing bytes × WritesMost before after bytes

-- What a replay wrote, by how it ended with this world. It leaves no line unfinished.
abbrev pub ReplaysBy : Trace → World Held → Option (List ℕ) → Option (List ℕ) → How → Type 0
ReplaysBy trace closing before after Done = WritesLines trace closing before after (Ok None)
ReplaysBy trace closing before after WriteFault = WritesLines trace closing before after (Err Failed)
ReplaysBy trace closing before after (Unfinished actor line) = ⊥

abbrev pub WritesReplay : Trace → Option (List ℕ) → Option (List ℕ) → Result Ran NoMemory → Type 0
WritesReplay trace before after (Ok ran) = ReplaysBy trace (world_of ran.closing.words ran.closing.hands) before after ran.how
WritesReplay trace before after (Err e) = (closing : World Held) × WritesLines trace closing before after (Err Full)

-- What a replay wrote on a machine that was given, which ended in this world.
abbrev pub WritesReplayOn : Trace → World Held → Option (List ℕ) → Option (List ℕ) → Result How NoMemory → Type 0
WritesReplayOn trace closing before after (Ok how) = ReplaysBy trace closing before after how
WritesReplayOn trace closing before after (Err e) = WritesLines trace closing before after (Err Full)
