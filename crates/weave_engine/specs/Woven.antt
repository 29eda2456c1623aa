-- What a weave writes, by how it ends.
use Rattle.std.specs.Prelude.{◌≡◌, ◌⊎◌, ℕ, List, ◌++◌, Bool, true, false, Option, Some, None, Result, Ok, Err}
use Rattle.std.specs.Io.KnownBytes.{Appends}
use Rattle.core_views.specs.declared.no_memory.NoMemory.{NoMemory}
use Rattle.core_views.specs.declared.trace.Line.{Line}
use Rattle.core_views.specs.declared.trace.Trace.{Trace}
use Rattle.core_views.specs.Held.{Held}
use Rattle.mmu_core.specs.machine.Machine.{World}
use Rattle.step_seats.specs.Moves.{world_of}
use Rattle.tdp_io.specs.Ends.{Rose}
use Rattle.tdp_io.specs.declared.sink.Stop.{Stop}
use Rattle.tdp_io.specs.declared.sink.Stop.TheVariants.{Failed, NoMemory as Full}
use Rattle.weave_engine.specs.Pieces.{WritesMost}
use Rattle.turn_loops.specs.Turning.{MayStop}
use Rattle.turn_loops.specs.Weaves.{WeavesAll, WeavesPart, WeavesSoFar, unfinished_text}
use Rattle.weave_engine.specs.declared.ran.How.{How}
use Rattle.weave_engine.specs.declared.ran.How.TheVariants.{Done, WriteFault, Unfinished}
use Rattle.weave_engine.specs.declared.ran.OpenLine.{OpenLine}
use Rattle.weave_engine.specs.declared.ran.Ran.{Ran}

-- The whole text of a weave that is over in this world: each line is answered, or its last line names the first one without an answer.
abbrev pub IsWholeText : Trace → ℕ → World Held → List ℕ → Type 0
IsWholeText trace limit closing text =
    WeavesAll trace limit text closing ⊎ ((bytes : List ℕ) × (line : Line) × WeavesPart trace limit bytes closing line × (text ≡ bytes ++ unfinished_text line))

-- A weave came to this world, where it printed this text, and stopped for this: after some of its steps, or at the end, when it was over.
abbrev pub WeavesUntil : Stop → Trace → ℕ → World Held → List ℕ → Type 0
WeavesUntil stop trace limit closing text = ((W : WeavesSoFar trace limit text closing) × MayStop stop W.start W.steps) ⊎ IsWholeText trace limit closing text

-- the actor and the number of a line
abbrev pub open_of : Line → OpenLine
open_of line = record { actor = line.actor; number = line.number }

-- That text was written but for little.
abbrev pub WritesUntil : Stop → Trace → ℕ → World Held → Option (List ℕ) → Option (List ℕ) → Type 0
WritesUntil stop trace limit closing before after = (text : List ℕ) × WeavesUntil stop trace limit closing text × WritesMost before after text

-- All of it was written.
abbrev pub WritesAll : Trace → ℕ → World Held → Option (List ℕ) → Option (List ℕ) → Type 0
WritesAll trace limit closing before after = (bytes : List ℕ) × WeavesAll trace limit bytes closing × Appends before after bytes

-- The rounds ended before this line was answered, the first one in the file.
abbrev pub WritesPart : Trace → ℕ → World Held → Option (List ℕ) → Option (List ℕ) → Line → Type 0
WritesPart trace limit closing before after line =
    (bytes : List ℕ) × WeavesPart trace limit bytes closing line × Appends before after (bytes ++ unfinished_text line)

-- The rounds ended before this line was answered, of which this is the actor and the number.
abbrev pub WritesOpen : Trace → ℕ → World Held → Option (List ℕ) → Option (List ℕ) → OpenLine → Type 0
WritesOpen trace limit closing before after open_ = (line : Line) × (open_of line ≡ open_) × WritesPart trace limit closing before after line

abbrev pub WritesWoven : Trace → ℕ → World Held → Option (List ℕ) → Option (List ℕ) → Result (Option OpenLine) Stop → Type 0
WritesWoven trace limit closing before after (Ok None) = WritesAll trace limit closing before after
WritesWoven trace limit closing before after (Ok (Some open_)) = WritesOpen trace limit closing before after open_
WritesWoven trace limit closing before after (Err stop) = WritesUntil stop trace limit closing before after

-- how a run ended that came to this, where no memory was refused
abbrev pub how_ended : Result (Option OpenLine) Stop → Option How
how_ended (Ok None) = Some Done
how_ended (Ok (Some line)) = Some (Unfinished line.actor line.number)
how_ended (Err Failed) = Some WriteFault
how_ended (Err Full) = None

-- how a run of the engine ended, with this world
abbrev pub WritesBy : Trace → ℕ → World Held → Option (List ℕ) → Option (List ℕ) → How → Type 0
WritesBy trace limit closing before after Done = WritesAll trace limit closing before after
WritesBy trace limit closing before after (Unfinished actor number) = WritesOpen trace limit closing before after (record { actor = actor; number = number })
WritesBy trace limit closing before after WriteFault = WritesUntil Failed trace limit closing before after

abbrev pub WritesWeave : Trace → ℕ → Option (List ℕ) → Option (List ℕ) → Result Ran NoMemory → Type 0
WritesWeave trace limit before after (Ok ran) = WritesBy trace limit (world_of ran.closing.words ran.closing.hands) before after ran.how
WritesWeave trace limit before after (Err e) = (closing : World Held) × WritesUntil Full trace limit closing before after

-- The run ended because a write failed.
abbrev pub ended_by_write_fault : How → Bool
ended_by_write_fault WriteFault = true
ended_by_write_fault Done = false
ended_by_write_fault (Unfinished actor line) = false

abbrev pub ran_failed : Result Ran NoMemory → Bool
ran_failed (Ok ran) = ended_by_write_fault ran.how
ran_failed (Err e) = false

-- The count of failed writes rose where the run ended with a fault of writing, and stayed at any other end.
abbrev pub RoseBy : ℕ → ℕ → How → Type 0
RoseBy before now WriteFault = Rose before now
RoseBy before now Done = now ≡ before
RoseBy before now (Unfinished actor line) = now ≡ before

abbrev pub RanFaults : ℕ → ℕ → Result Ran NoMemory → Type 0
RanFaults before now (Ok ran) = RoseBy before now ran.how
RanFaults before now (Err e) = now ≡ before

-- The same of a run on a machine that was given.
abbrev pub end_failed : Result How NoMemory → Bool
end_failed (Ok how) = ended_by_write_fault how
end_failed (Err e) = false

abbrev pub EndFaults : ℕ → ℕ → Result How NoMemory → Type 0
EndFaults before now (Ok how) = RoseBy before now how
EndFaults before now (Err e) = now ≡ before
