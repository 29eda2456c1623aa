-- What a command writes of a trace, by its status.
use Rattle.std.specs.Prelude.{ℕ, List, Option, Result, Ok, Err}
use Rattle.std.specs.Io.KnownBytes.{Appends}
use Rattle.run_status.specs.declared.status.Status.{Status}
use Rattle.run_status.specs.declared.status.Status.TheVariants.{Done, WriteFault, Unfinished, NoMemory}
use Rattle.core_views.specs.declared.trace.Trace.{Trace}
use Rattle.live_engine.specs.Lives.{LivesUntil}
use Rattle.tdp_io.specs.declared.sink.Stop.{Stop}
use Rattle.tdp_io.specs.declared.sink.Stop.TheVariants.{Failed, NoMemory as Full}
use Rattle.tdpmmu.specs.Output.{IsWrittenLine}
use Rattle.tdpmmu.specs.Run.{IsOutput, IsOutputUntil, IsUnfinished}
use Rattle.tdpmmu.specs.declared.command.Command.{Command}
use Rattle.tdpmmu.specs.declared.command.Command.TheVariants.{Live}
use Rattle.weave_engine.specs.Pieces.{LeavesFew}

-- The whole output of a command on a trace was written, or its output as far as it came but for little.
abbrev pub WritesOutput : Command → Trace → Option (List ℕ) → Option (List ℕ) → Status → Type 0
WritesOutput command trace before after Done = (bytes : List ℕ) × IsOutput command trace bytes × Appends before after bytes
WritesOutput command trace before after WriteFault = (bytes : List ℕ) × IsOutputUntil Failed command trace bytes × LeavesFew IsWrittenLine before after bytes
WritesOutput command trace before after NoMemory = (bytes : List ℕ) × IsOutputUntil Full command trace bytes × LeavesFew IsWrittenLine before after bytes
WritesOutput command trace before after (Unfinished actor line) = (bytes : List ℕ) × IsUnfinished command trace actor line bytes × Appends before after bytes
WritesOutput command trace before after _ = ⊥

-- What a live run wrote: all of its output, or the first part of it.
abbrev pub WritesLive : Trace → Option (List ℕ) → Option (List ℕ) → Result (Unit {0}) Stop → Type 0
WritesLive trace before after (Ok u) = (bytes : List ℕ) × IsOutput Live trace bytes × Appends before after bytes
WritesLive trace before after (Err stop) = (bytes : List ℕ) × LivesUntil stop trace bytes × LeavesFew IsWrittenLine before after bytes
