-- What a run of the program does, by its status.
use Rattle.std.specs.Prelude.{◌≡◌, ◌≤◌, ◌⊎◌, ℕ, List, [], ◌∷◌, ◌++◌, length, codes, Bool, true, if◌then◌else◌, Option, Some, None, Result, Ok, Err}
use Rattle.std.specs.Str.{bytes_eq}
use Rattle.std.specs.Io.KnownBytes.{Appends, Consumes, IsAtEnd}
use Rattle.core_views.specs.declared.actor.Actor.{Actor}
use Rattle.core_views.specs.declared.trace.Line.{Line}
use Rattle.core_views.specs.declared.trace.Trace.{Trace}
use Rattle.core_views.specs.Held.{Held}
use Rattle.core_views.specs.Need.{need}
use Rattle.live_engine.specs.Lives.{LivesAll, LivesUntil}
use Rattle.mmu_core.specs.machine.Machine.{World}
use Rattle.tdp_io.specs.declared.sink.Stop.{Stop}
use Rattle.tdp_io.specs.declared.sink.Stop.TheVariants.{Failed, NoMemory as Full}
use Rattle.trace_reader.specs.declared.reason.Reason.{Reason}
use Rattle.trace_reader.specs.Reading.{reading, IsTraceOf, IsRefusalOf}
use Rattle.run_status.specs.Refusals.{refusal_text, rounds_limit}
use Rattle.run_status.specs.declared.status.Status.{Status}
use Rattle.run_status.specs.declared.status.Status.TheVariants.{Done, Usage, Refused, ReadFault, WriteFault, Unfinished, NoMemory}
use Rattle.tdpmmu.specs.Output.{IsWrittenLine, check_text, usage_text}
use Rattle.weave_engine.specs.Pieces.{LeavesFew}
use Rattle.turn_loops.specs.Replays.{Replays, ReplaysUntil}
use Rattle.turn_loops.specs.Weaves.{WeavesAll, WeavesPart, unfinished_text}
use Rattle.weave_engine.specs.Woven.{WeavesUntil}
use Rattle.tdpmmu.specs.declared.command.Command.{Command}
use Rattle.tdpmmu.specs.declared.command.Command.TheVariants.{Check, Replay, Weave, Live}

-- The words are the program's name and the name of a command.
abbrev pub command_named : List ℕ → Option Command
command_named word =
    if bytes_eq word (codes "check") then Some Check else
    if bytes_eq word (codes "replay") then Some Replay else
    if bytes_eq word (codes "weave") then Some Weave else
    if bytes_eq word (codes "live") then Some Live else
    None

abbrev pub command_of : List (List ℕ) → Option Command
command_of (name ∷ word ∷ []) = command_named word
command_of _ = None

-- The whole output of a command on a trace: how long it is and what it needs; what a replay of all its lines prints, which is the
-- text of its flat history where the pool has as many pages as it needs; what a weave prints that answers all of them; or what a live run prints.
abbrev pub IsOutput : Command → Trace → List ℕ → Type 0
IsOutput Check trace bytes = bytes ≡ check_text (length trace.lines) (need trace.header trace.lines)
IsOutput Replay trace bytes = (closing : World Held) × Replays trace trace.lines bytes closing
IsOutput Weave trace bytes = (closing : World Held) × WeavesAll trace rounds_limit bytes closing
IsOutput Live trace bytes = (closing : World Held) × LivesAll trace bytes closing

-- The output of a weave that ran out of turns in rounds: what it printed, and the first line of the file that has no answer.
abbrev pub IsUnfinished : Command → Trace → Actor → ℕ → List ℕ → Type 0
IsUnfinished Weave trace actor number text =
    (closing : World Held) × (bytes : List ℕ) × (line : Line) × WeavesPart trace rounds_limit bytes closing line × (line.actor ≡ actor)
    × (line.number ≡ number) × (text ≡ bytes ++ unfinished_text line)
IsUnfinished _ trace actor number text = ⊥

-- The output of a command that stopped for this, which may have come to only some of the trace's lines: where a write failed, to a line's
-- answer or to the end. A live run writes at its end: there it is the first part of what it had to write.
abbrev pub IsOutputUntil : Stop → Command → Trace → List ℕ → Type 0
IsOutputUntil stop Check trace bytes = IsOutput Check trace bytes
IsOutputUntil stop Replay trace bytes = (closing : World Held) × ReplaysUntil stop trace closing bytes
IsOutputUntil stop Weave trace bytes = (closing : World Held) × WeavesUntil stop trace rounds_limit closing bytes
IsOutputUntil stop Live trace bytes = LivesUntil stop trace bytes

-- the output, so far, of a command for what an input says
abbrev pub IsOutputOf : Stop → Command → Result Trace (ℕ × Reason) → List ℕ → Type 0
IsOutputOf stop command (Ok trace) bytes = IsOutputUntil stop command trace bytes
IsOutputOf stop command (Err e) bytes = bytes ≡ refusal_text e.0 e.1

-- the output, so far, of the command that the words name, if they name one, on an input
abbrev pub IsOutputOn : Stop → Option Command → List ℕ → List ℕ → Type 0
IsOutputOn stop (Some command) input bytes = IsOutputOf stop command (reading input) bytes
IsOutputOn stop None input bytes = bytes ≡ usage_text

-- A prefix of such an output was written, which lacks at most 8,192 bytes and the output's last line; of a live run, whose output is any first part here, that
-- says that some first bytes of what it had to write were written.
abbrev pub WritesPrefix : Stop → Option Command → List ℕ → Option (List ℕ) → Option (List ℕ) → Type 0
WritesPrefix stop asked input before after = (bytes : List ℕ) × IsOutputOn stop asked input bytes × LeavesFew IsWrittenLine before after bytes

-- What the source had left, and whether it has ended; what the sink was given: before a run and after it.
pub record Around : Type 0 where
  pub left : Option (List ℕ)
  pub left_after : Option (List ℕ)
  pub ended : Bool
  pub written : Option (List ℕ)
  pub written_after : Option (List ℕ)

-- The input was read: all that the source had left, or as much of it as is looked at.
pub record IsInputOf (a : Around) (input : List ℕ) : Type 0 where
  pub taken : Consumes a.left a.left_after input
  pub small : length input ≤ 16777217
  pub looked : (length input ≡ 16777217) ⊎ ((a.ended ≡ true) × IsAtEnd a.left_after)

-- A command read this input, or there is none and nothing was taken.
abbrev pub WasRead : Option Command → Around → List ℕ → Type 0
WasRead (Some command) a input = IsInputOf a input
WasRead None a input = Consumes a.left a.left_after []

-- Memory was refused while the input was read, and nothing was written.
abbrev pub StopsReading : Around → Type 0
StopsReading a = (taken : List ℕ) × Consumes a.left a.left_after taken × (length taken ≤ 16777217) × (a.written_after ≡ a.written)

-- What the run did, by its status. Where the source tells what it has left, the input is what was taken of it; where it tells nothing, some input
-- explains the run.
abbrev pub RunsTo : Option Command → Around → Status → Type 0
RunsTo asked a Done = (command : Command) × (asked ≡ Some command) × (input : List ℕ) × (trace : Trace)
    × IsTraceOf a.left a.left_after a.ended input trace × (bytes : List ℕ) × IsOutput command trace bytes × Appends a.written a.written_after bytes
RunsTo asked a Usage = (asked ≡ None) × Consumes a.left a.left_after [] × Appends a.written a.written_after usage_text
RunsTo asked a (Refused line reason) = (command : Command) × (asked ≡ Some command) × (input : List ℕ)
    × IsRefusalOf a.left a.left_after a.ended input line reason × Appends a.written a.written_after (refusal_text line reason)
RunsTo asked a ReadFault = (command : Command) × (asked ≡ Some command) × (input : List ℕ) × Consumes a.left a.left_after input
    × (length input ≤ 16777216) × (a.written_after ≡ a.written)
RunsTo asked a WriteFault = (input : List ℕ) × WasRead asked a input × WritesPrefix Failed asked input a.written a.written_after
RunsTo asked a NoMemory = StopsReading a ⊎ ((input : List ℕ) × WasRead asked a input × WritesPrefix Full asked input a.written a.written_after)
RunsTo asked a (Unfinished actor line) = (command : Command) × (asked ≡ Some command) × (input : List ℕ) × (trace : Trace) × IsTraceOf a.left
    a.left_after a.ended input trace × (bytes : List ℕ) × IsUnfinished command trace actor line bytes × Appends a.written a.written_after bytes

-- The same where the source tells that it had this input left, of which no more than 16777217 bytes are looked at.
abbrev pub Prints : Option Command → List ℕ → Option (List ℕ) → Option (List ℕ) → Status → Type 0
Prints asked input before after Done = (command : Command) × (asked ≡ Some command) × (trace : Trace) × (reading input ≡ Ok trace) × (bytes : List ℕ)
    × IsOutput command trace bytes × Appends before after bytes
Prints asked input before after Usage = (asked ≡ None) × Appends before after usage_text
Prints asked input before after (Refused line reason) =
    (command : Command) × (asked ≡ Some command) × (reading input ≡ Err (line, reason)) × Appends before after (refusal_text line reason)
Prints asked input before after ReadFault = (command : Command) × (asked ≡ Some command) × (after ≡ before)
Prints asked input before after WriteFault = WritesPrefix Failed asked input before after
Prints asked input before after NoMemory = (after ≡ before) ⊎ WritesPrefix Full asked input before after
Prints asked input before after (Unfinished actor line) = (command : Command) × (asked ≡ Some command) × (trace : Trace) × (reading input ≡ Ok trace)
    × (bytes : List ℕ) × IsUnfinished command trace actor line bytes × Appends before after bytes
