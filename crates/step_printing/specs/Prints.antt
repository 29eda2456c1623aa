-- What the program prints, by its status.
use Rattle.std.specs.Prelude.{◌≡◌, ◌⊎◌, ℕ, Bool, true, false, List, Option, Some, None, Result, Ok, Err}
use Rattle.std.specs.Io.KnownBytes.{Appends}
use Rattle.core_views.specs.declared.trace.Trace.{Trace}
use Rattle.core_views.specs.Sizes.{sizes_of}
use Rattle.run_status.specs.Refusals.{refusal_text}
use Rattle.run_status.specs.Statuses.{StopsWriting, WritesUsage}
use Rattle.run_status.specs.declared.status.Status.{Status}
use Rattle.run_status.specs.declared.status.Status.TheVariants.{Done, Usage, Refused, ReadFault, WriteFault, Unfinished, NoMemory}
use Rattle.show_options.specs.Asked.{asked_by}
use Rattle.show_options.specs.Faults.{fault_text, usage_text}
use Rattle.show_options.specs.declared.asked.Asked.{Asked}
use Rattle.show_options.specs.declared.asked.Command.{Command}
use Rattle.show_options.specs.declared.asked.Command.TheVariants.{Weave}
use Rattle.show_options.specs.declared.fault.Fault.{Fault}
use Rattle.tdp_io.specs.Ends.{AppendsPrefix}
use Rattle.trace_reader.specs.declared.reason.Reason.{Reason}
use Rattle.trace_reader.specs.Reading.{reading}
use Rattle.step_printing.specs.Naming.{IsViewOf, LacksWord}
use Rattle.step_printing.specs.Run.{IsOpenRun, IsRun, IsRunSoFar, WritesSome, WritesWhole}
use Rattle.step_printing.specs.declared.view.View.{View}

-- the run that is asked for
abbrev pub command_by : Option Command → Command
command_by None = Weave
command_by (Some command) = command

abbrev pub command_of : Asked → Command
command_of a = command_by a.command

-- The usage was written, or its writing stopped.
abbrev pub WritesHelp : Option (List ℕ) → Option (List ℕ) → Status → Type 0
WritesHelp before after Done = Appends before after usage_text
WritesHelp before after status = StopsWriting usage_text before after status

-- A prefix was written of what is asked for of the trace: of its steps, or of what is wrong with the words.
abbrev pub WritesTracePart : List (List ℕ) → Asked → Trace → ℕ → Option (List ℕ) → Option (List ℕ) → Type 0
WritesTracePart words a trace limit before after =
    ((v : View) × IsViewOf (sizes_of trace.header) words a v × WritesSome (IsRunSoFar (command_of a) trace limit) v trace before after)
    ⊎ ((fault : Fault) × LacksWord (sizes_of trace.header) words a fault × AppendsPrefix before after (fault_text words fault))

-- what was written of what is asked for of the trace, by the status
abbrev pub WritesTrace : List (List ℕ) → Asked → Trace → ℕ → Option (List ℕ) → Option (List ℕ) → Status → Type 0
WritesTrace words a trace limit before after Done =
    (v : View) × IsViewOf (sizes_of trace.header) words a v × WritesWhole (IsRun (command_of a) trace limit) v trace before after
WritesTrace words a trace limit before after Usage =
    (fault : Fault) × LacksWord (sizes_of trace.header) words a fault × Appends before after (fault_text words fault)
WritesTrace words a trace limit before after (Unfinished actor line) =
    (v : View) × IsViewOf (sizes_of trace.header) words a v × WritesWhole (IsOpenRun (command_of a) trace limit actor line) v trace before after
WritesTrace words a trace limit before after WriteFault = WritesTracePart words a trace limit before after
WritesTrace words a trace limit before after NoMemory = (after ≡ before) ⊎ WritesTracePart words a trace limit before after
WritesTrace words a trace limit before after _ = ⊥

-- A prefix was written of what an input says: of what is asked for of its trace, or of how it is refused.
abbrev pub WritesPartOf : List (List ℕ) → Asked → ℕ → Result Trace (ℕ × Reason) → Option (List ℕ) → Option (List ℕ) → Type 0
WritesPartOf words a limit (Ok trace) before after = WritesTracePart words a trace limit before after
WritesPartOf words a limit (Err e) before after = AppendsPrefix before after (refusal_text e.0 e.1)

-- what was printed of a run where the source had this input left, of which no more than 16777217 bytes are looked at
abbrev pub PrintsRun : List (List ℕ) → Asked → ℕ → List ℕ → Option (List ℕ) → Option (List ℕ) → Status → Type 0
PrintsRun words a limit input before after Done =
    (trace : Trace) × (reading input ≡ Ok trace) × WritesTrace words a trace limit before after Done
PrintsRun words a limit input before after Usage =
    (trace : Trace) × (reading input ≡ Ok trace) × WritesTrace words a trace limit before after Usage
PrintsRun words a limit input before after (Refused line reason) =
    (reading input ≡ Err (line, reason)) × Appends before after (refusal_text line reason)
PrintsRun words a limit input before after ReadFault = after ≡ before
PrintsRun words a limit input before after WriteFault = WritesPartOf words a limit (reading input) before after
PrintsRun words a limit input before after (Unfinished actor line) =
    (trace : Trace) × (reading input ≡ Ok trace) × WritesTrace words a trace limit before after (Unfinished actor line)
PrintsRun words a limit input before after NoMemory = (after ≡ before) ⊎ WritesPartOf words a limit (reading input) before after

-- what was printed where this is asked for: the usage, or a run
abbrev pub PrintsHelping : Bool → List (List ℕ) → Asked → ℕ → List ℕ → Option (List ℕ) → Option (List ℕ) → Status → Type 0
PrintsHelping true words a limit input before after status = WritesHelp before after status
PrintsHelping false words a limit input before after status = PrintsRun words a limit input before after status

-- the same, or what is wrong with the words
abbrev pub PrintsAsked : Result Asked Fault → List (List ℕ) → ℕ → List ℕ → Option (List ℕ) → Option (List ℕ) → Status → Type 0
PrintsAsked (Ok a) words limit input before after status = PrintsHelping a.help words a limit input before after status
PrintsAsked (Err fault) words limit input before after status = WritesUsage (fault_text words fault) before after status

-- what the program printed that was called with these words
abbrev pub Prints : List (List ℕ) → ℕ → List ℕ → Option (List ℕ) → Option (List ℕ) → Status → Type 0
Prints words limit input before after status = PrintsAsked (asked_by words) words limit input before after status
