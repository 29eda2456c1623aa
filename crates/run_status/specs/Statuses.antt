-- The statuses: the exit code of each, its cause, and what is written at those that run no trace.
use Rattle.std.specs.Prelude.{◌≡◌, ℕ, List, Bool, true, false, Option, Result, Ok, Err}
use Rattle.std.specs.Io.KnownBytes.{Appends}
use Rattle.tdp_io.specs.Ends.{AppendsPrefix, Rose}
use Rattle.tdp_io.specs.declared.sink.Stop.{Stop}
use Rattle.tdp_io.specs.declared.sink.Stop.TheVariants.{Failed, NoMemory as Full}
use Rattle.trace_reader.specs.declared.reason.Reason.{Reason}
use Rattle.run_status.specs.Refusals.{refusal_text}
use Rattle.run_status.specs.declared.status.Status.{Status}
use Rattle.run_status.specs.declared.status.Status.TheVariants.{Done, Usage, Refused, ReadFault, WriteFault, Unfinished, NoMemory}

abbrev pub exit_code : Status → ℕ
exit_code Done = 0
exit_code Usage = 2
exit_code (Refused line reason) = 3
exit_code ReadFault = 4
exit_code WriteFault = 5
exit_code (Unfinished actor line) = 6
exit_code NoMemory = 7

-- Writing failed.
abbrev pub status_is_write_fault : Status → Bool
status_is_write_fault WriteFault = true
status_is_write_fault _ = false

-- The count of failed reads rose where the status says that reading failed, and stayed at any other status.
abbrev pub ReadCause : ℕ → ℕ → Status → Type 0
ReadCause before now ReadFault = Rose before now
ReadCause before now _ = now ≡ before

-- The count of failed writes rose where the status says that writing failed, and stayed at any other status.
abbrev pub WriteCause : ℕ → ℕ → Status → Type 0
WriteCause before now WriteFault = Rose before now
WriteCause before now _ = now ≡ before

-- the status of a command that does all its work or stops
abbrev pub status_ended : Result (Unit {0}) Stop → Status
status_ended (Ok u) = Done
status_ended (Err Failed) = WriteFault
status_ended (Err Full) = NoMemory

-- The writing of a text stopped: a prefix of it was written, and the status says why.
abbrev pub StopsWriting : List ℕ → Option (List ℕ) → Option (List ℕ) → Status → Type 0
StopsWriting whole before after WriteFault = AppendsPrefix before after whole
StopsWriting whole before after NoMemory = AppendsPrefix before after whole
StopsWriting whole before after _ = ⊥

-- The usage line was written, or its writing stopped.
abbrev pub WritesUsage : List ℕ → Option (List ℕ) → Option (List ℕ) → Status → Type 0
WritesUsage usage before after Usage = Appends before after usage
WritesUsage usage before after status = StopsWriting usage before after status

-- The line of the refusal was written, or its writing stopped.
abbrev pub WritesRefusal : ℕ → Reason → Option (List ℕ) → Option (List ℕ) → Status → Type 0
WritesRefusal line reason before after (Refused l r) = (l ≡ line) × (r ≡ reason) × Appends before after (refusal_text line reason)
WritesRefusal line reason before after status = StopsWriting (refusal_text line reason) before after status
