-- What the run of a trace wrote is what the whole program owes, at each status.
use Rattle.std.proofs.Common.{◌≡◌, inl, inr, ℕ, List, [], Result, Ok, Err, length, take, refl, arith, ap, sym, subst, ◌∙◌}
use Rattle.std.specs.Prelude.{IfSome}
use Rattle.std.specs.declared.option.Option.{Option}
use Rattle.std.specs.declared.option.Option.TheVariants.{Some, None}
use Rattle.std.specs.Io.KnownBytes.{Appends, Consumes}
use Rattle.core_views.specs.declared.trace.Trace.{Trace}
use Rattle.core_views.specs.Need.{need}
use Rattle.tdp_io.specs.Ends.{AppendsPrefix, Wrote}
use Rattle.tdp_io.specs.declared.sink.Stop.{Stop}
use Rattle.tdp_io.specs.declared.sink.Stop.TheVariants.{Failed, NoMemory as Full}
use Rattle.trace_reader.specs.Reading.{reading, IsTraceOf, IsRefusalOf}
use Rattle.trace_reader.specs.declared.reason.Reason.{Reason}
use Rattle.weave_engine.specs.Pieces.{LeavesFew}
use Rattle.run_status.specs.Refusals.{refusal_text}
use Rattle.run_status.specs.Statuses.{WritesRefusal, WritesUsage, status_ended}
use Rattle.run_status.specs.declared.status.Status.{Status}
use Rattle.run_status.specs.declared.status.Status.TheVariants.{Done, Usage, Refused, ReadFault, WriteFault, Unfinished, NoMemory}
use Rattle.tdpmmu.specs.Output.{IsWrittenLine, check_text, usage_text}
use Rattle.tdpmmu.specs.Run.{Around, IsInputOf, IsOutputOf, Prints, RunsTo, WasRead, WritesPrefix}
use Rattle.tdpmmu.specs.Steps.{WritesOutput}
use Rattle.tdpmmu.specs.declared.command.Command.{Command}
use Rattle.tdpmmu.specs.declared.command.Command.TheVariants.{Check}

whole_trace : (a : Around) (input : List ℕ) (trace : Trace) → IsTraceOf a.left a.left_after a.ended input trace → IsInputOf a input
whole_trace a input trace read = record { taken = read.taken; small = let s = read.small in omega (arith, s); looked = inr (read.has_ended, read.at_end) }

whole_refusal : (a : Around) (input : List ℕ) (line : ℕ) (reason : Reason) → IsRefusalOf a.left a.left_after a.ended input line reason → IsInputOf a input
whole_refusal a input line reason read = record { taken = read.taken; small = read.small; looked = read.looked }

was_read : (asked : Option Command) (command : Command) (a : Around) (input : List ℕ) → asked ≡ Some command → IsInputOf a input → WasRead asked a input
was_read asked command a input is whole = rw is whole

-- A prefix of one line was written.
pub whole_line : (before after : Option (List ℕ)) (text : List ℕ) → IsWrittenLine text → AppendsPrefix before after text
    → LeavesFew IsWrittenLine before after text
whole_line before after text one (n, le, q) =
    record { earlier = []; last = text; are = refl; one_line = inr one; count = n; within = le; written = q; few = omega arith }

-- what a command wrote of the output that it owes an input
part_of : (stop : Stop) (asked : Option Command) (command : Command) (input bytes : List ℕ) (says : Result Trace (ℕ × Reason))
    (before after : Option (List ℕ)) → asked ≡ Some command → reading input ≡ says → IsOutputOf stop command says bytes
    → LeavesFew IsWrittenLine before after bytes → WritesPrefix stop asked input before after
part_of stop asked command input bytes says before after is reads output most = (bytes, rw (is, reads) output, most)

pub trace_runs : (asked : Option Command) (command : Command) (a : Around) (input : List ℕ) (trace : Trace) (status : Status) → asked ≡ Some command
    → IsTraceOf a.left a.left_after a.ended input trace → WritesOutput command trace a.written a.written_after status → RunsTo asked a status
trace_runs asked command a input trace Done is read (bytes, output, writes) = (command, is, input, trace, read, bytes, output, writes)
trace_runs asked command a input trace WriteFault is read (bytes, output, writes) = (
  input,
  was_read asked command a input is (whole_trace a input trace read),
  part_of Failed asked command input bytes (Ok trace) a.written a.written_after is read.says output writes,
)
trace_runs asked command a input trace NoMemory is read (bytes, output, writes) =
    inr (
      input,
      was_read asked command a input is (whole_trace a input trace read),
      part_of Full asked command input bytes (Ok trace) a.written a.written_after is read.says output writes,
    )
trace_runs asked command a input trace Usage is read writes = absurd writes
trace_runs asked command a input trace (Refused line reason) is read writes = absurd writes
trace_runs asked command a input trace ReadFault is read writes = absurd writes
trace_runs asked command a input trace (Unfinished actor line) is read (bytes, output, writes) = (command, is, input, trace, read, bytes, output, writes)

pub refused_runs : (asked : Option Command) (command : Command) (a : Around) (input : List ℕ) (line : ℕ) (reason : Reason) (status : Status)
    → asked ≡ Some command
    → IsRefusalOf a.left a.left_after a.ended input line reason → WritesRefusal line reason a.written a.written_after status → RunsTo asked a status
refused_runs asked command a input line reason (Refused l r) is read writes = (
  command,
  is,
  input,
  subst (λ (n : ℕ). IsRefusalOf a.left a.left_after a.ended input n r) (sym writes.0)
      (subst (IsRefusalOf a.left a.left_after a.ended input line) (sym writes.1) read),
  subst (λ (n : ℕ). Appends a.written a.written_after (refusal_text n r)) (sym writes.0)
      (subst (λ (x : Reason). Appends a.written a.written_after (refusal_text line x)) (sym writes.1) writes.2),
)
refused_runs asked command a input line reason WriteFault is read writes = (
  input,
  was_read asked command a input is (whole_refusal a input line reason read),
  part_of Failed asked command input (refusal_text line reason) (Err (line, reason)) a.written a.written_after is read.says refl
      (whole_line a.written a.written_after (refusal_text line reason) (inr (inr (inl (line, reason, refl)))) writes),
)
refused_runs asked command a input line reason NoMemory is read writes =
    inr (
      input,
      was_read asked command a input is (whole_refusal a input line reason read),
      part_of Full asked command input (refusal_text line reason) (Err (line, reason)) a.written a.written_after is read.says refl
          (whole_line a.written a.written_after (refusal_text line reason) (inr (inr (inl (line, reason, refl)))) writes),
    )
refused_runs asked command a input line reason Done is read writes = absurd writes
refused_runs asked command a input line reason Usage is read writes = absurd writes
refused_runs asked command a input line reason ReadFault is read writes = absurd writes
refused_runs asked command a input line reason (Unfinished actor l) is read writes = absurd writes

prints : (asked : Option Command) (command : Command) (input : List ℕ) (trace : Trace) (before after : Option (List ℕ)) (status : Status) → asked ≡ Some command
    → reading input ≡ Ok trace → WritesOutput command trace before after status → Prints asked input before after status
prints asked command input trace before after Done is says (bytes, output, writes) = (command, is, trace, says, bytes, output, writes)
prints asked command input trace before after WriteFault is says (bytes, output, writes) =
    part_of Failed asked command input bytes (Ok trace) before after is says output writes
prints asked command input trace before after NoMemory is says (bytes, output, writes) =
    inr (part_of Full asked command input bytes (Ok trace) before after is says output writes)
prints asked command input trace before after Usage is says writes = absurd writes
prints asked command input trace before after (Refused line reason) is says writes = absurd writes
prints asked command input trace before after ReadFault is says writes = absurd writes
prints asked command input trace before after (Unfinished actor line) is says (bytes, output, writes) = (command, is, trace, says, bytes, output, writes)

pub trace_prints : (asked : Option Command) (command : Command) (left : Option (List ℕ)) (trace : Trace) (before after : Option (List ℕ))
    (status : Status) → asked ≡ Some command
    → IfSome left (λ input. reading (take 16777217 input) ≡ Ok trace) → WritesOutput command trace before after status
    → IfSome left (λ input. Prints asked (take 16777217 input) before after status)
trace_prints asked command None trace before after status is says writes = tt
trace_prints asked command (Some input) trace before after status is says writes =
    prints asked command (take 16777217 input) trace before after status is says writes

refusal_prints : (asked : Option Command) (command : Command) (input : List ℕ) (line : ℕ) (reason : Reason) (before after : Option (List ℕ))
    (status : Status) → asked ≡ Some command
    → reading input ≡ Err (line, reason) → WritesRefusal line reason before after status → Prints asked input before after status
refusal_prints asked command input line reason before after (Refused l r) is says (same, reasons, writes) = (
  command,
  is,
  says ∙ ap (λ (n : ℕ). Err (n, reason)) (sym same) ∙ ap (λ (x : Reason). Err (l, x)) (sym reasons),
  subst (λ (n : ℕ). Appends before after (refusal_text n r)) (sym same)
      (subst (λ (x : Reason). Appends before after (refusal_text line x)) (sym reasons) writes),
)
refusal_prints asked command input line reason before after WriteFault is says writes =
    part_of Failed asked command input (refusal_text line reason) (Err (line, reason)) before after is says refl
    (whole_line before after (refusal_text line reason) (inr (inr (inl (line, reason, refl)))) writes)
refusal_prints asked command input line reason before after NoMemory is says writes =
    inr (part_of Full asked command input (refusal_text line reason) (Err (line, reason)) before after is says refl
    (whole_line before after (refusal_text line reason) (inr (inr (inl (line, reason, refl)))) writes))
refusal_prints asked command input line reason before after Done is says writes = absurd writes
refusal_prints asked command input line reason before after Usage is says writes = absurd writes
refusal_prints asked command input line reason before after ReadFault is says writes = absurd writes
refusal_prints asked command input line reason before after (Unfinished actor l) is says writes = absurd writes

pub refused_prints : (asked : Option Command) (command : Command) (left : Option (List ℕ)) (line : ℕ) (reason : Reason)
    (before after : Option (List ℕ)) (status : Status) → asked ≡ Some command
    → IfSome left (λ input. reading (take 16777217 input) ≡ Err (line, reason)) → WritesRefusal line reason before after status
    → IfSome left (λ input. Prints asked (take 16777217 input) before after status)
refused_prints asked command None line reason before after status is says writes = tt
refused_prints asked command (Some input) line reason before after status is says writes =
    refusal_prints asked command (take 16777217 input) line reason before after status is says writes

-- No command is named: the usage line was written, or a prefix of it.
usage_part : (stop : Stop) (asked : Option Command) (input : List ℕ) (before after : Option (List ℕ)) → asked ≡ None
    → AppendsPrefix before after usage_text → WritesPrefix stop asked input before after
usage_part stop asked input before after is prefix = rw is (usage_text, refl, whole_line before after usage_text (inr (inl refl)) prefix)

pub usage_runs : (asked : Option Command) (a : Around) (status : Status) → asked ≡ None → Consumes a.left a.left_after []
    → WritesUsage usage_text a.written a.written_after status → RunsTo asked a status
usage_runs asked a Usage is none writes = (is, none, writes)
usage_runs asked a WriteFault is none writes = ([], rw is none, usage_part Failed asked [] a.written a.written_after is writes)
usage_runs asked a NoMemory is none writes = inr ([], rw is none, usage_part Full asked [] a.written a.written_after is writes)
usage_runs asked a Done is none writes = absurd writes
usage_runs asked a (Refused line reason) is none writes = absurd writes
usage_runs asked a ReadFault is none writes = absurd writes
usage_runs asked a (Unfinished actor line) is none writes = absurd writes

usage_says : (asked : Option Command) (input : List ℕ) (before after : Option (List ℕ)) (status : Status) → asked ≡ None
    → WritesUsage usage_text before after status → Prints asked input before after status
usage_says asked input before after Usage is writes = (is, writes)
usage_says asked input before after WriteFault is writes = usage_part Failed asked input before after is writes
usage_says asked input before after NoMemory is writes = inr (usage_part Full asked input before after is writes)
usage_says asked input before after Done is writes = absurd writes
usage_says asked input before after (Refused line reason) is writes = absurd writes
usage_says asked input before after ReadFault is writes = absurd writes
usage_says asked input before after (Unfinished actor line) is writes = absurd writes

pub usage_prints : (asked : Option Command) (left : Option (List ℕ)) (before after : Option (List ℕ)) (status : Status) → asked ≡ None
    → WritesUsage usage_text before after status → IfSome left (λ input. Prints asked (take 16777217 input) before after status)
usage_prints asked None before after status is writes = tt
usage_prints asked (Some input) before after status is writes = usage_says asked (take 16777217 input) before after status is writes

-- What a check wrote.
checked : (before after : Option (List ℕ)) (lines needs : ℕ) → AppendsPrefix before after (check_text lines needs)
    → LeavesFew IsWrittenLine before after (check_text lines needs)
checked before after lines needs prefix = whole_line before after (check_text lines needs) (inr (inr (inr (lines, needs, refl)))) prefix

pub check_writes : (trace : Trace) (before after : Option (List ℕ)) (r : Result (Unit {0}) Stop)
    → Wrote before after r (check_text (length trace.lines) (need trace.header trace.lines)) → WritesOutput Check trace before after (status_ended r)
check_writes trace before after (Ok u) writes = (check_text (length trace.lines) (need trace.header trace.lines), refl, writes)
check_writes trace before after (Err Failed) writes = (
  check_text (length trace.lines) (need trace.header trace.lines),
  refl,
  checked before after (length trace.lines) (need trace.header trace.lines) writes,
)
check_writes trace before after (Err Full) writes = (
  check_text (length trace.lines) (need trace.header trace.lines),
  refl,
  checked before after (length trace.lines) (need trace.header trace.lines) writes,
)
