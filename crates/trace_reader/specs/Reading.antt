-- What an input says, and what reading a source answers.
use Rattle.std.specs.Prelude.{◌≡◌, ◌≤◌, ◌+◌, ℕ, List, [], ◌∷◌, Bool, true, false, length, take, ◌⊎◌, Result, Ok, Err}
use Rattle.std.specs.declared.option.Option.{Option}
use Rattle.std.specs.Io.KnownBytes.{Consumes, IsAtEnd}
use Rattle.core_views.specs.Traces.{IsTrace}
use Rattle.core_views.specs.declared.no_memory.NoMemory.{NoMemory}
use Rattle.core_views.specs.declared.trace.Header.{Header}
use Rattle.core_views.specs.declared.trace.Trace.{Trace}
use Rattle.tdp_io.specs.Ends.{Rose}
use Rattle.trace_reader.specs.declared.reason.Reason.{Reason}
use Rattle.trace_reader.specs.declared.reason.Reason.TheVariants as reason
use Rattle.trace_reader.specs.declared.outcome.Read.{Read}
use Rattle.trace_reader.specs.declared.outcome.Read.TheVariants as outcome
use Rattle.trace_reader.specs.Headers.{header_of}
use Rattle.trace_reader.specs.Forms.{words_of}
use Rattle.trace_reader.specs.Lines.{Raw, LineSaid, parts_of, fault_of, after_checks, lines_of}
use Rattle.trace_reader.specs.Gathered.{actor_lines, go_in, items_in}

-- what line 1 says
unfoldable pub head_of : Raw → Result Header Reason
head_of line = after_checks (fault_of line) (header_of (words_of line.bytes))

-- the trace of this header and what the lines after it say
abbrev pub trace_of : Header → List LineSaid → Trace
trace_of h told = record { header = h; lines = actor_lines told; go = go_in told; items = items_in told }

-- the same, or the first refusal of these lines
abbrev pub with_header : Header → Result (List LineSaid) (ℕ × Reason) → Result Trace (ℕ × Reason)
with_header h (Ok told) = Ok (trace_of h told)
with_header h (Err e) = Err e

-- the header and what stands after it, or the refusal of line 1
abbrev pub under : Result Header Reason → (Header → Result (List LineSaid) (ℕ × Reason)) → Result Trace (ℕ × Reason)
under (Err r) rest = Err (1, r)
under (Ok h) rest = with_header h (rest h)

-- what the parts of an input say
unfoldable pub reading_of : List (List ℕ) → Result Trace (ℕ × Reason)
reading_of [] = Err (1, reason.Header)
reading_of (last ∷ []) = under (head_of (record { number = 1; end = length last; ended_by_lf = false; bytes = last })) (λ h. Ok [])
reading_of (x ∷ y ∷ more) =
    under (head_of (record { number = 1; end = length x + 1; ended_by_lf = true; bytes = x })) (λ h. lines_of h 2 (length x + 1) false (y ∷ more))

-- what an input says: its trace, or the first line that is refused, and the reason
unfoldable pub reading : List ℕ → Result Trace (ℕ × Reason)
reading input = reading_of (parts_of input)

-- The input was taken from the source, which has ended, and says this trace. Where the source does not
-- tell what it has left, some input is meant that explains the answer.
pub record IsTraceOf (before after : Option (List ℕ)) (ended : Bool) (input : List ℕ) (trace : Trace) : Type 0 where
  pub taken : Consumes before after input
  pub small : length input ≤ 16777216
  pub has_ended : ended ≡ true
  pub at_end : IsAtEnd after
  pub says : reading input ≡ Ok trace
  pub in_range : IsTrace trace

-- The input was taken from the source, which has ended unless the input is longer than one may be, and
-- this line is the first that is refused in it, for this reason.
pub record IsRefusalOf (before after : Option (List ℕ)) (ended : Bool) (input : List ℕ) (line : ℕ) (reason : Reason) : Type 0 where
  pub taken : Consumes before after input
  pub small : length input ≤ 16777217
  pub looked : (length input ≡ 16777217) ⊎ ((ended ≡ true) × IsAtEnd after)
  pub says : reading input ≡ Err (line, reason)

-- What reading a source answers: for the bytes that were taken from it where it tells them, and else for some bytes.
abbrev pub Outcome : Option (List ℕ) → Option (List ℕ) → Bool → Result Read NoMemory → Type 0
Outcome before after ended (Ok (outcome.Trace t)) = (input : List ℕ) × IsTraceOf before after ended input t
Outcome before after ended (Ok (outcome.Refused line r)) = (input : List ℕ) × IsRefusalOf before after ended input line r
Outcome before after ended (Ok outcome.ReadFault) = (taken : List ℕ) × Consumes before after taken × (length taken ≤ 16777216)
Outcome before after ended (Err e) = (taken : List ℕ) × Consumes before after taken × (length taken ≤ 16777217)

-- What reading a source of these bytes answers. Bytes after the first 16777217 are not looked at.
abbrev pub Answers : List ℕ → Result Read NoMemory → Type 0
Answers input (Ok (outcome.Trace t)) = reading (take 16777217 input) ≡ Ok t
Answers input (Ok (outcome.Refused line r)) = reading (take 16777217 input) ≡ Err (line, r)
Answers input (Ok outcome.ReadFault) = Unit {0}
Answers input (Err e) = Unit {0}

-- Reading answers a fault only where the count of failed reads rose, and any other answer leaves the count.
abbrev pub ReadingFaults : ℕ → ℕ → Result Read NoMemory → Type 0
ReadingFaults before now (Ok (outcome.Trace t)) = now ≡ before
ReadingFaults before now (Ok (outcome.Refused line r)) = now ≡ before
ReadingFaults before now (Ok outcome.ReadFault) = Rose before now
ReadingFaults before now (Err e) = now ≡ before
