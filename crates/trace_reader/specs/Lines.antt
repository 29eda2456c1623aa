-- What the lines after the header say, one after the other.
use Rattle.std.specs.Prelude.{◌+◌, ℕ, List, [], ◌∷◌, Bool, true, false, ◌&&◌, ◌||◌, length, nat_le, ◌==◌, if◌then◌else◌, Result, Ok, Err}
use Rattle.std.specs.List.{slice_split, list_all}
use Rattle.std.specs.declared.option.Option.{Option}
use Rattle.std.specs.declared.option.Option.TheVariants.{Some, None}
use Rattle.core_views.specs.declared.trace.Header.{Header}
use Rattle.trace_reader.specs.declared.reason.Reason.{Reason}
use Rattle.trace_reader.specs.declared.reason.Reason.TheVariants as reason
use Rattle.trace_reader.specs.declared.saying.Saying.{Saying}
use Rattle.trace_reader.specs.declared.saying.Saying.TheVariants.{Does, Go, Schedules}
use Rattle.trace_reader.specs.Operands.{◌>>=◌}
use Rattle.trace_reader.specs.Forms.{is_empty}
use Rattle.trace_reader.specs.Sayings.{said}

-- the parts of an input: LF ends each but the last
abbrev pub parts_of : List ℕ → List (List ℕ)
parts_of bytes = slice_split (λ b. b == 10) bytes

-- A line: its number, how many bytes of the input stand up to its end, whether LF ends it, its bytes before that.
pub record Raw : Type 0 where
  pub number : ℕ
  pub end : ℕ
  pub ended_by_lf : Bool
  pub bytes : List ℕ

-- The byte is one of 0x20 to 0x7e.
abbrev pub is_plain : ℕ → Bool
is_plain b = nat_le 32 b && nat_le b 126

-- the reason of the first check that fails
abbrev pub first_failing : List (Bool × Reason) → Option Reason
first_failing [] = None
first_failing ((holds, r) ∷ checks) = if holds then first_failing checks else Some r

-- the checks before a line's words are looked at, in their order
abbrev pub checks : Raw → List (Bool × Reason)
checks raw =
    (nat_le raw.end 16777216, reason.Size)
    ∷ (nat_le raw.number 1000000, reason.Lines)
    ∷ (raw.ended_by_lf || is_empty raw.bytes, reason.Cut)
    ∷ (nat_le (length raw.bytes) 65536, reason.Long)
    ∷ (list_all is_plain raw.bytes, reason.Byte)
    ∷ []

-- the first of these checks that a line fails
unfoldable pub fault_of : Raw → Option Reason
fault_of raw = first_failing (checks raw)

-- what was read, unless a check failed before
abbrev pub after_checks : {A : Type 0} → Option Reason → Result A Reason → Result A Reason
after_checks (Some r) read = Err r
after_checks None read = read

-- The line has no bytes, or is a comment: its first byte is `#`.
abbrev pub is_skipped : List ℕ → Bool
is_skipped [] = true
is_skipped (b ∷ bs) = b == 35

-- what the bytes of a line say: nothing where it is skipped; `go_seen`: whether `go` stands on a line before
unfoldable pub content : Header → Bool → List ℕ → Result (Option Saying) Reason
content h go_seen bytes = if is_skipped bytes then Ok None else (said h go_seen bytes >>= λ s. Ok (Some s))

-- what a line after the header says
unfoldable pub line_of : Header → Bool → Raw → Result (Option Saying) Reason
line_of h go_seen raw = after_checks (fault_of raw) (content h go_seen raw.bytes)

-- whether `go` was seen, where a line says this
abbrev pub seen_with : Bool → Saying → Bool
seen_with go_seen (Does actor command) = go_seen
seen_with go_seen Go = true
seen_with go_seen (Schedules item) = go_seen

-- the same, where a line may be skipped
abbrev pub seen_after : Bool → Option Saying → Bool
seen_after go_seen None = go_seen
seen_after go_seen (Some s) = seen_with go_seen s

-- a line's number, and what it says
abbrev pub LineSaid : Type 0
LineSaid = ℕ × Saying

-- what line n says in front of what those that follow say, or a refusal of those
abbrev pub with_line : ℕ → Option Saying → Result (List LineSaid) (ℕ × Reason) → Result (List LineSaid) (ℕ × Reason)
with_line n None rest = rest
with_line n (Some s) (Ok told) = Ok ((n, s) ∷ told)
with_line n (Some s) (Err e) = Err e

-- what line n gives and what the lines after it say, or the first refusal: its line and the reason
abbrev pub onto : ℕ → Bool → Result (Option Saying) Reason → (Bool → Result (List LineSaid) (ℕ × Reason)) → Result (List LineSaid) (ℕ × Reason)
onto n go_seen (Err r) rest = Err (n, r)
onto n go_seen (Ok found) rest = with_line n found (rest (seen_after go_seen found))

-- line n with these bytes, behind `at` bytes of the input
abbrev pub raw : ℕ → ℕ → Bool → List ℕ → Raw
raw n at ended bytes = record { number = n; end = at + (length bytes + (if ended then 1 else 0)); ended_by_lf = ended; bytes = bytes }

-- what these parts say, of which the first has number n and stands behind `at` bytes; `go_seen`: whether `go` stands on a line before them
unfoldable pub lines_of : Header → ℕ → ℕ → Bool → List (List ℕ) → Result (List LineSaid) (ℕ × Reason)
lines_of h n at go_seen [] = Ok []
lines_of h n at go_seen (last ∷ []) = if is_empty last then Ok [] else onto n go_seen (line_of h go_seen (raw n at false last)) (λ now. Ok [])
lines_of h n at go_seen (x ∷ y ∷ more) = onto n go_seen (line_of h go_seen (raw n at true x)) (λ now. lines_of h (n + 1) (at + (length x + 1)) now (y ∷ more))
