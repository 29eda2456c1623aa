-- The lines that are read have numbers that rise, so that they are 1,000,000 at most.
use Rattle.std.proofs.Common.{◌≡◌, ◌≤◌, ◌<◌, ◌+◌, ◌-◌, ℕ, List, [], ◌∷◌, length, get_or, map, subst, arith}
use Rattle.std.specs.List.Sorted.{IsStrictlyIncreasing}
use Rattle.std.specs.Prelude.{Bool, true, false, if◌then◌else◌, Result, Ok, Err}
use Rattle.std.specs.declared.option.Option.{Option}
use Rattle.std.specs.declared.option.Option.TheVariants.{Some, None}
use Rattle.core_views.specs.declared.trace.Header.{Header}
use Rattle.core_views.specs.declared.trace.Line.{Line}
use Rattle.core_views.specs.declared.trace.Trace.{Trace}
use Rattle.trace_reader.specs.declared.reason.Reason.{Reason}
use Rattle.trace_reader.specs.declared.saying.Saying.{Saying}
use Rattle.trace_reader.specs.declared.saying.Saying.TheVariants.{Does, Go, Schedules}
use Rattle.trace_reader.specs.Forms.{is_empty}
use Rattle.trace_reader.specs.Gathered.{actor_lines}
use Rattle.trace_reader.specs.Lines.{Raw, LineSaid, after_checks, content, fault_of, line_of, lines_of, onto, raw, with_line}
use Rattle.trace_reader.specs.Reading.{with_header}
use Rattle.trace_reader.proofs.Checks.{Judged, judged}
use Rattle.trace_reader.proofs.Ranges.{more_rises}

-- the numbers of these lines
abbrev numbers : List Line → List ℕ
numbers lines = map (λ line. line.number) lines

-- These numbers rise, and the first of them is n or more.
record RisesFrom (n : ℕ) (ns : List ℕ) : Type 0 where
  first : 0 < length ns → n ≤ get_or ns 0 0
  rising : IsStrictlyIncreasing ns

abbrev AreRising : ℕ → Result (List LineSaid) (ℕ × Reason) → Type 0
AreRising n (Ok told) = RisesFrom n (numbers (actor_lines told))
AreRising n (Err e) = Unit {0}

none : (n : ℕ) → RisesFrom n []
none n = record { first = λ lt. absurd (omega arith); rising = λ k lt. absurd (omega arith) }

-- Behind a line n, its number or none stands in front of those that follow.
in_front : (n : ℕ) (s : Saying) (told : List LineSaid) → RisesFrom (n + 1) (numbers (actor_lines told)) → RisesFrom n (numbers (actor_lines ((n, s) ∷ told)))
in_front n (Does actor command) told rest = record { first = λ lt. omega arith; rising = more_rises n (numbers (actor_lines told)) rest.first rest.rising }
in_front n Go told rest = record { first = λ lt. let up = rest.first lt in omega (arith, up); rising = rest.rising }
in_front n (Schedules item) told rest = record { first = λ lt. let up = rest.first lt in omega (arith, up); rising = rest.rising }

weaker : (n : ℕ) (x : Result (List LineSaid) (ℕ × Reason)) → AreRising (n + 1) x → AreRising n x
weaker n (Ok told) rest = record { first = λ lt. let up = rest.first lt in omega (arith, up); rising = rest.rising }
weaker n (Err e) rest = tt

onto_rises : (n : ℕ) (go_seen : Bool) (read : Result (Option Saying) Reason) (rest : Bool → Result (List LineSaid) (ℕ × Reason))
    → ((now : Bool) → AreRising (n + 1) (rest now)) → AreRising n (onto n go_seen read rest)
onto_rises n go_seen (Err r) rest all = tt
onto_rises n go_seen (Ok None) rest all = weaker n (rest go_seen) (all go_seen)
onto_rises n go_seen (Ok (Some s)) rest all = by (rest _) (all _)
  where
    by : (x : Result (List LineSaid) (ℕ × Reason)) → AreRising (n + 1) x → AreRising n (with_line n (Some s) x)
    by (Err e) more = tt
    by (Ok told) more = in_front n s told more

lines_rise : (h : Header) (n at : ℕ) (go_seen : Bool) (parts : List (List ℕ)) → AreRising n (lines_of h n at go_seen parts)
unfolding lines_of
lines_rise h n at go_seen [] = none n
lines_rise h n at go_seen (last ∷ []) = by (is_empty last)
  where
    by : (b : Bool) → AreRising n (if b then Ok [] else onto n go_seen (line_of h go_seen (raw n at false last)) (λ now. Ok []))
    by true = none n
    by false = onto_rises n go_seen (line_of h go_seen (raw n at false last)) (λ now. Ok []) (λ now. none (n + 1))
lines_rise h n at go_seen (x ∷ y ∷ more) =
    onto_rises n go_seen (line_of h go_seen (raw n at true x)) (λ now. lines_of h (n + 1) (at + (length x + 1)) now (y ∷ more))
    (λ now. lines_rise h (n + 1) (at + (length x + 1)) now (y ∷ more))

abbrev HasRising : Result Trace (ℕ × Reason) → Type 0
HasRising (Ok t) = IsStrictlyIncreasing (numbers t.lines)
HasRising (Err e) = Unit {0}

under_header : (h : Header) (n : ℕ) (x : Result (List LineSaid) (ℕ × Reason)) → AreRising n x → HasRising (with_header h x)
under_header h n (Ok told) rising = rising.rising
under_header h n (Err e) rising = tt

pub read_rising : (h : Header) (n at : ℕ) (parts : List (List ℕ)) (t : Trace) → with_header h (lines_of h n at false parts) ≡ Ok t
    → IsStrictlyIncreasing (numbers t.lines)
read_rising h n at parts t is = subst HasRising is (under_header h n (lines_of h n at false parts) (lines_rise h n at false parts))

-- So many lines, at most, have numbers from n on: the last number that a line may have is 1,000,000.
abbrev AreFew : ℕ → Result (List LineSaid) (ℕ × Reason) → Type 0
AreFew n (Ok told) = length (actor_lines told) ≤ 1000001 - n
AreFew n (Err e) = Unit {0}

-- A line that says something has one of those numbers.
abbrev IsNumbered : ℕ → Result (Option Saying) Reason → Type 0
IsNumbered n (Ok (Some s)) = n ≤ 1000000
IsNumbered n (Ok None) = Unit {0}
IsNumbered n (Err r) = Unit {0}

numbered : (n : ℕ) (x : Result (Option Saying) Reason) → n ≤ 1000000 → IsNumbered n x
numbered n (Ok (Some s)) le = le
numbered n (Ok None) le = tt
numbered n (Err r) le = tt

line_numbered : (h : Header) (go_seen : Bool) (line : Raw) → IsNumbered line.number (line_of h go_seen line)
unfolding line_of
line_numbered h go_seen line = by (fault_of line) (judged line)
  where
    by : (fault : Option Reason) → Judged line fault → IsNumbered line.number (after_checks fault (content h go_seen line.bytes))
    by (Some r) fails = tt
    by None passes = numbered line.number (content h go_seen line.bytes) passes.1

-- Line n is one line more, or none.
one_more_line : (n : ℕ) (s : Saying) (told : List LineSaid) → n ≤ 1000000 → length (actor_lines told) ≤ 1000001 - (n + 1)
    → length (actor_lines ((n, s) ∷ told)) ≤ 1000001 - n
one_more_line n (Does actor command) told le rest = omega arith
one_more_line n Go told le rest = omega arith
one_more_line n (Schedules item) told le rest = omega arith

still_few : (n : ℕ) (x : Result (List LineSaid) (ℕ × Reason)) → AreFew (n + 1) x → AreFew n x
still_few n (Ok told) rest = omega arith
still_few n (Err e) rest = tt

onto_few : (n : ℕ) (go_seen : Bool) (read : Result (Option Saying) Reason) (rest : Bool → Result (List LineSaid) (ℕ × Reason)) → IsNumbered n read
    → ((now : Bool) → AreFew (n + 1) (rest now)) → AreFew n (onto n go_seen read rest)
onto_few n go_seen (Err r) rest le all = tt
onto_few n go_seen (Ok None) rest le all = still_few n (rest go_seen) (all go_seen)
onto_few n go_seen (Ok (Some s)) rest le all = by (rest _) (all _)
  where
    by : (x : Result (List LineSaid) (ℕ × Reason)) → AreFew (n + 1) x → AreFew n (with_line n (Some s) x)
    by (Err e) more = tt
    by (Ok told) more = one_more_line n s told le more

lines_few : (h : Header) (n at : ℕ) (go_seen : Bool) (parts : List (List ℕ)) → AreFew n (lines_of h n at go_seen parts)
unfolding lines_of
lines_few h n at go_seen [] = omega arith
lines_few h n at go_seen (last ∷ []) = by (is_empty last)
  where
    by : (b : Bool) → AreFew n (if b then Ok [] else onto n go_seen (line_of h go_seen (raw n at false last)) (λ now. Ok []))
    by true = omega arith
    by false = onto_few n go_seen (line_of h go_seen (raw n at false last)) (λ now. Ok []) (line_numbered h go_seen (raw n at false last)) (λ now. omega arith)
lines_few h n at go_seen (x ∷ y ∷ more) =
    onto_few n go_seen (line_of h go_seen (raw n at true x)) (λ now. lines_of h (n + 1) (at + (length x + 1)) now (y ∷ more))
    (line_numbered h go_seen (raw n at true x)) (λ now. lines_few h (n + 1) (at + (length x + 1)) now (y ∷ more))

abbrev HasFew : Result Trace (ℕ × Reason) → Type 0
HasFew (Ok t) = length t.lines ≤ 1000000
HasFew (Err e) = Unit {0}

few_under_header : (h : Header) (n : ℕ) (x : Result (List LineSaid) (ℕ × Reason)) → 1 ≤ n → AreFew n x → HasFew (with_header h x)
few_under_header h n (Ok told) le few = omega arith
few_under_header h n (Err e) le few = tt

-- The lines that are read from line n on, after the header, are 1,000,000 at most.
pub read_few : (h : Header) (n at : ℕ) (parts : List (List ℕ)) (t : Trace) → 1 ≤ n → with_header h (lines_of h n at false parts) ≡ Ok t
    → length t.lines ≤ 1000000
read_few h n at parts t le is = subst HasFew is (few_under_header h n (lines_of h n at false parts) le (lines_few h n at false parts))
