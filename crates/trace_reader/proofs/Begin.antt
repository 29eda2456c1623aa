-- The first line of an input, and what was read of a source.
use Rattle.std.proofs.Common.{◌≡◌, ◌≤◌, ◌+◌, ℕ, List, [], ◌∷◌, Result, Ok, Err, Bool, true, false, length, cond, refl, ◌++◌, ◌⊎◌, inl, inr, take, arith}
use Rattle.std.proofs.lemmas.List.{take_at, take_all, append-nil}
use Rattle.std.specs.Prelude.{IfSome}
use Rattle.std.specs.Io.KnownBytes.{Consumes, IsAtEnd}
use Rattle.std.specs.declared.option.Option.{Option}
use Rattle.std.specs.declared.option.Option.TheVariants.{Some, None}
use Rattle.core_views.specs.declared.trace.Header.{Header}
use Rattle.core_views.specs.declared.trace.Trace.{Trace}
use Rattle.trace_reader.specs.declared.reason.Reason.{Reason}
use Rattle.trace_reader.specs.Lines.{LineSaid, lines_of, parts_of}
use Rattle.trace_reader.specs.Reading.{under, with_header, head_of, reading, reading_of}
use Rattle.trace_reader.specs.Steps.{Fails, NamesLine}
use Rattle.trace_reader.specs.declared.refusal.ReadError.{ReadError}
use Rattle.trace_reader.specs.declared.refusal.ReadError.TheVariants as errors
use Rattle.trace_reader.proofs.Loop.{part}

-- The first line, and the lines after it.
pub begun : (size : ℕ) (bytes text after : List ℕ) (whole : Bool) → parts_of bytes ≡ text ∷ cond whole (parts_of after) []
    → (whole ≡ false → after ≡ []) → size ≡ length text + cond whole 1 0
    → reading bytes ≡ under (head_of (record { number = 1; end = size; ended_by_lf = whole; bytes = text })) (λ h. lines_of h 2 size false (parts_of after))
unfolding reading reading_of lines_of
begun size bytes text after true e last is =
    let p = part after in
    rw (e, p.2, is) refl
begun size bytes text after false e last is =
    let z : after ≡ [] = last refl in
    let all : size ≡ length text = omega arith in
    rw (e, z, all) refl

pub bad_head : (e : ReadError) (total : Result Trace (ℕ × Reason)) (head : Result Header Reason) (rest : Header → Result (List LineSaid) (ℕ × Reason))
    → total ≡ under head rest → Fails 1 e head → NamesLine {X = Trace} (λ t. t) (Err e) total
bad_head errors.NoMemory total head rest u fails = tt
bad_head (errors.Refused line r) total head rest u fails = rw (u, fails.1, fails.0) refl

pub bad_line :
    (e : ReadError) (total : Result Trace (ℕ × Reason)) (head : Result Header Reason) (h : Header) (rest : Header → Result (List LineSaid) (ℕ × Reason))
    → total ≡ under head rest → head ≡ Ok h → NamesLine {X = Trace} (λ t. t) (Err e) (with_header h (rest h)) → NamesLine {X = Trace} (λ t. t) (Err e) total
bad_line errors.NoMemory total head h rest u is fails = tt
bad_line (errors.Refused line r) total head h rest u is fails = rw (u, is) fails

pub all_read : (t : Trace) (total : Result Trace (ℕ × Reason)) (head : Result Header Reason) (h : Header)
    (rest : Header → Result (List LineSaid) (ℕ × Reason)) → total ≡ under head rest → head ≡ Ok h → with_header h (rest h) ≡ Ok t → total ≡ Ok t
all_read t total head h rest u is more = rw (u, is) more

-- What was read is what is looked at of the input.
front : (xs ys bytes : List ℕ) → xs ≡ bytes ++ ys → length bytes ≤ 16777217 → (length bytes ≡ 16777217) ⊎ (ys ≡ []) → take 16777217 xs ≡ bytes
front xs ys bytes e le (inl full) = rw e (take_at bytes ys 16777217 full)
front xs ys bytes e le (inr none) = rw (e, none, append-nil) (take_all 16777217 bytes le)

pub told : (before after : Option (List ℕ)) (bytes now : List ℕ) (ended : Type 0) (r : Result Trace (ℕ × Reason))
    → Consumes before after bytes × (length bytes ≤ 16777217) × ((length bytes ≡ 16777217) ⊎ (ended × IsAtEnd after)) → now ≡ bytes → reading now ≡ r
    → IfSome before (λ input. reading (take 16777217 input) ≡ r)
told None after bytes now ended r read same is = tt
told (Some xs) None bytes now ended r read same is = absurd read.0
told (Some xs) (Some ys) bytes now ended r read same is =
    let full : (length bytes ≡ 16777217) ⊎ (ys ≡ []) = elim read.2 [ inl h ↦ inl h | inr h ↦ inr h.1 ] in
    rw (front xs ys bytes read.0 read.1 full, ← same) is
