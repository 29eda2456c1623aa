-- Which of the checks a line passes that look at no words.
use Rattle.std.proofs.Common.{◌≡◌, ◌≤◌, ◌⊎◌, inl, inr, ℕ, List, [], ◌∷◌, Bool, true, false, length, refl, arith, ◌||◌, nat_le}
use Rattle.std.specs.List.{list_all}
use Rattle.std.proofs.lemmas.Bool.Decides.{nat_tests}
use Rattle.std.proofs.lemmas.List.Elements.{All-nil, All-cons, All-head, All-tail}
use Rattle.std.specs.declared.option.Option.{Option}
use Rattle.std.specs.declared.option.Option.TheVariants.{Some, None}
use Rattle.trace_reader.specs.declared.reason.Reason.{Reason}
use Rattle.trace_reader.specs.declared.reason.Reason.TheVariants as reason
use Rattle.trace_reader.specs.Forms.{is_empty}
use Rattle.trace_reader.specs.Lines.{Raw, is_plain, first_failing, fault_of}
use Rattle.trace_reader.specs.InputGrammar.{ArePlain, PassesAll, FailsFirst}
use Rattle.trace_reader.proofs.Results.{both}

plain_byte : (b : ℕ) → is_plain b ≡ true → (32 ≤ b) × (b ≤ 126)
plain_byte b e = (grind (arith, nat_tests), grind (arith, nat_tests))

byte_plain : (b : ℕ) → (32 ≤ b) × (b ≤ 126) → is_plain b ≡ true
byte_plain b (low, high) = grind (arith, nat_tests)

pub bytes_plain : (bs : List ℕ) → list_all is_plain bs ≡ true → ArePlain bs
bytes_plain [] e = All-nil (λ (b : ℕ). (32 ≤ b) × (b ≤ 126))
bytes_plain (b ∷ bs) e =
    let t = both (is_plain b) (list_all is_plain bs) e in All-cons (λ (x : ℕ). (32 ≤ x) × (x ≤ 126)) b bs (plain_byte b t.0) (bytes_plain bs t.1)

pub plain_bytes : (bs : List ℕ) → ArePlain bs → list_all is_plain bs ≡ true
plain_bytes [] are = refl
plain_bytes (b ∷ bs) are =
    rw (byte_plain b (All-head (λ (x : ℕ). (32 ≤ x) × (x ≤ 126)) b bs are), plain_bytes bs (All-tail (λ (x : ℕ). (32 ≤ x) × (x ≤ 126)) b bs are)) refl

at_most : (m n : ℕ) → m ≤ n → nat_le m n ≡ true
at_most m n le = grind (arith, nat_tests)

most : (m n : ℕ) → nat_le m n ≡ true → m ≤ n
most m n e = grind (arith, nat_tests)

ended : (b : Bool) (bytes : List ℕ) → (b ≡ true) ⊎ (bytes ≡ []) → (b || is_empty bytes) ≡ true
ended true bytes is = refl
ended false bytes (inl e) = cc
ended false bytes (inr e) = rw e refl

none_left : (bytes : List ℕ) → is_empty bytes ≡ true → bytes ≡ []
none_left [] e = refl
none_left (b ∷ bs) e = let z : length (b ∷ bs) ≡ 0 = grind (arith, nat_tests) in absurd (omega arith)

is_ended : (b : Bool) (bytes : List ℕ) → (b || is_empty bytes) ≡ true → (b ≡ true) ⊎ (bytes ≡ [])
is_ended true bytes e = inl refl
is_ended false bytes e = inr (none_left bytes e)

-- The first check that fails, or none.
abbrev pub Judged : Raw → Option Reason → Type 0
Judged line None = PassesAll line
Judged line (Some r) = FailsFirst line r

by_checks : (line : Raw) (a b c d e : Bool) → nat_le line.end 16777216 ≡ a → nat_le line.number 1000000 ≡ b
    → (line.ended_by_lf || is_empty line.bytes) ≡ c → nat_le (length line.bytes) 65536 ≡ d → list_all is_plain line.bytes ≡ e
    → Judged line (first_failing ((a, reason.Size) ∷ (b, reason.Lines) ∷ (c, reason.Cut) ∷ (d, reason.Long) ∷ (e, reason.Byte) ∷ []))
by_checks line false b c d e is0 is1 is2 is3 is4 = λ p. let t = at_most line.end 16777216 p in cc
by_checks line true false c d e is0 is1 is2 is3 is4 = (most _ _ is0, λ p. let t = at_most line.number 1000000 p in cc)
by_checks line true true false d e is0 is1 is2 is3 is4 = (most _ _ is0, most _ _ is1, λ p. let t = ended line.ended_by_lf line.bytes p in cc)
by_checks line true true true false e is0 is1 is2 is3 is4 =
    (most _ _ is0, most _ _ is1, is_ended line.ended_by_lf line.bytes is2, λ p. let t = at_most (length line.bytes) 65536 p in cc)
by_checks line true true true true false is0 is1 is2 is3 is4 =
    (most _ _ is0, most _ _ is1, is_ended line.ended_by_lf line.bytes is2, most _ _ is3, λ p. let t = plain_bytes line.bytes p in cc)
by_checks line true true true true true is0 is1 is2 is3 is4 =
    (most _ _ is0, most _ _ is1, is_ended line.ended_by_lf line.bytes is2, most _ _ is3, bytes_plain line.bytes is4)

pub judged : (line : Raw) → Judged line (fault_of line)
unfolding fault_of
judged line =
    by_checks line (nat_le line.end 16777216) (nat_le line.number 1000000) (line.ended_by_lf || is_empty line.bytes)
    (nat_le (length line.bytes) 65536) (list_all is_plain line.bytes) refl refl refl refl refl

-- A line that passes all has no fault.
pub faultless : (line : Raw) → PassesAll line → fault_of line ≡ None
unfolding fault_of
faultless line (a, b, c, d, e) =
    rw (
      at_most line.end 16777216 a,
      at_most line.number 1000000 b,
      ended line.ended_by_lf line.bytes c,
      at_most (length line.bytes) 65536 d,
      plain_bytes line.bytes e,
    ) refl

failing : (b : Bool) → (b ≡ true → ⊥) → b ≡ false
failing true never = absurd (never refl)
failing false never = refl

-- The first check that fails is its fault.
pub faulty : (line : Raw) (r : Reason) → FailsFirst line r → fault_of line ≡ Some r
unfolding fault_of
faulty line reason.Size a = let t : nat_le line.end 16777216 ≡ false = failing _ (λ e. a (most _ _ e)) in rw t refl
faulty line reason.Lines (a, b) =
    let t : nat_le line.number 1000000 ≡ false = failing _ (λ e. b (most _ _ e)) in
    rw (at_most line.end 16777216 a, t) refl
faulty line reason.Cut (a, b, c) =
    let t : (line.ended_by_lf || is_empty line.bytes) ≡ false = failing _ (λ e. c (is_ended line.ended_by_lf line.bytes e)) in
    rw (at_most line.end 16777216 a, at_most line.number 1000000 b, t) refl
faulty line reason.Long (a, b, c, d) =
    let t : nat_le (length line.bytes) 65536 ≡ false = failing _ (λ e. d (most _ _ e)) in
    rw (at_most line.end 16777216 a, at_most line.number 1000000 b, ended line.ended_by_lf line.bytes c, t) refl
faulty line reason.Byte (a, b, c, d, e) =
    let t : list_all is_plain line.bytes ≡ false = failing _ (λ p. e (bytes_plain line.bytes p)) in
    rw (at_most line.end 16777216 a, at_most line.number 1000000 b, ended line.ended_by_lf line.bytes c, at_most (length line.bytes) 65536 d, t) refl
faulty line reason.Header a = absurd a
faulty line reason.Word a = absurd a
faulty line reason.Actor a = absurd a
faulty line reason.Number a = absurd a
