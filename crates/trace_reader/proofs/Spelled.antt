-- Which words spell a number.
use Rattle.std.proofs.Common.{◌≡◌, ◌≤◌, ◌<◌, ◌+◌, ◌-◌, ◌*◌, ◌^◌, inl, inr, ℕ, List, [], ◌∷◌, length, get_or, Bool, true, false, cond, arith, refl}
use Rattle.std.proofs.Common.{sym, ap, subst, ◌==◌, ◌&&◌, ◌||◌, nat_lt, not, zero, suc}
use Rattle.std.proofs.lemmas.Bool.Decides.{nat_tests}
use Rattle.std.proofs.lemmas.Str.Parse.{IsNumeralModel, IsDigitsTest, FoldsDigits, numerals_by_fold}
use Rattle.std.proofs.lemmas.Fmt.{decimal-digits_value, digits_decimal, digits_value-decimal, decimal_nonempty, first_decimal, decimal_digit}
use Rattle.std.specs.Fmt.{decimal}
use Rattle.std.specs.Int.{IsInRange}
use Rattle.std.specs.List.{list_all}
use Rattle.std.specs.declared.option.Option.{Option}
use Rattle.std.specs.declared.option.Option.TheVariants.{Some, None}
use Rattle.trace_reader.specs.Numbers.{is_digit, is_hex_digit, digit, value, value_after, if_small, has_no_needless_zero, decimal_number, hex_number}
use Rattle.trace_reader.specs.Numbers.{spelled_number}
use Rattle.trace_reader.specs.Grammar.{Spells}
use Rattle.trace_reader.proofs.Results.{branch}

abbrev pub AreDigits : List ℕ → Type 0
AreDigits ds = list_all is_digit ds ≡ true

small : (c : ℕ) → IsInRange 48 57 c → digit c ≡ c - 48
small c range = grind (arith, nat_tests)

both : (a b : Bool) → (a && b) ≡ true → (a ≡ true) × (b ≡ true)
both true b e = (refl, e)
both false b e = cc

joined : (a b : Bool) → a ≡ true → b ≡ true → (a && b) ≡ true
joined a b p q = rw (p, q) refl

in_range : (c : ℕ) → is_digit c ≡ true → IsInRange 48 57 c
in_range c e = (grind (arith, nat_tests), grind (arith, nat_tests))

is_in : (c : ℕ) → IsInRange 48 57 c → is_digit c ≡ true
is_in c range = grind (arith, nat_tests)

folds : FoldsDigits (value_after 10)
folds = record { empty = λ n. refl; more = λ n c cs range. ap (λ d. value_after 10 (n * 10 + d) cs) (small c range) }

tests : IsDigitsTest AreDigits
tests = record {
  empty = refl;
  parts = λ c cs h. let b = both (is_digit c) (list_all is_digit cs) h in (in_range c b.0, b.1);
  more = λ c cs range h. joined (is_digit c) (list_all is_digit cs) (is_in c range) h;
}

pub own : IsNumeralModel AreDigits (value_after 10 0)
own = numerals_by_fold _ tests (value_after 10) folds

taken : (b : Bool) (x : Option ℕ) (n : ℕ) → cond b x None ≡ Some n → (b ≡ true) × (x ≡ Some n)
taken true x n e = (refl, e)
taken false x n e = cc

fitted : (v n : ℕ) → if_small v ≡ Some n → (v ≡ n) × (v < 2 ^ 64)
fitted v n e = let t = taken (nat_lt v (2 ^ 64)) (Some v) n e in (cc, grind (arith, nat_tests, t.0))

canonical : (ds : List ℕ) → has_no_needless_zero ds ≡ true → (0 < length ds) × (get_or ds 0 0 ≡ 48 → length ds ≡ 1)
canonical ds e =
    let b = both (nat_lt 0 (length ds)) (nat_lt (length ds) 2 || not (get_or ds 0 0 == 48)) e in
    let some : 0 < length ds = grind (arith, nat_tests, b.0) in
    (some, λ zero. grind (arith, nat_tests, b.1, zero, some))

-- A word that is read in decimal is what the number prints as, and what a number prints as is read.
pub decimal_found : (ds : List ℕ) (n : ℕ) → decimal_number ds ≡ Some n → (n < 2 ^ 64) × (ds ≡ decimal n)
unfolding value
decimal_found ds n e =
    let t = taken (has_no_needless_zero ds && list_all is_digit ds) (if_small (value_after 10 0 ds)) n e in
    let b = both (has_no_needless_zero ds) (list_all is_digit ds) t.0 in
    let f = fitted (value_after 10 0 ds) n t.1 in
    let k = canonical ds b.0 in
    (subst (λ (m : ℕ). m < 2 ^ 64) f.0 f.1, sym (subst (λ (m : ℕ). decimal m ≡ ds) f.0 (decimal-digits_value own ds b.1 k.0 k.1 f.1)))

reads : (ds : List ℕ) (n : ℕ) → AreDigits ds → has_no_needless_zero ds ≡ true → value_after 10 0 ds ≡ n → n < 2 ^ 64 → decimal_number ds ≡ Some n
unfolding value
reads ds n digits plain v lt =
    let t : nat_lt n (2 ^ 64) ≡ true = grind (arith, nat_tests) in
    rw (plain, digits, v, t) refl

plain : (n : ℕ) → n < 2 ^ 64 → has_no_needless_zero (decimal n) ≡ true
plain zero lt = rw (decimal_digit 0 (omega arith)) refl
plain (suc n) lt =
    let some : 0 < length (decimal (suc n)) = decimal_nonempty (suc n) lt in
    let first : 48 < get_or (decimal (suc n)) 0 0 = first_decimal (suc n) (omega arith) lt in
    joined (nat_lt 0 (length (decimal (suc n)))) (nat_lt (length (decimal (suc n))) 2 || not (get_or (decimal (suc n)) 0 0 == 48))
    (grind (arith, nat_tests, some)) (grind (arith, nat_tests, first))

pub decimal_only : (n : ℕ) → n < 2 ^ 64 → decimal_number (decimal n) ≡ Some n
decimal_only n lt = reads (decimal n) n (digits_decimal own n lt) (plain n lt) (digits_value-decimal own n lt) lt

skip : (p q : Bool) (x y z : Option ℕ) → p ≡ false → y ≡ z → cond (p && q) x y ≡ z
skip true q x y z differs e = cc
skip false q x y z differs e = e

-- A word that is read in decimal does not begin with `0x`.
plain_word : (w : List ℕ) (n : ℕ) → decimal_number w ≡ Some n → spelled_number w ≡ Some n
plain_word [] n e = cc
plain_word (a ∷ []) n e = e
plain_word (a ∷ b ∷ ds) n e =
    let t = taken (has_no_needless_zero (a ∷ b ∷ ds) && list_all is_digit (a ∷ b ∷ ds)) (if_small (value 10 (a ∷ b ∷ ds))) n e in
    let c = canonical (a ∷ b ∷ ds) (both (has_no_needless_zero (a ∷ b ∷ ds)) (list_all is_digit (a ∷ b ∷ ds)) t.0).0 in
    let other : (a ≡ 48) → ⊥ = λ is. (let two : length (a ∷ b ∷ ds) ≡ 1 = c.1 is in absurd (omega arith)) in
    skip (a == 48) (b == 120) (hex_number ds) (decimal_number (a ∷ b ∷ ds)) (Some n) (grind (arith, nat_tests, other)) e

hex_read : (ds : List ℕ) (n : ℕ) → n < 2 ^ 64 → 1 ≤ length ds → length ds ≤ 16 → list_all is_hex_digit ds ≡ true → value 16 ds ≡ n → hex_number ds ≡ Some n
hex_read ds n lt low high all v =
    let some : nat_lt 0 (length ds) ≡ true = grind (arith, nat_tests) in
    let few : nat_lt (length ds) 17 ≡ true = grind (arith, nat_tests) in
    let fit : nat_lt n (2 ^ 64) ≡ true = grind (arith, nat_tests) in
    rw (some, few, all, v, fit) refl

hex_found : (ds : List ℕ) (n : ℕ) → hex_number ds ≡ Some n
    → (n < 2 ^ 64) × (1 ≤ length ds) × (length ds ≤ 16) × (list_all is_hex_digit ds ≡ true) × (value 16 ds ≡ n)
hex_found ds n e =
    let t = taken (nat_lt 0 (length ds) && nat_lt (length ds) 17 && list_all is_hex_digit ds) (if_small (value 16 ds)) n e in
    let b = both (nat_lt 0 (length ds) && nat_lt (length ds) 17) (list_all is_hex_digit ds) t.0 in
    let l = both (nat_lt 0 (length ds)) (nat_lt (length ds) 17) b.0 in
    let f = fitted (value 16 ds) n t.1 in
    (subst (λ (m : ℕ). m < 2 ^ 64) f.0 f.1, grind (arith, nat_tests, l.0), grind (arith, nat_tests, l.1), b.1, f.0)

-- A word that spells a number is read, and a word that is read spells its number.
pub spelled : (w : List ℕ) (n : ℕ) → Spells w n → spelled_number w ≡ Some n
spelled w n (lt, inl e) = rw e (plain_word (decimal n) n (decimal_only n lt))
spelled w n (lt, inr (ds, e, low, high, all, v)) = rw e (hex_read ds n lt low high all v)

pub spelling : (w : List ℕ) (n : ℕ) → spelled_number w ≡ Some n → Spells w n
spelling [] n e = cc
spelling (a ∷ []) n e = let d = decimal_found (a ∷ []) n e in (d.0, inl d.1)
spelling (a ∷ b ∷ ds) n e = elim (branch (a == 48 && b == 120) (hex_number ds) (decimal_number (a ∷ b ∷ ds)) (Some n) e) [
  | inl h ↦ let t = both (a == 48) (b == 120) h.0 in
      let zero : a ≡ 48 = grind (arith, nat_tests, t.0) in
      let x : b ≡ 120 = grind (arith, nat_tests, t.1) in
      let f = hex_found ds n h.1 in
      (f.0, inr (ds, rw (zero, x) refl, f.1, f.2, f.3, f.4))
  | inr h ↦ let d = decimal_found (a ∷ b ∷ ds) n h.1 in (d.0, inl d.1)
]
