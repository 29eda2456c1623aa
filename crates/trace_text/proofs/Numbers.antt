-- Numbers in a text: each ends at the first byte that is no digit.
use Rattle.std.proofs.Common.{◌≡◌, ◌≤◌, ◌<◌, ◌^◌, ℕ, List, [], ◌∷◌, ◌++◌, length, drop, get_or, arith, refl, ap}
use Rattle.std.proofs.lemmas.Fmt.{decimal_is_IsNumeral, decimal_injective}
use Rattle.std.specs.Char.{digit_value}
use Rattle.std.specs.Fmt.{decimal}
use Rattle.std.specs.Str.Parse.{AllDigits}

-- The first items of equal lists, and what is after them.
pub heads : (c d : ℕ) (r s : List ℕ) → c ∷ r ≡ d ∷ s → c ≡ d
heads c d r s e = ap (λ l. get_or l 0 0) e

pub tails : (c d : ℕ) (r s : List ℕ) → c ∷ r ≡ d ∷ s → r ≡ s
tails c d r s e = ap (drop 1) e

-- Two bytes that differ are not equal.
pub differ : (c d : ℕ) → (c ≡ d → ⊥) → c ≡ d → ⊥
differ c d n e = n e

-- Digits of a base up to a byte that is none, and what comes from there on.
pub parts : (base : ℕ) (xs ys r s : List ℕ) (c d : ℕ) → AllDigits base xs → AllDigits base ys → base ≤ digit_value c → base ≤ digit_value d
    → xs ++ c ∷ r ≡ ys ++ d ∷ s → (xs ≡ ys) × (c ∷ r ≡ d ∷ s)
parts base [] [] r s c d xd yd cs ds e = (refl, e)
parts base [] (y ∷ ys) r s c d xd yd cs ds e =
    let same : digit_value c ≡ digit_value y = ap digit_value (heads c y r (ys ++ d ∷ s) e) in
    absurd (omega (arith, same, cs, yd.0))
parts base (x ∷ xs) [] r s c d xd yd cs ds e =
    let same : digit_value x ≡ digit_value d = ap digit_value (heads x d (xs ++ c ∷ r) s e) in
    absurd (omega (arith, same, ds, xd.0))
parts base (x ∷ xs) (y ∷ ys) r s c d xd yd cs ds e =
    let same : x ≡ y = heads x y (xs ++ c ∷ r) (ys ++ d ∷ s) e in
    let more = parts base xs ys r s c d xd.1 yd.1 cs ds (tails x y (xs ++ c ∷ r) (ys ++ d ∷ s) e) in
    (rw (same, more.0) refl, more.1)

-- A number and the byte after it.
pub number : (m n c d : ℕ) (r s : List ℕ) → m < 2 ^ 64 → n < 2 ^ 64 → 10 ≤ digit_value c → 10 ≤ digit_value d → decimal m ++ c ∷ r ≡ decimal n ++ d ∷ s
    → (m ≡ n) × (r ≡ s)
number m n c d r s mb nb cs ds e =
    let p = parts 10 (decimal m) (decimal n) r s c d (decimal_is_IsNumeral m mb).0.1 (decimal_is_IsNumeral n nb).0.1 cs ds e in
    (decimal_injective m n mb nb p.0, tails c d r s p.1)

-- A space is no digit.
pub space : 10 ≤ digit_value 32
space = omega arith

-- A number does not begin with a byte that is no digit.
pub no_number : (n c d : ℕ) (r s : List ℕ) → n < 2 ^ 64 → 10 ≤ digit_value c → 10 ≤ digit_value d → decimal n ++ c ∷ r ≡ d ∷ s → ⊥
no_number n c d r s nb cs ds e =
    let p = parts 10 (decimal n) [] r s c d (decimal_is_IsNumeral n nb).0.1 tt cs ds e in
    let some : length (decimal n) ≡ 0 = ap length p.0 in
    omega (arith, some, (decimal_is_IsNumeral n nb).0.0)

-- A number of 8 bits is one of 64 bits.
pub small : (n : ℕ) → n < 2 ^ 8 → n < 2 ^ 64
small n b = omega (arith, b)
