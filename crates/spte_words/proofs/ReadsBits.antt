-- A bit is read where it was set: a word is what lies below the bit, the bit, and what lies above it.
use Rattle.std.proofs.Common.{◌≡◌, ◌+◌, ◌*◌, ◌/◌, ◌%◌, ◌^◌, ◌<◌, ◌≤◌, ℕ, true, false, arith, ap, ◌∙◌, eq-eqb}
use Rattle.std.specs.Prelude.{Bool, if◌then◌else◌, ◌==◌}
use Rattle.std.proofs.lemmas.Nat.{div-mul-add}
use Rattle.std.proofs.lemmas.Bool.Decides.{nat_tests}
use Rattle.spte_words.specs.Bits.{has_bit, bit_if}

-- 1 where the bit is set, else 0
abbrev pub one_if : Bool → ℕ
one_if set = if set then 1 else 0

-- the bit's worth
pub bit_is : (place : ℕ) (set : Bool) → bit_if place set ≡ one_if set * 2 ^ place
bit_is place true = omega arith
bit_is place false = omega arith

pub one_small : (set : Bool) → one_if set ≤ 1
one_small true = omega arith
one_small false = omega arith

lowest : (set : Bool) (half : ℕ) → ((one_if set + 2 * half) % 2 == 1) ≡ set
lowest true half = eq-eqb ((1 + 2 * half) % 2) 1 (omega arith)
lowest false half = even ((0 + 2 * half) % 2) (omega arith)
  where
    even : (n : ℕ) → n ≡ 0 → (n == 1) ≡ false
    even n e = grind (arith, nat_tests)

-- the bit at the place
pub reads_bit : (place word low high : ℕ) (set : Bool) → low < 2 ^ place → word ≡ (one_if set + 2 * high) * 2 ^ place + low → has_bit place word ≡ set
reads_bit place word low high set small is =
    ap (λ w. w / 2 ^ place % 2 == 1) is ∙ ap (λ w. w % 2 == 1) (div-mul-add (one_if set + 2 * high) (2 ^ place) low small) ∙ lowest set high
