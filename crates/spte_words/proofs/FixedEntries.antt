-- A leaf in which writes are allowed.
use Rattle.std.proofs.Common.{◌≡◌, ◌≢◌, ◌+◌, ◌-◌, ◌/◌, ◌%◌, ◌^◌, ◌<◌, ℕ, true, false, refl, arith, ap, ◌∙◌}
use Rattle.std.specs.Prelude.{Bool, ◌==◌, ◌&&◌, ◌||◌, nat_lt, not}
use Rattle.std.proofs.lemmas.Bool.Decides.{nat_tests}
use Rattle.spte_words.specs.declared.spte_kind.SpteKind.TheVariants.{Leaf}
use Rattle.spte_words.specs.Bits.{has_bit, bit_if}
use Rattle.spte_words.specs.Entries.{can_write, frozen_word, is_leaf_at, kind_of, with_write, without_write}
use Rattle.spte_words.proofs.ProtectedEntries.{leaf_bits}

-- the word with bit 1 set, where it is clear
fixed_is : (w : ℕ) → can_write w ≡ false → with_write w ≡ w + 2
unfolding with_write
fixed_is w denies = ap (λ (b : Bool). w + bit_if 1 (not b)) denies

clear : (w : ℕ) → can_write w ≡ false → w / 2 % 2 ≡ 0
unfolding can_write
clear w denies = grind (arith, nat_tests)

pub fixed_can_write : (w : ℕ) → can_write w ≡ false → can_write (with_write w) ≡ true
unfolding can_write
fixed_can_write w denies = ap (has_bit 1) (fixed_is w denies) ∙ by (clear w denies)
  where
    by : w / 2 % 2 ≡ 0 → has_bit 1 (w + 2) ≡ true
    by none = let one : (w + 2) / 2 % 2 ≡ 1 = omega (arith, none) in grind (arith, nat_tests)

-- It is a leaf still.
pub fixed_kind : (level w : ℕ) → kind_of level w ≡ Leaf → can_write w ≡ false → kind_of level (with_write w) ≡ Leaf
unfolding kind_of is_leaf_at frozen_word
fixed_kind level w is denies = ap (kind_of level) (fixed_is w denies) ∙ by (clear w denies)
  where
    bits : (has_bit 11 w ≡ true) × ((nat_lt level 2 || (nat_lt level 4 && has_bit 7 w)) ≡ true)
    bits = leaf_bits level w is

    by : w / 2 % 2 ≡ 0 → kind_of level (w + 2) ≡ Leaf
    by none =
        let there = bits.0 in
        let one : w / 2048 % 2 ≡ 1 = grind (arith, nat_tests) in
        let present : (w + 2) / 2048 % 2 ≡ 1 = omega (arith, none, one) in
        let other : w + 2 ≢ 0x5a0 = omega (arith, present) in
        let a : (w + 2 == 0x5a0) ≡ false = grind (arith, nat_tests) in
        let b : has_bit 11 (w + 2) ≡ true = grind (arith, nat_tests) in
        let seventh : (w + 2) / 128 % 2 ≡ w / 128 % 2 = omega (arith, none) in
        let leaf : (nat_lt level 2 || (nat_lt level 4 && has_bit 7 (w + 2))) ≡ true =
        ap (λ n. nat_lt level 2 || (nat_lt level 4 && (n == 1))) seventh ∙ bits.1 in
        rw (a, b, leaf) refl

-- Without it, it is the word again.
pub fixed_back : (w : ℕ) → can_write w ≡ false → without_write (with_write w) ≡ w
unfolding without_write
fixed_back w denies = ap (λ (b : Bool). with_write w - bit_if 1 b) (fixed_can_write w denies) ∙ ap (λ n. n - 2) (fixed_is w denies) ∙ omega arith

pub fixed_fits : (w : ℕ) → w < 2 ^ 64 → can_write w ≡ false → with_write w < 2 ^ 64
fixed_fits w small denies = rw (fixed_is w denies) (by (clear w denies))
  where
    by : w / 2 % 2 ≡ 0 → w + 2 < 2 ^ 64
    by none = omega (arith, none, small)
