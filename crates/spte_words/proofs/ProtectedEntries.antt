-- A leaf in which writes are forbidden.
use Rattle.std.proofs.Common.{◌≡◌, ◌≢◌, ◌+◌, ◌-◌, ◌*◌, ◌/◌, ◌%◌, ◌^◌, ◌<◌, ◌≤◌, ℕ, true, false, refl, arith, ap, ◌∙◌, bit_and, w64}
use Rattle.std.specs.Prelude.{Bool, ◌==◌, ◌&&◌, ◌||◌, nat_lt, if◌then◌else◌}
use Rattle.std.specs.Int.{bit_not}
use Rattle.std.proofs.lemmas.Bool.Decides.{nat_tests}
use Rattle.std.proofs.lemmas.Nat.{and_comm, and-not}
use Rattle.std.proofs.lemmas.Nat.Bits.{and_pow}
use Rattle.spte_words.specs.declared.spte_kind.SpteKind.TheVariants.{Absent, Frozen, Leaf, Table}
use Rattle.spte_words.specs.Bits.{has_bit, bit_if}
use Rattle.spte_words.specs.Entries.{can_write, frame_in, frozen_word, is_leaf_at, kind_of, without_write, write_bit}

-- The mask that keeps all bits but that one leaves the word without it.
pub protected_is : (w : ℕ) → w < 2 ^ 64 → bit_and w (bit_not w64 write_bit) ≡ without_write w
unfolding without_write can_write
protected_is w small = by (w / 2 ^ 1 % 2 == 1) refl
  where
    whole : bit_and (2 ^ 64 - 1 - 2) w + bit_and 2 w ≡ w
    whole = and-not 64 2 w (omega arith) small

    bit : bit_and 2 w ≡ w / 2 ^ 1 % 2 * 2 ^ 1
    bit = and_comm 2 w ∙ and_pow w 1

    turned : bit_and w (2 ^ 64 - 1 - 2) ≡ bit_and (2 ^ 64 - 1 - 2) w
    turned = and_comm w (2 ^ 64 - 1 - 2)

    by : (b : Bool) → (w / 2 ^ 1 % 2 == 1) ≡ b → bit_and w (2 ^ 64 - 1 - 2) ≡ w - (if b then 2 ^ 1 else 0)
    by true is = let one : w / 2 ^ 1 % 2 ≡ 1 = grind (arith, nat_tests) in omega (arith, whole, bit, turned, one)
    by false is = let none : w / 2 ^ 1 % 2 ≡ 0 = grind (arith, nat_tests) in omega (arith, whole, bit, turned, none)

pub protected_least : (w : ℕ) → without_write w ≤ w
unfolding without_write
protected_least w = omega arith

whole : (w : ℕ) → w - 0 ≡ w
whole w = omega arith

-- A leaf is present, and one at its level.
pub leaf_bits : (level w : ℕ) → kind_of level w ≡ Leaf → (has_bit 11 w ≡ true) × (is_leaf_at level w ≡ true)
unfolding kind_of
leaf_bits level w is = by (w == frozen_word) (has_bit 11 w) (is_leaf_at level w) is
  where
    by : (frozen present leaf : Bool)
        → (if frozen then Frozen else if present then (if leaf then Leaf else Table (frame_in w % 2 ^ 32)) else Absent) ≡ Leaf
        → (present ≡ true) × (leaf ≡ true)
    by true present leaf e = absurd (cc e)
    by false true true e = (refl, refl)
    by false true false e = absurd (cc e)
    by false false leaf e = absurd (cc e)

-- So its level is one that has leaves.
pub leaf_level : (level w : ℕ) → kind_of level w ≡ Leaf → level ≤ 3
unfolding is_leaf_at
leaf_level level w is = by (nat_lt level 2) (nat_lt level 4) (has_bit 7 w) refl refl (leaf_bits level w is).1
  where
    by : (low below large : Bool) → nat_lt level 2 ≡ low → nat_lt level 4 ≡ below → (low || (below && large)) ≡ true → level ≤ 3
    by true below large one other e = grind (arith, nat_tests)
    by false true large one other e = grind (arith, nat_tests)
    by false false large one other e = absurd (cc e)

-- It is a leaf still, and forbids writes.
pub protected_kind : (level w : ℕ) → kind_of level w ≡ Leaf → kind_of level (without_write w) ≡ Leaf
unfolding kind_of is_leaf_at frozen_word without_write can_write
protected_kind level w is = by (has_bit 1 w) refl
  where
    bits : (has_bit 11 w ≡ true) × ((nat_lt level 2 || (nat_lt level 4 && has_bit 7 w)) ≡ true)
    bits = leaf_bits level w is

    by : (b : Bool) → has_bit 1 w ≡ b → kind_of level (w - bit_if 1 b) ≡ Leaf
    by false none = ap (kind_of level) (whole w) ∙ is
    by true one =
        let bit : w / 2 % 2 ≡ 1 = grind (arith, nat_tests) in
        let there = bits.0 in
        let was : w / 2048 % 2 ≡ 1 = grind (arith, nat_tests) in
        let present : (w - 2) / 2048 % 2 ≡ 1 = omega (arith, bit, was) in
        let other : w - 2 ≢ 0x5a0 = omega (arith, present) in
        let a : (w - 2 == 0x5a0) ≡ false = grind (arith, nat_tests) in
        let b : has_bit 11 (w - 2) ≡ true = grind (arith, nat_tests) in
        let seventh : (w - 2) / 128 % 2 ≡ w / 128 % 2 = omega (arith, bit) in
        let leaf : (nat_lt level 2 || (nat_lt level 4 && has_bit 7 (w - 2))) ≡ true =
        ap (λ n. nat_lt level 2 || (nat_lt level 4 && (n == 1))) seventh ∙ bits.1 in
        rw (a, b, leaf) refl

pub protected_denies : (w : ℕ) → can_write (without_write w) ≡ false
unfolding without_write can_write
protected_denies w = by (has_bit 1 w) refl
  where
    by : (b : Bool) → has_bit 1 w ≡ b → has_bit 1 (w - bit_if 1 b) ≡ false
    by false none = ap (has_bit 1) (whole w) ∙ none
    by true one = let bit : w / 2 % 2 ≡ 1 = grind (arith, nat_tests) in let now_ : (w - 2) / 2 % 2 ≡ 0 = omega (arith, bit) in grind (arith, nat_tests)
