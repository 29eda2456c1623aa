-- The words of a log tell its bits: a number has the bits of which it is made, and each bit stands in the word of its 64.
use Rattle.std.proofs.Common.{◌≡◌, ◌+◌, ◌*◌, ◌/◌, ◌%◌, ◌^◌, ◌<◌, ◌≤◌, ◌==◌, ◌&&◌, ℕ, zero, suc, Bool, true, false, List, length, map, get_or}
use Rattle.std.proofs.Common.{◌⊎◌, inl, inr, arith, lit<, refl, ap, ◌∙◌, subst}
use Rattle.std.proofs.Math.Nat.{pow-succ'}
use Rattle.std.proofs.lemmas.Bool.{cases_lt, lt-ltb, le-ltb}
use Rattle.std.proofs.lemmas.List.{get_or_past}
use Rattle.std.proofs.lemmas.List.Elements.{All-map}
use Rattle.std.proofs.lemmas.List.FromFn.{get_or-map-range_with_len, length-map-range_with_len}
use Rattle.std.proofs.lemmas.Nat.Bits.{bit_at_lowest, bit_at-suc, bit_at-zero}
use Rattle.std.specs.Int.{bit_at}
use Rattle.std.specs.List.{range_with_len}
use Rattle.std.specs.Prelude.{nat_lt, if◌then◌else◌}
use Rattle.core_views.specs.LogCommands.{has_bit, number_of, words_of}
use Rattle.log_laws.specs.LogWords.{TellBits}

-- one bit, and twice a number
abbrev with_bit : Bool → ℕ → ℕ
with_bit b m = (if b then 1 else 0) + 2 * m

bit_below : (b : Bool) (m n : ℕ) → m < 2 ^ n → with_bit b m < 2 ^ suc n
bit_below true m n lt = omega (arith, pow-succ' 2 n)
bit_below false m n lt = omega (arith, pow-succ' 2 n)

number_below : (n : ℕ) (bits : ℕ → Bool) → number_of n bits < 2 ^ n
number_below zero bits = lit< tt
number_below (suc n) bits = bit_below (bits 0) (number_of n (λ bit. bits (bit + 1))) n (number_below n (λ bit. bits (bit + 1)))

lowest : (b : Bool) (m : ℕ) → (with_bit b m % 2 == 1) ≡ b
lowest true m = let odd : with_bit true m % 2 ≡ 1 = omega arith in ap (λ x. x == 1) odd
lowest false m = let even : with_bit false m % 2 ≡ 0 = omega arith in ap (λ x. x == 1) even

half : (b : Bool) (m : ℕ) → with_bit b m / 2 ≡ m
half true m = omega arith
half false m = omega arith

number_bit : (n : ℕ) (bits : ℕ → Bool) (k : ℕ) → k < n → (bit_at (number_of n bits) k == 1) ≡ bits k
number_bit zero bits k lt = absurd (omega arith)
number_bit (suc n) bits zero lt =
    ap (λ x. x == 1) (bit_at_lowest (number_of (suc n) bits)) ∙ lowest (bits 0) (number_of n (λ bit. bits (bit + 1)))
number_bit (suc n) bits (suc k) lt =
    ap (λ x. x == 1) (bit_at-suc (number_of (suc n) bits) k)
    ∙ ap (λ x. bit_at x k == 1) (half (bits 0) (number_of n (λ bit. bits (bit + 1))))
    ∙ number_bit n (λ bit. bits (bit + 1)) k (omega arith)
    ∙ ap bits (let e : k + 1 ≡ suc k = omega arith in e)

-- The words, where each has so many bits.
abbrev word_of : ℕ → ℕ → (ℕ → Bool) → ℕ → ℕ
word_of w count bits word = number_of w (λ bit. nat_lt (64 * word + bit) count && bits (64 * word + bit))

abbrev words_by : ℕ → ℕ → (ℕ → Bool) → List ℕ
words_by w count bits = map (word_of w count bits) (range_with_len 0 ((count + 63) / 64))

-- a bit of a word that is there, and of one that isn't
bit_there : (w count : ℕ) (bits : ℕ → Bool) (bit : ℕ) → w ≡ 64 → bit < count → has_bit (words_by w count bits) bit ≡ bits bit
bit_there w count bits bit is lt =
    let within : bit / 64 < (count + 63) / 64 = omega arith in
    let place : 64 * (bit / 64) + bit % 64 ≡ bit = omega arith in
    let low : bit % 64 < w = omega arith in
    ap (λ word. bit_at word (bit % 64) == 1)
    (get_or-map-range_with_len (word_of w count bits) 0 ((count + 63) / 64) (bit / 64) (bit / 64) 0 within (omega arith))
    ∙ number_bit w (λ b. nat_lt (64 * (bit / 64) + b) count && bits (64 * (bit / 64) + b)) (bit % 64) low
    ∙ ap (λ b. nat_lt b count && bits b) place
    ∙ ap (λ b. b && bits bit) (lt-ltb bit count lt)

bit_past : (w count : ℕ) (bits : ℕ → Bool) (bit : ℕ) → w ≡ 64 → count ≤ bit → has_bit (words_by w count bits) bit ≡ false
bit_past w count bits bit is le = by (cases_lt (bit / 64) ((count + 63) / 64))
  where
    by : (bit / 64 < (count + 63) / 64) ⊎ ((count + 63) / 64 ≤ bit / 64) → has_bit (words_by w count bits) bit ≡ false
    by (inl within) =
        let place : 64 * (bit / 64) + bit % 64 ≡ bit = omega arith in
        let low : bit % 64 < w = omega arith in
        ap (λ word. bit_at word (bit % 64) == 1)
        (get_or-map-range_with_len (word_of w count bits) 0 ((count + 63) / 64) (bit / 64) (bit / 64) 0 within (omega arith))
        ∙ number_bit w (λ b. nat_lt (64 * (bit / 64) + b) count && bits (64 * (bit / 64) + b)) (bit % 64) low
        ∙ ap (λ b. nat_lt b count && bits b) place
        ∙ ap (λ b. b && bits bit) (le-ltb bit count le)
    by (inr out) =
        let few : length (words_by w count bits) ≤ bit / 64 = omega (arith, length-map-range_with_len (word_of w count bits) 0 ((count + 63) / 64)) in
        ap (λ word. bit_at word (bit % 64) == 1) (get_or_past (words_by w count bits) (bit / 64) 0 few)
        ∙ ap (λ x. x == 1) (bit_at-zero (bit % 64))

words_by_tell : (w count : ℕ) (bits : ℕ → Bool) → w ≡ 64 → TellBits (words_by w count bits) count bits
words_by_tell w count bits is = record {
  few = length-map-range_with_len (word_of w count bits) 0 ((count + 63) / 64);
  fit =
      All-map (λ word. word < 2 ^ 64) (word_of w count bits) (range_with_len 0 ((count + 63) / 64))
      (λ k d lt. subst (λ n. word_of w count bits (get_or (range_with_len 0 ((count + 63) / 64)) k d) < 2 ^ n) is (number_below w _));
  each = λ bit lt. bit_there w count bits bit is lt;
  past = λ bit le. bit_past w count bits bit is le;
}

pub words_tell : (count : ℕ) (bits : ℕ → Bool) → TellBits (words_of count bits) count bits
unfolding words_of
words_tell count bits = words_by_tell 64 count bits refl
