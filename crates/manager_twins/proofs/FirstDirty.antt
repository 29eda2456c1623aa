-- The first page from one on whose bit is set, of words of a dirty log.
use Rattle.std.proofs.lemmas.Bool.Decides.{nat_tests}
use Rattle.std.proofs.lemmas.Nat.{shr-shr}
use Rattle.std.proofs.lemmas.Nat.Bits.{bit_at-trailing_zeros, bit_at-zero, bit_at_above}
use Rattle.std.proofs.Math.Nat.{div-le_self}
use Rattle.std.proofs.Math.Pow.{shr_lt}
use Rattle.std.proofs.Common.{◌≡◌, ◌+◌, ◌-◌, ◌*◌, ◌/◌, ◌%◌, ◌^◌, ◌<◌, ◌≤◌, ℕ, zero, suc, Bool, true, false, cond}
use Rattle.std.proofs.Common.{List, get_or, refl, subst, sym, ap, ◌∙◌, arith}
use Rattle.std.specs.Prelude.{◌==◌, find, if◌then◌else◌, nat_lt, Some, None}
use Rattle.std.specs.Int.{bit_at, trailing_zeros, w64}
use Rattle.std.specs.List.{range_with_len}
use Rattle.core_views.specs.LogCommands.{has_bit}

-- ---- the first number of a range

first_found : (a n k : ℕ) (test : ℕ → Bool) → a ≤ k → k < a + n → test k ≡ true → ((i : ℕ) → a ≤ i → i < k → test i ≡ false)
    → find test (range_with_len a n) ≡ Some k
first_found a zero k test from to is none = absurd (omega (arith, from, to))
first_found a (suc n) k test from to is none =
    by (test a) refl
    (λ apart. first_found (a + 1) n k test (omega (arith, from, apart)) (omega (arith, to)) is (λ i low high. none i (omega (arith, low)) high))
  where
    same : (b : Bool) → test a ≡ true → (b ≡ true → a ≡ k) → (b ≡ false → a < k) → Some a ≡ Some k
    same true passes is later = ap Some (is refl)
    same false passes is later = absurd (let fails = none a (omega arith) (later refl) in let both = sym passes ∙ fails in cc both)

    by : (b : Bool) → test a ≡ b → ((a ≡ k → ⊥) → find test (range_with_len (a + 1) n) ≡ Some k)
        → cond b (Some a) (find test (range_with_len (a + 1) n)) ≡ Some k
    by true passes rest = same (a == k) passes (λ e. grind (arith, nat_tests)) (λ e. grind (arith, nat_tests))
    by false fails rest = rest (λ e. (let both : false ≡ true = sym fails ∙ ap test e ∙ is in cc both))

none_found : (a n : ℕ) (test : ℕ → Bool) → ((i : ℕ) → a ≤ i → i < a + n → test i ≡ false) → None ≡ find test (range_with_len a n)
none_found a zero test none = refl
none_found a (suc n) test none =
    by (test a) (none a (omega arith) (omega arith)) (none_found (a + 1) n test (λ i low high. none i (omega (arith, low)) (omega (arith, high))))
  where
    by : (b : Bool) → b ≡ false → None ≡ find test (range_with_len (a + 1) n) → None ≡ cond b (Some a) (find test (range_with_len (a + 1) n))
    by true e rest = absurd (cc e)
    by false e rest = rest

-- ---- the bits of words

-- None of these pages has its bit set.
abbrev pub HasNone : List ℕ → ℕ → ℕ → Type 0
HasNone words from to = (page : ℕ) → from ≤ page → page < to → has_bit words page ≡ false

-- The first page with a bit is this one, which is one of so many or isn't.
pub first_is : (words : List ℕ) (from count page : ℕ) → from ≤ page → has_bit words page ≡ true → HasNone words from page
    → (if nat_lt page count then Some page else None) ≡ find (λ page. has_bit words page) (range_with_len from (count - from))
first_is words from count page low is none = by (nat_lt page count) refl
  where
    by : (b : Bool) → nat_lt page count ≡ b
        → (if b then Some page else None) ≡ find (λ page. has_bit words page) (range_with_len from (count - from))
    by true e =
        let less : page < count = grind (arith, nat_tests) in
        sym (first_found from (count - from) page (λ x. has_bit words x) low (omega (arith, low, less)) is none)
    by false e =
        let past : count ≤ page = grind (arith, nat_tests) in
        none_found from (count - from) (λ x. has_bit words x) (λ i low_i high. none i low_i (omega (arith, past, high, low_i)))

-- No page of them has a bit.
pub none_is : (words : List ℕ) (from count : ℕ) → HasNone words from count → None ≡ find (λ page. has_bit words page) (range_with_len from (count - from))
none_is words from count none =
    none_found from (count - from) (λ x. has_bit words x) (λ i low high. none i low (omega (arith, low, high)))

-- A page's bit is one of the bits of its word, from this bit on.
bit_from : (words : List ℕ) (at low bit : ℕ) → low + bit < 64
    → has_bit words (64 * at + low + bit) ≡ (bit_at (get_or words at 0 / 2 ^ low) bit == 1)
bit_from words at low bit few =
    let word : (64 * at + low + bit) / 64 ≡ at = omega (arith, few) in
    let place : (64 * at + low + bit) % 64 ≡ low + bit = omega (arith, few) in
    ap (λ w. get_or words w 0 / 2 ^ ((64 * at + low + bit) % 64) % 2 == 1) word
    ∙ ap (λ b. get_or words at 0 / 2 ^ b % 2 == 1) place
    ∙ ap (λ n. n % 2 == 1) (sym (shr-shr (get_or words at 0) low bit))

-- From this bit on none of the word is set.
pub none_left : (words : List ℕ) (at low : ℕ) → low < 64 → get_or words at 0 / 2 ^ low ≡ 0 → HasNone words (64 * at + low) (64 * at + 64)
none_left words at low few empty page from to =
    let bit : ℕ = page - (64 * at + low) in
    let same : 64 * at + low + bit ≡ page = omega (arith, from) in
    ap (has_bit words) (sym same) ∙ bit_from words at low bit (omega (arith, from, to)) ∙ ap (λ n. bit_at n bit == 1) empty
    ∙ ap (λ n. n == 1) (bit_at-zero bit)

-- Or the lowest one is this page's.
pub record IsLowest (words : List ℕ) (from page : ℕ) : Type 0 where
  pub low : from ≤ page
  pub set : has_bit words page ≡ true
  pub none : HasNone words from page

pub lowest_is : (words : List ℕ) (at low : ℕ) → low < 64 → get_or words at 0 < 2 ^ 64 → 0 < get_or words at 0 / 2 ^ low
    → IsLowest words (64 * at + low) (64 * at + low + trailing_zeros w64 (get_or words at 0 / 2 ^ low))
lowest_is words at low few small some = record {
  low = omega arith;
  set = bit_from words at low bit inside ∙ ap (λ n. n == 1) lowest.1;
  none = λ page low_p high.
      let i : ℕ = page - (64 * at + low) in
      let same : 64 * at + low + i ≡ page = omega (arith, low_p) in
      let less : i < bit = omega (arith, low_p, high) in
      ap (has_bit words) (sym same) ∙ bit_from words at low i (omega (arith, less, inside)) ∙ ap (λ n. n == 1) (lowest.2 i less);
}
  where
    rest : ℕ
    rest = get_or words at 0 / 2 ^ low

    bit : ℕ
    bit = trailing_zeros w64 rest

    all : 64 ≡ 64 - low + low
    all = omega (arith, few)

    fits : rest < 2 ^ (64 - low)
    fits = shr_lt (64 - low) low (subst (λ n. get_or words at 0 < 2 ^ n) all small)

    lowest : (bit < 64) × (bit_at rest bit ≡ 1) × ((i : ℕ) → i < bit → bit_at rest i ≡ 0)
    lowest = let le = div-le_self (get_or words at 0) (2 ^ low) in bit_at-trailing_zeros w64 rest some (omega (arith, le, small))

    inside : low + bit < 64
    inside = by (nat_lt (low + bit) 64) refl
      where
        by : (b : Bool) → nat_lt (low + bit) 64 ≡ b → low + bit < 64
        by true e = grind (arith, nat_tests)
        by false e =
            let past : 64 ≤ low + bit = grind (arith, nat_tests) in
            let zero_ = bit_at_above rest (64 - low) bit fits (omega (arith, past)) in
            let one_ = lowest.1 in
            absurd (omega (arith, zero_, one_))

-- In the word of the first page from which it looks on.
pub lowest_from : (words : List ℕ) (from w : ℕ) → w ≡ get_or words (from / 64) 0 → w < 2 ^ 64 → (w / 2 ^ (from % 64) ≡ 0 → ⊥)
    → IsLowest words from (from + trailing_zeros w64 (w / 2 ^ (from % 64)))
lowest_from words from w is small some =
    let split : 64 * (from / 64) + from % 64 ≡ from = omega arith in
    let word = get_or words (from / 64) 0 in
    let some_there : word / 2 ^ (from % 64) ≡ 0 → ⊥ = λ e. some (ap (λ n. n / 2 ^ (from % 64)) is ∙ e) in
    subst (λ x. IsLowest words from (from + trailing_zeros w64 (x / 2 ^ (from % 64)))) (sym is)
    (subst (λ x. IsLowest words x (x + trailing_zeros w64 (word / 2 ^ (from % 64)))) split
    (lowest_is words (from / 64) (from % 64) (omega arith) (subst (λ x. x < 2 ^ 64) is small) (omega (arith, some_there))))

pub none_from : (words : List ℕ) (from w : ℕ) → w ≡ get_or words (from / 64) 0 → w / 2 ^ (from % 64) ≡ 0 → HasNone words from (64 * (from / 64 + 1))
none_from words from w is empty page low high =
    let split : 64 * (from / 64) + from % 64 ≡ from = omega arith in
    none_left words (from / 64) (from % 64) (omega arith) (ap (λ n. n / 2 ^ (from % 64)) (sym is) ∙ empty) page (omega (arith, split, low))
    (omega (arith, high))

-- In a later word, where there was none before.
pub lowest_later : (words : List ℕ) (from at w : ℕ) → from < 64 * at → HasNone words from (64 * at) → w ≡ get_or words at 0 → w < 2 ^ 64 → (w ≡ 0 → ⊥)
    → IsLowest words from (64 * at + trailing_zeros w64 w)
lowest_later words from at w later none is small some =
    let word : 64 * at / 64 ≡ at = omega arith in
    let bit : 64 * at % 64 ≡ 0 = omega arith in
    let whole : w / 2 ^ (64 * at % 64) ≡ w = ap (λ b. w / 2 ^ b) bit ∙ omega arith in
    let L = lowest_from words (64 * at) w (is ∙ ap (λ i. get_or words i 0) (sym word)) small (λ e. some (sym whole ∙ e)) in
    let M : IsLowest words (64 * at) (64 * at + trailing_zeros w64 w) = subst (λ x. IsLowest words (64 * at) (64 * at + trailing_zeros w64 x)) whole L in
    record { low = let low = M.low in omega (arith, later, low); set = M.set; none = λ page low high. by page low high M.none (nat_lt page (64 * at)) refl }
  where
    by : (page : ℕ) → from ≤ page → page < 64 * at + trailing_zeros w64 w → HasNone words (64 * at) (64 * at + trailing_zeros w64 w)
        → (b : Bool) → nat_lt page (64 * at) ≡ b → has_bit words page ≡ false
    by page low high later true e = none page low (grind (arith, nat_tests))
    by page low high later false e = later page (grind (arith, nat_tests)) high
