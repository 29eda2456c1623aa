-- Pages that stand at different places, each of which passes a test, are no more than the places that pass it.
use Rattle.std.proofs.Common.{◌≡◌, ◌≢◌, ◌⊎◌, inl, inr, ◌+◌, ◌<◌, ◌≤◌, ◌==◌, ◌&&◌, ℕ, zero, suc, refl, ap, ◌∙◌, arith}
use Rattle.std.specs.Prelude.{Bool, true, false, not}
use Rattle.std.proofs.lemmas.Bool.Decides.{nat_tests}
use Rattle.core_views.specs.Need.{count_below}
use Rattle.mmu_core.specs.machine.Sums.{one_if, sum_below}
use Rattle.mmu_core.proofs.machine.Columns.{same_or}

-- No more than n numbers are below n.
pub count_le : (n : ℕ) (test : ℕ → Bool) → count_below n test ≤ n
unfolding count_below
count_le zero test = omega arith
count_le (suc n) test = omega (arith, count_le n test, bit_le (test n))
  where
    bit_le : (b : Bool) → one_if b ≤ 1
    bit_le true = omega arith
    bit_le false = omega arith

-- the places that pass the test, but for one
abbrev pub but_for : ℕ → (ℕ → Bool) → ℕ → Bool
but_for x test i = test i && not (i == x)

other_counts : (i x : ℕ) (b : Bool) → i ≢ x → one_if (b && not (i == x)) ≡ one_if b
other_counts i x b ne = grind (arith, nat_tests)

own_counts : (i x : ℕ) (b : Bool) → i ≡ x → one_if (b && not (i == x)) ≡ 0
own_counts i x b e = grind (arith, nat_tests)

count_behind : (m x : ℕ) (test : ℕ → Bool) → m ≤ x → count_below m (but_for x test) ≡ count_below m test
unfolding count_below
count_behind zero x test le = refl
count_behind (suc m) x test le = omega (arith, count_behind m x test (omega arith), other_counts m x (test m) (omega arith))

pub count_without : (m x : ℕ) (test : ℕ → Bool) → x < m → test x ≡ true → count_below m (but_for x test) + 1 ≡ count_below m test
unfolding count_below
count_without zero x test lt passes = absurd (omega arith)
count_without (suc m) x test lt passes = by (same_or m x) (λ below. count_without m x test below passes)
  where
    by : (m ≡ x) ⊎ (m ≢ x) → (x < m → count_below m (but_for x test) + 1 ≡ count_below m test)
        → count_below (suc m) (but_for x test) + 1 ≡ count_below (suc m) test
    by (inl e) before =
        let own : one_if (test m) ≡ 1 = ap one_if (ap test e ∙ passes) in
        omega (arith, count_behind m x test (omega arith), own_counts m x (test m) e, own)
    by (inr ne) before = omega (arith, before (omega arith), other_counts m x (test m) ne)

pub still_passes : (i x : ℕ) (b : Bool) → b ≡ true → i ≢ x → (b && not (i == x)) ≡ true
still_passes i x b passes ne = grind (arith, nat_tests)

-- Each of the pages below n that counts stands at a place below m that passes, and no two at one.
pub pigeonhole : (n m : ℕ) (counts : ℕ → Bool) (spot : ℕ → ℕ) (test : ℕ → Bool) → ((k : ℕ) → k < n → counts k ≡ true → (spot k < m) × (test (spot k) ≡ true))
    → ((k l : ℕ) → counts k ≡ true → counts l ≡ true → spot k ≡ spot l → k ≡ l) → sum_below n (λ k. one_if (counts k)) ≤ count_below m test
pigeonhole zero m counts spot test at apart = omega arith
pigeonhole (suc n) m counts spot test at apart = by (counts n) refl (λ fewer still. pigeonhole n m counts spot fewer still apart)
  where
    by : (b : Bool) → counts n ≡ b → ((fewer : ℕ → Bool) → ((k : ℕ) → k < n → counts k ≡ true → (spot k < m) × (fewer (spot k) ≡ true))
        → sum_below n (λ k. one_if (counts k)) ≤ count_below m fewer) → sum_below n (λ k. one_if (counts k)) + one_if b ≤ count_below m test
    by true is before =
        let here = at n (omega arith) is in
        let rest = before (but_for (spot n) test) (λ k lt more.
        let there = at k (omega arith) more in
        (there.0, still_passes (spot k) (spot n) (test (spot k)) there.1 (λ e. let same : k ≡ n = apart k n more is e in omega (arith, same)))) in
        omega (arith, rest, count_without m (spot n) test here.0 here.1)
    by false is before = omega (arith, before test (λ k lt more. at k (omega arith) more))

-- The sum of two columns.
pub sum_plus : (n : ℕ) (f g : ℕ → ℕ) → sum_below n (λ i. f i + g i) ≡ sum_below n f + sum_below n g
sum_plus zero f g = refl
sum_plus (suc n) f g = omega (arith, sum_plus n f g)

-- Where each place contributes 1 at least, the sum is n at least.
pub sum_each : (n : ℕ) (f : ℕ → ℕ) → ((i : ℕ) → i < n → 1 ≤ f i) → n ≤ sum_below n f
sum_each zero f each = omega arith
sum_each (suc n) f each = omega (arith, sum_each n f (λ i lt. each i (omega arith)), each n (omega arith))

-- Where the sum isn't 0, some place counts.
pub sum_some : (n : ℕ) (counts : ℕ → Bool) → 1 ≤ sum_below n (λ k. one_if (counts k)) → (k : ℕ) × (k < n) × (counts k ≡ true)
sum_some zero counts some = absurd (omega arith)
sum_some (suc n) counts some = by (counts n) refl some (λ before. sum_some n counts before)
  where
    by : (b : Bool) → counts n ≡ b → 1 ≤ sum_below n (λ k. one_if (counts k)) + one_if b
        → (1 ≤ sum_below n (λ k. one_if (counts k)) → (k : ℕ) × (k < n) × (counts k ≡ true)) → (k : ℕ) × (k < suc n) × (counts k ≡ true)
    by true is some before = (n, omega arith, is)
    by false is some before = let rest = before (omega (arith, some)) in (rest.0, omega (arith, rest.1), rest.2)
