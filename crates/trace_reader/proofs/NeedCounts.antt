-- Laws of `count_below`: tests that agree, a test that is the sum of two others, and the numbers in a range.
use Rattle.std.proofs.Common.{◌≡◌, ◌≤◌, ◌+◌, ◌-◌, ℕ, zero, suc, Bool, true, false, cond, ◌&&◌, nat_le, nat_lt, min, arith, refl}
use Rattle.std.proofs.lemmas.Bool.Decides.{nat_tests}
use Rattle.core_views.specs.Need.{count_below}

-- Tests that agree count alike.
pub count-same : (n : ℕ) (p q : ℕ → Bool) → ((i : ℕ) → p i ≡ q i) → count_below n p ≡ count_below n q
unfolding count_below
count-same zero p q same = refl
count-same (suc n) p q same = rw (count-same n p q same, same n) refl

-- Where one test of two others passes, and never both, the counts add up.
pub count-sum : (n : ℕ) (p q r : ℕ → Bool) → ((i : ℕ) → cond (p i) 1 0 ≡ cond (q i) 1 0 + cond (r i) 1 0) → count_below n p ≡ count_below n q + count_below n r
unfolding count_below
count-sum zero p q r sum = refl
count-sum (suc n) p q r sum = omega (arith, count-sum n p q r sum, sum n)

-- A test that never passes counts none.
pub count-none : (n : ℕ) → count_below n (λ i. false) ≡ 0
unfolding count_below
count-none zero = refl
count-none (suc n) = omega (arith, count-none n)

-- one more number, in the range or not
one_more : (n lo hi c : ℕ) → c ≡ min n hi - lo → c + cond (nat_le lo n && nat_lt n hi) 1 0 ≡ min (suc n) hi - lo
one_more n lo hi c e = grind (arith, nat_tests)

-- the numbers below n from lo up to hi
ranged : (n lo hi : ℕ) → count_below n (λ i. nat_le lo i && nat_lt i hi) ≡ min n hi - lo
unfolding count_below
ranged zero lo hi = omega arith
ranged (suc n) lo hi = one_more n lo hi _ (ranged n lo hi)

-- Of the numbers below n, those from lo up to hi.
pub count-range : (n lo hi : ℕ) → hi ≤ n → count_below n (λ i. nat_le lo i && nat_lt i hi) ≡ hi - lo
count-range n lo hi le = omega (arith, ranged n lo hi)

-- a test counts one at most
bit_le : (b : Bool) → cond b 1 0 ≤ 1
bit_le true = omega arith
bit_le false = omega arith

-- No more than n numbers are below n.
pub count-le : (n : ℕ) (p : ℕ → Bool) → count_below n p ≤ n
unfolding count_below
count-le zero p = omega arith
count-le (suc n) p = omega (arith, count-le n p, bit_le (p n))
