-- Tests of the numbers of a range: whether any passes, and the first that does.
use Rattle.std.proofs.Common.{◌≡◌, ◌+◌, ◌<◌, ◌≤◌, ◌||◌, ◌⊎◌, inl, inr, ℕ, zero, suc, Bool, true, false, cond, refl, ap, arith, subst, ◌∙◌}
use Rattle.std.proofs.lemmas.Bool.Decides.{eqb_tells}
use Rattle.std.proofs.lemmas.Option.{same_Some}
use Rattle.std.specs.Prelude.{Some, None, find}
use Rattle.std.specs.List.{list_any, range_with_len}

pub by_test : (b c : Bool) → (b || c) ≡ true → (b ≡ true) ⊎ (c ≡ true)
by_test true c e = inl refl
by_test false c e = inr e

or_later : (b c : Bool) → c ≡ true → (b || c) ≡ true
or_later true c e = refl
or_later false c e = e

here_or_behind : (a x : ℕ) → a ≤ x → (a ≡ x) ⊎ (a < x)
here_or_behind a x low = elim (eqb_tells a x) [ inl same ↦ inl same.1 | inr unlike ↦ inr (omega (arith, unlike.1)) ]

-- A number passes, if any number of the range does.
pub passing : (a n : ℕ) (test : ℕ → Bool) → list_any test (range_with_len a n) ≡ true → (x : ℕ) × (x < a + n) × (test x ≡ true)
passing a zero test is = absurd (cc is)
passing a (suc n) test is = elim (by_test (test a) (list_any test (range_with_len (a + 1) n)) is) [
  | inl here ↦ (a, omega arith, here)
  | inr later ↦ let there = passing (a + 1) n test later in (there.0, omega (arith, there.1), there.2)
]

-- Any number passes, if this one of the range does.
pub any_passes : (a n : ℕ) (test : ℕ → Bool) (x : ℕ) → a ≤ x → x < a + n → test x ≡ true → list_any test (range_with_len a n) ≡ true
any_passes a zero test x low high is = absurd (omega arith)
any_passes a (suc n) test x low high is = elim (here_or_behind a x low) [
  | inl here ↦ ap (λ (b : Bool). b || list_any test (range_with_len (a + 1) n)) (ap test here ∙ is)
  | inr behind ↦ or_later (test a) (list_any test (range_with_len (a + 1) n)) (any_passes (a + 1) n test x (omega (arith, behind)) (omega (arith, high)) is)
]

-- Tests that agree on the range pass alike.
pub alike : (a n : ℕ) (s t : ℕ → Bool) → ((x : ℕ) → x < a + n → s x ≡ t x) → list_any s (range_with_len a n) ≡ list_any t (range_with_len a n)
alike a zero s t same = refl
alike a (suc n) s t same =
    ap (λ (b : Bool). b || list_any s (range_with_len (a + 1) n)) (same a (omega arith))
    ∙ ap (λ (b : Bool). t a || b) (alike (a + 1) n s t (λ x lt. same x (omega arith)))

-- The first number that passes is found.
pub first_found : (a n : ℕ) (test : ℕ → Bool) (x : ℕ) → a ≤ x → x < a + n → test x ≡ true → ((y : ℕ) → y < x → test y ≡ false)
    → find test (range_with_len a n) ≡ Some x
first_found a zero test x low high is first = absurd (omega arith)
first_found a (suc n) test x low high is first = elim (here_or_behind a x low) [
  | inl here ↦ ap (λ (b : Bool). cond b (Some a) (find test (range_with_len (a + 1) n))) (ap test here ∙ is) ∙ ap (λ (y : ℕ). Some y) here
  | inr behind ↦ ap (λ (b : Bool). cond b (Some a) (find test (range_with_len (a + 1) n))) (first a behind)
      ∙ first_found (a + 1) n test x (omega (arith, behind)) (omega (arith, high)) is first
]

-- Where none passes, none is found.
pub none_found : (a n : ℕ) (test : ℕ → Bool) → ((y : ℕ) → y < a + n → test y ≡ false) → find test (range_with_len a n) ≡ None
none_found a zero test none = refl
none_found a (suc n) test none =
    ap (λ (b : Bool). cond b (Some a) (find test (range_with_len (a + 1) n))) (none a (omega arith)) ∙ none_found (a + 1) n test (λ y lt. none y (omega arith))

-- What is found is a number of the range, and passes.
pub found_passes : (a n : ℕ) (test : ℕ → Bool) (x : ℕ) → find test (range_with_len a n) ≡ Some x → (x < a + n) × (test x ≡ true)
found_passes a zero test x is = absurd (cc is)
found_passes a (suc n) test x is = by (test a) refl is (λ e. found_passes (a + 1) n test x e)
  where
    by : (b : Bool) → test a ≡ b → cond b (Some a) (find test (range_with_len (a + 1) n)) ≡ Some x
        → (find test (range_with_len (a + 1) n) ≡ Some x → (x < a + 1 + n) × (test x ≡ true)) → (x < a + suc n) × (test x ≡ true)
    by true passes e later = let same : a ≡ x = same_Some a x e in (omega (arith, same), subst (λ (y : ℕ). test y ≡ true) same passes)
    by false passes e later = let there = later e in (omega (arith, there.0), there.1)
