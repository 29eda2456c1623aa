-- Each host page is one host thread's own.
use Rattle.std.proofs.Common.{◌≡◌, ◌⊎◌, inl, inr, ◌+◌, ◌-◌, ◌≤◌, ◌<◌, ℕ, zero, suc, arith, subst}
use Rattle.std.specs.Prelude.{true, nat_le, ◌&&◌, nat_lt}
use Rattle.std.proofs.lemmas.Bool.{cases_lt}
use Rattle.std.proofs.lemmas.Bool.Decides.{nat_tests}
use Rattle.core_views.specs.declared.sizes.Sizes.{Sizes}
use Rattle.core_views.specs.Sizes.{AreInOrder, AreSizes, first_page_in, is_threads}

-- The first pages rise with the threads.
first_later : (z : Sizes) → AreInOrder z → (host more : ℕ) → first_page_in z.first_pages z.pages host ≤ first_page_in z.first_pages z.pages (host + more)
first_later z S host zero = subst (λ n. first_page_in z.first_pages z.pages host ≤ first_page_in z.first_pages z.pages n) (plus_none host) (same _)
  where
    plus_none : (n : ℕ) → n ≡ n + 0
    plus_none n = omega arith

    same : (n : ℕ) → n ≤ n
    same n = omega arith
first_later z S host (suc more) =
    subst (λ n. first_page_in z.first_pages z.pages host ≤ first_page_in z.first_pages z.pages n) (plus_more host more)
    (two _ _ _ (first_later z S host more) (S.each (host + more)))
  where
    plus_more : (n m : ℕ) → n + m + 1 ≡ n + suc m
    plus_more n m = omega arith

    two : (a b c : ℕ) → a ≤ b → b ≤ c → a ≤ c
    two a b c ab bc = omega (arith, ab, bc)

owned_within : (low high page : ℕ) → (nat_le low page && nat_lt page high) ≡ true → (low ≤ page) × (page < high)
owned_within low high page is = (grind (arith, nat_tests), grind (arith, nat_tests))

pub one_owner : (z : Sizes) → AreSizes z → (page a b : ℕ) → is_threads z a page ≡ true → is_threads z b page ≡ true → a ≡ b
one_owner z S page a b one other = by (cases_lt a b) (cases_lt b a)
  where
    low : (n : ℕ) → is_threads z n page ≡ true → (first_page_in z.first_pages z.pages n ≤ page) × (page < first_page_in z.first_pages z.pages (n + 1))
    low n is = owned_within (first_page_in z.first_pages z.pages n) (first_page_in z.first_pages z.pages (n + 1)) page is

    apart : (n m : ℕ) → n < m → is_threads z n page ≡ true → is_threads z m page ≡ true → ⊥
    apart n m lt one other =
        let A = low n one in
        let B = low m other in
        let later : first_page_in z.first_pages z.pages (n + 1) ≤ first_page_in z.first_pages z.pages m =
        subst (λ k. first_page_in z.first_pages z.pages (n + 1) ≤ first_page_in z.first_pages z.pages k) (omega (arith, lt))
        (first_later z S.rising (n + 1) (m - (n + 1))) in
        omega (arith, A.1, B.0, later)

    by : (a < b) ⊎ (b ≤ a) → (b < a) ⊎ (a ≤ b) → a ≡ b
    by (inl lt) x = absurd (apart a b lt one other)
    by (inr le) (inl lt) = absurd (apart b a lt other one)
    by (inr le) (inr ge) = omega (arith, le, ge)
