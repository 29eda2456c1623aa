-- Two lists of numbers that rise, and have the same numbers in them, are the same.
use Rattle.std.proofs.Common.{◌≡◌, ◌⊎◌, inl, inr, ◌<◌, ℕ, suc, List, [], ◌∷◌, length, refl, sym, subst, ap₂, arith}
use Rattle.std.proofs.lemmas.Bool.{eq-eqb, eqb-true, or_left, or_right}
use Rattle.std.proofs.lemmas.List.Kept.{AllPairs-from_increasing}
use Rattle.std.specs.List.{AllPairs}
use Rattle.std.specs.List.Sorted.{IsStrictlyIncreasing}
use Rattle.std.specs.Prelude.{true, ◌==◌, slice_index_or}
use Rattle.core_views.specs.LogCommands.{is_among}
use Rattle.core_views.proofs.Ranges.{by_test}

-- Each number is below those after it.
abbrev Rises : List ℕ → Type 0
Rises [] = Unit {0}
Rises (x ∷ xs) = ((n : ℕ) → is_among n xs ≡ true → x < n) × Rises xs

below : (x n : ℕ) (xs : List ℕ) → ((j : ℕ) → j < length xs → x < slice_index_or xs j 0) → is_among n xs ≡ true → x < n
below x n [] all is = absurd (cc is)
below x n (y ∷ ys) all is = by (by_test (y == n) (is_among n ys) is) (λ later. below x n ys (λ j lt. all (suc j) (omega (arith, lt))) later)
  where
    by : ((y == n) ≡ true) ⊎ (is_among n ys ≡ true) → (is_among n ys ≡ true → x < n) → x < n
    by (inl here) rest = subst (λ m. x < m) (eqb-true y n here) (all 0 (omega arith))
    by (inr later) rest = rest later

rises : (xs : List ℕ) → AllPairs (λ x y. x < y) xs → Rises xs
rises [] pairs = tt
rises (x ∷ xs) pairs = (
  λ n is. below x n xs (λ j lt. pairs 0 (suc j) 0 (omega arith) (omega (arith, lt))) is,
  rises xs (λ i j d lt low. pairs (suc i) (suc j) d (omega (arith, lt)) (omega (arith, low))),
)

-- Each number of the one list is in the other.
abbrev AreIn : List ℕ → List ℕ → Type 0
AreIn xs ys = (n : ℕ) → is_among n xs ≡ true → is_among n ys ≡ true

first_among : (x : ℕ) (xs : List ℕ) → is_among x (x ∷ xs) ≡ true
first_among x xs = or_left (x == x) (is_among x xs) (eq-eqb x x refl)

same_first : (x y : ℕ) (xs ys : List ℕ) → Rises (x ∷ xs) → Rises (y ∷ ys) → AreIn (x ∷ xs) (y ∷ ys) → AreIn (y ∷ ys) (x ∷ xs) → x ≡ y
same_first x y xs ys up too in_ back =
    by (by_test (y == x) (is_among x ys) (in_ x (first_among x xs))) (by_test (x == y) (is_among y xs) (back y (first_among y ys)))
  where
    by : ((y == x) ≡ true) ⊎ (is_among x ys ≡ true) → ((x == y) ≡ true) ⊎ (is_among y xs ≡ true) → x ≡ y
    by (inl e) other = sym (eqb-true y x e)
    by (inr later) (inl e) = eqb-true x y e
    by (inr later) (inr after) = let low = too.0 x later in let high = up.0 y after in absurd (omega (arith, low, high))

-- What is in the rest of the one list is in the rest of the other.
rest_in : (x y : ℕ) (xs ys : List ℕ) → Rises (x ∷ xs) → x ≡ y → AreIn (x ∷ xs) (y ∷ ys) → AreIn xs ys
rest_in x y xs ys up same in_ n is = by (by_test (y == n) (is_among n ys) (in_ n (or_right (x == n) (is_among n xs) is)))
  where
    by : ((y == n) ≡ true) ⊎ (is_among n ys ≡ true) → is_among n ys ≡ true
    by (inl e) = let low = up.0 n is in let here = eqb-true y n e in absurd (omega (arith, low, here, same))
    by (inr later) = later

same_by : (xs ys : List ℕ) → Rises xs → Rises ys → AreIn xs ys → AreIn ys xs → xs ≡ ys
same_by [] [] up too in_ back = refl
same_by [] (y ∷ ys) up too in_ back = absurd (let none = back y (first_among y ys) in cc none)
same_by (x ∷ xs) [] up too in_ back = absurd (let none = in_ x (first_among x xs) in cc none)
same_by (x ∷ xs) (y ∷ ys) up too in_ back =
    let same = same_first x y xs ys up too in_ back in
    ap₂ (λ z zs. z ∷ zs) same (same_by xs ys up.1 too.1 (rest_in x y xs ys up same in_) (rest_in y x ys xs too (sym same) back))

pub same_lists : (xs ys : List ℕ) → IsStrictlyIncreasing xs → IsStrictlyIncreasing ys → AreIn xs ys → AreIn ys xs → xs ≡ ys
same_lists xs ys up too in_ back =
    same_by xs ys (rises xs (AllPairs-from_increasing xs up)) (rises ys (AllPairs-from_increasing ys too)) in_ back
