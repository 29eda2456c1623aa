-- Names of words, gone through one after another.
use Rattle.std.proofs.Common.{◌≡◌, ◌≢◌, ◌⊎◌, inl, inr, ◌+◌, ◌<◌, ◌≤◌, ℕ, List, true, false, arith, sym, ap, subst, ◌∙◌}
use Rattle.std.specs.Prelude.{Bool}
use Rattle.std.specs.Str.{bytes_eq}
use Rattle.std.proofs.lemmas.Bool.{cases_lt}
use Rattle.std.proofs.lemmas.Slice.Eq.{bytes_eq-Decides}

-- Where a test says so, the two names are one; or they are none.
pub one_name : (name other : List ℕ) (tells : Bool) → tells ≡ bytes_eq name other → tells ≡ true → name ≡ other
one_name name other tells is so = (bytes_eq-Decides name other).0 (sym is ∙ so)

pub other_name : (name other : List ℕ) (tells : Bool) → tells ≡ bytes_eq name other → tells ≡ false → name ≢ other
other_name name other tells is so same =
    let told : bytes_eq name other ≡ true = (bytes_eq-Decides name other).1 same in
    absurd (cc (is, so, told))

-- None of so many words has the name, and the next one hasn't, either.
pub none_more : (named : ℕ → List ℕ) (name : List ℕ) (k : ℕ) → ((i : ℕ) → i < k → named i ≢ name) → named k ≢ name → (i : ℕ) → i < k + 1 → named i ≢ name
none_more named name k before here i low same = by (cases_lt i k)
  where
    by : (i < k) ⊎ (k ≤ i) → ⊥
    by (inl below) = before i below same
    by (inr last) = let is : i ≡ k = omega (arith, low, last) in here (ap named (sym is) ∙ same)
