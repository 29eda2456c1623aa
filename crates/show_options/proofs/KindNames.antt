-- The number of a kind of step is found by its name.
use Rattle.std.proofs.Common.{◌≡◌, ◌<◌, ◌+◌, ℕ, zero, suc, List, [], ◌∷◌, length, drop, get_or, true, false, arith, refl, sym, ap, subst, ◌∙◌}
use Rattle.std.specs.Prelude.{Bool, if◌then◌else◌, Option, Some}
use Rattle.std.specs.Str.{bytes_eq}
use Rattle.trace_reader.specs.Items.{kind_name, kind_names, number_among}

-- A list from an index on is the element there and what stands after it.
from_index : (names : List (List ℕ)) (k : ℕ) → k < length names → drop k names ≡ get_or names k [] ∷ drop (suc k) names
from_index [] k within = absurd (omega (arith, within))
from_index (x ∷ xs) zero within = refl
from_index (x ∷ xs) (suc k) within = from_index xs k (omega (arith, within))

name_of : (k : ℕ) → kind_name (suc k) ≡ get_or kind_names k []
unfolding kind_name
name_of k = refl

module _ (k : ℕ) (w : List ℕ) (within : k < 41) where
  here : number_among (suc k) (drop k kind_names) w
      ≡ (if bytes_eq w (kind_name (suc k)) then Some (suc k) else number_among (suc k + 1) (drop (suc k) kind_names) w)
  here =
      let many : length kind_names ≡ 41 = refl in
      ap (λ (names : List (List ℕ)). number_among (suc k) names w) (from_index kind_names k (omega (arith, many, within)))
      ∙ ap (λ (name : List ℕ). if bytes_eq w name then Some (suc k) else number_among (suc k + 1) (drop (suc k) kind_names) w) (sym (name_of k))

  next : k + 1 ≡ suc k
  next = omega arith

  pub found : bytes_eq w (kind_name (k + 1)) ≡ true → number_among (k + 1) (drop k kind_names) w ≡ Some (k + 1)
  found = subst (λ (n : ℕ). bytes_eq w (kind_name n) ≡ true → number_among n (drop k kind_names) w ≡ Some n) (sym next)
      (λ is. here ∙ ap (λ (t : Bool). if t then Some (suc k) else number_among (suc k + 1) (drop (suc k) kind_names) w) is)

  pub passed : bytes_eq w (kind_name (k + 1)) ≡ false → number_among (k + 1) (drop k kind_names) w ≡ number_among (k + 1 + 1) (drop (k + 1) kind_names) w
  passed = subst (λ (n : ℕ). bytes_eq w (kind_name n) ≡ false → number_among n (drop k kind_names) w ≡ number_among (n + 1) (drop n kind_names) w) (sym next)
      (λ not_. here ∙ ap (λ (t : Bool). if t then Some (suc k) else number_among (suc k + 1) (drop (suc k) kind_names) w) not_)
