-- The reader finds each kind by its name.
use Rattle.std.proofs.Common.{◌≡◌, ◌<◌, ℕ, zero, suc, List, [], ◌∷◌, ◌++◌, length, take, drop, get_or, arith, refl, ap}
use Rattle.std.proofs.lemmas.List.{length-take}
use Rattle.trace_reader.specs.Items.{kind_name, kind_names}
use Rattle.trace_reader.proofs.Items.{kind_read}
use Rattle.step_text.specs.Laws.{KindNamesAreRead}

-- A list is what stands before an index, the element there and what stands after it.
parted : (names : List (List ℕ)) (k : ℕ) → k < length names → names ≡ take k names ++ get_or names k [] ∷ drop (suc k) names
parted [] k within = absurd (omega (arith, within))
parted (x ∷ xs) zero within = refl
parted (x ∷ xs) (suc k) within = ap (λ (names : List (List ℕ)). x ∷ names) (parted xs k (omega (arith, within)))

pub read : KindNamesAreRead
unfolding kind_name
read zero from to = absurd (omega (arith, from))
read (suc k) from to =
    let many : length kind_names ≡ 41 = refl in
    let within : k < length kind_names = omega (arith, to, many) in
    let count = length-take k kind_names in
    kind_read (get_or kind_names k []) (suc k) (take k kind_names, drop (suc k) kind_names, parted kind_names k within, omega (arith, count, within))
