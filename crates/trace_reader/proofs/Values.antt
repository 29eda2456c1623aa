use Rattle.std.proofs.Common.{◌≡◌, ◌≤◌, ◌<◌, ◌+◌, ◌*◌, ◌^◌, ℕ, List, [], ◌∷◌, length, drop, get_or, true, arith, refl, ◌∙◌, ap, mul-le-mul_left}
use Rattle.std.proofs.lemmas.Bool.Decides.{nat_tests}
use Rattle.std.specs.List.{list_all}
use Rattle.std.specs.declared.option.Option.TheVariants.{Some, None}
use Rattle.trace_reader.specs.Numbers.{is_digit, is_hex_digit, digit, value, value_after, if_small}

pub grows : (radix n : ℕ) (ds : List ℕ) → 1 ≤ radix → n ≤ value_after radix n ds
grows radix n [] le = omega arith
grows radix n (c ∷ cs) le =
    let step : n * radix + digit c ≤ value_after radix (n * radix + digit c) cs = grows radix (n * radix + digit c) cs le in
    let more : n * 1 ≤ n * radix = mul-le-mul_left n le in
    omega arith

pub too_large : (v : ℕ) → 2 ^ 64 ≤ v → None ≡ if_small v
too_large v le = grind (arith, nat_tests)

pub fits : (v : ℕ) → v < 2 ^ 64 → Some v ≡ if_small v
fits v lt = grind (arith, nat_tests)

pub step : (radix n : ℕ) (ds : List ℕ) → 0 < length ds → value_after radix (n * radix + digit (get_or ds 0 0)) (drop 1 ds) ≡ value_after radix n ds
step radix n [] lt = absurd (omega arith)
step radix n (c ∷ cs) lt = refl

pub tail : (ds : List ℕ) → 0 < length ds → list_all is_hex_digit ds ≡ true → list_all is_hex_digit (drop 1 ds) ≡ true
tail [] lt all = absurd (omega arith)
tail (c ∷ cs) lt all = Prim.grind (arith, nat_tests)

pub add_over : (radix n : ℕ) (ds all : List ℕ) → 1 ≤ radix → value_after radix n ds ≡ value_after radix 0 all → 0 < length ds
    → 2 ^ 64 ≤ n * radix + digit (get_or ds 0 0) → None ≡ if_small (value radix all)
unfolding value
add_over radix n ds all le e lt over =
    let g : n * radix + digit (get_or ds 0 0) ≤ value_after radix (n * radix + digit (get_or ds 0 0)) (drop 1 ds) = grows radix _ (drop 1 ds) le in
    let s : value_after radix (n * radix + digit (get_or ds 0 0)) (drop 1 ds) ≡ value_after radix n ds = step radix n ds lt in
    too_large (value_after radix 0 all) (omega arith)

pub ends : (radix n : ℕ) (ds all : List ℕ) → value_after radix n ds ≡ value_after radix 0 all → length ds < 1 → n < 2 ^ 64 → Some n ≡ if_small (value radix all)
unfolding value
ends radix n [] all e lt fit = ap Some e ∙ fits (value_after radix 0 all) (omega arith)
ends radix n (c ∷ cs) all e lt fit = absurd (omega arith)

pub digits_are_hex : (ds : List ℕ) → list_all is_digit ds ≡ true → list_all is_hex_digit ds ≡ true
digits_are_hex [] all = refl
digits_are_hex (c ∷ cs) all = grind (arith, nat_tests, digits_are_hex cs)
