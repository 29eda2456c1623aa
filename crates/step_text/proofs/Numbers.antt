-- Numbers in brackets: each ends at the first byte that is no digit.
use Rattle.std.proofs.Common.{◌≡◌, ◌<◌, ◌^◌, ◌/◌, ◌%◌, ℕ, List, [], ◌∷◌, ◌++◌, drop, get_or, arith, refl, sym, ap, ◌∙◌, append_assoc}
use Rattle.std.proofs.Math.Nat.{div-add-mod, div-le_self}
use Rattle.std.proofs.lemmas.Fmt.{decimal_is_IsNumeral, decimal_injective}
use Rattle.std.specs.Char.{digit_value}
use Rattle.std.specs.Fmt.{decimal}
use Rattle.std.specs.Str.Parse.{AllDigits}

-- A number of 32 bits is one of 64 bits.
pub wide : (n : ℕ) → n < 2 ^ 32 → n < 2 ^ 64
wide n small = omega (arith, small)

-- Digits up to a `]`, and what comes after it.
split : (xs ys r s : List ℕ) → AllDigits 10 xs → AllDigits 10 ys → xs ++ 93 ∷ r ≡ ys ++ 93 ∷ s → (xs ≡ ys) × (r ≡ s)
split [] [] r s xd yd e = (refl, ap (drop 1) e)
split [] (y ∷ ys) r s xd yd e =
    let same : digit_value 93 ≡ digit_value y = ap (λ (l : List ℕ). digit_value (get_or l 0 0)) e in
    absurd (omega (arith, same, yd.0))
split (x ∷ xs) [] r s xd yd e =
    let same : digit_value x ≡ digit_value 93 = ap (λ (l : List ℕ). digit_value (get_or l 0 0)) e in
    absurd (omega (arith, same, xd.0))
split (x ∷ xs) (y ∷ ys) r s xd yd e =
    let same : x ≡ y = ap (λ (l : List ℕ). get_or l 0 0) e in
    let more = split xs ys r s xd.1 yd.1 (ap (drop 1) e) in
    (rw (same, more.0) refl, more.1)

-- A number in brackets, and what comes after it.
pub bracketed_tells : (i j : ℕ) (r s : List ℕ) → i < 2 ^ 32 → j < 2 ^ 32 → decimal i ++ 93 ∷ r ≡ decimal j ++ 93 ∷ s → (i ≡ j) × (r ≡ s)
bracketed_tells i j r s ib jb e =
    let p = split (decimal i) (decimal j) r s (decimal_is_IsNumeral i (wide i ib)).0.1 (decimal_is_IsNumeral j (wide j jb)).0.1 e in
    (decimal_injective i j (wide i ib) (wide j jb) p.0, p.1)

-- A page and a word of it in brackets, but for the first bracket.
abbrev pub paged : ℕ → ℕ → List ℕ
paged words i = (decimal (i / words) ++ 93 ∷ []) ++ 91 ∷ (decimal (i % words) ++ 93 ∷ [])

regrouped : (words i : ℕ) → paged words i ≡ decimal (i / words) ++ 93 ∷ 91 ∷ (decimal (i % words) ++ 93 ∷ [])
regrouped words i = append_assoc (decimal (i / words)) (93 ∷ []) (91 ∷ (decimal (i % words) ++ 93 ∷ []))

pub paged_tells : (words i j : ℕ) → i < 2 ^ 32 → j < 2 ^ 32 → paged words i ≡ paged words j → i ≡ j
paged_tells words i j ib jb e =
    let rest : ℕ → List ℕ = λ n. 91 ∷ (decimal (n % words) ++ 93 ∷ []) in
    let page = bracketed_tells (i / words) (j / words) (rest i) (rest j) (omega (arith, div-le_self i words)) (omega (arith, div-le_self j words))
    (sym (regrouped words i) ∙ e ∙ regrouped words j) in
    let x = div-add-mod i words in
    let y = div-add-mod j words in
    let word = bracketed_tells (i % words) (j % words) [] [] (omega (arith, x)) (omega (arith, y)) (ap (drop 1) page.1) in
    let same_page = page.0 in
    let same_word = word.0 in
    cc
