-- A machine of one size, with the same lines, starts in one world: each word is one of an area, and each area has its start words.
use Rattle.std.proofs.Common.{◌≡◌, ◌<◌, ℕ, suc, List, [], ◌∷◌, get_or, length, refl, sym, subst, ap, ◌∙◌, arith}
use Rattle.core_views.specs.declared.sizes.Sizes.{Sizes}
use Rattle.spte_words.specs.Areas.{StandsSomewhere}
use Rattle.spte_words.proofs.Places.{word_stands}
use Rattle.part_steps.specs.Tasks.{map_of}
use Rattle.mmu_core.specs.machine.Worlds.{AreStartWords}
use Rattle.weave_laws.specs.Determined.{StartsAreOne}

-- Two lists of as many numbers, with the same number at each place.
same_lists : (xs ys : List ℕ) → length xs ≡ length ys → ((i : ℕ) → i < length xs → get_or xs i 0 ≡ get_or ys i 0) → xs ≡ ys
same_lists [] [] count each = refl
same_lists [] (y ∷ ys) count each = absurd (omega (arith, count))
same_lists (x ∷ xs) [] count each = absurd (omega (arith, count))
same_lists (x ∷ xs) (y ∷ ys) count each =
    let first : x ≡ y = each 0 (omega arith) in
    let rest : xs ≡ ys = same_lists xs ys (omega (arith, count)) (λ i lt. each (suc i) (omega (arith, lt))) in
    λ i. first i ∷ rest i

same_words : (z : Sizes) (xs ys : List ℕ) → AreStartWords z xs → AreStartWords z ys → xs ≡ ys
same_words z xs ys X Y = same_lists xs ys (X.count ∙ sym Y.count) each
  where
    each : (k : ℕ) → k < length xs → get_or xs k 0 ≡ get_or ys k 0
    each k lt =
        let S : StandsSomewhere (map_of z) k = word_stands (map_of z) k (subst (λ n. k < n) X.count lt) in
        ap (λ n. get_or xs n 0) (sym S.at) ∙ X.each S.area S.i S.within ∙ sym (Y.each S.area S.i S.within) ∙ ap (λ n. get_or ys n 0) S.at

pub starts_are_one : StartsAreOne
starts_are_one z lines start other S T =
    let words : start.words ≡ other.words = same_words z start.words other.words S.words T.words in
    let hands : start.hands ≡ other.hands = S.hands ∙ sym T.hands in
    λ i. record { words = words i; hands = hands i }
