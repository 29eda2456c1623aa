-- The words of the start, made one after another.
use Rattle.std.proofs.Common.{◌≡◌, ◌<◌, ◌≤◌, ◌+◌, ◌++◌, ◌⊎◌, inl, inr, ℕ, List, [], ◌∷◌, length, length-append}
use Rattle.std.proofs.Common.{slice_index, ◌∙◌, ap, sym, subst, arith}
use Rattle.std.proofs.Math.ListN.{get_or-append}
use Rattle.std.proofs.Math.Seq.{get_or-append_seam}
use Rattle.std.proofs.lemmas.Bool.{cases_lt}
use Rattle.std.proofs.lemmas.Bool.Decides.{nat_tests}
use Rattle.core_views.specs.declared.sizes.Sizes.{Sizes}
use Rattle.part_steps.specs.Tasks.{map_of}
use Rattle.mmu_core.specs.machine.Worlds.{AreStartWords, least, start_word}
use Rattle.spte_words.specs.declared.area.Area.{Area}
use Rattle.spte_words.specs.declared.word_map.WordMap.{WordMap}
use Rattle.spte_words.specs.Areas.{place, size_of, total}
use Rattle.spte_words.proofs.Places.{place_below, places_apart}

pub least_rises : (n a b : ℕ) → a ≤ b → least n a ≤ least n b
least_rises n a b le = grind (arith, nat_tests)

-- The words below a place are those of the start, and there are no others.
pub record StartsBelow (z : Sizes) (word : ℕ) (words : List ℕ) : Type 0 where
  pub count : length words ≡ word
  pub each : (area : Area) (i : ℕ) → i < size_of (map_of z) area → place (map_of z) area i < word
      → slice_index words (place (map_of z) area i) ≡ start_word z area i

pub none_below : (z : Sizes) → StartsBelow z 0 []
none_below z = record { count = cc; each = λ area i within below. absurd (omega arith) }

pub one_more : (z : Sizes) (word : ℕ) (words : List ℕ) (area : Area) (i n : ℕ) → StartsBelow z word words → i < size_of (map_of z) area
    → place (map_of z) area i ≡ word → n ≡ start_word z area i → StartsBelow z (word + 1) (words ++ n ∷ [])
one_more z word words area i n made within at is = record { count = omega (arith, length-append words (n ∷ []), made.count); each = each }
  where
    m : WordMap
    m = map_of z

    Holds : Area → ℕ → Type 0
    Holds a j = slice_index (words ++ n ∷ []) (place m a j) ≡ start_word z a j

    last : slice_index (words ++ n ∷ []) (place m area i) ≡ n
    last = ap (slice_index (words ++ n ∷ [])) (at ∙ sym made.count) ∙ get_or-append_seam words n [] 0

    each : (a : Area) (j : ℕ) → j < size_of m a → place m a j < word + 1 → Holds a j
    each a j inside below = order (cases_lt (place m a j) word)
      where
        same : (a ≡ area) × (j ≡ i) → Holds a j
        same e = subst (λ x. Holds x j) (sym e.0) (subst (Holds area) (sym e.1) (last ∙ is))

        order : (place m a j < word) ⊎ (word ≤ place m a j) → Holds a j
        order (inl lt) = get_or-append words (n ∷ []) 0 (place m a j) (omega (arith, lt, made.count)) ∙ made.each a j inside lt
        order (inr le) = same (places_apart m a area j i inside within (omega (arith, le, below, at)))

pub all_made : (z : Sizes) (word : ℕ) (words : List ℕ) → word ≡ total (map_of z) → StartsBelow z word words → AreStartWords z words
all_made z word words all made =
    record { count = made.count ∙ all; each = λ area i within. made.each area i within (omega (arith, all, place_below (map_of z) area i within)) }
