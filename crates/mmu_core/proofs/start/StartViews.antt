-- The words and hands of a start, as columns; and that there is a start.
use Rattle.std.proofs.Common.{◌≡◌, ◌⊎◌, inl, inr, ◌<◌, ◌≤◌, ℕ, zero, suc, List, [], ◌∷◌, ◌++◌, length, refl, ap, ◌∙◌, arith, length-append}
use Rattle.std.specs.Prelude.{All, Bool, true, false, nat_lt, if◌then◌else◌, slice_index, slice_index_or}
use Rattle.std.proofs.lemmas.Bool.{cases_lt}
use Rattle.std.proofs.lemmas.List.{get_or_append_left, get_or_push}
use Rattle.std.proofs.lemmas.Bool.Decides.{nat_tests}
use Rattle.core_views.specs.declared.sizes.Sizes.{Sizes}
use Rattle.core_views.specs.declared.trace.Line.{Line}
use Rattle.core_views.specs.Held.{Held}
use Rattle.core_views.specs.Sizes.{AreSizes, actors_of}
use Rattle.core_views.specs.Traces.{IsCommandFor}
use Rattle.spte_words.specs.declared.area.Area.{Area}
use Rattle.spte_words.specs.Areas.{StandsSomewhere, place, size_of, total}
use Rattle.spte_words.proofs.Places.{place_below, places_apart, word_stands}
use Rattle.mmu_core.specs.machine.Machine.{World}
use Rattle.mmu_core.specs.machine.Steps.{nobody}
use Rattle.part_steps.specs.Tasks.{map_of}
use Rattle.mmu_core.specs.machine.View.{View, view, word_in}
use Rattle.mmu_core.specs.machine.Worlds.{AreStartWords, IsStart, start_hands, start_word}

abbrev pub start_view : Sizes → List Line → View
start_view z lines = record {
  words = λ area i. if nat_lt i (size_of (map_of z) area) then start_word z area i else 0;
  hand = λ a. slice_index_or (start_hands z lines (actors_of z)) a nobody;
}

pub start_view_is : (z : Sizes) (lines : List Line) (w : World Held) → IsStart z lines w → ◌≡◌ {A = View} (view z w) (start_view z lines)
start_view_is z lines w start = λ s. record { words = λ area i. word area i s; hand = λ a. slice_index_or (start.hands s) a nobody }
  where
    word : (area : Area) (i : ℕ) → word_in z w area i ≡ (if nat_lt i (size_of (map_of z) area) then start_word z area i else 0)
    word area i = case (nat_lt i (size_of (map_of z) area)) (λ e. grind (arith, nat_tests))
      where
        case : (b : Bool) → (b ≡ true → i < size_of (map_of z) area)
            → ◌≡◌ {A = ℕ} (if b then slice_index w.words (place (map_of z) area i) else 0) (if b then start_word z area i else 0)
        case true inside = start.words.each area i (inside refl)
        case false inside = refl

-- the numbers f 0, f 1 and so on, n of them
abbrev pub first_of : (ℕ → ℕ) → ℕ → List ℕ
first_of f zero = []
first_of f (suc n) = first_of f n ++ f n ∷ []

first_count : (f : ℕ → ℕ) (n : ℕ) → length (first_of f n) ≡ n
first_count f zero = refl
first_count f (suc n) = length-append (first_of f n) (f n ∷ []) ∙ omega (arith, first_count f n)

first_at : (f : ℕ → ℕ) (n i : ℕ) → i < n → slice_index (first_of f n) i ≡ f i
first_at f zero i lt = absurd (omega arith)
first_at f (suc n) i lt = case (cases_lt i n) (λ below. first_at f n i below)
  where
    case : (i < n) ⊎ (n ≤ i) → (i < n → slice_index (first_of f n) i ≡ f i) → slice_index (first_of f (suc n)) i ≡ f i
    case (inl below) before = get_or_append_left (first_of f n) (f n ∷ []) 0 i (omega (arith, first_count f n)) ∙ before below
    case (inr past) before = get_or_push (first_of f n) (f n) 0 i (omega (arith, first_count f n)) ∙ ap f (omega arith)

-- the start's number in a word: that of the place which the word is
abbrev word_there : (z : Sizes) (k : ℕ) → (k < total (map_of z)) ⊎ (total (map_of z) ≤ k) → ℕ
word_there z k (inl lt) = start_word z (word_stands (map_of z) k lt).area (word_stands (map_of z) k lt).i
word_there z k (inr past) = 0

abbrev pub word_of : Sizes → ℕ → ℕ
word_of z k = word_there z k (cases_lt k (total (map_of z)))

word_is : (z : Sizes) (area : Area) (i : ℕ) → i < size_of (map_of z) area
    → (c : (place (map_of z) area i < total (map_of z)) ⊎ (total (map_of z) ≤ place (map_of z) area i))
    → word_there z (place (map_of z) area i) c ≡ start_word z area i
word_is z area i lt (inl below) =
    let S : StandsSomewhere (map_of z) (place (map_of z) area i) = word_stands (map_of z) (place (map_of z) area i) below in
    let same : (S.area ≡ area) × (S.i ≡ i) = places_apart (map_of z) S.area area S.i i S.within lt S.at in
    ap (λ a. start_word z a S.i) same.0 ∙ ap (start_word z area) same.1
word_is z area i lt (inr past) = absurd (omega (arith, place_below (map_of z) area i lt))

pub start_words : (z : Sizes) → AreStartWords z (first_of (word_of z) (total (map_of z)))
start_words z = record {
  count = first_count (word_of z) (total (map_of z));
  each =
      λ area i lt. first_at (word_of z) (total (map_of z)) (place (map_of z) area i) (place_below (map_of z) area i lt)
      ∙ word_is z area i lt (cases_lt (place (map_of z) area i) (total (map_of z)));
}

pub a_start : (z : Sizes) (lines : List Line) → AreSizes z → All (λ line. IsCommandFor z line.actor line.command) lines
    → length lines ≤ 1000000 → (w : World Held) × IsStart z lines w
a_start z lines sizes allowed few = (
  record { words = first_of (word_of z) (total (map_of z)); hands = start_hands z lines (actors_of z) },
  record { sizes = sizes; allowed = allowed; few = few; words = start_words z; hands = refl },
)
