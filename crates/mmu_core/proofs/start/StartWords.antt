-- What each word and each hand is at the start.
use Rattle.std.proofs.Common.{◌≡◌, ◌<◌, ◌≤◌, ◌+◌, ◌-◌, ◌*◌, ◌/◌, ◌%◌, ◌^◌, ℕ, zero, suc, List, [], ◌∷◌, ◌++◌, length, length-append, get_or, refl}
use Rattle.std.proofs.Common.{sym, subst, ap, ◌∙◌, arith}
use Rattle.std.proofs.lemmas.Bool.Decides.{nat_tests, Decides-eqb}
use Rattle.std.proofs.lemmas.List.{get_or_append_left}
use Rattle.std.proofs.lemmas.Nat.Bits.{bit_at_mask_above, bit_at_mask_below, bit_at_mask_inside}
use Rattle.std.specs.Prelude.{Bool, true, false, ◌==◌, nat_le, nat_lt, if◌then◌else◌, slice_index}
use Rattle.core_views.specs.declared.sizes.Sizes.{Sizes}
use Rattle.core_views.specs.declared.trace.Line.{Line}
use Rattle.core_views.specs.Held.{Held, first_held}
use Rattle.core_views.specs.Sizes.{AreSizes, actor_at, actors_of}
use Rattle.core_views.specs.Whole.{lines_of}
use Rattle.spte_words.specs.declared.area.Area.{Area}
use Rattle.spte_words.specs.declared.area.Area.TheVariants as area
use Rattle.spte_words.specs.Areas.{place, size_of, words_of_bits}
use Rattle.spte_words.specs.Bits.{has_bit}
use Rattle.mmu_core.specs.machine.Enabled.{mmu}
use Rattle.mmu_core.specs.machine.Machine.{World, hand_in}
use Rattle.mmu_core.specs.invariant.PoolPart.{is_free}
use Rattle.mmu_core.specs.machine.Steps.{nobody}
use Rattle.part_steps.specs.Tasks.{map_of}
use Rattle.mmu_core.specs.machine.View.{word_in}
use Rattle.mmu_core.specs.machine.Worlds.{AreStartWords, IsStart, free_bits, least, start_hands, start_word}

-- each word at the start, after its area's end too where its start word is 0
pub word_at_start : (z : Sizes) (w : World Held) (a : Area) (i x : ℕ) → AreStartWords z w.words → (i < size_of (map_of z) a → start_word z a i ≡ x)
    → (nat_lt i (size_of (map_of z) a) ≡ false → 0 ≡ x) → word_in z w a i ≡ x
word_at_start z w a i x start inside outside = by (nat_lt i (size_of (map_of z) a)) (λ e. grind (arith, nat_tests)) (λ e. outside e)
  where
    by : (b : Bool) → (b ≡ true → i < size_of (map_of z) a) → (b ≡ false → 0 ≡ x) → (if b then slice_index w.words (place (map_of z) a i) else 0) ≡ x
    by true lt none = start.each a i (lt refl) ∙ inside (lt refl)
    by false lt none = none refl

pub pool_word : (z : Sizes) (w : World Held) (i : ℕ) → AreStartWords z w.words → word_in z w area.Pool i ≡ 0
pool_word z w i start = word_at_start z w area.Pool i 0 start (λ lt. refl) (λ e. refl)

-- the hands at the start
pub hands_count : (z : Sizes) (lines : List Line) (n : ℕ) → length (start_hands z lines n) ≡ n
hands_count z lines zero = refl
hands_count z lines (suc n) = length-append (start_hands z lines n) _ ∙ ap (λ m. m + 1) (hands_count z lines n) ∙ omega arith

get_last : (xs : List Held) (y : Held) (d : Held) → get_or (xs ++ y ∷ []) (length xs) d ≡ y
get_last [] y d = refl
get_last (x ∷ xs) y d = get_last xs y d

hand_at : (z : Sizes) (lines : List Line) (n i : ℕ) → i < n
    → get_or (start_hands z lines n) i nobody ≡ first_held z (actor_at z i) (lines_of (actor_at z i) lines)
hand_at z lines zero i lt = absurd (omega arith)
hand_at z lines (suc n) i lt = by (λ l. hand_at z lines n i l) (i == n) (λ e. (Decides-eqb i n).0 e) (λ e. grind (arith, nat_tests))
  where
    count : length (start_hands z lines n) ≡ n
    count = hands_count z lines n

    by : (i < n → get_or (start_hands z lines n) i nobody ≡ first_held z (actor_at z i) (lines_of (actor_at z i) lines)) → (b : Bool)
        → (b ≡ true → i ≡ n) → (b ≡ false → i < n)
        → get_or (start_hands z lines (suc n)) i nobody ≡ first_held z (actor_at z i) (lines_of (actor_at z i) lines)
    by before true same less =
        subst (λ k. get_or (start_hands z lines (suc n)) k nobody ≡ first_held z (actor_at z k) (lines_of (actor_at z k) lines)) (sym (same refl))
        (subst (λ k. get_or (start_hands z lines n ++ first_held z (actor_at z n) (lines_of (actor_at z n) lines) ∷ []) k nobody
        ≡ first_held z (actor_at z n) (lines_of (actor_at z n) lines)) count
        (get_last (start_hands z lines n) (first_held z (actor_at z n) (lines_of (actor_at z n) lines)) nobody))
    by before false same less = get_or_append_left (start_hands z lines n) _ nobody i (subst (λ m. i < m) (sym count) (less refl)) ∙ before (less refl)

pub hand_is : (z : Sizes) (lines : List Line) (w : World Held) (i : ℕ) → IsStart z lines w → i < actors_of z
    → hand_in mmu w i ≡ first_held z (actor_at z i) (lines_of (actor_at z i) lines)
hand_is z lines w i start lt = ap (λ (hs : List Held). get_or hs i nobody) start.hands ∙ hand_at z lines (actors_of z) i lt

pub least_low : (a b : ℕ) → least a b ≤ a
least_low a b = by (nat_le a b) (λ e. grind (arith, nat_tests))
  where
    by : (c : Bool) → (c ≡ false → b ≤ a) → (if c then a else b) ≤ a
    by true le = omega arith
    by false le = le refl

least_under : (a b : ℕ) → least a b ≤ b
least_under a b = by (nat_le a b) (λ e. grind (arith, nat_tests))
  where
    by : (c : Bool) → (c ≡ true → a ≤ b) → (if c then a else b) ≤ b
    by true le = le refl
    by false le = omega arith

least_over : (a b j : ℕ) → j < a → j < b → j < least a b
least_over a b j low under = by (nat_le a b)
  where
    by : (c : Bool) → j < (if c then a else b)
    by true = low
    by false = under

-- a word of a map of bits in which none of the bits is set
no_bits : (a b : ℕ) → a ≡ b → 0 ≡ 2 ^ least 64 a - 2 ^ least 64 b
no_bits a b e = let same : 2 ^ least 64 a ≡ 2 ^ least 64 b = ap (λ n. 2 ^ least 64 n) e in omega (arith, same)

-- The words of a map of bits, after its end too, in which exactly the bits from one on are set, up to another one.
module _ (map : ℕ → ℕ) (first count : ℕ) (bits : (i : ℕ) → map i ≡ free_bits first count i) where
  pub bits_inside : (k : ℕ) → first ≤ k → k < count → is_free map k ≡ true
  bits_inside k low lt =
      let from = least_under 64 (first - 64 * (k / 64)) in
      let to = least_over 64 (count - 64 * (k / 64)) (k % 64) (omega arith) (omega (arith, lt)) in
      ap (has_bit (k % 64)) (bits (k / 64))
      ∙ ap (λ b. b == 1) (bit_at_mask_inside (least 64 (first - 64 * (k / 64))) (least 64 (count - 64 * (k / 64))) (k % 64) (omega (arith, from, low)) to)

  pub bits_below : (k : ℕ) → k < first → is_free map k ≡ false
  bits_below k lt =
      let from = least_over 64 (first - 64 * (k / 64)) (k % 64) (omega arith) (omega (arith, lt)) in
      ap (has_bit (k % 64)) (bits (k / 64))
      ∙ ap (λ b. b == 1) (bit_at_mask_below (least 64 (first - 64 * (k / 64))) (least 64 (count - 64 * (k / 64))) (k % 64) from)

  pub bits_behind : (k : ℕ) → count ≤ k → is_free map k ≡ false
  bits_behind k le =
      let to = least_under 64 (count - 64 * (k / 64)) in
      ap (has_bit (k % 64)) (bits (k / 64))
      ∙ ap (λ b. b == 1) (bit_at_mask_above (least 64 (first - 64 * (k / 64))) (least 64 (count - 64 * (k / 64))) (k % 64) (omega (arith, to, le)))

-- Past the words of a map of so many bits none is set.
none_past : (first count i : ℕ) → first ≤ count → nat_lt i (words_of_bits count) ≡ false → 0 ≡ free_bits first count i
none_past first count i within e = no_bits (count - 64 * i) (first - 64 * i) (empty (grind (arith, nat_tests)))
  where
    empty : words_of_bits count ≤ i → count - 64 * i ≡ first - 64 * i
    empty le = omega (arith, le, within)

-- the words of the maps of pool pages and of frames
pub map_word : (z : Sizes) (w : World Held) (i : ℕ) → AreSizes z → AreStartWords z w.words → word_in z w area.PoolMap i ≡ free_bits 2 z.pool i
map_word z w i sizes start =
    word_at_start z w area.PoolMap i (free_bits 2 z.pool i) start (λ lt. refl) (λ e. none_past 2 z.pool i (omega (arith, sizes.pool.0)) e)

pub frame_word : (z : Sizes) (w : World Held) (i : ℕ) → AreSizes z → AreStartWords z w.words → word_in z w area.FrameMap i ≡ free_bits z.pages z.frames i
frame_word z w i sizes start =
    word_at_start z w area.FrameMap i (free_bits z.pages z.frames i) start (λ lt. refl) (λ e. none_past z.pages z.frames i sizes.frames.0 e)
