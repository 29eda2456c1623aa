-- The words of an image stand in the order of slots, pages and words.
use Rattle.std.proofs.Common.{◌⊎◌, inl, inr, ◌+◌, ◌==◌, ◌++◌, ℕ, zero, suc, Bool, true, false, not, List, [], ◌∷◌, refl, subst, arith, cond}
use Rattle.std.specs.Prelude.{Contains, filter, flat_map, map}
use Rattle.std.specs.List.{range_with_len}
use Rattle.core_views.specs.declared.migration.ImageWord.{ImageWord}
use Rattle.core_views.specs.declared.trace.Slot.{Slot}
use Rattle.core_views.specs.Memory.{Memory}
use Rattle.core_views.specs.Migrations.{image_words, page_words, slot_words}
use Rattle.core_views.specs.SlotSets.{MemorySlots}
use Rattle.flat_laws.specs.Images.{AreInOrder, ComesBefore}
use Rattle.flat_laws.proofs.ImageContents.{all_words, either_in, flat_of, map_of, slot_of, slots_of, word_at}
use Rattle.flat_laws.proofs.ImageWords.{at_from}
use Rattle.flat_laws.proofs.SlotsApart.{RisesFrom}
use Rattle.flat_laws.proofs.Writes.{filtered, first_in, later_in}

-- Two lists in order, of which the first comes before the second.
both_in_order : (xs ys : List ImageWord) → AreInOrder xs → AreInOrder ys
    → ((x y : ImageWord) → Contains xs x → Contains ys y → ComesBefore x y) → AreInOrder (xs ++ ys)
both_in_order [] ys one two apart = two
both_in_order (x ∷ xs) ys one two apart = (
  λ other has. by other (either_in xs ys other has),
  both_in_order xs ys one.1 two (λ p q here there. apart p q (later_in x xs p here) there),
)
  where
    by : (other : ImageWord) → Contains xs other ⊎ Contains ys other → ComesBefore x other
    by other (inl here) = one.0 other here
    by other (inr there) = apart x other (first_in x xs) there

filtered_in_order : (test : ImageWord → Bool) (xs : List ImageWord) → AreInOrder xs → AreInOrder (filter test xs)
filtered_in_order test [] order = order
filtered_in_order test (x ∷ xs) order = by (test x) (filtered_in_order test xs order.1)
  where
    by : (b : Bool) → AreInOrder (filter test xs) → AreInOrder (cond b (x ∷ filter test xs) (filter test xs))
    by true rest = (λ other has. order.0 other (filtered test xs other has).0, rest)
    by false rest = rest

-- The words of a page, those of a slot, and those of all slots.
page_in_order : (memory : Memory) (id : ℕ) (slot : Slot) (page a n : ℕ)
    → AreInOrder (map (λ word. word_at memory id slot page word) (range_with_len a n))
page_in_order memory id slot page a zero = tt
page_in_order memory id slot page a (suc n) = (
  λ other has.
      let W = map_of (λ word. word_at memory id slot page word) (a + 1) n other has in
      let from = W.from in
      subst (ComesBefore (word_at memory id slot page a)) W.is (inr (refl, inr (refl, omega (arith, from)))),
  page_in_order memory id slot page (a + 1) n,
)

slot_in_order : (words : ℕ) (memory : Memory) (id : ℕ) (slot : Slot) (a n : ℕ)
    → AreInOrder (flat_map (λ page. page_words words id page (memory (slot.host + page))) (range_with_len a n))
slot_in_order words memory id slot a zero = tt
slot_in_order words memory id slot a (suc n) =
    both_in_order (page_words words id a (memory (slot.host + a)))
    (flat_map (λ page. page_words words id page (memory (slot.host + page))) (range_with_len (a + 1) n)) (page_in_order memory id slot a 0 words)
    (slot_in_order words memory id slot (a + 1) n) apart
  where
    apart : (x y : ImageWord) → Contains (page_words words id a (memory (slot.host + a))) x
        → Contains (flat_map (λ page. page_words words id page (memory (slot.host + page))) (range_with_len (a + 1) n)) y → ComesBefore x y
    apart x y here there =
        let X = map_of (λ word. word_at memory id slot a word) 0 words x here in
        let P = flat_of (λ page. page_words words id page (memory (slot.host + page))) (a + 1) n y there in
        let Y = map_of (λ word. word_at memory id slot P.at word) 0 words y P.is in
        let from = P.from in
        subst (λ (w : ImageWord). ComesBefore w y) X.is
        (subst (ComesBefore (word_at memory id slot a X.at)) Y.is (inr (refl, inl (omega (arith, from)))))

all_in_order : (words : ℕ) (memory : Memory) (k : ℕ) (slots : MemorySlots) → RisesFrom k slots → AreInOrder (all_words words memory slots)
all_in_order words memory k [] rises = tt
all_in_order words memory k ((j, n) ∷ slots) rises =
    both_in_order (slot_words words memory j n.slot) (all_words words memory slots) (slot_in_order words memory j n.slot 0 n.slot.pages)
    (all_in_order words memory (suc j) slots rises.1) apart
  where
    apart : (x y : ImageWord) → Contains (slot_words words memory j n.slot) x → Contains (all_words words memory slots) y → ComesBefore x y
    apart x y here there =
        let x_is = (slot_of words memory j n.slot x here).id_is in
        let Y = slots_of words memory (suc j) slots y rises.1 there in
        let y_is = (slot_of words memory Y.id Y.slot.slot y Y.is).id_is in
        let above = at_from (suc j) Y.id Y.slot slots rises.1 Y.there in
        inl (omega (arith, x_is, y_is, above))

pub image_in_order : (words : ℕ) (memory : Memory) (slots : MemorySlots) → RisesFrom 0 slots → AreInOrder (image_words words memory slots)
unfolding image_words
image_in_order words memory slots rises =
    filtered_in_order (λ (x : ImageWord). not (x.value == 0)) (all_words words memory slots) (all_in_order words memory 0 slots rises)
