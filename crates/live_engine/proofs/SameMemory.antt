-- Two memories that agree on the host's pages have the same image in slots of such pages.
use Rattle.std.proofs.Common.{◌≡◌, ◌<◌, ◌≤◌, ◌+◌, ◌==◌, ◌++◌, ◌∙◌, ℕ, zero, suc, List, [], ◌∷◌, ap, arith, refl}
use Rattle.std.proofs.lemmas.List.Elements.{All-head, All-tail}
use Rattle.std.specs.Prelude.{All, filter, flat_map, map, not}
use Rattle.std.specs.List.{range_with_len}
use Rattle.core_views.specs.declared.memory_slot.MemorySlot.{MemorySlot}
use Rattle.core_views.specs.declared.migration.ImageWord.{ImageWord}
use Rattle.core_views.specs.declared.trace.Slot.{Slot}
use Rattle.core_views.specs.Memory.{Memory}
use Rattle.core_views.specs.Migrations.{image_words, page_words, slot_words}
use Rattle.core_views.specs.SlotSets.{MemorySlots}

map_range : {X : Type 0} (g h : ℕ → X) (a n : ℕ) → ((i : ℕ) → i < a + n → g i ≡ h i) → map g (range_with_len a n) ≡ map h (range_with_len a n)
map_range g h a zero same = refl
map_range g h a (suc n) same =
    ap (λ x. x ∷ map g (range_with_len (a + 1) n)) (same a (omega arith))
    ∙ ap (λ xs. h a ∷ xs) (map_range g h (a + 1) n (λ i lt. same i (omega (arith, lt))))

flat_range : {X : Type 0} (g h : ℕ → List X) (a n : ℕ) → ((i : ℕ) → i < a + n → g i ≡ h i)
    → flat_map g (range_with_len a n) ≡ flat_map h (range_with_len a n)
flat_range g h a zero same = refl
flat_range g h a (suc n) same =
    ap (λ xs. xs ++ flat_map g (range_with_len (a + 1) n)) (same a (omega arith))
    ∙ ap (λ xs. h a ++ xs) (flat_range g h (a + 1) n (λ i lt. same i (omega (arith, lt))))

module _ (pages words : ℕ) (a b : Memory) (same : (page word : ℕ) → page < pages → word < words → a page word ≡ b page word) where
  same_words : (id : ℕ) (slot : Slot) → slot.host + slot.pages ≤ pages → slot_words words a id slot ≡ slot_words words b id slot
  same_words id slot few =
      flat_range (λ page. page_words words id page (a (slot.host + page))) (λ page. page_words words id page (b (slot.host + page))) 0 slot.pages
      (λ page to. map_range (λ word. record { id = id; page = page; word = word; value = a (slot.host + page) word })
      (λ word. record { id = id; page = page; word = word; value = b (slot.host + page) word }) 0 words
      (λ word last. ap (λ (x : ℕ). record { id = id; page = page; word = word; value = x })
      (same (slot.host + page) word (omega (arith, to, few)) (omega (arith, last)))))

  abbrev P : ℕ × MemorySlot → Type 0
  P entry = entry.1.slot.host + entry.1.slot.pages ≤ pages

  all_same : (slots : MemorySlots) → All P slots
      → flat_map (λ entry. slot_words words a entry.0 entry.1.slot) slots ≡ flat_map (λ entry. slot_words words b entry.0 entry.1.slot) slots
  all_same [] few = refl
  all_same ((id, m) ∷ es) few =
      ap (λ xs. xs ++ flat_map (λ entry. slot_words words a entry.0 entry.1.slot) es) (same_words id m.slot (All-head P (id, m) es few))
      ∙ ap (λ xs. slot_words words b id m.slot ++ xs) (all_same es (All-tail P (id, m) es few))

  pub same_memory : (slots : MemorySlots) → All P slots → image_words words a slots ≡ image_words words b slots
  unfolding image_words
  same_memory slots few = ap (filter (λ (at : ImageWord). not (at.value == 0))) (all_same slots few)
