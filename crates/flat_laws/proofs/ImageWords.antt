-- The words of an image are those of memory where each word of each slot's page is.
use Rattle.std.proofs.Common.{◌≡◌, ◌<◌, ◌≤◌, ◌+◌, ◌==◌, ◌++◌, ℕ, zero, suc, Bool, true, false, List, [], ◌∷◌, refl, sym, ap, ◌∙◌, arith, cond}
use Rattle.std.specs.Prelude.{◌-◌, Option, Some, filter, flat_map, map, nat_le, nat_lt, not}
use Rattle.std.specs.List.{range_with_len}
use Rattle.std.specs.Option.{option_map}
use Rattle.std.proofs.lemmas.Bool.{and_from, cond-false, cond-true, eq-eqb, le-leb, lt-ltb, ne_eqb, eqb-true}
use Rattle.std.proofs.lemmas.Option.{same_Some}
use Rattle.core_views.specs.declared.migration.ImageWord.{ImageWord}
use Rattle.core_views.specs.declared.memory_slot.MemorySlot.{MemorySlot}
use Rattle.core_views.specs.declared.trace.Op.TheVariants.{Read}
use Rattle.core_views.specs.declared.trace.Slot.{Slot}
use Rattle.core_views.specs.Memory.{Memory}
use Rattle.core_views.specs.Migrations.{image_words, page_words, slot_words}
use Rattle.core_views.specs.Slots.{contains, page_behind, page_in, slot_of}
use Rattle.core_views.specs.SlotSets.{MemorySlots, flat_slots, slot_holding, slot_of_id}
use Rattle.core_views.proofs.FlatSlots.{flat_holding}
use Rattle.flat_laws.proofs.SlotsApart.{Apart, RisesFrom, holding_stands, stands_held}

-- What is the same at each number of a range is the same over it.
map_range : {X : Type 0} (g h : ℕ → X) (a n : ℕ) → ((i : ℕ) → a ≤ i → i < a + n → g i ≡ h i) → map g (range_with_len a n) ≡ map h (range_with_len a n)
map_range g h a zero same = refl
map_range g h a (suc n) same =
    ap (λ x. x ∷ map g (range_with_len (a + 1) n)) (same a (omega arith) (omega arith))
    ∙ ap (λ xs. h a ∷ xs) (map_range g h (a + 1) n (λ i from to. same i (omega (arith, from)) (omega (arith, to))))

flat_range : {X : Type 0} (g h : ℕ → List X) (a n : ℕ) → ((i : ℕ) → a ≤ i → i < a + n → g i ≡ h i)
    → flat_map g (range_with_len a n) ≡ flat_map h (range_with_len a n)
flat_range g h a zero same = refl
flat_range g h a (suc n) same =
    ap (λ xs. xs ++ flat_map g (range_with_len (a + 1) n)) (same a (omega arith) (omega arith))
    ∙ ap (λ xs. h a ++ xs) (flat_range g h (a + 1) n (λ i from to. same i (omega (arith, from)) (omega (arith, to))))

-- Two memories agree in each word of the slot's pages.
abbrev Agree : ℕ → Memory → Memory → Slot → Type 0
Agree words a b slot = (page word : ℕ) → page < slot.pages → word < words → a (slot.host + page) word ≡ b (slot.host + page) word

same_words : (words : ℕ) (a b : Memory) (id : ℕ) (slot : Slot) → Agree words a b slot → slot_words words a id slot ≡ slot_words words b id slot
same_words words a b id slot agree =
    flat_range (λ page. page_words words id page (a (slot.host + page))) (λ page. page_words words id page (b (slot.host + page))) 0 slot.pages
    (λ page from to. map_range (λ word. record { id = id; page = page; word = word; value = a (slot.host + page) word })
    (λ word. record { id = id; page = page; word = word; value = b (slot.host + page) word }) 0 words
    (λ word first last. ap (λ (x : ℕ). record { id = id; page = page; word = word; value = x })
    (agree page word (omega (arith, to)) (omega (arith, last)))))

-- Each of these slots stands at its ID.
pub at_from : (k i : ℕ) (m : MemorySlot) (es : MemorySlots) → RisesFrom k es → slot_of_id i es ≡ Some m → k ≤ i
at_from k i m [] rises at = absurd (cc at)
at_from k i m ((j, n) ∷ es) rises at = by (j == i) refl at (λ e. at_from (suc j) i m es rises.1 e)
  where
    by : (b : Bool) → (j == i) ≡ b → cond b (Some n) (slot_of_id i es) ≡ Some m → (slot_of_id i es ≡ Some m → suc j ≤ i) → k ≤ i
    by true same e rest = let is : j ≡ i = eqb-true j i same in omega (arith, is, rises.0)
    by false same e rest = let above = rest e in omega (arith, above, rises.0)

all_same : (words : ℕ) (a b : Memory) (k : ℕ) (es : MemorySlots) → RisesFrom k es
    → ((i : ℕ) (m : MemorySlot) → slot_of_id i es ≡ Some m → Agree words a b m.slot)
    → flat_map (λ entry. slot_words words a entry.0 entry.1.slot) es ≡ flat_map (λ entry. slot_words words b entry.0 entry.1.slot) es
all_same words a b k [] rises agree = refl
all_same words a b k ((j, m) ∷ es) rises agree =
    ap (λ xs. xs ++ flat_map (λ entry. slot_words words a entry.0 entry.1.slot) es)
    (same_words words a b j m.slot (agree j m (cond-true (j == j) (Some m) (slot_of_id j es) (eq-eqb j j refl))))
    ∙ ap (λ xs. slot_words words b j m.slot ++ xs) (all_same words a b (suc j) es rises.1 later)
  where
    later : (i : ℕ) (n : MemorySlot) → slot_of_id i es ≡ Some n → Agree words a b n.slot
    later i n at =
        let above = at_from (suc j) i n es rises.1 at in
        agree i n (cond-false (j == i) (Some m) (slot_of_id i es) (ne_eqb j i (λ same. omega (arith, same, above))) ∙ at)

-- Behind the guest frame of a slot's page is its host page.
page_is : (slots : MemorySlots) → RisesFrom 0 slots → Apart slots → (i : ℕ) (m : MemorySlot) → slot_of_id i slots ≡ Some m → (page : ℕ) → page < m.slot.pages
    → page_behind (flat_slots slots) (m.slot.base + page) Read ≡ Some (m.slot.host + page)
page_is slots rises apart i m at page below = by (stands_held (m.slot.base + page) i m slots at has)
  where
    has : contains (m.slot.base + page) m.slot ≡ true
    has = and_from (nat_le m.slot.base (m.slot.base + page)) (nat_lt (m.slot.base + page) (m.slot.base + m.slot.pages))
        (le-leb m.slot.base (m.slot.base + page) (omega arith)) (lt-ltb (m.slot.base + page) (m.slot.base + m.slot.pages) (omega (arith, below)))

    by : (e : ℕ × MemorySlot) × (slot_holding (m.slot.base + page) slots ≡ Some e)
        → page_behind (flat_slots slots) (m.slot.base + page) Read ≡ Some (m.slot.host + page)
    by ((j, n), holds) =
        let S = holding_stands 0 (m.slot.base + page) j n slots rises holds in
        let same : j ≡ i = apart (m.slot.base + page) j i n m S.there at S.has has in
        let slot_is : n ≡ m = same_Some n m (sym S.there ∙ ap (λ (x : ℕ). slot_of_id x slots) same ∙ at) in
        let found : slot_of (flat_slots slots) (m.slot.base + page) ≡ Some m.slot =
        sym (flat_holding (m.slot.base + page) slots)
        ∙ ap (λ (x : Option (ℕ × MemorySlot)). option_map (λ (y : ℕ × MemorySlot). y.1.slot) x) holds ∙ ap (λ (x : MemorySlot). Some x.slot) slot_is in
        let back : m.slot.base + page - m.slot.base ≡ page = omega arith in
        ap (page_in (m.slot.base + page) Read) found ∙ ap (λ (x : ℕ). Some (m.slot.host + x)) back

pub same_image : (words : ℕ) (a b : Memory) (slots : MemorySlots) → RisesFrom 0 slots → Apart slots
    → ((page gfn word : ℕ) → page_behind (flat_slots slots) gfn Read ≡ Some page → word < words → a page word ≡ b page word)
    → image_words words a slots ≡ image_words words b slots
unfolding image_words
same_image words a b slots rises apart agree =
    ap (filter (λ (at : ImageWord). not (at.value == 0)))
    (all_same words a b 0 slots rises
    (λ i m at page word below lt. agree (m.slot.host + page) (m.slot.base + page) word (page_is slots rises apart i m at page below) lt))
