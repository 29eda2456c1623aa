-- The words of an image as text: a page, a slot and a set of slots, as far as they are put.
use Rattle.std.proofs.Common.{◌≡◌, ◌<◌, ◌≤◌, ◌+◌, ◌==◌, ℕ, zero, suc, List, [], ◌∷◌, ◌++◌, Bool, true, false, cond, length, codes, refl, sym, ap, subst}
use Rattle.std.proofs.Common.{◌∙◌, append_assoc, append-nil, arith}
use Rattle.std.proofs.lemmas.List.{flat_map_more}
use Rattle.std.proofs.lemmas.List.Concat.{flat_map-cons}
use Rattle.std.proofs.lemmas.List.Elements.{All-head, All-tail, filter-append}
use Rattle.std.proofs.lemmas.List.FromFn.{filter_of_map_range_with_len_more}
use Rattle.std.proofs.lemmas.Option.{same_Some}
use Rattle.std.specs.List.{flat_map, range_with_len}
use Rattle.std.specs.Prelude.{None, Some, filter, map}
use Rattle.core_views.specs.declared.memory_slot.MemorySlot.{MemorySlot}
use Rattle.core_views.specs.declared.migration.ImageWord.{ImageWord}
use Rattle.core_views.specs.declared.sizes.Sizes.{Sizes}
use Rattle.core_views.specs.Memory.{Memory}
use Rattle.core_views.specs.Migrations.{image_words, slot_words}
use Rattle.core_views.specs.SlotSets.{IsSlotSet, MemorySlots, slot_of_id}
use Rattle.core_views.specs.Text.{image_text, image_word_text}
use Rattle.flat_model.specs.Copying.{is_printed}
use Rattle.flat_model.proofs.SlotsById.{AreRising, from_id, none_at, none_from, some_at}
use Rattle.part_steps.specs.Tasks.{map_of}
use Rattle.spte_words.specs.declared.area.Area.{Area}
use Rattle.spte_words.specs.declared.word_map.WordMap.{WordMap}
use Rattle.spte_words.specs.Areas.{place, size_of, total}
use Rattle.spte_words.proofs.Places.{place_below}
use Rattle.closing_text.specs.MemoryText.{HaveHostPages}

-- A word of an area is one of all words.
pub word_there : (z : Sizes) (words : List ℕ) (m : WordMap) (area : Area) (i at : ℕ) → length words ≡ total (map_of z) → m ≡ map_of z
    → at ≡ place m area i → i < size_of m area → at < length words
word_there z words m area i at count same is within =
    let low = place_below m area i within in
    let all : total m ≡ total (map_of z) = ap total same in
    omega (arith, low, all, count, is)

image_text_append : (xs ys : List ImageWord) → image_text (xs ++ ys) ≡ image_text xs ++ image_text ys
image_text_append [] ys = refl
image_text_append (x ∷ xs) ys =
    ap (λ (t : List ℕ). codes " " ++ (image_word_text x ++ t)) (image_text_append xs ys)
    ∙ ap (λ (t : List ℕ). codes " " ++ t) (sym (append_assoc (image_word_text x) (image_text xs) (image_text ys)))

-- Some more words are put.
pub text_next : (start before after : List ℕ) (xs ys zs : List ImageWord) → before ≡ start ++ image_text xs → after ≡ before ++ image_text ys
    → zs ≡ xs ++ ys → after ≡ start ++ image_text zs
text_next start before after xs ys zs so_far put whole =
    put ∙ ap (λ (t : List ℕ). t ++ image_text ys) so_far ∙ append_assoc start (image_text xs) (image_text ys)
    ∙ ap (λ (t : List ℕ). start ++ t) (sym (image_text_append xs ys) ∙ ap image_text (sym whole))

-- ---- the words of a page

words_more : (f : ℕ → ImageWord) (n : ℕ) (b : Bool) → is_printed (f n) ≡ b
    → filter is_printed (map f (range_with_len 0 (n + 1))) ≡ filter is_printed (map f (range_with_len 0 n)) ++ cond b (f n ∷ []) []
words_more f n b is =
    filter_of_map_range_with_len_more is_printed f 0 n n (omega arith)
    ∙ ap (λ (x : Bool). filter is_printed (map f (range_with_len 0 n)) ++ cond x (f n ∷ []) []) is

-- One more word is put, or is 0.
pub word_put : (f : ℕ → ImageWord) (n : ℕ) (start before after : List ℕ) → before ≡ start ++ image_text (filter is_printed (map f (range_with_len 0 n)))
    → is_printed (f n) ≡ true → after ≡ before ++ (codes " " ++ image_word_text (f n))
    → after ≡ start ++ image_text (filter is_printed (map f (range_with_len 0 (n + 1))))
word_put f n start before after so_far is put =
    text_next start before after (filter is_printed (map f (range_with_len 0 n))) (f n ∷ []) (filter is_printed (map f (range_with_len 0 (n + 1)))) so_far
    (put ∙ ap (λ (t : List ℕ). before ++ (codes " " ++ t)) (sym (append-nil (image_word_text (f n))))) (words_more f n true is)

pub word_left : (f : ℕ → ImageWord) (n : ℕ) (start before after : List ℕ) → before ≡ start ++ image_text (filter is_printed (map f (range_with_len 0 n)))
    → is_printed (f n) ≡ false → after ≡ before → after ≡ start ++ image_text (filter is_printed (map f (range_with_len 0 (n + 1))))
word_left f n start before after so_far is same =
    text_next start before after (filter is_printed (map f (range_with_len 0 n))) [] (filter is_printed (map f (range_with_len 0 (n + 1)))) so_far
    (same ∙ sym (append-nil before)) (words_more f n false is)

-- ---- the pages of a slot

range_more : (a n j : ℕ) → a + n ≡ j → range_with_len a (suc n) ≡ range_with_len a n ++ j ∷ []
range_more a zero j e = let same : a ≡ j = omega (arith, e) in ap (λ (k : ℕ). k ∷ []) same
range_more a (suc n) j e = ap (λ (xs : List ℕ). a ∷ xs) (range_more (a + 1) n j (omega (arith, e)))

-- One more page is put.
pub page_put : (f : ℕ → List ImageWord) (n : ℕ) (start before after : List ℕ)
    → before ≡ start ++ image_text (filter is_printed (flat_map f (range_with_len 0 n))) → after ≡ before ++ image_text (filter is_printed (f n))
    → after ≡ start ++ image_text (filter is_printed (flat_map f (range_with_len 0 (n + 1))))
page_put f n start before after so_far put =
    let pages = range_with_len 0 n in
    let next : n + 1 ≡ suc n = omega arith in
    let whole : flat_map f (range_with_len 0 (n + 1)) ≡ flat_map f pages ++ f n =
    ap (λ (k : ℕ). flat_map f (range_with_len 0 k)) next ∙ ap (flat_map f) (range_more 0 n n (omega arith)) ∙ sym (flat_map_more f [] pages n) in
    text_next start before after (filter is_printed (flat_map f pages)) (filter is_printed (f n)) (filter is_printed (flat_map f (range_with_len 0 (n + 1))))
    so_far put (ap (filter is_printed) whole ∙ filter-append is_printed (flat_map f pages) (f n))

-- ---- the slots, by rising ID

image_words_cons : (words : ℕ) (memory : Memory) (e : ℕ × MemorySlot) (es : MemorySlots)
    → image_words words memory (e ∷ es) ≡ filter is_printed (slot_words words memory e.0 e.1.slot) ++ image_words words memory es
unfolding image_words
image_words_cons words memory e es =
    let f : ℕ × MemorySlot → List ImageWord = λ entry. slot_words words memory entry.0 entry.1.slot in
    ap (filter is_printed) (flat_map-cons f e es) ∙ filter-append is_printed (f e) (flat_map f es)

image_words_none : (words : ℕ) (memory : Memory) → image_words words memory [] ≡ []
unfolding image_words
image_words_none words memory = refl

-- The slot with an ID is put, or there is none.
pub slot_put : (words : ℕ) (memory : Memory) (n : ℕ) (m : MemorySlot) (es : MemorySlots) (before after whole : List ℕ) → AreRising es
    → slot_of_id n es ≡ Some m → after ≡ before ++ image_text (filter is_printed (slot_words words memory n m.slot))
    → before ++ image_text (image_words words memory (from_id n es)) ≡ whole → after ++ image_text (image_words words memory (from_id (n + 1) es)) ≡ whole
slot_put words memory n m es before after whole rising is put so_far =
    let xs : List ImageWord = filter is_printed (slot_words words memory n m.slot) in
    let ys : List ImageWord = image_words words memory (from_id (n + 1) es) in
    ap (λ (t : List ℕ). t ++ image_text ys) put ∙ append_assoc before (image_text xs) (image_text ys)
    ∙ ap (λ (t : List ℕ). before ++ t) (sym (image_text_append xs ys)
    ∙ ap image_text (sym (image_words_cons words memory (n, m) (from_id (n + 1) es)) ∙ ap (image_words words memory) (sym (some_at n m es rising is))))
    ∙ so_far

pub slot_missing : (words : ℕ) (memory : Memory) (n : ℕ) (es : MemorySlots) (before after whole : List ℕ) → slot_of_id n es ≡ None → after ≡ before
    → before ++ image_text (image_words words memory (from_id n es)) ≡ whole → after ++ image_text (image_words words memory (from_id (n + 1) es)) ≡ whole
slot_missing words memory n es before after whole is same so_far =
    ap (λ (t : List ℕ). t ++ image_text (image_words words memory (from_id (n + 1) es))) same
    ∙ ap (λ (xs : MemorySlots). before ++ image_text (image_words words memory xs)) (sym (none_at n es is)) ∙ so_far

-- All slots are put.
pub slots_put : (words : ℕ) (memory : Memory) (n : ℕ) (es : MemorySlots) (before whole : List ℕ) → IsSlotSet es → n ≡ 32
    → before ++ image_text (image_words words memory (from_id n es)) ≡ whole → before ≡ whole
slots_put words memory n es before whole S end so_far =
    let none : from_id n es ≡ [] = ap (λ (k : ℕ). from_id k es) end ∙ none_from es S.ids in
    sym (append-nil before) ∙ ap (λ (xs : List ImageWord). before ++ image_text xs) (sym (ap (image_words words memory) none ∙ image_words_none words memory))
    ∙ so_far

-- The pages of the slot with an ID are the host's.
pub pages_at : (z : Sizes) (es : MemorySlots) (id : ℕ) (m : MemorySlot) → HaveHostPages z es → slot_of_id id es ≡ Some m
    → m.slot.host + m.slot.pages ≤ z.pages
pages_at z [] id m all is = absurd (cc is)
pages_at z (e ∷ es) id m all is =
    by (e.0 == id) is (λ found. pages_at z es id m (All-tail (λ (entry : ℕ × MemorySlot). entry.1.slot.host + entry.1.slot.pages ≤ z.pages) e es all) found)
  where
    by : (b : Bool) → cond b (Some e.1) (slot_of_id id es) ≡ Some m → (slot_of_id id es ≡ Some m → m.slot.host + m.slot.pages ≤ z.pages)
        → m.slot.host + m.slot.pages ≤ z.pages
    by true found rest =
        let here = All-head (λ (entry : ℕ × MemorySlot). entry.1.slot.host + entry.1.slot.pages ≤ z.pages) e es all in
        subst (λ (x : MemorySlot). x.slot.host + x.slot.pages ≤ z.pages) (same_Some e.1 m found) here
    by false found rest = rest found
