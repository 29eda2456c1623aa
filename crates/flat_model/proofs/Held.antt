-- The guest frames of slots, and how a loop finds them.
use Rattle.std.proofs.Common.{◌≡◌, ◌<◌, ◌+◌, ◌-◌, ◌&&◌, ◌||◌, nat_le, nat_lt, ℕ, suc, List, [], ◌∷◌, ◌++◌, Bool, true, false, cond, refl, sym, ap, arith, ◌∙◌}
use Rattle.std.proofs.Common.{append-nil, append_assoc}
use Rattle.std.proofs.lemmas.List.FromFn.{filter_of_map_range_with_len_more}
use Rattle.std.proofs.lemmas.List.Concat.{flat_map-cons}
use Rattle.std.proofs.lemmas.List.Elements.{filter-append}
use Rattle.std.specs.List.{flat_map, range_with_len}
use Rattle.std.specs.Prelude.{filter, is_some, map, Option, Some}
use Rattle.core_views.specs.declared.memory_slot.MemorySlot.{MemorySlot}
use Rattle.core_views.specs.declared.migration.ImageWord.{ImageWord}
use Rattle.core_views.specs.Memory.{Memory}
use Rattle.core_views.specs.Migrations.{image_words, slot_words}
use Rattle.core_views.specs.Slots.{contains}
use Rattle.core_views.specs.SlotSets.{MemorySlots, slot_holding}
use Rattle.flat_model.specs.Copying.{is_held, is_printed}

some_of : (b : Bool) (e : ℕ × MemorySlot) (rest : Option (ℕ × MemorySlot)) → is_some (cond b (Some e) rest) ≡ (b || is_some rest)
some_of true e rest = refl
some_of false e rest = refl

pub held_more : (gfn : ℕ) (e : ℕ × MemorySlot) (es : MemorySlots) → is_held (e ∷ es) gfn ≡ (contains gfn e.1.slot || is_held es gfn)
held_more gfn e es = some_of (contains gfn e.1.slot) e (slot_holding gfn es)

swapped : (has held before : Bool) → (held || (has || before)) ≡ ((has || held) || before)
swapped true true before = refl
swapped true false before = refl
swapped false true before = refl
swapped false false before = refl

-- The frames of one more slot are put into a set.
pub held_next : (gfn : ℕ) (e : ℕ × MemorySlot) (more rest : MemorySlots) (before after total : Bool) → rest ≡ e ∷ more
    → after ≡ ((nat_le e.1.slot.base gfn && nat_lt gfn (e.1.slot.base + e.1.slot.pages)) || before)
    → (is_held rest gfn || before) ≡ total → (is_held more gfn || after) ≡ total
held_next gfn e more rest before after total rest_is put whole =
    ap (λ (b : Bool). is_held more gfn || b) put ∙ swapped (contains gfn e.1.slot) (is_held more gfn) before
    ∙ sym (ap (λ (b : Bool). b || before) (held_more gfn e more)) ∙ sym (ap (λ (es : MemorySlots). is_held es gfn || before) rest_is) ∙ whole

-- ---- loops over a range

counted : (at end : ℕ) → at < end → end - at ≡ suc (end - (at + 1))
counted at end lt = omega (arith, lt)

-- A number that passes is put behind those that are there.
pub passes_next : (test : ℕ → Bool) (at end : ℕ) (items whole : List ℕ) → at < end → test at ≡ true
    → items ++ filter test (range_with_len at (end - at)) ≡ whole
    → (items ++ at ∷ []) ++ filter test (range_with_len (at + 1) (end - (at + 1))) ≡ whole
passes_next test at end items whole lt is before =
    let later = filter test (range_with_len (at + 1) (end - (at + 1))) in
    append_assoc items (at ∷ []) later ∙ sym (ap (λ (b : Bool). items ++ cond b (at ∷ later) later) is)
    ∙ sym (ap (λ (n : ℕ). items ++ filter test (range_with_len at n)) (counted at end lt)) ∙ before

pub fails_next : (test : ℕ → Bool) (at end : ℕ) (items whole : List ℕ) → at < end → test at ≡ false
    → items ++ filter test (range_with_len at (end - at)) ≡ whole
    → items ++ filter test (range_with_len (at + 1) (end - (at + 1))) ≡ whole
fails_next test at end items whole lt is before =
    let later = filter test (range_with_len (at + 1) (end - (at + 1))) in
    sym (ap (λ (b : Bool). items ++ cond b (at ∷ later) later) is)
    ∙ sym (ap (λ (n : ℕ). items ++ filter test (range_with_len at n)) (counted at end lt)) ∙ before

-- What comes of one more is put behind what is there.
pub made_next : {X A : Type 0} (f : X → List A) (x : X) (more rest : List X) (items whole after : List A) → rest ≡ x ∷ more
    → after ≡ items ++ f x → items ++ flat_map f rest ≡ whole → after ++ flat_map f more ≡ whole
made_next f x more rest items whole after rest_is put before =
    ap (λ xs. xs ++ flat_map f more) put ∙ append_assoc items (f x) (flat_map f more)
    ∙ sym (ap (λ xs. items ++ xs) (flat_map-cons f x more)) ∙ sym (ap (λ xs. items ++ flat_map f xs) rest_is) ∙ before

-- The same of those that pass a test.
pub tested_next : {X A : Type 0} (test : A → Bool) (f : X → List A) (x : X) (more rest : List X) (items whole after : List A) → rest ≡ x ∷ more
    → after ≡ items ++ filter test (f x) → items ++ filter test (flat_map f rest) ≡ whole → after ++ filter test (flat_map f more) ≡ whole
tested_next test f x more rest items whole after rest_is put before =
    ap (λ xs. xs ++ filter test (flat_map f more)) put ∙ append_assoc items (filter test (f x)) (filter test (flat_map f more))
    ∙ sym (ap (λ xs. items ++ xs) (filter-append test (f x) (flat_map f more)))
    ∙ sym (ap (λ xs. items ++ filter test xs) (flat_map-cons f x more)) ∙ sym (ap (λ xs. items ++ filter test (flat_map f xs)) rest_is) ∙ before

pub range_next : (at end : ℕ) → at < end → range_with_len at (end - at) ≡ at ∷ range_with_len (at + 1) (end - (at + 1))
range_next at end lt = ap (range_with_len at) (counted at end lt)

-- ---- the words of a page

module _ (f : ℕ → ImageWord) (n : ℕ) (start before after : List ImageWord) (so_far : before ≡ start ++ filter is_printed (map f (range_with_len 0 n))) where
  more : (b : Bool) → is_printed (f n) ≡ b
      → filter is_printed (map f (range_with_len 0 (n + 1))) ≡ filter is_printed (map f (range_with_len 0 n)) ++ cond b (f n ∷ []) []
  more b is =
      filter_of_map_range_with_len_more is_printed f 0 n n (omega arith)
      ∙ ap (λ (x : Bool). filter is_printed (map f (range_with_len 0 n)) ++ cond x (f n ∷ []) []) is

  -- One more word is printed, or isn't.
  pub printed_next : is_printed (f n) ≡ true → after ≡ before ++ f n ∷ [] → after ≡ start ++ filter is_printed (map f (range_with_len 0 (n + 1)))
  printed_next is put =
      put ∙ ap (λ (xs : List ImageWord). xs ++ f n ∷ []) so_far ∙ append_assoc start (filter is_printed (map f (range_with_len 0 n))) (f n ∷ [])
      ∙ sym (ap (λ (xs : List ImageWord). start ++ xs) (more true is))

  pub skipped_next : is_printed (f n) ≡ false → after ≡ before → after ≡ start ++ filter is_printed (map f (range_with_len 0 (n + 1)))
  skipped_next is same =
      same ∙ so_far
      ∙ sym (ap (λ (xs : List ImageWord). start ++ xs) (more false is ∙ append-nil (filter is_printed (map f (range_with_len 0 n)))))

-- All slots are gone through.
pub image_is : (words : ℕ) (memory : Memory) (slots rest : MemorySlots) (items : List ImageWord) → rest ≡ []
    → items ++ filter is_printed (flat_map (λ entry. slot_words words memory entry.0 entry.1.slot) rest)
    ≡ filter is_printed (flat_map (λ entry. slot_words words memory entry.0 entry.1.slot) slots)
    → items ≡ image_words words memory slots
unfolding image_words
image_is words memory slots rest items none whole =
    sym (append-nil items)
    ∙ sym (ap (λ (es : MemorySlots). items ++ filter is_printed (flat_map (λ entry. slot_words words memory entry.0 entry.1.slot) es)) none) ∙ whole
