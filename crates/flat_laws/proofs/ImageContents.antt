-- Which words an image holds: those of slots' pages that aren't 0.
use Rattle.std.proofs.Common.{◌≡◌, ◌≢◌, ◌⊎◌, inl, inr, ◌<◌, ◌≤◌, ◌+◌, ◌==◌, ◌++◌, ℕ, zero, suc, Bool, true, false}
use Rattle.std.proofs.Common.{not, List, [], ◌∷◌, refl, sym, ap, ◌∙◌, subst, arith, cond}
use Rattle.std.specs.Prelude.{◌↔◌, Contains, Some, filter, flat_map, map}
use Rattle.std.specs.List.{range_with_len}
use Rattle.std.proofs.lemmas.Bool.{cases_eq, cond-false, cond-true, eq-eqb, eqb-true, ne_eqb}
use Rattle.std.proofs.lemmas.Option.{same_Some}
use Rattle.core_views.specs.declared.migration.ImageWord.{ImageWord}
use Rattle.core_views.specs.declared.memory_slot.MemorySlot.{MemorySlot}
use Rattle.core_views.specs.declared.trace.Slot.{Slot}
use Rattle.core_views.specs.Memory.{Memory}
use Rattle.core_views.specs.Migrations.{image_words, page_words, slot_words}
use Rattle.core_views.specs.SlotSets.{MemorySlots, slot_of_id}
use Rattle.flat_laws.specs.Images.{IsOfMemory}
use Rattle.flat_laws.proofs.ImageWords.{at_from}
use Rattle.flat_laws.proofs.SlotsApart.{RisesFrom}
use Rattle.flat_laws.proofs.Writes.{cons_cases, filter_in, filtered, first_in, later_in}

-- ---- lists

none_in : {X Y : Type 0} (x : X) → Contains {X = X} [] x → Y
none_in x has = absurd (omega (arith, has.1))

front_in : {X : Type 0} (xs ys : List X) (x : X) → Contains xs x → Contains (xs ++ ys) x
front_in [] ys x has = none_in x has
front_in (y ∷ xs) ys x has = by (cons_cases y xs x has) (λ later. front_in xs ys x later)
  where
    by : (y ≡ x) ⊎ Contains xs x → (Contains xs x → Contains (xs ++ ys) x) → Contains (y ∷ (xs ++ ys)) x
    by (inl is) rest = subst (λ first. Contains (first ∷ (xs ++ ys)) x) (sym is) (first_in x (xs ++ ys))
    by (inr later) rest = later_in y (xs ++ ys) x (rest later)

back_in : {X : Type 0} (xs ys : List X) (x : X) → Contains ys x → Contains (xs ++ ys) x
back_in [] ys x has = has
back_in (y ∷ xs) ys x has = later_in y (xs ++ ys) x (back_in xs ys x has)

pub either_in : {X : Type 0} (xs ys : List X) (x : X) → Contains (xs ++ ys) x → Contains xs x ⊎ Contains ys x
either_in [] ys x has = inr has
either_in (y ∷ xs) ys x has = by (cons_cases y (xs ++ ys) x has) (λ later. either_in xs ys x later)
  where
    further : Contains xs x ⊎ Contains ys x → Contains (y ∷ xs) x ⊎ Contains ys x
    further (inl here) = inl (later_in y xs x here)
    further (inr there) = inr there

    by : (y ≡ x) ⊎ Contains (xs ++ ys) x → (Contains (xs ++ ys) x → Contains xs x ⊎ Contains ys x) → Contains (y ∷ xs) x ⊎ Contains ys x
    by (inl is) rest = inl (subst (λ first. Contains (first ∷ xs) x) (sym is) (first_in x xs))
    by (inr later) rest = further (rest later)

-- It is so of a number of the range.
pub record Within (Is : ℕ → Type 0) (a n : ℕ) : Type 0 where
  pub at : ℕ
  pub from : a ≤ at
  pub to : at < a + n
  pub is : Is at

next_within : (Is : ℕ → Type 0) (a n : ℕ) → Within Is (a + 1) n → Within Is a (suc n)
next_within Is a n W = let from = W.from in let to = W.to in record { at = W.at; from = omega (arith, from); to = omega (arith, to); is = W.is }

flat_in : {X : Type 0} (g : ℕ → List X) (a n : ℕ) (x : X) → Within (λ i. Contains (g i) x) a n → Contains (flat_map g (range_with_len a n)) x
flat_in g a zero x W = let from = W.from in let to = W.to in absurd (omega (arith, from, to))
flat_in g a (suc n) x W = by (cases_eq a W.at) (λ V. flat_in g (a + 1) n x V)
  where
    by : (a ≡ W.at) ⊎ (a ≢ W.at) → (Within (λ i. Contains (g i) x) (a + 1) n → Contains (flat_map g (range_with_len (a + 1) n)) x)
        → Contains (g a ++ flat_map g (range_with_len (a + 1) n)) x
    by (inl here) rest = front_in (g a) (flat_map g (range_with_len (a + 1) n)) x (subst (λ i. Contains (g i) x) (sym here) W.is)
    by (inr apart) rest =
        let from = W.from in let to = W.to in
        back_in (g a) (flat_map g (range_with_len (a + 1) n)) x
        (rest (record { at = W.at; from = omega (arith, from, apart); to = omega (arith, to); is = W.is }))

pub flat_of : {X : Type 0} (g : ℕ → List X) (a n : ℕ) (x : X) → Contains (flat_map g (range_with_len a n)) x → Within (λ i. Contains (g i) x) a n
flat_of g a zero x has = none_in x has
flat_of g a (suc n) x has = by (either_in (g a) (flat_map g (range_with_len (a + 1) n)) x has) (λ later. flat_of g (a + 1) n x later)
  where
    by : Contains (g a) x ⊎ Contains (flat_map g (range_with_len (a + 1) n)) x
        → (Contains (flat_map g (range_with_len (a + 1) n)) x → Within (λ i. Contains (g i) x) (a + 1) n) → Within (λ i. Contains (g i) x) a (suc n)
    by (inl here) rest = record { at = a; from = omega arith; to = omega arith; is = here }
    by (inr later) rest = next_within (λ i. Contains (g i) x) a n (rest later)

map_in : {X : Type 0} (h : ℕ → X) (a n : ℕ) (x : X) → Within (λ i. h i ≡ x) a n → Contains (map h (range_with_len a n)) x
map_in h a zero x W = let from = W.from in let to = W.to in absurd (omega (arith, from, to))
map_in h a (suc n) x W = by (cases_eq a W.at) (λ V. map_in h (a + 1) n x V)
  where
    by : (a ≡ W.at) ⊎ (a ≢ W.at) → (Within (λ i. h i ≡ x) (a + 1) n → Contains (map h (range_with_len (a + 1) n)) x)
        → Contains (h a ∷ map h (range_with_len (a + 1) n)) x
    by (inl here) rest =
        subst (λ first. Contains (first ∷ map h (range_with_len (a + 1) n)) x) (sym (ap h here ∙ W.is)) (first_in x (map h (range_with_len (a + 1) n)))
    by (inr apart) rest =
        let from = W.from in let to = W.to in
        later_in (h a) (map h (range_with_len (a + 1) n)) x
        (rest (record { at = W.at; from = omega (arith, from, apart); to = omega (arith, to); is = W.is }))

pub map_of : {X : Type 0} (h : ℕ → X) (a n : ℕ) (x : X) → Contains (map h (range_with_len a n)) x → Within (λ i. h i ≡ x) a n
map_of h a zero x has = none_in x has
map_of h a (suc n) x has = by (cons_cases (h a) (map h (range_with_len (a + 1) n)) x has) (λ later. map_of h (a + 1) n x later)
  where
    by : (h a ≡ x) ⊎ Contains (map h (range_with_len (a + 1) n)) x
        → (Contains (map h (range_with_len (a + 1) n)) x → Within (λ i. h i ≡ x) (a + 1) n) → Within (λ i. h i ≡ x) a (suc n)
    by (inl here) rest = record { at = a; from = omega arith; to = omega arith; is = here }
    by (inr later) rest = next_within (λ i. h i ≡ x) a n (rest later)

-- ---- a slot's words

pub record IsOfSlot (words : ℕ) (memory : Memory) (id : ℕ) (slot : Slot) (at : ImageWord) : Type 0 where
  pub id_is : at.id ≡ id
  pub page : at.page < slot.pages
  pub word : at.word < words
  pub value : at.value ≡ memory (slot.host + at.page) at.word

abbrev pub word_at : Memory → ℕ → Slot → ℕ → ℕ → ImageWord
word_at memory id slot page word = record { id = id; page = page; word = word; value = memory (slot.host + page) word }

slot_in : (words : ℕ) (memory : Memory) (id : ℕ) (slot : Slot) (at : ImageWord) → IsOfSlot words memory id slot at
    → Contains (slot_words words memory id slot) at
slot_in words memory id slot at S =
    let below = S.page in
    let low = S.word in
    flat_in (λ page. page_words words id page (memory (slot.host + page))) 0 slot.pages at
    (record {
      at = at.page;
      from = omega arith;
      to = omega (arith, below);
      is = map_in (λ word. word_at memory id slot at.page word) 0 words at
          (record {
            at = at.word;
            from = omega arith;
            to = omega (arith, low);
            is = ap (λ (i : ℕ). word_at memory i slot at.page at.word) (sym S.id_is)
                ∙ ap (λ (x : ℕ). record { id = at.id; page = at.page; word = at.word; value = x }) (sym S.value);
          });
    })

pub slot_of : (words : ℕ) (memory : Memory) (id : ℕ) (slot : Slot) (at : ImageWord) → Contains (slot_words words memory id slot) at
    → IsOfSlot words memory id slot at
slot_of words memory id slot at has =
    let P = flat_of (λ page. page_words words id page (memory (slot.host + page))) 0 slot.pages at has in
    let W = map_of (λ word. word_at memory id slot P.at word) 0 words at P.is in
    let page_to = P.to in
    let word_to = W.to in
    let page_is : P.at ≡ at.page = ap (λ (x : ImageWord). x.page) W.is in
    let word_is : W.at ≡ at.word = ap (λ (x : ImageWord). x.word) W.is in
    record {
      id_is = sym (ap (λ (x : ImageWord). x.id) W.is);
      page = omega (arith, page_is, page_to);
      word = omega (arith, word_is, word_to);
      value = sym (ap (λ (x : ImageWord). x.value) W.is) ∙ ap (λ (p : ℕ). memory (slot.host + p) W.at) page_is
          ∙ ap (λ (w : ℕ). memory (slot.host + at.page) w) word_is;
    }

-- ---- those of all slots

abbrev pub all_words : ℕ → Memory → MemorySlots → List ImageWord
all_words words memory slots = flat_map (λ entry. slot_words words memory entry.0 entry.1.slot) slots

slots_in : (words : ℕ) (memory : Memory) (slots : MemorySlots) (i : ℕ) (m : MemorySlot) (at : ImageWord) → slot_of_id i slots ≡ Some m
    → Contains (slot_words words memory i m.slot) at → Contains (all_words words memory slots) at
slots_in words memory [] i m at there has = absurd (cc there)
slots_in words memory ((j, n) ∷ slots) i m at there has =
    by (j == i) refl there (λ e. slots_in words memory slots i m at e has)
  where
    by : (b : Bool) → (j == i) ≡ b → cond b (Some n) (slot_of_id i slots) ≡ Some m
        → (slot_of_id i slots ≡ Some m → Contains (all_words words memory slots) at)
        → Contains (slot_words words memory j n.slot ++ all_words words memory slots) at
    by true same e rest =
        front_in (slot_words words memory j n.slot) (all_words words memory slots) at
        (subst (λ (x : ℕ). Contains (slot_words words memory x n.slot) at) (sym (eqb-true j i same))
        (subst (λ (x : MemorySlot). Contains (slot_words words memory i x.slot) at) (sym (same_Some n m e)) has))
    by false same e rest = back_in (slot_words words memory j n.slot) (all_words words memory slots) at (rest e)

pub record IsOfOne (words : ℕ) (memory : Memory) (slots : MemorySlots) (at : ImageWord) : Type 0 where
  pub id : ℕ
  pub slot : MemorySlot
  pub there : slot_of_id id slots ≡ Some slot
  pub is : Contains (slot_words words memory id slot.slot) at

pub slots_of : (words : ℕ) (memory : Memory) (k : ℕ) (slots : MemorySlots) (at : ImageWord) → RisesFrom k slots → Contains (all_words words memory slots) at
    → IsOfOne words memory slots at
slots_of words memory k [] at rises has = none_in at has
slots_of words memory k ((j, n) ∷ slots) at rises has =
    by (either_in (slot_words words memory j n.slot) (all_words words memory slots) at has)
    (λ there. slots_of words memory (suc j) slots at rises.1 there)
  where
    later : IsOfOne words memory slots at → IsOfOne words memory ((j, n) ∷ slots) at
    later O =
        let above = at_from (suc j) O.id O.slot slots rises.1 O.there in
        record {
          id = O.id;
          slot = O.slot;
          there = cond-false (j == O.id) (Some n) (slot_of_id O.id slots) (ne_eqb j O.id (λ same. omega (arith, same, above))) ∙ O.there;
          is = O.is;
        }

    by : Contains (slot_words words memory j n.slot) at ⊎ Contains (all_words words memory slots) at
        → (Contains (all_words words memory slots) at → IsOfOne words memory slots at) → IsOfOne words memory ((j, n) ∷ slots) at
    by (inl here) rest = record { id = j; slot = n; there = cond-true (j == j) (Some n) (slot_of_id j slots) (eq-eqb j j refl); is = here }
    by (inr there) rest = later (rest there)

-- ---- the image

not_zero : (x : ℕ) → x ≢ 0 → not (x == 0) ≡ true
not_zero x some = ap not (ne_eqb x 0 some)

some_value : (x : ℕ) → not (x == 0) ≡ true → x ≢ 0
some_value x is none = let zero_is : not (x == 0) ≡ false = ap not (eq-eqb x 0 none) in cc (zero_is, is)

pub holds_memory : (words : ℕ) (memory : Memory) (slots : MemorySlots) (at : ImageWord) → RisesFrom 0 slots
    → Contains (image_words words memory slots) at ↔ IsOfMemory words memory slots at
unfolding image_words
holds_memory words memory slots at rises = (to, from)
  where
    to : Contains (filter (λ (x : ImageWord). not (x.value == 0)) (all_words words memory slots)) at → IsOfMemory words memory slots at
    to has =
        let F = filtered (λ (x : ImageWord). not (x.value == 0)) (all_words words memory slots) at has in
        let O = slots_of words memory 0 slots at rises F.0 in
        let S = slot_of words memory O.id O.slot.slot at O.is in
        record {
          slot = O.slot;
          there = ap (λ (i : ℕ). slot_of_id i slots) S.id_is ∙ O.there;
          page = S.page;
          word = S.word;
          value = S.value;
          some = some_value at.value F.1;
        }

    from : IsOfMemory words memory slots at → Contains (filter (λ (x : ImageWord). not (x.value == 0)) (all_words words memory slots)) at
    from M =
        filter_in (λ (x : ImageWord). not (x.value == 0)) (all_words words memory slots) at
        (slots_in words memory slots at.id M.slot at M.there
        (slot_in words memory at.id M.slot.slot at (record { id_is = refl; page = M.page; word = M.word; value = M.value })))
        (not_zero at.value M.some)
