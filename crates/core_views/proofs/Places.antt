-- The slots that stand in an array of places: what a write to a place does to them, and that their IDs rise.
use Rattle.std.proofs.Common.{◌≡◌, ◌+◌, ◌<◌, ◌==◌, ℕ, zero, suc, [], ◌∷◌, length, set, arith, refl, sym, ap, ◌∙◌}
use Rattle.std.proofs.lemmas.Bool.{eq-eqb, ne_eqb}
use Rattle.std.proofs.lemmas.Bool.Decides.{nat_tests}
use Rattle.std.specs.Prelude.{Bool, true, false, not, Some, None, if◌then◌else◌}
use Rattle.std.specs.List.{AllByRecursion}
use Rattle.std.specs.List.Sorted.{IsStrictlySortedBy}
use Rattle.std.specs.Map.{keys_of}
use Rattle.std.specs.Ordering.{match_ordering, nat_cmp}
use Rattle.std.specs.declared.cmp.Ordering.{Ordering}
use Rattle.std.specs.declared.cmp.Ordering.TheVariants.{Less, Equal, Greater}
use Rattle.core_views.specs.declared.memory_slot.MemorySlot.{MemorySlot}
use Rattle.core_views.specs.Places.{Places, slots_from}
use Rattle.core_views.specs.SlotSets.{MemorySlots, with_slot_at, without_slot_at}

-- How two IDs compare.
less : (j k : ℕ) → j < k → nat_cmp j k ≡ Less
less j k lt = grind (arith, nat_tests)

equal : (j k : ℕ) → j ≡ k → nat_cmp j k ≡ Equal
equal j k e = grind (arith, nat_tests)

greater : (j k : ℕ) → k < j → nat_cmp j k ≡ Greater
greater j k lt = grind (arith, nat_tests)

-- A slot with an ID below the first goes in front.
insert_front : (j k : ℕ) (m : MemorySlot) (ps : Places) → j < k → with_slot_at j m (slots_from k ps) ≡ (j, m) ∷ slots_from k ps
insert_front j k m [] lt = refl
insert_front j k m (None ∷ ps) lt = insert_front j (k + 1) m ps (omega arith)
insert_front j k m (Some n ∷ ps) lt =
    ap (λ (o : Ordering). match_ordering o ((j, m) ∷ (k, n) ∷ slots_from (k + 1) ps) ((k, m) ∷ slots_from (k + 1) ps)
    ((k, n) ∷ with_slot_at j m (slots_from (k + 1) ps))) (less j k lt)

-- A slot with an ID goes to its place, and takes that of a slot that has the ID.
inserted : (i j k : ℕ) (m : MemorySlot) (ps : Places) → j ≡ k + i → i < length ps → with_slot_at j m (slots_from k ps) ≡ slots_from k (set ps i (Some m))
inserted i j k m [] e lt = absurd (omega (arith, lt))
inserted zero j k m (None ∷ ps) e lt =
    let same : j ≡ k = omega arith in
    insert_front j (k + 1) m ps (omega arith) ∙ ap (λ (x : ℕ). (x, m) ∷ slots_from (k + 1) ps) same
inserted zero j k m (Some n ∷ ps) e lt =
    ap (λ (o : Ordering). match_ordering o ((j, m) ∷ (k, n) ∷ slots_from (k + 1) ps) ((k, m) ∷ slots_from (k + 1) ps)
    ((k, n) ∷ with_slot_at j m (slots_from (k + 1) ps))) (equal j k (omega arith))
inserted (suc i) j k m (None ∷ ps) e lt = inserted i j (k + 1) m ps (omega arith) (omega (arith, lt))
inserted (suc i) j k m (Some n ∷ ps) e lt =
    ap (λ (o : Ordering). match_ordering o ((j, m) ∷ (k, n) ∷ slots_from (k + 1) ps) ((k, m) ∷ slots_from (k + 1) ps)
    ((k, n) ∷ with_slot_at j m (slots_from (k + 1) ps))) (greater j k (omega arith))
    ∙ ap (λ (rest : MemorySlots). (k, n) ∷ rest) (inserted i j (k + 1) m ps (omega arith) (omega (arith, lt)))

-- A slot written to its place is at its ID.
pub put : (id : ℕ) (m : MemorySlot) (ps : Places) → id < length ps → slots_from 0 (set ps id (Some m)) ≡ with_slot_at id m (slots_from 0 ps)
put id m ps lt = sym (inserted id id 0 m ps (omega arith) lt)

-- A slot stays in the list that has another ID, and else leaves it.
stays_in : (b : Bool) (e : ℕ × MemorySlot) (es : MemorySlots) → b ≡ false → (if not b then e ∷ es else es) ≡ e ∷ es
stays_in true e es is = absurd (cc is)
stays_in false e es is = refl

leaves : (b : Bool) (e : ℕ × MemorySlot) (es : MemorySlots) → b ≡ true → (if not b then e ∷ es else es) ≡ es
leaves true e es is = refl
leaves false e es is = absurd (cc is)

-- No slot with an ID below the first is there to be taken away.
remove_none : (j k : ℕ) (ps : Places) → j < k → without_slot_at j (slots_from k ps) ≡ slots_from k ps
remove_none j k [] lt = refl
remove_none j k (None ∷ ps) lt = remove_none j (k + 1) ps (omega arith)
remove_none j k (Some n ∷ ps) lt =
    stays_in (k == j) (k, n) (without_slot_at j (slots_from (k + 1) ps)) (ne_eqb k j (λ e. omega arith))
    ∙ ap (λ (rest : MemorySlots). (k, n) ∷ rest) (remove_none j (k + 1) ps (omega arith))

-- The slot with an ID leaves its place.
removed : (i j k : ℕ) (ps : Places) → j ≡ k + i → without_slot_at j (slots_from k ps) ≡ slots_from k (set ps i None)
removed i j k [] e = refl
removed zero j k (None ∷ ps) e = remove_none j (k + 1) ps (omega arith)
removed zero j k (Some n ∷ ps) e =
    leaves (k == j) (k, n) (without_slot_at j (slots_from (k + 1) ps)) (eq-eqb k j (omega arith)) ∙ remove_none j (k + 1) ps (omega arith)
removed (suc i) j k (None ∷ ps) e = removed i j (k + 1) ps (omega arith)
removed (suc i) j k (Some n ∷ ps) e =
    stays_in (k == j) (k, n) (without_slot_at j (slots_from (k + 1) ps)) (ne_eqb k j (λ d. omega arith))
    ∙ ap (λ (rest : MemorySlots). (k, n) ∷ rest) (removed i j (k + 1) ps (omega arith))

-- A place that is emptied takes away the slot with its ID.
pub taken : (id : ℕ) (ps : Places) → slots_from 0 (set ps id None) ≡ without_slot_at id (slots_from 0 ps)
taken id ps = sym (removed id id 0 ps (omega arith))

-- An ID below the first is below all.
above : (c k : ℕ) (ps : Places) → c < k → AllByRecursion (λ y. nat_cmp c y ≡ Less) (keys_of (slots_from k ps))
above c k [] lt = tt
above c k (None ∷ ps) lt = above c (k + 1) ps (omega arith)
above c k (Some m ∷ ps) lt = (less c k lt, above c (k + 1) ps (omega arith))

-- IDs rise.
pub rising : (k : ℕ) (ps : Places) → IsStrictlySortedBy nat_cmp (keys_of (slots_from k ps))
unfolding IsStrictlySortedBy
rising k [] = tt
rising k (None ∷ ps) = rising (k + 1) ps
rising k (Some m ∷ ps) = (above k (k + 1) ps (omega arith), rising (k + 1) ps)
