-- How an array of places holds a slot set: the slot with an ID stands at the place of that ID.
use Rattle.std.specs.Prelude.{◌≡◌, ◌+◌, ◌<◌, ◌==◌, ℕ, zero, suc, List, [], ◌∷◌, length, get_or, map, Option, Some, None}
use Rattle.std.specs.List.{range_with_len}
use Rattle.std.proofs.Common.{arith, refl, sym, ◌∙◌}
use Rattle.std.proofs.lemmas.Bool.{cond-true, cond-false, eq-eqb, ne_eqb}
use Rattle.std.proofs.lemmas.List.FromFn.{fill_by_all}
use Rattle.core_views.specs.declared.memory_slot.MemorySlot.{MemorySlot}
use Rattle.core_views.specs.SlotSets.{MemorySlots, slot_of_id}

-- a place for each ID, with its slot if there is one
abbrev pub Places : Type 0
Places = List (Option MemorySlot)

-- the slots that stand in these places, of which the first is for this ID
abbrev pub slots_from : ℕ → Places → MemorySlots
slots_from id [] = []
slots_from id (None ∷ places) = slots_from (id + 1) places
slots_from id (Some slot ∷ places) = (id, slot) ∷ slots_from (id + 1) places

-- the 32 places in which these slots stand
unfoldable pub places_of : MemorySlots → Places
places_of slots = map (λ id. slot_of_id id slots) (range_with_len 0 32)

-- No ID below the first has a slot.
pub none_below : (i k : ℕ) (ps : Places) → i < k → slot_of_id i (slots_from k ps) ≡ None
none_below i k [] lt = refl
none_below i k (None ∷ ps) lt = none_below i (k + 1) ps (omega arith)
none_below i k (Some m ∷ ps) lt =
    cond-false (k == i) (Some m) (slot_of_id i (slots_from (k + 1) ps)) (ne_eqb k i (λ e. omega arith)) ∙ none_below i (k + 1) ps (omega arith)

-- The slot with an ID stands at its place.
stands : (i j k : ℕ) (ps : Places) → j ≡ k + i → slot_of_id j (slots_from k ps) ≡ get_or ps i None
stands i j k [] e = refl
stands zero j k (None ∷ ps) e = none_below j (k + 1) ps (omega arith)
stands zero j k (Some m ∷ ps) e = cond-true (k == j) (Some m) (slot_of_id j (slots_from (k + 1) ps)) (eq-eqb k j (omega arith))
stands (suc i) j k (None ∷ ps) e = stands i j (k + 1) ps (omega arith)
stands (suc i) j k (Some m ∷ ps) e =
    cond-false (k == j) (Some m) (slot_of_id j (slots_from (k + 1) ps)) (ne_eqb k j (λ d. omega arith)) ∙ stands i j (k + 1) ps (omega arith)

pub found : (id : ℕ) (ps : Places) → slot_of_id id (slots_from 0 ps) ≡ get_or ps id None
found id ps = stands id id 0 ps (omega arith)

-- The slots of an array of 32 places tell the array.
pub places_back : (ps : Places) → length ps ≡ 32 → places_of (slots_from 0 ps) ≡ ps
unfolding places_of
places_back ps e = sym (fill_by_all (λ id. slot_of_id id (slots_from 0 ps)) ps 32 None e (λ id lt. sym (found id ps)))
