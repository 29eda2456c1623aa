-- A slot set as flat memory has it: its slots, without their dirty logs.
use Rattle.std.proofs.Common.{◌≡◌, ◌+◌, ◌==◌, ℕ, zero, suc, Bool, true, false, cond, [], ◌∷◌, get_or, set, refl, sym, ap, ◌∙◌}
use Rattle.std.specs.Prelude.{Option, Some, None}
use Rattle.std.specs.Option.{option_map}
use Rattle.std.specs.Ordering.{match_ordering, nat_cmp}
use Rattle.std.specs.declared.cmp.Ordering.{Ordering}
use Rattle.std.specs.declared.cmp.Ordering.TheVariants.{Less, Equal, Greater}
use Rattle.core_views.specs.declared.trace.Slot.{Slot}
use Rattle.core_views.specs.Slots.{Slots, contains, slot_of, slot_with_id, with_slot}
use Rattle.core_views.specs.declared.memory_slot.MemorySlot.{MemorySlot}
use Rattle.core_views.specs.SlotSets.{MemorySlots, flat_slots, slot_of_id, slot_holding, with_slot_at}
use Rattle.core_views.specs.Places.{Places, slots_from}

by_order : (o : Ordering) (a b c : MemorySlots) → flat_slots (match_ordering o a b c) ≡ match_ordering o (flat_slots a) (flat_slots b) (flat_slots c)
by_order Less a b c = refl
by_order Equal a b c = refl
by_order Greater a b c = refl

-- A slot that is set is set in flat memory.
pub flat_with : (id : ℕ) (m : MemorySlot) (es : MemorySlots) → flat_slots (with_slot_at id m es) ≡ with_slot id m.slot (flat_slots es)
flat_with id m [] = refl
flat_with id m ((k, n) ∷ es) =
    by_order (nat_cmp id k) ((id, m) ∷ (k, n) ∷ es) ((k, m) ∷ es) ((k, n) ∷ with_slot_at id m es)
    ∙ ap (λ (rest : Slots). match_ordering (nat_cmp id k) ((id, m.slot) ∷ (k, n.slot) ∷ flat_slots es) ((k, m.slot) ∷ flat_slots es)
    ((k, n.slot) ∷ rest)) (flat_with id m es)

-- A place whose slot only gets or loses its dirty log changes nothing there.
pub flat_same : (i k : ℕ) (m n : MemorySlot) (ps : Places) → get_or ps i None ≡ Some m → n.slot ≡ m.slot
    → flat_slots (slots_from k (set ps i (Some n))) ≡ flat_slots (slots_from k ps)
flat_same i k m n [] at same = refl
flat_same zero k m n (None ∷ ps) at same = cc
flat_same zero k m n (Some x ∷ ps) at same =
    let is : x ≡ m = cc in
    ap (λ (s : Slot). (k, s) ∷ flat_slots (slots_from (k + 1) ps)) (same ∙ ap (λ (y : MemorySlot). y.slot) (sym is))
flat_same (suc i) k m n (None ∷ ps) at same = flat_same i (k + 1) m n ps at same
flat_same (suc i) k m n (Some x ∷ ps) at same = ap (λ (rest : Slots). (k, x.slot) ∷ rest) (flat_same i (k + 1) m n ps at same)

by_holding : (b : Bool) (e : ℕ × MemorySlot) (rest : Option (ℕ × MemorySlot)) → option_map (λ (x : ℕ × MemorySlot). x.1.slot) (cond b (Some e) rest)
    ≡ cond b (Some e.1.slot) (option_map (λ (x : ℕ × MemorySlot). x.1.slot) rest)
by_holding true e rest = refl
by_holding false e rest = refl

-- The slot that is found is the one that flat memory has for the guest frame.
pub flat_holding : (gfn : ℕ) (es : MemorySlots) → option_map (λ (x : ℕ × MemorySlot). x.1.slot) (slot_holding gfn es) ≡ slot_of (flat_slots es) gfn
flat_holding gfn [] = refl
flat_holding gfn ((k, m) ∷ es) =
    by_holding (contains gfn m.slot) (k, m) (slot_holding gfn es)
    ∙ ap (λ (rest : Option Slot). cond (contains gfn m.slot) (Some m.slot) rest) (flat_holding gfn es)

by_id : (b : Bool) (m : MemorySlot) (rest : Option MemorySlot)
    → cond b (Some m.slot) (option_map (λ (x : MemorySlot). x.slot) rest) ≡ option_map (λ (x : MemorySlot). x.slot) (cond b (Some m) rest)
by_id true m rest = refl
by_id false m rest = refl

-- The slot with an ID, in flat memory.
pub flat_at : (id : ℕ) (es : MemorySlots) → slot_with_id id (flat_slots es) ≡ option_map (λ (x : MemorySlot). x.slot) (slot_of_id id es)
flat_at id [] = refl
flat_at id ((k, m) ∷ es) = ap (λ (rest : Option Slot). cond (k == id) (Some m.slot) rest) (flat_at id es) ∙ by_id (k == id) m (slot_of_id id es)
