-- What a look-up of a guest frame found is one of the slots, and contains it.
use Rattle.std.proofs.Common.{◌≡◌, ◌+◌, ◌-◌, ◌<◌, ◌≤◌, ◌&&◌, nat_le, nat_lt, ◌⊎◌, inl, inr, ℕ, suc, List, [], ◌∷◌, Bool, true, false, cond, arith, refl, subst}
use Rattle.std.proofs.lemmas.Bool.Decides.{nat_tests}
use Rattle.std.specs.Prelude.{find, All, Option, Some}
use Rattle.std.specs.Map.{values_of}
use Rattle.core_views.specs.declared.trace.Slot.{Slot}
use Rattle.core_views.specs.Slots.{Slots, contains, slot_of}
use Rattle.flat_model.specs.Steps.{AreSlotsOf, IsSlotOf}

by_test : (b : Bool) (x slot : Slot) (rest : Option Slot) → cond b (Some x) rest ≡ Some slot → ((b ≡ true) × (x ≡ slot)) ⊎ (rest ≡ Some slot)
by_test true x slot rest e = inl (refl, cc)
by_test false x slot rest e = inr e

first : (pages : ℕ) (x : Slot) (xs : List Slot) → All (IsSlotOf pages) (x ∷ xs) → IsSlotOf pages x
first pages x xs all = all 0 x (omega arith)

others : (pages : ℕ) (x : Slot) (xs : List Slot) → All (IsSlotOf pages) (x ∷ xs) → All (IsSlotOf pages) xs
others pages x xs all k d lt = all (suc k) d (omega arith)

found : (gfn pages : ℕ) (xs : List Slot) (slot : Slot) → find (contains gfn) xs ≡ Some slot → All (IsSlotOf pages) xs
    → (contains gfn slot ≡ true) × IsSlotOf pages slot
found gfn pages [] slot e all = cc
found gfn pages (x ∷ xs) slot e all = elim (by_test (contains gfn x) x slot (find (contains gfn) xs) e) [
  | inl p ↦ (subst (λ (s : Slot). contains gfn s ≡ true) p.1 p.0, subst (IsSlotOf pages) p.1 (first pages x xs all))
  | inr q ↦ found gfn pages xs slot q (others pages x xs all)
]

inside : (gfn base pages : ℕ) → (nat_le base gfn && nat_lt gfn (base + pages)) ≡ true → (base ≤ gfn) × (gfn < base + pages)
inside gfn base pages e = (grind (arith, nat_tests, e), grind (arith, nat_tests, e))

-- The frame is at or above the slot's first, and its host page is one of the machine's.
pub in_bounds : (gfn pages : ℕ) (slots : Slots) (slot : Slot) → slot_of slots gfn ≡ Some slot → AreSlotsOf pages slots
    → (slot.base ≤ gfn) × (slot.host + (gfn - slot.base) ≤ pages)
in_bounds gfn pages slots slot e all =
    let f = found gfn pages (values_of slots) slot e all in
    let i = inside gfn slot.base slot.pages f.0 in
    let h : slot.host + slot.pages ≤ pages = f.1.host in
    (i.0, omega arith)
