-- A slot that a line moves, or deletes, has no dirty log.
use Rattle.std.proofs.Common.{◌≡◌, ◌==◌, ◌&&◌, not, ℕ, Bool, true, false, refl, sym, ap, ◌∙◌}
use Rattle.std.specs.Prelude.{Option, Some, None, if◌then◌else◌, is_none, nat_lt}
use Rattle.std.specs.Option.{option_map}
use Rattle.core_views.specs.declared.answer.Refusal.{Refusal}
use Rattle.core_views.specs.declared.answer.Refusal.TheVariants.{BadId, Fixed, Logged, Missing, Resize, TooLarge}
use Rattle.core_views.specs.declared.sizes.Sizes.{Sizes}
use Rattle.core_views.specs.declared.memory_slot.MemorySlot.{MemorySlot}
use Rattle.core_views.specs.declared.trace.Command.TheVariants.{SetSlot}
use Rattle.core_views.specs.declared.trace.Slot.{Slot}
use Rattle.core_views.specs.Refusals.{delete_refusal, is_logged, moves_logged, set_refusal}
use Rattle.core_views.specs.SlotCommands.{at_once, change_at_once, is_unchanged, stays}
use Rattle.core_views.specs.Slots.{changes_fixed, is_some_and, is_too_large, resizes, slot_with_id}
use Rattle.core_views.specs.SlotSets.{MemorySlots, flat_slots, slot_of_id}
use Rattle.core_views.proofs.FlatSlots.{flat_at}
use Rattle.core_views.proofs.SlotChanges.{none_refused}

-- A slot that is set at another first guest frame has no dirty log.
not_logged : (slot : Slot) (was : Option MemorySlot) → is_some_and (moves_logged slot) was ≡ false
    → is_some_and (stays slot) (option_map (λ (m : MemorySlot). m.slot) was) ≡ false → is_some_and (λ (m : MemorySlot). m.logged) was ≡ false
not_logged slot None moves same = refl
not_logged slot (Some m) moves same = by m.logged (m.slot.base == slot.base) moves same
  where
    by : (logged b : Bool) → (logged && not b) ≡ false → b ≡ false → logged ≡ false
    by false b e f = refl
    by true true e f = absurd (cc f)
    by true false e f = absurd (cc e)

next : (b : Bool) (refusal : Refusal) (rest : Option Refusal) → (if b then Some refusal else rest) ≡ None → (b ≡ false) × (rest ≡ None)
next true refusal rest e = absurd (cc e)
next false refusal rest e = (refl, e)

third : (a b c : Bool) (p q r : Refusal) (rest : Option Refusal)
    → (if a then Some p else if b then Some q else if c then Some r else rest) ≡ None → (c ≡ false) × (rest ≡ None)
third a b c p q r rest none = next c r rest (next b q _ (next a p _ none).1).1

fresh : (r : Option Refusal) (same : Bool) → at_once r same ≡ None → same ≡ false
fresh (Some refusal) same e = absurd (cc e)
fresh None true e = absurd (cc e)
fresh None false e = refl

-- A slot that a line sets, and that isn't there so already, has no dirty log.
pub set_anew : (z : Sizes) (id : ℕ) (slot : Slot) (slots : MemorySlots) → change_at_once z (SetSlot id slot) slots ≡ None → is_logged id slots ≡ false
set_anew z id slot slots works =
    let accepted = none_refused z (SetSlot id slot) slots works in
    let was = slot_with_id id (flat_slots slots) in
    let later = third (nat_lt 31 id) (is_too_large z.pages slot) (is_some_and (resizes slot) was) BadId TooLarge Resize _ accepted in
    let moves = next (is_some_and (moves_logged slot) (slot_of_id id slots)) Logged _ (next (is_some_and (changes_fixed slot) was) Fixed _ later.1).1 in
    let same = fresh (set_refusal z.pages id slot slots) (is_unchanged (SetSlot id slot) slots) works in
    not_logged slot (slot_of_id id slots) moves.0 (sym (ap (is_some_and (stays slot)) (flat_at id slots)) ∙ same)

-- Nor has one whose deletion nothing refuses.
pub deleted_unlogged : (id : ℕ) (slots : MemorySlots) → delete_refusal id slots ≡ None → is_logged id slots ≡ false
deleted_unlogged id slots accepted =
    (third (nat_lt 31 id) (is_none (slot_of_id id slots)) (is_logged id slots) BadId Missing Logged None accepted).0
