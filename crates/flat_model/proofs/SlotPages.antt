-- The host pages of each slot are the machine's, after each change of the slots.
use Rattle.std.proofs.Common.{◌≡◌, ◌==◌, ℕ, [], ◌∷◌, Bool, true, false, not, refl, sym, ap, subst, ◌∙◌}
use Rattle.std.specs.Option.{option_map}
use Rattle.std.specs.Prelude.{IfSome, None, Option, Some, if◌then◌else◌}
use Rattle.std.specs.Map.{values_of}
use Rattle.std.specs.Ordering.{nat_cmp}
use Rattle.std.proofs.lemmas.List.Elements.{All-cons, All-head, All-tail}
use Rattle.std.proofs.lemmas.Map.Views.{All-values-insert_entry, IfSome-lookup_from_All}
use Rattle.core_views.specs.declared.sizes.Sizes.{Sizes}
use Rattle.core_views.specs.declared.memory_slot.MemorySlot.{MemorySlot}
use Rattle.core_views.specs.declared.trace.Command.{Command}
use Rattle.core_views.specs.declared.trace.Command.TheVariants.{Access, ChangeHost, ChangeRun, ClearLog, DeleteSlot, GetLog, Migrate, SetLog, SetSlot, Split}
use Rattle.core_views.specs.declared.trace.Slot.{Slot}
use Rattle.core_views.specs.Refusals.{is_logged}
use Rattle.core_views.specs.SlotCommands.{change_at_once, slots_after}
use Rattle.core_views.specs.SlotSets.{MemorySlots, changed_slots, flat_slots, slot_of_id, without_slot_at}
use Rattle.core_views.proofs.FlatSlots.{flat_at, flat_with}
use Rattle.core_views.proofs.SlotChanges.{none_refused}
use Rattle.core_views.proofs.Sound.{passes}
use Rattle.flat_model.specs.Steps.{AreSlotsOf, IsSlotOf}

fewer_fit : (total id : ℕ) (es : MemorySlots) → AreSlotsOf total (flat_slots es) → AreSlotsOf total (flat_slots (without_slot_at id es))
fewer_fit total id [] all = all
fewer_fit total id (e ∷ es) all =
    by (e.0 == id) (fewer_fit total id es (All-tail (IsSlotOf total) e.1.slot (values_of (flat_slots es)) all))
  where
    by : (here : Bool) → AreSlotsOf total (flat_slots (without_slot_at id es))
        → AreSlotsOf total (flat_slots (if not here then e ∷ without_slot_at id es else without_slot_at id es))
    by true rest = rest
    by false rest =
        All-cons (IsSlotOf total) e.1.slot (values_of (flat_slots (without_slot_at id es)))
        (All-head (IsSlotOf total) e.1.slot (values_of (flat_slots es)) all) rest

pub slots_fit : (z : Sizes) (command : Command) (slots : MemorySlots) → change_at_once z command slots ≡ None → AreSlotsOf z.pages (flat_slots slots)
    → AreSlotsOf z.pages (flat_slots (slots_after command slots))
slots_fit z (Access gfn word op) slots works all = all
slots_fit z (ChangeHost page change) slots works all = all
slots_fit z (ChangeRun page change) slots works all = all
slots_fit z (GetLog id) slots works all = all
slots_fit z (Migrate call) slots works all = all
slots_fit z (Split gfn) slots works all = all
slots_fit z (ClearLog id first count words) slots works all = all
slots_fit z (SetLog id on) slots works all = by (slot_of_id id slots) refl
  where
    by : (was : Option MemorySlot) → slot_of_id id slots ≡ was
        → AreSlotsOf z.pages (flat_slots (changed_slots id (option_map (λ was. record { slot = was.slot; logged = on }) was) slots))
    by None is = fewer_fit z.pages id slots all
    by (Some was) is =
        let there = subst (λ (o : Option Slot). IfSome o (IsSlotOf z.pages)) (flat_at id slots ∙ ap (option_map (λ (m : MemorySlot). m.slot)) is)
        (IfSome-lookup_from_All (IsSlotOf z.pages) (λ i. i == id) (flat_slots slots) all) in
        subst (AreSlotsOf z.pages) (sym (flat_with id (record { slot = was.slot; logged = on }) slots))
        (All-values-insert_entry nat_cmp id was.slot (IsSlotOf z.pages) (flat_slots slots) all there)
slots_fit z (SetSlot id slot) slots works all =
    subst (AreSlotsOf z.pages) (sym (flat_with id (record { slot = slot; logged = is_logged id slots }) slots))
    (All-values-insert_entry nat_cmp id slot (IsSlotOf z.pages) (flat_slots slots) all
    (record { host = (passes z.pages id slot slots (none_refused z (SetSlot id slot) slots works)).fits }))
slots_fit z (DeleteSlot id) slots works all = fewer_fit z.pages id slots all
