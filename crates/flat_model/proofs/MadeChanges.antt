-- What a line's change of a slot is, told by the slot at its ID before and after.
use Rattle.std.proofs.Common.{◌≡◌, ℕ, Bool, refl, sym, ap, ap₂, subst, ◌∙◌}
use Rattle.std.proofs.lemmas.Bool.{eq-eqb}
use Rattle.std.specs.Prelude.{Option, Some}
use Rattle.core_views.specs.declared.memory_slot.MemorySlot.{MemorySlot}
use Rattle.core_views.specs.declared.trace.Command.{Command}
use Rattle.core_views.specs.declared.trace.Command.TheVariants.{Access, ChangeHost, ChangeRun, ClearLog, DeleteSlot, GetLog, Migrate, SetLog, SetSlot, Split}
use Rattle.core_views.specs.SlotCommands.{slot_change, slots_after}
use Rattle.core_views.specs.SlotSets.{changed_slots, slot_of_id}
use Rattle.flat_model.specs.Dirty.{dirty_after, is_dirty}
use Rattle.flat_model.specs.Kept.{Kept}
use Rattle.flat_model.specs.Steps.{IsChangeOf, MakesChange}
use Rattle.flat_model.proofs.SlotLogs.{changed_at, changed_or}

-- The slot at an ID was changed from this to that, and nothing else but which frames are dirty.
pub record HasChanged (command : Command) (id : ℕ) (was now : Option MemorySlot) (before after : Kept) : Type 0 where
  pub was_is : was ≡ slot_of_id id before.slots
  pub now_is : now ≡ slot_of_id id after.slots
  pub slots : after.slots ≡ slots_after command before.slots
  pub changed : after.changed ≡ before.changed
  pub words : after.words ≡ before.words
  pub copies : after.copies ≡ before.copies
  pub dirty : (gfn : ℕ) → is_dirty after.dirty gfn ≡ dirty_after before.sizes.mode command was now (is_dirty before.dirty) gfn

module _ (command : Command) (id : ℕ) (was now : Option MemorySlot) (before after : Kept) (is : HasChanged command id was now before after) where
  by_change : (slot : Option MemorySlot) → slot_change before.slots command ≡ Some (id, slot)
      → slots_after command before.slots ≡ changed_slots id slot before.slots
      → MakesChange command before after (slot_change before.slots command)
  by_change slot change after_is =
      let there : now ≡ slot =
      is.now_is ∙ ap (slot_of_id id) (is.slots ∙ after_is) ∙ changed_at id id slot before.slots
      ∙ ap (λ (b : Bool). changed_or b slot (slot_of_id id before.slots)) (eq-eqb id id refl) in
      subst (MakesChange command before after) (sym change) (
        is.slots,
        is.changed,
        is.words,
        is.copies,
        λ gfn. is.dirty gfn
            ∙ ap₂ (λ (w n : Option MemorySlot). dirty_after before.sizes.mode command w n (is_dirty before.dirty) gfn) is.was_is there,
      )

at : (command : Command) (id other : ℕ) (was now : Option MemorySlot) (before after : Kept) → other ≡ id
    → HasChanged command id was now before after → HasChanged command other was now before after
at command id other was now before after here is = subst (λ (k : ℕ). HasChanged command k was now before after) (sym here) is

pub makes_change : (command : Command) (id : ℕ) (was now : Option MemorySlot) (before after : Kept) → IsChangeOf command id
    → HasChanged command id was now before after → MakesChange command before after (slot_change before.slots command)
makes_change (SetSlot other slot) id was now before after here is =
    by_change (SetSlot other slot) other was now before after (at (SetSlot other slot) id other was now before after here is) _ refl refl
makes_change (DeleteSlot other) id was now before after here is =
    by_change (DeleteSlot other) other was now before after (at (DeleteSlot other) id other was now before after here is) _ refl refl
makes_change (SetLog other on) id was now before after here is =
    by_change (SetLog other on) other was now before after (at (SetLog other on) id other was now before after here is) _ refl refl
makes_change (Access gfn word op) id was now before after here is = absurd here
makes_change (ChangeHost page change) id was now before after here is = absurd here
makes_change (ChangeRun page change) id was now before after here is = absurd here
makes_change (GetLog other) id was now before after here is = absurd here
makes_change (Migrate call) id was now before after here is = absurd here
makes_change (Split gfn) id was now before after here is = absurd here
makes_change (ClearLog other first count words) id was now before after here is = absurd here
