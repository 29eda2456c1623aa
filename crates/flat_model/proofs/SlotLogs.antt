-- Which slots have a dirty log after a line's change of a slot.
use Rattle.std.proofs.Common.{◌≡◌, ◌==◌, ℕ, Bool, true, false, inl, inr, refl, sym, ap, ◌∙◌}
use Rattle.std.proofs.lemmas.Bool.Decides.{eqb_tells}
use Rattle.std.proofs.lemmas.Option.{same_Some}
use Rattle.std.specs.Prelude.{Option, Some, None, if◌then◌else◌}
use Rattle.std.specs.Option.{option_map}
use Rattle.core_views.specs.declared.answer.Refusal.TheVariants.{Missing}
use Rattle.core_views.specs.declared.sizes.Sizes.{Sizes}
use Rattle.core_views.specs.declared.memory_slot.MemorySlot.{MemorySlot}
use Rattle.core_views.specs.declared.trace.Command.{Command}
use Rattle.core_views.specs.declared.trace.Command.TheVariants.{Access, ChangeHost, ChangeRun, ClearLog, DeleteSlot, GetLog, Migrate, SetLog, SetSlot, Split}
use Rattle.core_views.specs.Refusals.{is_logged, log_refusal}
use Rattle.core_views.specs.SlotCommands.{arms, change_at_once, slot_change}
use Rattle.core_views.specs.Slots.{is_some_and}
use Rattle.core_views.specs.SlotSets.{MemorySlots, changed_slots, slot_of_id}
use Rattle.core_views.proofs.SlotChanges.{none_refused}
use Rattle.core_views.proofs.SlotLines.{set_elsewhere, set_here, taken_at}
use Rattle.core_views.proofs.UnloggedSlots.{set_anew}

-- what has changed at this ID, or is there as before
abbrev pub changed_or : {X : Type 0} → Bool → X → X → X
changed_or here new old_ = if here then new else old_

-- The slot that was changed stands at its ID, and at each other ID what stood there.
pub changed_at : (i id : ℕ) (slot : Option MemorySlot) (slots : MemorySlots)
    → slot_of_id i (changed_slots id slot slots) ≡ changed_or (id == i) slot (slot_of_id i slots)
changed_at i id None slots = taken_at i id slots
changed_at i id (Some m) slots = elim (eqb_tells id i) [
  | inl same ↦ ap (λ (k : ℕ). slot_of_id k (changed_slots id (Some m) slots)) (sym same.1) ∙ set_here id m slots
      ∙ sym (ap (λ (b : Bool). changed_or b (Some m) (slot_of_id i slots)) same.0)
  | inr unlike ↦ set_elsewhere id i m slots (λ e. unlike.1 (sym e)) ∙ sym (ap (λ (b : Bool). changed_or b (Some m) (slot_of_id i slots)) unlike.0)
]

abbrev pub has_log : Option MemorySlot → Bool
has_log slot = is_some_and (λ m. m.logged) slot

pub logged_after : (i id : ℕ) (slot : Option MemorySlot) (slots : MemorySlots)
    → is_logged i (changed_slots id slot slots) ≡ changed_or (id == i) (has_log slot) (is_logged i slots)
logged_after i id slot slots = ap has_log (changed_at i id slot slots) ∙ by (id == i)
  where
    by : (b : Bool) → has_log (changed_or b slot (slot_of_id i slots)) ≡ changed_or b (has_log slot) (is_logged i slots)
    by true = refl
    by false = refl

abbrev pub logged_so : Bool → Option MemorySlot → Option MemorySlot
logged_so on was = option_map (λ m. record { slot = m.slot; logged = on }) was

set_log : (z : Sizes) (id : ℕ) (on : Bool) (slots : MemorySlots) → change_at_once z (SetLog id on) slots ≡ None
    → has_log (logged_so on (slot_of_id id slots)) ≡ on
set_log z id on slots works = by on (slot_of_id id slots) refl (none_refused z (SetLog id on) slots works)
  where
    by : (b : Bool) (was : Option MemorySlot) → slot_of_id id slots ≡ was → log_refusal b id slots ≡ None → has_log (logged_so b was) ≡ b
    by b (Some was) is accepted = refl
    by false None is accepted = refl
    by true None is accepted = absurd (let missing : log_refusal true id slots ≡ Some Missing = rw is refl in cc (missing, accepted))

-- A line that changes a slot has changed it, with a dirty log just where the line gives it one.
pub new_log : (z : Sizes) (command : Command) (slots : MemorySlots) (change : ℕ × Option MemorySlot) → slot_change slots command ≡ Some change
    → change_at_once z command slots ≡ None → has_log change.1 ≡ arms command
new_log z (Access gfn word op) slots change is works = absurd (cc is)
new_log z (ChangeHost page change_) slots change is works = absurd (cc is)
new_log z (ChangeRun page change_) slots change is works = absurd (cc is)
new_log z (GetLog id) slots change is works = absurd (cc is)
new_log z (Migrate call) slots change is works = absurd (cc is)
new_log z (Split gfn) slots change is works = absurd (cc is)
new_log z (ClearLog id first count words) slots change is works = absurd (cc is)
new_log z (DeleteSlot id) slots change is works = ap (λ (c : ℕ × Option MemorySlot). has_log c.1) (sym (same_Some _ _ is))
new_log z (SetSlot id slot) slots change is works =
    ap (λ (c : ℕ × Option MemorySlot). has_log c.1) (sym (same_Some _ _ is)) ∙ set_anew z id slot slots works
new_log z (SetLog id on) slots change is works =
    ap (λ (c : ℕ × Option MemorySlot). has_log c.1) (sym (same_Some _ _ is)) ∙ set_log z id on slots works
