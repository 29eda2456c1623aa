-- What a line changes in the slots, and why it may not (api.rst, KVM_SET_USER_MEMORY_REGION, KVM_MEM_LOG_DIRTY_PAGES): a clause for each command that changes
-- a slot.
use Rattle.std.specs.Prelude.{◌≤◌, ℕ, Bool, true, false, ◌==◌, Option, Some, None, if◌then◌else◌}
use Rattle.std.specs.Option.{option_map}
use Rattle.core_views.specs.declared.answer.Answer.{Answer}
use Rattle.core_views.specs.declared.answer.Answer.TheVariants.{Done, Refused}
use Rattle.core_views.specs.declared.answer.Refusal.{Refusal}
use Rattle.core_views.specs.declared.memory_slot.MemorySlot.{MemorySlot}
use Rattle.core_views.specs.declared.sizes.Sizes.{Sizes}
use Rattle.core_views.specs.declared.trace.Command.{Command}
use Rattle.core_views.specs.declared.trace.Slot.{Slot}
use Rattle.core_views.specs.declared.trace.Command.TheVariants.{Access, ChangeHost, ChangeRun, ClearLog, DeleteSlot, GetLog, Migrate, SetLog, SetSlot, Split}
use Rattle.core_views.specs.Refusals.{delete_refusal, is_logged, log_refusal, set_refusal}
use Rattle.core_views.specs.Slots.{is_some_and, slot_with_id}
use Rattle.core_views.specs.SlotSets.{MemorySlots, changed_slots, flat_slots, slot_of_id}

-- A slot that the command sets has a page at least.
abbrev pub HasPages : Command → Type 0
HasPages (SetSlot id slot) = 1 ≤ slot.pages
HasPages _ = Unit {0}

-- The command is one that changes a slot.
abbrev pub changes_slot : Command → Bool
changes_slot (Access gfn word op) = false
changes_slot (ChangeHost page change) = false
changes_slot (ChangeRun page change) = false
changes_slot (GetLog id) = false
changes_slot (ClearLog id first count words) = false
changes_slot (Migrate call) = false
changes_slot (Split gfn) = false
changes_slot _ = true

-- The ID of which a line changes the slot, and the slot after the change, or none where the line deletes it. A slot that is set has a dirty log where the
-- one that was there had one; a line that gives or takes away a dirty log leaves the slot else as it is.
abbrev pub slot_change : MemorySlots → Command → Option (ℕ × Option MemorySlot)
slot_change slots (Access gfn word op) = None
slot_change slots (ChangeHost page change) = None
slot_change slots (ChangeRun page change) = None
slot_change slots (SetSlot id slot) = Some (id, Some (record { slot = slot; logged = is_logged id slots }))
slot_change slots (DeleteSlot id) = Some (id, None)
slot_change slots (SetLog id on) = Some (id, option_map (λ was. record { slot = was.slot; logged = on }) (slot_of_id id slots))
slot_change slots (GetLog id) = None
slot_change slots (ClearLog id first count words) = None
slot_change slots (Migrate call) = None
slot_change slots (Split gfn) = None

-- the slots after such a change
abbrev pub after_change : Option (ℕ × Option MemorySlot) → MemorySlots → MemorySlots
after_change None slots = slots
after_change (Some (id, slot)) slots = changed_slots id slot slots

-- the slots after the line has changed its slot
abbrev pub slots_after : Command → MemorySlots → MemorySlots
slots_after command slots = after_change (slot_change slots command) slots

-- the slot with the ID of a change, as it is before, if there is one
abbrev pub slot_before : MemorySlots → Option (ℕ × Option MemorySlot) → Option Slot
slot_before slots None = None
slot_before slots (Some (id, slot)) = option_map (λ was. was.slot) (slot_of_id id slots)

-- The slot that the line moves or deletes, as it is before. Its guest frames are invalidated.
abbrev pub slot_invalidated : MemorySlots → Command → Option Slot
slot_invalidated slots (SetLog id on) = None
slot_invalidated slots command = slot_before slots (slot_change slots command)

-- The line gives the slot with the ID a dirty log, which begins before the line is answered.
abbrev pub arms : Command → Bool
arms (SetLog id on) = on
arms _ = false

-- The slot whose dirty log begins with the line, if one does. The line leaves it else as it is.
abbrev pub slot_armed : MemorySlots → Command → Option Slot
slot_armed slots (SetLog id true) = option_map (λ was. was.slot) (slot_of_id id slots)
slot_armed slots _ = None

-- why the line is refused, on a machine of these sizes with these slots
abbrev pub change_refusal : Sizes → Command → MemorySlots → Option Refusal
change_refusal z (Access gfn word op) slots = None
change_refusal z (ChangeHost page change) slots = None
change_refusal z (ChangeRun page change) slots = None
change_refusal z (SetSlot id slot) slots = set_refusal z.pages id slot slots
change_refusal z (DeleteSlot id) slots = delete_refusal id slots
change_refusal z (SetLog id on) slots = log_refusal on id slots
change_refusal z (GetLog id) slots = None
change_refusal z (ClearLog id first count words) slots = None
change_refusal z (Migrate call) slots = None
change_refusal z (Split gfn) slots = None

-- The slot that was there has the same first guest frame. Its number of pages, its host pages and its flag can't be others, else this one is refused.
abbrev pub stays : Slot → Slot → Bool
stays slot was = was.base == slot.base

-- The line sets a slot as it is there.
abbrev pub is_unchanged : Command → MemorySlots → Bool
is_unchanged (SetSlot id slot) slots = is_some_and (stays slot) (slot_with_id id (flat_slots slots))
is_unchanged _ slots = false

-- A line has nothing to do where it is refused, with its refusal, and, with none, where it leaves the slots as they are.
abbrev pub at_once : Option Refusal → Bool → Option (Option Refusal)
at_once (Some refusal) same = Some (Some refusal)
at_once None same = if same then Some None else None

abbrev pub change_at_once : Sizes → Command → MemorySlots → Option (Option Refusal)
change_at_once z (Access gfn word op) slots = None
change_at_once z (ChangeHost page change) slots = None
change_at_once z (ChangeRun page change) slots = None
change_at_once z (GetLog id) slots = None
change_at_once z (ClearLog id first count words) slots = None
change_at_once z (Migrate call) slots = None
change_at_once z (Split gfn) slots = None
change_at_once z command slots = at_once (change_refusal z command slots) (is_unchanged command slots)

-- what such a line is answered
abbrev pub refused_or_done : Option Refusal → Answer
refused_or_done (Some refusal) = Refused refusal
refused_or_done None = Done
