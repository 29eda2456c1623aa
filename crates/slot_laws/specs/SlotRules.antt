-- What a slot line may change, and which one changes nothing (api.rst, KVM_SET_USER_MEMORY_REGION): in words over the slots before and after it.
use Rattle.std.specs.Prelude.{◌≡◌, ◌≢◌, ◌≤◌, ℕ, true, false, Some, None}
use Rattle.core_views.specs.declared.sizes.Sizes.{Sizes}
use Rattle.core_views.specs.declared.memory_slot.MemorySlot.{MemorySlot}
use Rattle.core_views.specs.declared.trace.Command.{Command}
use Rattle.core_views.specs.declared.trace.Slot.{Slot}
use Rattle.core_views.specs.Refusals.{delete_refusal, set_refusal}
use Rattle.core_views.specs.SlotCommands.{change_at_once, changes_slot, slots_after}
use Rattle.core_views.specs.SlotSets.{MemorySlots, slot_of_id}

-- The new slot has as many pages as the old one, the same host pages and the same flag; and where the old one has a dirty log, it has the same guest frames.
pub record HasShapeOf (was : MemorySlot) (slot : Slot) : Type 0 where
  pub pages : slot.pages ≡ was.slot.pages
  pub host : slot.host ≡ was.slot.host
  pub read_only : slot.read_only ≡ was.slot.read_only
  pub logged : was.logged ≡ true → slot.base ≡ was.slot.base

-- A slot that is set where one has its ID, and isn't refused, has the shape of that one.
abbrev pub SetSlotsKeepShapes : Type 0
SetSlotsKeepShapes =
    (total id : ℕ) (slot : Slot) (slots : MemorySlots) (was : MemorySlot) → set_refusal total id slot slots ≡ None → slot_of_id id slots ≡ Some was
    → HasShapeOf was slot

-- A deletion that isn't refused is of a slot that is there, without a dirty log, at an ID that a set may have.
abbrev pub DeletionsAreOfSlots : Type 0
DeletionsAreOfSlots =
    (id : ℕ) (slots : MemorySlots) → delete_refusal id slots ≡ None
    → (id ≤ 31) × ((was : MemorySlot) × (slot_of_id id slots ≡ Some was) × (was.logged ≡ false))

-- A line that is told done before its first step would leave the slot at each ID as it is.
abbrev pub DoneAtOnceChangesNone : Type 0
DoneAtOnceChangesNone =
    (z : Sizes) (command : Command) (slots : MemorySlots) → change_at_once z command slots ≡ Some None → (id : ℕ)
    → slot_of_id id (slots_after command slots) ≡ slot_of_id id slots

-- Any other line that changes slots, and isn't refused, leaves another slot at some ID, or none.
abbrev pub WorkChangesOne : Type 0
WorkChangesOne =
    (z : Sizes) (command : Command) (slots : MemorySlots) → changes_slot command ≡ true → change_at_once z command slots ≡ None
    → (id : ℕ) × (slot_of_id id (slots_after command slots) ≢ slot_of_id id slots)
