-- The manager's record after a line that changes a slot.
use Rattle.std.proofs.Common.{◌≡◌, ◌<◌, length, refl}
use Rattle.std.specs.Prelude.{All, Option, Some, None}
use Rattle.core_views.specs.declared.memory_slot.MemorySlot.{MemorySlot}
use Rattle.core_views.specs.declared.trace.Command.{Command}
use Rattle.core_views.specs.declared.trace.Command.TheVariants.{Access, ChangeHost, ChangeRun, ClearLog, DeleteSlot, GetLog, Migrate, SetLog, SetSlot, Split}
use Rattle.core_views.specs.Held.{Held}
use Rattle.core_views.specs.Refusals.{is_logged}
use Rattle.core_views.specs.SlotCommands.{after_change, slots_after}
use Rattle.core_views.proofs.SlotLines.{logged_so}
use Rattle.core_views.specs.SlotSets.{slot_of_id}
use Rattle.mmu_core.specs.invariant.Invariant.{IsSetBy}
use Rattle.mmu_core.specs.machine.Steps.{next_line}
use Rattle.mmu_core.proofs.lines.LinesKept.{line_sets, set_by_at, set_by_with, set_by_without}

-- The slots after the change were set by the hand's lines.
pub change_recorded : (h : Held) (command : Command) → length h.answers < length h.lines → (next_line h).command ≡ command → All (IsSetBy h.lines) h.slots
    → All (IsSetBy h.lines) (slots_after command h.slots)
change_recorded h (Access gfn word op) left is set = set
change_recorded h (ChangeHost page change) left is set = set
change_recorded h (ChangeRun page change) left is set = set
change_recorded h (SetSlot id slot) left is set =
    set_by_with h.lines id (record { slot = slot; logged = is_logged id h.slots }) h.slots (line_sets (length h.answers) h.lines id slot left is) set
change_recorded h (DeleteSlot id) left is set = set_by_without h.lines id h.slots set
change_recorded h (SetLog id on) left is set = by (slot_of_id id h.slots) refl
  where
    by : (was : Option MemorySlot) → slot_of_id id h.slots ≡ was
        → All (IsSetBy h.lines) (after_change (Some (id, logged_so on was)) h.slots)
    by None at = set_by_without h.lines id h.slots set
    by (Some was) at =
        set_by_with h.lines id (record { slot = was.slot; logged = on }) h.slots (set_by_at h.lines id was h.slots at set) set
change_recorded h (GetLog id) left is set = set
change_recorded h (Migrate call) left is set = set
change_recorded h (Split gfn) left is set = set
change_recorded h (ClearLog id first count words) left is set = set
