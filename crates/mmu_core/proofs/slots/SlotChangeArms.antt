-- The lines that begin a dirty log.
use Rattle.std.proofs.Common.{◌≡◌, refl, ap, ◌∙◌}
use Rattle.std.specs.Prelude.{true, false, Option, Some, None, is_some}
use Rattle.core_views.specs.declared.trace.Command.{Command}
use Rattle.core_views.specs.declared.trace.Slot.{Slot}
use Rattle.core_views.specs.SlotCommands.{arms, slot_armed, slot_invalidated, slots_after}
use Rattle.core_views.specs.SlotSets.{MemorySlots, slot_of_id}
use Rattle.core_views.specs.declared.memory_slot.MemorySlot.{MemorySlot}
use Rattle.std.specs.Option.{option_map}
use Rattle.core_views.specs.declared.trace.Command.TheVariants.{Access, ChangeHost, ChangeRun, ClearLog, DeleteSlot, GetLog, Migrate, SetLog, SetSlot, Split}
use Rattle.mmu_core.specs.forms.slot_change.SlotChangeKnows.{ArmsThere}
use Rattle.core_views.proofs.SlotLines.{log_here, logged_so}

-- A slot whose dirty log begins is one that the line arms, and no such line moves a slot.
pub armed_is : (slots : MemorySlots) (command : Command) (slot : Slot) → slot_armed slots command ≡ Some slot → arms command ≡ true
armed_is slots (SetLog id true) slot is = refl
armed_is slots (SetLog id false) slot is = absurd (cc is)
armed_is slots (Access gfn word op) slot is = absurd (cc is)
armed_is slots (ChangeHost page change) slot is = absurd (cc is)
armed_is slots (ChangeRun page change) slot is = absurd (cc is)
armed_is slots (SetSlot id new_) slot is = absurd (cc is)
armed_is slots (DeleteSlot id) slot is = absurd (cc is)
armed_is slots (GetLog id) slot is = absurd (cc is)
armed_is slots (Migrate call) slot is = absurd (cc is)
armed_is slots (Split gfn) slot is = absurd (cc is)
armed_is slots (ClearLog id first count words) slot is = absurd (cc is)

pub none_moved : (slots : MemorySlots) (command : Command) → arms command ≡ true → is_some (slot_invalidated slots command) ≡ false
none_moved slots (SetLog id on) is = refl
none_moved slots (Access gfn word op) is = absurd (cc is)
none_moved slots (ChangeHost page change) is = absurd (cc is)
none_moved slots (ChangeRun page change) is = absurd (cc is)
none_moved slots (SetSlot id new_) is = absurd (cc is)
none_moved slots (DeleteSlot id) is = absurd (cc is)
none_moved slots (GetLog id) is = absurd (cc is)
none_moved slots (Migrate call) is = absurd (cc is)
none_moved slots (Split gfn) is = absurd (cc is)
none_moved slots (ClearLog id first count words) is = absurd (cc is)

-- It is there still after the publication of the set with the log.
pub published_there : (slots : MemorySlots) (command : Command) → ArmsThere command slots → ArmsThere command (slots_after command slots)
published_there slots (SetLog id true) there is =
    ap (λ (o : Option MemorySlot). is_some (option_map (λ was. was.slot) o)) (log_here id true slots) ∙ still (slot_of_id id slots) (there is)
  where
    still : (o : Option MemorySlot) → is_some (option_map (λ was. was.slot) o) ≡ true → is_some (option_map (λ was. was.slot) (logged_so true o)) ≡ true
    still None e = absurd (cc e)
    still (Some was) e = refl
published_there slots (SetLog id false) there is = absurd (cc is)
published_there slots (Access gfn word op) there is = absurd (cc is)
published_there slots (ChangeHost page change) there is = absurd (cc is)
published_there slots (ChangeRun page change) there is = absurd (cc is)
published_there slots (SetSlot id new_) there is = absurd (cc is)
published_there slots (DeleteSlot id) there is = absurd (cc is)
published_there slots (GetLog id) there is = absurd (cc is)
published_there slots (Migrate call) there is = absurd (cc is)
published_there slots (Split gfn) there is = absurd (cc is)
published_there slots (ClearLog id first count words) there is = absurd (cc is)
