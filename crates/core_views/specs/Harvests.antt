-- What may be read of a dirty log (api.rst, KVM_GET_DIRTY_LOG: pages dirtied since the last call), where guests write meanwhile.
use Rattle.std.specs.Prelude.{◌≡◌, ◌-◌, ℕ, Bool, List, true, Option, Some, None}
use Rattle.std.specs.List.Sorted.{IsStrictlyIncreasing}
use Rattle.core_views.specs.declared.memory_slot.MemorySlot.{MemorySlot}
use Rattle.core_views.specs.declared.trace.Command.{Command}
use Rattle.core_views.specs.declared.sizes.Sizes.{Sizes}
use Rattle.core_views.specs.Flat.{Facts, Stage, HasTaken}
use Rattle.core_views.specs.LogCommands.{asks_for, is_among, log_read, takes_out}
use Rattle.core_views.specs.Past.{Past}
use Rattle.core_views.specs.Slots.{contains}
use Rattle.core_views.specs.SlotSets.{MemorySlots, slot_of_id}

-- The line reads these guest frames of the slot's log. It has asked for each (`asked`), and each has a cause to stand in the log (`caused`). None is left out
-- for which it has asked that was dirty as it began to read, with no write to it under way then, or with the guest stopped (`complete`).
pub record IsHarvest (f : Facts) (past : Past) (command : Command) (id : ℕ) (frames : List ℕ) : Type 0 where
  pub slot : MemorySlot
  pub there : slot_of_id id f.slots ≡ Some slot
  pub rising : IsStrictlyIncreasing frames
  pub asked : (gfn : ℕ) → is_among gfn frames ≡ true → (contains gfn slot.slot ≡ true) × (asks_for command (gfn - slot.slot.base) ≡ true)
  pub complete : (gfn : ℕ) → contains gfn slot.slot ≡ true → asks_for command (gfn - slot.slot.base) ≡ true → past.due gfn ≡ true
      → is_among gfn frames ≡ true
  pub caused : (gfn : ℕ) → is_among gfn frames ≡ true → past.causes gfn ≡ true

-- the slot whose log the line reads, if it is there
abbrev pub slot_at : MemorySlots → Option ℕ → Option MemorySlot
slot_at slots None = None
slot_at slots (Some id) = slot_of_id id slots

abbrev pub slot_read : MemorySlots → Command → Option MemorySlot
slot_read slots command = slot_at slots (log_read command)

-- The line has begun to read this slot's log, and has now read these frames of it; what it reads it takes out of the log, or doesn't.
pub record MayRead (z : Sizes) (f : Facts) (past : Past) (command : Command) (stage : Stage) (id : ℕ) (frames : List ℕ) (out : Bool) : Type 0 where
  pub begun : stage ≡ HasTaken id
  pub reads : log_read command ≡ Some id
  pub takes : takes_out z.mode command ≡ out
  pub harvest : IsHarvest f past command id frames
