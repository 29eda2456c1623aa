-- The events that the steps of a line tell which changes a slot.
use Rattle.std.specs.Prelude.{ℕ, Bool, true, false, List, [], ◌∷◌, ◌++◌, Option, Some, None, if◌then◌else◌}
use Rattle.core_views.specs.declared.event.EventKind.{EventKind}
use Rattle.core_views.specs.declared.event.EventKind.TheVariants.{Armed, SlotChanged}
use Rattle.core_views.specs.declared.place.SlotChangePlace.{SlotChangePlace}
use Rattle.core_views.specs.declared.place.SlotChangePlace.TheVariants.{Claim, Publish, WriteProtect}
use Rattle.core_views.specs.declared.trace.Command.{Command}
use Rattle.core_views.specs.declared.trace.Command.TheVariants.{SetLog}
use Rattle.core_views.specs.declared.memory_slot.MemorySlot.{MemorySlot}
use Rattle.core_views.specs.Held.{Held}
use Rattle.core_views.specs.LogCommands.{is_all_set}
use Rattle.core_views.specs.SlotCommands.{slot_change}
use Rattle.mmu_core.specs.forms.access.AccessSteps.{exiting}
use Rattle.mmu_core.specs.declared.write_protect.WriteProtectNext.{WriteProtectNext}
use Rattle.mmu_core.specs.declared.write_protect.WriteProtectNext.TheVariants as protects_next
use Rattle.mmu_core.specs.orders.WriteProtectSteps.{protect_next}
use Rattle.mmu_core.specs.forms.slot_change.SlotChangeSteps.{slot_change_outcome}

-- the event of a change
abbrev pub changed : Option (ℕ × Option MemorySlot) → List EventKind
changed None = []
changed (Some (id, slot)) = SlotChanged id slot ∷ []

-- the event with which writes to a slot are logged: each page is dirty then, or none
abbrev pub arming : Bool → Command → List EventKind
arming all (SetLog id true) = Armed id all ∷ []
arming all _ = []

abbrev pub protect_tells : WriteProtectNext → Command → List EventKind
protect_tells (protects_next.Goes p) command = []
protect_tells protects_next.Over command = arming false command

-- What a step tells besides that its line begins or is answered: the slot is changed where its set is published. Its log begins there where each page is dirty
-- as it does, and else once writes are forbidden.
abbrev pub slot_change_tells : SlotChangePlace → Held → Command → ℕ → List EventKind
slot_change_tells (Claim begun) h command v = exiting (slot_change_outcome (Claim begun) command h v)
slot_change_tells Publish h command v = changed (slot_change h.slots command) ++ (if is_all_set h.state.sizes.mode then arming true command else [])
slot_change_tells (WriteProtect range p) h command v = protect_tells (protect_next p h.state.sizes range h.topics v) command
slot_change_tells _ h command v = []
