-- What the interpreter's own steps promise each other.
use Rattle.std.specs.Prelude.{◌≡◌, ◌+◌, ◌≤◌, ℕ, Bool, true, false, All, Option, Some, None}
use Rattle.std.specs.Map.{values_of}
use Rattle.core_views.specs.declared.answer.Answer.{Answer}
use Rattle.core_views.specs.declared.answer.Answer.TheVariants.{Reached, Mmio, HostFault, Paused, Done, Refused}
use Rattle.core_views.specs.declared.answer.Refusal.{Refusal}
use Rattle.core_views.specs.declared.answer.Refusal.TheVariants.{OutOfRange}
use Rattle.core_views.specs.declared.host.HostEntry.{HostEntry}
use Rattle.core_views.specs.declared.memory_slot.MemorySlot.{MemorySlot}
use Rattle.core_views.specs.declared.trace.Command.{Command}
use Rattle.core_views.specs.declared.trace.Command.TheVariants.{DeleteSlot, SetLog, SetSlot}
use Rattle.core_views.specs.declared.trace.HostChange.{HostChange}
use Rattle.core_views.specs.declared.trace.Op.{Op}
use Rattle.core_views.specs.declared.trace.RunChange.{RunChange}
use Rattle.core_views.specs.declared.trace.Slot.{Slot}
use Rattle.core_views.specs.Host.{brought_in, is_denied, is_huge}
use Rattle.core_views.specs.Memory.{word_after_op, with_word}
use Rattle.core_views.specs.Migrations.{is_paused}
use Rattle.core_views.specs.Slots.{Slots, page_behind}
use Rattle.core_views.specs.Events.{marked}
use Rattle.core_views.specs.SlotSets.{flat_slots, slot_of_id}
use Rattle.core_views.specs.SlotCommands.{refused_or_done, slot_change, slots_after}
use Rattle.flat_model.specs.Dirty.{dirty_after, is_dirty, is_frame_logged}
use Rattle.flat_model.specs.Kept.{Kept, memory_of}
use Rattle.flat_model.specs.HostPages.{ChangesUnlessHuge, Maps, SetsRun, host_of}

-- The slot's host pages are among so many.
pub record IsSlotOf (pages : ℕ) (slot : Slot) : Type 0 where
  pub host : slot.host + slot.pages ≤ pages

-- Each slot's host pages are among so many.
abbrev pub AreSlotsOf : ℕ → Slots → Type 0
AreSlotsOf pages slots = All (IsSlotOf pages) (values_of slots)

-- The command changes the slot with this ID, or its dirty log.
abbrev pub IsChangeOf : Command → ℕ → Type 0
IsChangeOf (SetSlot other slot) id = other ≡ id
IsChangeOf (DeleteSlot other) id = other ≡ id
IsChangeOf (SetLog other on) id = other ≡ id
IsChangeOf _ _ = ⊥

-- The line changes its slots so, and nothing else but which frames are dirty.
abbrev pub MakesChange : Command → Kept → Kept → Option (ℕ × Option MemorySlot) → Type 0
MakesChange command before after None = after ≡ before
MakesChange command before after (Some (id, slot)) =
    (after.slots ≡ slots_after command before.slots) × (after.changed ≡ before.changed) × (after.words ≡ before.words) × (after.copies ≡ before.copies)
    × ((gfn : ℕ) → is_dirty after.dirty gfn
    ≡ dirty_after before.sizes.mode command (slot_of_id id before.slots) slot (is_dirty before.dirty) gfn)

-- A line that has nothing to do is answered so, and changes nothing; any other makes its change of the slots.
abbrev pub ChangesSlots : Command → Kept → Kept → Answer → Option (Option Refusal) → Type 0
ChangesSlots command before after answer (Some refusal) = (answer ≡ refused_or_done refusal) × (after ≡ before)
ChangesSlots command before after answer None = (answer ≡ Done) × MakesChange command before after (slot_change before.slots command)

-- The operation has stored its word, and made its guest frame dirty if it is a write that is logged; nothing else has changed.
pub record HasStored (gfn page word : ℕ) (op : Op) (before after : Kept) : Type 0 where
  pub slots : after.slots ≡ before.slots
  pub changed : after.changed ≡ before.changed
  pub copies : after.copies ≡ before.copies
  pub words : (p w : ℕ) → memory_of after.words p w ≡ with_word page word (word_after_op op (memory_of before.words page word)) (memory_of before.words) p w
  pub dirty : (other : ℕ) → is_dirty after.dirty other ≡ marked (is_frame_logged before.slots gfn) gfn op (is_dirty before.dirty) other

-- An access of a page that the host forbids leaves the guest and changes nothing; any other gives that word and brings the page in, and a write changes that
-- word alone, and makes its guest frame dirty where its writes are logged.
abbrev pub AccessesEntry : ℕ → ℕ → ℕ → Op → Kept → Kept → Answer → HostEntry → Bool → Type 0
AccessesEntry gfn page word op before after answer entry true = (answer ≡ HostFault) × (after ≡ before)
AccessesEntry gfn page word op before after answer entry false =
    (answer ≡ Reached entry.frame (memory_of before.words page word)) × (after.slots ≡ before.slots) × (after.copies ≡ before.copies)
    × Maps page (brought_in entry) before.changed after.changed
    × ((p w : ℕ) → memory_of after.words p w ≡ with_word page word (word_after_op op (memory_of before.words page word)) (memory_of before.words) p w)
    × ((other : ℕ) → is_dirty after.dirty other ≡ marked (is_frame_logged before.slots gfn) gfn op (is_dirty before.dirty) other)

-- An access without its page is an MMIO exit and changes nothing.
abbrev pub AccessesPage : ℕ → ℕ → Op → Kept → Kept → Answer → Option ℕ → Type 0
AccessesPage gfn word op before after answer None = (answer ≡ Mmio) × (after ≡ before)
AccessesPage gfn word op before after answer (Some page) =
    AccessesEntry gfn page word op before after answer (host_of before.changed page) (is_denied op (host_of before.changed page))

-- While the guest is paused an access isn't made, and changes nothing.
abbrev pub AccessesUnlessPaused : ℕ → ℕ → Op → Kept → Kept → Answer → Bool → Type 0
AccessesUnlessPaused gfn word op before after answer true = (answer ≡ Paused) × (after ≡ before)
AccessesUnlessPaused gfn word op before after answer false = AccessesPage gfn word op before after answer (page_behind (flat_slots before.slots) gfn op)

abbrev pub Accesses : ℕ → ℕ → Op → Kept → Kept → Answer → Type 0
Accesses gfn word op before after answer = AccessesUnlessPaused gfn word op before after answer (is_paused before.copies.state)

-- A change of a page that isn't the actor's own, or is part of a large one, is refused and changes nothing; any other changes that page alone.
abbrev pub ChangesHost : ℕ → HostChange → Kept → Kept → Answer → Bool → Type 0
ChangesHost page change before after answer false = (answer ≡ Refused OutOfRange) × (after ≡ before)
ChangesHost page change before after answer true =
    ChangesUnlessHuge before.sizes page change before.changed after.changed answer (is_huge (host_of before.changed page)) × (after.slots ≡ before.slots)
    × (after.words ≡ before.words) × (after.dirty ≡ before.dirty) × (after.copies ≡ before.copies)

-- A line that sets a run is refused, and changes nothing, where the pages that it names aren't the actor's own; any other sets that run alone, if it may.
abbrev pub ChangesRun : ℕ → RunChange → Kept → Kept → Answer → Bool → Type 0
ChangesRun page change before after answer false = (answer ≡ Refused OutOfRange) × (after ≡ before)
ChangesRun page change before after answer true =
    SetsRun page change before.changed after.changed answer × (after.slots ≡ before.slots) × (after.words ≡ before.words) × (after.dirty ≡ before.dirty)
    × (after.copies ≡ before.copies)
