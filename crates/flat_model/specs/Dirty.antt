-- The dirty frames as the interpreter keeps them, and what a line makes of them.
use Rattle.std.specs.Prelude.{◌+◌, ◌&&◌, ◌||◌, ℕ, List, Bool, not, Option, Some, if◌then◌else◌, nat_lt}
use Rattle.std.specs.List.{list_any}
use Rattle.std.specs.Ordering.{nat_cmp}
use Rattle.std.specs.BTreeMap.{is_at}
use Rattle.core_views.specs.declared.sizes.LogMode.{LogMode}
use Rattle.core_views.specs.declared.memory_slot.MemorySlot.{MemorySlot}
use Rattle.core_views.specs.declared.trace.Command.{Command}
use Rattle.core_views.specs.Events.{is_armed, unlogged}
use Rattle.core_views.specs.LogCommands.{asked_frames, count_asked, first_asked, is_all_set, is_among, number_of}
use Rattle.core_views.specs.Past.{FrameSet, has_gfn}
use Rattle.core_views.specs.Refusals.{is_logged}
use Rattle.core_views.specs.SlotCommands.{arms}
use Rattle.core_views.specs.SlotSets.{MemorySlots}

-- The guest frame is one of these, which stand by rising number.
abbrev pub is_dirty : List ℕ → FrameSet
is_dirty frames gfn = list_any (is_at (nat_cmp gfn)) frames

-- Writes to the guest frame are logged: its slot has a dirty log.
abbrev pub is_frame_logged : MemorySlots → ℕ → Bool
is_frame_logged slots gfn = is_armed slots (λ id. is_logged id slots) gfn

-- The line gives a slot a dirty log, in which each page is dirty.
abbrev pub sets_all : LogMode → Command → Bool
sets_all mode command = arms command && is_all_set mode

-- the dirty frames, with all of the slot
abbrev pub with_slot_dirty : Option MemorySlot → FrameSet → FrameSet
with_slot_dirty slot pending = λ gfn. has_gfn slot gfn || pending gfn

-- the dirty frames after a line has changed the slot at an ID: those of the slot that was there and of the one that is there now are clean, or dirty where
-- the line sets them all
abbrev pub dirty_by : Bool → Option MemorySlot → Option MemorySlot → FrameSet → FrameSet
dirty_by all was slot pending = λ gfn. if all then with_slot_dirty slot pending gfn else unlogged was slot pending gfn

abbrev pub dirty_after : LogMode → Command → Option MemorySlot → Option MemorySlot → FrameSet → FrameSet
dirty_after mode command was slot pending = dirty_by (sets_all mode command) was slot pending

-- the dirty frames without these, or with them all, where a line that reads them doesn't take them out
abbrev pub left_dirty : Bool → List ℕ → FrameSet → FrameSet
left_dirty out frames pending = λ gfn. if out then not (is_among gfn frames) && pending gfn else pending gfn

-- The bit at this place of what is read of a slot's log, which has these dirty frames.
abbrev pub is_bit_set : FrameSet → Command → MemorySlot → ℕ → Bool
is_bit_set pending command slot bit =
    nat_lt bit (count_asked command slot.slot) && is_among (slot.slot.base + (first_asked command + bit)) (asked_frames pending command (Some slot))

-- a word of a log, with these bits, bit 0 first
unfoldable pub word_of : (ℕ → Bool) → ℕ
word_of bits = number_of 64 bits
