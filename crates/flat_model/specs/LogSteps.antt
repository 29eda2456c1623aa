-- What a line promises that reads a dirty log.
use Rattle.std.specs.Prelude.{◌≡◌, ℕ, Option, Some, None}
use Rattle.core_views.specs.declared.answer.Answer.{Answer}
use Rattle.core_views.specs.declared.answer.Answer.TheVariants.{Bits, Refused}
use Rattle.core_views.specs.declared.answer.Refusal.{Refusal}
use Rattle.core_views.specs.declared.memory_slot.MemorySlot.{MemorySlot}
use Rattle.core_views.specs.declared.trace.Command.{Command}
use Rattle.core_views.specs.LogCommands.{asked_frames, bits_for, takes_out}
use Rattle.core_views.specs.Lawful.{slot_read}
use Rattle.flat_model.specs.Dirty.{is_dirty, left_dirty}
use Rattle.flat_model.specs.Kept.{Kept}

-- The line is answered with the dirty frames of the slot for which it asks, and takes them out or doesn't; nothing else changes.
abbrev pub ReadsSlot : Command → Kept → Kept → Answer → Option MemorySlot → Type 0
ReadsSlot command before after answer slot =
    (answer ≡ Bits (bits_for command slot (asked_frames (is_dirty before.dirty) command slot)))
    × (after.slots ≡ before.slots) × (after.changed ≡ before.changed) × (after.words ≡ before.words) × (after.copies ≡ before.copies)
    × ((gfn : ℕ) → is_dirty after.dirty gfn
    ≡ left_dirty (takes_out before.sizes.mode command) (asked_frames (is_dirty before.dirty) command slot) (is_dirty before.dirty) gfn)

-- A line that may not read the log is refused, and changes nothing; any other reads it.
abbrev pub ReadsLog : Command → Kept → Kept → Answer → Option Refusal → Type 0
ReadsLog command before after answer (Some refusal) = (answer ≡ Refused refusal) × (after ≡ before)
ReadsLog command before after answer None = ReadsSlot command before after answer (slot_read before.slots command)
