-- A line that begins the dirty log of a slot (tdp_mmu.c, kvm_tdp_mmu_wrprot_slot): up to when others may not know of the log yet, and how far it has come as it
-- forbids writes to the slot's guest frames.
use Rattle.std.specs.Prelude.{◌≡◌, ◌≤◌, ◌<◌, ℕ, Bool, true, false, Some}
use Rattle.core_views.specs.declared.place.FrameRange.{FrameRange}
use Rattle.core_views.specs.declared.place.Place.{Place}
use Rattle.core_views.specs.declared.place.Place.TheVariants as place
use Rattle.core_views.specs.declared.place.SlotChangePlace.{SlotChangePlace}
use Rattle.core_views.specs.declared.place.SlotChangePlace.TheVariants as change
use Rattle.core_views.specs.declared.place.WriteProtectPlace.{WriteProtectPlace}
use Rattle.core_views.specs.declared.place.WriteProtectPlace.TheVariants as protect
use Rattle.core_views.specs.declared.topics.Topics.{Topics}
use Rattle.core_views.specs.declared.trace.Command.{Command}
use Rattle.core_views.specs.declared.trace.Slot.{Slot as SlotOf}
use Rattle.core_views.specs.Held.{Held}
use Rattle.core_views.specs.LogCommands.{is_all_set}
use Rattle.core_views.specs.SlotCommands.{slot_armed}
use Rattle.core_views.specs.Slots.{contains}
use Rattle.part_steps.specs.StayTopics.{no_flush}
use Rattle.part_steps.specs.SweepTopics.{swept_to}
use Rattle.log_invariant.specs.Forbidding.{PassedTo, Forbidding, HowFar, PassedAll, no_forbidding}

-- ---- others may not know of the log

-- The new slot set is published, and the watch of the others isn't over.
abbrev pub is_unwatched : SlotChangePlace → Bool
is_unwatched change.Release = true
is_unwatched (change.End p) = true
is_unwatched change.Watch = true
is_unwatched _ = false

-- The line stands there, and begins the log of a slot with the guest frame.
abbrev pub LogIsUnwatchedAt : Place → Command → Held → ℕ → Type 0
LogIsUnwatchedAt (place.SlotChange p) command h gfn =
    (is_unwatched p ≡ true) × (slot : SlotOf) × (slot_armed h.slots command ≡ Some slot) × (contains gfn slot ≡ true)
LogIsUnwatchedAt _ command h gfn = ⊥

abbrev pub LogIsUnwatched : Held → ℕ → Type 0
LogIsUnwatched h gfn = LogIsUnwatchedAt h.state.place h.state.line.command h gfn

-- No page is to be dirty as the log begins.
abbrev pub BeginsClean : Held → Type 0
BeginsClean h = is_all_set h.state.sizes.mode ≡ false

-- ---- the line forbids writes

-- how far its sweep over these frames has come, and whose flush it has then
abbrev pub swept_so_far : WriteProtectPlace → FrameRange → Topics → HowFar
swept_so_far protect.Exclude range t = PassedTo 0
swept_so_far (protect.Walk false) range t = PassedTo 0
swept_so_far (protect.Walk true) range t = PassedTo (swept_to false range.start t.walk)
swept_so_far protect.Protect range t = PassedTo (swept_to false range.start t.walk)
swept_so_far protect.Release range t = PassedAll no_flush
swept_so_far protect.Ask range t = PassedAll t.flush
swept_so_far protect.Await range t = PassedAll t.flush

abbrev pub IsAmong : FrameRange → ℕ → Type 0
IsAmong range gfn = (range.start ≤ gfn) × (gfn < range.end)

-- the guest frames of the log that begins with the line at this place, and how far it has come
abbrev pub begun_at : Place → Topics → Forbidding
begun_at (place.SlotChange (change.WriteProtect range p)) t = record { Has = IsAmong range; how_far = swept_so_far p range t }
begun_at _ t = no_forbidding
