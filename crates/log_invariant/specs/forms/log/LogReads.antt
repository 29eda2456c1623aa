-- A line that takes pages out of the dirty log of a slot (api.rst, KVM_GET_DIRTY_LOG, KVM_CLEAR_DIRTY_LOG; kvm_main.c, kvm_get_dirty_log_protect): which it has
-- taken, from their words on up to its answer; and how far it has come as it forbids writes to their guest frames.
use Rattle.std.specs.Prelude.{◌≡◌, ◌<◌, ◌≤◌, ◌-◌, ℕ, Bool, List, Option, Some, None, true, false}
use Rattle.core_views.specs.declared.place.LogPlace.{LogPlace}
use Rattle.core_views.specs.declared.place.LogPlace.TheVariants.{Take, Root, Walk, Protect, Release, Ask, Await}
use Rattle.core_views.specs.declared.place.Place.{Place}
use Rattle.core_views.specs.declared.topics.Flush.{Flush}
use Rattle.core_views.specs.declared.trace.Command.{Command}
use Rattle.core_views.specs.declared.trace.Slot.{Slot as SlotOf}
use Rattle.core_views.specs.Held.{Held}
use Rattle.core_views.specs.LogCommands.{count_asked, has_bit}
use Rattle.part_steps.specs.StayTopics.{no_flush}
use Rattle.mmu_core.specs.forms.log.LogSteps.{frame_asked, slot_asked}
use Rattle.mmu_core.specs.forms.log.Readings.{Reading, own_reading, reading_at}
use Rattle.log_invariant.specs.Forbidding.{PassedTo, Forbidding, HowFar, PassedAll, no_forbidding}

-- The guest frame is one that these words say: its bit is set, where bit 0 of the first word is of the first page for which the reading asks.
pub record IsRead (slot : SlotOf) (command : Command) (words : List ℕ) (gfn : ℕ) : Type 0 where
  pub from : frame_asked slot command 0 ≤ gfn
  pub below : gfn < frame_asked slot command (count_asked command slot)
  pub bit : has_bit words (gfn - frame_asked slot command 0) ≡ true

-- The reading has begun to take pages out, and isn't over.
abbrev pub has_taken : LogPlace → Bool
has_taken (Take begun) = begun
has_taken Root = true
has_taken (Walk page) = true
has_taken (Protect page) = true
has_taken Release = true
has_taken Ask = true
has_taken Await = true
has_taken _ = false

-- how far it has come with their leaves: it goes on from the page to whose leaf it walks
abbrev pub read_so_far : LogPlace → SlotOf → Command → Flush → HowFar
read_so_far (Walk page) slot command flush = PassedTo (frame_asked slot command page)
read_so_far (Protect page) slot command flush = PassedTo (frame_asked slot command page)
read_so_far Release slot command flush = PassedAll no_flush
read_so_far Ask slot command flush = PassedAll flush
read_so_far Await slot command flush = PassedAll flush
read_so_far _ slot command flush = PassedTo 0

-- the guest frames whose pages a reading has taken, with a command, of the hand's words; and how far it has come
abbrev pub taken_by : LogPlace → Command → Held → Forbidding
taken_by p command h = record {
  Has = λ gfn. (has_taken p ≡ true) × IsRead (slot_asked h command) command h.harvest gfn;
  how_far = read_so_far p (slot_asked h command) command h.topics.flush;
}

abbrev pub taken_of : Option Reading → Held → Forbidding
taken_of None h = no_forbidding
taken_of (Some r) h = taken_by r.place r.command h

-- those of the reading that is under way
abbrev pub taken_at : Place → Command → Held → Forbidding
taken_at p command h = taken_of (reading_at p command h) h

-- those of the reading that the hand's line has under way
abbrev pub taken_out : Held → Forbidding
taken_out h = taken_of (own_reading h) h

-- It has taken the page of the guest frame.
abbrev pub HasTakenOut : Held → ℕ → Type 0
HasTakenOut h gfn = (taken_out h).Has gfn
