-- What arming a log does to flat memory, which ranges of a clear are whole words, and that nothing more is asked of a reading than it must tell.
use Rattle.std.specs.Prelude.{◌≡◌, ◌≢◌, ◌⊎◌, ◌↔◌, ◌≤◌, ◌+◌, ◌-◌, ◌%◌, ℕ, Bool, List, Some, true, false}
use Rattle.std.specs.List.Sorted.{IsStrictlyIncreasing}
use Rattle.core_views.specs.declared.actor.Actor.{Actor}
use Rattle.core_views.specs.declared.event.Event.{Event}
use Rattle.core_views.specs.declared.event.EventKind.TheVariants.{Armed, Harvested}
use Rattle.core_views.specs.declared.sizes.Sizes.{Sizes}
use Rattle.core_views.specs.declared.memory_slot.MemorySlot.{MemorySlot}
use Rattle.core_views.specs.declared.trace.Command.{Command}
use Rattle.core_views.specs.Slots.{contains}
use Rattle.core_views.specs.SlotSets.{slot_of_id}
use Rattle.core_views.specs.LogCommands.{asks_for, is_among, is_bad_range, log_read, takes_out}
use Rattle.core_views.specs.Past.{has_gfn}
use Rattle.core_views.specs.Flat.{Facts, HasTaken, HasTakenNext, first_flat}
use Rattle.core_views.specs.FlatHistory.{harvest}
use Rattle.core_views.specs.Events.{after_all, facts_after}
use Rattle.core_views.specs.Lawful.{IsAllowed}
use Rattle.flat_laws.specs.Writes.{NoneReadsOut, WasArmed, WasDue, WasWritten}

-- Writes to the slot with the ID are logged from now on, and those to others as before. Each of its frames is dirty, or none is; each other frame is as before.
pub record Arms (id : ℕ) (all : Bool) (f after : Facts) : Type 0 where
  pub armed : after.armed id ≡ true
  pub others : (other : ℕ) → other ≢ id → after.armed other ≡ f.armed other
  pub inside : (gfn : ℕ) → has_gfn (slot_of_id id f.slots) gfn ≡ true → after.pending gfn ≡ all
  pub outside : (gfn : ℕ) → has_gfn (slot_of_id id f.slots) gfn ≡ false → after.pending gfn ≡ f.pending gfn

abbrev pub ArmingArms : Type 0
ArmingArms = (id : ℕ) (all : Bool) (f : Facts) → Arms id all f (facts_after (Armed id all) f)

-- The pages begin with a word of the log, lie in the slot, and end with a word or with the slot.
pub record AreWholeWords (pages first count : ℕ) : Type 0 where
  pub begins : first % 64 ≡ 0
  pub inside : first + count ≤ pages
  pub ends : (count % 64 ≡ 0) ⊎ (first + count ≡ pages)

abbrev pub BadRangesAreTold : Type 0
BadRangesAreTold = (pages first count : ℕ) → (is_bad_range pages first count ≡ false) ↔ AreWholeWords pages first count

-- After this history the actor's line has begun to read the log of this slot. The frames rise, the line asks for each, each has a cause, and none that it
-- must not leave out is missing.
pub record MayHold (h : List Event) (command : Command) (id : ℕ) (slot : MemorySlot) (frames : List ℕ) : Type 0 where
  pub there : slot_of_id id (after_all h first_flat).facts.slots ≡ Some slot
  pub rising : IsStrictlyIncreasing frames
  pub asked : (gfn : ℕ) → is_among gfn frames ≡ true → (contains gfn slot.slot ≡ true) × (asks_for command (gfn - slot.slot.base) ≡ true)
  pub complete : (gfn : ℕ) → contains gfn slot.slot ≡ true → asks_for command (gfn - slot.slot.base) ≡ true → WasDue h gfn → is_among gfn frames ≡ true
  pub caused : (gfn : ℕ) → is_among gfn frames ≡ true → WasWritten (NoneReadsOut gfn) h gfn ⊎ WasArmed h gfn

-- Any such frames may be read.
abbrev pub SuchMayBeRead : Type 0
SuchMayBeRead =
    (z : Sizes) (h : List Event) (actor : Actor) (id : ℕ) (takes : Bool) (slot : MemorySlot) (frames : List ℕ)
    → ((after_all h first_flat).under actor).stage ≡ HasTaken id → log_read ((after_all h first_flat).under actor).line.command ≡ Some id
    → takes_out z.mode ((after_all h first_flat).under actor).line.command ≡ takes
    → MayHold h ((after_all h first_flat).under actor).line.command id slot frames
    → IsAllowed z (after_all h first_flat).facts (after_all h first_flat).past actor ((after_all h first_flat).under actor) (harvest takes id frames)

-- So may they by a line of a migration, which takes them out of the log.
abbrev pub SuchMayBeReadNext : Type 0
SuchMayBeReadNext =
    (z : Sizes) (h : List Event) (actor : Actor) (id : ℕ) (ids : List ℕ) (slot : MemorySlot) (frames : List ℕ)
    → ((after_all h first_flat).under actor).stage ≡ HasTakenNext id ids → MayHold h ((after_all h first_flat).under actor).line.command id slot frames
    → IsAllowed z (after_all h first_flat).facts (after_all h first_flat).past actor ((after_all h first_flat).under actor) (Harvested id frames)
