-- What a slot line has done that is told done: in words over the events between its begin and its answer.
use Rattle.std.specs.Prelude.{◌≡◌, ◌≢◌, ◌⊎◌, ℕ, List, [], ◌∷◌, ◌++◌, Option, Some, None, true}
use Rattle.core_views.specs.declared.actor.Actor.{Actor}
use Rattle.core_views.specs.declared.answer.Answer.TheVariants.{Done}
use Rattle.core_views.specs.declared.event.Event.{Event}
use Rattle.core_views.specs.declared.event.EventKind.{EventKind}
use Rattle.core_views.specs.declared.event.EventKind.TheVariants.{Answered, Begun, SlotChanged}
use Rattle.core_views.specs.declared.sizes.Sizes.{Sizes}
use Rattle.core_views.specs.declared.memory_slot.MemorySlot.{MemorySlot}
use Rattle.core_views.specs.declared.trace.Line.{Line}
use Rattle.core_views.specs.Events.{after, after_all}
use Rattle.core_views.specs.Flat.{Flat, first_flat}
use Rattle.core_views.specs.Lawful.{IsLawful}
use Rattle.core_views.specs.SlotCommands.{change_at_once, changes_slot, slot_change}
use Rattle.flat_laws.specs.Writes.{StaysWithin}

-- the line's event of this kind
abbrev pub by : Line → EventKind → Event
by line kind = record { actor = line.actor; kind = kind }

-- The event is no change of a slot by this actor.
abbrev pub LeavesSlots : Actor → Actor → EventKind → Type 0
LeavesSlots own actor (SlotChanged id slot) = actor ≢ own
LeavesSlots _ _ _ = Unit {0}

-- None of the events is.
abbrev pub NoneChanges : Actor → List Event → Type 0
NoneChanges own [] = Unit {0}
NoneChanges own (e ∷ es) = LeavesSlots own e.actor e.kind × NoneChanges own es

-- Of these events, which come after this state, just one is a change of a slot by the line's actor; and it is the one for which the line asks, of the slots
-- right before it.
pub record ChangesOnce (line : Line) (f : Flat) (events : List Event) : Type 0 where
  pub early : List Event
  pub late : List Event
  pub id : ℕ
  pub slot : Option MemorySlot
  pub events_are : events ≡ early ++ (by line (SlotChanged id slot) ∷ late)
  pub asked : slot_change (after_all early f).facts.slots line.command ≡ Some (id, slot)
  pub none_early : NoneChanges line.actor early
  pub none_late : NoneChanges line.actor late

-- None is, and the line has nothing to do with the slots after them: what it asks for is so.
pub record HasNothingToDo (z : Sizes) (line : Line) (f : Flat) (events : List Event) : Type 0 where
  pub none : NoneChanges line.actor events
  pub done : change_at_once z line.command (after_all events f).facts.slots ≡ Some None

-- the state in which the line begins after this history
abbrev pub begins_after : Line → List Event → Flat
begins_after line history = after (by line (Begun line)) (after_all history first_flat)

-- In a lawful history: between its begin and its answer, done, a slot line has changed its slot once, or it has nothing to do.
abbrev pub DoneComesOfOneChange : Type 0
DoneComesOfOneChange =
    (z : Sizes) (before between : List Event) (line : Line) → changes_slot line.command ≡ true
    → IsLawful z first_flat (before ++ (by line (Begun line) ∷ (between ++ (by line (Answered line.number Done) ∷ []))))
    → StaysWithin line.actor between
    → ChangesOnce line (begins_after line before) between ⊎ HasNothingToDo z line (begins_after line before) between
