-- What the flat state keeps of the past, in words over the list of events and over the lines under way: which writes are under way, and which frames
-- were written.
use Rattle.std.specs.Prelude.{◌≡◌, ◌≢◌, ◌↔◌, ◌⊎◌, ℕ, List, [], ◌∷◌, ◌++◌, Contains, Option, Some, None, true, false}
use Rattle.core_views.specs.declared.actor.Actor.{Actor}
use Rattle.core_views.specs.declared.event.Event.{Event}
use Rattle.core_views.specs.declared.event.EventKind.{EventKind}
use Rattle.core_views.specs.declared.event.EventKind.TheVariants.{Armed, Begun, Harvested, SlotChanged, Taken}
use Rattle.core_views.specs.declared.sizes.Sizes.{Sizes}
use Rattle.core_views.specs.declared.memory_slot.MemorySlot.{MemorySlot}
use Rattle.core_views.specs.declared.trace.Line.{Line}
use Rattle.core_views.specs.Migrations.{is_stopped}
use Rattle.core_views.specs.Slots.{contains}
use Rattle.core_views.specs.SlotSets.{slot_of_id}
use Rattle.core_views.specs.LogCommands.{is_among}
use Rattle.core_views.specs.Past.{has_gfn, written_frame}
use Rattle.core_views.specs.Flat.{Facts, LineUnderWay, Idle, first_flat}
use Rattle.core_views.specs.Events.{after_all, facts_after}
use Rattle.core_views.specs.Lawful.{IsLawful}
use Rattle.core_views.specs.Alone.{IsInside}

-- None of the events begins a line of the actor, or answers one.
abbrev pub StaysWithin : Actor → List Event → Type 0
StaysWithin actor [] = Unit {0}
StaysWithin actor (e ∷ es) = (e.actor ≡ actor → IsInside e.kind) × StaysWithin actor es

-- In this history the actor has begun a line that writes the frame, and since then it has neither answered it nor begun another one.
pub record HasBegunWrite (history : List Event) (actor : Actor) (gfn : ℕ) : Type 0 where
  pub before : List Event
  pub line : Line
  pub since : List Event
  pub history_is : history ≡ before ++ (record { actor = actor; kind = Begun line } ∷ since)
  pub writes : written_frame line.command ≡ Some gfn
  pub within : StaysWithin actor since

-- After every history, lawful or not, the writes under way are just those.
abbrev pub WritesAreBegun : Type 0
WritesAreBegun =
    (history : List Event) (actor : Actor) (gfn : ℕ)
    → Contains (after_all history first_flat).past.writes (actor, gfn) ↔ HasBegunWrite history actor gfn

-- The line is under way, and writes the frame.
abbrev pub IsWriting : LineUnderWay → ℕ → Type 0
IsWriting u gfn = (u.stage ≢ Idle) × (written_frame u.line.command ≡ Some gfn)

-- After every lawful history an actor and a guest frame stand among the writes exactly while the actor has a line under way that writes the frame.
abbrev pub WritesAreUnderWay : Type 0
WritesAreUnderWay =
    (z : Sizes) (history : List Event) → IsLawful z first_flat history → (actor : Actor) (gfn : ℕ)
    → Contains (after_all history first_flat).past.writes (actor, gfn) ↔ IsWriting ((after_all history first_flat).under actor) gfn

-- There is no slot, or the slot doesn't contain the frame.
abbrev pub IsOutside : ℕ → Option MemorySlot → Type 0
IsOutside gfn None = Unit {0}
IsOutside gfn (Some slot) = contains gfn slot.slot ≡ false

-- The event, with these facts before it, changes no slot that contains the frame before or after it.
abbrev pub KeepsSlot : ℕ → Facts → EventKind → Type 0
KeepsSlot gfn f (SlotChanged id slot) = IsOutside gfn (slot_of_id id f.slots) × IsOutside gfn slot
KeepsSlot _ _ _ = Unit {0}

-- None of the events does, where the facts before them are these.
abbrev pub SlotKept : ℕ → Facts → List Event → Type 0
SlotKept gfn f [] = Unit {0}
SlotKept gfn f (e ∷ es) = KeepsSlot gfn f e.kind × SlotKept gfn (facts_after e.kind f) es

-- No log begins to be read in these events.
abbrev pub IsNoTaking : EventKind → Type 0
IsNoTaking (Taken id) = ⊥
IsNoTaking _ = Unit {0}

abbrev pub NoneIsTaken : List Event → Type 0
NoneIsTaken [] = Unit {0}
NoneIsTaken (e ∷ es) = IsNoTaking e.kind × NoneIsTaken es

-- None of the events takes the frame out of a log.
abbrev pub LeavesFrame : ℕ → EventKind → Type 0
LeavesFrame gfn (Harvested id frames) = is_among gfn frames ≡ false
LeavesFrame _ _ = Unit {0}

abbrev pub NoneTakesOut : ℕ → List Event → Type 0
NoneTakesOut gfn [] = Unit {0}
NoneTakesOut gfn (e ∷ es) = LeavesFrame gfn e.kind × NoneTakesOut gfn es

-- No reading that begins in these events takes it out: from the first begin of one on, nothing does.
abbrev pub LeavesFrom : ℕ → EventKind → List Event → Type 0 → Type 0
LeavesFrom gfn (Taken id) es before = NoneTakesOut gfn es
LeavesFrom _ _ _ before = before

abbrev pub NoneReadsOut : ℕ → List Event → Type 0
NoneReadsOut gfn [] = Unit {0}
NoneReadsOut gfn (e ∷ es) = LeavesFrom gfn e.kind es (NoneReadsOut gfn es)

-- At some moment of the history a line that writes the frame was under way, the frame's slot was not changed since, and the events since are such.
pub record WasWritten (Since : List Event → Type 0) (history : List Event) (gfn : ℕ) : Type 0 where
  pub before : List Event
  pub since : List Event
  pub history_is : history ≡ before ++ since
  pub actor : Actor
  pub begun : HasBegunWrite before actor gfn
  pub kept : SlotKept gfn (after_all before first_flat).facts since
  pub are_such : Since since

-- Each page of the slot that had the frame was dirty as its log began; the slot was not changed since, and the frame not taken out of the log.
pub record WasArmed (history : List Event) (gfn : ℕ) : Type 0 where
  pub before : List Event
  pub actor : Actor
  pub id : ℕ
  pub since : List Event
  pub history_is : history ≡ before ++ (record { actor = actor; kind = Armed id true } ∷ since)
  pub there : has_gfn (slot_of_id id (after_all before first_flat).facts.slots) gfn ≡ true
  pub kept : SlotKept gfn (facts_after (Armed id true) (after_all before first_flat).facts) since
  pub left : NoneTakesOut gfn since

-- After every history, lawful or not, those are the frames that were written lately, and the ones that have a cause to stand in a log.
abbrev pub WritesAreRecorded : Type 0
WritesAreRecorded =
    (history : List Event) (gfn : ℕ)
    → (((after_all history first_flat).past.recent gfn ≡ true) ↔ WasWritten NoneIsTaken history gfn)
    × (((after_all history first_flat).past.causes gfn ≡ true) ↔ (WasWritten (NoneReadsOut gfn) history gfn ⊎ WasArmed history gfn))

-- As a log last began to be read the frame was dirty, and no actor had a line under way that writes it, unless the guest was stopped.
pub record WasDue (history : List Event) (gfn : ℕ) : Type 0 where
  pub before : List Event
  pub actor : Actor
  pub id : ℕ
  pub since : List Event
  pub history_is : history ≡ before ++ (record { actor = actor; kind = Taken id } ∷ since)
  pub dirty : (after_all before first_flat).facts.pending gfn ≡ true
  pub unwritten : is_stopped (after_all before first_flat).facts.migration ≡ false → (other : Actor) → HasBegunWrite before other gfn → ⊥
  pub last : NoneIsTaken since

-- After every history, lawful or not, those are the frames that a reading must not leave out.
abbrev pub DueFramesAreKept : Type 0
DueFramesAreKept = (history : List Event) (gfn : ℕ) → ((after_all history first_flat).past.due gfn ≡ true) ↔ WasDue history gfn
