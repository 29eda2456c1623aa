-- What a reading of a dirty log tells, in words over the list of events before it (api.rst, KVM_GET_DIRTY_LOG, KVM_CLEAR_DIRTY_LOG).
use Rattle.std.specs.Prelude.{◌≡◌, ◌⊎◌, ◌-◌, ◌&&◌, ◌||◌, ℕ, Bool, List, [], ◌∷◌, ◌++◌, Some, not, true, false}
use Rattle.core_views.specs.declared.actor.Actor.{Actor}
use Rattle.core_views.specs.declared.event.Event.{Event}
use Rattle.core_views.specs.declared.event.EventKind.{EventKind}
use Rattle.core_views.specs.declared.event.EventKind.TheVariants.{Accessed, Armed, Harvested, Shown, SlotChanged, Taken}
use Rattle.core_views.specs.declared.sizes.Sizes.{Sizes}
use Rattle.core_views.specs.declared.memory_slot.MemorySlot.{MemorySlot}
use Rattle.core_views.specs.declared.trace.Op.{Op}
use Rattle.core_views.specs.Slots.{contains, is_write}
use Rattle.core_views.specs.SlotSets.{slot_of_id}
use Rattle.core_views.specs.Migrations.{is_migrating, is_stopped}
use Rattle.core_views.specs.LogCommands.{asks_for, is_among}
use Rattle.core_views.specs.Past.{has_gfn}
use Rattle.core_views.specs.Flat.{Facts, Flat, first_flat}
use Rattle.core_views.specs.FlatHistory.{harvest}
use Rattle.core_views.specs.Events.{after_all, facts_after, is_armed}
use Rattle.core_views.specs.Lawful.{IsLawful}
use Rattle.flat_laws.specs.Writes.{HasBegunWrite, NoneIsTaken, NoneReadsOut, WasArmed, WasWritten}

-- the event of this actor
abbrev pub made_by : Actor → EventKind → Event
made_by actor kind = record { actor = actor; kind = kind }

-- The slot with the ID has the guest frame, and the actor's line under way asks for it.
pub record IsAskedFor (f : Flat) (actor : Actor) (id gfn : ℕ) : Type 0 where
  pub slot : MemorySlot
  pub there : slot_of_id id f.facts.slots ≡ Some slot
  pub has : contains gfn slot.slot ≡ true
  pub asked : asks_for (f.under actor).line.command (gfn - slot.slot.base) ≡ true

-- After this history no actor has a line under way that writes the frame.
abbrev pub NobodyWrites : List Event → ℕ → Type 0
NobodyWrites history gfn = (other : Actor) → HasBegunWrite history other gfn → ⊥

-- After it the guest is stopped.
abbrev pub IsStoppedAfter : List Event → Type 0
IsStoppedAfter history = is_stopped (after_all history first_flat).facts.migration ≡ true

-- An actor begins to read the log of the slot with the ID, and no log begins to be read after that until it has read these frames, which it takes out of
-- the log (`takes`), or leaves there. It has read each frame for which it asks that was dirty as it began, unless a line was under way then that writes it,
-- and the guest wasn't stopped.
abbrev pub ReadingsAreComplete : Type 0
ReadingsAreComplete =
    (z : Sizes) (before between : List Event) (actor : Actor) (id : ℕ) (takes : Bool) (frames : List ℕ)
    → IsLawful z first_flat (before ++ (made_by actor (Taken id) ∷ (between ++ (made_by actor (harvest takes id frames) ∷ []))))
    → NoneIsTaken between → (gfn : ℕ) → (after_all before first_flat).facts.pending gfn ≡ true
    → NobodyWrites before gfn ⊎ IsStoppedAfter before
    → IsAskedFor (after_all (before ++ (made_by actor (Taken id) ∷ between)) first_flat) actor id gfn
    → is_among gfn frames ≡ true

-- Each frame that is read was written, by a line that was under way at some moment since that reading began which took the frame out of its log last; or each
-- page of its slot was dirty as its log began. And it is a frame of the slot, for which the line asks.
abbrev pub ReadingsAreCaused : Type 0
ReadingsAreCaused =
    (z : Sizes) (before : List Event) (actor : Actor) (id : ℕ) (takes : Bool) (frames : List ℕ)
    → IsLawful z first_flat (before ++ (made_by actor (harvest takes id frames) ∷ [])) → (gfn : ℕ) → is_among gfn frames ≡ true
    → (WasWritten (NoneReadsOut gfn) before gfn ⊎ WasArmed before gfn) × IsAskedFor (after_all before first_flat) actor id gfn

-- The event, with these facts before it, makes the frame clean: it takes the frame out of a log, changes a slot that has it before or after, or begins the log
-- of a slot that has it, with no page dirty.
abbrev pub MakesClean : ℕ → Facts → EventKind → Type 0
MakesClean gfn f (Harvested id frames) = is_among gfn frames ≡ true
MakesClean gfn f (SlotChanged id slot) = (has_gfn (slot_of_id id f.slots) gfn || has_gfn slot gfn) ≡ true
MakesClean gfn f (Armed id all) = (has_gfn (slot_of_id id f.slots) gfn ≡ true) × (all ≡ false)
MakesClean _ _ _ = ⊥

-- A frame that an event makes clean is not dirty after it.
abbrev pub CleanIsNotDirty : Type 0
CleanIsNotDirty = (gfn : ℕ) (f : Facts) (kind : EventKind) → MakesClean gfn f kind → (facts_after kind f).pending gfn ≡ false

-- One of these events makes the frame clean, where the facts before them are those after this history.
pub record IsMadeClean (history since : List Event) (gfn : ℕ) : Type 0 where
  pub before : List Event
  pub event : Event
  pub rest : List Event
  pub since_is : since ≡ before ++ (event ∷ rest)
  pub cleans : MakesClean gfn (after_all (history ++ before) first_flat).facts event.kind

-- In any history, lawful or not: a frame that an access writes while the writes of its slot are logged is dirty from then on, until an event makes it clean.
abbrev pub WrittenStaysDirty : Type 0
WrittenStaysDirty =
    (before since : List Event) (actor : Actor) (gfn word : ℕ) (op : Op) (frame value : ℕ)
    → is_write op ≡ true → is_armed (after_all before first_flat).facts.slots (after_all before first_flat).facts.armed gfn ≡ true
    → ((after_all (before ++ (made_by actor (Accessed gfn word op frame value) ∷ since)) first_flat).facts.pending gfn ≡ true)
    ⊎ IsMadeClean (before ++ (made_by actor (Accessed gfn word op frame value) ∷ [])) since gfn

-- After every lawful history each dirty frame is in a slot whose writes are logged.
abbrev pub PendingIsArmed : Type 0
PendingIsArmed =
    (z : Sizes) (history : List Event) → IsLawful z first_flat history → (gfn : ℕ) → (after_all history first_flat).facts.pending gfn ≡ true
    → is_armed (after_all history first_flat).facts.slots (after_all history first_flat).facts.armed gfn ≡ true

-- A reading that leaves the frames in the log changes no fact.
abbrev pub ShownTakesNothing : Type 0
ShownTakesNothing = (id : ℕ) (frames : List ℕ) (f : Facts) → facts_after (Shown id frames) f ≡ f

-- One that takes them out makes them clean, and each other frame stays as it was; they are to be copied where a migration goes on; and all other facts stay.
abbrev pub HarvestedTakesItsFrames : Type 0
HarvestedTakesItsFrames =
    (id : ℕ) (frames : List ℕ) (f : Facts)
    → (facts_after (Harvested id frames) f
    ≡ record f { pending = (facts_after (Harvested id frames) f).pending; to_copy = (facts_after (Harvested id frames) f).to_copy })
    × ((gfn : ℕ) → (facts_after (Harvested id frames) f).to_copy gfn ≡ ((is_migrating f.migration && is_among gfn frames) || f.to_copy gfn))
    × ((gfn : ℕ) → (facts_after (Harvested id frames) f).pending gfn ≡ (not (is_among gfn frames) && f.pending gfn))
