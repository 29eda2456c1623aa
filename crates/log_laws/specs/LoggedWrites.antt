-- Where one actor alone manages the guest, as the manager does: what is written while writes of its slot are logged stays dirty until a reading takes it out,
-- or the logging of its slot ends.
use Rattle.std.specs.Prelude.{◌≡◌, ◌⊎◌, ◌||◌, ℕ, Bool, List, [], ◌∷◌, ◌++◌, Option, Some, false, true}
use Rattle.core_views.specs.declared.actor.Actor.{Actor}
use Rattle.core_views.specs.declared.event.Event.{Event}
use Rattle.core_views.specs.declared.event.EventKind.TheVariants.{Accessed, Armed, Harvested, SlotChanged}
use Rattle.core_views.specs.declared.memory_slot.MemorySlot.{MemorySlot}
use Rattle.core_views.specs.declared.sizes.Sizes.{Sizes}
use Rattle.core_views.specs.declared.trace.Command.TheVariants.{SetLog}
use Rattle.core_views.specs.declared.trace.Op.{Op}
use Rattle.core_views.specs.Events.{after_all, is_armed}
use Rattle.core_views.specs.Flat.{first_flat}
use Rattle.core_views.specs.Lawful.{IsLawful}
use Rattle.core_views.specs.LogCommands.{is_among}
use Rattle.core_views.specs.Past.{has_gfn}
use Rattle.core_views.specs.Slots.{contains, is_write}
use Rattle.core_views.specs.SlotSets.{slot_of_id}
use Rattle.flat_laws.specs.Images.{OnlyManages}
use Rattle.log_laws.specs.HarvestLaws.{made_by}

-- One of these events takes the frame out of a log: a reading has it.
pub record IsTakenOut (since : List Event) (gfn : ℕ) : Type 0 where
  pub before : List Event
  pub actor : Actor
  pub id : ℕ
  pub frames : List ℕ
  pub rest : List Event
  pub since_is : since ≡ before ++ (made_by actor (Harvested id frames) ∷ rest)
  pub has : is_among gfn frames ≡ true

-- With one of these events, the facts before them being those after this history, the logging of the frame's slot ends: a line takes the slot's dirty log away,
-- and leaves the rest of the slot as it is.
pub record IsLogEnded (history since : List Event) (gfn : ℕ) : Type 0 where
  pub before : List Event
  pub actor : Actor
  pub id : ℕ
  pub slot : MemorySlot
  pub rest : List Event
  pub since_is : since ≡ before ++ (made_by actor (SlotChanged id (Some (record slot { logged = false }))) ∷ rest)
  pub off : ((after_all (history ++ before) first_flat).under actor).line.command ≡ SetLog id false
  pub there : slot_of_id id (after_all (history ++ before) first_flat).facts.slots ≡ Some slot
  pub has : contains gfn slot.slot ≡ true

-- In such a history a frame that an access writes while the writes of its slot are logged is dirty from then on, unless a reading takes it out, or the logging
-- of its slot ends. No other change of a slot makes it clean, and no log that begins.
abbrev pub LoggedWritesAreKept : Type 0
LoggedWritesAreKept =
    (z : Sizes) (before since : List Event) (migrator actor : Actor) (gfn word : ℕ) (op : Op) (frame value : ℕ)
    → IsLawful z first_flat (before ++ (made_by actor (Accessed gfn word op frame value) ∷ since))
    → OnlyManages migrator (before ++ (made_by actor (Accessed gfn word op frame value) ∷ since))
    → is_write op ≡ true → is_armed (after_all before first_flat).facts.slots (after_all before first_flat).facts.armed gfn ≡ true
    → ((after_all (before ++ (made_by actor (Accessed gfn word op frame value) ∷ since)) first_flat).facts.pending gfn ≡ true)
    ⊎ (IsTakenOut since gfn ⊎ IsLogEnded (before ++ (made_by actor (Accessed gfn word op frame value) ∷ [])) since gfn)

-- While the writes of a frame's slot are logged, a line that changes a slot which has the frame, before or after, takes this slot's dirty log away.
abbrev pub LoggedSlotsStand : Type 0
LoggedSlotsStand =
    (z : Sizes) (before : List Event) (migrator actor : Actor) (id : ℕ) (slot : Option MemorySlot) (gfn : ℕ)
    → IsLawful z first_flat (before ++ (made_by actor (SlotChanged id slot) ∷ [])) → OnlyManages migrator before
    → is_armed (after_all before first_flat).facts.slots (after_all before first_flat).facts.armed gfn ≡ true
    → (has_gfn (slot_of_id id (after_all before first_flat).facts.slots) gfn || has_gfn slot gfn) ≡ true
    → ((after_all before first_flat).under actor).line.command ≡ SetLog id false

-- The log of a slot begins only where its writes aren't logged.
abbrev pub LogsBeginOnce : Type 0
LogsBeginOnce =
    (z : Sizes) (before : List Event) (migrator actor : Actor) (id : ℕ) (all : Bool)
    → IsLawful z first_flat (before ++ (made_by actor (Armed id all) ∷ [])) → OnlyManages migrator before
    → (after_all before first_flat).facts.armed id ≡ false
