-- What a line knows of the words at each place, while all other actors rest: so it never waits and never begins anew.
use Rattle.std.specs.Prelude.{◌≡◌, ◌<◌, ℕ, Bool, true, false, Option, Some}
use Rattle.core_views.specs.declared.place.AccessPlace.{AccessPlace}
use Rattle.core_views.specs.declared.place.AccessPlace.TheVariants.{Enter, Pause, Root, Walk, Fault}
use Rattle.core_views.specs.declared.place.HostPlace.{HostPlace}
use Rattle.core_views.specs.declared.place.HostPlace.TheVariants as host
use Rattle.core_views.specs.declared.place.Place.{Place}
use Rattle.core_views.specs.declared.place.Place.TheVariants as place
use Rattle.core_views.specs.declared.topics.OwnedFrame.{OwnedFrame}
use Rattle.core_views.specs.declared.topics.Topics.{Topics}
use Rattle.core_views.specs.declared.trace.Command.{Command}
use Rattle.core_views.specs.declared.trace.Command.TheVariants.{Access}
use Rattle.core_views.specs.Slots.{is_write}
use Rattle.spte_words.specs.declared.area.Area.{Area}
use Rattle.spte_words.specs.declared.area.Area.TheVariants as area
use Rattle.mmu_core.specs.alone.FaultAlone.{FaultAlone, LeadsToLeaf}
use Rattle.mmu_core.specs.alone.SeenStands.{SeenStands}
use Rattle.mmu_core.specs.invariant.PoolPart.{is_free}
use Rattle.mmu_core.specs.lines.ScanPlaces.{HasScan}
use Rattle.part_steps.specs.PartTasks.{table_page}

-- In a stay after a fault that has installed an entry, links lead from the root to a leaf that allows the access.
abbrev pub StayAlone : Bool → ℕ → (ℕ → ℕ) → ℕ → Bool → Type 0
StayAlone again root pool gfn write = again ≡ true → LeadsToLeaf pool 4 root gfn write

abbrev pub AccessAlone : AccessPlace → ℕ → ℕ → (ℕ → ℕ) → (ℕ → ℕ) → ℕ → Bool → Topics → Type 0
AccessAlone (Enter again) root set pool host gfn write t = StayAlone again root pool gfn write
AccessAlone (Pause again) root set pool host gfn write t = StayAlone again root pool gfn write
AccessAlone (Root again) root set pool host gfn write t = StayAlone again root pool gfn write
AccessAlone (Walk again) root set pool host gfn write t = again ≡ true → LeadsToLeaf pool t.walk.level (table_page t.walk) gfn write
AccessAlone (Fault p) root set pool host gfn write t = FaultAlone p root set pool host gfn write t
AccessAlone _ root set pool host gfn write t = Unit {0}

-- Each frame below the one that is owned is taken.
abbrev pub OwnsLowest : (ℕ → ℕ) → Option OwnedFrame → Type 0
OwnsLowest map owned = (o : OwnedFrame) → owned ≡ Some o → (frame : ℕ) → frame < o.frame → is_free map frame ≡ false

-- A line that moves its page owns the lowest free frame, up to its exchange.
abbrev pub HostAlone : HostPlace → (ℕ → ℕ) → Topics → Type 0
HostAlone (host.Begin p) map t = OwnsLowest map t.frames.owned
HostAlone host.Copy map t = OwnsLowest map t.frames.owned
HostAlone host.Store map t = OwnsLowest map t.frames.owned
HostAlone host.Change map t = OwnsLowest map t.frames.owned
HostAlone _ map t = Unit {0}

-- What a line of one form knows that no other does: an access, of the tables; one that changes a host page, of the frames.
abbrev pub FormAlone : Place → Command → (Area → ℕ → ℕ) → Topics → Type 0
FormAlone (place.Access p) (Access gfn word op) words t =
    AccessAlone p (words area.Root 0) (words area.Slots 0) (words area.Pool) (words area.Host) gfn (is_write op) t
FormAlone (place.Host p) command words t = HostAlone p (words area.FrameMap) t
FormAlone _ command words t = Unit {0}

-- What its actor has seen stands, and so does what its form knows.
pub record AloneKnows (p : Place) (command : Command) (words : Area → ℕ → ℕ) (t : Topics) : Type 0 where
  pub seen : SeenStands (HasScan p) words t
  pub form : FormAlone p command words t
