-- A fault that runs while all other actors rest: what it knows of the words at each place, so that it never begins anew, and what
-- stands where it ends.
use Rattle.std.specs.Prelude.{◌≡◌, ◌/◌, ◌^◌, ◌<◌, ℕ, Bool, true, false, Some}
use Rattle.core_views.specs.declared.place.CheckStage.TheVariants as stage
use Rattle.core_views.specs.declared.place.FaultEnd.{FaultEnd}
use Rattle.core_views.specs.declared.place.FaultEnd.TheVariants.{Fixed, HostFault, Installed, Mmio, Retry}
use Rattle.core_views.specs.declared.place.FaultNext.{FaultNext}
use Rattle.core_views.specs.declared.place.FaultNext.TheVariants.{Goes, Ends}
use Rattle.core_views.specs.declared.place.FaultPlace.{FaultPlace}
use Rattle.core_views.specs.declared.place.FaultPlace.TheVariants.{Bring, Find, Check, Claim, Fill, Role, Link, Give, Leaf, Unshare, End, Fix, Mark}
use Rattle.core_views.specs.declared.sizes.Sizes.{Sizes}
use Rattle.core_views.specs.declared.topics.Topics.{Topics}
use Rattle.core_views.specs.declared.trace.Slot.{Slot}
use Rattle.core_views.specs.Held.{Held}
use Rattle.core_views.specs.Sizes.{actors_of}
use Rattle.core_views.specs.Slots.{contains}
use Rattle.spte_words.specs.declared.area.Area.{Area}
use Rattle.spte_words.specs.declared.area.Area.TheVariants as area
use Rattle.spte_words.specs.Areas.{pool_index}
use Rattle.spte_words.specs.Entries.{level_span}
use Rattle.spte_words.specs.HostWords.{host_allows_write}
use Rattle.part_steps.specs.declared.task.Task.{Task}
use Rattle.part_steps.specs.declared.part_step.PartStep.{PartStep}
use Rattle.mmu_core.specs.machine.Enabled.{mmu}
use Rattle.mmu_core.specs.forms.access.FaultKnows.{FaultKnows}
use Rattle.mmu_core.specs.forms.access.FaultSteps.{fault_next, fault_part}
use Rattle.mmu_core.specs.lines.PartWaits.{part_waits}
use Rattle.mmu_core.specs.invariant.Laws.{IsSound}
use Rattle.mmu_core.specs.invariant.SlotSetPart.{IsLiveIn}
use Rattle.mmu_core.specs.machine.Machine.{World, hand_in}
use Rattle.mmu_core.specs.alone.OthersRest.{OthersRest}
use Rattle.mmu_core.specs.alone.SeenStands.{SeenStands}
pub use Rattle.mmu_core.specs.alone.Leads.{EndsHere, LeadsTo, LeadsToLeaf, LinksOn}
use Rattle.mmu_core.specs.lines.ScanPlaces.{BegunNext, HasBegun, OfPages}
use Rattle.part_steps.specs.PartTasks.{entry_index, page_looked, part_task, table_page, word_looked}
use Rattle.part_steps.specs.PartTopics.{part_topics}
use Rattle.part_steps.specs.SlotWords.{NoneBelow, NoneHasPage, page_of}
use Rattle.mmu_core.specs.invariant.TreePart.{at, stands}
use Rattle.mmu_core.specs.machine.View.{answer_in, word_in, words_after}

-- The entry that was loaded stands still.
abbrev pub EntryStands : (ℕ → ℕ) → ℕ → Topics → Type 0
EntryStands pool gfn t = pool (pool_index (table_page t.walk) (entry_index gfn t.walk.level)) ≡ t.walk.entry

-- A live slot of the set has a page for the access, which is a write, and the host word of this page forbids writes.
pub record HostForbidsPage (set : ℕ) (pool host : ℕ → ℕ) (gfn : ℕ) (write : Bool) : Type 0 where
  pub writes : write ≡ true
  pub id : ℕ
  pub slot : Slot
  pub live : IsLiveIn pool set id slot
  pub holds : contains gfn slot ≡ true
  pub slot_allows : slot.read_only ≡ false
  pub forbids : host_allows_write (host (page_of slot gfn)) ≡ false

-- Where a fault has installed an entry, links lead to a leaf that allows the access; where it ends with MMIO, no live slot of the published
-- set has a page for the access; where it ends with a host fault, the host forbids this write; no fault begins anew.
abbrev pub EndAlone : FaultEnd → ℕ → ℕ → (ℕ → ℕ) → (ℕ → ℕ) → ℕ → Bool → Type 0
EndAlone Installed root set pool host gfn write = LeadsToLeaf pool 4 root gfn write
EndAlone (Fixed marked) root set pool host gfn write = LeadsToLeaf pool 4 root gfn write
EndAlone Mmio root set pool host gfn write = NoneHasPage gfn write pool set
EndAlone HostFault root set pool host gfn write = HostForbidsPage set pool host gfn write
EndAlone (Retry fast cause) root set pool host gfn write = ⊥
EndAlone _ root set pool host gfn write = Unit {0}

-- What a fault knows of the words at each place, where no other actor is in its way: the slots before its search don't have the guest frame; the host word
-- and the entry that it saw are as it saw them. It never comes to a range of guest frames, since no invalidation is open, and never gives a page back.
abbrev pub FaultAlone : FaultPlace → ℕ → ℕ → (ℕ → ℕ) → (ℕ → ℕ) → ℕ → Bool → Topics → Type 0
FaultAlone (Find begun) root set pool host gfn write t = begun ≡ true → (t.search.set ≡ Some set) × NoneBelow gfn pool set t.search.id
FaultAlone Bring root set pool host gfn write t = word_looked t.host ≡ host (page_looked t.host)
FaultAlone (Check stage.Start) root set pool host gfn write t = ⊥
FaultAlone (Check stage.End) root set pool host gfn write t = ⊥
FaultAlone (Claim begun) root set pool host gfn write t = EntryStands pool gfn t
FaultAlone Fill root set pool host gfn write t = EntryStands pool gfn t
FaultAlone Role root set pool host gfn write t = EntryStands pool gfn t
FaultAlone Link root set pool host gfn write t = EntryStands pool gfn t
FaultAlone (Leaf writes) root set pool host gfn write t = EntryStands pool gfn t
FaultAlone Fix root set pool host gfn write t = EntryStands pool gfn t
FaultAlone (Mark fast) root set pool host gfn write t = LeadsToLeaf pool 4 root gfn write
FaultAlone (Give e) root set pool host gfn write t = ⊥
FaultAlone (Unshare e) root set pool host gfn write t = EndAlone e root set pool host gfn write
FaultAlone (End e) root set pool host gfn write t = EndAlone e root set pool host gfn write
FaultAlone _ root set pool host gfn write t = Unit {0}

-- what it knows of the words after a step
abbrev pub AloneNext : FaultNext → ℕ → ℕ → (ℕ → ℕ) → (ℕ → ℕ) → ℕ → Bool → Topics → Type 0
AloneNext (Goes p) root set pool host gfn write t = FaultAlone p root set pool host gfn write t
AloneNext (Ends e) root set pool host gfn write t = EndAlone e root set pool host gfn write

-- A fault of actor a stands at this place of its order, while all other actors rest; what its actor has seen stands, and it
-- has no invalidation open.
pub record FaultRunsAlone (z : Sizes) (w : World Held) (a : ℕ) (p : FaultPlace) (gfn : ℕ) (write : Bool) : Type 0 where
  pub sound : IsSound z w
  pub others : OthersRest a w
  pub there : a < actors_of z
  pub small : gfn < 2 ^ 36
  pub knows : FaultKnows p z gfn write (hand_in mmu w a).topics
  pub seen : SeenStands (OfPages (HasBegun p)) (word_in z w) (hand_in mmu w a).topics
  pub opens_none : (hand_in mmu w a).topics.invalidations.opened ≡ false
  pub alone : FaultAlone p (word_in z w area.Root 0) (word_in z w area.Slots 0) (word_in z w area.Pool) (word_in z w area.Host) gfn write
      (hand_in mmu w a).topics

-- The step of its place doesn't wait for another actor; after it the fault knows of the words what its next place asks, and what its actor has
-- seen stands: so where it is starved, each word of the map up to where its claim came is 0.
pub record GoesThrough (z : Sizes) (words : Area → ℕ → ℕ) (a : ℕ) (t : Topics) (note : ℕ) (p : FaultPlace) (gfn : ℕ) (write : Bool) : Type 0 where
  pub goes : part_waits (fault_part p gfn t) t (answer_in (part_task (fault_part p gfn t) a t note) words) ≡ false
  pub next :
      let step : PartStep = fault_part p gfn t in
      let task : Task = part_task step a t note in
      let found : ℕ = answer_in task words in
      let after : Area → ℕ → ℕ = words_after task words in
      AloneNext (fault_next p z gfn write t found) (after area.Root 0) (after area.Slots 0) (after area.Pool) (after area.Host) gfn write
      (part_topics step t found)
  pub seen :
      let step : PartStep = fault_part p gfn t in
      let task : Task = part_task step a t note in
      let found : ℕ = answer_in task words in
      SeenStands (OfPages (BegunNext (fault_next p z gfn write t found))) (words_after task words) (part_topics step t found)

-- A fault alone goes through: no step of it waits, it never begins anew; where it ends with an entry installed, links lead from the root to
-- a leaf that allows the access; where it ends with MMIO, no slot has a page for the access; where it ends with a host fault, a slot has one, whose
-- host word forbids this write; and it is starved only where no page is free.
abbrev pub FaultGoesThrough : Type 0
FaultGoesThrough =
    (z : Sizes) (w : World Held) (a gfn note : ℕ) (write : Bool) (p : FaultPlace) → FaultRunsAlone z w a p gfn write
    → GoesThrough z (word_in z w) a (hand_in mmu w a).topics note p gfn write

-- Links lead from the root to an entry exactly where they do so from this table.
pub record LeadSame (pool : ℕ → ℕ) (root level page gfn at entry : ℕ) : Type 0 where
  pub below : LeadsTo pool 4 root gfn at entry → LeadsTo pool level page gfn at entry
  pub above : LeadsTo pool level page gfn at entry → LeadsTo pool 4 root gfn at entry

-- Where a table stands over the guest frame, the links from the root lead through it.
abbrev pub LeadsDown : Type 0
LeadsDown =
    (z : Sizes) (w : World Held) (gfn page level low entry : ℕ) (sound : IsSound z w)
    → stands sound.topics.up sound.topics.spot page ≡ Some (at level (gfn / level_span level / 512))
    → LeadSame (word_in z w area.Pool) (word_in z w area.Root 0) level page gfn low entry
