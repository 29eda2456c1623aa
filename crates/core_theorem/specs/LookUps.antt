-- What actors have looked up of slots and host, since they took the sequence number, is so still (mmu_notifier.rst).
use Rattle.std.specs.Prelude.{◌≡◌, ◌-◌, ◌<◌, ℕ, Bool, true, false, Some}
use Rattle.core_views.specs.declared.place.AccessPlace.TheVariants.{Fault}
use Rattle.core_views.specs.declared.place.FaultPlace.{FaultPlace}
use Rattle.core_views.specs.declared.place.FaultPlace.TheVariants.{Walk, Claim, Fill, Role, Link, Leaf}
use Rattle.core_views.specs.declared.place.Place.TheVariants as place
use Rattle.core_views.specs.declared.sizes.Sizes.{Sizes}
use Rattle.core_views.specs.declared.topics.Hold.TheVariants.{Shared}
use Rattle.core_views.specs.declared.topics.HostLook.{HostLook}
use Rattle.core_views.specs.declared.topics.SlotSearch.{SlotSearch}
use Rattle.core_views.specs.declared.trace.Command.TheVariants.{Access}
use Rattle.core_views.specs.declared.trace.Op.{Op}
use Rattle.core_views.specs.Held.{Held}
use Rattle.core_views.specs.Sizes.{actors_of}
use Rattle.core_views.specs.Slots.{contains, is_write}
use Rattle.spte_words.specs.declared.area.Area.TheVariants as area
use Rattle.spte_words.specs.HostWords.{host_allows_write, host_present}
use Rattle.part_steps.specs.SlotWords.{page_of}
use Rattle.mmu_core.specs.invariant.Grace.{topics_in}
use Rattle.mmu_core.specs.invariant.HostWordsPart.{IsStill}
use Rattle.mmu_core.specs.invariant.InvalidatedPart.{IsIn}
use Rattle.mmu_core.specs.invariant.SearchPart.{HeldSlotsPart, IsInvalidating, IsOnPage}
use Rattle.mmu_core.specs.invariant.SlotSetPart.{AreSlots, IsLiveIn}
use Rattle.mmu_core.specs.machine.Enabled.{mmu}
use Rattle.mmu_core.specs.machine.Machine.{World, hand_in}
use Rattle.mmu_core.specs.machine.View.{word_in}
use Rattle.core_theorem.specs.Runs.{AfterEveryRun}

-- The slot that an actor has found whole is one of the slot set that it holds, of which no two slots meet.
pub record FoundIn (z : Sizes) (pool : ℕ → ℕ) (search : SlotSearch) : Type 0 where
  pub set : ℕ
  pub held : search.set ≡ Some set
  pub slots : AreSlots z pool set
  pub live : IsLiveIn pool set (search.id - 1) search.slot

abbrev pub FoundSlotsAreHeld : Type 0
FoundSlotsAreHeld = AfterEveryRun (λ z w.
    (actor : ℕ) → actor < actors_of z
    → (topics_in w actor).search.whole ≡ true
    → FoundIn z (word_in z w area.Pool) (topics_in w actor).search)

-- The slot that has a guest frame in the set that an actor holds is live in the published one, and the same, where the sequence number is the one that the
-- actor took before, and no invalidation of the frame is open that has yet to raise it.
abbrev pub HeldSlotsStand : Type 0
HeldSlotsStand = AfterEveryRun (λ z w.
    HeldSlotsPart (actors_of z) (word_in z w area.Seq 0) (word_in z w area.Pool) (word_in z w area.Slots 0)
    (topics_in w))

-- What an actor has looked up of a host page is the page's host word still, where the sequence number is the one that it took before, and no invalidation of
-- the page is open that has yet to raise it; but an absent page may have been brought in since.
abbrev pub LookedUpPagesStand : Type 0
LookedUpPagesStand = AfterEveryRun (λ z w.
    (actor : ℕ) (look : HostLook) → actor < actors_of z
    → (topics_in w actor).host ≡ Some look
    → (topics_in w actor).invalidations.snapshot ≡ Some (word_in z w area.Seq 0)
    → ((other : ℕ) → other < actors_of z → IsInvalidating (IsOnPage look.page) (topics_in w other) → ⊥)
    → IsStill look.word (word_in z w area.Host look.page))

-- The fault stands after its check under the lock, which came out fresh, and up to the exchange that puts its leaf.
abbrev pub has_checked : FaultPlace → Bool
has_checked (Walk rooted) = true
has_checked (Claim begun) = true
has_checked Fill = true
has_checked Role = true
has_checked Link = true
has_checked (Leaf writes) = true
has_checked _ = false

-- What an actor has looked up for a guest frame is true: it shares the lock; nobody's open invalidation is of the guest frame, whether it has raised the
-- sequence number or not; the slot that the actor has found has the guest frame, and is live in the published slot set, and the same; the host page behind the
-- guest frame was looked at, and what was seen is the page's host word, which has the page in memory. And where the access writes, slot and host word allow it.
pub record IsTrueLookUp (z : Sizes) (w : World Held) (actor gfn : ℕ) (write : Bool) : Type 0 where
  pub shares : (topics_in w actor).hold ≡ Shared
  pub none_over : (other : ℕ) → other < actors_of z → (topics_in w other).invalidations.opened ≡ true → IsIn (topics_in w other).invalidations.own gfn → ⊥
  pub holds : contains gfn (topics_in w actor).search.slot ≡ true
  pub live : IsLiveIn (word_in z w area.Pool) (word_in z w area.Slots 0) ((topics_in w actor).search.id - 1) (topics_in w actor).search.slot
  pub page : ℕ
  pub is_behind : page ≡ page_of (topics_in w actor).search.slot gfn
  pub seen : (topics_in w actor).host ≡ Some (record { page = page; word = word_in z w area.Host page })
  pub present : host_present (word_in z w area.Host page) ≡ true
  pub allowed : write ≡ true → ((topics_in w actor).search.slot.read_only ≡ false) × (host_allows_write (word_in z w area.Host page) ≡ true)

-- So it is after each run where an access stands in its fault, from the check up to the exchange that puts the leaf. Nothing is asked of the sequence number,
-- nor of open invalidations: the check has found the number as it was and none open over the guest frame, and nobody changes either while the lock is shared.
abbrev pub FreshLookUpsAreTrue : Type 0
FreshLookUpsAreTrue = AfterEveryRun (λ z w.
    (actor : ℕ) → actor < actors_of z
    → (gfn word : ℕ) (op : Op) (p : FaultPlace) → has_checked p ≡ true → (hand_in mmu w actor).state.place ≡ place.Access (Fault p)
    → (hand_in mmu w actor).state.line.command ≡ Access gfn word op
    → IsTrueLookUp z w actor gfn (is_write op))
