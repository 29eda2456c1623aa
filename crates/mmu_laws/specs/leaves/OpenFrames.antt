-- What an open invalidation makes sure of its guest frames: they are in the range and, where it is of a host page, are those of the page; from a first flush
-- on no leaf of them is left, and whom it has awaited may use nothing cached of them (kvm_main.c, kvm_mmu_invalidate_range_add; tdp_mmu.c,
-- kvm_tdp_mmu_unmap_gfn_range; mmu_notifier.rst; vcpu-requests.rst, KVM_REQ_TLB_FLUSH).
use Rattle.std.specs.Prelude.{◌≡◌, ◌^◌, ◌<◌, ◌≤◌, ℕ, Some, true}
use Rattle.core_views.specs.declared.sizes.Sizes.{Sizes}
use Rattle.core_views.specs.declared.topics.Flush.{Flush}
use Rattle.core_views.specs.declared.topics.Invalidated.{Invalidated}
use Rattle.core_views.specs.Held.{Held}
use Rattle.core_views.specs.Sizes.{actors_of}
use Rattle.spte_words.specs.declared.area.Area.TheVariants as area
use Rattle.spte_words.specs.declared.spte_kind.SpteKind.TheVariants as entry_kind
use Rattle.spte_words.specs.Entries.{kind_of}
use Rattle.mmu_core.specs.alone.FaultAlone.{LeadsTo}
use Rattle.mmu_core.specs.invariant.InvalidatedPart.{IsClean, IsIn, IsOfPages, keeps_empty, may_use}
use Rattle.mmu_core.specs.invariant.Laws.{IsSound}
use Rattle.mmu_core.specs.machine.Enabled.{mmu}
use Rattle.mmu_core.specs.machine.Machine.{World, hand_in}
use Rattle.mmu_core.specs.machine.View.{word_in}
use Rattle.core_views.specs.declared.topics.PageRun.{PageRun}

-- what the actor's own invalidation is of, and the flushes that it asked for and awaited
abbrev pub own_of : World Held → ℕ → Invalidated
own_of w actor = (hand_in mmu w actor).topics.invalidations.own

abbrev pub flush_of : World Held → ℕ → Flush
flush_of w actor = (hand_in mmu w actor).topics.flush

-- The actor's own invalidation is open.
abbrev pub HasOpen : World Held → ℕ → Type 0
HasOpen w actor = (hand_in mmu w actor).topics.invalidations.opened ≡ true

-- In every sound world: each guest frame that an open invalidation is of lies in the range, and below 2 ^ 36.
abbrev pub OpenFramesAreRecorded : Type 0
OpenFramesAreRecorded =
    (z : Sizes) (w : World Held) (actor gfn : ℕ) → IsSound z w → actor < actors_of z → HasOpen w actor → IsIn (own_of w actor) gfn
    → (word_in z w area.RangeStart 0 ≤ gfn) × (gfn < word_in z w area.RangeEnd 0) × (gfn < 2 ^ 36)

-- Where it is of a run of host pages, it is of the guest frames that the published slots give to these pages, and of no others.
abbrev pub OpenFramesAreOfThePages : Type 0
OpenFramesAreOfThePages =
    (z : Sizes) (w : World Held) (actor : ℕ) (run : PageRun) → IsSound z w → actor < actors_of z → HasOpen w actor → (own_of w actor).pages ≡ Some run
    → IsOfPages (word_in z w area.Pool) (word_in z w area.Slots 0) (own_of w actor)

-- It is open, of a host page; or it is of a slot, and its actor has yet to publish the slot set that takes the place of the one with this slot.
abbrev pub KeepsEmpty : World Held → ℕ → Type 0
KeepsEmpty w actor = keeps_empty (hand_in mmu w actor).topics ≡ true

-- Once its actor has asked for a first flush, no links lead such a guest frame from the root to a leaf; of a slot's, up to the publication.
abbrev pub OpenFramesAreZapped : Type 0
OpenFramesAreZapped =
    (z : Sizes) (w : World Held) (actor gfn at entry : ℕ) → IsSound z w → actor < actors_of z → KeepsEmpty w actor → 1 ≤ (flush_of w actor).asked
    → IsIn (own_of w actor) gfn → LeadsTo (word_in z w area.Pool) 4 (word_in z w area.Root 0) gfn at entry → kind_of at entry ≡ entry_kind.Leaf → ⊥

-- A virtual processor that its actor has awaited has nothing cached of such a guest frame, where it may use what it has cached; of a slot's, up to the
-- publication.
abbrev pub OpenFramesAreFlushed : Type 0
OpenFramesAreFlushed =
    (z : Sizes) (w : World Held) (actor v : ℕ) → IsSound z w → actor < actors_of z → KeepsEmpty w actor → v < z.vcpus → v < (flush_of w actor).awaited
    → may_use (word_in z w area.State v) (hand_in mmu w v).topics.stay ≡ true → IsClean (own_of w actor) (hand_in mmu w v).cached.items
