-- The guest frames of open invalidations after a run.
use Rattle.std.specs.Prelude.{◌≡◌, ◌^◌, ◌<◌, ◌≤◌, ℕ, Some, true}
use Rattle.core_views.specs.Sizes.{actors_of}
use Rattle.spte_words.specs.declared.area.Area.TheVariants as area
use Rattle.spte_words.specs.declared.spte_kind.SpteKind.TheVariants as entry_kind
use Rattle.spte_words.specs.Entries.{kind_of}
use Rattle.mmu_core.specs.alone.FaultAlone.{LeadsTo}
use Rattle.mmu_core.specs.invariant.InvalidatedPart.{IsClean, IsIn, IsOfPages, may_use}
use Rattle.mmu_core.specs.machine.Enabled.{mmu}
use Rattle.mmu_core.specs.machine.Machine.{hand_in}
use Rattle.mmu_core.specs.machine.View.{word_in}
use Rattle.mmu_laws.specs.leaves.OpenFrames.{KeepsEmpty, HasOpen, flush_of, own_of}
use Rattle.core_theorem.specs.Runs.{AfterEveryRun}
use Rattle.core_views.specs.declared.topics.PageRun.{PageRun}

-- Each guest frame that an open invalidation is of lies in the range, and below 2 ^ 36.
abbrev pub OpenFramesAreRecorded : Type 0
OpenFramesAreRecorded = AfterEveryRun (λ z w.
    (actor gfn : ℕ) → actor < actors_of z
    → HasOpen w actor → IsIn (own_of w actor) gfn
    → (word_in z w area.RangeStart 0 ≤ gfn) × (gfn < word_in z w area.RangeEnd 0) × (gfn < 2 ^ 36))

-- Where it is of a run of host pages, it is of the guest frames that the published slots give to these pages, and of no others.
abbrev pub OpenFramesAreOfThePages : Type 0
OpenFramesAreOfThePages = AfterEveryRun (λ z w.
    (actor : ℕ) (run : PageRun) → actor < actors_of z
    → HasOpen w actor → (own_of w actor).pages ≡ Some run
    → IsOfPages (word_in z w area.Pool) (word_in z w area.Slots 0) (own_of w actor))

-- Once its actor has asked for a first flush, no links lead such a guest frame from the root to a leaf; of a slot's, up to the publication.
abbrev pub OpenFramesAreZapped : Type 0
OpenFramesAreZapped = AfterEveryRun (λ z w.
    (actor gfn at entry : ℕ) → actor < actors_of z
    → KeepsEmpty w actor → 1 ≤ (flush_of w actor).asked → IsIn (own_of w actor) gfn
    → LeadsTo (word_in z w area.Pool) 4 (word_in z w area.Root 0) gfn at entry → kind_of at entry ≡ entry_kind.Leaf → ⊥)

-- A virtual processor that its actor has awaited has nothing cached of such a guest frame, where it may use what it has cached; of a slot's, up to the
-- publication.
abbrev pub OpenFramesAreFlushed : Type 0
OpenFramesAreFlushed = AfterEveryRun (λ z w.
    (actor v : ℕ) → actor < actors_of z
    → KeepsEmpty w actor → v < z.vcpus → v < (flush_of w actor).awaited
    → may_use (word_in z w area.State v) (hand_in mmu w v).topics.stay ≡ true
    → IsClean (own_of w actor) (hand_in mmu w v).cached.items)
