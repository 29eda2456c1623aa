-- Leaves after a run: what is linked, what walks come to, what is cached and what an access uses agrees with slots and host.
use Rattle.std.specs.Prelude.{◌≡◌, ◌/◌, ◌^◌, ◌<◌, ℕ, true}
use Rattle.core_views.specs.declared.place.AccessPlace.TheVariants.{Touch}
use Rattle.core_views.specs.declared.place.Place.TheVariants as place
use Rattle.core_views.specs.declared.sizes.Sizes.{Sizes}
use Rattle.core_views.specs.declared.trace.Command.TheVariants.{Access}
use Rattle.core_views.specs.declared.trace.Op.{Op}
use Rattle.core_views.specs.Held.{Held}
use Rattle.core_views.specs.Sizes.{actors_of}
use Rattle.core_views.specs.Slots.{is_write}
use Rattle.spte_words.specs.declared.area.Area.TheVariants as area
use Rattle.spte_words.specs.declared.spte_kind.SpteKind.TheVariants as entry_kind
use Rattle.spte_words.specs.Entries.{kind_of, level_span}
use Rattle.mmu_core.specs.machine.Enabled.{mmu}
use Rattle.mmu_core.specs.alone.FaultAlone.{LeadsTo}
use Rattle.mmu_core.specs.forms.access.Cached.{covers}
use Rattle.mmu_core.specs.forms.access.FaultSteps.{allows_access}
use Rattle.mmu_laws.specs.leaves.LeafLaws.{CachedAgrees, CoversSpan, LeafAgrees}
use Rattle.mmu_core.specs.machine.Machine.{World, hand_in}
use Rattle.mmu_core.specs.machine.View.{word_in}
use Rattle.part_steps.specs.PartBounds.{IsAtLeafLevel}
use Rattle.core_theorem.specs.Runs.{AfterEveryRun}
use Rattle.core_theorem.specs.Walks.{HoldsAt, span_at, table_at, walk_of}

-- In this world the leaf, of this level, is of the page that the slots give the guest frame, and maps it to the frame that the host gives the page.
abbrev pub Agrees : Sizes → World Held → ℕ → ℕ → ℕ → Type 0
Agrees z w level gfn leaf = LeafAgrees (word_in z w area.Slots 0) (word_in z w area.Pool) (word_in z w area.Host) level gfn leaf

-- Each leaf to which links lead a guest frame from the root agrees.
abbrev pub LinkedLeavesAgree : Type 0
LinkedLeavesAgree = AfterEveryRun (λ z w.
    (gfn at entry : ℕ) → gfn < 2 ^ 36
    → LeadsTo (word_in z w area.Pool) 4 (word_in z w area.Root 0) gfn at entry → kind_of at entry ≡ entry_kind.Leaf
    → Agrees z w at gfn entry)

-- So does each leaf to which links lead from a table that a walk holds, for a guest frame of this table's span.
abbrev pub HeldLeavesAgree : Type 0
HeldLeavesAgree = AfterEveryRun (λ z w.
    (actor level gfn at entry : ℕ) → actor < actors_of z
    → HoldsAt level (walk_of w actor) → gfn < 2 ^ 36 → gfn / level_span level / 512 ≡ span_at level (walk_of w actor)
    → LeadsTo (word_in z w area.Pool) level (table_at level (walk_of w actor)) gfn at entry
    → kind_of at entry ≡ entry_kind.Leaf → Agrees z w at gfn entry)

-- Each leaf to which links lead a guest frame from the root is of a level that has leaves, and links lead each guest frame of its span to this same leaf.
abbrev pub LeavesCoverSpans : Type 0
LeavesCoverSpans = AfterEveryRun (λ z w.
    (gfn at entry : ℕ) → gfn < 2 ^ 36
    → LeadsTo (word_in z w area.Pool) 4 (word_in z w area.Root 0) gfn at entry → kind_of at entry ≡ entry_kind.Leaf
    → CoversSpan (word_in z w area.Pool) (word_in z w area.Root 0) at gfn entry)

-- Each translation that a virtual processor has cached, and may use, agrees; all that is cached is of levels that have leaves, at frames of the machine; and
-- other actors have nothing cached.
abbrev pub TranslationsAgree : Type 0
TranslationsAgree = AfterEveryRun (λ z w.
    (actor : ℕ) → actor < actors_of z
    → CachedAgrees z w actor)

-- The leaf by which an access is about to touch agrees, allows the access, is of a level that has leaves, and covers the guest frame.
abbrev pub UsedLeavesAgree : Type 0
UsedLeavesAgree = AfterEveryRun (λ z w.
    (actor gfn word : ℕ) (op : Op) → actor < actors_of z
    → (hand_in mmu w actor).state.place ≡ place.Access Touch → (hand_in mmu w actor).state.line.command ≡ Access gfn word op
    → Agrees z w (hand_in mmu w actor).state.used.level gfn (hand_in mmu w actor).state.used.leaf
    × (allows_access (is_write op) (hand_in mmu w actor).state.used.leaf ≡ true) × IsAtLeafLevel (hand_in mmu w actor).state.used
    × (covers gfn (hand_in mmu w actor).state.used ≡ true))
