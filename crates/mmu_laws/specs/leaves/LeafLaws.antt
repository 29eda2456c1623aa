-- Which page a leaf is of and who may write by it, as slots and host say (tdp_mmu.c, `tdp_mmu_map_handle_target_level`; mmu.rst, "Shadow pages").
use Rattle.std.specs.Prelude.{◌≡◌, ◌^◌, ◌<◌, ◌≤◌, ◌&&◌, ℕ, All, [], true, Some, is_some}
use Rattle.core_views.specs.declared.place.AccessPlace.TheVariants.{Touch}
use Rattle.core_views.specs.declared.place.Place.TheVariants as place
use Rattle.core_views.specs.declared.sizes.Sizes.{Sizes}
use Rattle.core_views.specs.declared.trace.Command.TheVariants.{Access}
use Rattle.core_views.specs.declared.trace.Op.{Op}
use Rattle.core_views.specs.declared.trace.Op.TheVariants.{Read}
use Rattle.core_views.specs.Held.{Held}
use Rattle.core_views.specs.Sizes.{actors_of}
use Rattle.core_views.specs.Slots.{is_write, page_behind}
use Rattle.spte_words.specs.declared.area.Area.TheVariants as area
use Rattle.spte_words.specs.declared.spte_kind.SpteKind.TheVariants as entry_kind
use Rattle.spte_words.specs.Entries.{can_write, host_writable, kind_of, mapped_frame, mmu_writable}
use Rattle.spte_words.specs.HostWords.{host_allows_write, host_frame, host_present}
use Rattle.mmu_core.specs.machine.Enabled.{mmu}
use Rattle.mmu_core.specs.alone.FaultAlone.{LeadsTo}
use Rattle.mmu_core.specs.forms.access.Cached.{covers}
use Rattle.mmu_core.specs.forms.access.FaultSteps.{allows_access}
use Rattle.mmu_core.specs.invariant.CachedPart.{FitsMachine}
use Rattle.mmu_core.specs.invariant.InvalidatedPart.{may_use}
use Rattle.mmu_core.specs.invariant.Laws.{IsSound}
use Rattle.mmu_core.specs.invariant.RunsPart.{IsInRun}
use Rattle.mmu_core.specs.machine.Machine.{World, hand_in}
use Rattle.part_steps.specs.PartBounds.{IsAtLeafLevel}
use Rattle.part_steps.specs.PartTasks.{table_page}
use Rattle.part_steps.specs.PartHoldings.{IsOver}
use Rattle.part_steps.specs.SlotWords.{slots_below}
use Rattle.mmu_core.specs.machine.View.{word_in}

-- The leaf, of this level, is of the page that the live slots of the published set give the guest frame; this page is present, and the frame that the leaf
-- maps the guest frame to is the one that the page's host word names. Its MMU-writable bit tells whether the slots give a write its page too and the host
-- allows writes to this page, its host-writable bit whether the host does; and it allows no write that its MMU-writable bit doesn't tell. (A leaf that a read
-- entered in a logged slot allows none.)
pub record LeafAgrees (set : ℕ) (pool host : ℕ → ℕ) (level gfn leaf : ℕ) : Type 0 where
  pub page : ℕ
  pub behind : page_behind (slots_below pool set 32) gfn Read ≡ Some page
  pub present : host_present (host page) ≡ true
  pub frame : mapped_frame level leaf gfn ≡ host_frame (host page)
  pub host_bit : host_writable leaf ≡ host_allows_write (host page)
  pub mmu_bit : (op : Op) → is_write op ≡ true → mmu_writable leaf ≡ (host_allows_write (host page) && is_some (page_behind (slots_below pool set 32) gfn op))
  pub writes : can_write leaf ≡ true → mmu_writable leaf ≡ true

-- In every sound world: each leaf to which links lead a guest frame from the root agrees.
abbrev pub LeavesAgree : Type 0
LeavesAgree =
    (z : Sizes) (w : World Held) (gfn at entry : ℕ) → IsSound z w → gfn < 2 ^ 36
    → LeadsTo (word_in z w area.Pool) 4 (word_in z w area.Root 0) gfn at entry → kind_of at entry ≡ entry_kind.Leaf
    → LeafAgrees (word_in z w area.Slots 0) (word_in z w area.Pool) (word_in z w area.Host) at gfn entry

-- So does each leaf to which links lead a guest frame from the table that an actor's walk has come to, where this table is over it.
abbrev pub HeldLeavesAgree : Type 0
HeldLeavesAgree =
    (z : Sizes) (w : World Held) (actor gfn at entry : ℕ) → IsSound z w → actor < actors_of z → IsOver gfn (hand_in mmu w actor).topics.walk
    → LeadsTo (word_in z w area.Pool) (hand_in mmu w actor).topics.walk.level (table_page (hand_in mmu w actor).topics.walk) gfn at entry
    → kind_of at entry ≡ entry_kind.Leaf → LeafAgrees (word_in z w area.Slots 0) (word_in z w area.Pool) (word_in z w area.Host) at gfn entry

-- The level is one that has leaves, and links lead each guest frame of its span to this same entry.
pub record CoversSpan (pool : ℕ → ℕ) (root level gfn entry : ℕ) : Type 0 where
  pub from : 1 ≤ level
  pub to : level ≤ 3
  pub leads : (other : ℕ) → IsInRun level gfn other → LeadsTo pool 4 root other level entry

-- So it is with each leaf to which links lead a guest frame from the root.
abbrev pub LeavesCoverSpans : Type 0
LeavesCoverSpans =
    (z : Sizes) (w : World Held) (gfn at entry : ℕ) → IsSound z w → gfn < 2 ^ 36
    → LeadsTo (word_in z w area.Pool) 4 (word_in z w area.Root 0) gfn at entry → kind_of at entry ≡ entry_kind.Leaf
    → CoversSpan (word_in z w area.Pool) (word_in z w area.Root 0) at gfn entry

-- What an actor has cached is of levels that have leaves, at frames of the machine. What a virtual processor may use of it agrees, of each guest frame that a
-- translation covers: all that it has cached, while it is in the guest or no flush is asked of it. An actor that is no virtual processor has nothing cached.
pub record CachedAgrees (z : Sizes) (w : World Held) (actor : ℕ) : Type 0 where
  pub fits : All (FitsMachine z) (hand_in mmu w actor).cached.items
  pub agrees : actor < z.vcpus → may_use (word_in z w area.State actor) (hand_in mmu w actor).topics.stay ≡ true
      → All (λ t. (gfn : ℕ) → covers gfn t ≡ true
      → LeafAgrees (word_in z w area.Slots 0) (word_in z w area.Pool) (word_in z w area.Host) t.level gfn t.leaf) (hand_in mmu w actor).cached.items
  pub others : z.vcpus ≤ actor → (hand_in mmu w actor).cached.items ≡ []

-- So it is of each actor.
abbrev pub CachedLeavesAgree : Type 0
CachedLeavesAgree = (z : Sizes) (w : World Held) (actor : ℕ) → IsSound z w → actor < actors_of z → CachedAgrees z w actor

-- The leaf by which an access is about to touch agrees, allows the access, is of a level that has leaves, and covers the guest frame.
abbrev pub UsedLeavesAgree : Type 0
UsedLeavesAgree =
    (z : Sizes) (w : World Held) (actor gfn word : ℕ) (op : Op) → IsSound z w → actor < actors_of z
    → (hand_in mmu w actor).state.place ≡ place.Access Touch → (hand_in mmu w actor).state.line.command ≡ Access gfn word op
    → LeafAgrees (word_in z w area.Slots 0) (word_in z w area.Pool) (word_in z w area.Host) (hand_in mmu w actor).state.used.level gfn
    (hand_in mmu w actor).state.used.leaf
    × (allows_access (is_write op) (hand_in mmu w actor).state.used.leaf ≡ true) × IsAtLeafLevel (hand_in mmu w actor).state.used
    × (covers gfn (hand_in mmu w actor).state.used ≡ true)
