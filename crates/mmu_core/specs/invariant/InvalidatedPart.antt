-- Open invalidations: which guest frames they are of, and that from the sweep on no leaf of these is left, and nothing cached of them once a flush was awaited
-- (mmu_notifier.rst; tdp_mmu.c, kvm_tdp_mmu_unmap_gfn_range; vcpu-requests.rst).
use Rattle.std.specs.Prelude.{◌≡◌, ◌-◌, ◌<◌, ◌≤◌, ◌^◌, ◌&&◌, ◌||◌, ℕ, All, List, Bool, true, false, [], not, Option, Some, is_some}
use Rattle.core_views.specs.declared.cache.Translation.{Translation}
use Rattle.core_views.specs.declared.topics.Hold.TheVariants.{Exclusive}
use Rattle.core_views.specs.declared.topics.HostRow.{HostRow}
use Rattle.core_views.specs.declared.topics.Invalidated.{Invalidated}
use Rattle.core_views.specs.declared.topics.PageRun.{PageRun}
use Rattle.core_views.specs.declared.topics.Stay.{Stay}
use Rattle.core_views.specs.declared.topics.Stay.TheVariants.{Guest, Outside}
use Rattle.core_views.specs.declared.topics.Topics.{Topics}
use Rattle.core_views.specs.declared.trace.Slot.{Slot as SlotOf}
use Rattle.core_views.specs.Held.{Held}
use Rattle.core_views.specs.Slots.{has_host_page}
use Rattle.spte_words.specs.declared.spte_kind.SpteKind.TheVariants.{Leaf}
use Rattle.spte_words.specs.Entries.{kind_of}
use Rattle.part_steps.specs.InvalidationRange.{gfn_behind, page_looked, run_aimed}
use Rattle.part_steps.specs.PageRuns.{IsOnRun, is_single}
use Rattle.part_steps.specs.SweepTopics.{swept_to}
use Rattle.mmu_core.specs.invariant.AllOver.{AllOver}
use Rattle.mmu_core.specs.invariant.CachedPart.{AgreePart}
use Rattle.mmu_core.specs.invariant.SlotSetPart.{IsLiveIn}
use Rattle.mmu_core.specs.invariant.TreePart.{Position, Use}
use Rattle.mmu_core.specs.forms.access.Cached.{asks_flush, covers}

-- The guest frame is one of those that the invalidation is of.
abbrev pub IsIn : Invalidated → ℕ → Type 0
IsIn own_ gfn = (own_.start ≤ gfn) × (gfn < own_.end)

-- ---- which frames they are of

-- The range of open invalidations has the guest frames of each, which lie below 2 ^ 36.
abbrev pub RangePart : ℕ → ℕ → ℕ → (ℕ → Topics) → Type 0
RangePart n start end_ topics =
    (i gfn : ℕ) → i < n → (topics i).invalidations.opened ≡ true → IsIn (topics i).invalidations.own gfn
    → (start ≤ gfn) × (gfn < end_) × (gfn < 2 ^ 36)

-- Under the lock alone, a search has passed no slot with the host page that the actor may change, if it may change just one, but the one that it has found.
abbrev pub PassedPart : (ℕ → ℕ) → Topics → Type 0
PassedPart pool t =
    t.hold ≡ Exclusive → t.stay ≡ Outside → is_single (run_aimed t) ≡ true → (set : ℕ) → t.search.set ≡ Some set → (id : ℕ) (slot : SlotOf)
    → IsLiveIn pool set id slot → id < t.search.id → has_host_page (page_looked t.host) slot ≡ true → (t.search.whole ≡ true) × (slot ≡ t.search.slot)

-- A slot in this set gives the host page this guest frame.
pub record SlotGives (pool : ℕ → ℕ) (set page gfn : ℕ) : Type 0 where
  pub id : ℕ
  pub slot : SlotOf
  pub live : IsLiveIn pool set id slot
  pub has : has_host_page page slot ≡ true
  pub is : gfn ≡ gfn_behind page slot

-- A slot gives the guest frame to a host page of the run.
abbrev pub GivesOne : (ℕ → ℕ) → ℕ → Option PageRun → ℕ → Type 0
GivesOne pool set pages gfn = (page : ℕ) × IsOnRun page pages × SlotGives pool set page gfn

-- The invalidation is of the guest frames that the slots give to the host pages of its run, and of none before the first of these or after the last.
pub record IsOfPages (pool : ℕ → ℕ) (set : ℕ) (own_ : Invalidated) : Type 0 where
  pub covers : (page gfn : ℕ) → IsOnRun page own_.pages → SlotGives pool set page gfn → IsIn own_ gfn
  pub first : own_.start < own_.end → GivesOne pool set own_.pages own_.start
  pub last : own_.start < own_.end → GivesOne pool set own_.pages (own_.end - 1)

-- Under the lock alone, a search for a run of several pages has collected so the guest frames of the slots that it has passed.
pub record HasCollected (pool : ℕ → ℕ) (set id : ℕ) (run : PageRun) (row : HostRow) : Type 0 where
  pub covers : (i page : ℕ) (slot : SlotOf) → IsLiveIn pool set i slot → i < id → IsOnRun page (Some run) → has_host_page page slot ≡ true
      → (row.start ≤ gfn_behind page slot) × (gfn_behind page slot < row.end)
  pub first : row.start < row.end → GivesOne pool set (Some run) row.start
  pub last : 1 ≤ row.end → GivesOne pool set (Some run) (row.end - 1)

abbrev pub CollectedPart : (ℕ → ℕ) → Topics → Type 0
CollectedPart pool t =
    t.hold ≡ Exclusive → t.stay ≡ Outside → (run : PageRun) → run_aimed t ≡ Some run → 2 ≤ run.level → (set : ℕ) → t.search.set ≡ Some set
    → HasCollected pool set t.search.id run t.row

-- So is each open one of host pages, of the published slots.
abbrev pub ScopePart : ℕ → (ℕ → ℕ) → ℕ → (ℕ → Topics) → Type 0
ScopePart n pool slots topics =
    (i : ℕ) → i < n → (topics i).invalidations.opened ≡ true → is_some (topics i).invalidations.own.pages ≡ true
    → IsOfPages pool slots (topics i).invalidations.own

-- ---- what is left of their frames

-- The actor's own invalidation is open, and no leaf may be put at its frames once they are swept: where it is of a slot, the slot set that takes the place of
-- the one with this slot is yet to be published. (From then on a large leaf of a slot that was moved would reach over frames of its old place.)
abbrev pub keeps_empty : Topics → Bool
keeps_empty t = t.invalidations.opened && (is_some t.invalidations.own.pages || not (is_some t.retired))

-- The entry is no leaf of its guest frames.
abbrev pub IsNoLeafIn : Invalidated → ℕ → ℕ → ℕ → Type 0
IsNoLeafIn own_ level gfn w = IsIn own_ gfn → kind_of level w ≡ Leaf → ⊥

-- No links lead to a leaf of its frames below this one.
abbrev pub IsNoLeafBelow : Invalidated → ℕ → ℕ → ℕ → ℕ → Type 0
IsNoLeafBelow own_ to level gfn w = IsIn own_ gfn → gfn < to → kind_of level w ≡ Leaf → ⊥

-- A sweep under the lock has left no leaf of them up to the guest frame to which it has come.
abbrev pub SweptPart : ℕ → (ℕ → Use) → (ℕ → Position) → (ℕ → ℕ) → ℕ → (ℕ → Topics) → Type 0
SweptPart n up spot pool root topics =
    (i : ℕ) → i < n → (topics i).hold ≡ Exclusive → (topics i).stay ≡ Outside → (topics i).invalidations.opened ≡ true → 1 ≤ (topics i).walk.level
    → AllOver up spot pool root
    (IsNoLeafBelow (topics i).invalidations.own (swept_to true (topics i).invalidations.own.start (topics i).walk))

-- From the moment at which a first flush is asked for no links lead to a leaf of the frames of an open invalidation; of a slot's, up to the publication.
abbrev pub ZappedPart : ℕ → (ℕ → Use) → (ℕ → Position) → (ℕ → ℕ) → ℕ → (ℕ → Topics) → Type 0
ZappedPart n up spot pool root topics =
    (i : ℕ) → i < n → keeps_empty (topics i) ≡ true → 1 ≤ (topics i).flush.asked → AllOver up spot pool root (IsNoLeafIn (topics i).invalidations.own)

-- The translation covers none of its frames.
abbrev pub IsApart : Invalidated → Translation → Type 0
IsApart own_ t = (gfn : ℕ) → covers gfn t ≡ true → IsIn own_ gfn → ⊥

-- So does each that is cached.
abbrev pub IsClean : Invalidated → List Translation → Type 0
IsClean own_ cached = All (IsApart own_) cached

-- What a virtual processor has cached may be used: it is in the guest, or no flush is asked of it.
abbrev pub may_use : ℕ → Stay → Bool
may_use state Guest = true
may_use state _ = not (asks_flush state)

-- What a virtual processor may use of what it has cached agrees with slots and host; other actors have nothing cached.
pub record UsablePart (n vcpus : ℕ) (states pool host : ℕ → ℕ) (set : ℕ) (hand : ℕ → Held) : Type 0 where
  pub agrees : (v : ℕ) → v < vcpus → may_use (states v) (hand v).topics.stay ≡ true → AgreePart pool host set (hand v).cached.items
  pub others : (i : ℕ) → i < n → vcpus ≤ i → (hand i).cached.items ≡ []

-- A virtual processor that was asked for a flush since has made it, or is yet to; and once it was awaited it may use nothing of the frames: `IsDone` says what
-- is so then. No more are awaited than were asked.
pub record IsFlushed (IsDone : Type 0) (asked awaited v state : ℕ) (stay : Stay) : Type 0 where
  pub order : awaited ≤ asked
  pub asks : v < asked → asks_flush state ≡ false → IsDone
  pub awaits : v < asked → v < awaited → may_use state stay ≡ true → IsDone

-- So are all, for each open invalidation; for a slot's, up to the publication.
abbrev pub FlushesFor : (Invalidated → ℕ → Type 0) → ℕ → ℕ → (ℕ → ℕ) → (ℕ → Topics) → Type 0
FlushesFor IsDone n vcpus states topics =
    (i v : ℕ) → i < n → v < vcpus → keeps_empty (topics i) ≡ true
    → IsFlushed (IsDone (topics i).invalidations.own v) (topics i).flush.asked (topics i).flush.awaited v (states v) (topics v).stay

-- Then nothing cached is of the frames.
abbrev pub FlushPart : ℕ → ℕ → (ℕ → ℕ) → (ℕ → Held) → Type 0
FlushPart n vcpus states hand = FlushesFor (λ own_ v. IsClean own_ (hand v).cached.items) n vcpus states (λ i. (hand i).topics)
