-- What walks lead to. Who has the lock alone walks tables that hang below the root; and a virtual processor in the guest comes from the tables of its walk to
-- leaves that it may use as it uses what it has cached (tdp_mmu.c; locking.rst, "Fast page fault"; vcpu-requests.rst).
use Rattle.std.specs.Prelude.{◌≡◌, ◌<◌, ◌≤◌, ℕ}
use Rattle.core_views.specs.declared.topics.Hold.TheVariants.{Exclusive}
use Rattle.core_views.specs.declared.topics.Stay.TheVariants.{Guest, Outside}
use Rattle.core_views.specs.declared.topics.Topics.{Topics}
use Rattle.mmu_core.specs.invariant.AllOver.{AllOver, LeafIsFor}
use Rattle.mmu_core.specs.invariant.HeldPart.{table_at}
use Rattle.mmu_core.specs.invariant.InvalidatedPart.{FlushesFor, IsNoLeafIn}
use Rattle.mmu_core.specs.invariant.TreePart.{HangsBelow, Position, Use}

-- Under the lock alone, outside of every section, each table hangs below the root that a walk has come to or gone through.
abbrev pub LinkedPart : (ℕ → Use) → ℕ → Topics → Type 0
LinkedPart up root t =
    t.hold ≡ Exclusive → t.stay ≡ Outside → (level : ℕ) → 1 ≤ t.walk.level → t.walk.level ≤ level → level ≤ 4 → HangsBelow up root (table_at level t.walk)

-- Each entry is so to which the actor can come in the guest from a table that its walk has come to, or gone through, in this stay.
abbrev pub InReach : (ℕ → Use) → (ℕ → Position) → (ℕ → ℕ) → Topics → (ℕ → ℕ → ℕ → Type 0) → Type 0
InReach up spot pool t IsSo =
    t.stay ≡ Guest → (level : ℕ) → 1 ≤ t.walk.level → t.walk.level ≤ level → level ≤ 4 → AllOver up spot pool (table_at level t.walk) IsSo

-- A leaf to which a virtual processor can come is the one that slots and host give.
abbrev pub ReachPart : ℕ → (ℕ → Use) → (ℕ → Position) → (ℕ → ℕ) → (ℕ → ℕ) → ℕ → (ℕ → Topics) → Type 0
ReachPart vcpus up spot pool host set topics = (v : ℕ) → v < vcpus → InReach up spot pool (topics v) (LeafIsFor pool host set)

-- It comes to none of the frames of an open invalidation, once it has made the flush that was asked of it; of a slot's, up to the publication.
abbrev pub ReachFlushPart : ℕ → ℕ → (ℕ → Use) → (ℕ → Position) → (ℕ → ℕ) → (ℕ → ℕ) → (ℕ → Topics) → Type 0
ReachFlushPart n vcpus up spot pool states topics =
    FlushesFor (λ own_ v. InReach up spot pool (topics v) (IsNoLeafIn own_)) n vcpus states topics
