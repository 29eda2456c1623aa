-- A line that forbids writes in the leaves of guest frames, and then has each virtual processor flush what it has cached (tdp_mmu.c, kvm_tdp_mmu_wrprot_slot,
-- kvm_tdp_mmu_clear_dirty_pt_masked; vcpu-requests.rst, KVM_REQ_TLB_FLUSH): of which frames, how far it has come with their leaves, and whose flush it has.
use Rattle.std.specs.Prelude.{◌≡◌, ◌≤◌, ◌⊎◌, ℕ, true}
use Rattle.core_views.specs.declared.topics.Flush.{Flush}
use Rattle.mmu_core.specs.forms.access.Cached.{asks_flush}

-- how far it has come: it has forbidden writes in the leaves of those of its frames that are below this one; or in all of them, and this is its flush
pub data HowFar : Type 0 where
  PassedTo : (frame : ℕ) → HowFar
  PassedAll : (flush : Flush) → HowFar

-- which guest frames it has, and how far it has come with them
pub record Forbidding : Type 1 where
  pub Has : ℕ → Type 0
  pub how_far : HowFar

-- no frame
abbrev pub no_forbidding : Forbidding
no_forbidding = record { Has = λ gfn. ⊥; how_far = PassedTo 0 }

-- It hasn't come past this one of its guest frames.
abbrev pub IsUnpassed : HowFar → ℕ → Type 0
IsUnpassed (PassedTo frame) gfn = frame ≤ gfn
IsUnpassed (PassedAll flush) gfn = ⊥

-- The virtual processor with this state word isn't asked for a flush, or has yet to make the one that it is asked for.
abbrev pub IsUnflushed : Flush → ℕ → ℕ → Type 0
IsUnflushed flush v state = (flush.asked ≤ v) ⊎ ((flush.awaited ≤ v) × (asks_flush state ≡ true))

-- Virtual processor v, with this state word, hasn't flushed yet.
abbrev pub MayHaveCached : HowFar → ℕ → ℕ → Type 0
MayHaveCached (PassedTo frame) v state = Unit {0}
MayHaveCached (PassedAll flush) v state = IsUnflushed flush v state

-- The guest frame is one of these, and its leaf isn't forbidden yet.
abbrev pub ForbidsLater : Forbidding → ℕ → Type 0
ForbidsLater f gfn = f.Has gfn × IsUnpassed f.how_far gfn

-- The guest frame is one of these, and virtual processor v, with this state word, hasn't flushed yet what it had cached of it.
abbrev pub FlushesLater : Forbidding → ℕ → ℕ → ℕ → Type 0
FlushesLater f v state gfn = f.Has gfn × MayHaveCached f.how_far v state
