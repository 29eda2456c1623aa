-- Leaves that walks have loaded: the frame of each is a page's still, or its owner keeps it until it has watched the walk's actor (locking.rst,
-- "Fast page fault").
use Rattle.std.specs.Prelude.{◌≡◌, ◌≢◌, ◌⊎◌, ◌+◌, ◌*◌, ◌/◌, ◌<◌, ◌≤◌, ℕ, Some}
use Rattle.core_views.specs.declared.sizes.Sizes.{Sizes}
use Rattle.core_views.specs.declared.topics.TableWalk.{TableWalk}
use Rattle.core_views.specs.declared.topics.Topics.{Topics}
use Rattle.core_views.specs.Sizes.{actors_of}
use Rattle.spte_words.specs.declared.spte_kind.SpteKind.TheVariants.{Leaf}
use Rattle.spte_words.specs.Entries.{kind_of, level_span, mapped_frame}
use Rattle.mmu_core.specs.invariant.FramesPart.{IsNamed, number_owned}

-- The walk holds a table, and has loaded a leaf there, which leads a guest frame of its span to this frame.
pub record HasLeafTo (frame : ℕ) (walk : TableWalk) : Type 0 where
  pub from : 1 ≤ walk.level
  pub loaded : walk.index < 512
  pub leaf : kind_of walk.level walk.entry ≡ Leaf
  pub gfn : ℕ
  pub over : gfn / level_span walk.level ≡ walk.prefix * 512 + walk.index
  pub of_frame : mapped_frame walk.level walk.entry gfn ≡ frame

-- Another one than actor i, of n, owns the frame, and hasn't watched actor i since a page was moved out of it.
pub record IsKeptFor (n : ℕ) (topics : ℕ → Topics) (i frame : ℕ) : Type 0 where
  pub by : ℕ
  pub there : by < n
  pub other : by ≢ i
  pub owns : number_owned (topics by).frames.owned ≡ Some frame
  pub unwatched : (topics by).watched ≤ i

-- The frame to which a leaf leads that an actor's walk holds is a page's, or kept for the actor. A walk holds what it has loaded in the section or stay in the
-- guest that its actor is in, or since the actor has the lock.
abbrev pub LoadedLeavesPart : Sizes → (ℕ → ℕ) → (ℕ → Topics) → Type 0
LoadedLeavesPart z host topics =
    (i frame : ℕ) → i < actors_of z → HasLeafTo frame (topics i).walk → IsNamed z.pages host frame ⊎ IsKeptFor (actors_of z) topics i frame
