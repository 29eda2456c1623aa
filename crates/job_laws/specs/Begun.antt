-- What is so once the begin of an invalidation is done (kvm_main.c, kvm_mmu_invalidate_begin; tdp_mmu.c, kvm_tdp_mmu_unmap_gfn_range; vcpu-requests.rst).
use Rattle.std.specs.Prelude.{◌≡◌, ◌<◌, ◌≤◌, ◌+◌, ℕ, All, List, [], ◌∷◌, Some, true}
use Rattle.core_views.specs.declared.kind.Kind.{Kind}
use Rattle.core_views.specs.declared.sizes.Sizes.{Sizes}
use Rattle.core_views.specs.declared.topics.Hold.TheVariants.{Loose}
use Rattle.core_views.specs.Held.{Held}
use Rattle.spte_words.specs.declared.area.Area.TheVariants as area
use Rattle.spte_words.specs.declared.spte_kind.SpteKind.TheVariants.{Leaf}
use Rattle.spte_words.specs.Entries.{kind_of}
use Rattle.part_steps.specs.declared.invalidations.Target.{Target}
use Rattle.part_steps.specs.declared.invalidations.Target.TheVariants as aim
use Rattle.mmu_core.specs.alone.Leads.{LeadsTo}
use Rattle.mmu_core.specs.invariant.InvalidatedPart.{GivesOne, SlotGives, keeps_empty, may_use}
use Rattle.mmu_core.specs.forms.access.Cached.{covers}
use Rattle.mmu_core.specs.machine.Enabled.{mmu}
use Rattle.mmu_core.specs.machine.Machine.{Legal, Step, World, effect, hand_in, run}
use Rattle.mmu_core.specs.machine.View.{word_in}
use Rattle.step_seats.specs.Seats.{Seat}
use Rattle.step_seats.specs.declared.turn.Turn.TheVariants.{Done}
use Rattle.range_notifier.specs.declared.begin.BeginJob.{BeginJob}
use Rattle.range_notifier.specs.Notifying.{BeginsNext, TurnsBegin}

-- The guest frame is one of the target's: of the slot, or of those that the published slots give to the host page, or to one of the run.
abbrev pub IsOfTarget : Target → Sizes → World Held → ℕ → Type 0
IsOfTarget (aim.Slot slot) z w gfn = (slot.base ≤ gfn) × (gfn < slot.base + slot.pages)
IsOfTarget (aim.Page page) z w gfn = SlotGives (word_in z w area.Pool) (word_in z w area.Slots 0) page gfn
IsOfTarget (aim.Run run) z w gfn = GivesOne (word_in z w area.Pool) (word_in z w area.Slots 0) (Some run) gfn

-- No links lead from the root to a leaf of a guest frame of the target, and no virtual processor that may use what it has cached has anything cached of one.
pub record NothingIsLeft (target : Target) (z : Sizes) (w : World Held) : Type 0 where
  pub leaves : (gfn at entry : ℕ) → IsOfTarget target z w gfn
      → LeadsTo (word_in z w area.Pool) 4 (word_in z w area.Root 0) gfn at entry → kind_of at entry ≡ Leaf → ⊥
  pub cached : (v gfn : ℕ) → v < z.vcpus → IsOfTarget target z w gfn → may_use (word_in z w area.State v) (hand_in mmu w v).topics.stay ≡ true
      → All (λ t. covers gfn t ≡ true → ⊥) (hand_in mmu w v).cached.items

-- After each of the steps the actor's own invalidation is open still; and, where it is of a slot, the actor has published no slot set in the place of the one
-- with this slot.
abbrev pub StaysBegun : World Held → List (Step Kind) → ℕ → Type 0
StaysBegun w [] actor = Unit {0}
StaysBegun w (s ∷ ss) actor = (keeps_empty (hand_in mmu (effect mmu w s) actor).topics ≡ true) × StaysBegun (effect mmu w s) ss actor

-- The actor has given the lock back. Its own invalidation is open, with no slot set published in it; and it has asked each virtual processor for a flush, and
-- awaited it.
pub record InvalidationHasBegun (h : Held) : Type 0 where
  pub loose : h.topics.hold ≡ Loose
  pub opened : keeps_empty h.topics ≡ true
  pub asked : h.state.sizes.vcpus ≤ h.topics.flush.asked
  pub awaited : h.state.sizes.vcpus ≤ h.topics.flush.awaited

-- A turn of a begin that answers that it is done, where a world is told, leaves the lock given back, the invalidation open, and each virtual processor asked
-- for
-- a flush and awaited.
abbrev pub DoneHasBegun : Type 0
DoneHasBegun =
    (job : BeginJob) (note : ℕ) (before after : Seat) (w : World Held) → BeginsNext job note before.hand → TurnsBegin job (Done tt) note before after
    → after.tells.world ≡ Some w → InvalidationHasBegun after.hand

-- In the world after such a turn no linked leaf, and nothing cached that may be used, is of the target's guest frames; nor after any further steps of all
-- actors, for as long as the invalidation stays begun.
abbrev pub BegunFramesAreEmpty : Type 0
BegunFramesAreEmpty =
    (job : BeginJob) (note : ℕ) (before after : Seat) (w : World Held) (ss : List (Step Kind)) → BeginsNext job note before.hand
    → TurnsBegin job (Done tt) note before after → after.tells.world ≡ Some w → Legal mmu w ss → StaysBegun w ss before.actor
    → NothingIsLeft job.target before.hand.state.sizes (run mmu w ss)
