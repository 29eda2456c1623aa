-- Slots change with the publication of a slot set alone, one at a time: a slot is moved or deleted within an invalidation of its guest frames, which was
-- flushed, and no other one is open then (kvm_main.c, kvm_invalidate_memslot and kvm_swap_active_memslots).
use Rattle.std.specs.Prelude.{◌≡◌, ◌≢◌, ◌⊎◌, ◌+◌, ◌≤◌, ℕ, true, false, None}
use Rattle.core_views.specs.declared.kind.Kind.{Kind}
use Rattle.core_views.specs.declared.kind.StepKind.TheVariants as kind
use Rattle.core_views.specs.declared.sizes.Sizes.{Sizes}
use Rattle.core_views.specs.declared.topics.Hold.TheVariants.{Exclusive}
use Rattle.core_views.specs.declared.topics.Topics.{Topics}
use Rattle.core_views.specs.declared.trace.Slot.{Slot}
use Rattle.core_views.specs.Held.{Held}
use Rattle.core_views.specs.Kinds.{kind_named}
use Rattle.spte_words.specs.declared.area.Area.TheVariants as area
use Rattle.part_steps.specs.SetHoldings.{own_open}
use Rattle.mmu_core.specs.invariant.Laws.{IsSound}
use Rattle.mmu_core.specs.invariant.SlotSetPart.{IsLiveIn}
use Rattle.mmu_core.specs.machine.Enabled.{mmu}
use Rattle.mmu_core.specs.machine.Machine.{May, Step, World, effect}
use Rattle.mmu_core.specs.machine.View.{word_in}
use Rattle.mmu_laws.specs.steps.InvalidationLaws.{held_by}

-- The slot is live in the published slot set, with this ID.
abbrev pub IsPublished : Sizes → World Held → ℕ → Slot → Type 0
IsPublished z w id slot = IsLiveIn (word_in z w area.Pool) (word_in z w area.Slots 0) id slot

-- It is so after the step if it was before it, and only then.
abbrev pub StaysAsPublished : Sizes → World Held → Step Kind → ℕ → Slot → Type 0
StaysAsPublished z w s id slot =
    (IsPublished z w id slot → IsPublished z (effect mmu w s) id slot) × (IsPublished z (effect mmu w s) id slot → IsPublished z w id slot)

-- The guest frames of this slot are exactly those of the actor's own open invalidation, which is of no host page, and for which the sequence number isn't
-- raised yet; each virtual processor was asked for a flush, and awaited.
pub record HasInvalidated (z : Sizes) (slot : Slot) (t : Topics) : Type 0 where
  pub opened : t.invalidations.opened ≡ true
  pub unraised : t.invalidations.raised ≡ false
  pub of_no_page : t.invalidations.own.pages ≡ None
  pub start : t.invalidations.own.start ≡ slot.base
  pub end_ : t.invalidations.own.end ≡ slot.base + slot.pages
  pub asked : z.vcpus ≤ t.flush.asked
  pub awaited : z.vcpus ≤ t.flush.awaited

-- The actor has the lock alone, and no invalidation is open but perhaps its own. Each slot that was published stays so, the same and with its ID, or the actor
-- has invalidated it. And with all IDs but one the same slots are published after the step as before it.
pub record PublishesWithin (z : Sizes) (w : World Held) (s : Step Kind) : Type 0 where
  pub alone : (held_by w s).hold ≡ Exclusive
  pub only_own : word_in z w area.Count 0 ≡ own_open (held_by w s).invalidations
  pub stays : (id : ℕ) (slot : Slot) → IsPublished z w id slot → IsPublished z (effect mmu w s) id slot ⊎ HasInvalidated z slot (held_by w s)
  pub changed : ℕ
  pub others : (id : ℕ) (slot : Slot) → id ≢ changed → StaysAsPublished z w s id slot

-- So is each step that publishes a slot set.
abbrev pub PublicationsAreInvalidated : Type 0
PublicationsAreInvalidated =
    (z : Sizes) (w : World Held) (s : Step Kind) → IsSound z w → May mmu w s → kind_named s.kind.code ≡ kind.Publish → PublishesWithin z w s

-- Each other step leaves the published slots.
abbrev pub OthersLeaveSlots : Type 0
OthersLeaveSlots =
    (z : Sizes) (w : World Held) (s : Step Kind) → IsSound z w → May mmu w s → kind_named s.kind.code ≢ kind.Publish → (id : ℕ) (slot : Slot)
    → StaysAsPublished z w s id slot
