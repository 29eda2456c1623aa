-- What is so once the end of an invalidation is done (kvm_main.c, kvm_mmu_invalidate_end).
use Rattle.std.specs.Prelude.{◌≡◌, ◌<◌, ◌+◌, ℕ, List, [], ◌∷◌, Some, true, false, length}
use Rattle.core_views.specs.declared.kind.Kind.{Kind}
use Rattle.core_views.specs.declared.sizes.Sizes.{Sizes}
use Rattle.core_views.specs.declared.topics.Hold.TheVariants.{Exclusive, Loose}
use Rattle.core_views.specs.declared.topics.Topics.{Topics}
use Rattle.core_views.specs.Held.{Held}
use Rattle.spte_words.specs.declared.area.Area.TheVariants as area
use Rattle.mmu_core.specs.machine.Enabled.{mmu}
use Rattle.mmu_core.specs.machine.Machine.{Legal, Step, World, effect, hand_in, run}
use Rattle.mmu_core.specs.machine.View.{word_in}
use Rattle.mmu_core.specs.machine.Worlds.{Reachable}
use Rattle.step_seats.specs.Seats.{Seat}
use Rattle.step_seats.specs.declared.turn.Turn.TheVariants.{Done}
use Rattle.range_notifier.specs.Notifying.{EndsNext, TurnsEnd}

-- The actor has got the lock alone for the end of its own invalidation, which is open, and for which the number isn't raised yet.
pub record GotLockToEnd (t : Topics) : Type 0 where
  pub alone : t.hold ≡ Exclusive
  pub opened : t.invalidations.opened ≡ true
  pub unraised : t.invalidations.raised ≡ false

-- After each of the steps the actor has the lock still, and none of them opens an invalidation of its own.
abbrev pub HoldsOn : World Held → List (Step Kind) → ℕ → Type 0
HoldsOn w [] actor = Unit {0}
HoldsOn w (s ∷ ss) actor =
    ((hand_in mmu (effect mmu w s) actor).topics.hold ≡ Exclusive)
    × ((hand_in mmu w actor).topics.invalidations.opened ≡ false → (hand_in mmu (effect mmu w s) actor).topics.invalidations.opened ≡ false)
    × HoldsOn (effect mmu w s) ss actor

-- The actor's own invalidation isn't open any more, and the lock is given back. From the one world to the other the sequence number was raised by one, and the
-- count of open invalidations lowered by one.
pub record HasEnded (z : Sizes) (h : Held) (w t : World Held) : Type 0 where
  pub closed : h.topics.invalidations.opened ≡ false
  pub loose : h.topics.hold ≡ Loose
  pub raised : word_in z t area.Seq 0 ≡ word_in z w area.Seq 0 + 1
  pub lowered : word_in z t area.Count 0 + 1 ≡ word_in z w area.Count 0

-- A turn of an end that answers that it is done leaves no own invalidation open, and the lock given back; since the world in which the end got the lock the
-- number was raised by one, and the count lowered by one, whatever steps all actors made in between.
abbrev pub EndsRaiseOnce : Type 0
EndsRaiseOnce =
    (note : ℕ) (before after : Seat) (w t : World Held) (ss : List (Step Kind)) → EndsNext note before.hand → TurnsEnd (Done tt) note before after
    → ∥ Reachable w ∥₁ → before.actor < length w.hands → Legal mmu w ss → before.tells.world ≡ Some (run mmu w ss) → after.tells.world ≡ Some t
    → GotLockToEnd (hand_in mmu w before.actor).topics → HoldsOn w ss before.actor
    → HasEnded before.hand.state.sizes after.hand w t
