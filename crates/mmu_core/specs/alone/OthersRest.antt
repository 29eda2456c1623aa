-- One actor alone: what the others hold, and who has the lock.
use Rattle.std.specs.Prelude.{◌≡◌, ◌≢◌, ◌<◌, ℕ, false, length, None}
use Rattle.core_views.specs.Held.{Held}
use Rattle.mmu_core.specs.machine.Enabled.{mmu}
use Rattle.mmu_core.specs.machine.Machine.{World, hand_in}
use Rattle.part_steps.specs.PartSteps.{IsAtRest}
use Rattle.part_steps.specs.StayTopics.{has_lock, is_alone}
use Rattle.core_views.specs.declared.topics.Topics.{Topics}

-- The actor holds nothing, no page is retired by it, no invalidation of its own is open, and it owns no frame.
pub record HoldsNothing (t : Topics) : Type 0 where
  pub rests : IsAtRest t
  pub retires_none : t.retired ≡ None
  pub opens_none : t.invalidations.opened ≡ false
  pub owns_no_frame : t.frames.owned ≡ None

-- Each other actor holds nothing.
abbrev pub OthersRest : ℕ → World Held → Type 0
OthersRest a w = (i : ℕ) → i < length w.hands → i ≢ a → HoldsNothing (hand_in mmu w i).topics

-- No other actor has the lock.
abbrev pub NoOtherHasLock : ℕ → World Held → Type 0
NoOtherHasLock a w = (i : ℕ) → i < length w.hands → i ≢ a → has_lock (hand_in mmu w i).topics.hold ≡ false

-- No actor has the lock alone.
abbrev pub NoneHasLockAlone : World Held → Type 0
NoneHasLockAlone w = (i : ℕ) → i < length w.hands → is_alone (hand_in mmu w i).topics.hold ≡ false
