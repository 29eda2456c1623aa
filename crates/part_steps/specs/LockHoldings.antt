-- What a hand holds that gives back the lock which it has alone: no begin and no end of an invalidation is left half done, nor the entry that was loaded last.
use Rattle.std.specs.Prelude.{◌≡◌, ◌≤◌, ℕ, true, false}
use Rattle.core_views.specs.declared.topics.Hold.TheVariants.{Exclusive}
use Rattle.core_views.specs.declared.topics.Invalidations.{Invalidations}
use Rattle.core_views.specs.declared.topics.Topics.{Topics}
use Rattle.core_views.specs.Held.{Held, has_line}
use Rattle.part_steps.specs.PartHoldings.{HoldsSet}
use Rattle.part_steps.specs.SweepTopics.{is_clear}

-- No end of an invalidation is left half done: while an own one is open the sequence number isn't raised for it, so number and count change in one holding of
-- the lock.
abbrev pub HasEndedWhole : Invalidations → Type 0
HasEndedWhole n = n.opened ≡ true → n.raised ≡ false

-- No begin of one is left half done: who has searched the slots under the lock has opened an own one.
abbrev pub HasOpenedWhole : Topics → Type 0
HasOpenedWhole t = HoldsSet t → t.invalidations.opened ≡ true

-- And where an own one is open, each virtual processor was asked for a flush, and awaited.
abbrev pub HasFlushedAll : ℕ → Topics → Type 0
HasFlushedAll vcpus t = t.invalidations.opened ≡ true → (vcpus ≤ t.flush.asked) × (vcpus ≤ t.flush.awaited)

-- Nothing is left to do at the entry that was loaded last, if one was, of the table to which the walk has come: it is no link, and no leaf that is to be zapped
-- for an own invalidation, or, where none is open, that allows writes.
abbrev pub HasDoneEntry : Topics → Type 0
HasDoneEntry t = 1 ≤ t.walk.level → is_clear t.invalidations.opened t.walk ≡ true

-- The lock may be given back that the actor has alone. An actor without a line may search and walk under it, and do nothing there.
pub record MayRelease (h : Held) : Type 0 where
  pub alone : h.topics.hold ≡ Exclusive
  pub ended : HasEndedWhole h.topics.invalidations
  pub flushed : HasFlushedAll h.state.sizes.vcpus h.topics
  pub opened : has_line h ≡ true → HasOpenedWhole h.topics
  pub done : has_line h ≡ true → HasDoneEntry h.topics
