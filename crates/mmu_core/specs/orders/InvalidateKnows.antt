-- What a line knows that begins or ends an invalidation, at each of its places, from what its actor holds alone.
use Rattle.std.specs.Prelude.{◌≡◌, ◌<◌, ◌≤◌, ◌+◌, ◌^◌, ℕ, Bool, true, false, ◌||◌, nat_le, nat_lt, not, Some}
use Rattle.core_views.specs.declared.place.BeginPlace.{BeginPlace}
use Rattle.core_views.specs.declared.place.BeginPlace.TheVariants as begins
use Rattle.core_views.specs.declared.place.EndPlace.{EndPlace}
use Rattle.core_views.specs.declared.place.EndPlace.TheVariants as ends
use Rattle.core_views.specs.declared.sizes.Sizes.{Sizes}
use Rattle.core_views.specs.declared.topics.Checked.TheVariants as checked
use Rattle.core_views.specs.declared.topics.Hold.TheVariants.{Exclusive}
use Rattle.core_views.specs.declared.topics.Invalidated.{Invalidated}
use Rattle.core_views.specs.declared.topics.Invalidations.{Invalidations}
use Rattle.core_views.specs.declared.topics.PageRun.{PageRun}
use Rattle.core_views.specs.declared.topics.Stay.TheVariants.{Outside}
use Rattle.core_views.specs.declared.trace.Slot.{Slot}
use Rattle.core_views.specs.declared.topics.Topics.{Topics}
use Rattle.part_steps.specs.declared.invalidations.Target.{Target}
use Rattle.part_steps.specs.declared.invalidations.Target.TheVariants as aim
use Rattle.part_steps.specs.InvalidationHoldings.{has_counted, has_widened}
use Rattle.part_steps.specs.SweepHoldings.{IsSwept}
use Rattle.part_steps.specs.InvalidationRange.{has_searched, invalidated_by, is_within_range, run_of_target, target_end, target_start}
use Rattle.part_steps.specs.PartHoldings.{HoldsSet}
use Rattle.spte_words.specs.Entries.{level_span}
use Rattle.mmu_core.specs.orders.SweepKnows.{IsAtEntry, IsAtLeaf}
use Rattle.mmu_core.specs.orders.SweepSteps.{range_of}
use Rattle.part_steps.specs.PartSteps.{IsFree}
use Rattle.part_steps.specs.StayTopics.{no_flush}
use Rattle.part_steps.specs.SweepTopics.{is_clear}
use Rattle.mmu_core.specs.lines.LockKnows.{HoldsLock}

-- It has the lock alone, outside of every section.
pub record HasLockAlone (t : Topics) : Type 0 where
  pub outside : t.stay ≡ Outside
  pub alone : t.hold ≡ Exclusive

-- It is alone, and its own invalidation is open, or isn't.
pub record IsAloneWith (opened : Bool) (t : Topics) : Type 0 where
  pub alone : HasLockAlone t
  pub is : t.invalidations.opened ≡ opened

-- And no virtual processor was asked for a flush since it took the lock.
pub record IsSweeping (opened : Bool) (t : Topics) : Type 0 where
  pub with_lock : IsAloneWith opened t
  pub unasked : t.flush ≡ no_flush

-- The frames that an invalidation is of are the target's: those of the slot, or those of a run, one at most where this is one page, all below 2 ^ 36.
abbrev pub FramesAre : Target → Invalidated → Type 0
FramesAre (aim.Page page) own_ = (own_.end ≤ own_.start + 1) × (own_.end ≤ 2 ^ 36)
FramesAre (aim.Run run) own_ = own_.end ≤ 2 ^ 36
FramesAre (aim.Slot slot) own_ = (own_.start ≡ slot.base) × (own_.end ≡ slot.base + slot.pages) × (own_.end ≤ 2 ^ 36)

-- It searches the slots, before it opens its own invalidation, and holds no table.
pub record Searches (t : Topics) : Type 0 where
  pub sweeping : IsSweeping false t
  pub no_table : t.walk.level ≡ 0

-- It has searched them for the target.
pub record HasSearched (target : Target) (t : Topics) : Type 0 where
  pub searches : Searches t
  pub set : HoldsSet t
  pub searched : has_searched target t.search ≡ true

-- The start of the range that it has stored is no higher than the first of the frames from `first` up to `last`, if there are any.
abbrev pub starts_low : ℕ → ℕ → Invalidations → Bool
starts_low first last n = not (nat_lt first last) || nat_le n.start first

-- Its own invalidation is of the target's frames, which are few enough, and it hasn't raised the sequence number for it yet, nor loaded a word of the
-- invalidations since.
pub record IsOfOwn (target : Target) (n : Invalidations) : Type 0 where
  pub of_pages : n.own.pages ≡ run_of_target target
  pub few : FramesAre target n.own
  pub unraised : n.raised ≡ false
  pub unchecked : n.checked ≡ checked.Nothing

-- It sweeps the tables for these frames.
pub record Sweeps (target : Target) (t : Topics) : Type 0 where
  pub sweeping : IsSweeping true t
  pub of_own : IsOfOwn target t.invalidations

-- What it knows at each place of the begin.
abbrev pub BeginKnows : BeginPlace → Sizes → Target → Topics → Type 0
BeginKnows begins.Exclude z target t = IsFree t × (t.invalidations.opened ≡ false)
BeginKnows (begins.Find begun) z target t = Searches t × (begun ≡ true → HoldsSet t × (t.search.id ≤ 31) × (has_searched target t.search ≡ false))
BeginKnows begins.Count z target t = HasSearched target t
BeginKnows begins.RangeStart z target t = HasSearched target t × (t.invalidations.checked ≡ checked.Count) × (0 < t.invalidations.count)
BeginKnows begins.RangeEnd z target t = HasSearched target t × (t.invalidations.checked ≡ checked.Start) × (0 < t.invalidations.count)
BeginKnows begins.SetStart z target t = HasSearched target t × (has_counted t.invalidations.checked t.invalidations.count ≡ true)
BeginKnows begins.SetEnd z target t =
    HasSearched target t × (has_widened t.invalidations.checked t.invalidations.count ≡ true)
    × (t.invalidations.own.pages ≡ run_of_target target) × (t.invalidations.own.start ≡ target_start target t.search t.row)
    × (starts_low (target_start target t.search t.row) (target_end target t.search t.row) t.invalidations ≡ true)
BeginKnows begins.SetCount z target t =
    HasSearched target t × (t.invalidations.checked ≡ checked.Range) × (t.invalidations.own ≡ invalidated_by target t.search t.row)
    × (is_within_range t.invalidations.own t.invalidations ≡ true)
BeginKnows (begins.Walk rooted) z target t =
    Sweeps target t × (rooted ≡ true → IsAtEntry true (range_of t.invalidations.own) t.walk)
BeginKnows begins.Zap z target t = Sweeps target t × IsAtLeaf true (range_of t.invalidations.own) t.walk
BeginKnows begins.Ask z target t =
    IsAloneWith true t × IsOfOwn target t.invalidations × (t.flush.asked < z.vcpus) × (t.flush.awaited ≡ 0) × (t.flush.asked ≡ 0 → IsSwept t)
    × (is_clear true t.walk ≡ true)
BeginKnows begins.Await z target t =
    IsAloneWith true t × IsOfOwn target t.invalidations × (t.flush.asked ≡ z.vcpus) × (t.flush.awaited < z.vcpus) × (is_clear true t.walk ≡ true)
BeginKnows begins.Release z target t =
    IsAloneWith true t × IsOfOwn target t.invalidations × (t.flush.asked ≡ z.vcpus) × (z.vcpus ≤ t.flush.awaited) × (is_clear true t.walk ≡ true)

-- Between begin and end: it holds nothing but its open invalidation and, perhaps, a page.
pub record IsOpen (t : Topics) : Type 0 where
  pub rests : IsFree t
  pub opened : t.invalidations.opened ≡ true
  pub unraised : t.invalidations.raised ≡ false

-- Where its own invalidation is of a run of several host pages, all of them are changed.
abbrev pub HasChangedAll : Topics → Type 0
HasChangedAll t = (run : PageRun) → t.invalidations.own.pages ≡ Some run → 2 ≤ run.level → run.changed ≡ level_span run.level

-- what it knows at each place of the end, at which it holds no table and no slot set
abbrev pub EndKnows : EndPlace → Topics → Type 0
EndKnows ends.Exclude t = IsOpen t × HasChangedAll t
EndKnows ends.Seq t =
    IsAloneWith true t × (t.invalidations.checked ≡ checked.Nothing) × (t.invalidations.raised ≡ false) × HoldsLock Exclusive t × HasChangedAll t
EndKnows ends.SetSeq t =
    IsAloneWith true t × (t.invalidations.checked ≡ checked.Seq) × (t.invalidations.raised ≡ false) × HoldsLock Exclusive t × HasChangedAll t
EndKnows ends.Count t = IsAloneWith true t × (t.invalidations.raised ≡ true) × HoldsLock Exclusive t
EndKnows ends.SetCount t = IsAloneWith true t × (t.invalidations.checked ≡ checked.Count) × (t.invalidations.raised ≡ true) × HoldsLock Exclusive t
EndKnows ends.Release t = IsAloneWith false t × (t.invalidations.checked ≡ checked.Nothing) × HoldsLock Exclusive t

-- The guest frames of this slot are exactly those of the actor's own open invalidation, for which the sequence number isn't raised yet; each virtual processor
-- was asked for a flush, and awaited.
pub record IsFlushedOut (vcpus : ℕ) (slot : Slot) (t : Topics) : Type 0 where
  pub opened : t.invalidations.opened ≡ true
  pub unraised : t.invalidations.raised ≡ false
  pub start : t.invalidations.own.start ≡ slot.base
  pub end_ : t.invalidations.own.end ≡ slot.base + slot.pages
  pub asked : vcpus ≤ t.flush.asked
  pub awaited : vcpus ≤ t.flush.awaited
