-- Invalidations (kvm_main.c, mmu_invalidate_seq and mmu_invalidate_in_progress): how many are open, what an actor has loaded of them, and how many have ended.
use Rattle.std.specs.Prelude.{◌≡◌, ◌≤◌, ◌<◌, ◌+◌, ℕ, Bool, true, false, if◌then◌else◌, length, ◌⊎◌}
use Rattle.core_views.specs.declared.place.EndPlace.TheVariants as ends
use Rattle.core_views.specs.declared.place.EndPlace.{EndPlace}
use Rattle.core_views.specs.declared.place.SlotChangePlace.TheVariants as change
use Rattle.core_views.specs.declared.place.HostPlace.TheVariants as host
use Rattle.core_views.specs.declared.place.HostRunPlace.TheVariants as run
use Rattle.core_views.specs.declared.place.Place.{Place}
use Rattle.core_views.specs.declared.place.Place.TheVariants as place
use Rattle.core_views.specs.declared.sizes.Sizes.{Sizes}
use Rattle.core_views.specs.declared.topics.Checked.{Checked}
use Rattle.core_views.specs.declared.topics.Checked.TheVariants as checked
use Rattle.core_views.specs.declared.topics.Hold.TheVariants.{Exclusive}
use Rattle.core_views.specs.declared.topics.Stay.TheVariants.{Outside}
use Rattle.core_views.specs.declared.topics.Topics.{Topics}
use Rattle.core_views.specs.Held.{Held}
use Rattle.core_views.specs.Sizes.{actors_of}
use Rattle.spte_words.specs.Areas.{pool_index}
use Rattle.part_steps.specs.InvalidationHoldings.{knows_count}
use Rattle.part_steps.specs.PartTasks.{table_page}
use Rattle.part_steps.specs.StayTopics.{has_lock}
use Rattle.mmu_core.specs.machine.Sums.{one_if, sum_below}
use Rattle.spte_words.specs.declared.spte_kind.SpteKind.TheVariants.{Leaf}
use Rattle.spte_words.specs.Entries.{can_write, kind_of, with_write}

-- The count is that of the actors that have an invalidation open.
abbrev pub CountPart : ℕ → ℕ → (ℕ → Bool) → Type 0
CountPart n count opened = count ≡ sum_below n (λ i. one_if (opened i))

-- Since the actor has the lock the first guest frame of the range of open invalidations was loaded, and the one after the range.
abbrev pub knows_start : Checked → Bool
knows_start checked.Start = true
knows_start checked.Range = true
knows_start _ = false

abbrev pub knows_end : Checked → Bool
knows_end checked.Range = true
knows_end _ = false

-- And so was the sequence number.
abbrev pub knows_seq : Checked → Bool
knows_seq checked.All = true
knows_seq checked.Seq = true
knows_seq _ = false

-- What was loaded of the invalidations since the actor has the lock is what their words hold.
pub record CheckedPart (count start end_ seq : ℕ) (t : Topics) : Type 0 where
  pub counted : has_lock t.hold ≡ true → knows_count t.invalidations.checked ≡ true → t.invalidations.count ≡ count
  pub started : has_lock t.hold ≡ true → knows_start t.invalidations.checked ≡ true → t.invalidations.start ≡ start
  pub ended : has_lock t.hold ≡ true → knows_end t.invalidations.checked ≡ true → t.invalidations.end ≡ end_
  pub numbered : has_lock t.hold ≡ true → knows_seq t.invalidations.checked ≡ true → t.invalidations.seq ≡ seq

-- And so is the range that was loaded, where a check under the lock has come to its end with invalidations open.
abbrev pub KnownRangePart : ℕ → ℕ → Topics → Type 0
KnownRangePart start end_ t =
    has_lock t.hold ≡ true → t.invalidations.checked ≡ checked.All → 0 < t.invalidations.count → (t.invalidations.start ≡ start) × (t.invalidations.end ≡ end_)

-- A leaf that forbade writes was seen, and it is the same but for this now: a fast fault has allowed them in it.
pub record AllowsWrites (level now_ seen : ℕ) : Type 0 where
  pub leaf : kind_of level seen ≡ Leaf
  pub denied : can_write seen ≡ false
  pub is : now_ ≡ with_write seen

-- An entry of the level is the one that was seen, or this with writes allowed.
abbrev pub IsEntryStill : ℕ → ℕ → ℕ → Type 0
IsEntryStill level now_ seen = (now_ ≡ seen) ⊎ AllowsWrites level now_ seen

-- So is the entry that an actor has loaded that has the lock alone, outside of every section.
abbrev pub LoadedPart : (ℕ → ℕ) → Topics → Type 0
LoadedPart pool t =
    t.hold ≡ Exclusive → t.stay ≡ Outside → 1 ≤ t.walk.level → t.walk.index < 512
    → IsEntryStill t.walk.level (pool (pool_index (table_page t.walk) t.walk.index)) t.walk.entry

-- The sequence number is raised from this place of an end on.
abbrev pub is_raised_at : EndPlace → Bool
is_raised_at ends.Count = true
is_raised_at ends.SetCount = true
is_raised_at ends.Release = true
is_raised_at _ = false

-- The line may have raised the sequence number.
abbrev pub has_raised : Place → Bool
has_raised (place.SlotChange (change.End p)) = is_raised_at p
has_raised (place.SlotChange change.Watch) = true
has_raised (place.SlotChange (change.WriteProtect range p)) = true
has_raised (place.SlotChange change.Clear) = true
has_raised (place.SlotChange change.Give) = true
has_raised (place.Host (host.End p)) = is_raised_at p
has_raised (place.Host host.Watch) = true
has_raised (place.Host host.Free) = true
has_raised (place.HostRun (run.End p)) = is_raised_at p
has_raised _ = false

-- how many lines of a hand may have raised it: those that are answered, and the one under way that has
abbrev pub lines_raised : Held → ℕ
lines_raised h = length h.answers + (if has_raised h.state.place then 1 else 0)

-- The sequence number is no more than the lines that may have raised it, and no hand has more answers than lines.
pub record EndsPart (z : Sizes) (seq : ℕ) (hand : ℕ → Held) : Type 0 where
  pub raised : seq ≤ sum_below (actors_of z) (λ i. lines_raised (hand i))
  pub answered : (i : ℕ) → i < actors_of z → length (hand i).answers ≤ length (hand i).lines
