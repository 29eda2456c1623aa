-- What a hand holds that a step of an invalidation needs, and the change of a host page within one (kvm_main.c, kvm_mmu_invalidate_begin and
-- kvm_mmu_invalidate_end).
use Rattle.std.specs.Prelude.{◌≡◌, ◌+◌, ◌-◌, ◌<◌, ◌≤◌, ◌^◌, ℕ, Bool, true, false, ◌==◌, nat_lt, if◌then◌else◌, is_some, Some}
use Rattle.core_views.specs.declared.topics.Checked.{Checked}
use Rattle.core_views.specs.declared.topics.Checked.TheVariants as checked
use Rattle.core_views.specs.declared.topics.Hold.TheVariants.{Exclusive, Loose}
use Rattle.core_views.specs.declared.topics.Stay.TheVariants.{Outside}
use Rattle.core_views.specs.declared.topics.PageRun.{PageRun}
use Rattle.core_views.specs.declared.topics.Topics.{Topics}
use Rattle.core_views.specs.Held.{Held}
use Rattle.core_views.specs.HostChanges.{is_own}
use Rattle.part_steps.specs.declared.invalidations.Target.{Target}
use Rattle.part_steps.specs.InvalidationRange.{IsAimed, has_searched, invalidated_by, is_within_range, page_looked, run_of_target, run_aimed}
use Rattle.part_steps.specs.InvalidationRange.{range_end, range_start, target_end, target_start}
use Rattle.part_steps.specs.PageRuns.{IsOnRun, run_of}
use Rattle.part_steps.specs.FrameTopics.{is_uncopied}
use Rattle.part_steps.specs.PartHoldings.{HoldsSet}
use Rattle.part_steps.specs.StayTopics.{is_alone, no_flush}
use Rattle.part_steps.specs.SweepHoldings.{IsSwept}
use Rattle.spte_words.specs.Entries.{level_span}

-- ---- what was loaded of their words

-- The count of open invalidations was loaded since the actor has the lock.
abbrev pub knows_count : Checked → Bool
knows_count checked.Nothing = false
knows_count checked.Seq = false
knows_count _ = true

-- It was loaded and is 0, or so was the range of those that are open.
abbrev pub has_counted : Checked → ℕ → Bool
has_counted checked.Count count = count == 0
has_counted checked.Range count = nat_lt 0 count
has_counted _ count = false

-- And the start of the range was stored.
abbrev pub has_widened : Checked → ℕ → Bool
has_widened checked.Start count = count == 0
has_widened checked.Range count = nat_lt 0 count
has_widened _ count = false

-- ---- the begin

-- An actor may open an invalidation of its own: it has the lock alone, outside of every section, has none open, and has searched the slots for what it is to
-- invalidate.
pub record IsOpening (target : Target) (t : Topics) : Type 0 where
  pub alone : t.hold ≡ Exclusive
  pub outside : t.stay ≡ Outside
  pub closed : t.invalidations.opened ≡ false
  pub holds_set : HoldsSet t
  pub aimed : IsAimed target t
  pub searched : has_searched target t.search ≡ true

-- The start of the range may be stored: the range is the one of the open invalidations, with the target's frames.
pub record MaySetStart (first gfn : ℕ) (t : Topics) : Type 0 where
  pub target : Target
  pub opening : IsOpening target t
  pub counted : has_counted t.invalidations.checked t.invalidations.count ≡ true
  pub own_ : first ≡ target_start target t.search t.row
  pub is : gfn ≡ range_start target t

-- And then its end.
pub record MaySetEnd (end_ gfn : ℕ) (t : Topics) : Type 0 where
  pub target : Target
  pub opening : IsOpening target t
  pub widened : has_widened t.invalidations.checked t.invalidations.count ≡ true
  pub pages : t.invalidations.own.pages ≡ run_of_target target
  pub start : t.invalidations.own.start ≡ target_start target t.search t.row
  pub own_ : end_ ≡ target_end target t.search t.row
  pub is : gfn ≡ range_end target t

-- One more may be counted with the actor's own: its frames lie below 2 ^ 36, the range that is stored has them, no table is held and no virtual processor was
-- asked for a flush yet, and no word of a page is copied.
pub record MayOpen (t : Topics) : Type 0 where
  pub target : Target
  pub opening : IsOpening target t
  pub known : t.invalidations.checked ≡ checked.Range
  pub own_ : t.invalidations.own ≡ invalidated_by target t.search t.row
  pub low : t.invalidations.own.end ≤ 2 ^ 36
  pub within : is_within_range t.invalidations.own t.invalidations ≡ true
  pub no_table : t.walk.level ≡ 0
  pub unasked : t.flush ≡ no_flush
  pub uncopied : is_uncopied t.frames.owned ≡ true

-- What may be stored as the count of open invalidations: it was loaded under the lock that the actor has alone, outside of every section, and it is
-- one more with the actor's own, or one less, once the sequence number is raised.
pub record MayCount (count : ℕ) (t : Topics) : Type 0 where
  pub alone : t.hold ≡ Exclusive
  pub outside : t.stay ≡ Outside
  pub knows : knows_count t.invalidations.checked ≡ true
  pub is : count ≡ (if t.invalidations.opened then t.invalidations.count - 1 else t.invalidations.count + 1)
  pub opens : t.invalidations.opened ≡ false → MayOpen t
  pub closes : t.invalidations.opened ≡ true → t.invalidations.raised ≡ true

-- The host pages for which an invalidation is opened, if it is for some, are the actor's own. (They are all that the host maps as one with the one that was
-- looked at: mmu.rst, "Large pages".)
abbrev pub OpensOnOwnPages : Held → Type 0
OpensOnOwnPages h =
    h.topics.invalidations.opened ≡ false → (run : PageRun) (page : ℕ) → run_aimed h.topics ≡ Some run → IsOnRun page (Some run)
    → is_own h.state.sizes h.state.actor page ≡ true

-- The next virtual processor may be asked for a flush, outside of every section: with an own invalidation open under the lock that the actor has alone, the
-- first one once no leaf of its frames is left; and with none without the lock.
pub record MayAsk (index : ℕ) (h : Held) : Type 0 where
  pub low : index < h.state.sizes.vcpus
  pub next : index ≡ h.topics.flush.asked
  pub outside : h.topics.stay ≡ Outside
  pub alone : h.topics.invalidations.opened ≡ true → h.topics.hold ≡ Exclusive
  pub swept : h.topics.invalidations.opened ≡ true → h.topics.flush.asked ≡ 0 → IsSwept h.topics
  pub loose : h.topics.invalidations.opened ≡ false → h.topics.hold ≡ Loose

-- ---- between begin and end

-- A host page may be changed: it is the actor's own, was looked up, and is the one that the actor's own open invalidation is of; and each virtual processor was
-- asked for a flush, and awaited. The actor doesn't have the lock alone.
pub record MayChange (h : Held) : Type 0 where
  pub looked : is_some h.topics.host ≡ true
  pub own_ : is_own h.state.sizes h.state.actor (page_looked h.topics.host) ≡ true
  pub opened : h.topics.invalidations.opened ≡ true
  pub unraised : h.topics.invalidations.raised ≡ false
  pub invalid : h.topics.invalidations.own.pages ≡ Some (run_of (page_looked h.topics.host))
  pub asked : h.state.sizes.vcpus ≤ h.topics.flush.asked
  pub awaited : h.state.sizes.vcpus ≤ h.topics.flush.awaited
  pub unlocked : is_alone h.topics.hold ≡ false

-- So may the next page of a run of several that the actor's own open invalidation is of, where not all of them are changed yet.
pub record MayChangeNext (h : Held) : Type 0 where
  pub run : PageRun
  pub is : h.topics.invalidations.own.pages ≡ Some run
  pub several : 2 ≤ run.level
  pub left : run.changed < level_span run.level
  pub opened : h.topics.invalidations.opened ≡ true
  pub unraised : h.topics.invalidations.raised ≡ false
  pub asked : h.state.sizes.vcpus ≤ h.topics.flush.asked
  pub awaited : h.state.sizes.vcpus ≤ h.topics.flush.awaited
  pub unlocked : is_alone h.topics.hold ≡ false

-- ---- the end

-- An actor whose own invalidation is open may raise the sequence number, once, which it has loaded under the lock that it has alone, outside of every section;
-- where it is of a run of several pages, all of them are changed.
pub record MayEndInvalidation (t : Topics) : Type 0 where
  pub alone : t.hold ≡ Exclusive
  pub outside : t.stay ≡ Outside
  pub opened : t.invalidations.opened ≡ true
  pub unraised : t.invalidations.raised ≡ false
  pub loaded : t.invalidations.checked ≡ checked.Seq
  pub all : (run : PageRun) → t.invalidations.own.pages ≡ Some run → 2 ≤ run.level → run.changed ≡ level_span run.level
