-- Which steps change the sequence number of invalidations, and how many are open (kvm_main.c, mmu_invalidate_seq and mmu_invalidate_in_progress); which
-- leaves are zapped (tdp_mmu.c, kvm_tdp_mmu_unmap_gfn_range); which host words are changed within them, or brought in; and what is done where the lock is given
-- back.
use Rattle.std.specs.Prelude.{◌≡◌, ◌⊎◌, ◌+◌, ◌-◌, ◌<◌, ◌≤◌, ℕ, true, false, if◌then◌else◌, Some}
use Rattle.core_views.specs.declared.kind.Kind.{Kind}
use Rattle.core_views.specs.declared.kind.StepKind.TheVariants as kind
use Rattle.core_views.specs.declared.sizes.Sizes.{Sizes}
use Rattle.core_views.specs.declared.topics.Hold.TheVariants.{Exclusive}
use Rattle.core_views.specs.declared.topics.PageRun.{PageRun}
use Rattle.core_views.specs.declared.topics.Stay.TheVariants.{Section}
use Rattle.core_views.specs.declared.topics.Topics.{Topics}
use Rattle.core_views.specs.Held.{Held, has_line}
use Rattle.core_views.specs.HostChanges.{is_own}
use Rattle.core_views.specs.Kinds.{kind_named}
use Rattle.spte_words.specs.declared.area.Area.TheVariants as area
use Rattle.spte_words.specs.declared.spte_kind.SpteKind.TheVariants.{Leaf}
use Rattle.spte_words.specs.Areas.{place, pool_index}
use Rattle.spte_words.specs.Entries.{kind_of, level_span}
use Rattle.spte_words.specs.HostWords.{host_present, with_presence}
use Rattle.part_steps.specs.InvalidationHoldings.{MayCount, MaySetEnd, MaySetStart}
use Rattle.part_steps.specs.LockHoldings.{MayRelease}
use Rattle.part_steps.specs.LogHoldings.{MayProtect}
use Rattle.part_steps.specs.PartTasks.{entry_index}
use Rattle.part_steps.specs.SweepHoldings.{MayZap}
use Rattle.part_steps.specs.Tasks.{map_of}
use Rattle.mmu_core.specs.alone.FaultAlone.{LeadsTo}
use Rattle.mmu_core.specs.invariant.InvalidatedPart.{IsIn}
use Rattle.mmu_core.specs.invariant.Laws.{IsSound}
use Rattle.mmu_core.specs.machine.Enabled.{mmu}
use Rattle.mmu_core.specs.machine.Machine.{May, Step, World, effect, hand_in}
use Rattle.mmu_core.specs.machine.View.{word_in}
use Rattle.part_steps.specs.PageRuns.{IsOnRun, page_next}

-- what the actor holds that makes the step
abbrev pub held_by : World Held → Step Kind → Topics
held_by w s = (hand_in mmu w s.actor).topics

-- The step ends an invalidation of its actor's own, which is open: the actor has the lock alone, and the number is one more after it.
pub record RaisesSequence (z : Sizes) (w : World Held) (s : Step Kind) : Type 0 where
  pub sets : kind_named s.kind.code ≡ kind.Set
  pub alone : (held_by w s).hold ≡ Exclusive
  pub opened : (held_by w s).invalidations.opened ≡ true
  pub raised : word_in z (effect mmu w s) area.Seq 0 ≡ word_in z w area.Seq 0 + 1

-- The step opens an invalidation of its actor's own, or closes the one that is open, for which the number was raised: the actor has the lock alone, and one
-- more is open, or one less.
pub record CountsInvalidation (z : Sizes) (w : World Held) (s : Step Kind) : Type 0 where
  pub sets : kind_named s.kind.code ≡ kind.Set
  pub alone : (held_by w s).hold ≡ Exclusive
  pub counted : word_in z (effect mmu w s) area.Count 0
      ≡ (if (held_by w s).invalidations.opened then word_in z w area.Count 0 - 1 else word_in z w area.Count 0 + 1)
  pub ends : (held_by w s).invalidations.opened ≡ true → (held_by w s).invalidations.raised ≡ true

-- Each other step leaves the number, and the count.
abbrev pub SequenceIsRaised : Type 0
SequenceIsRaised =
    (z : Sizes) (w : World Held) (s : Step Kind) → IsSound z w → May mmu w s
    → (word_in z (effect mmu w s) area.Seq 0 ≡ word_in z w area.Seq 0) ⊎ RaisesSequence z w s

abbrev pub InvalidationsAreCounted : Type 0
InvalidationsAreCounted =
    (z : Sizes) (w : World Held) (s : Step Kind) → IsSound z w → May mmu w s
    → (word_in z (effect mmu w s) area.Count 0 ≡ word_in z w area.Count 0) ⊎ CountsInvalidation z w s

-- The actor may neither store an end of a range nor a count, nor zap a leaf, nor forbid writes in one.
pub record HasNoneLeft (t : Topics) : Type 0 where
  pub no_start : (first gfn : ℕ) → MaySetStart first gfn t → ⊥
  pub no_end : (last gfn : ℕ) → MaySetEnd last gfn t → ⊥
  pub no_count : (count : ℕ) → MayCount count t → ⊥
  pub no_zap : (gfn : ℕ) → MayZap gfn t → ⊥
  pub no_protect : (gfn : ℕ) → MayProtect gfn t → ⊥

-- A step that gives back the lock which its actor has alone leaves no end of an invalidation half done, so no step on the lock stands between the one that
-- raises the number and the one that lowers the count; what is open is flushed; and a line has no end of a range and no count left to store, no leaf to zap,
-- and none to forbid writes in.
abbrev pub ReleasesLeaveNothing : Type 0
ReleasesLeaveNothing =
    (z : Sizes) (w : World Held) (s : Step Kind) → IsSound z w → May mmu w s → kind_named s.kind.code ≡ kind.Release
    → MayRelease (hand_in mmu w s.actor) × (has_line (hand_in mmu w s.actor) ≡ true → HasNoneLeft (held_by w s))

-- The actor has the lock alone, and its own invalidation is open; the step's word is the entry, of a table of this level, to which links lead from the root a
-- guest frame that this invalidation is of, and a leaf.
pub record ZapsOwnFrame (z : Sizes) (w : World Held) (s : Step Kind) : Type 0 where
  pub alone : (held_by w s).hold ≡ Exclusive
  pub opened : (held_by w s).invalidations.opened ≡ true
  pub gfn : ℕ
  pub of_own : IsIn (held_by w s).invalidations.own gfn
  pub level : ℕ
  pub page : ℕ
  pub on : s.kind.word ≡ place (map_of z) area.Pool (pool_index page (entry_index gfn level))
  pub leads : LeadsTo (word_in z w area.Pool) 4 (word_in z w area.Root 0) gfn level (word_in z w area.Pool (pool_index page (entry_index gfn level)))
  pub leaf : kind_of level (word_in z w area.Pool (pool_index page (entry_index gfn level))) ≡ Leaf

-- So is each step that zaps.
abbrev pub ZapsAreOfOpenInvalidations : Type 0
ZapsAreOfOpenInvalidations =
    (z : Sizes) (w : World Held) (s : Step Kind) → IsSound z w → May mmu w s → kind_named s.kind.code ≡ kind.Zap → ZapsOwnFrame z w s

-- The step is on the host word of a page of its actor's own, and an invalidation of the actor's own is open, with no number raised for it yet, of a run that
-- has this page: it is the first of those that aren't changed yet. Each virtual processor was asked for a flush, and awaited.
pub record ChangesOwnPage (z : Sizes) (w : World Held) (s : Step Kind) : Type 0 where
  pub page : ℕ
  pub on : s.kind.word ≡ place (map_of z) area.Host page
  pub own_ : is_own z (hand_in mmu w s.actor).state.actor page ≡ true
  pub opened : (held_by w s).invalidations.opened ≡ true
  pub unraised : (held_by w s).invalidations.raised ≡ false
  pub run : PageRun
  pub invalid : (held_by w s).invalidations.own.pages ≡ Some run
  pub on_run : IsOnRun page (Some run)
  pub next : page ≡ page_next run
  pub left : run.changed < level_span run.level
  pub asked : z.vcpus ≤ (held_by w s).flush.asked
  pub awaited : z.vcpus ≤ (held_by w s).flush.awaited

-- So is each step that changes a host word, whatever it leaves there.
abbrev pub ChangesAreInvalidated : Type 0
ChangesAreInvalidated =
    (z : Sizes) (w : World Held) (s : Step Kind) → IsSound z w → May mmu w s → kind_named s.kind.code ≡ kind.Change → ChangesOwnPage z w s

-- The step is in a section, on the host word of the page that its actor looked at, which was absent then: it expects this word, and puts it with the page
-- present.
pub record BringsAbsentPage (z : Sizes) (w : World Held) (s : Step Kind) : Type 0 where
  pub page : ℕ
  pub on : s.kind.word ≡ place (map_of z) area.Host page
  pub section : (held_by w s).stay ≡ Section
  pub looked : (held_by w s).host ≡ Some (record { page = page; word = s.kind.old })
  pub absent : host_present s.kind.old ≡ false
  pub puts : s.kind.new ≡ with_presence true s.kind.old

-- So is each step that brings a page in, won or lost.
abbrev pub BringsAreOfAbsentPages : Type 0
BringsAreOfAbsentPages =
    (z : Sizes) (w : World Held) (s : Step Kind) → IsSound z w → May mmu w s → kind_named s.kind.code ≡ kind.Bring → BringsAbsentPage z w s
