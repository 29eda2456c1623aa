-- What a hand holds that a step of a sweep needs (tdp_mmu.c, tdp_mmu_zap_leafs and wrprot_gfn_range).
use Rattle.std.specs.Prelude.{◌≡◌, ◌<◌, ◌≤◌, ◌||◌, ◌^◌, ℕ, true, false, is_some, nat_lt}
use Rattle.core_views.specs.declared.topics.Hold.TheVariants.{Exclusive}
use Rattle.core_views.specs.declared.topics.Invalidated.{Invalidated}
use Rattle.core_views.specs.declared.topics.Stay.TheVariants.{Outside}
use Rattle.core_views.specs.declared.topics.TableWalk.{TableWalk}
use Rattle.core_views.specs.declared.topics.Topics.{Topics}
use Rattle.spte_words.specs.declared.spte_kind.SpteKind.TheVariants.{Leaf}
use Rattle.spte_words.specs.Entries.{kind_of}
use Rattle.part_steps.specs.PartHoldings.{IsOver, SawEntry}
use Rattle.part_steps.specs.SweepTopics.{gone_up, has_entry, is_clear, swept_to}

-- The next entry of a sweep may be loaded, over the guest frame to which it has come: the lock is the actor's alone, its own invalidation is open, or it has a
-- retired page, and there is nothing to do at what was loaded last, or nothing was loaded yet of the table. With an open invalidation the sweep is of its guest
-- frames.
pub record MaySweep (gfn : ℕ) (t : Topics) : Type 0 where
  pub alone : t.hold ≡ Exclusive
  pub outside : t.stay ≡ Outside
  pub sweeps : (t.invalidations.opened || is_some t.retired) ≡ true
  pub there : 1 ≤ t.walk.level
  pub clear : is_clear t.invalidations.opened t.walk ≡ true
  pub of_own : t.invalidations.opened ≡ true → (gfn ≡ swept_to true t.invalidations.own.start t.walk) × (gfn < t.invalidations.own.end)
  pub over : IsOver gfn (gone_up t.walk)

-- A walk down to the leaf of the guest frame may begin anew at its root: the lock is the actor's alone, it sweeps nothing, and an entry was loaded that leads
-- no further.
pub record MayWalkAnew (gfn : ℕ) (t : Topics) : Type 0 where
  pub alone : t.hold ≡ Exclusive
  pub outside : t.stay ≡ Outside
  pub sweeps_not : (t.invalidations.opened || is_some t.retired) ≡ false
  pub there : 1 ≤ t.walk.level
  pub loaded : has_entry t.walk ≡ true
  pub small : gfn < 2 ^ 36

-- A sweep has come to the end of the frames that an invalidation is of, if there are any.
pub record HasSwept (own : Invalidated) (walk : TableWalk) : Type 0 where
  pub there : 1 ≤ walk.level
  pub all : own.end ≤ swept_to true own.start walk

abbrev pub IsSwept : Topics → Type 0
IsSwept t = nat_lt t.invalidations.own.start t.invalidations.own.end ≡ true → HasSwept t.invalidations.own t.walk

-- A leaf may be zapped that is of a frame of the actor's own open invalidation, where the lock is the actor's alone and the entry was seen.
pub record MayZap (gfn : ℕ) (t : Topics) : Type 0 where
  pub alone : t.hold ≡ Exclusive
  pub outside : t.stay ≡ Outside
  pub opened : t.invalidations.opened ≡ true
  pub from : t.invalidations.own.start ≤ gfn
  pub to : gfn < t.invalidations.own.end
  pub saw : SawEntry gfn t.walk
  pub leaf : kind_of t.walk.level t.walk.entry ≡ Leaf
