-- Which tables are linked, so that links lead to them from the root: what a walk has come to is.
use Rattle.std.proofs.Common.{◌<◌, ◌≡◌, ◌≤◌, ℕ, arith, subst, sym}
use Rattle.core_views.specs.declared.sizes.Sizes.{Sizes}
use Rattle.core_views.specs.declared.topics.Hold.TheVariants.{Exclusive}
use Rattle.core_views.specs.declared.topics.Stay.TheVariants.{Outside}
use Rattle.core_views.specs.declared.topics.TableWalk.{TableWalk}
use Rattle.core_views.specs.Sizes.{actors_of}
use Rattle.spte_words.specs.declared.area.Area.TheVariants as area
use Rattle.part_steps.specs.PartTasks.{table_page}
use Rattle.part_steps.specs.SweepTopics.{at_top, gone_up}
use Rattle.mmu_core.specs.invariant.HeldPart.{table_at}
use Rattle.mmu_core.specs.invariant.TopicsInvariant.{TopicsInvariant}
use Rattle.mmu_core.specs.invariant.TreePart.{HangsBelow, stands}
use Rattle.mmu_core.specs.machine.View.{View}
use Rattle.mmu_core.proofs.pages.Paths.{top_stands, up_goes, up_level, up_stands}
use Rattle.mmu_core.proofs.pages.TreePlaces.{all_reached}

-- The table to which an actor's walk has come.
pub walk_linked : (z : Sizes) (v : View) (I : TopicsInvariant z v) (i : ℕ) → i < actors_of z → 1 ≤ (v.hand i).topics.walk.level
    → HangsBelow I.up (v.words area.Root 0) (table_page (v.hand i).topics.walk)
walk_linked z v I i lt from = all_reached I.tree _ _ ((I.held i lt).table from)

-- The one above it, to which a sweep goes up; and the root, at which a walk begins anew.
pub up_linked : (z : Sizes) (v : View) (I : TopicsInvariant z v) (i : ℕ) → i < actors_of z → 1 ≤ (v.hand i).topics.walk.level
    → HangsBelow I.up (v.words area.Root 0) (table_page (gone_up (v.hand i).topics.walk))
up_linked z v I i lt from =
    all_reached I.tree _ _ (up_stands (stands I.up I.spot) (v.hand i).topics (I.held i lt) (I.paths i lt) from (I.tree.there _ _ ((I.held i lt).table from)).2)

pub top_linked : (z : Sizes) (v : View) (I : TopicsInvariant z v) (i : ℕ) → i < actors_of z → 1 ≤ (v.hand i).topics.walk.level
    → HangsBelow I.up (v.words area.Root 0) (table_page (at_top (v.hand i).topics.walk))
top_linked z v I i lt from = all_reached I.tree _ _ (top_stands I.tree (v.hand i).topics (I.held i lt) (I.paths i lt) from)

-- And each table that the walk has gone through.
pub path_linked : (z : Sizes) (v : View) (I : TopicsInvariant z v) (i level : ℕ) → i < actors_of z → 1 ≤ (v.hand i).topics.walk.level
    → (v.hand i).topics.walk.level < level → level ≤ 4 → HangsBelow I.up (v.words area.Root 0) (table_at level (v.hand i).topics.walk)
path_linked z v I i level lt from above most = all_reached I.tree _ _ (I.paths i lt level from above most)

-- ---- Of who has the lock alone, outside of every section.

module _ (z : Sizes) (v : View) (I : TopicsInvariant z v) (i : ℕ) (lt : i < actors_of z) (alone : (v.hand i).topics.hold ≡ Exclusive)
    (out : (v.hand i).topics.stay ≡ Outside) (from : 1 ≤ (v.hand i).topics.walk.level) where
  abbrev walk : TableWalk
  walk = (v.hand i).topics.walk

  most : walk.level ≤ 4
  most = (I.tree.there _ _ ((I.held i lt).table from)).2

  -- The table to which its walk has come hangs below the root.
  pub alone_linked : HangsBelow I.up (v.words area.Root 0) (table_page walk)
  alone_linked = I.linked i lt alone out walk.level from (omega arith) most

  -- So does the one above it, to which a sweep goes up; and the root, at which a walk begins anew.
  pub alone_up_linked : HangsBelow I.up (v.words area.Root 0) (table_page (gone_up walk))
  alone_up_linked =
      let on = up_goes walk (gone_up walk).level from (omega arith) (up_level walk most) in
      subst (HangsBelow I.up (v.words area.Root 0)) (sym on.table) (I.linked i lt alone out (gone_up walk).level from on.down (up_level walk most))

  pub alone_top_linked : HangsBelow I.up (v.words area.Root 0) (table_page (at_top walk))
  alone_top_linked = I.linked i lt alone out 4 from most (omega arith)
