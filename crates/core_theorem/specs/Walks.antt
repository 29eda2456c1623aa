-- The tables that a walk holds after a run: those that it has gone through, and the one that it has come to.
use Rattle.std.specs.Prelude.{◌≡◌, ◌<◌, ◌≤◌, ℕ, Some}
use Rattle.core_views.specs.declared.sizes.Sizes.{Sizes}
use Rattle.core_views.specs.declared.topics.TableWalk.{TableWalk}
use Rattle.core_views.specs.Held.{Held}
use Rattle.core_views.specs.Sizes.{actors_of}
use Rattle.spte_words.specs.declared.area.Area.TheVariants as area
use Rattle.mmu_core.specs.invariant.AllOver.{AllOver, LeavesSay}
use Rattle.mmu_core.specs.machine.View.{word_in}
use Rattle.mmu_core.specs.machine.Enabled.{mmu}
use Rattle.mmu_core.specs.machine.Machine.{World, hand_in}
use Rattle.mmu_core.specs.invariant.TreePart.{at, stands}
pub use Rattle.mmu_core.specs.invariant.HeldPart.{span_at, table_at}
use Rattle.core_theorem.specs.Pages.{PagesAreUsed}
use Rattle.core_theorem.specs.Runs.{AfterEveryRun}

-- the walk of an actor
abbrev pub walk_of : World Held → ℕ → TableWalk
walk_of w actor = (hand_in mmu w actor).topics.walk

-- The walk holds a table at this level: its tables are at the levels from the root's, 4, down to that of the table that it has come to. At
-- level 0 it has come to none.
pub record HoldsAt (level : ℕ) (walk : TableWalk) : Type 0 where
  pub some : 1 ≤ walk.level
  pub down : walk.level ≤ level
  pub up : level ≤ 4

-- In this account of the pages each table that a walk holds stands at its level, for the span that the walk is in. So it is the root, or linked below
-- it. And each leaf in a table below the root, and in one to which a walk can still come from a table that it holds, says of each guest frame that it
-- is over what slots and host say.
pub record PagesAreHeld (z : Sizes) (w : World Held) (pages : PagesAreUsed z w) : Type 0 where
  pub walks : (actor level : ℕ) → actor < actors_of z → HoldsAt level (walk_of w actor)
      → stands pages.up pages.spot (table_at level (walk_of w actor)) ≡ Some (at level (span_at level (walk_of w actor)))
  pub linked : AllOver pages.up pages.spot (word_in z w area.Pool) (word_in z w area.Root 0)
      (LeavesSay (word_in z w area.Pool) (word_in z w area.Host) (word_in z w area.Slots 0))
  pub reached : (actor level : ℕ) → actor < actors_of z → HoldsAt level (walk_of w actor)
      → AllOver pages.up pages.spot (word_in z w area.Pool) (table_at level (walk_of w actor))
      (LeavesSay (word_in z w area.Pool) (word_in z w area.Host) (word_in z w area.Slots 0))

-- Whatever account is given of the pages after a run, the walks hold their tables in it.
abbrev pub WalksHoldTables : Type 0
WalksHoldTables = AfterEveryRun (λ z w. (pages : PagesAreUsed z w) → PagesAreHeld z w pages)
