-- What is said of all entries below a table, in one account of where the tables stand, is so in each other account of the same words in which the table stands
-- at the same place: so it is below the root, and in reach of a walk.
use Rattle.std.proofs.Common.{◌≡◌, subst, sym, ℕ}
use Rattle.std.specs.Prelude.{Some}
use Rattle.core_views.specs.declared.topics.Topics.{Topics}
use Rattle.spte_words.specs.Areas.{pool_index}
use Rattle.mmu_core.proofs.pages.Paths.{whole_path}
use Rattle.mmu_core.proofs.pages.Standing.{spot_of}
use Rattle.mmu_core.proofs.pages.TreePlaces.{below_in_both, root_stands}
use Rattle.mmu_core.specs.invariant.AllOver.{AllOver, IsEntryOver}
use Rattle.mmu_core.specs.invariant.HeldPart.{HeldPart, PathPart, span_at, table_at}
use Rattle.mmu_core.specs.invariant.ReachPart.{InReach}
use Rattle.mmu_core.specs.invariant.TreePart.{Position, TreePart, Use, at, stands}

module _ {pages root : ℕ} {role pool : ℕ → ℕ} {up more : ℕ → Use} {spot place : ℕ → Position} (T : TreePart pages root role pool up spot)
    (N : TreePart pages root role pool more place) (IsSo : ℕ → ℕ → ℕ → Type 0) where
  -- Below a table that stands at one place in both.
  table_accounts : (m : ℕ) (p : Position) → stands up spot m ≡ Some p → stands more place m ≡ Some p → AllOver up spot pool m IsSo
      → AllOver more place pool m IsSo
  table_accounts m p at_m there A table entry gfn R O =
      let H = below_in_both N T m p there at_m R.0 table R.1 in
      let same : spot table ≡ place table = (spot_of up spot table (place table) H.2).1 in
      subst (λ q. IsSo q.level gfn (pool (pool_index table entry))) same
      (A table entry gfn (R.0, H.0) (subst (λ q. IsEntryOver q entry gfn) (sym same) O))

  -- Below the root.
  pub all_accounts : AllOver up spot pool root IsSo → AllOver more place pool root IsSo
  all_accounts = table_accounts root (at 4 0) (root_stands T) (root_stands N)

  -- In reach of an actor whose walk's tables stand in both where its levels and spans say.
  pub reach_accounts : (t : Topics) → HeldPart (stands up spot) t → PathPart (stands up spot) t.walk → HeldPart (stands more place) t
      → PathPart (stands more place) t.walk → InReach up spot pool t IsSo → InReach more place pool t IsSo
  reach_accounts t H P K Q reach guest level from down most =
      table_accounts (table_at level t.walk) (at level (span_at level t.walk)) (whole_path (stands up spot) t H P level from down most)
      (whole_path (stands more place) t K Q level from down most) (reach guest level from down most)
