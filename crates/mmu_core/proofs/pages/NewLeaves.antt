-- What faults put in an entry, and leave in one, is a leaf.
use Rattle.std.proofs.Common.{◌≡◌, ◌%◌, ◌≤◌, ℕ}
use Rattle.std.specs.Prelude.{Bool, ◌-◌, ◌&&◌, not}
use Rattle.core_views.specs.declared.topics.Topics.{Topics}
use Rattle.spte_words.specs.declared.spte_kind.SpteKind.TheVariants as entry_kind
use Rattle.spte_words.specs.Entries.{can_write, kind_of, level_span}
use Rattle.spte_words.specs.HostWords.{host_allows_write, host_frame}
use Rattle.spte_words.proofs.FixedEntries.{fixed_kind}
use Rattle.spte_words.proofs.ReadsEntries.{kind_of_leaf}
use Rattle.part_steps.specs.PartHoldings.{MayFix}
use Rattle.part_steps.specs.PartTasks.{leaf_fixed, leaf_written, puts_write, word_looked}
use Rattle.part_steps.specs.SlotWords.{may_write}
use Rattle.mmu_core.proofs.forms.access.FaultSame.{both, is_not}

-- What a fault puts is a leaf, at a level that has leaves.
pub leaf_is : (gfn : ℕ) (write : Bool) (t : Topics) → 1 ≤ t.walk.level → t.walk.level ≤ 3 → kind_of t.walk.level (leaf_written gfn write t) ≡ entry_kind.Leaf
leaf_is gfn write t from most =
    let word : ℕ = word_looked t.host in
    kind_of_leaf t.walk.level (host_frame word - gfn % level_span t.walk.level) (puts_write write t && may_write t.search.slot word) (host_allows_write word)
    (may_write t.search.slot word) from most

-- And so is the leaf in which a fast one has allowed writes.
pub fixed_is_leaf : {gfn : ℕ} (t : Topics) → MayFix gfn t → kind_of t.walk.level (leaf_fixed t) ≡ entry_kind.Leaf
fixed_is_leaf t M = fixed_kind t.walk.level t.walk.entry M.leaf (is_not (can_write t.walk.entry) (both (not (can_write t.walk.entry)) _ M.fixable).0)
