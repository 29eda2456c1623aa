-- What is so of an entry that was seen, while only fast faults may have changed it.
use Rattle.std.proofs.Common.{◌≡◌, inl, inr, ℕ, ap, ◌∙◌}
use Rattle.spte_words.specs.declared.spte_kind.SpteKind.TheVariants.{Leaf}
use Rattle.spte_words.specs.Entries.{kind_of}
use Rattle.spte_words.proofs.FixedEntries.{fixed_kind}
use Rattle.mmu_core.specs.invariant.InvalidationsPart.{IsEntryStill}

-- A leaf is a leaf still.
pub still_leaf : (level now_ seen : ℕ) → IsEntryStill level now_ seen → kind_of level seen ≡ Leaf → kind_of level now_ ≡ Leaf
still_leaf level now_ seen (inl same) leaf = ap (kind_of level) same ∙ leaf
still_leaf level now_ seen (inr A) leaf = ap (kind_of level) A.is ∙ fixed_kind level seen A.leaf A.denied
