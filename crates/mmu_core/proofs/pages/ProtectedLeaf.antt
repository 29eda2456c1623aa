-- What a step leaves that forbids writes in a leaf: the same leaf, which forbids them.
use Rattle.std.proofs.Common.{◌≡◌, inl, inr, ◌-◌, ℕ, false, sym, ap, ◌∙◌, arith}
use Rattle.std.specs.Prelude.{Bool}
use Rattle.core_views.specs.declared.sizes.Sizes.{Sizes}
use Rattle.spte_words.specs.declared.area.Area.TheVariants as area
use Rattle.spte_words.specs.declared.spte_kind.SpteKind.TheVariants.{Leaf}
use Rattle.spte_words.specs.Areas.{pool_index}
use Rattle.spte_words.specs.Bits.{bit_if}
use Rattle.spte_words.specs.Entries.{can_write, kind_of, without_write}
use Rattle.spte_words.proofs.ProtectedEntries.{protected_is, protected_kind}
use Rattle.part_steps.specs.declared.part_step.PartStep.TheVariants as part
use Rattle.part_steps.specs.PartTasks.{entry_index, table_page}
use Rattle.mmu_core.specs.invariant.InvalidationsPart.{IsEntryStill}
use Rattle.mmu_core.specs.invariant.TopicsInvariant.{TopicsInvariant}
use Rattle.mmu_core.specs.machine.View.{View, part_stepped, upd}
use Rattle.mmu_core.proofs.machine.PartStepping.{IsPart}
use Rattle.mmu_core.proofs.pages.EntryStill.{still_leaf}
use Rattle.mmu_core.proofs.pages.Standing.{entry_now}

-- Where a leaf allows no writes, it stays.
pub denied_same : (w : ℕ) → can_write w ≡ false → without_write w ≡ w
unfolding without_write
denied_same w denies = ap (λ (b : Bool). w - bit_if 1 b) denies ∙ (let same : w - 0 ≡ w = omega arith in same)

module _ (z : Sizes) (v : View) (a gfn : ℕ) (S : IsPart z v a (part.Protect gfn)) where
  abbrev walk_index : ℕ
  walk_index = entry_index gfn (v.hand a).topics.walk.level

  -- The leaf that was seen is one still, though a fast fault may have allowed writes in it.
  pub found_leaf : TopicsInvariant z v → kind_of (v.hand a).topics.walk.level (entry_now gfn (v.hand a).topics v) ≡ Leaf
  found_leaf I =
      let seen = S.needs.saw.loaded in
      ap (λ i. kind_of (v.hand a).topics.walk.level (v.words area.Pool (pool_index (table_page (v.hand a).topics.walk) i))) (sym seen)
      ∙ still_leaf (v.hand a).topics.walk.level _ (v.hand a).topics.walk.entry
      (I.loaded a S.there S.needs.alone S.needs.outside S.needs.saw.over.there (omega (arith, seen))) S.needs.leaf

  -- It allowed writes, and so it is the same.
  pub found_same : TopicsInvariant z v → entry_now gfn (v.hand a).topics v ≡ (v.hand a).topics.walk.entry
  found_same I =
      let seen = S.needs.saw.loaded in
      by (I.loaded a S.there S.needs.alone S.needs.outside S.needs.saw.over.there (omega (arith, seen)))
    where
      here : ℕ → ℕ
      here i = v.words area.Pool (pool_index (table_page (v.hand a).topics.walk) i)

      by : IsEntryStill (v.hand a).topics.walk.level (here (v.hand a).topics.walk.index) (v.hand a).topics.walk.entry
          → here walk_index ≡ (v.hand a).topics.walk.entry
      by (inl same) = sym (ap here S.needs.saw.loaded) ∙ same
      by (inr allows) = let denied = allows.denied in let writes = S.needs.writes in absurd (cc (denied, writes))

  pub left_leaf : TopicsInvariant z v → kind_of (v.hand a).topics.walk.level (without_write (entry_now gfn (v.hand a).topics v)) ≡ Leaf
  left_leaf I = protected_kind (v.hand a).topics.walk.level (entry_now gfn (v.hand a).topics v) (found_leaf I)

  pub pool_protected : (note : ℕ) → ◌≡◌ {A = ℕ → ℕ} ((part_stepped a (part.Protect gfn) note v).words area.Pool)
      (upd (v.words area.Pool) (pool_index (table_page (v.hand a).topics.walk) walk_index) (without_write (entry_now gfn (v.hand a).topics v)))
  pool_protected note =
      ap (upd (v.words area.Pool) (pool_index (table_page (v.hand a).topics.walk) walk_index))
      (protected_is (entry_now gfn (v.hand a).topics v) (S.small area.Pool (pool_index (table_page (v.hand a).topics.walk) walk_index)))
