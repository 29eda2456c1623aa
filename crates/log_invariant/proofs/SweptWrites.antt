-- A sweep that forbids writes: over the guest frames that it passes with a step no links lead to a leaf that allows writes.
use Rattle.std.proofs.Common.{◌*◌, ◌+◌, ◌-◌, ◌/◌, ◌<◌, ◌∙◌, ◌≡◌, ◌≤◌, ◌⊎◌, ap, arith, inl, inr, refl, subst, sym, ℕ}
use Rattle.std.specs.Prelude.{◌&&◌, None, Option, Some, false, true}
use Rattle.core_views.specs.declared.topics.TableWalk.{TableWalk}
use Rattle.spte_words.proofs.Spans.{span_above, span_positive}
use Rattle.spte_words.specs.Areas.{pool_index}
use Rattle.spte_words.specs.Entries.{can_write, kind_of, level_span}
use Rattle.spte_words.specs.declared.spte_kind.SpteKind.{SpteKind}
use Rattle.spte_words.specs.declared.spte_kind.SpteKind.TheVariants.{Absent, Frozen, Leaf, Table}
use Rattle.part_steps.specs.PartTasks.{entry_index, table_page}
use Rattle.part_steps.specs.SweepTopics.{entry_end, entry_start, has_done, has_entry, is_done, swept_to}
use Rattle.part_steps.specs.WalkTopics.{gone_down}
use Rattle.mmu_core.proofs.pages.NoneBelow.{entry_over, leads_on, leaf_ends, none_below, one_end, over_frame}
use Rattle.mmu_core.proofs.pages.SweptEntries.{below_swept, both_true, entry_below, in_entry, regrouped, starts_at}
use Rattle.mmu_core.specs.invariant.AllOver.{AllOver}
use Rattle.mmu_core.specs.invariant.TreePart.{HangsBelow, Position, TreePart, Use, at, stands}

module _ {pages root : ℕ} {role pool : ℕ → ℕ} {up : ℕ → Use} {spot : ℕ → Position} (T : TreePart pages root role pool up spot)
    (walk : TableWalk) (linked : HangsBelow up root (table_page walk)) (at_walk : stands up spot (table_page walk) ≡ Some (at walk.level walk.prefix))
    (index : ℕ) (low : index < 512) where
  -- the entry of the walk's table
  abbrev pub entry_at : ℕ
  entry_at = pool (pool_index (table_page walk) index)

  -- Where there is nothing to do at it for a sweep that forbids writes, no links lead to a leaf that allows writes over its guest frames.
  pub none_allows : has_done false (can_write entry_at) (kind_of walk.level entry_at) ≡ true
      → AllOver up spot pool root (λ level other w. other / level_span walk.level ≡ walk.prefix * 512 + index → kind_of level w ≡ Leaf → can_write w ≡ true → ⊥)
  none_allows done l j other R O over leaf writes = by (kind_of walk.level entry_at) refl done
    where
      prefix : walk.prefix ≡ other / level_span walk.level / 512
      prefix = omega (arith, over, low)

      same : index ≡ entry_index other walk.level
      same = omega (arith, over, low)

      -- It leads nowhere.
      led : leads_on (kind_of walk.level entry_at) ≡ false → ⊥
      led nowhere =
          none_below T (table_page walk) other walk.level linked (at_walk ∙ ap (λ r. Some (at walk.level r)) prefix)
          (ap (λ i. leads_on (kind_of walk.level (pool (pool_index (table_page walk) i)))) (sym same) ∙ nowhere) l j other R O refl leaf

      -- It is a leaf, and so the same one.
      met : kind_of walk.level entry_at ≡ Leaf → can_write entry_at ≡ true
      met here =
          ap (λ i. can_write (pool (pool_index (table_page walk) i))) same
          ∙ ap (λ n. can_write (pool (pool_index (table_page walk) (entry_index other n)))) one.0
          ∙ ap (λ k. can_write (pool (pool_index k (entry_index other (spot l).level)))) one.1
          ∙ ap (λ i. can_write (pool (pool_index l i))) (sym at_l.1) ∙ writes
        where
          at_l : (stands up spot l ≡ Some (over_frame (spot l).level other)) × (j ≡ entry_index other (spot l).level)
          at_l = entry_over T l j other R O

          one : (walk.level ≡ (spot l).level) × (table_page walk ≡ l)
          one =
              one_end T (table_page walk) l other walk.level (spot l).level linked R (at_walk ∙ ap (λ r. Some (at walk.level r)) prefix) at_l.0
              (leaf_ends walk.level _ (ap (λ i. kind_of walk.level (pool (pool_index (table_page walk) i))) (sym same) ∙ here))
              (leaf_ends (spot l).level _ (ap (λ i. kind_of (spot l).level (pool (pool_index l i))) (sym at_l.1) ∙ leaf))

      by : (k : SpteKind) → kind_of walk.level entry_at ≡ k → has_done false (can_write entry_at) k ≡ true → ⊥
      by (Table page) is done = absurd (cc done)
      by Absent is done = led (ap leads_on is)
      by Frozen is done = led (ap leads_on is)
      by Leaf is done = let allows = met is in absurd (cc (done, allows))

-- What a sweep that forbids writes passes, as it loads the entry of the guest frame to which it had come, or changes it to this one: there is nothing to do at
-- this entry, and it is over all that is passed.
pub passed_over : (start gfn x : ℕ) (o : Option ℕ) (walk : TableWalk) → 1 ≤ walk.level → walk.level ≤ 4 → gfn / level_span walk.level / 512 ≡ walk.prefix
    → start ≤ gfn → 1 ≤ (gone_down o walk (entry_index gfn walk.level) x).level → (other : ℕ) → gfn ≤ other
    → other < swept_to false start (gone_down o walk (entry_index gfn walk.level) x)
    → (has_done false (can_write x) (kind_of walk.level x) ≡ true) × (other / level_span walk.level ≡ walk.prefix * 512 + entry_index gfn walk.level)
passed_over start gfn x o walk from most over first level other behind below = by o level below
  where
    index : ℕ
    index = entry_index gfn walk.level

    begins : (walk.prefix * 512 + index) * level_span walk.level ≤ gfn
    begins = entry_below gfn walk.level walk.prefix over

    on : Option ℕ → TableWalk
    on o = gone_down o walk index x

    by : (o : Option ℕ) → 1 ≤ (on o).level → other < swept_to false start (on o)
        → (has_done false (can_write x) (kind_of walk.level x) ≡ true) × (other / level_span walk.level ≡ walk.prefix * 512 + index)
    by (Some page) level below = absurd (case (below_swept false start (on (Some page)) other (omega (arith, first, behind)) below))
      where
        case : (((has_entry (on (Some page)) && is_done false (on (Some page))) ≡ true) × (other < entry_end (on (Some page))))
            ⊎ (other < entry_start (on (Some page))) → ⊥
        case (inl none) = let e = (both_true (has_entry (on (Some page))) (is_done false (on (Some page))) none.0).0 in cc e
        case (inr lt) =
            let up_to : walk.level - 1 + 1 ≡ walk.level = omega (arith, level) in
            let span : level_span walk.level ≡ 512 * level_span (walk.level - 1) = ap level_span (sym up_to) ∙ span_above (walk.level - 1) level in
            let least = subst (λ s. (walk.prefix * 512 + index) * s ≤ gfn) span begins in
            let same = regrouped (walk.prefix * 512 + index) (level_span (walk.level - 1)) in
            omega (arith, lt, least, same, behind)
    by None level below = case (below_swept false start (on None) other (omega (arith, first, behind)) below)
      where
        case : (((has_entry (on None) && is_done false (on None)) ≡ true) × (other < entry_end (on None))) ⊎ (other < entry_start (on None))
            → (has_done false (can_write x) (kind_of walk.level x) ≡ true) × (other / level_span walk.level ≡ walk.prefix * 512 + index)
        case (inl none) = (
          (both_true (has_entry (on None)) (is_done false (on None)) none.0).1,
          in_entry other (walk.prefix * 512 + index) (level_span walk.level) (span_positive walk.level from most) (omega (arith, begins, behind)) none.1,
        )
        case (inr lt) = let same = starts_at walk gfn x in absurd (omega (arith, lt, begins, same, behind))

-- So no links lead to a leaf that allows writes over what is passed.
module _ {pages root : ℕ} {role pool : ℕ → ℕ} {up : ℕ → Use} {spot : ℕ → Position} (T : TreePart pages root role pool up spot)
    (walk : TableWalk) (linked : HangsBelow up root (table_page walk)) (at_walk : stands up spot (table_page walk) ≡ Some (at walk.level walk.prefix)) where
  pub passed_denies : (start gfn x : ℕ) (o : Option ℕ) → gfn / level_span walk.level / 512 ≡ walk.prefix → start ≤ gfn
      → pool (pool_index (table_page walk) (entry_index gfn walk.level)) ≡ x → 1 ≤ (gone_down o walk (entry_index gfn walk.level) x).level
      → AllOver up spot pool root (λ level other w. gfn ≤ other → other < swept_to false start (gone_down o walk (entry_index gfn walk.level) x)
      → kind_of level w ≡ Leaf → can_write w ≡ true → ⊥)
  passed_denies start gfn x o over first is level l j other R O behind below leaf writes =
      let there = T.there (table_page walk) _ at_walk in
      let passed = passed_over start gfn x o walk there.1 there.2 over first level other behind below in
      none_allows T walk linked at_walk (entry_index gfn walk.level) (omega arith)
      (subst (λ w. has_done false (can_write w) (kind_of walk.level w) ≡ true) (sym is) passed.0) l j other R O passed.1 leaf writes
