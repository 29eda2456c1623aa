-- A line that forbids writes page by page: over the guest frame of a page no links lead to a leaf that allows writes, once the line has come to an entry at
-- which there is nothing to do, or has forbidden writes in the leaf.
use Rattle.std.proofs.Common.{◌*◌, ◌+◌, ◌/◌, ◌∙◌, ◌≡◌, ap, arith, refl, subst, sym, ℕ}
use Rattle.std.specs.Prelude.{◌&&◌, Bool, None, Option, Some, false, if◌then◌else◌, true}
use Rattle.core_views.specs.declared.sizes.Sizes.{Sizes}
use Rattle.core_views.specs.declared.topics.Hold.TheVariants.{Exclusive}
use Rattle.core_views.specs.declared.topics.Stay.TheVariants.{Outside}
use Rattle.core_views.specs.declared.topics.TableWalk.{TableWalk}
use Rattle.core_views.specs.declared.topics.Topics.{Topics}
use Rattle.spte_words.specs.Areas.{pool_index}
use Rattle.spte_words.specs.Entries.{can_write, kind_of, level_span, without_write}
use Rattle.spte_words.specs.declared.area.Area.TheVariants as area
use Rattle.spte_words.specs.declared.spte_kind.SpteKind.TheVariants.{Leaf}
use Rattle.part_steps.specs.PartTasks.{entry_index, own_index, part_task, table_page}
use Rattle.part_steps.specs.PartTopics.{part_topics}
use Rattle.part_steps.specs.SweepTopics.{at_top, has_done, has_entry, is_done}
use Rattle.part_steps.specs.WalkTopics.{gone_down, linked_page}
use Rattle.part_steps.specs.declared.part_step.PartStep.{PartStep}
use Rattle.part_steps.specs.declared.part_step.PartStep.TheVariants as part
use Rattle.mmu_core.proofs.held.WalkSpans.{over_top}
use Rattle.mmu_core.proofs.machine.Columns.{upd_same}
use Rattle.mmu_core.proofs.machine.PartStepping.{IsPart}
use Rattle.mmu_core.proofs.pages.Paths.{top_stands}
use Rattle.mmu_core.proofs.pages.ProtectedLeaf.{found_same, pool_protected}
use Rattle.mmu_core.proofs.pages.Standing.{spot_after, up_after}
use Rattle.mmu_core.proofs.pages.SweptEntries.{both_true}
use Rattle.mmu_core.proofs.pages.TreeKept.{tree_kept}
use Rattle.mmu_core.specs.invariant.AllOver.{AllOver}
use Rattle.mmu_core.specs.invariant.TopicsInvariant.{TopicsInvariant}
use Rattle.mmu_core.specs.invariant.TreePart.{HangsBelow, Position, TreePart, Use, at, stands}
use Rattle.mmu_core.specs.machine.View.{View, answer_in, part_stepped}
use Rattle.log_invariant.proofs.SweptWrites.{none_allows}
use Rattle.mmu_core.proofs.pages.Linked.{alone_linked, alone_top_linked}

-- The guest frame is this one, and there is nothing to do at the entry that was loaded last, or changed: so the leaf doesn't allow writes.
abbrev DeniesAt : ℕ → TableWalk → ℕ → ℕ → ℕ → Type 0
DeniesAt gfn after level other w = (other ≡ gfn) × ((has_entry after && is_done false after) ≡ true) → kind_of level w ≡ Leaf → can_write w ≡ true → ⊥

-- So it is where the entry of the frame in a walk's table was loaded, or changed to this one.
entry_denies : {pages root : ℕ} {role pool : ℕ → ℕ} {up : ℕ → Use} {spot : ℕ → Position} (T : TreePart pages root role pool up spot)
    (walk : TableWalk) → HangsBelow up root (table_page walk) → stands up spot (table_page walk) ≡ Some (at walk.level walk.prefix) → (gfn x : ℕ) (o : Option ℕ)
    → gfn / level_span walk.level / 512 ≡ walk.prefix → pool (pool_index (table_page walk) (entry_index gfn walk.level)) ≡ x
    → AllOver up spot pool root (DeniesAt gfn (gone_down o walk (entry_index gfn walk.level) x))
entry_denies T walk linked at_walk gfn x (Some page) span is l j other R O passed leaf writes =
    absurd (let none = (both_true false (is_done false (gone_down (Some page) walk (entry_index gfn walk.level) x)) passed.1).0 in cc none)
entry_denies T walk linked at_walk gfn x None span is l j other R O passed leaf writes =
    none_allows T walk linked at_walk (entry_index gfn walk.level) (omega arith)
    (subst (λ w. has_done false (can_write w) (kind_of walk.level w) ≡ true) (sym is) done) l j other R O
    (ap (λ n. n / level_span walk.level) passed.0 ∙ over) leaf writes
  where
    on : TableWalk
    on = gone_down None walk (entry_index gfn walk.level) x

    done : has_done false (can_write x) (kind_of walk.level x) ≡ true
    done = (both_true (has_entry on) (is_done false on) passed.1).1

    over : gfn / level_span walk.level ≡ walk.prefix * 512 + entry_index gfn walk.level
    over = omega (arith, span)

module _ (z : Sizes) (v : View) (a : ℕ) (P : TopicsInvariant z v) (gfn : ℕ) where
  abbrev t : Topics
  t = (v.hand a).topics

  -- what is so after a step of the actor's
  abbrev Denies : PartStep → Type 0
  Denies step =
      AllOver (up_after step a t v P.up) (spot_after step t v P.spot) ((part_stepped a step 0 v).words area.Pool) ((part_stepped a step 0 v).words area.Root 0)
      (DeniesAt gfn (part_topics step t (answer_in (part_task step (own_index (v.hand a)) t 0) v.words)).walk)

  -- It loads the next entry, or begins anew at the root.
  next_denies : t.hold ≡ Exclusive → t.stay ≡ Outside → IsPart z v a (part.Walk gfn) → Denies (part.Walk gfn)
  next_denies alone outside S =
      let over = S.needs.0 in
      entry_denies P.tree t.walk (alone_linked z v P a S.there alone outside over.there) ((P.held a S.there).table over.there) gfn
      (v.words area.Pool (pool_index (table_page t.walk) (entry_index gfn t.walk.level))) (linked_page (kind_of t.walk.level _)) over.span refl

  anew_denies : IsPart z v a (part.WalkAnew gfn) → Denies (part.WalkAnew gfn)
  anew_denies S =
      let x : ℕ = v.words area.Pool (pool_index (table_page (at_top t.walk)) (entry_index gfn 4)) in
      entry_denies P.tree (at_top t.walk) (alone_top_linked z v P a S.there S.needs.alone S.needs.outside S.needs.there)
      (top_stands P.tree t (P.held a S.there) (P.paths a S.there) S.needs.there) gfn x
      (linked_page (kind_of 4 x)) (over_top gfn t.walk S.needs.small).span refl

  pub walk_denies : (anew : Bool) → t.hold ≡ Exclusive → t.stay ≡ Outside → IsPart z v a (if anew then part.WalkAnew gfn else part.Walk gfn)
      → Denies (if anew then part.WalkAnew gfn else part.Walk gfn)
  walk_denies true alone outside S = anew_denies S
  walk_denies false alone outside S = next_denies alone outside S

  -- It forbids writes in the leaf.
  pub leaf_denies : IsPart z v a (part.Protect gfn) → Denies (part.Protect gfn)
  leaf_denies S =
      entry_denies (tree_kept z v a (part.Protect gfn) 0 S P) t.walk (alone_linked z v P a S.there S.needs.alone S.needs.outside S.needs.saw.over.there)
      ((P.held a S.there).table S.needs.saw.over.there) gfn
      (without_write t.walk.entry) None S.needs.saw.over.span left
    where
      left : (part_stepped a (part.Protect gfn) 0 v).words area.Pool (pool_index (table_page t.walk) (entry_index gfn t.walk.level))
          ≡ without_write t.walk.entry
      left =
          ap (λ (pool : ℕ → ℕ). pool (pool_index (table_page t.walk) (entry_index gfn t.walk.level))) (pool_protected z v a gfn S 0)
          ∙ upd_same (v.words area.Pool) (pool_index (table_page t.walk) (entry_index gfn t.walk.level)) _ ∙ ap without_write (found_same z v a gfn S P)
