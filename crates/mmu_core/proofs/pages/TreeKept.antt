-- Each step of a part keeps what the tables are.
use Rattle.std.proofs.Common.{◌≡◌, inl, inr, ◌+◌, ◌*◌, ◌/◌, ◌%◌, ◌<◌, ◌≤◌, ℕ, refl, sym, subst, ap, ◌∙◌, arith}
use Rattle.std.specs.Prelude.{Bool, true, false, ◌-◌, ◌==◌, if◌then◌else◌, Some}
use Rattle.core_views.specs.declared.sizes.Sizes.{Sizes}
use Rattle.core_views.specs.declared.topics.Topics.{Topics}
use Rattle.spte_words.specs.declared.area.Area.TheVariants as area
use Rattle.spte_words.specs.declared.spte_kind.SpteKind.TheVariants as entry_kind
use Rattle.spte_words.specs.Areas.{pool_index}
use Rattle.spte_words.specs.Entries.{absent_word, kind_of, level_span, without_write, word_below}
use Rattle.spte_words.proofs.Spans.{span_1}
use Rattle.part_steps.specs.declared.part_step.PartStep.{PartStep}
use Rattle.part_steps.specs.declared.part_step.PartStep.TheVariants as part
use Rattle.part_steps.specs.PartTasks.{entry_index, leaf_written, link_written, page_owned, table_page, leaf_fixed}
use Rattle.part_steps.specs.PartHoldings.{IsEnd, MayLink}
use Rattle.mmu_core.specs.invariant.PoolPart.{IsFilled}
use Rattle.mmu_core.specs.invariant.TopicsInvariant.{TopicsInvariant}
use Rattle.mmu_core.specs.invariant.TreePart.{Position, TreePart, Use, at, is_table, stands}
use Rattle.mmu_core.specs.invariant.TreePart.Use.{Under}
use Rattle.mmu_core.specs.machine.View.{View, part_stepped, upd}
use Rattle.mmu_core.proofs.pages.Owned.{OwnsWhole, table_owned}
use Rattle.mmu_core.proofs.machine.PartStepping.{IsPart}
use Rattle.mmu_core.proofs.words.PartWords.{HasOtherRole, IsElsewhere, areas_stay, page_stays, role_stays, retired_elsewhere}
use Rattle.mmu_core.proofs.machine.ColumnsTell.{tells}
use Rattle.mmu_core.proofs.pages.PoolPages.{retired_no_table, owned_there, owned_use, table_not_owned}
use Rattle.mmu_core.proofs.pages.Standing.{entry_now, position_below, spot_after, up_after, upd_if}
use Rattle.mmu_core.proofs.machine.SumsBelow.{upd_id}
use Rattle.mmu_core.proofs.pages.LinkMade.{below_links_none, takes_one, filled_below, link_was}
use Rattle.mmu_core.proofs.pages.TreeStored.{LinksNone, entry_stored, table_linked, tree_moved}
use Rattle.mmu_core.proofs.pages.UsesStay.{is_link, same_tables, stay_same, stood_same}
use Rattle.mmu_core.proofs.pages.EntryStill.{still_leaf}
use Rattle.mmu_core.proofs.pages.ProtectedLeaf.{found_leaf, left_leaf, pool_protected}
use Rattle.mmu_core.proofs.pages.NoneBelow.{leaf_ends}
use Rattle.mmu_core.proofs.pages.NewLeaves.{fixed_is_leaf, leaf_is}
use Rattle.core_views.specs.Sizes.{actors_of}

absent_is : 0 ≡ absent_word
unfolding absent_word
absent_is = refl

-- At the lowest level the entry is the guest frame's own.
pub span_lowest : (gfn level prefix : ℕ) → level ≡ 1 → gfn / level_span level / 512 ≡ prefix → prefix * 512 + gfn / level_span level % 512 ≡ gfn
span_lowest gfn level prefix lowest over =
    let one : level_span level ≡ 1 = ap level_span lowest ∙ span_1 in
    let own : gfn / level_span level ≡ gfn = ap (λ n. gfn / n) one ∙ omega arith in
    omega (arith, own, over)

-- Where the step stores in no table, all tables stay.
stay : (z : Sizes) (v : View) (a : ℕ) (step : PartStep) (note : ℕ) → IsPart z v a step → (I : TopicsInvariant z v) → is_link step ≡ false
    → ((k : ℕ) (p : Position) → stands I.up I.spot k ≡ Some p → IsElsewhere step (v.hand a).topics k × HasOtherRole step (v.hand a).topics k)
    → TreePart z.pool (v.words area.Root 0) ((part_stepped a step note v).words area.Role) ((part_stepped a step note v).words area.Pool)
    (up_after step a (v.hand a).topics v I.up) I.spot
stay z v a step note S I never elsewhere =
    let same = same_tables z v a step S I never in
    let after : ℕ → Use = up_after step a (v.hand a).topics v I.up in
    tree_moved I.tree ((part_stepped a step note v).words area.Role) ((part_stepped a step note v).words area.Pool) after I.spot
    (stay_same I.up after I.spot same)
    (λ k p is. inl (stood_same I.up after I.spot same k p is)) (λ k p is. role_stays z v a step note S k (elsewhere k p is).1)
    (λ k p is j low. inl (page_stays z v a step note S k (elsewhere k p is).0 j low))

-- An exchange that was lost leaves the pool.
lost : {pages root : ℕ} {role pool : ℕ → ℕ} {up : ℕ → Use} {spot : ℕ → Position} (i : ℕ) → TreePart pages root role pool up spot
    → TreePart pages root role (upd pool i (pool i)) up spot
lost {pages} {root} {role} {pool} {up} {spot} i T = subst (λ (words : ℕ → ℕ). TreePart pages root role words up spot) (sym (upd_id pool i)) T

module _ (z : Sizes) (v : View) (a gfn note : ℕ) (I : TopicsInvariant z v) where
  abbrev t : Topics
  t = (v.hand a).topics

  abbrev index : ℕ
  index = entry_index gfn t.walk.level

  abbrev here : ℕ
  here = pool_index (table_page t.walk) index

  -- the words of the pool after an exchange for the new entry
  abbrev exchanged : Bool → ℕ → ℕ → ℕ
  exchanged won new_ = upd (v.words area.Pool) here (if won then new_ else entry_now gfn t v)

  linked : (S : IsPart z v a (part.Link gfn)) (won : Bool) → (entry_now gfn t v == t.walk.entry) ≡ won
      → TreePart z.pool (v.words area.Root 0) (v.words area.Role) (exchanged won (link_written t))
      (upd_if won I.up (page_owned t.owned) (Under (table_page t.walk) index)) (upd_if won I.spot (page_owned t.owned) (position_below gfn t))
  linked S false is = lost here I.tree
  linked S true is =
      table_linked I.tree (table_page t.walk) t.walk.level t.walk.prefix index (page_owned t.owned) ((I.held a S.there).table may.saw.over.there)
      may.upper (omega arith) none
      (ap (λ k. is_table (I.up k)) page ∙ ap is_table (owned_use I.uses a owns.owned S.there owns.is))
      (omega (arith, page, owned_there I.uses a owns.owned S.there owns.is))
      (ap (v.words area.Role) page ∙ filled.role_is owns.whole ∙ owns.role)
      (λ i low. subst (λ k. LinksNone (t.walk.level - 1) (v.words area.Pool (pool_index k i))) (sym page)
      (subst (LinksNone (t.walk.level - 1)) (sym (below_it i low)) (below_links_none t.walk.level t.walk.entry i may.upper top (takes_one _ may.takes))))
    where
      may : MayLink gfn t
      may = S.needs.0

      top : t.walk.level ≤ 4
      top = (I.tree.there (table_page t.walk) _ ((I.held a S.there).table may.saw.over.there)).2

      owns : OwnsWhole (t.walk.level - 1) t
      owns = table_owned t S.needs.1

      none : LinksNone t.walk.level (v.words area.Pool here)
      none = link_was z v a gfn I S (tells (entry_now gfn t v) t.walk.entry is)

      below_it : (i : ℕ) → i < 512 → v.words area.Pool (pool_index owns.owned.page i) ≡ word_below t.walk.level t.walk.entry i
      below_it i low = filled_below z v a I S.there owns S.needs.1.below i low

      page : page_owned t.owned ≡ owns.owned.page
      page = ap page_owned owns.is

      filled : IsFilled (v.words area.Role) (v.words area.Pool) owns.owned
      filled = I.filled a owns.owned S.there owns.is

  leafed : (new_ : ℕ) (won : Bool) → (entry_now gfn t v == t.walk.entry) ≡ won → a < actors_of z → 1 ≤ t.walk.level → IsEnd t.walk.level t.walk.entry
      → kind_of t.walk.level new_ ≡ entry_kind.Leaf → TreePart z.pool (v.words area.Root 0) (v.words area.Role) (exchanged won new_) I.up I.spot
  leafed new_ false is lt there ends leaf = lost here I.tree
  leafed new_ true is lt there ends leaf =
      entry_stored I.tree (table_page t.walk) (at t.walk.level t.walk.prefix) index new_ ((I.held a lt).table there) (omega arith)
      (record { entry = inr (inr leaf); no_link = subst (IsEnd t.walk.level) (sym (tells (entry_now gfn t v) t.walk.entry is)) ends })

  -- A leaf in which writes are forbidden is one still.
  protected : (S : IsPart z v a (part.Protect gfn)) → TreePart z.pool (v.words area.Root 0) (v.words area.Role)
      (upd (v.words area.Pool) here (without_write (entry_now gfn t v))) I.up I.spot
  protected S =
      entry_stored I.tree (table_page t.walk) (at t.walk.level t.walk.prefix) index (without_write (entry_now gfn t v))
      ((I.held a S.there).table S.needs.saw.over.there) (omega arith)
      (record { entry = inr (inr (left_leaf z v a gfn S I)); no_link = leaf_ends t.walk.level _ (found_leaf z v a gfn S I) })

  -- An entry of which a leaf was loaded that is there still is no link.
  zapped : (S : IsPart z v a (part.Zap gfn)) → TreePart z.pool (v.words area.Root 0) (v.words area.Role) (upd (v.words area.Pool) here 0) I.up I.spot
  zapped S =
      entry_stored I.tree (table_page t.walk) (at t.walk.level t.walk.prefix) index 0 at_walk (omega arith)
      (record { entry = inl absent_is; no_link = leaf_ends t.walk.level _ leaf })
    where
      at_walk : stands I.up I.spot (table_page t.walk) ≡ Some (at t.walk.level t.walk.prefix)
      at_walk = (I.held a S.there).table S.needs.saw.over.there

      leaf : kind_of t.walk.level (v.words area.Pool here) ≡ entry_kind.Leaf
      leaf =
          let seen = S.needs.saw.loaded in
          ap (λ i. kind_of t.walk.level (v.words area.Pool (pool_index (table_page t.walk) i))) (sym seen)
          ∙ still_leaf t.walk.level _ t.walk.entry (I.loaded a S.there S.needs.alone S.needs.outside S.needs.saw.over.there (omega (arith, seen))) S.needs.leaf

-- What the tables are after each step; the root stays.
tree_behind : (z : Sizes) (v : View) (a : ℕ) (step : PartStep) (note : ℕ) → IsPart z v a step → (I : TopicsInvariant z v)
    → TreePart z.pool (v.words area.Root 0) ((part_stepped a step note v).words area.Role) ((part_stepped a step note v).words area.Pool)
    (up_after step a (v.hand a).topics v I.up) (spot_after step (v.hand a).topics v I.spot)
tree_behind z v a (part.Link gfn) note S I =
    linked z v a gfn note I S (entry_now gfn (v.hand a).topics v == (v.hand a).topics.walk.entry) refl
tree_behind z v a (part.Leaf gfn write) note S I =
    leafed z v a gfn note I (leaf_written gfn write (v.hand a).topics) (entry_now gfn (v.hand a).topics v == (v.hand a).topics.walk.entry) refl S.there
    S.needs.0.saw.over.there S.needs.3 (leaf_is gfn write (v.hand a).topics S.needs.0.saw.over.there S.needs.1.most)
tree_behind z v a (part.Fix gfn) note S I =
    leafed z v a gfn note I (leaf_fixed (v.hand a).topics) (entry_now gfn (v.hand a).topics v == (v.hand a).topics.walk.entry) refl S.there
    S.needs.saw.over.there (leaf_ends (v.hand a).topics.walk.level (v.hand a).topics.walk.entry S.needs.leaf) (fixed_is_leaf (v.hand a).topics S.needs)
tree_behind z v a (part.Fill value) note S I =
    stay z v a (part.Fill value) note S I refl (λ k p is. (λ o owns. table_not_owned I.uses I.spot k p is a o S.there owns, tt))
tree_behind z v a (part.Role value) note S I =
    stay z v a (part.Role value) note S I refl (λ k p is. (tt, λ o owns. table_not_owned I.uses I.spot k p is a o S.there owns))
tree_behind z v a part.Clear note S I =
    stay z v a part.Clear note S I refl (λ k p is. (
      tt,
      retired_elsewhere (v.hand a).topics S.needs.leaves k
          (λ l left e. retired_no_table I.uses I.spot a l p S.there left (ap (stands I.up I.spot) e ∙ is)),
    ))
tree_behind z v a (part.Zap gfn) note S I = zapped z v a gfn note I S
tree_behind z v a (part.Protect gfn) note S I =
    subst (λ (pool : ℕ → ℕ). TreePart z.pool (v.words area.Root 0) (v.words area.Role) pool I.up I.spot) (sym (pool_protected z v a gfn S note))
    (protected z v a gfn note I S)
tree_behind z v a step note S I = stay z v a step note S I refl (λ k p is. (tt, tt))

-- Each step of a part keeps what the tables are.
pub tree_kept : (z : Sizes) (v : View) (a : ℕ) (step : PartStep) (note : ℕ) → IsPart z v a step → (I : TopicsInvariant z v)
    → TreePart z.pool ((part_stepped a step note v).words area.Root 0) ((part_stepped a step note v).words area.Role)
    ((part_stepped a step note v).words area.Pool) (up_after step a (v.hand a).topics v I.up) (spot_after step (v.hand a).topics v I.spot)
tree_kept z v a step note S I =
    let w : View = part_stepped a step note v in
    subst (λ (r : ℕ → ℕ). TreePart z.pool (r 0) (w.words area.Role) (w.words area.Pool) (up_after step a (v.hand a).topics v I.up)
    (spot_after step (v.hand a).topics v I.spot)) (sym (areas_stay v a step note area.Root refl)) (tree_behind z v a step note S I)
