-- What is said of all entries below a table is so after each step of a part, if the leaf is that it puts or leaves.
use Rattle.std.proofs.Common.{◌≡◌, ◌⊎◌, inl, inr, ◌/◌, ◌<◌, ◌≤◌, ℕ, refl, sym, subst, ap, ◌∙◌, arith}
use Rattle.std.specs.Prelude.{Bool, true, false, ◌==◌, if◌then◌else◌, Some}
use Rattle.core_views.specs.declared.sizes.Sizes.{Sizes}
use Rattle.core_views.specs.declared.topics.Topics.{Topics}
use Rattle.core_views.specs.Sizes.{actors_of}
use Rattle.spte_words.specs.declared.area.Area.TheVariants as area
use Rattle.spte_words.specs.Areas.{pool_index}
use Rattle.spte_words.specs.Entries.{level_span}
use Rattle.part_steps.specs.declared.part_step.PartStep.{PartStep}
use Rattle.part_steps.specs.declared.part_step.PartStep.TheVariants as part
use Rattle.part_steps.specs.PartTasks.{entry_index, leaf_written, link_written, page_owned, table_page, leaf_fixed}
use Rattle.part_steps.specs.PartHoldings.{IsOver}
use Rattle.mmu_core.specs.invariant.AllOver.{AllOver, IsEntryOver}
use Rattle.mmu_core.specs.invariant.TopicsInvariant.{TopicsInvariant}
use Rattle.mmu_core.specs.invariant.TreePart.{Position, HangsBelow, at, is_table, stands}
use Rattle.mmu_core.specs.invariant.TreePart.Use.{Under}
use Rattle.mmu_core.specs.machine.View.{View, part_stepped, upd}
use Rattle.mmu_core.proofs.machine.PartStepping.{IsPart}
use Rattle.mmu_core.proofs.words.PartWords.{IsElsewhere, page_stays}
use Rattle.mmu_core.proofs.pages.PoolPages.{owned_use}
use Rattle.mmu_core.proofs.pages.Standing.{entry_now, position_below, spot_after, spot_of, up_after, upd_if}
use Rattle.mmu_core.proofs.pages.UsesStay.{is_link, same_tables}
use Rattle.mmu_core.proofs.machine.ColumnsTell.{tells}
use Rattle.spte_words.specs.declared.spte_kind.SpteKind.TheVariants as entry_kind
use Rattle.spte_words.specs.Entries.{child_word, kind_of, without_write}
use Rattle.spte_words.proofs.ChildEntries.{below_absent, below_leaf}
use Rattle.spte_words.proofs.Indices.{same_pool_word}
use Rattle.mmu_core.proofs.machine.Columns.{upd_other}
use Rattle.mmu_core.proofs.pages.LinkMade.{LinksPage, links_page, takes_one}
use Rattle.mmu_core.proofs.pages.SplitLeaves.{over_split}
use Rattle.mmu_core.proofs.pages.ProtectedLeaf.{found_leaf, pool_protected}
use Rattle.mmu_core.proofs.pages.AllOver.{IsInherited, IsLight, absent_is, same_below, over_grown, over_words, over_stored, over_exchanged}

-- What the leaf owes that a step leaves, or puts by an exchange that is won: it is so of each guest frame of its span; where it stands in place of one, as this
-- one was.
abbrev pub OfNewLeaf : PartStep → Topics → View → (ℕ → ℕ → ℕ → Type 0) → Type 0
OfNewLeaf (part.Leaf gfn write) t v IsSo =
    entry_now gfn t v ≡ t.walk.entry → (other : ℕ) → other / level_span t.walk.level ≡ gfn / level_span t.walk.level
    → IsSo t.walk.level other (leaf_written gfn write t)
OfNewLeaf (part.Fix gfn) t v IsSo =
    entry_now gfn t v ≡ t.walk.entry → (other : ℕ) → other / level_span t.walk.level ≡ gfn / level_span t.walk.level → IsSo t.walk.level other t.walk.entry
    → IsSo t.walk.level other (leaf_fixed t)
OfNewLeaf (part.Protect gfn) t v IsSo =
    (found other : ℕ) → kind_of t.walk.level found ≡ entry_kind.Leaf → IsSo t.walk.level other found → IsSo t.walk.level other (without_write found)
OfNewLeaf _ t v IsSo = Unit {0}

module _ (z : Sizes) (v : View) (a : ℕ) (I : TopicsInvariant z v) (m : ℕ) (IsSo : ℕ → ℕ → ℕ → Type 0) (table : is_table (I.up m) ≡ true)
    (light : IsLight IsSo) (A : AllOver I.up I.spot (v.words area.Pool) m IsSo) where
  abbrev t : Topics
  t = (v.hand a).topics

  -- where the walk's table stands
  at_walk : a < actors_of z → 1 ≤ t.walk.level → I.spot (table_page t.walk) ≡ at t.walk.level t.walk.prefix
  at_walk lt from = (spot_of I.up I.spot (table_page t.walk) _ ((I.held a lt).table from)).1

  -- A step that is no exchange leaves the words of tables.
  still_over : (step : PartStep) (note : ℕ) → IsPart z v a step → is_link step ≡ false → ((k : ℕ) → is_table (I.up k) ≡ true → IsElsewhere step t k)
      → AllOver (up_after step a t v I.up) I.spot ((part_stepped a step note v).words area.Pool) m IsSo
  still_over step note S never elsewhere k j gfn R O =
      let same = same_tables z v a step S I never in
      over_words I.up I.spot (v.words area.Pool) m IsSo table A ((part_stepped a step note v).words area.Pool)
      (λ l i is low. page_stays z v a step note S l (elsewhere l is) i low) k j gfn
      (R.0, same_below I.up (up_after step a t v I.up) m same R.0 k R.1) O

  -- A leaf is put in the guest frame's entry, or another one in its place.
  put_over : (gfn new_ : ℕ) → a < actors_of z → IsOver gfn t.walk → (entry_now gfn t v ≡ t.walk.entry → (other : ℕ)
      → other / level_span t.walk.level ≡ gfn / level_span t.walk.level → IsSo t.walk.level other t.walk.entry → IsSo t.walk.level other new_)
      → AllOver I.up I.spot (upd (v.words area.Pool) (pool_index (table_page t.walk) (entry_index gfn t.walk.level))
      (if entry_now gfn t v == t.walk.entry then new_ else entry_now gfn t v)) m IsSo
  put_over gfn new_ lt over new_so =
      over_exchanged I.up I.spot (v.words area.Pool) m IsSo table A (table_page t.walk) (entry_index gfn t.walk.level) new_
      (entry_now gfn t v == t.walk.entry) (omega arith)
      (λ won other R O. subst (λ p. IsSo p.level other new_) (sym here)
      (new_so (tells (entry_now gfn t v) t.walk.entry won) other (own other (subst (λ p. IsEntryOver p (entry_index gfn t.walk.level) other) here O))
      (was (tells (entry_now gfn t v) t.walk.entry won) other R O)))
    where
      here : I.spot (table_page t.walk) ≡ at t.walk.level t.walk.prefix
      here = at_walk lt over.there

      own : (other : ℕ) → IsEntryOver (at t.walk.level t.walk.prefix) (entry_index gfn t.walk.level) other
          → other / level_span t.walk.level ≡ gfn / level_span t.walk.level
      own other O = let is = O.1 in let span = over.span in omega (arith, is, span)

      was : entry_now gfn t v ≡ t.walk.entry → (other : ℕ) → HangsBelow I.up m (table_page t.walk)
          → IsEntryOver (I.spot (table_page t.walk)) (entry_index gfn t.walk.level) other → IsSo t.walk.level other t.walk.entry
      was is other R O =
          subst (λ w. IsSo t.walk.level other w) is
          (subst (λ p. IsSo p.level other (entry_now gfn t v)) here (A (table_page t.walk) (entry_index gfn t.walk.level) other R O))

  -- A leaf is zapped.
  zap_over : (gfn note : ℕ) → AllOver I.up I.spot ((part_stepped a (part.Zap gfn) note v).words area.Pool) m IsSo
  zap_over gfn note =
      over_stored I.up I.spot (v.words area.Pool) m IsSo table A (table_page t.walk) (entry_index gfn t.walk.level) 0 (omega arith)
      (λ other R O. subst (IsSo (I.spot (table_page t.walk)).level other) (sym absent_is) (light.absent (I.spot (table_page t.walk)).level other))

  -- Writes are forbidden in a leaf.
  protect_over : (gfn note : ℕ) → IsPart z v a (part.Protect gfn) → OfNewLeaf (part.Protect gfn) t v IsSo
      → AllOver I.up I.spot ((part_stepped a (part.Protect gfn) note v).words area.Pool) m IsSo
  protect_over gfn note S new_ =
      subst (λ (pool : ℕ → ℕ). AllOver I.up I.spot pool m IsSo) (sym (pool_protected z v a gfn S note))
      (over_stored I.up I.spot (v.words area.Pool) m IsSo table A (table_page t.walk) (entry_index gfn t.walk.level) (without_write found) (omega arith)
      (λ other R O. subst (λ p. IsSo p.level other (without_write found)) (sym here)
      (new_ found other (found_leaf z v a gfn S I)
      (subst (λ p. IsSo p.level other found) here (A (table_page t.walk) (entry_index gfn t.walk.level) other R O)))))
    where
      found : ℕ
      found = entry_now gfn t v

      here : I.spot (table_page t.walk) ≡ at t.walk.level t.walk.prefix
      here = at_walk S.there S.needs.saw.over.there

  -- A table is linked: in an absent entry it has none, and in a leaf's place its entries are the leaf's children.
  module _ (heirs : IsInherited IsSo) (gfn note : ℕ) (S : IsPart z v a (part.Link gfn)) where
    abbrev won : Bool
    won = entry_now gfn t v == t.walk.entry

    abbrev index : ℕ
    index = entry_index gfn t.walk.level

    abbrev pool : ℕ → ℕ
    pool = v.words area.Pool

    page : LinksPage z v a I
    page = links_page z v a gfn I S

    at_table : stands I.up I.spot (table_page t.walk) ≡ Some (at t.walk.level t.walk.prefix)
    at_table = (I.held a S.there).table S.needs.0.saw.over.there

    here : I.spot (table_page t.walk) ≡ at t.walk.level t.walk.prefix
    here = at_walk S.there S.needs.0.saw.over.there

    abbrev Linked : Bool → Type 0
    Linked b =
        AllOver (upd_if b I.up (page_owned t.owned) (Under (table_page t.walk) index)) (upd_if b I.spot (page_owned t.owned) (position_below gfn t))
        (upd pool (pool_index (table_page t.walk) index) (if b then link_written t else entry_now gfn t v)) m IsSo

    -- in an absent entry's place
    grown : kind_of t.walk.level t.walk.entry ≡ entry_kind.Absent → (b : Bool) → won ≡ b → Linked b
    grown none b is =
        over_grown I.tree (upd pool (pool_index (table_page t.walk) index) (if b then link_written t else entry_now gfn t v)) m IsSo table light b
        (page_owned t.owned) (Under (table_page t.walk) index) (position_below gfn t) page.no_table
        (λ is_so j low. upd_other pool (pool_index (table_page t.walk) index) (pool_index (page_owned t.owned) j) _
        (λ e. page.apart (sym (same_pool_word (page_owned t.owned) (table_page t.walk) j index low (omega arith) e).0))
        ∙ page.words j low ∙ below_absent t.walk.level t.walk.entry j none)
        (over_exchanged I.up I.spot pool m IsSo table A (table_page t.walk) index (link_written t) b (omega arith)
        (λ is_so other R O. light.link (I.spot (table_page t.walk)).level other (page_owned t.owned)
        (let upper = S.needs.0.upper in let level = ap (λ (p : Position). p.level) here in omega (arith, upper, level)) page.small))

    -- in a leaf's
    split : kind_of t.walk.level t.walk.entry ≡ entry_kind.Leaf → (b : Bool) → won ≡ b → Linked b
    split leaf false is = over_exchanged I.up I.spot pool m IsSo table A (table_page t.walk) index (link_written t) false (omega arith) (λ no. absurd (cc no))
    split leaf true is =
        let found : entry_now gfn t v ≡ t.walk.entry = tells (entry_now gfn t v) t.walk.entry is in
        over_split I.tree m IsSo table light heirs (table_page t.walk) t.walk.level t.walk.prefix index (page_owned t.owned) at_table (omega arith)
        S.needs.0.upper page.small (ap (kind_of t.walk.level) found ∙ leaf) page.no_table
        (λ j low. page.words j low ∙ below_leaf t.walk.level t.walk.entry j S.needs.0.upper leaf
        ∙ ap (λ w. child_word t.walk.level w j) (sym found)) A

    link_over : Linked won
    link_over = by (takes_one _ S.needs.0.takes)
      where
        by : (kind_of t.walk.level t.walk.entry ≡ entry_kind.Absent) ⊎ (kind_of t.walk.level t.walk.entry ≡ entry_kind.Leaf) → Linked won
        by (inl none) = grown none won refl
        by (inr leaf) = split leaf won refl

-- What is said of all entries below a table, of a claim that is light, is so after each step, if the new leaf is.
pub over_step : (z : Sizes) (v : View) (a : ℕ) (step : PartStep) (note : ℕ) → IsPart z v a step
    → (I : TopicsInvariant z v) (m : ℕ) (IsSo : ℕ → ℕ → ℕ → Type 0) → is_table (I.up m) ≡ true → IsLight IsSo → IsInherited IsSo
    → OfNewLeaf step (v.hand a).topics v IsSo → AllOver I.up I.spot (v.words area.Pool) m IsSo
    → AllOver (up_after step a (v.hand a).topics v I.up) (spot_after step (v.hand a).topics v I.spot)
    ((part_stepped a step note v).words area.Pool) m IsSo
over_step z v a (part.Link gfn) note S I m IsSo table light heirs new_ A = link_over z v a I m IsSo table light A heirs gfn note S
over_step z v a (part.Leaf gfn write) note S I m IsSo table light heirs new_ A =
    put_over z v a I m IsSo table light A gfn (leaf_written gfn write (v.hand a).topics) S.there S.needs.0.saw.over (λ is other over was. new_ is other over)
over_step z v a (part.Fix gfn) note S I m IsSo table light heirs new_ A =
    put_over z v a I m IsSo table light A gfn (leaf_fixed (v.hand a).topics) S.there S.needs.saw.over new_
over_step z v a (part.Fill value) note S I m IsSo table light heirs new_ A =
    still_over z v a I m IsSo table light A (part.Fill value) note S refl
    (λ k is o owns e. let no = ap (λ l. is_table (I.up l)) (sym e) ∙ ap is_table (owned_use I.uses a o S.there owns) in absurd (cc (no, is)))
over_step z v a (part.Zap gfn) note S I m IsSo table light heirs new_ A = zap_over z v a I m IsSo table light A gfn note
over_step z v a (part.Protect gfn) note S I m IsSo table light heirs new_ A = protect_over z v a I m IsSo table light A gfn note S new_
over_step z v a step note S I m IsSo table light heirs new_ A = still_over z v a I m IsSo table light A step note S refl (λ k is. tt)
