-- What a step finds in the entry in whose place it links a table, and what the table has: the entry is absent, or a large leaf; and the words of the table are
-- absent, or its children.
use Rattle.std.proofs.Common.{◌≡◌, ◌≢◌, ◌⊎◌, inl, inr, ◌+◌, ◌-◌, ◌*◌, ◌^◌, ◌<◌, ◌≤◌, ℕ, refl, sym, ap, ◌∙◌, arith}
use Rattle.std.specs.Prelude.{true, false, Some}
use Rattle.core_views.specs.declared.sizes.Sizes.{Sizes}
use Rattle.core_views.specs.declared.topics.TableWalk.{TableWalk}
use Rattle.core_views.specs.declared.topics.Topics.{Topics}
use Rattle.core_views.specs.Sizes.{actors_of}
use Rattle.spte_words.specs.declared.area.Area.TheVariants as area
use Rattle.spte_words.specs.declared.spte_kind.SpteKind.{SpteKind}
use Rattle.spte_words.specs.declared.spte_kind.SpteKind.TheVariants as entry_kind
use Rattle.spte_words.specs.Areas.{pool_index}
use Rattle.spte_words.specs.Entries.{absent_word, kind_of, word_below}
use Rattle.spte_words.proofs.ChildEntries.{below_absent, below_leaf, child_kind}
use Rattle.spte_words.proofs.ReadsEntries.{kind_of_table}
use Rattle.part_steps.specs.declared.part_step.PartStep.TheVariants as part
use Rattle.part_steps.specs.PartHoldings.{takes_table}
use Rattle.part_steps.specs.PartTasks.{entry_index, is_below, page_owned, table_page}
use Rattle.mmu_core.specs.invariant.TopicsInvariant.{TopicsInvariant}
use Rattle.mmu_core.specs.invariant.TreePart.{EntryPart, Position, TreePart, Use, at, is_table, stands}
use Rattle.mmu_core.specs.machine.View.{View}
use Rattle.mmu_core.proofs.machine.PartStepping.{IsPart}
use Rattle.mmu_core.proofs.pages.Owned.{OwnsWhole, is_below_of, table_owned}
use Rattle.mmu_core.proofs.pages.PoolPages.{owned_there, owned_use}
use Rattle.mmu_core.proofs.pages.Standing.{entry_now, spot_of}
use Rattle.mmu_core.proofs.pages.TreePlaces.{link_stands}
use Rattle.mmu_core.proofs.pages.TreeStored.{LinksNone}

-- An entry above the lowest level whose kind is absent is the absent word.
pub absent_entry : {pages root : ℕ} {role pool : ℕ → ℕ} {up : ℕ → Use} {spot : ℕ → Position} (T : TreePart pages root role pool up spot)
    (k level prefix j : ℕ) → stands up spot k ≡ Some (at level prefix) → j < 512 → 2 ≤ level → pages < 2 ^ 32
    → kind_of level (pool (pool_index k j)) ≡ entry_kind.Absent → pool (pool_index k j) ≡ absent_word
absent_entry {pages} {root} {role} {pool} {up} {spot} T k level prefix j at_k low upper few kind = by (T.entries k (at level prefix) at_k j low)
  where
    by : EntryPart up k (at level prefix) j (pool (pool_index k j)) → pool (pool_index k j) ≡ absent_word
    by (inl e) = e
    by (inr (inl L)) =
        let there = T.there L.page (at (level - 1) (prefix * 512 + j)) (link_stands T k (at level prefix) j (pool (pool_index k j)) at_k L) in
        let links : kind_of level (pool (pool_index k j)) ≡ entry_kind.Table L.page =
        ap (kind_of level) L.is ∙ kind_of_table level L.page upper (omega (arith, few, there.0)) in
        absurd (cc (kind, links))
    by (inr (inr leaf)) = absurd (cc (kind, leaf))

-- The entry in whose place a table is linked links to nothing.
pub takes_one : (k : SpteKind) → takes_table k ≡ true → (k ≡ entry_kind.Absent) ⊎ (k ≡ entry_kind.Leaf)
takes_one entry_kind.Absent is = inl refl
takes_one entry_kind.Leaf is = inr refl
takes_one entry_kind.Frozen is = absurd (cc is)
takes_one (entry_kind.Table page) is = absurd (cc is)

pub link_was : (z : Sizes) (v : View) (a gfn : ℕ) (I : TopicsInvariant z v) (S : IsPart z v a (part.Link gfn))
    → entry_now gfn (v.hand a).topics v ≡ (v.hand a).topics.walk.entry → LinksNone (v.hand a).topics.walk.level (entry_now gfn (v.hand a).topics v)
link_was z v a gfn I S found = by (takes_one _ S.needs.0.takes)
  where
    t : Topics
    t = (v.hand a).topics

    by : (kind_of t.walk.level t.walk.entry ≡ entry_kind.Absent) ⊎ (kind_of t.walk.level t.walk.entry ≡ entry_kind.Leaf)
        → LinksNone t.walk.level (entry_now gfn t v)
    by (inl none) =
        inl (absent_entry I.tree (table_page t.walk) t.walk.level t.walk.prefix (entry_index gfn t.walk.level)
        ((I.held a S.there).table S.needs.0.saw.over.there) (omega arith) S.needs.0.upper (omega (arith, S.is_sizes.pool.1))
        (ap (kind_of t.walk.level) found ∙ none))
    by (inr leaf) = inr (ap (kind_of t.walk.level) found ∙ leaf)

-- The words of a page that is to be linked are those below the entry: absent, or leaves.
pub filled_below : (z : Sizes) (v : View) (a : ℕ) (I : TopicsInvariant z v) → a < actors_of z
    → (owns : OwnsWhole ((v.hand a).topics.walk.level - 1) (v.hand a).topics)
    → is_below (v.hand a).topics.walk (v.hand a).topics.owned ≡ true → (i : ℕ) → i < 512
    → v.words area.Pool (pool_index owns.owned.page i) ≡ word_below (v.hand a).topics.walk.level (v.hand a).topics.walk.entry i
filled_below z v a I there owns below i low =
    let walk : TableWalk = (v.hand a).topics.walk in
    let B = is_below_of walk owns.owned (ap (is_below walk) (sym owns.is) ∙ below) in
    (I.filled a owns.owned there owns.is).below B.0 i (omega (arith, low, owns.whole)) low
    ∙ ap (λ l. word_below l owns.owned.entry i) B.1 ∙ ap (λ e. word_below walk.level e i) B.2

pub below_links_none : (level entry i : ℕ) → 2 ≤ level → level ≤ 4 → (kind_of level entry ≡ entry_kind.Absent) ⊎ (kind_of level entry ≡ entry_kind.Leaf)
    → LinksNone (level - 1) (word_below level entry i)
below_links_none level entry i upper most (inl none) = inl (below_absent level entry i none)
below_links_none level entry i upper most (inr leaf) =
    inr (ap (kind_of (level - 1)) (below_leaf level entry i upper leaf) ∙ child_kind level entry i upper most)

-- What is so where an actor may link its page: it is no table yet, and no page that a walk is in; and its words are those below the entry that was loaded.
pub record LinksPage (z : Sizes) (v : View) (a : ℕ) (I : TopicsInvariant z v) : Type 0 where
  pub small : page_owned (v.hand a).topics.owned < 2 ^ 32
  pub no_table : is_table (I.up (page_owned (v.hand a).topics.owned)) ≡ false
  pub apart : table_page (v.hand a).topics.walk ≢ page_owned (v.hand a).topics.owned
  pub words : (j : ℕ) → j < 512 → v.words area.Pool (pool_index (page_owned (v.hand a).topics.owned) j)
      ≡ word_below (v.hand a).topics.walk.level (v.hand a).topics.walk.entry j

pub links_page : (z : Sizes) (v : View) (a gfn : ℕ) (I : TopicsInvariant z v) → IsPart z v a (part.Link gfn) → LinksPage z v a I
links_page z v a gfn I S = record {
  small = omega (arith, page, owned_there I.uses a owns.owned S.there owns.is, S.is_sizes.pool.1);
  no_table = none;
  apart =
      λ e.
      let yes = (spot_of I.up I.spot (table_page t.walk) _ ((I.held a S.there).table S.needs.0.saw.over.there)).0 in
      let no = ap (λ k. is_table (I.up k)) e ∙ none in
      cc (yes, no);
  words = λ j low. ap (λ k. v.words area.Pool (pool_index k j)) page ∙ filled_below z v a I S.there owns S.needs.1.below j low;
}
  where
    t : Topics
    t = (v.hand a).topics

    owns : OwnsWhole (t.walk.level - 1) t
    owns = table_owned t S.needs.1

    page : page_owned t.owned ≡ owns.owned.page
    page = ap page_owned owns.is

    none : is_table (I.up (page_owned t.owned)) ≡ false
    none = ap (λ k. is_table (I.up k)) page ∙ ap is_table (owned_use I.uses a owns.owned S.there owns.is)
