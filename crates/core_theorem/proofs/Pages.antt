-- Each pool page has one use.
use Rattle.std.proofs.Common.{◌≡◌, inl, inr, ℕ, refl, sym, ap, ◌∙◌, arith}
use Rattle.std.specs.Prelude.{Some}
use Rattle.core_views.specs.declared.sizes.Sizes.{Sizes}
use Rattle.core_views.specs.Held.{Held}
use Rattle.spte_words.specs.declared.area.Area.TheVariants as area
use Rattle.spte_words.specs.Areas.{pool_index}
use Rattle.spte_words.specs.Entries.{kind_of}
use Rattle.spte_words.proofs.ReadsEntries.{same_table, table_no_leaf, table_not_absent}
use Rattle.mmu_core.specs.invariant.Laws.{IsSound}
use Rattle.mmu_core.specs.machine.Machine.{World}
use Rattle.mmu_core.specs.invariant.TreePart.{EntryPart, Position, Use, stands}
use Rattle.mmu_core.specs.invariant.TreePart.Use.{Free, OldSet, Outside, Owned, Root, SlotSet, Under}
use Rattle.mmu_core.specs.machine.View.{word_in}
use Rattle.mmu_core.proofs.machine.ColumnsTell.{is_outside, outside_tells, tells}
use Rattle.mmu_core.proofs.pages.PoolPages.{free_use, some_retires, has_owner, retired_use, owned_use, set_use, use_is}
use Rattle.mmu_core.proofs.pages.Standing.{at_spot}
use Rattle.mmu_core.proofs.pages.Uses.{has_use, told_so}
use Rattle.mmu_core.proofs.pages.TreePlaces.{all_reached, one_place}
use Rattle.core_theorem.specs.Pages.{IsUsedFor, LinksPage, PagesAreUsed}

module _ (z : Sizes) (u : World Held) (G : IsSound z u) (page : ℕ) where
  abbrev up : ℕ → Use
  up = G.topics.up

  abbrev spot : ℕ → Position
  spot = G.topics.spot

  -- A page under an entry is linked by it.
  links_page : (parent entry : ℕ) → up page ≡ Under parent entry → LinksPage z u up spot parent entry page
  links_page parent entry is =
      let V = G.topics.tree.under page parent entry is in
      let from = (G.topics.tree.there page (spot page) (at_spot up spot page (Under parent entry) is refl)).1 in
      let index = V.index in
      record { at = _; table = V.above; upper = omega (arith, from); low = omega (arith, index); link = V.link }

  -- And what is linked by an entry is under it.
  under_it : (parent entry : ℕ) → LinksPage z u up spot parent entry page → up page ≡ Under parent entry
  under_it parent entry L = by (G.topics.tree.entries parent L.at L.table entry L.low)
    where
      by : EntryPart up parent L.at entry (word_in z u area.Pool (pool_index parent entry)) → up page ≡ Under parent entry
      by (inl absent) = absurd (table_not_absent page (sym L.link ∙ absent))
      by (inr (inl K)) = ap up (sym (same_table K.page page (sym K.is ∙ L.link))) ∙ K.below
      by (inr (inr leaf)) = absurd (table_no_leaf L.at.level page L.upper (ap (kind_of L.at.level) (sym L.link) ∙ leaf))

  used : (use_ : Use) → up page ≡ use_ → IsUsedFor z u up spot page use_
  used Free is = told_so use_is G.topics.uses.told page Free is Free
  used Root is = sym (G.topics.tree.only page is)
  used (Owned actor) is = let O = has_owner G.topics.uses actor page is in (O.there, record { owned = O.held; is = O.is; of_page = O.of_number })
  used (Under parent entry) is = links_page parent entry is
  used SlotSet is = tells (word_in z u area.Slots 0) page (told_so use_is G.topics.uses.told page SlotSet is SlotSet)
  used (OldSet actor) is = some_retires G.topics.uses actor page is
  used Outside is = outside_tells page z.pool (told_so use_is G.topics.uses.told page Outside is Outside)

  only_so : (use_ : Use) → IsUsedFor z u up spot page use_ → up page ≡ use_
  only_so Free is = free_use G.topics.uses page is
  only_so Root is = ap up (sym is) ∙ G.topics.tree.top
  only_so (Owned actor) U = ap up (sym U.1.of_page) ∙ owned_use G.topics.uses actor U.1.owned U.0 U.1.is
  only_so (Under parent entry) L = under_it parent entry L
  only_so SlotSet is = ap up (sym is) ∙ set_use G.topics.uses
  only_so (OldSet actor) U = retired_use G.topics.uses actor page U.0 U.1
  only_so Outside le = has_use use_is G.topics.uses.told Outside page (is_outside page z.pool le)

pub each_used : (z : Sizes) (u : World Held) (G : IsSound z u) (page : ℕ) → IsUsedFor z u G.topics.up G.topics.spot page (G.topics.up page)
each_used z u G page = used z u G page (G.topics.up page) refl

pub no_other_use : (z : Sizes) (u : World Held) (G : IsSound z u) (page : ℕ) (use_ : Use) → IsUsedFor z u G.topics.up G.topics.spot page use_
    → G.topics.up page ≡ use_
no_other_use z u G page use_ is = only_so z u G page use_ is

pub stand_apart : (z : Sizes) (u : World Held) (G : IsSound z u) (k l : ℕ) (p : Position) → stands G.topics.up G.topics.spot k ≡ Some p
    → stands G.topics.up G.topics.spot l ≡ Some p → k ≡ l
stand_apart z u G k l p at_k at_l = let T = G.topics.tree in one_place T k l p (all_reached T k p at_k) (all_reached T l p at_l) at_k at_l

abbrev pub pages_are_used : (z : Sizes) (u : World Held) → IsSound z u → PagesAreUsed z u
pages_are_used z u G = record {
  up = G.topics.up;
  spot = G.topics.spot;
  each = each_used z u G;
  only = no_other_use z u G;
  tables = G.topics.tree;
  leaves = G.topics.leaves;
  apart = stand_apart z u G;
}
