-- Any two accounts of what the pages of a world are used for agree: each page has the same use in both, and each table stands at one place.
use Rattle.std.proofs.Common.{◌≡◌, ℕ, refl, sym, subst, ◌∙◌}
use Rattle.std.specs.Prelude.{Bool, true, false, Some}
use Rattle.core_views.specs.declared.sizes.Sizes.{Sizes}
use Rattle.core_views.specs.Held.{Held}
use Rattle.spte_words.specs.declared.area.Area.TheVariants as area
use Rattle.spte_words.specs.Areas.{pool_index}
use Rattle.mmu_core.specs.invariant.AllOver.{AllOver, IsEntryOver}
use Rattle.mmu_core.specs.machine.Machine.{World}
use Rattle.mmu_core.specs.invariant.TreePart.{Position, HangsBelow, Use, is_table, stands}
use Rattle.mmu_core.specs.invariant.TreePart.Use.{Free, OldSet, Outside, Owned, Root, SlotSet, Under}
use Rattle.mmu_core.specs.machine.View.{word_in}
use Rattle.mmu_core.proofs.pages.AllOver.{reached_table}
use Rattle.mmu_core.proofs.pages.Standing.{at_spot, nowhere, spot_of}
use Rattle.mmu_core.proofs.pages.TreePlaces.{stands_in_both}
use Rattle.core_theorem.specs.Pages.{IsUsedFor, LinksPage, PagesAreUsed}

module _ (z : Sizes) (w : World Held) (A B : PagesAreUsed z w) where
  abbrev pool : ℕ → ℕ
  pool = word_in z w area.Pool

  used_so : (k : ℕ) (use_ : Use) → A.up k ≡ use_ → IsUsedFor z w A.up A.spot k use_
  used_so k use_ is = subst (IsUsedFor z w A.up A.spot k) is (A.each k)

  -- What stands at a place in the first account stands there in the second.
  stands_so : (k : ℕ) (p : Position) → stands A.up A.spot k ≡ Some p → stands B.up B.spot k ≡ Some p
  stands_so = stands_in_both A.tables B.tables

  links_so : (parent entry page : ℕ) → LinksPage z w A.up A.spot parent entry page → LinksPage z w B.up B.spot parent entry page
  links_so parent entry page L = record { at = L.at; table = stands_so parent L.at L.table; upper = L.upper; low = L.low; link = L.link }

  -- Each page has the same use in both.
  same_use : (k : ℕ) → A.up k ≡ B.up k
  same_use k = by (A.up k) refl
    where
      by : (use_ : Use) → A.up k ≡ use_ → A.up k ≡ B.up k
      by (Under m j) is = is ∙ sym (B.only k (Under m j) (links_so m j k (used_so k (Under m j) is)))
      by Free is = is ∙ sym (B.only k Free (used_so k Free is))
      by Root is = is ∙ sym (B.only k Root (used_so k Root is))
      by SlotSet is = is ∙ sym (B.only k SlotSet (used_so k SlotSet is))
      by Outside is = is ∙ sym (B.only k Outside (used_so k Outside is))
      by (Owned actor) is = is ∙ sym (B.only k (Owned actor) (used_so k (Owned actor) is))
      by (OldSet actor) is = is ∙ sym (B.only k (OldSet actor) (used_so k (OldSet actor) is))

  pub same_uses : A.up ≡ B.up
  same_uses = λ t k. same_use k t

  -- And each table stands at the same place in both, while nothing else stands anywhere.
  pub same_places : (k : ℕ) → stands A.up A.spot k ≡ stands B.up B.spot k
  same_places k = by (is_table (A.up k)) refl
    where
      by : (table : Bool) → is_table (A.up k) ≡ table → stands A.up A.spot k ≡ stands B.up B.spot k
      by true is = let at_k = at_spot A.up A.spot k (A.up k) refl is in at_k ∙ sym (stands_so k (A.spot k) at_k)
      by false is = nowhere A.up A.spot k (A.up k) refl is ∙ sym (nowhere B.up B.spot k (A.up k) (sym (same_use k)) is)

  -- So what the first says of all entries below a table the second says of them too.
  pub over_in_both : (IsSo : ℕ → ℕ → ℕ → Type 0) (m : ℕ) (p : Position) → stands A.up A.spot m ≡ Some p → AllOver A.up A.spot pool m IsSo
      → AllOver B.up B.spot pool m IsSo
  over_in_both IsSo m p at_m all_so table entry gfn R O =
      let reaches : HangsBelow A.up m table = subst (λ up. HangsBelow up m table) (sym same_uses) R in
      let is : is_table (A.up table) ≡ true = reached_table A.up m table (spot_of A.up A.spot m p at_m).0 reaches in
      let spots : B.spot table ≡ A.spot table =
      (spot_of B.up B.spot table (A.spot table) (stands_so table (A.spot table) (at_spot A.up A.spot table (A.up table) refl is))).1 in
      subst (λ (q : Position). IsSo q.level gfn (pool (pool_index table entry))) (sym spots)
      (all_so table entry gfn reaches (subst (λ q. IsEntryOver q entry gfn) spots O))
