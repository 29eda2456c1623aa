-- What a page of the pool is, it is alone: free, owned by one actor, a table, the published slot set, or retired.
use Rattle.std.proofs.Common.{◌≡◌, ◌≢◌, ◌<◌, ℕ, refl, sym, ap, ◌∙◌}
use Rattle.std.specs.Prelude.{Bool, true, false, ◌==◌, Option, Some}
use Rattle.core_views.specs.declared.topics.OwnedPage.{OwnedPage}
use Rattle.mmu_core.specs.invariant.PoolPart.{UsePart, is_free, is_retired, is_owned, is_use}
use Rattle.mmu_core.specs.invariant.TreePart.{Position, Use, stands}
use Rattle.mmu_core.specs.invariant.TreePart.Use.{Free, OldSet, Outside, Owned, Root, SlotSet, Under}
use Rattle.mmu_core.proofs.machine.ColumnsTell.{HeldAt, at_place, both, held_at, inside_tells, itself, tells}
use Rattle.mmu_core.proofs.pages.Standing.{no_table}
use Rattle.mmu_core.proofs.pages.Uses.{has_use, told_so}

-- Uses that are found to be one are one.
pub use_is : (u w : Use) → is_use u w ≡ true → w ≡ u
use_is Free Free is = refl
use_is Root Root is = refl
use_is SlotSet SlotSet is = refl
use_is Outside Outside is = refl
use_is (Owned i) (Owned j) is = ap Owned (sym (tells i j is))
use_is (Under k i) (Under l j) is =
    let e = both (k == l) (i == j) is in let page = tells k l e.0 in let entry = tells i j e.1 in λ t. Under (sym page t) (sym entry t)
use_is (OldSet i) (OldSet j) is = ap OldSet (sym (tells i j is))
use_is _ _ is = absurd (cc is)

module _ {n pages slots : ℕ} {map : ℕ → ℕ} {owned : ℕ → Option OwnedPage} {retired : ℕ → Option ℕ} {up : ℕ → Use}
    (U : UsePart n pages slots map owned retired up) where
  -- What a page is, by the words and hands.
  pub free_use : (k : ℕ) → is_free map k ≡ true → up k ≡ Free
  free_use k free = has_use use_is U.told Free k free

  pub owned_use : (i : ℕ) (o : OwnedPage) → i < n → owned i ≡ Some o → up o.page ≡ Owned i
  owned_use i o lt is = has_use use_is U.told (Owned i) o.page (at_place is_owned n owned i o.page lt is ∙ itself o.page)

  pub retired_use : (i k : ℕ) → i < n → retired i ≡ Some k → up k ≡ OldSet i
  retired_use i k lt is = has_use use_is U.told (OldSet i) k (at_place is_retired n retired i k lt is ∙ itself k)

  pub set_use : up slots ≡ SlotSet
  set_use = has_use use_is U.told SlotSet slots (itself slots)

  -- And back.
  pub has_owner : (i page : ℕ) → up page ≡ Owned i → HeldAt OwnedPage (λ o. o.page) n owned i page
  has_owner i page is = held_at (λ (o : OwnedPage). o.page) n owned i page (told_so use_is U.told page (Owned i) is (Owned i) ∙ itself i)

  pub some_retires : (i page : ℕ) → up page ≡ OldSet i → (i < n) × (retired i ≡ Some page)
  some_retires i page is =
      let H = held_at (λ (k : ℕ). k) n retired i page (told_so use_is U.told page (OldSet i) is (OldSet i) ∙ itself i) in (H.there, H.is ∙ ap Some H.of_number)

  -- A page that is something else than outside is one of the pool.
  pub in_pool : (k : ℕ) (u : Use) → up k ≡ u → is_use Outside u ≡ false → k < pages
  in_pool k u is inside = inside_tells k pages (told_so use_is U.told k u is Outside ∙ inside)

  pub owned_there : (i : ℕ) (o : OwnedPage) → i < n → owned i ≡ Some o → o.page < pages
  owned_there i o lt is = in_pool o.page (Owned i) (owned_use i o lt is) refl

  pub left_there : (i k : ℕ) → i < n → retired i ≡ Some k → k < pages
  left_there i k lt is = in_pool k (OldSet i) (retired_use i k lt is) refl

  pub slots_there : slots < pages
  slots_there = in_pool slots SlotSet set_use refl

  -- A page that is something else isn't free.
  pub not_free : (k : ℕ) (u : Use) → up k ≡ u → is_use Free u ≡ false → is_free map k ≡ false
  not_free k u is used = told_so use_is U.told k u is Free ∙ used

  -- An owned page isn't free, is no table and isn't the published slot set.
  pub owned_not_free : (i : ℕ) (o : OwnedPage) → i < n → owned i ≡ Some o → is_free map o.page ≡ false
  owned_not_free i o lt is = not_free o.page (Owned i) (owned_use i o lt is) refl

  pub owned_no_table : (spot : ℕ → Position) (i : ℕ) (o : OwnedPage) (p : Position) → i < n → owned i ≡ Some o → stands up spot o.page ≡ Some p → ⊥
  owned_no_table spot i o p lt is = no_table up spot o.page p (Owned i) (owned_use i o lt is) refl

  pub owned_not_slots : (i : ℕ) (o : OwnedPage) → i < n → owned i ≡ Some o → o.page ≢ slots
  owned_not_slots i o lt is e = let one = sym (owned_use i o lt is) ∙ ap up e ∙ set_use in absurd (cc one)

  -- A page has one owner at most.
  pub one_owner : (i j : ℕ) (o p : OwnedPage) → i < n → j < n → owned i ≡ Some o → owned j ≡ Some p → p.page ≡ o.page → i ≡ j
  one_owner i j o p lt more is be same = let one = sym (owned_use i o lt is) ∙ ap up (sym same) ∙ owned_use j p more be in cc one

  -- A table isn't free, isn't the published slot set, and has no owner.
  pub table_not_free : (spot : ℕ → Position) (k : ℕ) (p : Position) → stands up spot k ≡ Some p → is_free map k ≡ false
  table_not_free spot k p at = by (is_free map k) refl
    where
      by : (b : Bool) → is_free map k ≡ b → b ≡ false
      by true free = absurd (no_table up spot k p Free (free_use k free) refl at)
      by false free = refl

  pub table_not_slots : (spot : ℕ → Position) (k : ℕ) (p : Position) → stands up spot k ≡ Some p → k ≢ slots
  table_not_slots spot k p at e = no_table up spot k p SlotSet (ap up e ∙ set_use) refl at

  pub table_not_owned : (spot : ℕ → Position) (k : ℕ) (p : Position) → stands up spot k ≡ Some p → (i : ℕ) (o : OwnedPage) → i < n → owned i ≡ Some o
      → o.page ≢ k
  table_not_owned spot k p at i o lt is e = owned_no_table spot i o p lt is (ap (stands up spot) e ∙ at)

  -- A page that is retired isn't free, has no owner, is no table, and isn't the published slot set; and one actor has retired it.
  pub retired_not_free : (i k : ℕ) → i < n → retired i ≡ Some k → is_free map k ≡ false
  retired_not_free i k lt is = not_free k (OldSet i) (retired_use i k lt is) refl

  pub retired_not_owned : (i k : ℕ) → i < n → retired i ≡ Some k → (j : ℕ) (o : OwnedPage) → j < n → owned j ≡ Some o → o.page ≢ k
  retired_not_owned i k lt is j o more be e = let one = sym (owned_use j o more be) ∙ ap up e ∙ retired_use i k lt is in absurd (cc one)

  pub retired_no_table : (spot : ℕ → Position) (i k : ℕ) (p : Position) → i < n → retired i ≡ Some k → stands up spot k ≡ Some p → ⊥
  retired_no_table spot i k p lt is = no_table up spot k p (OldSet i) (retired_use i k lt is) refl

  pub retired_not_slots : (i k : ℕ) → i < n → retired i ≡ Some k → k ≢ slots
  retired_not_slots i k lt is e = let one = sym (retired_use i k lt is) ∙ ap up e ∙ set_use in absurd (cc one)

  pub one_retires : (i j k : ℕ) → i < n → j < n → retired i ≡ Some k → retired j ≡ Some k → i ≡ j
  one_retires i j k lt more is be = let one = sym (retired_use i k lt is) ∙ retired_use j k more be in cc one
