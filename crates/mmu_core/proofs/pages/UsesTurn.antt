-- What each pool page is, where pages pass from one use to another: by a claim, a link, a publication, or as they are given back.
use Rattle.std.proofs.Common.{◌≡◌, ◌+◌, ◌*◌, ◌^◌, ◌<◌, ℕ, refl, sym, ap, ◌∙◌, bit_and, bit_or, w64}
use Rattle.std.specs.Prelude.{Bool, true, false, if◌then◌else◌, Option, Some, None}
use Rattle.std.specs.Int.{bit_not}
use Rattle.core_views.specs.declared.topics.OwnedPage.{OwnedPage}
use Rattle.core_views.specs.declared.topics.TableWalk.{TableWalk}
use Rattle.spte_words.specs.Bits.{has_bit}
use Rattle.mmu_core.specs.invariant.AreUsed.{AreUsed}
use Rattle.mmu_core.specs.invariant.PoolPart.{UsePart, is_free, is_retired, is_owned, is_use, page_told}
use Rattle.mmu_core.specs.invariant.TreePart.{Use}
use Rattle.mmu_core.specs.invariant.TreePart.Use.{Free, OldSet, Owned, Root, SlotSet, Under}
use Rattle.mmu_core.specs.machine.View.{upd}
use Rattle.mmu_core.proofs.machine.Columns.{upd_other}
use Rattle.mmu_core.proofs.machine.ColumnsTell.{one_for, one_less, one_more, place_comes, place_leaves, place_stays}
use Rattle.mmu_core.proofs.words.PoolBits.{free_cleared, free_given, free_unclaimed, page_free}
use Rattle.mmu_core.proofs.pages.PoolPages.{free_use, retired_use, owned_not_slots, owned_use, set_use, use_is}
use Rattle.mmu_core.proofs.pages.Standing.{upd_if}
use Rattle.mmu_core.proofs.pages.Uses.{passes, told_after}

-- A claim of bit j of word i, which was won or not.
abbrev pub new_owned : Bool → TableWalk → ℕ → ℕ → Option OwnedPage
new_owned won walk i j =
    if won then Some (record { page = 64 * i + j; filled = 0; entry = walk.entry; level = walk.level; below = true; role = 0 }) else None

module _ {n pages slots : ℕ} {map : ℕ → ℕ} {owned : ℕ → Option OwnedPage} {retired : ℕ → Option ℕ} {up : ℕ → Use}
    (U : UsePart n pages slots map owned retired up) (a : ℕ) (lt : a < n) where
  -- What is told, but of a page that has passed from one use to another.
  abbrev passed : ℕ → Use → Use → Use → ℕ → Bool
  passed = told_after is_use (page_told n pages slots map owned retired up)

  -- No page passes.
  pub uses_stay : (words : ℕ → ℕ) (new_ : Option OwnedPage) → ((k : ℕ) → is_free words k ≡ is_free map k)
      → ((k : ℕ) → is_owned new_ k ≡ is_owned (owned a) k) → UsePart n pages slots words (upd owned a new_) retired up
  uses_stay words new_ free same = record { told = by }
    where
      by : AreUsed Use is_use (page_told n pages slots words (upd owned a new_) retired up) up
      by Free k = free k ∙ U.told Free k
      by (Owned l) k = place_stays is_owned n owned a new_ lt refl same l k ∙ U.told (Owned l) k
      by u k = U.told u k

  pub claim_kept : (walk : TableWalk) (i j : ℕ) (won : Bool) → j < 64 → has_bit j (map i) ≡ won → owned a ≡ None
      → UsePart n pages slots (upd map i (bit_and (map i) (bit_not w64 (2 ^ j)))) (upd owned a (new_owned won walk i j)) retired
      (upd_if won up (64 * i + j) (Owned a))
  claim_kept walk i j false low found none = uses_stay _ None (free_unclaimed map i j low found) (λ k. sym (ap (λ x. is_owned x k) none))
  claim_kept walk i j true low found none = record { told = by }
    where
      p : ℕ
      p = 64 * i + j

      A : AreUsed Use is_use (passed p Free (Owned a)) (upd up p (Owned a))
      A = passes use_is U.told p Free (Owned a) (free_use U p (page_free map i j low ∙ found)) refl

      by : AreUsed Use is_use
          (page_told n pages slots (upd map i (bit_and (map i) (bit_not w64 (2 ^ j)))) (upd owned a (new_owned true walk i j)) retired (upd up p (Owned a)))
          (upd up p (Owned a))
      by Free k = free_cleared map i j low k ∙ A Free k
      by (Owned l) k = place_comes is_owned n owned a (new_owned true walk i j) lt none p (one_more p) l k ∙ A (Owned l) k
      by Root k = refl
      by (Under page entry) k = refl
      by u k = A u k

  -- The page that is owned is given back, or linked.
  pub give_kept : (i j : ℕ) (o : OwnedPage) → j < 64 → 64 * i + j ≡ o.page → owned a ≡ Some o
      → UsePart n pages slots (upd map i (bit_or (map i) (2 ^ j))) (upd owned a None) retired (upd up o.page Free)
  give_kept i j o low at mine = record { told = by }
    where
      A : AreUsed Use is_use (passed o.page (Owned a) Free) (upd up o.page Free)
      A = passes use_is U.told o.page (Owned a) Free (owned_use U a o lt mine) refl

      by : AreUsed Use is_use
          (page_told n pages slots (upd map i (bit_or (map i) (2 ^ j))) (upd owned a None) retired (upd up o.page Free)) (upd up o.page Free)
      by Free k = free_given map i j o.page low at k ∙ A Free k
      by (Owned l) k = place_leaves is_owned n owned a None lt mine o.page (one_less o.page) l k ∙ A (Owned l) k
      by Root k = refl
      by (Under page entry) k = refl
      by u k = A u k

  pub link_kept : (o : OwnedPage) (won : Bool) (page index : ℕ) → owned a ≡ Some o
      → UsePart n pages slots map (upd owned a (if won then None else Some o)) retired (upd_if won up o.page (Under page index))
  link_kept o false page index mine = uses_stay map (Some o) (λ k. refl) (λ k. sym (ap (λ x. is_owned x k) mine))
  link_kept o true page index mine = record { told = by }
    where
      A : AreUsed Use is_use (passed o.page (Owned a) (Under page index)) (upd up o.page (Under page index))
      A = passes use_is U.told o.page (Owned a) (Under page index) (owned_use U a o lt mine) refl

      by : AreUsed Use is_use
          (page_told n pages slots map (upd owned a None) retired (upd up o.page (Under page index))) (upd up o.page (Under page index))
      by (Owned l) k = place_leaves is_owned n owned a None lt mine o.page (one_less o.page) l k ∙ A (Owned l) k
      by Root k = refl
      by (Under above entry) k = refl
      by u k = A u k

  -- A slot set is published in place of another one, which is retired.
  pub publish_kept : (o : OwnedPage) → owned a ≡ Some o → retired a ≡ None
      → UsePart n pages o.page map (upd owned a None) (upd retired a (Some slots)) (upd (upd up slots (OldSet a)) o.page SlotSet)
  publish_kept o mine none = record { told = by }
    where
      was : upd up slots (OldSet a) o.page ≡ Owned a
      was = upd_other up slots o.page (OldSet a) (owned_not_slots U a o lt mine) ∙ owned_use U a o lt mine

      A : AreUsed Use is_use (told_after is_use (passed slots SlotSet (OldSet a)) o.page (Owned a) SlotSet) (upd (upd up slots (OldSet a)) o.page SlotSet)
      A = passes use_is (passes use_is U.told slots SlotSet (OldSet a) (set_use U) refl) o.page (Owned a) SlotSet was refl

      by : AreUsed Use is_use
          (page_told n pages o.page map (upd owned a None) (upd retired a (Some slots)) (upd (upd up slots (OldSet a)) o.page SlotSet))
          (upd (upd up slots (OldSet a)) o.page SlotSet)
      by SlotSet k = one_for slots o.page k ∙ A SlotSet k
      by (Owned l) k = place_leaves is_owned n owned a None lt mine o.page (one_less o.page) l k ∙ A (Owned l) k
      by (OldSet l) k = place_comes is_retired n retired a (Some slots) lt none slots (one_more slots) l k ∙ A (OldSet l) k
      by Root k = refl
      by (Under page entry) k = refl
      by u k = A u k

  -- The page that left is given back.
  pub give_old_kept : (i j p : ℕ) → j < 64 → 64 * i + j ≡ p → retired a ≡ Some p
      → UsePart n pages slots (upd map i (bit_or (map i) (2 ^ j))) owned (upd retired a None) (upd up p Free)
  give_old_kept i j p low at left = record { told = by }
    where
      A : AreUsed Use is_use (passed p (OldSet a) Free) (upd up p Free)
      A = passes use_is U.told p (OldSet a) Free (retired_use U a p lt left) refl

      by : AreUsed Use is_use
          (page_told n pages slots (upd map i (bit_or (map i) (2 ^ j))) owned (upd retired a None) (upd up p Free)) (upd up p Free)
      by Free k = free_given map i j p low at k ∙ A Free k
      by (OldSet l) k = place_leaves is_retired n retired a None lt left p (one_less p) l k ∙ A (OldSet l) k
      by Root k = refl
      by (Under page entry) k = refl
      by u k = A u k
