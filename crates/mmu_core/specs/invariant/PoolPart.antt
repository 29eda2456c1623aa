-- Pool pages: what each of them is.
use Rattle.std.specs.Prelude.{◌≡◌, ◌<◌, ◌≤◌, ◌/◌, ◌%◌, ℕ, Bool, true, false, ◌==◌, ◌&&◌, nat_le, Option, Some}
use Rattle.core_views.specs.declared.topics.OwnedPage.{OwnedPage}
use Rattle.spte_words.specs.Areas.{pool_index}
use Rattle.spte_words.specs.Bits.{has_bit}
use Rattle.spte_words.specs.Entries.{word_below}
use Rattle.mmu_core.specs.invariant.AreUsed.{AreUsed, has_at, is_number}
use Rattle.mmu_core.specs.invariant.TreePart.{Use}
use Rattle.mmu_core.specs.invariant.TreePart.Use.{Free, Root, SlotSet, Outside, Owned, Under, OldSet}

-- The page's bit in the map is set.
abbrev pub is_free : (ℕ → ℕ) → ℕ → Bool
is_free map k = has_bit (k % 64) (map (k / 64))

-- The page is the one that is owned.
abbrev pub is_owned : Option OwnedPage → ℕ → Bool
is_owned owned k = is_number (λ (o : OwnedPage). o.page) owned k

-- Actor i, of n, owns the page.
abbrev pub owns : ℕ → (ℕ → Option OwnedPage) → ℕ → ℕ → Bool
owns n owned i k = has_at is_owned n owned i k

-- The page is the one that is retired.
abbrev pub is_retired : Option ℕ → ℕ → Bool
is_retired retired k = is_number (λ (page : ℕ). page) retired k

-- Actor i, of n, has retired the page.
abbrev pub has_retired : ℕ → (ℕ → Option ℕ) → ℕ → ℕ → Bool
has_retired n retired i k = has_at is_retired n retired i k

-- Two uses are one.
abbrev pub is_use : Use → Use → Bool
is_use Free Free = true
is_use Root Root = true
is_use SlotSet SlotSet = true
is_use Outside Outside = true
is_use (Owned i) (Owned j) = i == j
is_use (Under k i) (Under l j) = (k == l) && (i == j)
is_use (OldSet i) (OldSet j) = i == j
is_use _ _ = false

-- What tells that a page has a use. It is free where its bit in the map is set; an actor's where the actor owns it; the slot set where it is the published one;
-- an old slot set of an actor where this actor has retired it; and outside of the pool from the pool's end on. All others are tables: the tree tells which.
abbrev pub page_told : ℕ → ℕ → ℕ → (ℕ → ℕ) → (ℕ → Option OwnedPage) → (ℕ → Option ℕ) → (ℕ → Use) → Use → ℕ → Bool
page_told n pages slots map owned retired up Free k = is_free map k
page_told n pages slots map owned retired up (Owned i) k = owns n owned i k
page_told n pages slots map owned retired up SlotSet k = slots == k
page_told n pages slots map owned retired up (OldSet i) k = has_retired n retired i k
page_told n pages slots map owned retired up Outside k = nat_le pages k
page_told n pages slots map owned retired up Root k = is_use Root (up k)
page_told n pages slots map owned retired up (Under page entry) k = is_use (Under page entry) (up k)

-- What each page is used for, as `up` says: each has exactly one use.
pub record UsePart (n pages slots : ℕ) (map : ℕ → ℕ) (owned : ℕ → Option OwnedPage) (retired : ℕ → Option ℕ) (up : ℕ → Use) : Type 0 where
  pub told : AreUsed Use is_use (page_told n pages slots map owned retired up) up

-- What an owner has filled: 512 words and the role at most; where it says that all are those below an entry they are; and the role is what it says.
pub record IsFilled (role pool : ℕ → ℕ) (o : OwnedPage) : Type 0 where
  pub most : o.filled ≤ 513
  pub below : o.below ≡ true → (j : ℕ) → j < o.filled → j < 512 → pool (pool_index o.page j) ≡ word_below o.level o.entry j
  pub role_is : o.filled ≡ 513 → role o.page ≡ o.role

abbrev pub FilledPart : ℕ → (ℕ → ℕ) → (ℕ → ℕ) → (ℕ → Option OwnedPage) → Type 0
FilledPart n role pool owned = (i : ℕ) (o : OwnedPage) → i < n → owned i ≡ Some o → IsFilled role pool o
