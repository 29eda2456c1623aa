-- Pool pages: what each of them is used for after a run.
use Rattle.std.specs.Prelude.{◌≡◌, ◌<◌, ◌≤◌, ℕ, true, Some}
use Rattle.core_views.specs.declared.sizes.Sizes.{Sizes}
use Rattle.core_views.specs.declared.topics.OwnedPage.{OwnedPage}
use Rattle.core_views.specs.Held.{Held}
use Rattle.core_views.specs.Sizes.{actors_of}
use Rattle.spte_words.specs.declared.area.Area.TheVariants as area
use Rattle.spte_words.specs.Areas.{pool_index}
use Rattle.spte_words.specs.Entries.{table_word}
use Rattle.mmu_core.specs.machine.Enabled.{mmu}
use Rattle.mmu_core.specs.machine.Machine.{World, hand_in}
use Rattle.mmu_core.specs.invariant.PoolPart.{is_free}
use Rattle.mmu_core.specs.invariant.AllOver.{AllOver, LeafIsFor}
use Rattle.mmu_core.specs.invariant.TreePart.{Position, TreePart, Use, stands}
use Rattle.mmu_core.specs.invariant.TreePart.Use.{Free, OldSet, Outside, Owned, Root, SlotSet, Under}
use Rattle.mmu_core.specs.machine.View.{word_in}
use Rattle.core_theorem.specs.Runs.{AfterEveryRun}

-- The actor owns this page.
pub record Owns (page : ℕ) (h : Held) : Type 0 where
  pub owned : OwnedPage
  pub is : h.topics.owned ≡ Some owned
  pub of_page : owned.page ≡ page

-- This entry of the table in this page, of level 2 or more, is the link to the page.
pub record LinksPage (z : Sizes) (w : World Held) (up : ℕ → Use) (spot : ℕ → Position) (parent entry page : ℕ) : Type 0 where
  pub at : Position
  pub table : stands up spot parent ≡ Some at
  pub upper : 2 ≤ at.level
  pub low : entry < 512
  pub link : word_in z w area.Pool (pool_index parent entry) ≡ table_word page

-- The page is used so in this world, where tables stand at these spots: it is free, the root, owned by the actor at a place, linked by an entry
-- of another table, the published slot set, an old slot set that an actor has retired, or outside of the pool.
abbrev pub IsUsedFor : Sizes → World Held → (ℕ → Use) → (ℕ → Position) → ℕ → Use → Type 0
IsUsedFor z w up spot page Free = is_free (word_in z w area.PoolMap) page ≡ true
IsUsedFor z w up spot page Root = word_in z w area.Root 0 ≡ page
IsUsedFor z w up spot page (Owned actor) = (actor < actors_of z) × Owns page (hand_in mmu w actor)
IsUsedFor z w up spot page (Under parent entry) = LinksPage z w up spot parent entry page
IsUsedFor z w up spot page SlotSet = word_in z w area.Slots 0 ≡ page
IsUsedFor z w up spot page (OldSet actor) = (actor < actors_of z) × ((hand_in mmu w actor).topics.retired ≡ Some page)
IsUsedFor z w up spot page Outside = z.pool ≤ page

-- Each page has one use and no other one: so a table has one link alone, and no page outside of the pool has any use within it. The tables are
-- the root and what is linked below it, each at a level and span of guest frames of its own; and each leaf in them is the one that slots and host
-- give each guest frame that it is over.
pub record PagesAreUsed (z : Sizes) (w : World Held) : Type 0 where
  pub up : ℕ → Use
  pub spot : ℕ → Position
  pub each : (page : ℕ) → IsUsedFor z w up spot page (up page)
  pub only : (page : ℕ) (use_ : Use) → IsUsedFor z w up spot page use_ → up page ≡ use_
  pub tables : TreePart z.pool (word_in z w area.Root 0) (word_in z w area.Role) (word_in z w area.Pool) up spot
  pub leaves : AllOver up spot (word_in z w area.Pool) (word_in z w area.Root 0)
      (LeafIsFor (word_in z w area.Pool) (word_in z w area.Host) (word_in z w area.Slots 0))
  pub apart : (k l : ℕ) (p : Position) → stands up spot k ≡ Some p → stands up spot l ≡ Some p → k ≡ l

abbrev pub EachPageHasOneUse : Type 0
EachPageHasOneUse = AfterEveryRun (λ z w. PagesAreUsed z w)
