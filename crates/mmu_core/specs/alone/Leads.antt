-- Where links lead a guest frame in the tables.
use Rattle.std.specs.Prelude.{◌≡◌, ◌⊎◌, ℕ, zero, suc, Bool, true, Some, None}
use Rattle.spte_words.specs.declared.spte_kind.SpteKind.TheVariants as entry_kind
use Rattle.spte_words.specs.Areas.{pool_index}
use Rattle.spte_words.specs.Entries.{kind_of}
use Rattle.mmu_core.specs.forms.access.FaultSteps.{allows_access}
use Rattle.part_steps.specs.PartTasks.{entry_index}
use Rattle.part_steps.specs.WalkTopics.{linked_page}

-- In the table in a page, which is of the level, the guest frame's entry is a link to the table in this page.
abbrev pub LinksOn : (ℕ → ℕ) → ℕ → ℕ → ℕ → ℕ → Type 0
LinksOn pool level page gfn below = linked_page (kind_of level (pool (pool_index page (entry_index gfn level)))) ≡ Some below

-- It is this entry of a table of level `at`, and no link.
pub record EndsHere (pool : ℕ → ℕ) (level page gfn at entry : ℕ) : Type 0 where
  pub here : at ≡ level
  pub is : pool (pool_index page (entry_index gfn level)) ≡ entry
  pub no_link : linked_page (kind_of level entry) ≡ None

-- From this table links lead the guest frame down to this entry of a table of level `at`, the first one that is no link.
abbrev pub LeadsTo : (ℕ → ℕ) → ℕ → ℕ → ℕ → ℕ → ℕ → Type 0
LeadsTo pool zero page gfn at entry = ⊥
LeadsTo pool (suc level) page gfn at entry =
    EndsHere pool (suc level) page gfn at entry ⊎ ((below : ℕ) × LinksOn pool (suc level) page gfn below × LeadsTo pool level below gfn at entry)

-- They lead to a leaf, of any level, that allows the access.
pub record LeadsToLeaf (pool : ℕ → ℕ) (level page gfn : ℕ) (write : Bool) : Type 0 where
  pub at : ℕ
  pub entry : ℕ
  pub leads : LeadsTo pool level page gfn at entry
  pub leaf : kind_of at entry ≡ entry_kind.Leaf
  pub allows : allows_access write entry ≡ true
