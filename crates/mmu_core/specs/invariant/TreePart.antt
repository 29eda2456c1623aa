-- Tables: where each stands in the tree below the root, and what its entries are (tdp_mmu.c; mmu.rst, "Translation").
use Rattle.std.specs.Prelude.{◌≡◌, ◌+◌, ◌/◌, ◌%◌, ◌<◌, ◌≤◌, ◌⊎◌, ℕ, zero, suc, Bool, true, false, if◌then◌else◌, Option, Some, None}
use Rattle.spte_words.specs.Areas.{pool_index}
use Rattle.spte_words.specs.declared.spte_kind.SpteKind.TheVariants.{Leaf}
use Rattle.spte_words.specs.Entries.{absent_word, kind_of, table_word}

-- where a table stands: its level, and which of the spans of guest frames that tables of this level are for is its own
pub record Position : Type 0 where
  pub level : ℕ
  pub prefix : ℕ

abbrev pub at : ℕ → ℕ → Position
at level prefix = record { level = level; prefix = prefix }

-- what a page of the pool is: free; the root; owned by the actor at a place; a table to which an entry of another table's page links; the
-- published slot set; an old slot set, which an actor has retired; or none, since its number is outside of the pool
pub data Use : Type 0 where
  Free Root SlotSet Outside : Use
  Owned : (actor : ℕ) → Use
  Under : (page entry : ℕ) → Use
  OldSet : (actor : ℕ) → Use

-- The page is a table.
abbrev pub is_table : Use → Bool
is_table Root = true
is_table (Under page entry) = true
is_table _ = false

-- where the page stands, if it is a table
abbrev pub stands : (ℕ → Use) → (ℕ → Position) → ℕ → Option Position
stands up spot k = if is_table (up k) then Some (spot k) else None

-- The page is under an entry of a page of which this is so.
abbrev pub through : Use → (ℕ → Type 0) → Type 0
through (Under page entry) P = P page
through _ P = ⊥

-- Table l hangs below table m, by so many links; and by any number of them.
abbrev pub Below : (ℕ → Use) → ℕ → ℕ → ℕ → Type 0
Below up m zero l = l ≡ m
Below up m (suc links) l = through (up l) (Below up m links)

abbrev pub HangsBelow : (ℕ → Use) → ℕ → ℕ → Type 0
HangsBelow up m l = (links : ℕ) × Below up m links l

-- Entry j of the table that is page k and stands here links to a table, which is under this entry.
pub record LinksTo (up : ℕ → Use) (k : ℕ) (p : Position) (j w : ℕ) : Type 0 where
  pub page : ℕ
  pub upper : 2 ≤ p.level
  pub is : w ≡ table_word page
  pub below : up page ≡ Under k j

-- An entry is absent, a link, or a leaf of its table's level.
abbrev pub EntryPart : (ℕ → Use) → ℕ → Position → ℕ → ℕ → Type 0
EntryPart up k p j w = (w ≡ absent_word) ⊎ LinksTo up k p j w ⊎ (kind_of p.level w ≡ Leaf)

-- The table that is page c and stands here is linked by entry j of page k, a table one level above, over its span.
pub record IsUnder (pool : ℕ → ℕ) (up : ℕ → Use) (spot : ℕ → Position) (c : ℕ) (p : Position) (k j : ℕ) : Type 0 where
  pub lower : p.level < 4
  pub above : stands up spot k ≡ Some (at (p.level + 1) (p.prefix / 512))
  pub index : p.prefix % 512 ≡ j
  pub link : pool (pool_index k j) ≡ table_word c

-- The tables are the root and what is linked below it: each by the one entry that it is under, with the role of its level; and each entry is
-- what it should be.
pub record TreePart (pages root : ℕ) (role pool : ℕ → ℕ) (up : ℕ → Use) (spot : ℕ → Position) : Type 0 where
  pub top : up root ≡ Root
  pub only : (k : ℕ) → up k ≡ Root → k ≡ root
  pub top_at : spot root ≡ at 4 0
  pub under : (c k j : ℕ) → up c ≡ Under k j → IsUnder pool up spot c (spot c) k j
  pub there : (k : ℕ) (p : Position) → stands up spot k ≡ Some p → (k < pages) × (1 ≤ p.level) × (p.level ≤ 4)
  pub roles : (k : ℕ) (p : Position) → stands up spot k ≡ Some p → role k ≡ p.level
  pub entries : (k : ℕ) (p : Position) → stands up spot k ≡ Some p → (j : ℕ) → j < 512 → EntryPart up k p j (pool (pool_index k j))
