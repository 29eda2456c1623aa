-- Steps for dirty logs: in which leaves writes are forbidden, who owes a mark, which page is marked, and which words are set before their log begins
-- (tdp_mmu.c, wrprot_gfn_range; kvm_main.c, mark_page_dirty_in_slot).
use Rattle.std.specs.Prelude.{◌≡◌, ◌≢◌, ◌/◌, ◌%◌, ◌^◌, ℕ, Some, None, true}
use Rattle.core_views.specs.declared.kind.Kind.{Kind}
use Rattle.core_views.specs.declared.kind.StepKind.TheVariants as kind
use Rattle.core_views.specs.declared.sizes.Sizes.{Sizes}
use Rattle.core_views.specs.declared.topics.Hold.TheVariants.{Exclusive}
use Rattle.core_views.specs.declared.topics.Stay.TheVariants.{Section}
use Rattle.core_views.specs.Held.{Held}
use Rattle.core_views.specs.Kinds.{kind_named}
use Rattle.spte_words.specs.declared.area.Area.TheVariants as area
use Rattle.spte_words.specs.declared.spte_kind.SpteKind.TheVariants.{Leaf}
use Rattle.spte_words.specs.Areas.{place, pool_index}
use Rattle.spte_words.specs.Entries.{can_write, kind_of, write_bit}
use Rattle.part_steps.specs.LogHoldings.{MayArm}
use Rattle.part_steps.specs.PartHoldings.{FoundSlot}
use Rattle.part_steps.specs.PartTasks.{all_but, entry_index}
use Rattle.part_steps.specs.SlotWords.{page_of}
use Rattle.part_steps.specs.Tasks.{map_of}
use Rattle.mmu_core.specs.alone.FaultAlone.{LeadsTo}
use Rattle.mmu_core.specs.invariant.Laws.{IsSound}
use Rattle.mmu_core.specs.machine.Enabled.{mmu}
use Rattle.mmu_core.specs.machine.Machine.{May, Step, World, answered, effect, hand_in}
use Rattle.mmu_core.specs.machine.View.{word_in}
use Rattle.mmu_laws.specs.steps.InvalidationLaws.{held_by}

-- The actor has the lock alone; the step's word is the entry, of a table of this level, to which links lead a guest frame from the root, and a leaf that allows
-- writes; and the step takes its Writable bit away, and no other.
pub record ProtectsLeaf (z : Sizes) (w : World Held) (s : Step Kind) : Type 0 where
  pub alone : (held_by w s).hold ≡ Exclusive
  pub gfn : ℕ
  pub level : ℕ
  pub page : ℕ
  pub on : s.kind.word ≡ place (map_of z) area.Pool (pool_index page (entry_index gfn level))
  pub leads : LeadsTo (word_in z w area.Pool) 4 (word_in z w area.Root 0) gfn level (word_in z w area.Pool (pool_index page (entry_index gfn level)))
  pub leaf : kind_of level (word_in z w area.Pool (pool_index page (entry_index gfn level))) ≡ Leaf
  pub allowed : can_write (word_in z w area.Pool (pool_index page (entry_index gfn level))) ≡ true
  pub keeps : s.kind.new ≡ all_but write_bit

-- So is each step that forbids writes.
abbrev pub WritesAreForbiddenInLeaves : Type 0
WritesAreForbiddenInLeaves =
    (z : Sizes) (w : World Held) (s : Step Kind) → IsSound z w → May mmu w s → kind_named s.kind.code ≡ kind.Protect → ProtectsLeaf z w s

-- The step wins the exchange of an entry in a table of the lowest level for one that allows writes, of a slot that its actor has found with a dirty log.
pub record AllowsLoggedWrites (w : World Held) (s : Step Kind) : Type 0 where
  pub exchanges : kind_named s.kind.code ≡ kind.Swap
  pub wins : answered mmu w s.kind ≡ s.kind.old
  pub lowest : (held_by w s).walk.level ≡ 1
  pub allows : can_write s.kind.new ≡ true
  pub logged : (held_by w s).search.logged ≡ true

-- The step is on the entry of this guest frame, of the slot that its actor has found; and after it the actor owes a mark for the frame.
pub record OwesMarkAfter (z : Sizes) (w : World Held) (s : Step Kind) : Type 0 where
  pub gfn : ℕ
  pub page : ℕ
  pub on : s.kind.word ≡ place (map_of z) area.Pool (pool_index page (entry_index gfn 1))
  pub found : FoundSlot gfn (held_by w s)
  pub owed : (hand_in mmu (effect mmu w s) s.actor).topics.owed ≡ Some gfn

-- Whoever allows such writes owes the mark after it.
abbrev pub AllowedWritesAreOwed : Type 0
AllowedWritesAreOwed = (z : Sizes) (w : World Held) (s : Step Kind) → IsSound z w → May mmu w s → AllowsLoggedWrites w s → OwesMarkAfter z w s

-- The actor owes a mark for a guest frame, in the section in which it has found the frame's slot; and the step sets the bit of the page that the slot gives it.
pub record MarksOwedPage (z : Sizes) (w : World Held) (s : Step Kind) : Type 0 where
  pub section : (held_by w s).stay ≡ Section
  pub gfn : ℕ
  pub owed : (held_by w s).owed ≡ Some gfn
  pub found : FoundSlot gfn (held_by w s)
  pub on : s.kind.word ≡ place (map_of z) area.Log (page_of (held_by w s).search.slot gfn / 64)
  pub sets : s.kind.new ≡ 2 ^ (page_of (held_by w s).search.slot gfn % 64)

-- So is each step that marks.
abbrev pub MarksAreOfOwedPages : Type 0
MarksAreOfOwedPages =
    (z : Sizes) (w : World Held) (s : Step Kind) → IsSound z w → May mmu w s → kind_named s.kind.code ≡ kind.Mark → MarksOwedPage z w s

-- A mark that is owed stays so at each other step of its actor; and no section ends with one owed.
abbrev pub MarksStayOwed : Type 0
MarksStayOwed =
    (z : Sizes) (w : World Held) (s : Step Kind) (gfn : ℕ) → IsSound z w → May mmu w s → (held_by w s).owed ≡ Some gfn
    → kind_named s.kind.code ≢ kind.Mark → (hand_in mmu (effect mmu w s) s.actor).topics.owed ≡ Some gfn

abbrev pub SectionsEndWithNoneOwed : Type 0
SectionsEndWithNoneOwed =
    (z : Sizes) (w : World Held) (s : Step Kind) → IsSound z w → May mmu w s → kind_named s.kind.code ≡ kind.End → (held_by w s).owed ≡ None

-- The step is on a word that may be set before its log begins.
pub record SetsUnloggedWord (z : Sizes) (w : World Held) (s : Step Kind) : Type 0 where
  pub word : ℕ
  pub on : s.kind.word ≡ place (map_of z) area.Log word
  pub may : MayArm word s.kind.new (hand_in mmu w s.actor)

-- So is each step that sets one.
abbrev pub WordsAreSetBeforeTheirLog : Type 0
WordsAreSetBeforeTheirLog =
    (z : Sizes) (w : World Held) (s : Step Kind) → IsSound z w → May mmu w s → kind_named s.kind.code ≡ kind.Arm → SetsUnloggedWord z w s
