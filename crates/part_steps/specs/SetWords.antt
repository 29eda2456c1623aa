-- The page of a slot set: four words for each ID, and its role.
use Rattle.std.specs.Prelude.{◌≡◌, ◌/◌, ◌%◌, ◌<◌, ℕ, true, ◌==◌, if◌then◌else◌, Option, Some, None}
use Rattle.core_views.specs.declared.memory_slot.MemorySlot.{MemorySlot}
use Rattle.core_views.specs.declared.topics.OwnedPage.{OwnedPage}
use Rattle.core_views.specs.SlotSets.{MemorySlots, slot_of_id}
use Rattle.spte_words.specs.Areas.{pool_index}
use Rattle.spte_words.specs.Flags.{flags_word}

-- word i of a slot: its base, pages, host page and flags; 0 where there is none
abbrev pub word_of_slot : Option MemorySlot → ℕ → ℕ
word_of_slot None i = 0
word_of_slot (Some m) i =
    if i == 0 then m.slot.base else
    if i == 1 then m.slot.pages else
    if i == 2 then m.slot.host else
    flags_word true m.slot.read_only m.logged

-- word j of the page of a set with these slots
abbrev pub set_word : MemorySlots → ℕ → ℕ
set_word slots j = word_of_slot (slot_of_id (j / 4) slots) (j % 4)

-- the role of a slot set's page
abbrev pub set_role : ℕ
set_role = 5

-- What is filled of the page that is owned is the set of these slots.
abbrev pub IsFilledWith : (ℕ → ℕ) → MemorySlots → Option OwnedPage → Type 0
IsFilledWith pool slots owned = (o : OwnedPage) → owned ≡ Some o → (j : ℕ) → j < o.filled → j < 512 → pool (pool_index o.page j) ≡ set_word slots j
