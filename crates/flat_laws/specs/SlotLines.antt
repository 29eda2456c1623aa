-- What a slot line makes of the slots of flat memory; slots that just fit, or are one page too large; and slots that are set again, moved and deleted.
use Rattle.std.specs.Prelude.{◌≡◌, ◌≢◌, ◌-◌, ◌^◌, ℕ, List, [], ◌∷◌, ◌++◌, Bool, false, Option, Some, None, codes}
use Rattle.std.specs.Option.{option_map}
use Rattle.core_views.specs.declared.memory_slot.MemorySlot.{MemorySlot}
use Rattle.core_views.specs.declared.trace.Command.{Command}
use Rattle.core_views.specs.declared.trace.Command.TheVariants.{DeleteSlot, SetLog, SetSlot}
use Rattle.core_views.specs.declared.trace.Line.{Line}
use Rattle.core_views.specs.declared.trace.Op.TheVariants.{Read, Write}
use Rattle.core_views.specs.declared.trace.Slot.{Slot}
use Rattle.core_views.specs.Flat.{first_facts}
use Rattle.core_views.specs.FlatHistory.{one_by_one}
use Rattle.flat_laws.specs.Laws.{access_line, example_sizes, manage, manager_line}
use Rattle.core_views.specs.Refusals.{after_set}
use Rattle.core_views.specs.SlotCommands.{slots_after}
use Rattle.core_views.specs.SlotSets.{MemorySlots, slot_of_id}
use Rattle.core_views.specs.Text.{text}

-- Flat memory sets the slot that the manager's record sets.
abbrev pub SetsAsRecord : Type 0
SetsAsRecord = (id : ℕ) (slot : Slot) (slots : MemorySlots) → slots_after (SetSlot id slot) slots ≡ after_set id slot slots

-- There is a slot, and it has a dirty log.
abbrev pub has_log : Option MemorySlot → Bool
has_log None = false
has_log (Some slot) = slot.logged

-- At the ID stands this slot then, with a dirty log where the one that was there had one.
abbrev pub SetsAtItsId : Type 0
SetsAtItsId =
    (id : ℕ) (slot : Slot) (slots : MemorySlots)
    → slot_of_id id (slots_after (SetSlot id slot) slots) ≡ Some (record { slot = slot; logged = has_log (slot_of_id id slots) })

-- After a deletion none stands there.
abbrev pub DeletesAtItsId : Type 0
DeletesAtItsId = (id : ℕ) (slots : MemorySlots) → slot_of_id id (slots_after (DeleteSlot id) slots) ≡ None

-- A line that gives a slot a dirty log, or takes its log away, leaves it else as it was; where there is none it leaves none.
abbrev pub LogsAtItsId : Type 0
LogsAtItsId =
    (id : ℕ) (on : Bool) (slots : MemorySlots)
    → slot_of_id id (slots_after (SetLog id on) slots) ≡ option_map (λ was. record { slot = was.slot; logged = on }) (slot_of_id id slots)

-- At each other ID stands what stood there.
abbrev pub KeepsAllBut : ℕ → Command → Type 0
KeepsAllBut id command = (other : ℕ) (slots : MemorySlots) → other ≢ id → slot_of_id other (slots_after command slots) ≡ slot_of_id other slots

abbrev pub KeepsOtherIds : Type 0
KeepsOtherIds =
    (id : ℕ) (slot : Slot) (on : Bool) → KeepsAllBut id (SetSlot id slot) × KeepsAllBut id (DeleteSlot id) × KeepsAllBut id (SetLog id on)

-- a slot of so many pages that may be written
abbrev pub open_slot : ℕ → ℕ → ℕ → Slot
open_slot base pages host = record { base = base; pages = pages; host = host; read_only = false }

-- On a machine of 128 host pages: a slot that reaches one page past guest frame 2 ^ 36 - 1, and one that ends with it, and accesses to this frame; a slot that
-- reaches one page past host page 127, and one that ends with it, in guest frames 5 to 68, and accesses to the last of them and to the one after it.
abbrev pub fitting_lines : List Line
fitting_lines =
    manager_line 2 0 (open_slot (2 ^ 36 - 3) 4 0)
    ∷ manager_line 3 1 (open_slot (2 ^ 36 - 3) 3 0)
    ∷ access_line 4 0 (2 ^ 36 - 1) 1 (Write 5)
    ∷ access_line 5 1 (2 ^ 36 - 1) 1 Read
    ∷ manager_line 6 2 (open_slot 5 65 64)
    ∷ manager_line 7 3 (open_slot 5 64 64)
    ∷ access_line 8 0 68 0 (Write 7)
    ∷ access_line 9 1 68 0 Read
    ∷ access_line 10 0 69 0 Read
    ∷ []

-- what it prints, by the rules of docs/TRACE.md
abbrev pub fitting_bytes : List ℕ
fitting_bytes =
    codes "2 vm refused too-large\n3 vm done\n4 v0 frame 2 value 0\n5 v1 frame 2 value 5\n"
    ++ codes "6 vm refused too-large\n7 vm done\n8 v0 frame 127 value 0\n9 v1 frame 127 value 7\n10 v0 mmio\n"

abbrev pub FittingPrints : Type 0
FittingPrints = text (one_by_one example_sizes fitting_lines first_facts) ≡ fitting_bytes

abbrev pub deletion_line : ℕ → ℕ → Line
deletion_line number id = manage number (DeleteSlot id)

-- On the same machine: a slot that is set with another number of pages, with other host pages, and as it is; deletions of slots that aren't there; a write
-- before a move to guest frames of which two are the slot's already, and reads where it was and where it is; its deletion; and another slot at its ID.
abbrev pub whole_lines : List Line
whole_lines =
    manager_line 2 1 (open_slot 5 3 64)
    ∷ manager_line 3 1 (open_slot 5 4 64)
    ∷ manager_line 4 1 (open_slot 5 3 0)
    ∷ manager_line 5 1 (open_slot 5 3 64)
    ∷ deletion_line 6 2
    ∷ deletion_line 7 32
    ∷ access_line 8 0 7 0 (Write 7)
    ∷ manager_line 9 1 (open_slot 6 3 64)
    ∷ access_line 10 0 5 0 Read
    ∷ access_line 11 0 8 0 Read
    ∷ deletion_line 12 1
    ∷ access_line 13 0 8 0 Read
    ∷ manager_line 14 1 (open_slot 5 4 0)
    ∷ access_line 15 0 8 0 Read
    ∷ []

abbrev pub whole_bytes : List ℕ
whole_bytes =
    codes "2 vm done\n3 vm refused resize\n4 vm refused fixed\n5 vm done\n6 vm refused missing\n7 vm refused bad-id\n"
    ++ codes "8 v0 frame 66 value 0\n9 vm done\n10 v0 mmio\n11 v0 frame 66 value 7\n"
    ++ codes "12 vm done\n13 v0 mmio\n14 vm done\n15 v0 frame 3 value 0\n"

abbrev pub WholePrints : Type 0
WholePrints = text (one_by_one example_sizes whole_lines first_facts) ≡ whole_bytes
