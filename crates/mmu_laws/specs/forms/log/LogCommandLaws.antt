-- What the lines that read a dirty log ask for, and when a clear is refused for its range, in numbers (api.rst, KVM_GET_DIRTY_LOG, KVM_CLEAR_DIRTY_LOG).
use Rattle.std.specs.Prelude.{◌≡◌, ◌≢◌, ◌⊎◌, ◌<◌, ◌≤◌, ◌+◌, ◌-◌, ◌/◌, ◌%◌, ◌^◌, ℕ, List, false, true, Some, None, get_or}
use Rattle.core_views.specs.declared.answer.Refusal.TheVariants.{BadRange, Missing, NoLog}
use Rattle.core_views.specs.declared.memory_slot.MemorySlot.{MemorySlot}
use Rattle.core_views.specs.declared.trace.Command.TheVariants.{ClearLog, GetLog}
use Rattle.core_views.specs.LogCommands.{asks_for, read_refusal}
use Rattle.core_views.specs.Refusals.{is_logged}
use Rattle.core_views.specs.SlotSets.{MemorySlots, slot_of_id}

-- A get asks for each page of its slot, whichever it is.
abbrev pub GetsAskForAll : Type 0
GetsAskForAll = (id page : ℕ) → asks_for (GetLog id) page ≡ true

-- The page lies in the range, and its bit is set in the words: bit 0 of the first word is the first page's.
pub record IsNamed (first count : ℕ) (words : List ℕ) (page : ℕ) : Type 0 where
  pub from : first ≤ page
  pub to : page < first + count
  pub bit : get_or words ((page - first) / 64) 0 / 2 ^ ((page - first) % 64) % 2 ≡ 1

-- A clear asks for exactly the pages that it names.
abbrev pub ClearsAskForNamed : Type 0
ClearsAskForNamed =
    (id first count : ℕ) (words : List ℕ) (page : ℕ)
    → (asks_for (ClearLog id first count words) page ≡ true → IsNamed first count words page)
    × (IsNamed first count words page → asks_for (ClearLog id first count words) page ≡ true)

-- The range begins within a word of the log, or past the slot's pages; it has more of them than there are from there on; or it ends within a word, and not
-- with the slot.
abbrev pub IsBadRange : ℕ → ℕ → ℕ → Type 0
IsBadRange pages first count =
    (first % 64 ≢ 0) ⊎ ((pages < first) ⊎ ((pages - first < count) ⊎ ((count % 64 ≢ 0) × (first + count ≢ pages))))

-- Where no slot has the ID, a get and a clear are refused for that; where the slot has no dirty log, for that; and where it has one, a get isn't refused.
pub record AreOfLogs (id first count : ℕ) (words : List ℕ) (slots : MemorySlots) : Type 0 where
  pub missing : slot_of_id id slots ≡ None
      → (read_refusal (GetLog id) slots ≡ Some Missing) × (read_refusal (ClearLog id first count words) slots ≡ Some Missing)
  pub no_log : (slot : MemorySlot) → slot_of_id id slots ≡ Some slot → slot.logged ≡ false
      → (read_refusal (GetLog id) slots ≡ Some NoLog) × (read_refusal (ClearLog id first count words) slots ≡ Some NoLog)
  pub accepted : (slot : MemorySlot) → slot_of_id id slots ≡ Some slot → slot.logged ≡ true → read_refusal (GetLog id) slots ≡ None

abbrev pub ReadingsAreOfLogs : Type 0
ReadingsAreOfLogs = (id first count : ℕ) (words : List ℕ) (slots : MemorySlots) → AreOfLogs id first count words slots

-- A clear of a slot with a dirty log is refused for its range where this is bad, and for nothing else.
abbrev pub BadRangesAreRefused : Type 0
BadRangesAreRefused =
    (id first count : ℕ) (words : List ℕ) (slots : MemorySlots) (slot : MemorySlot) → slot_of_id id slots ≡ Some slot → is_logged id slots ≡ true
    → (IsBadRange slot.slot.pages first count × (read_refusal (ClearLog id first count words) slots ≡ Some BadRange))
    ⊎ ((IsBadRange slot.slot.pages first count → ⊥) × (read_refusal (ClearLog id first count words) slots ≡ None))
