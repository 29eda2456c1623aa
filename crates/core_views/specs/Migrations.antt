-- The migration of a guest (api.rst, KVM_GET_DIRTY_LOG: pages dirtied since the last call are what is left to copy): why its lines are refused, which pages
-- they copy, and what the image of guest memory is.
use Rattle.std.specs.Prelude.{◌+◌, ◌==◌, ℕ, Bool, true, false, not, List, [], ◌∷◌, Option, Some, None, if◌then◌else◌, filter, map, flat_map}
use Rattle.std.specs.List.{list_any, range_with_len}
use Rattle.core_views.specs.declared.answer.Answer.{Answer}
use Rattle.core_views.specs.declared.answer.Answer.TheVariants.{Copied, Refused}
use Rattle.core_views.specs.declared.answer.Refusal.TheVariants.{Migrating, NotLogged, NotStarted}
use Rattle.core_views.specs.declared.migration.ImageWord.{ImageWord}
use Rattle.core_views.specs.declared.migration.Migration.{Migration}
use Rattle.core_views.specs.declared.migration.Migration.TheVariants.{Unstarted, Running, Pausing, Stopped}
use Rattle.core_views.specs.declared.memory_slot.MemorySlot.{MemorySlot}
use Rattle.core_views.specs.declared.trace.Command.{Command}
use Rattle.core_views.specs.declared.trace.Command.TheVariants.{ClearLog, DeleteSlot, GetLog, Migrate, SetLog, SetSlot}
use Rattle.core_views.specs.declared.trace.MigrationCall.{MigrationCall}
use Rattle.core_views.specs.declared.trace.MigrationCall.TheVariants.{Start, Round, Finish, Resume}
use Rattle.core_views.specs.declared.trace.Slot.{Slot}
use Rattle.core_views.specs.Memory.{Memory}
use Rattle.core_views.specs.Past.{FrameSet}
use Rattle.core_views.specs.SlotSets.{MemorySlots}

-- A migration was started, and the guest not resumed since.
abbrev pub is_migrating : Migration → Bool
is_migrating Unstarted = false
is_migrating Running = true
is_migrating Pausing = true
is_migrating Stopped = true

-- It goes on while the guest runs.
abbrev pub is_running : Migration → Bool
is_running Unstarted = false
is_running Running = true
is_running Pausing = false
is_running Stopped = false

-- Virtual processors that look at the pause make no access.
abbrev pub is_paused : Migration → Bool
is_paused Unstarted = false
is_paused Running = false
is_paused Pausing = true
is_paused Stopped = true

-- No virtual processor makes an access.
abbrev pub is_stopped : Migration → Bool
is_stopped Unstarted = false
is_stopped Running = false
is_stopped Pausing = false
is_stopped Stopped = true

-- While a migration goes on such a line is refused.
abbrev pub is_barred : Command → Bool
is_barred (SetSlot id slot) = true
is_barred (DeleteSlot id) = true
is_barred (SetLog id on) = true
is_barred (GetLog id) = true
is_barred (ClearLog id first count words) = true
is_barred (Migrate Start) = true
is_barred _ = false

-- Each slot has a dirty log.
abbrev pub are_logged : MemorySlots → Bool
are_logged slots = not (list_any (λ entry. not entry.1.logged) slots)

-- There is no slot.
abbrev pub has_no_slot : MemorySlots → Bool
has_no_slot [] = true
has_no_slot (slot ∷ slots) = false

-- what a round is answered at once, by whether the migration runs, and whether there is no slot: it is refused, or has no page to copy
abbrev pub round_answer : Bool → Bool → Option Answer
round_answer false none = Some (Refused NotStarted)
round_answer true none = if none then Some (Copied 0) else None

-- what a line of a migration is answered at once that isn't barred, or nothing, where it has something to do
abbrev pub call_answer : MemorySlots → Migration → MigrationCall → Option Answer
call_answer slots migration Start = if are_logged slots then None else Some (Refused NotLogged)
call_answer slots migration Round = round_answer (is_running migration) (has_no_slot slots)
call_answer slots migration Finish = if is_running migration then None else Some (Refused NotStarted)
call_answer slots migration Resume = if is_stopped migration then None else Some (Refused NotStarted)

-- A barred line is refused; any other is answered at once as this says.
abbrev pub or_barred : Bool → Option Answer → Option Answer
or_barred true answer = Some (Refused Migrating)
or_barred false answer = answer

-- those of the slot's guest frames that are in the set, and those of each slot, in the order of the slots
abbrev pub frames_in : FrameSet → MemorySlot → List ℕ
frames_in frames slot = filter frames (range_with_len slot.slot.base slot.slot.pages)

abbrev pub frames_to_copy : FrameSet → MemorySlots → List ℕ
frames_to_copy frames slots = flat_map (λ entry. frames_in frames entry.1) slots

-- the words of a page of a slot, where its host page holds these; and those of all pages of a slot
abbrev pub page_words : ℕ → ℕ → ℕ → (ℕ → ℕ) → List ImageWord
page_words words id page content = map (λ word. record { id = id; page = page; word = word; value = content word }) (range_with_len 0 words)

abbrev pub slot_words : ℕ → Memory → ℕ → Slot → List ImageWord
slot_words words memory id slot = flat_map (λ page. page_words words id page (memory (slot.host + page))) (range_with_len 0 slot.pages)

-- the image of guest memory, with so many words a page: the words of all slots but those that are 0, by rising ID, page and word
unfoldable pub image_words : ℕ → Memory → MemorySlots → List ImageWord
image_words words memory slots = filter (λ at. not (at.value == 0)) (flat_map (λ entry. slot_words words memory entry.0 entry.1.slot) slots)
