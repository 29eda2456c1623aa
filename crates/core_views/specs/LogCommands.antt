-- What a line reads of a dirty log, and why it may not (api.rst, KVM_GET_DIRTY_LOG and KVM_CLEAR_DIRTY_LOG): a clause for each command that reads one.
use Rattle.std.specs.Prelude.{◌≤◌, ◌+◌, ◌*◌, ◌-◌, ◌/◌, ◌%◌, ◌^◌, ◌==◌, ◌&&◌, ◌||◌, ℕ, zero, suc, Bool, true, false, not, List, [], ◌∷◌, Option, Some, None}
use Rattle.std.specs.Prelude.{nat_le, nat_lt, is_none, if◌then◌else◌, filter, map, get_or}
use Rattle.std.specs.Int.Bits.{bit_and}
use Rattle.std.specs.List.{list_any, range_with_len}
use Rattle.core_views.specs.declared.answer.Refusal.{Refusal}
use Rattle.core_views.specs.declared.answer.Refusal.TheVariants.{BadRange, Missing, NoLog}
use Rattle.core_views.specs.declared.sizes.LogMode.{LogMode}
use Rattle.core_views.specs.declared.sizes.LogMode.TheVariants.{Automatic, ManualAllSet}
use Rattle.core_views.specs.declared.sizes.Sizes.{Sizes}
use Rattle.core_views.specs.declared.memory_slot.MemorySlot.{MemorySlot}
use Rattle.core_views.specs.declared.trace.Command.{Command}
use Rattle.core_views.specs.declared.trace.Command.TheVariants.{ClearLog, GetLog, Migrate}
use Rattle.core_views.specs.declared.trace.Slot.{Slot}
use Rattle.core_views.specs.Past.{FrameSet}
use Rattle.core_views.specs.Refusals.{is_logged, log_refusal}
use Rattle.core_views.specs.Slots.{first_of, is_some_and}
use Rattle.core_views.specs.SlotSets.{MemorySlots, slot_of_id}

-- the ID of the slot whose dirty log the line reads, or none; a migration reads those of all slots
abbrev pub log_read : Command → Option ℕ
log_read (GetLog id) = Some id
log_read (ClearLog id first count words) = Some id
log_read _ = None

-- The line may read a dirty log.
abbrev pub reads_logs : Command → Bool
reads_logs (GetLog id) = true
reads_logs (ClearLog id first count words) = true
reads_logs (Migrate call) = true
reads_logs _ = false

-- The bit is set, of words of 64 bits each, the first word first.
abbrev pub has_bit : List ℕ → ℕ → Bool
has_bit words bit = get_or words (bit / 64) 0 / 2 ^ (bit % 64) % 2 == 1

-- The line asks for this page of the slot: a get for all, a clear for those whose bits are set, and a migration for all of each slot.
abbrev pub asks_for : Command → ℕ → Bool
asks_for (GetLog id) page = true
asks_for (ClearLog id first count words) page = nat_le first page && (nat_lt page (first + count) && has_bit words (page - first))
asks_for (Migrate call) page = true
asks_for _ page = false

-- The log is automatic: a get clears what it reads.
abbrev pub is_automatic : LogMode → Bool
is_automatic Automatic = true
is_automatic _ = false

-- Each page of a slot is dirty as its log begins (KVM_DIRTY_LOG_INITIALLY_SET).
abbrev pub is_all_set : LogMode → Bool
is_all_set ManualAllSet = true
is_all_set _ = false

-- What the line reads it takes out of the log: a clear does, and a get where the log is automatic.
abbrev pub takes_out : LogMode → Command → Bool
takes_out mode (GetLog id) = is_automatic mode
takes_out mode _ = true

-- The pages aren't whole words of the log of a slot with so many: they begin within a word, reach past the slot, or end within a word before its end.
abbrev pub is_bad_range : ℕ → ℕ → ℕ → Bool
is_bad_range pages first count = not (first % 64 == 0) || (nat_lt pages (first + count) || (not (count % 64 == 0) && not (first + count == pages)))

-- why the line may not read the log
abbrev pub read_refusal : Command → MemorySlots → Option Refusal
read_refusal (GetLog id) slots = log_refusal false id slots
read_refusal (ClearLog id first count words) slots = first_of (
    (is_none (slot_of_id id slots), Missing)
    ∷ (not (is_logged id slots), NoLog)
    ∷ (is_some_and (λ slot. is_bad_range slot.slot.pages first count) (slot_of_id id slots), BadRange)
    ∷ [])
read_refusal _ slots = None

-- The guest frame is one of these.
abbrev pub is_among : ℕ → List ℕ → Bool
is_among gfn frames = list_any (λ frame. frame == gfn) frames

-- those of the frames for which the line asks, in rising order
abbrev pub asked_frames : FrameSet → Command → Option MemorySlot → List ℕ
asked_frames frames command None = []
asked_frames frames command (Some slot) =
    filter (λ gfn. asks_for command (gfn - slot.slot.base) && frames gfn) (range_with_len slot.slot.base slot.slot.pages)

-- the number with these bits, of so many, bit 0 first
abbrev pub number_of : ℕ → (ℕ → Bool) → ℕ
number_of zero bits = 0
number_of (suc n) bits = (if bits 0 then 1 else 0) + 2 * number_of n (λ bit. bits (bit + 1))

-- these bits, of so many, in words of 64 bits, bit 0 of the first word first
unfoldable pub words_of : ℕ → (ℕ → Bool) → List ℕ
words_of count bits = map (λ word. number_of 64 (λ bit. nat_lt (64 * word + bit) count && bits (64 * word + bit))) (range_with_len 0 ((count + 63) / 64))

-- the page of the slot that bit 0 of the answer is of, and how many bits it has
abbrev pub first_asked : Command → ℕ
first_asked (ClearLog id first count words) = first
first_asked _ = 0

abbrev pub count_asked : Command → Slot → ℕ
count_asked (ClearLog id first count words) slot = count
count_asked _ slot = slot.pages

-- how many words of the log that is; and the most that the line reads of the log of any slot, on a machine of these sizes
abbrev pub words_asked : Command → Slot → ℕ
words_asked command slot = (count_asked command slot + 63) / 64

abbrev pub most_words : Sizes → Command → ℕ
most_words z (GetLog id) = z.pages / 64 + 1
most_words z (ClearLog id first count words) = count / 64 + 1
most_words z (Migrate call) = z.pages / 64 + 1
most_words z _ = 0

-- what the command says of the pages of a word of the answer: a clear by the bits that it gives, a get that it asks for all
abbrev pub word_given : Command → ℕ → ℕ
word_given (ClearLog id first count words) word = get_or words word 0
word_given _ word = 2 ^ 64 - 1

-- the number with this many of its low bits set, up to all 64
abbrev pub low_bits : ℕ → ℕ
low_bits n = if nat_le 64 n then 2 ^ 64 - 1 else 2 ^ n - 1

-- the bits of this word of the answer for whose pages the line asks
abbrev pub mask_asked : Command → Slot → ℕ → ℕ
mask_asked command slot word = bit_and (word_given command word) (low_bits (count_asked command slot - 64 * word))

-- The pages for which the line asks are the slot's, and its guest frames are those of a machine.
pub record IsReadOf (command : Command) (slot : Slot) : Type 0 where
  pub inside : first_asked command + count_asked command slot ≤ slot.pages
  pub below : slot.base + slot.pages ≤ 2 ^ 36

-- what is read of a slot's log as words: a bit is set for each of these guest frames
abbrev pub bits_for : Command → Option MemorySlot → List ℕ → List ℕ
bits_for command None frames = []
bits_for command (Some slot) frames = words_of (count_asked command slot.slot) (λ bit. is_among (slot.slot.base + (first_asked command + bit)) frames)
