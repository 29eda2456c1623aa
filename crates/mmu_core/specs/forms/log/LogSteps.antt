-- The order of steps of a line that reads a slot's dirty log (api.rst, KVM_GET_DIRTY_LOG, KVM_CLEAR_DIRTY_LOG; kvm_main.c, kvm_get_dirty_log_protect,
-- kvm_clear_dirty_log_protect): one that is refused makes one load of the sequence. One that takes out what it reads does so word by word under the lock alone;
-- page by page it walks from the root to the leaf of each page that it took, and forbids writes there; then, without the lock, each virtual processor is asked
-- for a flush and awaited. A get in the manual modes loads the words alone.
use Rattle.std.specs.Prelude.{◌+◌, ◌-◌, ◌/◌, ◌==◌, ◌||◌, ℕ, Bool, true, false, List, [], ◌∷◌, ◌++◌, Option, Some, None, nat_lt, not}
use Rattle.std.specs.Prelude.{if◌then◌else◌, find, filter}
use Rattle.std.specs.Int.Bits.{bit_and}
use Rattle.std.specs.List.{range_with_len}
use Rattle.std.specs.Option.{option_map}
use Rattle.core_views.specs.declared.answer.Refusal.{Refusal}
use Rattle.core_views.specs.declared.place.LogPlace.{LogPlace}
use Rattle.core_views.specs.declared.place.LogPlace.TheVariants.{AtOnce, Exclude, Take, Root, Walk, Protect, Release, Ask, Await, Peek}
use Rattle.core_views.specs.declared.topics.Topics.{Topics}
use Rattle.core_views.specs.declared.trace.Command.{Command}
use Rattle.core_views.specs.declared.trace.Slot.{Slot}
use Rattle.core_views.specs.Harvests.{slot_read}
use Rattle.core_views.specs.Held.{Held}
use Rattle.core_views.specs.LogCommands.{count_asked, first_asked, has_bit, mask_asked, words_asked}
use Rattle.spte_words.specs.declared.spte_kind.SpteKind.{SpteKind}
use Rattle.spte_words.specs.declared.spte_kind.SpteKind.TheVariants as entry_kind
use Rattle.spte_words.specs.Entries.{can_write, kind_of}
use Rattle.part_steps.specs.declared.part_step.PartStep.{PartStep}
use Rattle.part_steps.specs.declared.part_step.PartStep.TheVariants as part
use Rattle.part_steps.specs.ControlBits.{has_to_flush}
use Rattle.part_steps.specs.LogHoldings.{log_begin}
use Rattle.part_steps.specs.SweepTopics.{has_entry, walk_on}
use Rattle.mmu_core.specs.declared.log_next.LogNext.{LogNext}
use Rattle.mmu_core.specs.declared.log_next.LogNext.TheVariants as next
use Rattle.mmu_core.specs.forms.slot_change.SlotTargets.{slot_or_none}

-- where the line begins: it is refused, or takes out what it reads, or doesn't
abbrev pub log_first : Option Refusal → Bool → LogPlace
log_first (Some refusal) out = AtOnce refusal
log_first None out = if out then Exclude else Peek false

-- ---- what it reads

-- the slot whose log it reads, or no slot
abbrev pub slot_asked : Held → Command → Slot
slot_asked h command = slot_or_none (option_map (λ m. m.slot) (slot_read h.slots command))

-- the words of the log that it reads: the first one, the one after the last, and the one that comes next
abbrev pub first_word : Slot → Command → ℕ
first_word slot command = log_begin slot + first_asked command / 64

abbrev pub word_end : Slot → Command → ℕ
word_end slot command = first_word slot command + words_asked command slot

abbrev pub word_read : Bool → Slot → Command → Topics → ℕ
word_read begun slot command t = if begun then t.next_log_word else first_word slot command

-- the bits for which it asks of this word
abbrev pub mask_read : Slot → Command → ℕ → ℕ
mask_read slot command word = mask_asked command slot (word - first_word slot command)

-- the words that it has read, with one more
abbrev pub read_more : Bool → Slot → Command → Held → ℕ → List ℕ
read_more begun slot command h v =
    (if begun then h.harvest else []) ++ bit_and v (mask_read slot command (word_read begun slot command h.topics)) ∷ []

-- It has read the last word.
abbrev pub reads_last : Bool → Slot → Command → Topics → Bool
reads_last begun slot command t = not (nat_lt (word_read begun slot command t + 1) (word_end slot command))

-- the guest frame of a page, counted from the first one for which it asks; and those whose bits are set in these words
abbrev pub frame_asked : Slot → Command → ℕ → ℕ
frame_asked slot command page = slot.base + (first_asked command + page)

abbrev pub frames_read : Slot → Command → List ℕ → List ℕ
frames_read slot command words =
    filter (λ gfn. has_bit words (gfn - frame_asked slot command 0)) (range_with_len (frame_asked slot command 0) (count_asked command slot))

-- the first page from this one on that it took, or none
abbrev pub next_page : Slot → Command → List ℕ → ℕ → Option ℕ
next_page slot command words from = find (λ page. has_bit words page) (range_with_len from (count_asked command slot - from))

-- ---- its steps

-- the step of each place
abbrev pub log_part : LogPlace → Held → Command → PartStep
log_part (AtOnce refusal) h command = part.Seq
log_part Exclude h command = part.Exclude
log_part (Take begun) h command =
    let slot : Slot = slot_asked h command in
    part.Take (word_read begun slot command h.topics) (mask_read slot command (word_read begun slot command h.topics))
log_part Root h command = part.Root
log_part (Walk page) h command =
    if has_entry h.topics.walk then part.WalkAnew (frame_asked (slot_asked h command) command page)
    else part.Walk (frame_asked (slot_asked h command) command page)
log_part (Protect page) h command = part.Protect (frame_asked (slot_asked h command) command page)
log_part Release h command = part.Release
log_part Ask h command = part.Ask h.topics.flush.asked
log_part Await h command = part.Await h.topics.flush.awaited
log_part (Peek begun) h command = part.Peek (word_read begun (slot_asked h command) command h.topics)

-- It awaits the last virtual processor.
abbrev pub awaits_last : Held → Bool
awaits_last h = not (nat_lt (h.topics.flush.awaited + 1) h.state.sizes.vcpus)

-- 1 where the line may end with the step
abbrev pub log_note : LogPlace → Held → Command → ℕ
log_note (AtOnce refusal) h command = 1
log_note Await h command = if awaits_last h then 1 else 0
log_note (Peek begun) h command = if reads_last begun (slot_asked h command) command h.topics then 1 else 0
log_note _ h command = 0

-- from this page on: to the next leaf, or the lock is given back
abbrev pub after_page : Option ℕ → LogPlace
after_page None = Release
after_page (Some page) = Walk page

-- after an entry v of this kind on the way to the leaf of a page, where those after the page are next
abbrev pub after_entry : SpteKind → ℕ → LogPlace → ℕ → LogPlace
after_entry (entry_kind.Table below) page next v = Walk page
after_entry entry_kind.Leaf page next v = if can_write v then Protect page else next
after_entry _ page next v = next

-- what the line comes to with the step of its place, which found v
abbrev pub log_next : LogPlace → Command → Held → ℕ → LogNext
log_next (AtOnce refusal) command h v = next.Refused refusal
log_next Exclude command h v =
    next.Goes (if v == 0 then (if nat_lt 0 (words_asked command (slot_asked h command)) then Take false else Root) else Exclude)
log_next (Take begun) command h v = next.Goes (if reads_last begun (slot_asked h command) command h.topics then Root else Take true)
log_next Root command h v = next.Goes (after_page (next_page (slot_asked h command) command h.harvest 0))
log_next (Walk page) command h v =
    next.Goes (after_entry (kind_of (walk_on h.topics).level v) page (after_page (next_page (slot_asked h command) command h.harvest (page + 1))) v)
log_next (Protect page) command h v = next.Goes (after_page (next_page (slot_asked h command) command h.harvest (page + 1)))
log_next Release command h v = next.Goes Ask
log_next Ask command h v = next.Goes (if nat_lt (h.topics.flush.asked + 1) h.state.sizes.vcpus then Ask else Await)
log_next Await command h v = if has_to_flush v || not (awaits_last h) then next.Goes Await else next.Reads
log_next (Peek begun) command h v = if reads_last begun (slot_asked h command) command h.topics then next.Reads else next.Goes (Peek true)

-- what it has read after the step
abbrev pub log_reads : LogPlace → Command → Held → ℕ → List ℕ
log_reads Exclude command h v = []
log_reads (Take begun) command h v = read_more begun (slot_asked h command) command h v
log_reads (Peek begun) command h v = read_more begun (slot_asked h command) command h v
log_reads _ command h v = h.harvest
