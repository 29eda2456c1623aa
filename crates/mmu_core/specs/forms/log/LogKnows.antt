-- What a line knows that reads a dirty log, at each of its places, from what its actor holds alone.
use Rattle.std.specs.Prelude.{◌≡◌, ◌<◌, ◌≤◌, ◌-◌, ℕ, Bool, true, false, List, Some, None, get_or, is_some, length}
use Rattle.std.specs.Int.Bits.{bit_and}
use Rattle.core_views.specs.declared.place.LogPlace.{LogPlace}
use Rattle.core_views.specs.declared.place.LogPlace.TheVariants.{AtOnce, Exclude, Take, Root, Walk, Protect, Release, Ask, Await, Peek}
use Rattle.core_views.specs.declared.topics.Hold.TheVariants.{Exclusive}
use Rattle.core_views.specs.declared.topics.Stay.TheVariants.{Outside}
use Rattle.core_views.specs.declared.topics.Topics.{Topics}
use Rattle.core_views.specs.declared.trace.Command.{Command}
use Rattle.core_views.specs.declared.trace.Slot.{Slot}
use Rattle.core_views.specs.Held.{Held}
use Rattle.core_views.specs.LogCommands.{count_asked, has_bit, log_read, mask_asked, most_words, read_refusal, takes_out, words_asked}
use Rattle.spte_words.specs.declared.spte_kind.SpteKind.TheVariants as entry_kind
use Rattle.spte_words.specs.Entries.{can_write, kind_of}
use Rattle.part_steps.specs.PartHoldings.{IsOver, SawEntry}
use Rattle.part_steps.specs.PartSteps.{IsAtRest, IsFree}
use Rattle.part_steps.specs.SweepTopics.{has_entry, is_clear}
use Rattle.mmu_core.specs.lines.LockKnows.{HoldsLock}
use Rattle.mmu_core.specs.forms.log.LogSteps.{first_word, frame_asked, slot_asked, word_end, word_read}

-- The line reads a log, of a slot that has one, and is not refused.
pub record Reads (command : Command) (h : Held) : Type 0 where
  pub reads : is_some (log_read command) ≡ true
  pub accepted : read_refusal command h.slots ≡ None

-- And what it reads it takes out.
abbrev pub ReadsOut : Command → Held → Type 0
ReadsOut command h = Reads command h × (takes_out h.state.sizes.mode command ≡ true)

-- In each of the words that were read only bits are set for which the line asks.
abbrev pub AreAsked : Slot → Command → List ℕ → Type 0
AreAsked slot command words = (i : ℕ) → i < length words → bit_and (get_or words i 0) (mask_asked command slot i) ≡ get_or words i 0

-- It reads a word of the log; those before were read.
pub record IsReading (begun : Bool) (slot : Slot) (command : Command) (h : Held) : Type 0 where
  pub left : word_read begun slot command h.topics < word_end slot command
  pub from : begun ≡ true → first_word slot command ≤ h.topics.next_log_word
  pub read : begun ≡ true → length h.harvest ≡ h.topics.next_log_word - first_word slot command
  pub asked : begun ≡ true → AreAsked slot command h.harvest

-- It has read all words.
pub record HasRead (slot : Slot) (command : Command) (h : Held) : Type 0 where
  pub read : length h.harvest ≡ words_asked command slot
  pub asked : AreAsked slot command h.harvest

-- It took this page.
pub record HasTaken (slot : Slot) (command : Command) (page : ℕ) (h : Held) : Type 0 where
  pub low : page < count_asked command slot
  pub taken : has_bit h.harvest page ≡ true

-- It walks under the lock alone, outside of every section, and has asked for no flush.
pub record WalksAlone (t : Topics) : Type 0 where
  pub outside : t.stay ≡ Outside
  pub alone : t.hold ≡ Exclusive
  pub no_set : t.search.set ≡ None
  pub there : 1 ≤ t.walk.level
  pub unasked : t.flush.asked ≡ 0
  pub unawaited : t.flush.awaited ≡ 0

-- what it knows at each place
abbrev pub LogKnows : LogPlace → Command → Held → Type 0
LogKnows (AtOnce refusal) command h =
    IsAtRest h.topics × (is_some (log_read command) ≡ true) × (read_refusal command h.slots ≡ Some refusal)
LogKnows Exclude command h = IsAtRest h.topics × ReadsOut command h
LogKnows (Take begun) command h =
    HoldsLock Exclusive h.topics × (h.topics.owned ≡ None) × ReadsOut command h × IsReading begun (slot_asked h command) command h
    × (h.topics.flush.asked ≡ 0) × (h.topics.flush.awaited ≡ 0)
LogKnows Root command h =
    HoldsLock Exclusive h.topics × (h.topics.owned ≡ None) × ReadsOut command h × HasRead (slot_asked h command) command h
    × (h.topics.flush.asked ≡ 0) × (h.topics.flush.awaited ≡ 0)
LogKnows (Walk page) command h =
    WalksAlone h.topics × (h.topics.owned ≡ None) × ReadsOut command h × HasRead (slot_asked h command) command h
    × HasTaken (slot_asked h command) command page h
    × (has_entry h.topics.walk ≡ false → IsOver (frame_asked (slot_asked h command) command page) h.topics.walk)
LogKnows (Protect page) command h =
    WalksAlone h.topics × (h.topics.owned ≡ None) × ReadsOut command h × HasRead (slot_asked h command) command h
    × HasTaken (slot_asked h command) command page h
    × SawEntry (frame_asked (slot_asked h command) command page) h.topics.walk
    × (kind_of h.topics.walk.level h.topics.walk.entry ≡ entry_kind.Leaf) × (can_write h.topics.walk.entry ≡ true)
LogKnows Release command h =
    WalksAlone h.topics × (h.topics.owned ≡ None) × ReadsOut command h × HasRead (slot_asked h command) command h × (is_clear false h.topics.walk ≡ true)
LogKnows Ask command h =
    IsFree h.topics × (h.topics.owned ≡ None) × ReadsOut command h × HasRead (slot_asked h command) command h
    × (h.topics.flush.asked < h.state.sizes.vcpus) × (h.topics.flush.awaited ≡ 0)
LogKnows Await command h =
    IsFree h.topics × (h.topics.owned ≡ None) × ReadsOut command h × HasRead (slot_asked h command) command h
    × (h.topics.flush.asked ≡ h.state.sizes.vcpus) × (h.topics.flush.awaited < h.state.sizes.vcpus)
LogKnows (Peek begun) command h =
    IsAtRest h.topics × Reads command h × (takes_out h.state.sizes.mode command ≡ false) × IsReading begun (slot_asked h command) command h

-- What its step rests on besides its needs: there is room for the word that it reads.
abbrev pub HasRoomFor : Command → Held → Type 0
HasRoomFor command h = length h.harvest < most_words h.state.sizes command

abbrev pub LogRests : LogPlace → Command → Held → Type 0
LogRests (Take begun) command h = begun ≡ true → HasRoomFor command h
LogRests (Peek begun) command h = begun ≡ true → HasRoomFor command h
LogRests _ command h = Unit {0}
