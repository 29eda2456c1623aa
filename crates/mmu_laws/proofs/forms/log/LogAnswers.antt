-- What a line is answered that reads a dirty log: it is refused at once, or told the words that it has read, which are those of frames that it may read.
use Rattle.std.proofs.Common.{◌≡◌, ℕ, List, refl, subst, ap, ◌∙◌, length}
use Rattle.std.specs.Option.{option_map}
use Rattle.std.specs.Prelude.{true, if◌then◌else◌, Option, Some, is_some}
use Rattle.core_views.specs.declared.actor.Actor.{Actor}
use Rattle.core_views.specs.declared.answer.Answer.TheVariants.{Refused}
use Rattle.core_views.specs.declared.event.EventKind.TheVariants.{Taken}
use Rattle.core_views.specs.declared.place.LogPlace.TheVariants.{Await, Peek}
use Rattle.core_views.specs.declared.place.Place.{Place}
use Rattle.core_views.specs.declared.place.Place.TheVariants as place
use Rattle.core_views.specs.declared.sizes.Sizes.{Sizes}
use Rattle.core_views.specs.declared.memory_slot.MemorySlot.{MemorySlot}
use Rattle.core_views.specs.declared.trace.Command.{Command}
use Rattle.core_views.specs.declared.trace.Command.TheVariants.{ClearLog, GetLog}
use Rattle.core_views.specs.Events.{past_after}
use Rattle.core_views.specs.Flat.{Facts}
use Rattle.core_views.specs.Harvests.{IsHarvest, slot_read}
use Rattle.core_views.specs.Held.{Held}
use Rattle.core_views.specs.Lawful.{answer_at_once}
use Rattle.core_views.specs.LogCommands.{bits_for, count_asked, first_asked, log_read, read_refusal, words_asked}
use Rattle.core_views.specs.declared.migration.Migration.TheVariants.{Unstarted}
use Rattle.core_views.specs.Past.{Past}
use Rattle.core_views.specs.SlotSets.{MemorySlots}
use Rattle.mmu_core.specs.forms.log.LogKnows.{AreAsked, Reads}
use Rattle.mmu_core.specs.forms.log.LogSteps.{frames_read, read_more, reads_last, slot_asked}
use Rattle.mmu_core.specs.forms.slot_change.SlotTargets.{slot_or_none}
use Rattle.mmu_core.proofs.forms.log.LogNeeds.{ReadsSlot, reads_slot}
use Rattle.mmu_laws.proofs.forms.log.HarvestFrames.{words_read}

-- ---- what it may read

-- Where the step ends a reading, which begins with it or has begun, these frames may be read, of the log that the line reads.
abbrev pub ReadsWell : Place → Actor → Command → Held → ℕ → Facts → Past → Type 0
ReadsWell (place.Log Await) actor command h x f past =
    (id : ℕ) → log_read command ≡ Some id → IsHarvest f past command id (frames_read (slot_asked h command) command h.harvest)
ReadsWell (place.Log (Peek begun)) actor command h x f past =
    (id : ℕ) → log_read command ≡ Some id → reads_last begun (slot_asked h command) command h.topics ≡ true
    → IsHarvest f (if begun then past else past_after actor (Taken id) f past) command id
    (frames_read (slot_asked h command) command (read_more begun (slot_asked h command) command h x))
ReadsWell _ actor command h x f past = Unit {0}

-- ---- what it is answered at once

-- A line that reads a log is refused at once, or has something to do.
pub reads_at_once : (z : Sizes) (slots : MemorySlots) (actor : Actor) (command : Command) → is_some (log_read command) ≡ true
    → answer_at_once z slots Unstarted actor command ≡ option_map (λ refusal. Refused refusal) (read_refusal command slots)
reads_at_once z slots actor (GetLog id) reads = refl
reads_at_once z slots actor (ClearLog id first count words) reads = refl
reads_at_once z slots actor _ reads = absurd (cc reads)

-- ---- what it is told in the end

-- The frames of its words are told as these words.
pub words_told : (command : Command) (h : Held) (words : List ℕ) → Reads command h → length words ≡ words_asked command (slot_asked h command)
    → AreAsked (slot_asked h command) command words
    → bits_for command (slot_read h.slots command) (frames_read (slot_asked h command) command words) ≡ words
words_told command h words K long asked =
    ap (λ (o : Option MemorySlot). bits_for command o (frames_read (slot_asked h command) command words)) S.is
    ∙ ap (λ s. bits_for command (Some S.slot) (frames_read s command words)) slot_is
    ∙ words_read command S.slot words K.reads (subst (λ s. length words ≡ words_asked command s) slot_is long)
    (subst (λ s. AreAsked s command words) slot_is asked)
  where
    S : ReadsSlot (slot_read h.slots command) (first_asked command) (count_asked command (slot_asked h command))
    S = reads_slot command h K

    slot_is : slot_asked h command ≡ S.slot.slot
    slot_is = ap (λ (o : Option MemorySlot). slot_or_none (option_map (λ m. m.slot) o)) S.is
