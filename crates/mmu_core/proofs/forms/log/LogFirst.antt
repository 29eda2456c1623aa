-- What a line that reads a dirty log knows at its first place, where its actor is at rest.
use Rattle.std.proofs.Common.{◌≡◌, ◌<◌, ◌≤◌, ℕ, Bool, true, false, refl, sym, subst, ap, arith}
use Rattle.std.specs.Prelude.{Option, Some, None, is_some, option_map}
use Rattle.core_views.specs.declared.answer.Refusal.{Refusal}
use Rattle.core_views.specs.declared.memory_slot.MemorySlot.{MemorySlot}
use Rattle.core_views.specs.declared.trace.Command.{Command}
use Rattle.core_views.specs.declared.trace.Command.TheVariants.{ClearLog, GetLog}
use Rattle.core_views.specs.declared.trace.Slot.{Slot}
use Rattle.core_views.specs.Held.{Held}
use Rattle.core_views.specs.LogCommands.{log_read, read_refusal, takes_out, words_asked}
use Rattle.core_views.specs.SlotSets.{MemorySlots, slot_of_id}
use Rattle.part_steps.specs.PartSteps.{IsAtRest}
use Rattle.mmu_core.specs.forms.log.LogForm.{log_is_first}
use Rattle.mmu_core.specs.forms.log.LogKnows.{LogKnows, Reads}
use Rattle.mmu_core.specs.forms.log.LogSteps.{log_first, slot_asked}
use Rattle.mmu_core.specs.forms.slot_change.SlotTargets.{slot_or_none}
use Rattle.mmu_core.proofs.forms.log.LogNeeds.{reads_slot}

-- Each slot of a record has a page.
abbrev pub HavePages : MemorySlots → Type 0
HavePages slots = (id : ℕ) (slot : MemorySlot) → slot_of_id id slots ≡ Some slot → 1 ≤ slot.slot.pages

-- A line that leaves in the log what it reads has a word to read.
some_words : (command : Command) (h : Held) → Reads command h → takes_out h.state.sizes.mode command ≡ false → HavePages h.slots
    → 0 < words_asked command (slot_asked h command)
some_words (GetLog id) h K out some =
    let S = reads_slot (GetLog id) h K in
    let page = some id S.slot S.is in
    let same : slot_asked h (GetLog id) ≡ S.slot.slot = ap (λ (o : Option MemorySlot). slot_or_none (option_map (λ m. m.slot) o)) S.is in
    subst (λ (slot : Slot). 0 < words_asked (GetLog id) slot) (sym same) (omega (arith, page))
some_words (ClearLog id first count words) h K out some = absurd (cc out)
some_words _ h K out some = absurd (let reads = K.reads in cc reads)

pub log_first_known : (command : Command) (h : Held) → is_some (log_read command) ≡ true → IsAtRest h.topics → HavePages h.slots
    → LogKnows (log_first (read_refusal command h.slots) (takes_out h.state.sizes.mode command)) command h
log_first_known command h reads R some = by (read_refusal command h.slots) (takes_out h.state.sizes.mode command) refl refl
  where
    by : (o : Option Refusal) (out : Bool) → read_refusal command h.slots ≡ o → takes_out h.state.sizes.mode command ≡ out
        → LogKnows (log_first o out) command h
    by (Some refusal) out is e = (R, reads, is)
    by None true is e = (R, (record { reads = reads; accepted = is }, e))
    by None false is e = (
      R,
      record { reads = reads; accepted = is },
      e,
      record {
        left = let words = some_words command h (record { reads = reads; accepted = is }) e some in omega (arith, words);
        from = λ begun. absurd (cc begun);
        read = λ begun. absurd (cc begun);
        asked = λ begun. absurd (cc begun);
      },
    )

-- A line begins at its first place.
pub log_begins : (r : Option Refusal) (out : Bool) → log_is_first (log_first r out) ≡ true
log_begins (Some refusal) out = refl
log_begins None true = refl
log_begins None false = refl
