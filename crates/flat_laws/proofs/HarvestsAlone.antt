-- A line that reads a log alone: what it may read, and that it has something to read.
use Rattle.std.proofs.Common.{◌≡◌, ℕ, true, List, refl, subst}
use Rattle.std.proofs.lemmas.Option.{same_Some}
use Rattle.std.specs.Option.{option_map}
use Rattle.std.specs.Prelude.{Option, Some, None}
use Rattle.core_views.specs.declared.actor.Actor.{Actor}
use Rattle.core_views.specs.declared.answer.Answer.TheVariants.{Refused}
use Rattle.core_views.specs.declared.answer.Refusal.{Refusal}
use Rattle.core_views.specs.declared.answer.Refusal.TheVariants.{Missing}
use Rattle.core_views.specs.declared.sizes.Sizes.{Sizes}
use Rattle.core_views.specs.declared.memory_slot.MemorySlot.{MemorySlot}
use Rattle.core_views.specs.declared.trace.Command.{Command}
use Rattle.core_views.specs.declared.trace.Command.TheVariants.{Access, ChangeHost, ChangeRun, ClearLog, DeleteSlot, GetLog, Migrate, SetLog, SetSlot, Split}
use Rattle.core_views.specs.Flat.{Facts}
use Rattle.core_views.specs.Harvests.{IsHarvest}
use Rattle.core_views.specs.Lawful.{HasWork}
use Rattle.core_views.specs.LogCommands.{asked_frames, log_read, read_refusal}
use Rattle.core_views.specs.Past.{Past}
use Rattle.core_views.specs.SlotSets.{MemorySlots, slot_of_id}
use Rattle.core_views.proofs.Barred.{unbarred}
use Rattle.core_views.proofs.AskedFrames.{asked_has, asked_is, asked_rise}
use Rattle.core_views.proofs.SlotChanges.{IsSlotThere}

by_slot : (slots : MemorySlots) (id : ℕ) (was : Option MemorySlot) → slot_of_id id slots ≡ was → (was ≡ None → ⊥) → IsSlotThere slots id
by_slot slots id None is never = absurd (never refl)
by_slot slots id (Some slot) is never = record { slot = slot; is = is }

unmapped : (refusal : Option Refusal) → option_map (λ refusal. Refused refusal) refusal ≡ None → refusal ≡ None
unmapped None is = refl
unmapped (Some refusal) is = absurd (cc is)

-- Where it isn't, the line is refused.
get_missing : (id : ℕ) (slots : MemorySlots) → slot_of_id id slots ≡ None → read_refusal (GetLog id) slots ≡ Some Missing
get_missing id slots none = rw none refl

clear_missing : (id first count : ℕ) (words : List ℕ) (slots : MemorySlots) → slot_of_id id slots ≡ None
    → read_refusal (ClearLog id first count words) slots ≡ Some Missing
clear_missing id first count words slots none = rw none refl

refused : {X : Type 0} {x : Option Refusal} {refusal : Refusal} → x ≡ Some refusal → x ≡ None → X
refused is none = absurd (cc (is, none))

-- The slot is there whose log a line reads that isn't refused.
pub reads_there : (z : Sizes) (f : Facts) (actor : Actor) (command : Command) (id : ℕ) → log_read command ≡ Some id → HasWork z f actor command
    → IsSlotThere f.slots id
reads_there z f actor (GetLog i) id reads works =
    subst (IsSlotThere f.slots) (same_Some i id reads)
    (by_slot f.slots i (slot_of_id i f.slots) refl (λ none. refused (get_missing i f.slots none) (unmapped _ (unbarred _ _ works).1)))
reads_there z f actor (ClearLog i first count words) id reads works =
    subst (IsSlotThere f.slots) (same_Some i id reads)
    (by_slot f.slots i (slot_of_id i f.slots) refl (λ none. refused (clear_missing i first count words f.slots none) (unmapped _ (unbarred _ _ works).1)))
reads_there z f actor (Access gfn word op) id reads works = absurd (cc reads)
reads_there z f actor (ChangeHost page change) id reads works = absurd (cc reads)
reads_there z f actor (ChangeRun page change) id reads works = absurd (cc reads)
reads_there z f actor (SetSlot i slot) id reads works = absurd (cc reads)
reads_there z f actor (DeleteSlot i) id reads works = absurd (cc reads)
reads_there z f actor (SetLog i on) id reads works = absurd (cc reads)
reads_there z f actor (Migrate call) id reads works = absurd (cc reads)
reads_there z f actor (Split gfn) id reads works = absurd (cc reads)

-- All dirty frames for which it asks are such as it may read, if each has a cause and none was overlooked.
pub reads_dirty : (f : Facts) (past : Past) (command : Command) (id : ℕ) (slot : MemorySlot) → slot_of_id id f.slots ≡ Some slot
    → ((gfn : ℕ) → f.pending gfn ≡ true → past.causes gfn ≡ true) → ((gfn : ℕ) → past.due gfn ≡ true → f.pending gfn ≡ true)
    → IsHarvest f past command id (asked_frames f.pending command (Some slot))
reads_dirty f past command id slot there caused due = record {
  slot = slot;
  there = there;
  rising = asked_rise f.pending command slot;
  asked = λ gfn among. let is = asked_is f.pending command slot gfn among in (is.inside, is.asked);
  complete = λ gfn inside asked was. asked_has f.pending command slot gfn (record { inside = inside; asked = asked; held = due gfn was });
  caused = λ gfn among. caused gfn (asked_is f.pending command slot gfn among).held;
}
