-- The slots of the manager's record, with their dirty logs or without, as the published set has them; and the one whose log a line begins.
use Rattle.std.proofs.Common.{◌≡◌, ℕ, refl, sym, ap, ◌∙◌}
use Rattle.std.specs.Prelude.{Bool, true, false, Option, Some, None, is_none, [], ◌∷◌, if◌then◌else◌}
use Rattle.std.specs.Option.{option_map}
use Rattle.core_views.specs.declared.answer.Refusal.TheVariants.{Logged, Missing}
use Rattle.core_views.specs.declared.place.SlotField.TheVariants.{Flags}
use Rattle.core_views.specs.declared.sizes.Sizes.{Sizes}
use Rattle.core_views.specs.declared.memory_slot.MemorySlot.{MemorySlot}
use Rattle.core_views.specs.declared.trace.Command.{Command}
use Rattle.core_views.specs.declared.trace.Command.TheVariants.{Access, ChangeHost, ChangeRun, ClearLog, DeleteSlot, GetLog, Migrate, SetLog, SetSlot, Split}
use Rattle.core_views.specs.declared.trace.Slot.{Slot as SlotOf}
use Rattle.core_views.specs.Refusals.{is_logged, log_refusal}
use Rattle.core_views.specs.SlotCommands.{arms, change_at_once, slot_armed}
use Rattle.core_views.specs.Slots.{first_of, is_some_and}
use Rattle.core_views.specs.SlotSets.{MemorySlots, slot_of_id}
use Rattle.core_views.proofs.SlotChanges.{logged_there, none_refused}
use Rattle.spte_words.specs.Flags.{flags_logged}
use Rattle.part_steps.specs.SlotWords.{memory_slot_at, slot_index}
use Rattle.mmu_core.specs.invariant.Invariant.{IsLiveIn, RecordPart}
use Rattle.mmu_core.proofs.slots.SetFilled.{record_at, recorded_live}

-- the slot with its dirty log, or without
abbrev pub with_log : Bool → SlotOf → MemorySlot
with_log on slot = record { slot = slot; logged = on }

same_some : {x y : MemorySlot} → Some x ≡ Some y → x ≡ y
same_some e = cc e

-- A slot that is live is in the record, and has a log there where its flags say so.
pub live_recorded : (pool : ℕ → ℕ) (set id : ℕ) (slot : SlotOf) (slots : MemorySlots) → RecordPart pool set slots → IsLiveIn pool set id slot
    → slot_of_id id slots ≡ Some (with_log (flags_logged (pool (slot_index set id Flags))) slot)
live_recorded pool set id slot slots R L =
    record_at pool set id slots R L.low
    ∙ ap (λ (live : Bool). if live then Some (memory_slot_at pool set id) else None) L.live
    ∙ ap (λ (s : SlotOf). Some (with_log (flags_logged (pool (slot_index set id Flags))) s)) L.is

-- And back.
pub recorded_flags : (pool : ℕ → ℕ) (set id : ℕ) (m : MemorySlot) (slots : MemorySlots) → RecordPart pool set slots → slot_of_id id slots ≡ Some m
    → flags_logged (pool (slot_index set id Flags)) ≡ m.logged
recorded_flags pool set id m slots R is =
    let L = recorded_live pool set id slots m R is in
    ap (λ (x : MemorySlot). x.logged) (same_some (sym (live_recorded pool set id m.slot slots R L) ∙ is))

-- The slot whose log the line begins is live, without a log.
pub record ArmedAt (pool : ℕ → ℕ) (set : ℕ) (command : Command) (slots : MemorySlots) : Type 0 where
  pub id : ℕ
  pub slot : SlotOf
  pub is : slot_armed slots command ≡ Some slot
  pub live : IsLiveIn pool set id slot
  pub unlogged : flags_logged (pool (slot_index set id Flags)) ≡ false

-- So it is of a line that has something to do.
pub armed_at : (z : Sizes) (pool : ℕ → ℕ) (set : ℕ) (command : Command) (slots : MemorySlots) → RecordPart pool set slots → arms command ≡ true
    → change_at_once z command slots ≡ None → ArmedAt pool set command slots
armed_at z pool set (SetLog id true) slots R is works =
    let there = logged_there id true slots accepted in
    record {
      id = id;
      slot = there.slot.slot;
      is = ap (λ (o : Option MemorySlot). option_map (λ m. m.slot) o) there.is;
      live = recorded_live pool set id slots there.slot R there.is;
      unlogged = recorded_flags pool set id there.slot slots R there.is ∙ by there.slot.logged refl there.is;
    }
  where
    accepted : log_refusal true id slots ≡ None
    accepted = none_refused z (SetLog id true) slots works

    by : {was : MemorySlot} (b : Bool) → was.logged ≡ b → slot_of_id id slots ≡ Some was → was.logged ≡ false
    by false none at = none
    by true has at =
        let logged : is_logged id slots ≡ true = ap (is_some_and (λ (m : MemorySlot). m.logged)) at ∙ has in
        let there : is_none (slot_of_id id slots) ≡ false = ap (λ (o : Option MemorySlot). is_none o) at in
        let refused : log_refusal true id slots ≡ Some Logged =
        ap (λ (b : Bool). first_of ((b, Missing) ∷ (is_logged id slots, Logged) ∷ [])) there
        ∙ ap (λ (b : Bool). first_of ((false, Missing) ∷ (b, Logged) ∷ [])) logged in
        absurd (cc (refused, accepted))
armed_at z pool set (SetLog id false) slots R is works = absurd (cc is)
armed_at z pool set (Access gfn word op) slots R is works = absurd (cc is)
armed_at z pool set (ChangeHost page change) slots R is works = absurd (cc is)
armed_at z pool set (ChangeRun page change) slots R is works = absurd (cc is)
armed_at z pool set (SetSlot id slot) slots R is works = absurd (cc is)
armed_at z pool set (DeleteSlot id) slots R is works = absurd (cc is)
armed_at z pool set (GetLog id) slots R is works = absurd (cc is)
armed_at z pool set (Migrate call) slots R is works = absurd (cc is)
armed_at z pool set (Split gfn) slots R is works = absurd (cc is)
armed_at z pool set (ClearLog id first count words) slots R is works = absurd (cc is)
