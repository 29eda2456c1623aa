-- A slot set that a line has filled and publishes keeps the dirty logs of the one before it, but for the log that the line begins or ends.
use Rattle.std.proofs.Common.{◌≡◌, ◌≢◌, ◌⊎◌, inl, inr, ◌≤◌, ◌<◌, ◌==◌, ℕ, refl, sym, subst, ap, ◌∙◌, arith}
use Rattle.std.specs.Option.{option_map}
use Rattle.std.specs.Prelude.{Bool, true, false, Option, Some, None, if◌then◌else◌}
use Rattle.core_views.specs.declared.place.Place.TheVariants as place
use Rattle.core_views.specs.declared.place.SlotChangePlace.TheVariants as change
use Rattle.core_views.specs.declared.sizes.Sizes.{Sizes}
use Rattle.core_views.specs.declared.memory_slot.MemorySlot.{MemorySlot}
use Rattle.core_views.specs.declared.trace.Command.{Command}
use Rattle.core_views.specs.declared.trace.Command.TheVariants.{Access, ChangeHost, ChangeRun, ClearLog, DeleteSlot, GetLog, Migrate, SetLog, SetSlot, Split}
use Rattle.core_views.specs.declared.trace.Line.{Line}
use Rattle.core_views.specs.declared.trace.Slot.{Slot as SlotOf}
use Rattle.core_views.specs.Refusals.{is_logged}
use Rattle.core_views.specs.SlotCommands.{change_at_once, changes_slot, slot_armed, slots_after}
use Rattle.core_views.specs.Slots.{is_some_and}
use Rattle.core_views.specs.SlotSets.{MemorySlots, slot_of_id}
use Rattle.core_views.proofs.SlotChanges.{none_refused}
use Rattle.core_views.proofs.SlotLines.{log_elsewhere, log_here, logged_so, set_here, taken_at}
use Rattle.spte_words.specs.Areas.{pool_index}
use Rattle.spte_words.specs.declared.area.Area.TheVariants as area
use Rattle.part_steps.specs.PartTasks.{page_owned}
use Rattle.part_steps.specs.SetWords.{set_word}
use Rattle.part_steps.specs.SlotWords.{memory_slot_at}
use Rattle.mmu_core.specs.invariant.Invariant.{Invariant, RecordPart}
use Rattle.mmu_core.specs.invariant.SlotSetPart.{IsLiveIn}
use Rattle.mmu_core.specs.machine.View.{View}
use Rattle.mmu_core.proofs.lines.KnowsKept.{step_knows}
use Rattle.mmu_core.proofs.machine.Columns.{same_or}
use Rattle.mmu_core.proofs.machine.Stepping.{IsStep}
use Rattle.mmu_core.proofs.slots.SetFilled.{filled_page, none_live, record_at, recorded_live, set_other, some_live, some_memory_slot, some_slot, taken_other}
use Rattle.mmu_core.proofs.forms.slot_change.SlotChangeKept.{record_of}
use Rattle.log_invariant.specs.Covered.{IsLoggedIn}
use Rattle.log_invariant.specs.LogInvariant.{KeepsLogs}
use Rattle.std.proofs.lemmas.Bool.Decides.{nat_tests}
use Rattle.core_views.proofs.UnloggedSlots.{set_anew, deleted_unlogged}

-- ---- of the manager's record

-- It has the slot at the ID, with its dirty log.
abbrev pub HasLog : MemorySlots → ℕ → SlotOf → Type 0
HasLog slots id slot = slot_of_id id slots ≡ Some (record { slot = slot; logged = true })

-- It has the slot at the ID, with its log or without.
abbrev HasSlot : MemorySlots → ℕ → SlotOf → Type 0
HasSlot slots id slot = (m : MemorySlot) × (slot_of_id id slots ≡ Some m) × (m.slot ≡ slot)

-- One record comes after another one, by a line that begins the log of this slot, or of none.
record KeepsRecorded (slots next : MemorySlots) (begun : Option SlotOf) : Type 0 where
  had : (id : ℕ) (slot : SlotOf) → HasLog next id slot → HasLog slots id slot ⊎ (begun ≡ Some slot)
  still : (id : ℕ) (slot : SlotOf) → HasLog slots id slot → HasSlot next id slot

-- They differ at one ID at most.
one_changed : (id : ℕ) (slots next : MemorySlots) (begun : Option SlotOf) → ((i : ℕ) → i ≢ id → slot_of_id i next ≡ slot_of_id i slots)
    → ((slot : SlotOf) → HasLog next id slot → HasLog slots id slot ⊎ (begun ≡ Some slot))
    → ((slot : SlotOf) → HasLog slots id slot → HasSlot next id slot) → KeepsRecorded slots next begun
one_changed id slots next begun other had still = record {
  had = λ i slot has. was i slot has (same_or i id);
  still = λ i slot has. stay i slot has (same_or i id);
}
  where
    was : (i : ℕ) (slot : SlotOf) → HasLog next i slot → (i ≡ id) ⊎ (i ≢ id) → HasLog slots i slot ⊎ (begun ≡ Some slot)
    was i slot has (inl e) =
        subst (λ k. HasLog slots k slot ⊎ (begun ≡ Some slot)) (sym e) (had slot (subst (λ k. HasLog next k slot) e has))
    was i slot has (inr apart) = inl (sym (other i apart) ∙ has)

    stay : (i : ℕ) (slot : SlotOf) → HasLog slots i slot → (i ≡ id) ⊎ (i ≢ id) → HasSlot next i slot
    stay i slot has (inl e) = subst (λ k. HasSlot next k slot) (sym e) (still slot (subst (λ k. HasLog slots k slot) e has))
    stay i slot has (inr apart) = (record { slot = slot; logged = true }, other i apart ∙ has, refl)

-- A slot without a log has none.
no_log : (id : ℕ) (slots : MemorySlots) (slot : SlotOf) → is_logged id slots ≡ false → HasLog slots id slot → ⊥
no_log id slots slot none has = let some = ap (is_some_and (λ (m : MemorySlot). m.logged)) has in cc (none, some)

-- ---- by the line that changes a slot

-- The slot is the same after its log has begun or ended.
logged_slot : (id : ℕ) (on : Bool) (slots : MemorySlots) (slot : SlotOf) → HasLog slots id slot → HasSlot (slots_after (SetLog id on) slots) id slot
logged_slot id on slots slot has = (record { slot = slot; logged = on }, log_here id on slots ∙ ap (logged_so on) has, refl)

pub log_begun : (id : ℕ) (on : Bool) (slots : MemorySlots) (slot : SlotOf) → HasLog (slots_after (SetLog id on) slots) id slot
    → slot_armed slots (SetLog id on) ≡ Some slot
log_begun id on slots slot has = by on (slot_of_id id slots) refl (sym (log_here id on slots) ∙ has)
  where
    by : (b : Bool) (was : Option MemorySlot) → slot_of_id id slots ≡ was → logged_so b was ≡ Some (record { slot = slot; logged = true })
        → slot_armed slots (SetLog id b) ≡ Some slot
    by true None is e = absurd (cc e)
    by true (Some was) is e =
        ap (option_map (λ (m : MemorySlot). m.slot)) is ∙ ap (option_map (λ (m : MemorySlot). m.slot)) e
    by false None is e = absurd (cc e)
    by false (Some was) is e = absurd (let bad = ap (is_some_and (λ (m : MemorySlot). m.logged)) e in cc bad)

keeps_recorded : (z : Sizes) (command : Command) (slots : MemorySlots) → changes_slot command ≡ true → change_at_once z command slots ≡ None
    → KeepsRecorded slots (slots_after command slots) (slot_armed slots command)
keeps_recorded z (SetSlot id new_) slots changes works =
    let none = set_anew z id new_ slots works in
    one_changed id slots (slots_after (SetSlot id new_) slots) None (set_other id new_ slots)
    (λ slot has.
    let here = sym (set_here id (record { slot = new_; logged = is_logged id slots }) slots) ∙ has in
    let logged : is_logged id slots ≡ true = ap (is_some_and (λ (m : MemorySlot). m.logged)) here in
    absurd (cc (none, logged)))
    (λ slot has. absurd (no_log id slots slot none has))
keeps_recorded z (DeleteSlot id) slots changes works =
    let none = deleted_unlogged id slots (none_refused z (DeleteSlot id) slots works) in
    one_changed id slots (slots_after (DeleteSlot id) slots) None (taken_other id slots)
    (λ slot has. absurd (gone (id == id) (refl_test id) (sym (taken_at id id slots) ∙ has)))
    (λ slot has. absurd (no_log id slots slot none has))
  where
    refl_test : (n : ℕ) → (n == n) ≡ true
    refl_test n = grind (arith, nat_tests)

    gone : {slot : SlotOf} (b : Bool) → b ≡ true → (if b then None else slot_of_id id slots) ≡ Some (record { slot = slot; logged = true }) → ⊥
    gone true is e = cc e
    gone false is e = cc is
keeps_recorded z (SetLog id on) slots changes works =
    one_changed id slots (slots_after (SetLog id on) slots) (slot_armed slots (SetLog id on)) (λ i apart. log_elsewhere id i on slots apart)
    (λ slot has. inr (log_begun id on slots slot has)) (logged_slot id on slots)
keeps_recorded z (Access gfn word op) slots changes works = absurd (cc changes)
keeps_recorded z (ChangeHost page change) slots changes works = absurd (cc changes)
keeps_recorded z (ChangeRun page change) slots changes works = absurd (cc changes)
keeps_recorded z (GetLog id) slots changes works = absurd (cc changes)
keeps_recorded z (Migrate call) slots changes works = absurd (cc changes)
keeps_recorded z (Split gfn) slots changes works = absurd (cc changes)
keeps_recorded z (ClearLog id first count words) slots changes works = absurd (cc changes)

-- ---- of the words of both sets

same_some : {x y : MemorySlot} → Some x ≡ Some y → x ≡ y
same_some e = cc e

-- A slot of the published set has a log just where the record says so.
pub logged_recorded : (pool : ℕ → ℕ) (set id : ℕ) (slots : MemorySlots) (slot : SlotOf) → RecordPart pool set slots → IsLoggedIn pool set id slot
    → slot_of_id id slots ≡ Some (record { slot = slot; logged = true })
logged_recorded pool set id slots slot R L =
    record_at pool set id slots R L.live.low ∙ ap (λ (b : Bool). if b then Some (memory_slot_at pool set id) else None) L.live.live
    ∙ (λ t. Some (record { slot = L.live.is t; logged = L.logged t }))

pub recorded_logged : (pool : ℕ → ℕ) (set id : ℕ) (slots : MemorySlots) (slot : SlotOf) → RecordPart pool set slots → HasLog slots id slot
    → IsLoggedIn pool set id slot
recorded_logged pool set id slots slot R has =
    let L = recorded_live pool set id slots (record { slot = slot; logged = true }) R has in
    let is : Some (memory_slot_at pool set id) ≡ Some (record { slot = slot; logged = true }) =
    sym (ap (λ (b : Bool). if b then Some (memory_slot_at pool set id) else None) L.live) ∙ sym (record_at pool set id slots R L.low) ∙ has in
    record { live = L; logged = ap (λ (m : MemorySlot). m.logged) (same_some is) }

module _ (pool : ℕ → ℕ) (page : ℕ) (next : MemorySlots) (filled : (j : ℕ) → j < 512 → pool (pool_index page j) ≡ set_word next j) (id : ℕ)
    (slot : SlotOf) where
  page_recorded : IsLoggedIn pool page id slot → HasLog next id slot
  page_recorded L = by (slot_of_id id next) refl
    where
      by : (m : Option MemorySlot) → slot_of_id id next ≡ m → slot_of_id id next ≡ Some (record { slot = slot; logged = true })
      by None is = let none = none_live pool page next filled id L.live.low is in let live = L.live.live in absurd (cc (none, live))
      by (Some m) is =
          is ∙ ap Some (sym (some_memory_slot pool page next filled id L.live.low m is)) ∙ (λ t. Some (record { slot = L.live.is t; logged = L.logged t }))

  page_live : id ≤ 31 → HasSlot next id slot → IsLiveIn pool page id slot
  page_live low has = record {
    low = low;
    live = some_live pool page next filled id low has.0 has.1;
    is = some_slot pool page next filled id low has.0 has.1 ∙ has.2;
  }

-- The page that a line publishes.
pub published_logs : (z : Sizes) (v : View) (a : ℕ) (line : Line) (command : Command) → IsStep z v a line command (place.SlotChange change.Publish)
    → Invariant z v
    → KeepsLogs (v.words area.Pool) (v.words area.Slots 0) (page_owned (v.hand a).topics.owned) (slot_armed (v.hand a).slots command)
published_logs z v a line command S I = record {
  had = λ id slot logged. was id slot (kept.had id slot (page_recorded pool page next filled id slot logged));
  stays = λ id slot logged. page_live pool page next filled id slot logged.live.low (kept.still id slot (logged_recorded pool set id slots slot R logged));
}
  where
    pool : ℕ → ℕ
    pool = v.words area.Pool

    set : ℕ
    set = v.words area.Slots 0

    page : ℕ
    page = page_owned (v.hand a).topics.owned

    slots : MemorySlots
    slots = (v.hand a).slots

    next : MemorySlots
    next = slots_after command slots

    R : RecordPart pool set slots
    R = record_of z v a line command change.Publish S I

    filled : (j : ℕ) → j < 512 → pool (pool_index page j) ≡ set_word next j
    filled = filled_page pool next (v.hand a).topics (step_knows z v a line command (place.SlotChange change.Publish) S I).1.1.owns S.holds.filled

    kept : KeepsRecorded slots next (slot_armed slots command)
    kept = keeps_recorded z command slots (step_knows z v a line command (place.SlotChange change.Publish) S I).0 S.holds.works

    was : (id : ℕ) (slot : SlotOf) → HasLog slots id slot ⊎ (slot_armed slots command ≡ Some slot)
        → IsLoggedIn pool set id slot ⊎ (slot_armed slots command ≡ Some slot)
    was id slot (inl has) = inl (recorded_logged pool set id slots slot R has)
    was id slot (inr begins) = inr begins

-- The slot whose log a line begins is the same in its record after the publication.
pub armed_stays : (slots : MemorySlots) (command : Command) → slot_armed (slots_after command slots) command ≡ slot_armed slots command
armed_stays slots (SetLog id true) =
    ap (option_map (λ (m : MemorySlot). m.slot)) (log_here id true slots) ∙ by (slot_of_id id slots)
  where
    by : (was : Option MemorySlot) → option_map (λ (m : MemorySlot). m.slot) (logged_so true was) ≡ option_map (λ (m : MemorySlot). m.slot) was
    by None = refl
    by (Some was) = refl
armed_stays slots (SetLog id false) = refl
armed_stays slots (Access gfn word op) = refl
armed_stays slots (ChangeHost page change) = refl
armed_stays slots (ChangeRun page change) = refl
armed_stays slots (SetSlot id new_) = refl
armed_stays slots (DeleteSlot id) = refl
armed_stays slots (GetLog id) = refl
armed_stays slots (Migrate call) = refl
armed_stays slots (Split gfn) = refl
armed_stays slots (ClearLog id first count words) = refl
