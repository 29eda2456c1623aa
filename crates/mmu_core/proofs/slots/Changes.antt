-- What a line makes of the slots that it is to change: a clause for each command that changes one.
use Rattle.std.proofs.Common.{◌≡◌, ◌≢◌, ◌⊎◌, inl, inr, ◌<◌, ◌≤◌, ◌^◌, ◌==◌, ℕ, Bool, List, [], ◌∷◌, refl, sym, subst, ap, ◌∙◌}
use Rattle.std.specs.Option.{option_map}
use Rattle.std.specs.Prelude.{All, Bool, ◌||◌, if◌then◌else◌, Option, Some, None, is_some, true, false}
use Rattle.std.specs.List.{list_any}
use Rattle.core_views.specs.declared.actor.Actor.{Actor}
use Rattle.core_views.specs.declared.actor.Actor.TheVariants.{Manager}
use Rattle.core_views.specs.declared.place.Place.{Place}
use Rattle.core_views.specs.declared.sizes.Sizes.{Sizes}
use Rattle.core_views.specs.declared.memory_slot.MemorySlot.{MemorySlot}
use Rattle.core_views.specs.declared.trace.Command.{Command}
use Rattle.core_views.specs.declared.trace.Command.TheVariants.{Access, ChangeHost, ChangeRun, ClearLog, DeleteSlot, GetLog, Migrate, SetLog, SetSlot, Split}
use Rattle.core_views.specs.declared.trace.Line.{Line}
use Rattle.core_views.specs.declared.trace.Slot.{Slot}
use Rattle.core_views.proofs.SlotChanges.{none_refused}
use Rattle.core_views.proofs.Sound.{deletion_low}
use Rattle.core_views.specs.Refusals.{after_set, is_logged}
use Rattle.core_views.specs.SlotCommands.{after_change, change_at_once, changes_slot, slot_armed, slot_change, slot_invalidated, slots_after}
use Rattle.core_views.specs.Slots.{contains, has_host_page}
use Rattle.core_views.proofs.SlotLines.{log_here, logged_so, set_here}
use Rattle.core_views.proofs.SlotChanges.{logged_there}
use Rattle.core_views.specs.SlotSets.{MemorySlots, slot_of_id, with_slot_at, without_slot_at}
use Rattle.core_views.specs.Traces.{IsCommandFor}
use Rattle.spte_words.specs.declared.area.Area.TheVariants as area
use Rattle.spte_words.specs.Areas.{pool_index}
use Rattle.part_steps.proofs.SetWords.{set_word_fewer, set_word_logged, set_word_small}
use Rattle.part_steps.specs.PartTasks.{page_owned}
use Rattle.part_steps.specs.SetWords.{IsFilledWith, set_role, set_word}
use Rattle.part_steps.specs.SlotWords.{memory_slots_below, slot_at}
use Rattle.mmu_core.specs.invariant.Invariant.{Invariant, IsSetBy, RecordPart}
use Rattle.mmu_core.specs.invariant.SlotSetPart.{AreSlots, Fits, IsLiveIn, SlotSetPart}
use Rattle.mmu_core.specs.machine.View.{View}
use Rattle.part_steps.specs.SetHoldings.{OwnsSet}
use Rattle.mmu_core.proofs.machine.Columns.{same_or}
use Rattle.mmu_core.proofs.machine.PartStepping.{AreAlikeBut}
use Rattle.mmu_core.proofs.machine.Stepping.{IsStep}
use Rattle.mmu_core.proofs.slots.Accepted.{MayBeSet, may_be_set}
use Rattle.mmu_core.proofs.slots.SetFilled.{alike_but, filled_page, has_others, list_with, list_without, log_other, new_live, new_slot, none_at_id}
use Rattle.mmu_core.proofs.slots.SetFilled.{others_live, others_same, recorded_live, set_other, taken_other}
use Rattle.mmu_core.proofs.slots.SetPublished.{set_with, set_without}
use Rattle.mmu_core.proofs.words.SmallSlots.{has_page, in_range, record_is_so, record_small}

-- The manager alone changes slots.
pub change_is_managers : (z : Sizes) (actor : Actor) (command : Command) → changes_slot command ≡ true → IsCommandFor z actor command → actor ≡ Manager
change_is_managers z Manager command is may = refl
change_is_managers z _ (Access gfn word op) is may = absurd (cc is)
change_is_managers z _ (ChangeHost page change) is may = absurd (cc is)
change_is_managers z _ (ChangeRun page change) is may = absurd (cc is)
change_is_managers z _ (Split gfn) is may = absurd (cc is)
change_is_managers z _ _ is may = absurd may

-- It has a change.
pub is_change : (command : Command) (slots : MemorySlots) → changes_slot command ≡ true → is_some (slot_change slots command) ≡ true
is_change (Access gfn word op) slots is = is
is_change (ChangeHost page change) slots is = is
is_change (ChangeRun page change) slots is = is
is_change (SetSlot id slot) slots is = refl
is_change (DeleteSlot id) slots is = refl
is_change (SetLog id on) slots is = refl
is_change (GetLog id) slots is = is
is_change (Migrate call) slots is = is
is_change (Split gfn) slots is = is
is_change (ClearLog id first count words) slots is = is

-- The words of the set that it fills are below 2 ^ 64.
pub change_small : (z : Sizes) (lines : List Line) (actor : Actor) (command : Command) (slots : MemorySlots) → changes_slot command ≡ true
    → IsCommandFor z actor command
    → All (λ line. IsCommandFor z line.actor line.command) lines → All (IsSetBy lines) slots → (j : ℕ) → set_word (slots_after command slots) j < 2 ^ 64
change_small z lines actor (Access gfn word op) slots is may allowed set j = absurd (cc is)
change_small z lines actor (ChangeHost page change) slots is may allowed set j = absurd (cc is)
change_small z lines actor (ChangeRun page change) slots is may allowed set j = absurd (cc is)
change_small z lines actor (SetSlot id slot) slots is may allowed set j =
    set_word_small id slot slots j (in_range z actor id slot may) (record_small z lines slots allowed set)
change_small z lines actor (DeleteSlot id) slots is may allowed set j = set_word_fewer id slots j (record_small z lines slots allowed set)
change_small z lines actor (SetLog id on) slots is may allowed set j = set_word_logged id on slots j (record_small z lines slots allowed set)
change_small z lines actor (GetLog id) slots is may allowed set j = absurd (cc is)
change_small z lines actor (Migrate call) slots is may allowed set j = absurd (cc is)
change_small z lines actor (Split gfn) slots is may allowed set j = absurd (cc is)
change_small z lines actor (ClearLog id first count words) slots is may allowed set j = absurd (cc is)

-- The manager's own record, where its hand makes a step of such a line.
pub recorded_at : (z : Sizes) (v : View) (a : ℕ) (line : Line) (command : Command) (p : Place) → IsStep z v a line command p → changes_slot command ≡ true
    → Invariant z v → RecordPart (v.words area.Pool) (v.words area.Slots 0) (v.hand a).slots
recorded_at z v a line command p S changes I =
    I.recorded a S.there (sym S.own ∙ change_is_managers z line.actor command changes S.allowed)

-- A page with the record's slots after the line's change may be published in place of the set: what is live stays live, or is the slot that the line moves or
-- deletes; they differ at one ID at most; no two slots meet; and its slots are those.
pub record Publishes (z : Sizes) (pool : ℕ → ℕ) (set page : ℕ) (command : Command) (slots : MemorySlots) : Type 0 where
  pub stay : (id : ℕ) (slot : Slot) → IsLiveIn pool set id slot → IsLiveIn pool page id slot ⊎ (slot_invalidated slots command ≡ Some slot)
  pub changed : ℕ
  pub others : AreAlikeBut pool set page changed
  pub set_part : (role : ℕ → ℕ) → role page ≡ set_role → SlotSetPart z set role pool → SlotSetPart z page role pool
  pub list : slots_after command slots ≡ memory_slots_below pool page 32

-- So it is where a slot is put at an ID that fits there.
slot_put : (z : Sizes) (pool : ℕ → ℕ) (set page id : ℕ) (m : MemorySlot) (command : Command) (slots : MemorySlots) → RecordPart pool set slots → id ≤ 31
    → ((j : ℕ) → j < 512 → pool (pool_index page j) ≡ set_word (slots_after command slots) j) → slot_of_id id (slots_after command slots) ≡ Some m
    → ((i : ℕ) → i ≢ id → slot_of_id i (slots_after command slots) ≡ slot_of_id i slots) → slots_after command slots ≡ with_slot_at id m slots
    → ((role : ℕ → ℕ) → SlotSetPart z set role pool → MayBeSet z pool set id m.slot)
    → ((i : ℕ) (slot : Slot) → IsLiveIn pool set i slot → IsLiveIn pool page i slot ⊎ (slot_invalidated slots command ≡ Some slot))
    → Publishes z pool set page command slots
slot_put z pool set page id m command slots R low filled at_id at_other is may stay = record {
  stay = stay;
  changed = id;
  others = alike_but pool set page id slots (slots_after command slots) R filled at_other;
  set_part = λ role role_is part.
      set_with z pool set page id m.slot (may role part) (new_slot pool set page id m slots (slots_after command slots) R low filled at_id at_other)
      (others_live pool set page id slots (slots_after command slots) R filled at_other)
      (others_same pool set page id slots (slots_after command slots) R filled at_other) role role role_is part;
  list =
      is ∙ ap (with_slot_at id m) R.same ∙ sym (list_with pool set page id m slots (slots_after command slots) R low filled at_id at_other);
}

slot_published : (z : Sizes) (pool : ℕ → ℕ) (set page id : ℕ) (slot : Slot) (slots : MemorySlots) → RecordPart pool set slots → MayBeSet z pool set id slot
    → ((j : ℕ) → j < 512 → pool (pool_index page j) ≡ set_word (slots_after (SetSlot id slot) slots) j) → Publishes z pool set page (SetSlot id slot) slots
slot_published z pool set page id slot slots R may filled =
    slot_put z pool set page id (record { slot = slot; logged = is_logged id slots }) (SetSlot id slot) slots R may.low filled
    (set_here id (record { slot = slot; logged = is_logged id slots }) slots) (set_other id slot slots) refl (λ role part. may)
    (has_others pool set page id slots (after_set id slot slots) R filled (set_other id slot slots))

-- A slot of the set fits there again.
may_stay : (z : Sizes) (pool : ℕ → ℕ) (set id : ℕ) (slot : Slot) (role : ℕ → ℕ) → IsLiveIn pool set id slot → SlotSetPart z set role pool
    → MayBeSet z pool set id slot
may_stay z pool set id slot role L part = record {
  low = L.low;
  fits = subst (Fits z) L.is (part.slots.fits id L.low L.live);
  guest_apart = λ gfn j low apart live holds too.
      apart (part.slots.guest_apart gfn j id low L.low live L.live holds (ap (contains gfn) L.is ∙ too));
  host_apart = λ page j low apart live has too.
      apart (part.slots.host_apart page j id low L.low live L.live has (ap (has_host_page page) L.is ∙ too));
}

-- So it is where a slot is given a dirty log, or loses it: each slot stays.
slot_logged : (z : Sizes) (pool : ℕ → ℕ) (set page id : ℕ) (on : Bool) (was : MemorySlot) (slots : MemorySlots) → RecordPart pool set slots
    → slot_of_id id slots ≡ Some was
    → ((j : ℕ) → j < 512 → pool (pool_index page j) ≡ set_word (slots_after (SetLog id on) slots) j) → Publishes z pool set page (SetLog id on) slots
slot_logged z pool set page id on was slots R is filled =
    slot_put z pool set page id m (SetLog id on) slots R L.low filled at_id (log_other id on slots)
    (ap (λ x. after_change (Some (id, logged_so on x)) slots) is)
    (λ role part. may_stay z pool set id was.slot role L part) stay
  where
    m : MemorySlot
    m = record { slot = was.slot; logged = on }

    L : IsLiveIn pool set id was.slot
    L = recorded_live pool set id slots was R is

    at_id : slot_of_id id (slots_after (SetLog id on) slots) ≡ Some m
    at_id = log_here id on slots ∙ ap (logged_so on) is

    stay : (i : ℕ) (slot : Slot) → IsLiveIn pool set i slot → IsLiveIn pool page i slot ⊎ (slot_invalidated slots (SetLog id on) ≡ Some slot)
    stay i slot S = inl (by (same_or i id))
      where
        by : (i ≡ id) ⊎ (i ≢ id) → IsLiveIn pool page i slot
        by (inl e) =
            let here = ap (slot_at pool set) e in
            subst (λ k. IsLiveIn pool page k slot) (sym e) (record {
              low = L.low;
              live = new_live pool set page id m slots (slots_after (SetLog id on) slots) R L.low filled at_id (log_other id on slots);
              is = new_slot pool set page id m slots (slots_after (SetLog id on) slots) R L.low filled at_id (log_other id on slots)
                  ∙ sym L.is ∙ sym here ∙ S.is;
            })
        by (inr apart) = (alike_but pool set page id slots (slots_after (SetLog id on) slots) R filled (log_other id on slots) i slot apart).0 S

slot_deleted : (z : Sizes) (pool : ℕ → ℕ) (set page id : ℕ) (slots : MemorySlots) → RecordPart pool set slots → id ≤ 31
    → ((j : ℕ) → j < 512 → pool (pool_index page j) ≡ set_word (slots_after (DeleteSlot id) slots) j) → Publishes z pool set page (DeleteSlot id) slots
slot_deleted z pool set page id slots R low filled = record {
  stay = has_others pool set page id slots (without_slot_at id slots) R filled (taken_other id slots);
  changed = id;
  others = alike_but pool set page id slots (without_slot_at id slots) R filled (taken_other id slots);
  set_part = λ role role_is part.
      set_without z pool set page id (none_at_id pool set page id slots R low filled)
      (others_live pool set page id slots (without_slot_at id slots) R filled (taken_other id slots))
      (others_same pool set page id slots (without_slot_at id slots) R filled (taken_other id slots)) role role role_is part;
  list = ap (without_slot_at id) R.same ∙ sym (list_without pool set page id slots R low filled);
}

-- So it is of the page that the line owns and has filled, where the line has something to do.
pub change_publishes : (z : Sizes) (v : View) (a : ℕ) (line : Line) (command : Command) (p : Place) → IsStep z v a line command p
    → changes_slot command ≡ true → Invariant z v → OwnsSet (v.hand a).topics → change_at_once z command (v.hand a).slots ≡ None
    → IsFilledWith (v.words area.Pool) (slots_after command (v.hand a).slots) (v.hand a).topics.owned
    → Publishes z (v.words area.Pool) (v.words area.Slots 0) (page_owned (v.hand a).topics.owned) command (v.hand a).slots
change_publishes z v a line (Access gfn word op) p S changes I owns works filled = absurd (cc changes)
change_publishes z v a line (ChangeHost page change) p S changes I owns works filled = absurd (cc changes)
change_publishes z v a line (ChangeRun page change) p S changes I owns works filled = absurd (cc changes)
change_publishes z v a line (SetSlot id slot) p S changes I owns works filled =
    let R = recorded_at z v a line (SetSlot id slot) p S changes I in
    slot_published z (v.words area.Pool) (v.words area.Slots 0) (page_owned (v.hand a).topics.owned) id slot (v.hand a).slots R
    (may_be_set z (v.words area.Pool) (v.words area.Slots 0) id slot (v.hand a).slots R (none_refused z (SetSlot id slot) (v.hand a).slots works))
    (filled_page (v.words area.Pool) (slots_after (SetSlot id slot) (v.hand a).slots) (v.hand a).topics owns filled)
change_publishes z v a line (DeleteSlot id) p S changes I owns works filled =
    let R = recorded_at z v a line (DeleteSlot id) p S changes I in
    slot_deleted z (v.words area.Pool) (v.words area.Slots 0) (page_owned (v.hand a).topics.owned) id (v.hand a).slots R
    (deletion_low id (v.hand a).slots (none_refused z (DeleteSlot id) (v.hand a).slots works))
    (filled_page (v.words area.Pool) (slots_after (DeleteSlot id) (v.hand a).slots) (v.hand a).topics owns filled)
change_publishes z v a line (SetLog id on) p S changes I owns works filled =
    let R = recorded_at z v a line (SetLog id on) p S changes I in
    let was = logged_there id on (v.hand a).slots (none_refused z (SetLog id on) (v.hand a).slots works) in
    slot_logged z (v.words area.Pool) (v.words area.Slots 0) (page_owned (v.hand a).topics.owned) id on was.slot (v.hand a).slots R was.is
    (filled_page (v.words area.Pool) (slots_after (SetLog id on) (v.hand a).slots) (v.hand a).topics owns filled)
change_publishes z v a line (GetLog id) p S changes I owns works filled = absurd (cc changes)
change_publishes z v a line (Migrate call) p S changes I owns works filled = absurd (cc changes)
change_publishes z v a line (Split gfn) p S changes I owns works filled = absurd (cc changes)
change_publishes z v a line (ClearLog id first count words) p S changes I owns works filled = absurd (cc changes)

-- A slot of the record is live, and so it fits the machine.
pub recorded_fits : (z : Sizes) (pool : ℕ → ℕ) (set id : ℕ) (slots : MemorySlots) (was : MemorySlot) → RecordPart pool set slots → AreSlots z pool set
    → slot_of_id id slots ≡ Some was → Fits z was.slot
recorded_fits z pool set id slots was R A at =
    let L = recorded_live pool set id slots was R at in
    subst (Fits z) L.is (A.fits id L.low L.live)

-- What is so of the slot at an ID is so of some slot.
pub some_slot : (test : MemorySlot → Bool) (slots : MemorySlots) (id : ℕ) (m : MemorySlot) → slot_of_id id slots ≡ Some m → test m ≡ true
    → list_any (λ entry. test entry.1) slots ≡ true
some_slot test [] id m is so = absurd (cc is)
some_slot test ((k, n) ∷ es) id m is so = by (k == id) is (some_slot test es id m)
  where
    same : {x y : MemorySlot} → Some x ≡ Some y → x ≡ y
    same e = cc e

    second : (a b : Bool) → b ≡ true → (a || b) ≡ true
    second true b e = refl
    second false b e = e

    by : (b : Bool) → (if b then Some n else slot_of_id id es) ≡ Some m
        → (slot_of_id id es ≡ Some m → test m ≡ true → list_any (λ entry. test entry.1) es ≡ true)
        → (test n || list_any (λ entry. test entry.1) es) ≡ true
    by true e rest = ap (λ (b : Bool). b || list_any (λ entry. test entry.1) es) (ap test (same e) ∙ so)
    by false e rest = second (test n) _ (rest e so)

-- So is the slot that a line moves or deletes.
pub invalidated_live : (pool : ℕ → ℕ) (set : ℕ) (slots : MemorySlots) (command : Command) (slot : Slot) → RecordPart pool set slots
    → slot_invalidated slots command ≡ Some slot → (id : ℕ) × IsLiveIn pool set id slot
invalidated_live pool set slots command slot R is = by command is
  where
    at_id : (id : ℕ) (m : Option MemorySlot) → slot_of_id id slots ≡ m → option_map (λ was. was.slot) m ≡ Some slot → (id : ℕ) × IsLiveIn pool set id slot
    at_id id None at none = absurd (cc none)
    at_id id (Some was) at some = (id, subst (IsLiveIn pool set id) (same some) (recorded_live pool set id slots was R at))
      where
        same : {x y : Slot} → Some x ≡ Some y → x ≡ y
        same e = cc e

    by : (command : Command) → slot_invalidated slots command ≡ Some slot → (id : ℕ) × IsLiveIn pool set id slot
    by (Access gfn word op) is = absurd (cc is)
    by (ChangeHost page change) is = absurd (cc is)
    by (ChangeRun page change) is = absurd (cc is)
    by (SetSlot id new_) is = at_id id (slot_of_id id slots) refl is
    by (DeleteSlot id) is = at_id id (slot_of_id id slots) refl is
    by (SetLog id on) is = absurd (cc is)
    by (GetLog id) is = absurd (cc is)
    by (Migrate call) is = absurd (cc is)
    by (Split gfn) is = absurd (cc is)
    by (ClearLog id first count words) is = absurd (cc is)

pub invalidated_fits : (z : Sizes) (pool : ℕ → ℕ) (set : ℕ) (slots : MemorySlots) (command : Command) (slot : Slot) → RecordPart pool set slots
    → AreSlots z pool set → slot_invalidated slots command ≡ Some slot → Fits z slot
invalidated_fits z pool set slots command slot R A is =
    let L = (invalidated_live pool set slots command slot R is).1 in subst (Fits z) L.is (A.fits _ L.low L.live)

-- The slot whose dirty log a line begins fits the machine, too, and it has a page at least.
pub armed_fits : (z : Sizes) (pool : ℕ → ℕ) (set : ℕ) (lines : List Line) (slots : MemorySlots) (command : Command) (slot : Slot) → RecordPart pool set slots
    → AreSlots z pool set → All (λ line. IsCommandFor z line.actor line.command) lines → All (IsSetBy lines) slots → slot_armed slots command ≡ Some slot
    → Fits z slot × (1 ≤ slot.pages)
armed_fits z pool set lines slots command slot R A allowed by_lines is = by command is
  where
    at_id : (id : ℕ) (m : Option MemorySlot) → slot_of_id id slots ≡ m → option_map (λ was. was.slot) m ≡ Some slot → Fits z slot × (1 ≤ slot.pages)
    at_id id None at none = absurd (cc none)
    at_id id (Some was) at some =
        subst (λ (s : Slot). Fits z s × (1 ≤ s.pages)) (same some) (
          recorded_fits z pool set id slots was R A at,
          record_is_so (λ s. 1 ≤ s.pages) has_page z lines slots allowed by_lines id was at,
        )
      where
        same : {x y : Slot} → Some x ≡ Some y → x ≡ y
        same e = cc e

    by : (command : Command) → slot_armed slots command ≡ Some slot → Fits z slot × (1 ≤ slot.pages)
    by (SetLog id true) is = at_id id (slot_of_id id slots) refl is
    by (SetLog id false) is = absurd (cc is)
    by (Access gfn word op) is = absurd (cc is)
    by (ChangeHost page change) is = absurd (cc is)
    by (ChangeRun page change) is = absurd (cc is)
    by (SetSlot id new_) is = absurd (cc is)
    by (DeleteSlot id) is = absurd (cc is)
    by (GetLog id) is = absurd (cc is)
    by (Migrate call) is = absurd (cc is)
    by (Split gfn) is = absurd (cc is)
    by (ClearLog id first count words) is = absurd (cc is)
