-- Which slot line changes what, from its row of refusals and from what it sets.
use Rattle.std.proofs.Common.{◌≡◌, ◌≢◌, ◌⊎◌, inl, inr, ℕ, Bool, true, false, not, List, [], ◌∷◌, refl, sym, subst, ap, ◌∙◌}
use Rattle.std.proofs.lemmas.Bool.{cases_eq, eq-eqb, eqb-true, or_parts}
use Rattle.std.specs.Bool.{beq}
use Rattle.std.specs.Prelude.{◌==◌, ◌&&◌, Option, Some, None, if◌then◌else◌, is_none, nat_lt}
use Rattle.std.specs.Option.{option_map}
use Rattle.core_views.specs.declared.answer.Refusal.{Refusal}
use Rattle.core_views.specs.declared.answer.Refusal.TheVariants.{BadId, TooLarge, Missing, Logged, NoLog, Resize, Fixed, Overlap, HostOverlap}
use Rattle.core_views.specs.declared.memory_slot.MemorySlot.{MemorySlot}
use Rattle.core_views.specs.declared.trace.Command.TheVariants.{Access, ChangeHost, ChangeRun, ClearLog, DeleteSlot, GetLog, Migrate, SetLog, SetSlot, Split}
use Rattle.core_views.specs.declared.trace.Slot.{Slot}
use Rattle.core_views.specs.Refusals.{is_logged, log_refusal, moves_logged, set_refusal}
use Rattle.core_views.specs.SlotCommands.{at_once, is_unchanged, slots_after, stays}
use Rattle.slot_laws.specs.SlotRules.{DeletionsAreOfSlots, DoneAtOnceChangesNone, SetSlotsKeepShapes, WorkChangesOne}
use Rattle.core_views.specs.Slots.{changes_fixed, first_of, is_some_and, is_too_large, meets_guest_frames, meets_host_pages, resizes, slot_with_id}
use Rattle.core_views.specs.SlotSets.{MemorySlots, flat_slots, slot_of_id, with_slot_at}
use Rattle.core_views.proofs.FlatSlots.{flat_at}
use Rattle.core_views.proofs.SlotChanges.{logged_there}
use Rattle.core_views.proofs.SlotLines.{log_here, logged_so, set_elsewhere, set_here, taken_at}
use Rattle.core_views.proofs.Sound.{deletion_low}

-- No row holds.
abbrev NoneHolds : List (Bool × Refusal) → Type 0
NoneHolds [] = Unit {0}
NoneHolds ((holds, refusal) ∷ rows) = (holds ≡ false) × NoneHolds rows

none_holds : (rows : List (Bool × Refusal)) → first_of rows ≡ None → NoneHolds rows
none_holds [] e = tt
none_holds ((true, refusal) ∷ rows) e = absurd (cc e)
none_holds ((false, refusal) ∷ rows) e = (refl, none_holds rows e)

is_not : (b : Bool) → not b ≡ false → b ≡ true
is_not true e = refl
is_not false e = absurd (cc e)

same_flag : (x y : Bool) → beq x y ≡ true → x ≡ y
same_flag true true e = refl
same_flag false false e = refl
same_flag true false e = absurd (cc e)
same_flag false true e = absurd (cc e)

same_some : {x y : MemorySlot} → Some x ≡ Some y → x ≡ y
same_some e = cc e

-- The slot at an ID, without its dirty log.
flat_some : (id : ℕ) (slots : MemorySlots) (was : MemorySlot) → slot_of_id id slots ≡ Some was → slot_with_id id (flat_slots slots) ≡ Some was.slot
flat_some id slots was at = flat_at id slots ∙ ap (option_map (λ (m : MemorySlot). m.slot)) at

logged_base : (logged same : Bool) → (logged && not same) ≡ false → logged ≡ true → same ≡ true
logged_base true true e is = refl
logged_base true false e is = absurd (cc e)
logged_base false same e is = absurd (cc is)

pub keeps_shapes : SetSlotsKeepShapes
keeps_shapes total id slot slots was accepted at = record {
  pages = sym (eqb-true was.slot.pages slot.pages (is_not (was.slot.pages == slot.pages) resized));
  host = sym (eqb-true was.slot.host slot.host (is_not (was.slot.host == slot.host) fixed.0));
  read_only = sym (same_flag was.slot.read_only slot.read_only (is_not (beq was.slot.read_only slot.read_only) fixed.1));
  logged = λ is. sym (eqb-true was.slot.base slot.base (logged_base was.logged (was.slot.base == slot.base) moved is));
}
  where
    rows : List (Bool × Refusal)
    rows = (nat_lt 31 id, BadId)
        ∷ (is_too_large total slot, TooLarge)
        ∷ (is_some_and (resizes slot) (slot_with_id id (flat_slots slots)), Resize)
        ∷ (is_some_and (changes_fixed slot) (slot_with_id id (flat_slots slots)), Fixed)
        ∷ (is_some_and (moves_logged slot) (slot_of_id id slots), Logged)
        ∷ (meets_guest_frames id slot (flat_slots slots), Overlap)
        ∷ (meets_host_pages id slot (flat_slots slots), HostOverlap)
        ∷ []

    N : NoneHolds rows
    N = none_holds rows accepted

    resized : resizes slot was.slot ≡ false
    resized = sym (ap (is_some_and (resizes slot)) (flat_some id slots was at)) ∙ N.1.1.0

    fixed : (not (was.slot.host == slot.host) ≡ false) × (not (beq was.slot.read_only slot.read_only) ≡ false)
    fixed =
        or_parts (not (was.slot.host == slot.host)) (not (beq was.slot.read_only slot.read_only))
        (sym (ap (is_some_and (changes_fixed slot)) (flat_some id slots was at)) ∙ N.1.1.1.0)

    moved : (was.logged && not (was.slot.base == slot.base)) ≡ false
    moved = sym (ap (is_some_and (moves_logged slot)) at) ∙ N.1.1.1.1.0

pub deletions_are_of_slots : DeletionsAreOfSlots
deletions_are_of_slots id slots accepted = (deletion_low id slots accepted, by (slot_of_id id slots) refl N.1.0 N.1.1.0)
  where
    rows : List (Bool × Refusal)
    rows = (nat_lt 31 id, BadId) ∷ (is_none (slot_of_id id slots), Missing) ∷ (is_logged id slots, Logged) ∷ []

    N : NoneHolds rows
    N = none_holds rows accepted

    by : (m : Option MemorySlot) → slot_of_id id slots ≡ m → is_none (slot_of_id id slots) ≡ false → is_logged id slots ≡ false
        → (was : MemorySlot) × (slot_of_id id slots ≡ Some was) × (was.logged ≡ false)
    by None at there unlogged = let gone = sym (ap is_none at) ∙ there in absurd (cc gone)
    by (Some was) at there unlogged = (was, at, sym (ap (is_some_and (λ (m : MemorySlot). m.logged)) at) ∙ unlogged)

-- ---- told at once, or not

done : (r : Option Refusal) (same : Bool) → at_once r same ≡ Some None → (r ≡ None) × (same ≡ true)
done (Some refusal) same e = absurd (cc e)
done None true e = (refl, refl)
done None false e = absurd (cc e)

works : (r : Option Refusal) (same : Bool) → at_once r same ≡ None → (r ≡ None) × (same ≡ false)
works (Some refusal) same e = absurd (cc e)
works None true e = absurd (cc e)
works None false e = (refl, refl)

-- Where a slot is set as it is, the slot at its ID is this one.
record IsThere (id : ℕ) (slot : Slot) (slots : MemorySlots) : Type 0 where
  was : MemorySlot
  at : slot_of_id id slots ≡ Some was
  base : slot.base ≡ was.slot.base

is_there : (id : ℕ) (slot : Slot) (slots : MemorySlots) → is_unchanged (SetSlot id slot) slots ≡ true → IsThere id slot slots
is_there id slot slots same = by (slot_of_id id slots) refl
  where
    by : (m : Option MemorySlot) → slot_of_id id slots ≡ m → IsThere id slot slots
    by None at =
        let none = sym (ap (is_some_and (stays slot)) (flat_at id slots ∙ ap (option_map (λ (m : MemorySlot). m.slot)) at)) ∙ same in absurd (cc none)
    by (Some was) at = record {
      was = was;
      at = at;
      base = sym (eqb-true was.slot.base slot.base (sym (ap (is_some_and (stays slot)) (flat_some id slots was at)) ∙ same));
    }

set_as_it_is : (total id : ℕ) (slot : Slot) (slots : MemorySlots) → set_refusal total id slot slots ≡ None → IsThere id slot slots
    → Some (record { slot = slot; logged = is_logged id slots }) ≡ slot_of_id id slots
set_as_it_is total id slot slots accepted T =
    let S = keeps_shapes total id slot slots T.was accepted T.at in
    let same : slot ≡ T.was.slot = λ i. record { base = T.base i; pages = S.pages i; host = S.host i; read_only = S.read_only i } in
    let logged : is_logged id slots ≡ T.was.logged = ap (is_some_and (λ (m : MemorySlot). m.logged)) T.at in
    let one : record { slot = slot; logged = is_logged id slots } ≡ T.was = λ i. record { slot = same i; logged = logged i } in
    ap Some one ∙ sym T.at

pub done_changes_none : DoneAtOnceChangesNone
done_changes_none z (Access gfn word op) slots told i = absurd (cc told)
done_changes_none z (ChangeHost page change) slots told i = absurd (cc told)
done_changes_none z (ChangeRun page change) slots told i = absurd (cc told)
done_changes_none z (Migrate call) slots told i = absurd (cc told)
done_changes_none z (Split gfn) slots told i = absurd (cc told)
done_changes_none z (SetSlot id slot) slots told i = by (cases_eq i id)
  where
    D : (set_refusal z.pages id slot slots ≡ None) × (is_unchanged (SetSlot id slot) slots ≡ true)
    D = done (set_refusal z.pages id slot slots) (is_unchanged (SetSlot id slot) slots) told

    by : (i ≡ id) ⊎ (i ≢ id) → slot_of_id i (with_slot_at id (record { slot = slot; logged = is_logged id slots }) slots) ≡ slot_of_id i slots
    by (inl e) =
        subst (λ k. slot_of_id k (with_slot_at id (record { slot = slot; logged = is_logged id slots }) slots) ≡ slot_of_id k slots) (sym e)
        (set_here id (record { slot = slot; logged = is_logged id slots }) slots
        ∙ set_as_it_is z.pages id slot slots D.0 (is_there id slot slots D.1))
    by (inr apart) = set_elsewhere id i (record { slot = slot; logged = is_logged id slots }) slots apart
done_changes_none z (DeleteSlot id) slots told i = absurd (let D = done _ false told in cc D.1)
done_changes_none z (SetLog id on) slots told i = absurd (let D = done _ false told in cc D.1)
done_changes_none z (GetLog id) slots told i = absurd (cc told)
done_changes_none z (ClearLog id first count words) slots told i = absurd (cc told)

-- A slot whose dirty log is to begin has none, and one whose log is to end has one.
log_moves : (on : Bool) (id : ℕ) (slots : MemorySlots) (was : MemorySlot) → log_refusal on id slots ≡ None → slot_of_id id slots ≡ Some was
    → was.logged ≡ on → ⊥
log_moves true id slots was accepted at same =
    let refused : log_refusal true id slots ≡ Some Logged = rw (at, same) refl in
    cc (refused, accepted)
log_moves false id slots was accepted at same =
    let refused : log_refusal false id slots ≡ Some NoLog = rw (at, same) refl in
    cc (refused, accepted)

pub work_changes_one : WorkChangesOne
work_changes_one z (Access gfn word op) slots is told = absurd (cc is)
work_changes_one z (ChangeHost page change) slots is told = absurd (cc is)
work_changes_one z (ChangeRun page change) slots is told = absurd (cc is)
work_changes_one z (Migrate call) slots is told = absurd (cc is)
work_changes_one z (Split gfn) slots is told = absurd (cc is)
work_changes_one z (SetSlot id slot) slots is told = (id, λ e. by (slot_of_id id slots) refl (sym (set_here id new_one slots) ∙ e))
  where
    W : (set_refusal z.pages id slot slots ≡ None) × (is_unchanged (SetSlot id slot) slots ≡ false)
    W = works (set_refusal z.pages id slot slots) (is_unchanged (SetSlot id slot) slots) told

    new_one : MemorySlot
    new_one = record { slot = slot; logged = is_logged id slots }

    by : (m : Option MemorySlot) → slot_of_id id slots ≡ m → Some new_one ≡ slot_of_id id slots → ⊥
    by None at e = let none = e ∙ at in absurd (cc none)
    by (Some was) at e =
        let base = ap (λ (m : MemorySlot). m.slot.base) (same_some (e ∙ at)) in
        let stays_there = ap (is_some_and (stays slot)) (flat_some id slots was at) ∙ eq-eqb was.slot.base slot.base (sym base) in
        absurd (let moves = W.1 in cc (stays_there, moves))
work_changes_one z (DeleteSlot id) slots is told =
    let W = works _ false told in
    let there = (deletions_are_of_slots id slots W.0).1 in
    (id, λ e. let gone = sym (gone_at (id == id) (eq-eqb id id refl)) ∙ (sym (taken_at id id slots) ∙ e) ∙ there.1 in absurd (cc gone))
  where
    gone_at : (here : Bool) → here ≡ true → (if here then None else slot_of_id id slots) ≡ None
    gone_at true e = refl
    gone_at false e = absurd (cc e)
work_changes_one z (SetLog id on) slots is told =
    let W = works _ false told in
    let was = logged_there id on slots W.0 in
    let after_it : slot_of_id id (slots_after (SetLog id on) slots) ≡ Some (record { slot = was.slot.slot; logged = on }) =
    log_here id on slots ∙ ap (logged_so on) was.is in (
      id,
      λ e. log_moves on id slots was.slot W.0 was.is (sym (ap (λ (m : MemorySlot). m.logged) (same_some (sym after_it ∙ e ∙ was.is)))),
    )
work_changes_one z (GetLog id) slots is told = absurd (cc is)
work_changes_one z (ClearLog id first count words) slots is told = absurd (cc is)
