-- After a lawful history each dirty frame is in a slot whose writes are logged, since the slots of a lawful history have no guest frame in common.
use Rattle.std.proofs.Common.{◌≡◌, ◌≢◌, ◌⊎◌, inl, inr, ◌==◌, ◌&&◌, ◌||◌, ℕ, Bool, true, false, not, List, [], ◌∷◌, refl, sym, ap, ◌∙◌, subst}
use Rattle.std.proofs.lemmas.Bool.{and_parts, eq-eqb, eqb-true, ne_eqb, or_cases, or_left, or_right}
use Rattle.std.proofs.lemmas.Option.{same_Some}
use Rattle.std.specs.Option.{option_map}
use Rattle.std.specs.Prelude.{if◌then◌else◌, Option, Some, None}
use Rattle.core_views.specs.declared.actor.Actor.{Actor}
use Rattle.core_views.specs.declared.event.Event.{Event}
use Rattle.core_views.specs.declared.event.EventKind.{EventKind}
use Rattle.core_views.specs.declared.event.EventKind.TheVariants.{Accessed, Armed, BroughtIn, Harvested, HostChanged, SlotChanged}
use Rattle.core_views.specs.declared.answer.Refusal.{Refusal}
use Rattle.core_views.specs.declared.sizes.Sizes.{Sizes}
use Rattle.core_views.specs.declared.memory_slot.MemorySlot.{MemorySlot}
use Rattle.core_views.specs.declared.trace.Command.{Command}
use Rattle.core_views.specs.declared.trace.Command.TheVariants.{Access, ChangeHost, ChangeRun, ClearLog, DeleteSlot, GetLog, Migrate, SetLog, SetSlot, Split}
use Rattle.core_views.specs.declared.trace.Op.{Op}
use Rattle.core_views.specs.Slots.{contains, is_some_and, is_write}
use Rattle.core_views.specs.SlotCommands.{at_once, is_unchanged, refused_or_done, slot_change}
use Rattle.core_views.specs.SlotSets.{slot_holding, slot_of_id}
use Rattle.core_views.specs.Refusals.{is_logged, set_refusal}
use Rattle.core_views.specs.LogCommands.{is_among}
use Rattle.core_views.specs.Past.{Past, has_gfn}
use Rattle.core_views.specs.Flat.{Facts, Flat, LineUnderWay, first_flat}
use Rattle.core_views.specs.Events.{after, after_all, facts_after, is_armed}
use Rattle.core_views.specs.declared.event.EventKind.TheVariants.{GuestStopped, MigrationStarted, PauseSet, Resumed, WordCopied}
use Rattle.core_views.specs.Lawful.{IsAllowed, IsLawful, HasWork}
use Rattle.core_views.proofs.Barred.{unbarred}
use Rattle.core_views.proofs.Sound.{passes}
use Rattle.flat_laws.proofs.SlotsApart.{Apart, FitsAt, RisesFrom, changed_apart, changed_elsewhere, changed_rises, holding_stands, meets_none, stands_held}

-- The frame is in a slot whose writes are logged.
pub record IsInArmed (f : Facts) (gfn : ℕ) : Type 0 where
  pub id : ℕ
  pub slot : MemorySlot
  pub there : slot_of_id id f.slots ≡ Some slot
  pub has : contains gfn slot.slot ≡ true
  pub armed : f.armed id ≡ true

pub record AreArmed (f : Facts) : Type 0 where
  pub rising : RisesFrom 0 f.slots
  pub apart : Apart f.slots
  pub armed : (gfn : ℕ) → f.pending gfn ≡ true → IsInArmed f gfn

-- the two ways to say it

pub found_armed : (f : Facts) (gfn : ℕ) → RisesFrom 0 f.slots → is_armed f.slots f.armed gfn ≡ true → IsInArmed f gfn
found_armed f gfn rising is = by (slot_holding gfn f.slots) refl is
  where
    by : (o : Option (ℕ × MemorySlot)) → slot_holding gfn f.slots ≡ o → is_some_and (λ (entry : ℕ × MemorySlot). f.armed entry.0) o ≡ true → IsInArmed f gfn
    by None holds on = absurd (cc on)
    by (Some (j, m)) holds on =
        let S = holding_stands 0 gfn j m f.slots rising holds in record { id = j; slot = m; there = S.there; has = S.has; armed = on }

pub armed_found : (f : Facts) (gfn : ℕ) → RisesFrom 0 f.slots → Apart f.slots → IsInArmed f gfn → is_armed f.slots f.armed gfn ≡ true
armed_found f gfn rising apart A = by (stands_held gfn A.id A.slot f.slots A.there A.has)
  where
    by : (e : ℕ × MemorySlot) × (slot_holding gfn f.slots ≡ Some e) → is_armed f.slots f.armed gfn ≡ true
    by ((j, m), holds) =
        let S = holding_stands 0 gfn j m f.slots rising holds in
        let same : j ≡ A.id = apart gfn j A.id m A.slot S.there A.there S.has A.has in
        ap (is_some_and (λ (entry : ℕ × MemorySlot). f.armed entry.0)) holds ∙ ap f.armed same ∙ A.armed

-- The slot that a lawful change sets has no guest frame of another one.

none_set : (r : Option Refusal) (same : Bool) → option_map refused_or_done (at_once r same) ≡ None → r ≡ None
none_set (Some refusal) same e = absurd (cc e)
none_set None same e = refl

fits : (z : Sizes) (f : Facts) (actor : Actor) (command : Command) (id : ℕ) (slot : Option MemorySlot) → Apart f.slots → HasWork z f actor command
    → slot_change f.slots command ≡ Some (id, slot) → FitsAt id slot f.slots
fits z f actor (Access gfn word op) id slot apart works is = absurd (cc is)
fits z f actor (ChangeHost page change) id slot apart works is = absurd (cc is)
fits z f actor (ChangeRun page change) id slot apart works is = absurd (cc is)
fits z f actor (GetLog i) id slot apart works is = absurd (cc is)
fits z f actor (ClearLog i first count words) id slot apart works is = absurd (cc is)
fits z f actor (Migrate call) id slot apart works is = absurd (cc is)
fits z f actor (Split gfn) id slot apart works is = absurd (cc is)
fits z f actor (DeleteSlot i) id slot apart works is =
    subst (λ (o : Option MemorySlot). FitsAt id o f.slots) (ap (λ (change : ℕ × Option MemorySlot). change.1) (same_Some (i, None) (id, slot) is))
    (λ gfn j n ne at has here. absurd (cc here))
fits z f actor (SetSlot i s) id slot apart works is =
    let made : Option MemorySlot = Some (record { slot = s; logged = is_logged i f.slots }) in
    let same : ◌≡◌ {A = ℕ × Option MemorySlot} (i, made) (id, slot) = same_Some (i, made) (id, slot) is in
    subst (λ (change : ℕ × Option MemorySlot). FitsAt change.0 change.1 f.slots) same
    (meets_none i s (is_logged i f.slots) f.slots
    (passes z.pages i s f.slots (none_set (set_refusal z.pages i s f.slots) (is_unchanged (SetSlot i s) f.slots) (unbarred _ _ works).1)).guest)
fits z f actor (SetLog i on) id slot apart works is = subst (λ (change : ℕ × Option MemorySlot). FitsAt change.0 change.1 f.slots) same keeps
  where
    made : Option MemorySlot
    made = option_map (λ was. record { slot = was.slot; logged = on }) (slot_of_id i f.slots)

    same : ◌≡◌ {A = ℕ × Option MemorySlot} (i, made) (id, slot)
    same = same_Some (i, made) (id, slot) is

    keeps : FitsAt i made f.slots
    keeps gfn j n ne at has here = by (slot_of_id i f.slots) refl here
      where
        by : (o : Option MemorySlot) → slot_of_id i f.slots ≡ o
            → has_gfn (option_map (λ was. record { slot = was.slot; logged = on }) o) gfn ≡ true → ⊥
        by None was in_it = absurd (cc in_it)
        by (Some m) was in_it = ne (apart gfn j i n m at was has in_it)

-- One event.

not_id : (id j : ℕ) (on : Bool) → j ≢ id → on ≡ true → (not (id == j) && on) ≡ true
not_id id j on ne is = ap (λ b. not b && on) (ne_eqb id j (λ e. ne (sym e))) ∙ is

both_out : (a b p : Bool) → (not (a || b) && p) ≡ true → (a ≡ false) × (p ≡ true)
both_out true b p e = absurd (cc e)
both_out false true p e = absurd (cc e)
both_out false false p e = (refl, e)

-- It keeps the slots and what is armed, and makes no frame dirty.
kept_armed : (f g : Facts) → f.slots ≡ g.slots → ◌≡◌ {A = ℕ → Bool} f.armed g.armed → ((gfn : ℕ) → g.pending gfn ≡ true → f.pending gfn ≡ true) → AreArmed f
    → AreArmed g
kept_armed f g slots armed fewer A = record {
  rising = subst (RisesFrom 0) slots A.rising;
  apart = subst Apart slots A.apart;
  armed =
      λ gfn is. let I = A.armed gfn (fewer gfn is) in
      record {
        id = I.id;
        slot = I.slot;
        there = ap (slot_of_id I.id) (sym slots) ∙ I.there;
        has = I.has;
        armed = ap (λ (on : ℕ → Bool). on I.id) (sym armed) ∙ I.armed;
      };
}

accessed_armed : (f : Facts) (gfn word : ℕ) (op : Op) (frame before : ℕ) → AreArmed f → AreArmed (facts_after (Accessed gfn word op frame before) f)
accessed_armed f gfn word op frame before A = record { rising = A.rising; apart = A.apart; armed = each }
  where
    moved : (g : ℕ) → IsInArmed f g → IsInArmed (facts_after (Accessed gfn word op frame before) f) g
    moved g I = record { id = I.id; slot = I.slot; there = I.there; has = I.has; armed = I.armed }

    by : (g : ℕ) → (((is_armed f.slots f.armed gfn && is_write op) && (gfn == g)) ≡ true) ⊎ (f.pending g ≡ true) → IsInArmed f g
    by g (inl now_) =
        let outer = and_parts (is_armed f.slots f.armed gfn && is_write op) (gfn == g) now_ in
        let logged = and_parts (is_armed f.slots f.armed gfn) (is_write op) outer.0 in
        subst (IsInArmed f) (eqb-true gfn g outer.1) (found_armed f gfn A.rising logged.0)
    by g (inr was) = A.armed g was

    each : (g : ℕ) → (facts_after (Accessed gfn word op frame before) f).pending g ≡ true → IsInArmed (facts_after (Accessed gfn word op frame before) f) g
    each g is = moved g (by g (or_cases ((is_armed f.slots f.armed gfn && is_write op) && (gfn == g)) (f.pending g) is))

changed_armed : (z : Sizes) (f : Facts) (actor : Actor) (command : Command) (id : ℕ) (slot : Option MemorySlot) → HasWork z f actor command
    → slot_change f.slots command ≡ Some (id, slot) → AreArmed f → AreArmed (facts_after (SlotChanged id slot) f)
changed_armed z f actor command id slot works is A = record {
  rising = changed_rises id slot f.slots A.rising;
  apart = changed_apart id slot f.slots (fits z f actor command id slot A.apart works is) A.apart;
  armed = each;
}
  where
    apart_from : (gfn : ℕ) → has_gfn (slot_of_id id f.slots) gfn ≡ false → (I : IsInArmed f gfn) → I.id ≢ id
    apart_from gfn gone I same =
        let here : has_gfn (slot_of_id id f.slots) gfn ≡ true =
        ap (λ i. has_gfn (slot_of_id i f.slots) gfn) (sym same) ∙ ap (λ (o : Option MemorySlot). has_gfn o gfn) I.there ∙ I.has in
        absurd (cc (here, gone))

    each : (gfn : ℕ) → (facts_after (SlotChanged id slot) f).pending gfn ≡ true → IsInArmed (facts_after (SlotChanged id slot) f) gfn
    each gfn dirty =
        let out = both_out (has_gfn (slot_of_id id f.slots) gfn) (has_gfn slot gfn) (f.pending gfn) dirty in
        let I = A.armed gfn out.1 in
        let ne = apart_from gfn out.0 I in
        record {
          id = I.id;
          slot = I.slot;
          there = changed_elsewhere id I.id slot f.slots ne ∙ I.there;
          has = I.has;
          armed = not_id id I.id (f.armed I.id) ne I.armed;
        }

begun_armed : (f : Facts) (id : ℕ) (all : Bool) → AreArmed f → AreArmed (facts_after (Armed id all) f)
begun_armed f id all A = record { rising = A.rising; apart = A.apart; armed = each }
  where
    by : (gfn : ℕ) (o : Option MemorySlot) → slot_of_id id f.slots ≡ o → (b : Bool) → has_gfn o gfn ≡ b → (if b then all else f.pending gfn) ≡ true
        → IsInArmed (facts_after (Armed id all) f) gfn
    by gfn None at true has dirty = absurd (cc has)
    by gfn (Some m) at true has dirty =
        record { id = id; slot = m; there = at; has = has; armed = or_left (id == id) (f.armed id) (eq-eqb id id refl) }
    by gfn o at false has dirty =
        let I = A.armed gfn dirty in
        record { id = I.id; slot = I.slot; there = I.there; has = I.has; armed = or_right (id == I.id) (f.armed I.id) I.armed }

    each : (gfn : ℕ) → (facts_after (Armed id all) f).pending gfn ≡ true → IsInArmed (facts_after (Armed id all) f) gfn
    each gfn dirty = by gfn (slot_of_id id f.slots) refl (has_gfn (slot_of_id id f.slots) gfn) refl dirty

pub armed_after : (z : Sizes) (f : Facts) (past : Past) (actor : Actor) (u : LineUnderWay) (kind : EventKind) → IsAllowed z f past actor u kind → AreArmed f
    → AreArmed (facts_after kind f)
armed_after z f past actor u (Accessed gfn word op frame before) may A = accessed_armed f gfn word op frame before A
armed_after z f past actor u (SlotChanged id slot) may A = changed_armed z f actor u.line.command id slot may.1 may.2 A
armed_after z f past actor u (Armed id all) may A = begun_armed f id all A
armed_after z f past actor u (Harvested id frames) may A =
    kept_armed f (facts_after (Harvested id frames) f) refl refl (λ gfn is. (and_parts (not (is_among gfn frames)) (f.pending gfn) is).1) A
armed_after z f past actor u (BroughtIn page) may A = kept_armed f (facts_after (BroughtIn page) f) refl refl (λ gfn is. is) A
armed_after z f past actor u (HostChanged page entry) may A = kept_armed f (facts_after (HostChanged page entry) f) refl refl (λ gfn is. is) A
armed_after z f past actor u MigrationStarted may A = kept_armed f (facts_after MigrationStarted f) refl refl (λ gfn is. is) A
armed_after z f past actor u PauseSet may A = kept_armed f (facts_after PauseSet f) refl refl (λ gfn is. is) A
armed_after z f past actor u GuestStopped may A = kept_armed f (facts_after GuestStopped f) refl refl (λ gfn is. is) A
armed_after z f past actor u (WordCopied gfn page word value whole) may A =
    kept_armed f (facts_after (WordCopied gfn page word value whole) f) refl refl (λ gfn is. is) A
armed_after z f past actor u Resumed may A = kept_armed f (facts_after Resumed f) refl refl (λ gfn is. is) A
armed_after z f past actor u _ may A = A

pub all_armed : (z : Sizes) (history : List Event) (f : Flat) → IsLawful z f history → AreArmed f.facts → AreArmed (after_all history f).facts
all_armed z [] f lawful A = A
all_armed z (e ∷ es) f lawful A =
    all_armed z es (after e f) lawful.1 (armed_after z f.facts f.past e.actor (f.under e.actor) e.kind lawful.0 A)

pub first_armed : AreArmed first_flat.facts
first_armed = record { rising = tt; apart = λ gfn i j m n at_i at_j has_m has_n. absurd (cc at_i); armed = λ gfn is. absurd (cc is) }
