-- After each history in which one actor alone manages, a slot whose writes are logged has a dirty log. So no line changes it but one that takes the log away.
use Rattle.std.proofs.Common.{◌≡◌, ◌≢◌, ◌⊎◌, inl, inr, ◌==◌, ◌&&◌, ◌||◌, ℕ, Bool, true, false, not, List, [], ◌∷◌, refl, sym, ap, ◌∙◌, subst}
use Rattle.std.specs.Prelude.{Option, Some, None, if◌then◌else◌, is_none}
use Rattle.std.specs.Option.{option_map}
use Rattle.std.proofs.lemmas.Bool.{and_parts, cases_eq, eq-eqb, eqb-true, or_cases}
use Rattle.std.proofs.lemmas.Option.{same_Some}
use Rattle.core_views.specs.declared.actor.Actor.{Actor}
use Rattle.core_views.specs.declared.answer.Refusal.{Refusal}
use Rattle.core_views.specs.declared.answer.Refusal.TheVariants.{Logged, Missing}
use Rattle.core_views.specs.declared.event.Event.{Event}
use Rattle.core_views.specs.declared.event.EventKind.{EventKind}
use Rattle.core_views.specs.declared.event.EventKind.TheVariants.{Armed, BroughtIn, GuestStopped, Harvested, LookedAtHost, LookedAtPause, LookedAtSlots}
use Rattle.core_views.specs.declared.event.EventKind.TheVariants.{HostChanged, SlotChanged, Taken, WordCopied}
use Rattle.core_views.specs.declared.memory_slot.MemorySlot.{MemorySlot}
use Rattle.core_views.specs.declared.sizes.Sizes.{Sizes}
use Rattle.core_views.specs.declared.trace.Command.{Command}
use Rattle.core_views.specs.declared.trace.Command.TheVariants.{Access, ChangeHost, ChangeRun, ClearLog, DeleteSlot, GetLog, Migrate, SetLog, SetSlot, Split}
use Rattle.core_views.specs.Actors.{is_same}
use Rattle.core_views.specs.Events.{after, after_all, facts_after, logs_left, stage_copied, stage_read, stage_taken, to_read_or_copy, under_after}
use Rattle.core_views.specs.Flat.{Facts, Flat, HasChanged, HasTakenNext, HasToCopy, LineUnderWay, Stage, first_flat}
use Rattle.core_views.specs.Lawful.{HasWork, IsAllowed, IsLawful}
use Rattle.core_views.specs.LogCommands.{log_read}
use Rattle.core_views.specs.Past.{Past, has_gfn}
use Rattle.core_views.specs.Refusals.{is_logged, log_refusal}
use Rattle.core_views.specs.SlotCommands.{change_at_once, refused_or_done, slot_change}
use Rattle.core_views.specs.Slots.{is_some_and}
use Rattle.core_views.specs.SlotSets.{MemorySlots, changed_slots, slot_of_id}
use Rattle.core_views.proofs.Barred.{unbarred}
use Rattle.core_views.proofs.SameActor.{same_is}
use Rattle.core_views.proofs.SlotChanges.{none_refused}
use Rattle.core_views.proofs.UnloggedSlots.{deleted_unlogged, set_anew}
use Rattle.flat_laws.specs.Images.{LeavesManaging, OnlyManages}
use Rattle.flat_laws.proofs.GuestLines.{IsGuests, IsOfGuests, guests_tell, stays_guests}
use Rattle.flat_laws.proofs.PendingArmed.{AreArmed, IsInArmed, armed_after, first_armed}
use Rattle.flat_laws.proofs.SlotsApart.{changed_elsewhere, changed_here}
use Rattle.flat_laws.proofs.Writes.{apart_actors}
use Rattle.core_views.proofs.RunStages.{each_change}

-- A slot whose writes are logged has a dirty log.
abbrev pub HaveLogs : Facts → Type 0
HaveLogs f = (id : ℕ) → f.armed id ≡ true → is_logged id f.slots ≡ true

-- A line that has given a slot a log, which has yet to begin: the slot has one, and its writes aren't logged.
abbrev pub Waits : Facts → LineUnderWay → Type 0
Waits f u = u.stage ≡ HasChanged → (id : ℕ) → u.line.command ≡ SetLog id true → (f.armed id ≡ false) × (is_logged id f.slots ≡ true)

pub record AreLogged (f : Facts) (u : LineUnderWay) : Type 0 where
  pub slots : AreArmed f
  pub logged : HaveLogs f
  pub waits : Waits f u

-- ---- which lines change a slot

changes_at : (z : Sizes) (f : Facts) (actor : Actor) (command : Command) (change : ℕ × Option MemorySlot) → HasWork z f actor command
    → slot_change f.slots command ≡ Some change → change_at_once z command f.slots ≡ None
changes_at z f actor (Access gfn word op) change works is = refl
changes_at z f actor (ChangeHost page host) change works is = refl
changes_at z f actor (ChangeRun page host) change works is = refl
changes_at z f actor (GetLog id) change works is = refl
changes_at z f actor (ClearLog id first count words) change works is = refl
changes_at z f actor (Migrate call) change works is = refl
changes_at z f actor (Split gfn) change works is = refl
changes_at z f actor command change works is = not_told (change_at_once z command f.slots) (unbarred _ _ works).1
  where
    not_told : (o : Option (Option Refusal)) → option_map refused_or_done o ≡ None → o ≡ None
    not_told None e = refl
    not_told (Some x) e = absurd (cc e)

next : (b : Bool) (refusal : Refusal) (rest : Option Refusal) → (if b then Some refusal else rest) ≡ None → (b ≡ false) × (rest ≡ None)
next true refusal rest e = absurd (cc e)
next false refusal rest e = (refl, e)

-- A line that gives a slot a log finds the slot, without one.
gives_log : (id : ℕ) (slots : MemorySlots) → log_refusal true id slots ≡ None → (is_none (slot_of_id id slots) ≡ false) × (is_logged id slots ≡ false)
gives_log id slots none =
    let there = next (is_none (slot_of_id id slots)) Missing _ none in (there.0, (next (is_logged id slots) Logged None there.1).0)

no_log : {X : Type 0} (i id : ℕ) (slots : MemorySlots) → i ≡ id → is_logged i slots ≡ false → is_logged id slots ≡ true → X
no_log i id slots same none logged = let not_ : is_logged id slots ≡ false = subst (λ j. is_logged j slots ≡ false) same none in absurd (cc (not_, logged))

first_is : (i id : ℕ) (made slot : Option MemorySlot) → ◌≡◌ {A = Option (ℕ × Option MemorySlot)} (Some (i, made)) (Some (id, slot)) → i ≡ id
first_is i id made slot is = ap (λ (p : ℕ × Option MemorySlot). p.0) (same_Some (i, made) (id, slot) is)

second_is : (i id : ℕ) (made slot : Option MemorySlot) → ◌≡◌ {A = Option (ℕ × Option MemorySlot)} (Some (i, made)) (Some (id, slot)) → made ≡ slot
second_is i id made slot is = ap (λ (p : ℕ × Option MemorySlot). p.1) (same_Some (i, made) (id, slot) is)

-- the slot, with or without a log
abbrev with_log : Bool → Option MemorySlot → Option MemorySlot
with_log on slot = option_map (λ was. record { slot = was.slot; logged = on }) slot

-- A slot that has a log is changed by a line alone that takes it away.
takes_log : (z : Sizes) (f : Facts) (command : Command) (id : ℕ) (slot : Option MemorySlot) → change_at_once z command f.slots ≡ None
    → slot_change f.slots command ≡ Some (id, slot) → is_logged id f.slots ≡ true → command ≡ SetLog id false
takes_log z f (Access gfn word op) id slot works is logged = absurd (cc is)
takes_log z f (ChangeHost page change) id slot works is logged = absurd (cc is)
takes_log z f (ChangeRun page change) id slot works is logged = absurd (cc is)
takes_log z f (GetLog i) id slot works is logged = absurd (cc is)
takes_log z f (ClearLog i first count words) id slot works is logged = absurd (cc is)
takes_log z f (Migrate call) id slot works is logged = absurd (cc is)
takes_log z f (Split gfn) id slot works is logged = absurd (cc is)
takes_log z f (SetSlot i s) id slot works is logged =
    no_log i id f.slots (first_is i id (Some (record { slot = s; logged = is_logged i f.slots })) slot is) (set_anew z i s f.slots works) logged
takes_log z f (DeleteSlot i) id slot works is logged =
    no_log i id f.slots (first_is i id None slot is) (deleted_unlogged i f.slots (none_refused z (DeleteSlot i) f.slots works)) logged
takes_log z f (SetLog i true) id slot works is logged =
    no_log i id f.slots (first_is i id (with_log true (slot_of_id i f.slots)) slot is)
    (gives_log i f.slots (none_refused z (SetLog i true) f.slots works)).1 logged
takes_log z f (SetLog i false) id slot works is logged =
    ap (λ j. SetLog j false) (first_is i id (with_log false (slot_of_id i f.slots)) slot is)

-- ---- one event of the manager's

not_taken : (read : Option ℕ) (left : List ℕ) (id : ℕ) → stage_taken read left id ≡ HasChanged → ⊥
not_taken None left id is = cc is
not_taken (Some other) left id is = cc is

not_left : (ids : List ℕ) (f : Facts) → to_read_or_copy ids f ≡ HasChanged → ⊥
not_left [] f is = cc is
not_left (id ∷ ids) f is = cc is

not_read : (stage : Stage) (frames : List ℕ) (f : Facts) → stage_read stage frames f ≡ HasChanged → ⊥
not_read (HasTakenNext id ids) frames f is = not_left ids f is
not_read _ frames f is = cc is

not_copied : (whole : Bool) (stage : Stage) (gfn : ℕ) (frames : List ℕ) (count word : ℕ) → stage ≡ HasToCopy (gfn ∷ frames) count word
    → stage_copied whole stage ≡ HasChanged → ⊥
not_copied whole stage gfn frames count word at is = by whole (subst (λ (s : Stage). stage_copied whole s ≡ HasChanged) at is)
  where
    by : (b : Bool) → stage_copied b (HasToCopy (gfn ∷ frames) count word) ≡ HasChanged → ⊥
    by true e = cc e
    by false e = cc e

have_logs_after : (z : Sizes) (f : Facts) (past : Past) (actor : Actor) (u : LineUnderWay) (kind : EventKind) → IsAllowed z f past actor u kind
    → AreLogged f u → HaveLogs (facts_after kind f)
have_logs_after z f past actor u (SlotChanged id slot) may A i on =
    let parts = and_parts (not (id == i)) (f.armed i) on in
    ap (is_some_and (λ (m : MemorySlot). m.logged)) (changed_elsewhere id i slot f.slots (other parts.0)) ∙ A.logged i parts.1
  where
    other : not (id == i) ≡ true → i ≢ id
    other apart same = let not_ : not (id == i) ≡ false = ap not (eq-eqb id i (sym same)) in cc (apart, not_)
have_logs_after z f past actor u (Armed id all) may A i on = by (or_cases (id == i) (f.armed i) on)
  where
    by : (id == i ≡ true) ⊎ (f.armed i ≡ true) → is_logged i f.slots ≡ true
    by (inl same) = subst (λ j. is_logged j f.slots ≡ true) (eqb-true id i same) (A.waits may.0 id may.1).1
    by (inr was) = A.logged i was
have_logs_after z f past actor u _ may A i on = A.logged i on

changed_waits : (z : Sizes) (f : Facts) (actor : Actor) (command : Command) (id : ℕ) (slot : Option MemorySlot) → HasWork z f actor command
    → slot_change f.slots command ≡ Some (id, slot) → (i : ℕ) → command ≡ SetLog i true
    → ((facts_after (SlotChanged id slot) f).armed i ≡ false) × (is_logged i (changed_slots id slot f.slots) ≡ true)
changed_waits z f actor command id slot works is i command_is = (
  ap (λ b. not b && f.armed i) (eq-eqb id i (sym same)),
  ap (is_some_and (λ (m : MemorySlot). m.logged))
      (subst (λ j. slot_of_id j (changed_slots id slot f.slots) ≡ slot) (sym same) (changed_here id slot f.slots) ∙ sym made)
      ∙ has_log (slot_of_id i f.slots) (gives_log i f.slots (none_refused z (SetLog i true) f.slots none)).0,
)
  where
    change : slot_change f.slots (SetLog i true) ≡ Some (id, slot)
    change = ap (slot_change f.slots) (sym command_is) ∙ is

    none : change_at_once z (SetLog i true) f.slots ≡ None
    none = subst (λ c. change_at_once z c f.slots ≡ None) command_is (changes_at z f actor command (id, slot) works is)

    same : i ≡ id
    same = first_is i id (with_log true (slot_of_id i f.slots)) slot change

    made : with_log true (slot_of_id i f.slots) ≡ slot
    made = second_is i id (with_log true (slot_of_id i f.slots)) slot change

    has_log : (o : Option MemorySlot) → is_none o ≡ false → is_some_and (λ (m : MemorySlot). m.logged) (with_log true o) ≡ true
    has_log None e = absurd (cc e)
    has_log (Some m) e = refl

waits_after : (z : Sizes) (f : Facts) (past : Past) (actor : Actor) (u : LineUnderWay) (kind : EventKind) → IsAllowed z f past actor u kind
    → AreLogged f u → Waits (facts_after kind f) (under_after kind f u)
waits_after z f past actor u LookedAtPause may A is = A.waits is
waits_after z f past actor u LookedAtSlots may A is = A.waits is
waits_after z f past actor u (LookedAtHost page) may A is = A.waits is
waits_after z f past actor u (BroughtIn page) may A is = A.waits is
waits_after z f past actor u (SlotChanged id slot) may A is = changed_waits z f actor u.line.command id slot may.1 may.2
waits_after z f past actor u (Taken id) may A is = absurd (not_taken (log_read u.line.command) (logs_left f.slots u.line.command u.stage) id is)
waits_after z f past actor u (Harvested id frames) may A is = absurd (not_read u.stage frames (facts_after (Harvested id frames) f) is)
waits_after z f past actor u GuestStopped may A is = absurd (not_left _ _ is)
waits_after z f past actor u (WordCopied gfn page word value whole) may A is =
    absurd (not_copied whole u.stage gfn may.frames may.count word may.left is)
waits_after z f past actor u (HostChanged page entry) may A is =
    absurd (each_change (λ s. s ≡ HasChanged → ⊥) (λ e at. cc at) (λ p l n at. cc at) u.line.command f.host u.stage page entry is)
waits_after z f past actor u _ may A is = absurd (cc is)

own_logged : (z : Sizes) (f : Facts) (past : Past) (actor : Actor) (u : LineUnderWay) (kind : EventKind) → IsAllowed z f past actor u kind
    → AreLogged f u → AreLogged (facts_after kind f) (under_after kind f u)
own_logged z f past actor u kind may A = record {
  slots = armed_after z f past actor u kind may A.slots;
  logged = have_logs_after z f past actor u kind may A;
  waits = waits_after z f past actor u kind may A;
}

-- ---- the events of others

guests_leave : (f : Facts) (u : LineUnderWay) (kind : EventKind) → IsOfGuests kind → AreLogged f u → HaveLogs (facts_after kind f) × Waits (facts_after kind f)
    u
guests_leave f u (SlotChanged id slot) of A = absurd of
guests_leave f u (Armed id all) of A = absurd of
guests_leave f u _ of A = (A.logged, A.waits)

other_logged : (z : Sizes) (f : Facts) (past : Past) (a : Actor) (v u : LineUnderWay) (kind : EventKind) → IsAllowed z f past a v kind → IsGuests v
    → AreLogged f u → AreLogged (facts_after kind f) u
other_logged z f past a v u kind may G A =
    let left = guests_leave f u kind (guests_tell z f past a v kind may G) A in
    record { slots = armed_after z f past a v kind may A.slots; logged = left.0; waits = left.1 }

-- ---- over histories

pub record KeepsLogs (migrator : Actor) (f : Flat) : Type 0 where
  pub own : AreLogged f.facts (f.under migrator)
  pub others : (other : Actor) → is_same other migrator ≡ false → IsGuests (f.under other)

pub keeps_after : (z : Sizes) (migrator : Actor) (e : Event) (f : Flat) → IsAllowed z f.facts f.past e.actor (f.under e.actor) e.kind
    → LeavesManaging migrator e.actor e.kind → KeepsLogs migrator f → KeepsLogs migrator (after e f)
keeps_after z migrator e f may leaves K = record {
  own = own (is_same e.actor migrator) refl;
  others = λ other apart. each other apart (is_same e.actor other) refl;
}
  where
    each : (other : Actor) → is_same other migrator ≡ false → (b : Bool) → is_same e.actor other ≡ b
        → IsGuests (if b then under_after e.kind f.facts (f.under e.actor) else f.under other)
    each other apart false is = K.others other apart
    each other apart true is =
        let apart_too : is_same e.actor migrator ≡ false = ap (λ (x : Actor). is_same x migrator) (same_is e.actor other is) ∙ apart in
        stays_guests z f.facts f.past migrator e.actor (f.under e.actor) e.kind may leaves (λ mine. apart_actors e.actor migrator apart_too mine)
        (K.others e.actor apart_too)

    own : (b : Bool) → is_same e.actor migrator ≡ b
        → AreLogged (facts_after e.kind f.facts) (if b then under_after e.kind f.facts (f.under e.actor) else f.under migrator)
    own true is =
        own_logged z f.facts f.past e.actor (f.under e.actor) e.kind may
        (subst (λ (x : Actor). AreLogged f.facts (f.under x)) (sym (same_is e.actor migrator is)) K.own)
    own false is = other_logged z f.facts f.past e.actor (f.under e.actor) (f.under migrator) e.kind may (K.others e.actor is) K.own

pub keeps_then : (z : Sizes) (migrator : Actor) (es : List Event) (f : Flat) → KeepsLogs migrator f → IsLawful z f es → OnlyManages migrator es
    → KeepsLogs migrator (after_all es f)
keeps_then z migrator [] f K lawful only = K
keeps_then z migrator (e ∷ es) f K lawful only =
    keeps_then z migrator es (after e f) (keeps_after z migrator e f lawful.0 only.0 K) lawful.1 only.1

pub keeps_first : (migrator : Actor) → KeepsLogs migrator first_flat
keeps_first migrator = record {
  own = record { slots = first_armed; logged = λ id on. absurd (cc on); waits = λ is. absurd (cc is) };
  others = λ other apart. inl refl;
}

-- ---- where the frame's slot is logged

module _ (z : Sizes) (migrator actor : Actor) (f : Flat) (K : KeepsLogs migrator f) where
  module _ (id : ℕ) (slot : Option MemorySlot) (gfn : ℕ) (may : IsAllowed z f.facts f.past actor (f.under actor) (SlotChanged id slot))
      (I : IsInArmed f.facts gfn) (has : (has_gfn (slot_of_id id f.facts.slots) gfn || has_gfn slot gfn) ≡ true) where
    later : AreArmed (facts_after (SlotChanged id slot) f.facts)
    later = armed_after z f.facts f.past actor (f.under actor) (SlotChanged id slot) may K.own.slots

    was_there : (o : Option MemorySlot) → slot_of_id id f.facts.slots ≡ o → has_gfn o gfn ≡ true → I.id ≡ id
    was_there None there has_it = absurd (cc has_it)
    was_there (Some m) there has_it = K.own.slots.apart gfn I.id id I.slot m I.there there I.has has_it

    is_there : (o : Option MemorySlot) → slot ≡ o → has_gfn o gfn ≡ true → I.id ≢ id → I.id ≡ id
    is_there None is has_it ne = absurd (cc has_it)
    is_there (Some m) is has_it ne =
        later.apart gfn I.id id I.slot m (changed_elsewhere id I.id slot f.facts.slots ne ∙ I.there) (changed_here id slot f.facts.slots ∙ is) I.has has_it

    -- A slot that has the frame, before or after the change, is the frame's own.
    pub own_slot : I.id ≡ id
    own_slot = by (cases_eq I.id id) (or_cases (has_gfn (slot_of_id id f.facts.slots) gfn) (has_gfn slot gfn) has)
      where
        by : (I.id ≡ id) ⊎ (I.id ≢ id) → (has_gfn (slot_of_id id f.facts.slots) gfn ≡ true) ⊎ (has_gfn slot gfn ≡ true) → I.id ≡ id
        by (inl same) either = same
        by (inr ne) (inl was) = was_there (slot_of_id id f.facts.slots) refl was
        by (inr ne) (inr is) = is_there slot refl is ne

    -- So the line takes its log away.
    pub ends_log : (f.under actor).line.command ≡ SetLog id false
    ends_log =
        takes_log z f.facts (f.under actor).line.command id slot (changes_at z f.facts actor (f.under actor).line.command (id, slot) may.1 may.2) may.2
        (subst (λ j. is_logged j f.facts.slots ≡ true) own_slot (K.own.logged I.id I.armed))

  -- A log begins only where the slot's writes aren't logged.
  pub begins_once : (id : ℕ) (all : Bool) → IsAllowed z f.facts f.past actor (f.under actor) (Armed id all) → f.facts.armed id ≡ false
  begins_once id all may = by (is_same actor migrator) refl
    where
      by : (b : Bool) → is_same actor migrator ≡ b → f.facts.armed id ≡ false
      by true is =
          let W : Waits f.facts (f.under actor) = subst (λ (x : Actor). Waits f.facts (f.under x)) (sym (same_is actor migrator is)) K.own.waits in
          (W may.0 id may.1).0
      by false is = absurd (guests_tell z f.facts f.past actor (f.under actor) (Armed id all) may (K.others actor is))
