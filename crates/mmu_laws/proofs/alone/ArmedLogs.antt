-- In each lawful history a slot with a dirty log is armed, or a line under way has given it the log and hasn't armed it yet.
use Rattle.core_views.specs.Events.{logs_left}
use Rattle.core_views.specs.Lawful.{may_look}
use Rattle.core_views.specs.declared.event.EventKind.TheVariants.{GuestStopped, MigrationStarted, PauseSet, Resumed, WordCopied}
use Rattle.std.proofs.Common.{◌≡◌, ◌≢◌, ◌⊎◌, inl, inr, ℕ, List, [], ◌∷◌, refl, sym, subst, ap, ◌∙◌}
use Rattle.std.proofs.lemmas.Bool.{eq-eqb, ne_eqb, or_left, or_right}
use Rattle.std.proofs.lemmas.Option.{same_Some}
use Rattle.std.specs.Option.{option_map}
use Rattle.std.specs.Prelude.{Bool, true, false, cond, not, ◌==◌, ◌&&◌, Option, Some, None}
use Rattle.core_views.specs.declared.actor.Actor.{Actor}
use Rattle.core_views.specs.declared.answer.Refusal.{Refusal}
use Rattle.core_views.specs.declared.event.Event.{Event}
use Rattle.core_views.specs.declared.event.EventKind.{EventKind}
use Rattle.core_views.specs.declared.event.EventKind.TheVariants.{Accessed, Answered, Armed, Begun, BroughtIn, Exited, Harvested, HostChanged}
use Rattle.core_views.specs.declared.event.EventKind.TheVariants.{LookedAtHost, LookedAtPause, LookedAtSlots, Shown, SlotChanged, Taken}
use Rattle.core_views.specs.declared.sizes.Sizes.{Sizes}
use Rattle.core_views.specs.declared.memory_slot.MemorySlot.{MemorySlot}
use Rattle.core_views.specs.declared.trace.Command.{Command}
use Rattle.core_views.specs.declared.trace.Command.TheVariants.{Access, ChangeHost, ChangeRun, ClearLog, GetLog, Migrate, SetLog, Split}
use Rattle.core_views.specs.declared.trace.Slot.{Slot}
use Rattle.core_views.specs.Actors.{is_same}
use Rattle.core_views.specs.Events.{after, after_all, facts_after, under_after}
use Rattle.core_views.specs.Flat.{Facts, Flat, HasChanged, LineUnderWay, first_flat}
use Rattle.core_views.specs.Lawful.{HasWork, IsAllowed, IsLawful, Tells}
use Rattle.core_views.specs.Past.{Past}
use Rattle.core_views.specs.Refusals.{is_logged}
use Rattle.core_views.specs.SlotCommands.{after_change, arms, changes_slot, refused_or_done, slot_armed, slot_change, slots_after}
use Rattle.core_views.specs.Slots.{is_some_and}
use Rattle.core_views.specs.SlotSets.{MemorySlots, changed_slots, slot_of_id}
use Rattle.core_views.proofs.SameActor.{changed_here, same_is}
use Rattle.core_views.proofs.Barred.{unbarred}
use Rattle.core_views.proofs.SlotChanges.{answered_by_slots}
use Rattle.mmu_core.proofs.machine.Columns.{same_or}
use Rattle.log_invariant.proofs.LogRecords.{with_log}
use Rattle.mmu_laws.proofs.flat.ChangedSlots.{ChangeOf, change_of}
use Rattle.core_views.proofs.RunStages.{changes_at}

-- The line has given the slot with the ID a log, and is to arm it.
pub record ArmsLater (u : LineUnderWay) (id : ℕ) : Type 0 where
  pub stage : u.stage ≡ HasChanged
  pub command : u.line.command ≡ SetLog id true

abbrev pub IsArmedOrLater : Flat → ℕ → Type 0
IsArmedOrLater f id = (f.facts.armed id ≡ true) ⊎ ((actor : Actor) × ArmsLater (f.under actor) id)

abbrev pub LogsAreArmed : Flat → Type 0
LogsAreArmed f = (id : ℕ) → is_logged id f.facts.slots ≡ true → IsArmedOrLater f id

-- ---- a line that is to arm a log does nothing else

does_nothing_else : (z : Sizes) (f : Facts) (past : Past) (actor : Actor) (u : LineUnderWay) (kind : EventKind) (id : ℕ) → IsAllowed z f past actor u kind
    → ArmsLater u id → (all : Bool) × (kind ≡ Armed id all)
does_nothing_else z f past actor u (Armed i all) id may L =
    let is = may.1 in let asked = L.command in let same : i ≡ id = cc (is, asked) in (all, ap (λ n. Armed n all) same)
does_nothing_else z f past actor u (Answered number answer) id may L =
    let told = subst (λ stage. Tells z f actor u.line.command stage answer) L.stage may.1 in
    let off = told.1 in let on : arms u.line.command ≡ true = ap arms L.command in absurd (cc (off, on))
does_nothing_else z f past actor u (Begun line) id may L = absurd (let at = may.0 in let is = L.stage in cc (at, is))
does_nothing_else z f past actor u LookedAtPause id may L = absurd (let is = L.stage in cc (may, is))
does_nothing_else z f past actor u LookedAtSlots id may L = absurd (let is = L.stage in cc (may, is))
does_nothing_else z f past actor u (LookedAtHost page) id may L = absurd (cc (subst (λ stage. may_look stage ≡ true) L.stage may))
does_nothing_else z f past actor u (BroughtIn page) id may L = absurd (let at = may.0 in let is = L.stage in cc (at, is))
does_nothing_else z f past actor u (Accessed gfn word op frame before) id may L = absurd (let at = may.0 in let is = L.stage in cc (at, is))
does_nothing_else z f past actor u (Exited answer) id may L = absurd (let at = may.0 in let is = L.stage in cc (at, is))
does_nothing_else z f past actor u (SlotChanged i slot) id may L = absurd (let at = may.0 in let is = L.stage in cc (at, is))
does_nothing_else z f past actor u (Taken i) id may L = absurd (elim may [
  | inl alone ↦ let at = alone.0 in let is = L.stage in cc (at, is)
  | inr next ↦ cc (subst (λ stage. logs_left f.slots u.line.command stage ≡ i ∷ next.ids) L.stage next.left)
])
does_nothing_else z f past actor u (HostChanged page entry) id may L =
    absurd (changes_at (λ s. s ≡ HasChanged → ⊥) (λ e. cc e) (λ p l n e. cc e) z f past actor u page entry may L.stage)
does_nothing_else z f past actor u (Harvested i frames) id may L = absurd (elim may [
  | inl alone ↦ let at = alone.begun in let is = L.stage in cc (at, is)
  | inr next ↦ let at = next.begun in let is = L.stage in cc (at, is)
])
does_nothing_else z f past actor u (Shown i frames) id may L = absurd (let at = may.begun in let is = L.stage in cc (at, is))
does_nothing_else z f past actor u MigrationStarted id may L = absurd (let at = may.0 in let is = L.stage in cc (at, is))
does_nothing_else z f past actor u PauseSet id may L = absurd (let at = may.0 in let is = L.stage in cc (at, is))
does_nothing_else z f past actor u GuestStopped id may L = absurd (let is = L.stage in cc (may, is))
does_nothing_else z f past actor u (WordCopied gfn page word value whole) id may L = absurd (let at = may.left in let is = L.stage in cc (at, is))
does_nothing_else z f past actor u Resumed id may L = absurd (let at = may.0 in let is = L.stage in cc (at, is))

-- ---- a line that gives a log

changing : (command : Command) (slots : MemorySlots) (change : ℕ × Option MemorySlot) → slot_change slots command ≡ Some change → changes_slot command ≡ true
changing (Access gfn word op) slots change is = absurd (cc is)
changing (ChangeHost page change_) slots change is = absurd (cc is)
changing (ChangeRun page change_) slots change is = absurd (cc is)
changing (GetLog id) slots change is = absurd (cc is)
changing (Migrate call) slots change is = absurd (cc is)
changing (Split gfn) slots change is = absurd (cc is)
changing (ClearLog id first count words) slots change is = absurd (cc is)
changing _ slots change is = refl

unanswered : (o : Option (Option Refusal)) → option_map refused_or_done o ≡ None → o ≡ None
unanswered None is = refl
unanswered (Some refusal) is = absurd (cc is)

change_is : (z : Sizes) (f : Facts) (actor : Actor) (command : Command) (change : ℕ × Option MemorySlot) → HasWork z f actor command
    → slot_change f.slots command ≡ Some change → ChangeOf f.slots command
change_is z f actor command change works is =
    let changes = changing command f.slots change is in
    change_of z command f.slots changes (unanswered _ (unbarred _ _ (sym (answered_by_slots z f.slots f.migration actor command changes) ∙ works)).1)

armed_gives : (command : Command) (slots : MemorySlots) (change : ℕ × Option MemorySlot) (s : Slot) → slot_armed slots command ≡ Some s
    → slot_change slots command ≡ Some change → command ≡ SetLog change.0 true
armed_gives (SetLog i true) slots change s armed is =
    let same : i ≡ change.0 = ap (λ (c : ℕ × Option MemorySlot). c.0) (same_Some (i, _) change is) in ap (λ n. SetLog n true) same
armed_gives _ slots change s armed is = absurd (cc armed)

logged_is : (o : Option MemorySlot) → is_some_and (λ (m : MemorySlot). m.logged) o ≡ true → (s : Slot) × (o ≡ Some (with_log true s))
logged_is None is = absurd (cc is)
logged_is (Some m) is = (m.slot, λ t. Some (record { slot = m.slot; logged = is t }))

gives_log : (z : Sizes) (f : Facts) (actor : Actor) (command : Command) (id : ℕ) (slot : Option MemorySlot) → HasWork z f actor command
    → slot_change f.slots command ≡ Some (id, slot) → is_logged id (changed_slots id slot f.slots) ≡ true → command ≡ SetLog id true
gives_log z f actor command id slot works is logged =
    let C = change_is z f actor command (id, slot) works is in
    let same : (C.id ≡ id) × (C.slot ≡ slot) = apart C in
    let after_ : slots_after command f.slots ≡ changed_slots id slot f.slots = ap (λ (c : Option (ℕ × Option MemorySlot)). after_change c f.slots) is in
    let here : slot_of_id id (changed_slots id slot f.slots) ≡ C.slot =
    ap (slot_of_id id) (sym after_) ∙ ap (λ n. slot_of_id n (slots_after command f.slots)) (sym same.0) ∙ C.here in
    let has = logged_is C.slot (sym (ap (is_some_and (λ (m : MemorySlot). m.logged)) here) ∙ logged) in
    armed_gives command f.slots (id, slot) has.0 (C.begins has.0 has.1) is
  where
    apart : (C : ChangeOf f.slots command) → (C.id ≡ id) × (C.slot ≡ slot)
    apart C =
        let e = same_Some (C.id, C.slot) (id, slot) (sym C.is ∙ is) in
        (ap (λ (c : ℕ × Option MemorySlot). c.0) e, ap (λ (c : ℕ × Option MemorySlot). c.1) e)

logged_elsewhere : (z : Sizes) (f : Facts) (actor : Actor) (command : Command) (id other : ℕ) (slot : Option MemorySlot) → HasWork z f actor command
    → slot_change f.slots command ≡ Some (id, slot) → other ≢ id → is_logged other (changed_slots id slot f.slots) ≡ is_logged other f.slots
logged_elsewhere z f actor command id other slot works is apart =
    let C = change_is z f actor command (id, slot) works is in
    let same : C.id ≡ id = ap (λ (c : ℕ × Option MemorySlot). c.0) (same_Some (C.id, C.slot) (id, slot) (sym C.is ∙ is)) in
    ap (is_logged other) (sym (ap (λ (c : Option (ℕ × Option MemorySlot)). after_change c f.slots) is))
    ∙ ap (is_some_and (λ (m : MemorySlot). m.logged)) (C.others other (λ e. apart (e ∙ same)))

-- ---- one event

module _ (z : Sizes) (f : Flat) (actor : Actor) where
  abbrev u : LineUnderWay
  u = f.under actor

  abbrev may_be : EventKind → Type 0
  may_be kind = IsAllowed z f.facts f.past actor u kind

  abbrev After : EventKind → ℕ → Type 0
  After kind id = IsArmedOrLater (after (record { actor = actor; kind = kind }) f) id

  -- A line that was to arm it is to do so still, unless the event does.
  later_still : (kind : EventKind) → may_be kind → (id : ℕ) (x : Actor) → ArmsLater (f.under x) id → ((all : Bool) → kind ≡ Armed id all → ⊥) → After kind id
  later_still kind may id x L other = by (is_same actor x) refl
    where
      by : (same : Bool) → is_same actor x ≡ same → After kind id
      by true same =
          let N = does_nothing_else z f.facts f.past actor u kind id may (subst (λ y. ArmsLater (f.under y) id) (sym (same_is actor x same)) L) in
          absurd (other N.0 N.1)
      by false apart = inr (x, subst (λ b. ArmsLater (cond b (under_after kind f.facts u) (f.under x)) id) (sym apart) L)

  still : (kind : EventKind) → may_be kind → (id : ℕ) → IsArmedOrLater f id → ((facts_after kind f.facts).armed id ≡ f.facts.armed id)
      → ((all : Bool) → kind ≡ Armed id all → ⊥) → After kind id
  still kind may id (inl on) same other = inl (same ∙ on)
  still kind may id (inr (x, L)) same other = later_still kind may id x L other

  event_arms : (kind : EventKind) → may_be kind → LogsAreArmed f → LogsAreArmed (after (record { actor = actor; kind = kind }) f)
  event_arms (SlotChanged i slot) may A id logged = by (same_or id i)
    where
      by : (id ≡ i) ⊎ (id ≢ i) → After (SlotChanged i slot) id
      by (inl e) =
          let here = subst (λ n. is_logged n (changed_slots i slot f.facts.slots) ≡ true) e logged in
          let gives = gives_log z f.facts actor u.line.command i slot may.1 may.2 here in
          inr (
            actor,
            subst (λ (x : LineUnderWay). ArmsLater x id) (sym (changed_here actor (under_after (SlotChanged i slot) f.facts u) f.under))
                (record { stage = refl; command = gives ∙ ap (λ n. SetLog n true) (sym e) }),
          )
      by (inr apart) =
          still (SlotChanged i slot) may id
          (A id (sym (logged_elsewhere z f.facts actor u.line.command i id slot may.1 may.2 apart) ∙ logged))
          (ap (λ b. not b && f.facts.armed id) (ne_eqb i id (λ e. apart (sym e)))) (λ all e. cc e)
  event_arms (Armed i all) may A id logged = by (A id logged)
    where
      by : IsArmedOrLater f id → After (Armed i all) id
      by (inl on) = inl (or_right (i == id) (f.facts.armed id) on)
      by (inr (x, L)) = which (is_same actor x) refl
        where
          which : (same : Bool) → is_same actor x ≡ same → After (Armed i all) id
          which true same =
              let N = does_nothing_else z f.facts f.past actor u (Armed i all) id may (subst (λ y. ArmsLater (f.under y) id) (sym (same_is actor x same)) L) in
              let here : i ≡ id = let e = N.1 in cc e in
              inl (or_left (i == id) (f.facts.armed id) (eq-eqb i id here))
          which false apart = inr (x, subst (λ b. ArmsLater (cond b (under_after (Armed i all) f.facts u) (f.under x)) id) (sym apart) L)
  event_arms kind may A id logged = still kind may id (A id logged) refl (λ all e. cc e)

-- ---- every lawful history

pub all_armed : (z : Sizes) (es : List Event) (f : Flat) → IsLawful z f es → LogsAreArmed f → LogsAreArmed (after_all es f)
all_armed z [] f lawful A = A
all_armed z (e ∷ es) f lawful A = all_armed z es (after e f) lawful.1 (event_arms z f e.actor e.kind lawful.0 A)

pub first_armed : LogsAreArmed first_flat
first_armed id logged = absurd (cc logged)
