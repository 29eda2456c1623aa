-- Writes of each slot with a dirty log are logged, but where the manager's line has just given it the log.
use Rattle.std.proofs.Common.{◌≡◌, ◌≢◌, ◌⊎◌, inl, inr, ◌==◌, ◌&&◌, ◌||◌, ℕ, Bool, true, false, not, List, [], ◌∷◌, refl, sym, ap, ◌∙◌, subst, cond}
use Rattle.std.specs.Prelude.{Option, Some, None, is_some, suc}
use Rattle.std.specs.Option.{option_map}
use Rattle.std.specs.List.{list_any}
use Rattle.std.proofs.lemmas.Bool.{eq-eqb, ne_eqb, or_left, or_right}
use Rattle.std.proofs.lemmas.Option.{same_Some}
use Rattle.core_views.specs.declared.actor.Actor.{Actor}
use Rattle.core_views.specs.declared.answer.Answer.{Answer}
use Rattle.core_views.specs.declared.answer.Refusal.{Refusal}
use Rattle.core_views.specs.declared.event.EventKind.{EventKind}
use Rattle.core_views.specs.declared.event.EventKind.TheVariants.{Answered, Armed, Begun, GuestStopped, Harvested, LookedAtHost, LookedAtPause}
use Rattle.core_views.specs.declared.event.EventKind.TheVariants.{HostChanged, LookedAtSlots, Shown, SlotChanged, Taken, WordCopied}
use Rattle.core_views.specs.declared.sizes.Sizes.{Sizes}
use Rattle.core_views.specs.declared.memory_slot.MemorySlot.{MemorySlot}
use Rattle.core_views.specs.declared.trace.Command.{Command}
use Rattle.core_views.specs.declared.trace.Command.TheVariants.{Access, ChangeHost, ChangeRun, ClearLog, DeleteSlot, GetLog, Migrate, SetLog, SetSlot, Split}
use Rattle.core_views.specs.Events.{facts_after, is_armed, under_after}
use Rattle.core_views.specs.HostRuns.{level_set}
use Rattle.core_views.specs.Flat.{Facts, HasArmed, HasChanged, HasSetPause, HasTaken, HasTakenNext, HasToCopy, HasToSet, Fresh, Idle, LineUnderWay, Stage}
use Rattle.core_views.specs.Lawful.{HasWork, IsAllowed, Tells, may_look}
use Rattle.core_views.specs.Events.{logs_left}
use Rattle.core_views.specs.Migrations.{are_logged}
use Rattle.core_views.specs.Past.{Past}
use Rattle.core_views.specs.Refusals.{is_logged}
use Rattle.core_views.specs.SlotCommands.{arms, change_at_once, refused_or_done, slot_change}
use Rattle.core_views.specs.Slots.{is_some_and}
use Rattle.core_views.specs.SlotSets.{MemorySlots, slot_holding, slot_of_id}
use Rattle.core_views.proofs.Barred.{unbarred}
use Rattle.core_views.proofs.UnloggedSlots.{set_anew}
use Rattle.flat_laws.proofs.Images.{AllAreArmed}
use Rattle.flat_laws.proofs.PendingArmed.{AreArmed}
use Rattle.flat_laws.proofs.SlotsApart.{either, holding_stands}
use Rattle.flat_laws.proofs.SlotsCopied.{page_held}

-- the ID of the slot whose log the line begins, and hasn't begun yet
abbrev pub log_begun : Command → Option ℕ
log_begun (SetLog id true) = Some id
log_begun _ = None

abbrev pub unarmed : Stage → Command → Option ℕ
unarmed HasChanged command = log_begun command
unarmed _ command = None

abbrev pub LogsAreArmed : Facts → Stage → Command → Type 0
LogsAreArmed f stage command =
    (id : ℕ) (slot : MemorySlot) → slot_of_id id f.slots ≡ Some slot → slot.logged ≡ true → (f.armed id ≡ true) ⊎ (unarmed stage command ≡ Some id)

-- ---- where the line goes on

-- No line is in such a stage that tells another event than that the log begins.
none_at : (s t : Stage) (command : Command) → s ≡ t → unarmed t command ≡ None → unarmed s command ≡ None
none_at s t command is none = ap (λ (x : Stage). unarmed x command) is ∙ none

none_looking : (s : Stage) (command : Command) → may_look s ≡ true → unarmed s command ≡ None
none_looking HasChanged command may = absurd (cc may)
none_looking _ command may = refl

none_left : (slots : MemorySlots) (c : Command) (s : Stage) (id : ℕ) (ids : List ℕ) → logs_left slots c s ≡ id ∷ ids → unarmed s c ≡ None
none_left slots c HasChanged id ids left = absurd (cc left)
none_left slots c _ id ids left = refl

none_arms : (command : Command) → arms command ≡ false → log_begun command ≡ None
none_arms (SetLog id true) is = absurd (cc is)
none_arms (SetLog id false) is = refl
none_arms _ is = refl

none_told : (z : Sizes) (f : Facts) (actor : Actor) (command : Command) (s : Stage) (answer : Answer) → Tells z f actor command s answer
    → unarmed s command ≡ None
none_told z f actor command HasChanged answer tells = none_arms command tells.1
none_told z f actor command _ answer tells = refl

abbrev is_arming : EventKind → Bool
is_arming (Armed id all) = true
is_arming _ = false

none_waits : (z : Sizes) (f : Facts) (past : Past) (actor : Actor) (u : LineUnderWay) (kind : EventKind) → IsAllowed z f past actor u kind
    → is_arming kind ≡ false → unarmed u.stage u.line.command ≡ None
none_waits z f past actor u (Begun line) may is = none_at u.stage Idle u.line.command may.0 refl
none_waits z f past actor u LookedAtPause may is = none_at u.stage Fresh u.line.command may refl
none_waits z f past actor u LookedAtSlots may is = none_at u.stage Fresh u.line.command may refl
none_waits z f past actor u (LookedAtHost page) may is = none_looking u.stage u.line.command may
none_waits z f past actor u (Armed id all) may is = absurd (cc is)
none_waits z f past actor u (Taken id) (inl may) is = none_at u.stage Fresh u.line.command may.0 refl
none_waits z f past actor u (Taken id) (inr may) is = none_left f.slots u.line.command u.stage id may.ids may.left
none_waits z f past actor u (Harvested id frames) (inl may) is = none_at u.stage (HasTaken id) u.line.command may.begun refl
none_waits z f past actor u (Harvested id frames) (inr may) is = none_at u.stage (HasTakenNext id may.ids) u.line.command may.begun refl
none_waits z f past actor u (Shown id frames) may is = none_at u.stage (HasTaken id) u.line.command may.begun refl
none_waits z f past actor u GuestStopped may is = none_at u.stage HasSetPause u.line.command may refl
none_waits z f past actor u (WordCopied gfn page word value whole) may is =
    none_at u.stage (HasToCopy (gfn ∷ may.frames) may.count word) u.line.command may.left refl
none_waits z f past actor u (Answered number answer) may is = none_told z f actor u.line.command u.stage answer may.1
none_waits z f past actor u (HostChanged page entry) (inl may) is = none_at u.stage Fresh u.line.command may.0 refl
none_waits z f past actor u (HostChanged page entry) (inr (inl may)) is = none_at u.stage Fresh u.line.command may.0 refl
none_waits z f past actor u (HostChanged page entry) (inr (inr may)) is =
    none_at u.stage (HasToSet page (suc may.left) (level_set may.change)) u.line.command may.stands refl
none_waits z f past actor u _ may is = none_at u.stage Fresh u.line.command may.0 refl

-- ---- one event of the manager's

-- A slot that a line sets has a log only where the line gives it one.
new_log : (z : Sizes) (f : Facts) (actor : Actor) (command : Command) (id : ℕ) (slot : Option MemorySlot) (new_ : MemorySlot)
    → HasWork z f actor command → slot_change f.slots command ≡ Some (id, slot) → slot ≡ Some new_ → new_.logged ≡ true → log_begun command ≡ Some id
new_log z f actor (Access gfn word op) id slot new_ works is here logged = absurd (cc is)
new_log z f actor (ChangeHost page change) id slot new_ works is here logged = absurd (cc is)
new_log z f actor (ChangeRun page change) id slot new_ works is here logged = absurd (cc is)
new_log z f actor (GetLog i) id slot new_ works is here logged = absurd (cc is)
new_log z f actor (ClearLog i first count words) id slot new_ works is here logged = absurd (cc is)
new_log z f actor (Migrate call) id slot new_ works is here logged = absurd (cc is)
new_log z f actor (Split gfn) id slot new_ works is here logged = absurd (cc is)
new_log z f actor (DeleteSlot i) id slot new_ works is here logged =
    let pair : ◌≡◌ {A = ℕ × Option MemorySlot} (i, None) (id, slot) = same_Some (i, None) (id, slot) is in
    let none : ◌≡◌ {A = Option MemorySlot} None slot = ap (λ (p : ℕ × Option MemorySlot). p.1) pair in absurd (cc (none, here))
new_log z f actor (SetSlot i s) id slot new_ works is here logged =
    let made : MemorySlot = record { slot = s; logged = is_logged i f.slots } in
    let pair : ◌≡◌ {A = ℕ × Option MemorySlot} (i, Some made) (id, slot) = same_Some (i, Some made) (id, slot) is in
    let same : made ≡ new_ = same_Some made new_ (ap (λ (p : ℕ × Option MemorySlot). p.1) pair ∙ here) in
    let none : is_logged i f.slots ≡ false = set_anew z i s f.slots (not_told (change_at_once z (SetSlot i s) f.slots) (unbarred _ _ works).1) in
    let not_ : new_.logged ≡ false = ap (λ (m : MemorySlot). m.logged) (sym same) ∙ none in absurd (cc (not_, logged))
  where
    not_told : (o : Option (Option Refusal)) → option_map refused_or_done o ≡ None → o ≡ None
    not_told None e = refl
    not_told (Some x) e = absurd (cc e)
new_log z f actor (SetLog i on) id slot new_ works is here logged = by on is
  where
    made : Bool → Option MemorySlot
    made b = option_map (λ (was : MemorySlot). record { slot = was.slot; logged = b }) (slot_of_id i f.slots)

    unlogged : (o : Option MemorySlot) → option_map (λ (was : MemorySlot). record { slot = was.slot; logged = false }) o ≡ Some new_ → new_.logged ≡ false
    unlogged None e = absurd (cc e)
    unlogged (Some was) e = ap (λ (m : MemorySlot). m.logged) (sym (same_Some (record { slot = was.slot; logged = false }) new_ e))

    by : (b : Bool) → ◌≡◌ {A = Option (ℕ × Option MemorySlot)} (Some (i, made b)) (Some (id, slot)) → log_begun (SetLog i b) ≡ Some id
    by true e =
        let pair : ◌≡◌ {A = ℕ × Option MemorySlot} (i, made true) (id, slot) = same_Some (i, made true) (id, slot) e in
        ap (λ (p : ℕ × Option MemorySlot). Some p.0) pair
    by false e =
        let pair : ◌≡◌ {A = ℕ × Option MemorySlot} (i, made false) (id, slot) = same_Some (i, made false) (id, slot) e in
        let not_ = unlogged (slot_of_id i f.slots) (ap (λ (p : ℕ × Option MemorySlot). p.1) pair ∙ here) in absurd (cc (not_, logged))

changed_logs : (z : Sizes) (f : Facts) (actor : Actor) (command : Command) (id : ℕ) (slot : Option MemorySlot) → HasWork z f actor command
    → slot_change f.slots command ≡ Some (id, slot) → LogsAreArmed f Fresh command → LogsAreArmed (facts_after (SlotChanged id slot) f) HasChanged command
changed_logs z f actor command id slot works is L i m there logged = by (either id i slot m f.slots there)
  where
    was_armed : (f.armed i ≡ true) ⊎ (None ≡ Some i) → i ≢ id → (not (id == i) && f.armed i) ≡ true
    was_armed (inl on) ne = ap (λ (b : Bool). not b && f.armed i) (ne_eqb id i (λ e. ne (sym e))) ∙ on
    was_armed (inr e) ne = absurd (cc e)

    by : ((i ≡ id) × (slot ≡ Some m)) ⊎ ((i ≢ id) × (slot_of_id i f.slots ≡ Some m))
        → ((not (id == i) && f.armed i) ≡ true) ⊎ (log_begun command ≡ Some i)
    by (inl here) = inr (new_log z f actor command id slot m works is here.1 logged ∙ ap Some (sym here.0))
    by (inr other) = inl (was_armed (L i m other.1 logged) other.0)

armed_logs : (f : Facts) (id : ℕ) (all : Bool) (u : LineUnderWay) (s : Stage) → u.stage ≡ HasChanged → u.line.command ≡ SetLog id true
    → LogsAreArmed f u.stage u.line.command → LogsAreArmed (facts_after (Armed id all) f) s u.line.command
armed_logs f id all u s stage_is command_is L i m there logged = inl (by (L i m there logged))
  where
    begun : unarmed u.stage u.line.command ≡ Some id
    begun = ap (λ (x : Stage). unarmed x u.line.command) stage_is ∙ ap log_begun command_is

    by : (f.armed i ≡ true) ⊎ (unarmed u.stage u.line.command ≡ Some i) → ((id == i) || f.armed i) ≡ true
    by (inl on) = or_right (id == i) (f.armed i) on
    by (inr waits) = or_left (id == i) (f.armed i) (eq-eqb id i (same_Some id i (sym begun ∙ waits)))

-- Where none waits, all are armed, and so they stay.
still_logs : (f : Facts) (s t : Stage) (command other : Command) → unarmed s command ≡ None → LogsAreArmed f s command → LogsAreArmed f t other
still_logs f s t command other none L i m there logged = by (L i m there logged)
  where
    by : (f.armed i ≡ true) ⊎ (unarmed s command ≡ Some i) → (f.armed i ≡ true) ⊎ (unarmed t other ≡ Some i)
    by (inl on) = inl on
    by (inr waits) = absurd (cc (waits, none))

pub own_logs : (z : Sizes) (f : Facts) (past : Past) (actor : Actor) (u : LineUnderWay) (kind : EventKind) → IsAllowed z f past actor u kind
    → LogsAreArmed f u.stage u.line.command
    → LogsAreArmed (facts_after kind f) (under_after kind f u).stage (under_after kind f u).line.command
own_logs z f past actor u kind may L = by kind may
  where
    by : (k : EventKind) → IsAllowed z f past actor u k → LogsAreArmed (facts_after k f) (under_after k f u).stage (under_after k f u).line.command
    by (SlotChanged id slot) may = changed_logs z f actor u.line.command id slot may.1 may.2 (subst (λ (s : Stage). LogsAreArmed f s u.line.command) may.0 L)
    by (Armed id all) may = armed_logs f id all u HasArmed may.0 may.1 L
    by k may = still_logs f u.stage (under_after k f u).stage u.line.command (under_after k f u).line.command (none_waits z f past actor u k may refl) L

-- ---- where each slot has a log

each_logged : (slots : MemorySlots) (id : ℕ) (slot : MemorySlot) → are_logged slots ≡ true → slot_of_id id slots ≡ Some slot → slot.logged ≡ true
each_logged [] id slot all there = absurd (cc there)
each_logged ((j, m) ∷ slots) id slot all there =
    by (j == id) there (parts m.logged (list_any (λ (e : ℕ × MemorySlot). not e.1.logged) slots) all)
    (λ rest at. each_logged slots id slot rest at)
  where
    parts : (a b : Bool) → not (not a || b) ≡ true → (a ≡ true) × (not b ≡ true)
    parts true false e = (refl, refl)
    parts true true e = absurd (cc e)
    parts false b e = absurd (cc e)

    by : (b : Bool) → cond b (Some m) (slot_of_id id slots) ≡ Some slot → (m.logged ≡ true) × (are_logged slots ≡ true)
        → (are_logged slots ≡ true → slot_of_id id slots ≡ Some slot → slot.logged ≡ true) → slot.logged ≡ true
    by true at both rest = ap (λ (x : MemorySlot). x.logged) (sym (same_Some m slot at)) ∙ both.0
    by false at both rest = rest both.1 at

pub all_are_armed : (f : Facts) (s : Stage) (command : Command) → AreArmed f → LogsAreArmed f s command → unarmed s command ≡ None
    → are_logged f.slots ≡ true → AllAreArmed f
all_are_armed f s command A L none all gfn page behind = by (slot_holding gfn f.slots) refl (page_held f.slots gfn page behind)
  where
    on : (j : ℕ) → (f.armed j ≡ true) ⊎ (unarmed s command ≡ Some j) → f.armed j ≡ true
    on j (inl is) = is
    on j (inr waits) = absurd (cc (waits, none))

    by : (o : Option (ℕ × MemorySlot)) → slot_holding gfn f.slots ≡ o → is_some o ≡ true → is_armed f.slots f.armed gfn ≡ true
    by None at there = absurd (cc there)
    by (Some (j, m)) at there =
        let S = holding_stands 0 gfn j m f.slots A.rising at in
        ap (is_some_and (λ (entry : ℕ × MemorySlot). f.armed entry.0)) at ∙ on j (L j m S.there (each_logged f.slots j m all S.there))
