-- What an event of an actor makes and tells of accesses, by its kind: what the line under way has open before it, and what it makes, is what it tells, and
-- what is open after it.
use Rattle.std.proofs.Common.{◌≡◌, ◌&&◌, ◌⊎◌, inl, inr, ℕ, Bool, true, false, List, [], ◌∷◌, ◌++◌, refl, sym, ap, ◌∙◌, subst}
use Rattle.std.specs.Prelude.{Option, Some, None, map, if◌then◌else◌}
use Rattle.std.specs.Map.{keys_of}
use Rattle.std.specs.Option.{option_map}
use Rattle.std.proofs.lemmas.List.{append-nil}
use Rattle.core_views.specs.declared.actor.Actor.{Actor}
use Rattle.core_views.specs.declared.answer.Answer.{Answer}
use Rattle.core_views.specs.declared.answer.Answer.TheVariants.{Reached, Refused}
use Rattle.core_views.specs.declared.answer.Refusal.{Refusal}
use Rattle.core_views.specs.declared.answer.Refusal.TheVariants.{NotLogged, NotStarted}
use Rattle.core_views.specs.declared.event.EventKind.{EventKind}
use Rattle.core_views.specs.declared.event.EventKind.TheVariants.{Begun, LookedAtPause, LookedAtSlots, LookedAtHost, BroughtIn, Accessed, Exited, SlotChanged}
use Rattle.core_views.specs.declared.event.EventKind.TheVariants.{HostChanged, Armed, Taken, Harvested, Shown, Answered}
use Rattle.core_views.specs.declared.event.EventKind.TheVariants.{GuestStopped, MigrationStarted, PauseSet, Resumed, WordCopied}
use Rattle.core_views.specs.declared.host.HostEntry.{HostEntry}
use Rattle.core_views.specs.declared.migration.Migration.{Migration}
use Rattle.core_views.specs.declared.sizes.Sizes.{Sizes}
use Rattle.core_views.specs.declared.trace.Command.{Command}
use Rattle.core_views.specs.declared.trace.Command.TheVariants.{Access, ChangeHost, ChangeRun, ClearLog, DeleteSlot, GetLog, Migrate, SetLog, SetSlot, Split}
use Rattle.core_views.specs.declared.trace.HostChange.{HostChange}
use Rattle.core_views.specs.declared.trace.HostChange.TheVariants.{Move}
use Rattle.core_views.specs.declared.trace.MigrationCall.{MigrationCall}
use Rattle.core_views.specs.declared.trace.MigrationCall.TheVariants.{Start, Round, Finish, Resume}
use Rattle.core_views.specs.AtOnce.{HasWork, answer_at_once, answer_unbarred}
use Rattle.core_views.specs.Copies.{MayHarvest, MayReadNext, copied_answer}
use Rattle.core_views.specs.Events.{facts_after, logs_left, stage_copied, stage_read, stage_taken, to_read_or_copy, under_after}
use Rattle.core_views.specs.Flat.{Facts, LineUnderWay, Stage, Fresh, HasAccessed, HasLeft, HasChanged, HasArmed, HasTaken, HasRead}
use Rattle.core_views.specs.Flat.{HasCalled, HasChangedHost, HasToSet, HasSetPause, HasTakenNext, HasToCopy, Notes}
use Rattle.core_views.specs.HostChanges.{host_answer, host_refusal}
use Rattle.core_views.specs.Lawful.{IsAllowed, MayLeave, MayRead, Tells}
use Rattle.core_views.specs.LogCommands.{log_read, read_refusal}
use Rattle.core_views.specs.Migrations.{are_logged, call_answer, has_no_slot, is_barred, is_migrating, is_running, is_stopped, or_barred, round_answer}
use Rattle.core_views.specs.Past.{Past}
use Rattle.core_views.specs.SlotCommands.{change_at_once, refused_or_done}
use Rattle.core_views.specs.SlotSets.{MemorySlots}
use Rattle.word_laws.specs.Accesses.{Told, made_by, open_access, open_at, told, told_by}
use Rattle.core_views.specs.HostRuns.{run_at_once}
use Rattle.core_views.proofs.RunStages.{changes_at, each_change}

-- what an event tells of an access
abbrev pub told_of : EventKind → List Told
told_of (Answered line answer) = told_by line answer
told_of _ = []

-- A line that was given up isn't answered that it has reached a frame.
abbrev pub LeavesWell : Stage → Type 0
LeavesWell (HasLeft answer) = (number : ℕ) → told_by number answer ≡ []
LeavesWell _ = Unit {0}

-- A line at this stage has no access open.
abbrev IsQuiet : Stage → Type 0
IsQuiet stage = ((number : ℕ) → open_at number stage ≡ []) × LeavesWell stage

-- ---- the answers that tell no access

abbrev told_if : ℕ → Option Answer → List Told
told_if number None = []
told_if number (Some answer) = told_by number answer

no_refusal : (number : ℕ) (refusal : Option Refusal) → told_if number (option_map (λ r. Refused r) refusal) ≡ []
no_refusal number None = refl
no_refusal number (Some refusal) = refl

no_change : (number : ℕ) (answer : Option (Option Refusal)) → told_if number (option_map refused_or_done answer) ≡ []
no_change number None = refl
no_change number (Some None) = refl
no_change number (Some (Some refusal)) = refl

no_round : (number : ℕ) (runs none : Bool) → told_if number (round_answer runs none) ≡ []
no_round number false none = refl
no_round number true true = refl
no_round number true false = refl

unless : (number : ℕ) (b : Bool) (refusal : Refusal) → told_if number (if b then None else Some (Refused refusal)) ≡ []
unless number true refusal = refl
unless number false refusal = refl

no_call : (number : ℕ) (slots : MemorySlots) (migration : Migration) (call : MigrationCall) → told_if number (call_answer slots migration call) ≡ []
no_call number slots migration Start = unless number (are_logged slots) NotLogged
no_call number slots migration Round = no_round number (is_running migration) (has_no_slot slots)
no_call number slots migration Finish = unless number (is_running migration) NotStarted
no_call number slots migration Resume = unless number (is_stopped migration) NotStarted

unbarred : (number : ℕ) (z : Sizes) (slots : MemorySlots) (migration : Migration) (actor : Actor) (command : Command)
    → told_if number (answer_unbarred z slots migration actor command) ≡ []
unbarred number z slots migration actor (ChangeHost page change) = no_refusal number (host_refusal z actor page)
unbarred number z slots migration actor (ChangeRun page change) = no_refusal number (run_at_once z actor page change)
unbarred number z slots migration actor (GetLog id) = no_refusal number (read_refusal (GetLog id) slots)
unbarred number z slots migration actor (ClearLog id first count words) = no_refusal number (read_refusal (ClearLog id first count words) slots)
unbarred number z slots migration actor (Migrate call) = no_call number slots migration call
unbarred number z slots migration actor (Access gfn word op) = refl
unbarred number z slots migration actor (Split gfn) = refl
unbarred number z slots migration actor (SetSlot id slot) = no_change number (change_at_once z (SetSlot id slot) slots)
unbarred number z slots migration actor (DeleteSlot id) = no_change number (change_at_once z (DeleteSlot id) slots)
unbarred number z slots migration actor (SetLog id on) = no_change number (change_at_once z (SetLog id on) slots)

barred_or : (number : ℕ) (barred : Bool) (answer : Option Answer) → told_if number answer ≡ [] → told_if number (or_barred barred answer) ≡ []
barred_or number true answer none = refl
barred_or number false answer none = none

-- A line that has nothing to do tells none.
at_once_none : (number : ℕ) (z : Sizes) (f : Facts) (actor : Actor) (command : Command)
    → told_if number (answer_at_once z f.slots f.migration actor command) ≡ []
at_once_none number z f actor command =
    barred_or number (is_barred command && is_migrating f.migration) (answer_unbarred z f.slots f.migration actor command)
    (unbarred number z f.slots f.migration actor command)

host_none : (number : ℕ) (command : Command) (entry : HostEntry) → told_by number (host_answer command entry) ≡ []
host_none number (ChangeHost page Move) entry = refl
host_none number _ entry = refl

copied_none : (number : ℕ) (z : Sizes) (command : Command) (count : ℕ) (f : Facts) → told_by number (copied_answer z command count f) ≡ []
copied_none number z (Migrate Finish) count f = refl
copied_none number z _ count f = refl

-- nor does one that is given up
left_none : (z : Sizes) (f : Facts) (actor : Actor) (command : Command) (notes : Notes) (answer : Answer) → MayLeave z f actor command notes answer
    → (number : ℕ) → told_by number answer ≡ []
left_none z f actor (Access gfn word op) notes (Reached frame value) may number = absurd may
left_none z f actor (ChangeHost page change) notes (Reached frame value) may number = absurd (reaches_none change may)
  where
    reaches_none : (c : HostChange) → MayLeave z f actor (ChangeHost page c) notes (Reached frame value) → ⊥
    reaches_none Move is = is
    reaches_none _ is = is
left_none z f actor _ notes (Reached frame value) may number = absurd may
left_none z f actor _ notes _ may number = refl

-- ---- the answer of a line at its stage

answered_so : (z : Sizes) (f : Facts) (actor : Actor) (command : Command) (stage : Stage) (answer : Answer) (number : ℕ)
    → Tells z f actor command stage answer → LeavesWell stage → open_at number stage ≡ told_by number answer
answered_so z f actor command (HasAccessed frame value) answer number tells well = sym (ap (told_by number) tells)
answered_so z f actor command (HasLeft how) answer number tells well = sym (ap (told_by number) tells ∙ well number)
answered_so z f actor command HasChanged answer number tells well = sym (ap (told_by number) tells.0)
answered_so z f actor command HasArmed answer number tells well = sym (ap (told_by number) tells)
answered_so z f actor command (HasRead frames) answer number tells well = sym (ap (told_by number) tells)
answered_so z f actor command (HasChangedHost entry) answer number tells well = sym (ap (told_by number) tells ∙ host_none number command entry)
answered_so z f actor command (HasToSet page left level) answer number tells well = sym (ap (told_by number) tells.1)
answered_so z f actor command HasCalled answer number tells well = sym (ap (told_by number) tells)
answered_so z f actor command (HasToCopy frames count word) answer number tells well =
    sym (ap (told_by number) tells.1 ∙ copied_none number z command count f)
answered_so z f actor command Fresh answer number tells well = sym (ap (told_if number) (sym tells) ∙ at_once_none number z f actor command)
answered_so z f actor command _ answer number tells well = absurd tells

-- ---- stages with no access open

quiet_taken : (log : Option ℕ) (left : List ℕ) (id : ℕ) → IsQuiet (stage_taken log left id)
quiet_taken None left id = (λ number. refl, tt)
quiet_taken (Some other) left id = (λ number. refl, tt)

quiet_next : (ids : List ℕ) (f : Facts) → IsQuiet (to_read_or_copy ids f)
quiet_next [] f = (λ number. refl, tt)
quiet_next (id ∷ ids) f = (λ number. refl, tt)

quiet_read : (stage : Stage) (frames : List ℕ) (f : Facts) → IsQuiet (stage_read stage frames f)
quiet_read (HasTakenNext id ids) frames f = quiet_next ids f
quiet_read _ frames f = (λ number. refl, tt)

quiet_copied : (whole : Bool) (frames : List ℕ) (count word : ℕ) → IsQuiet (stage_copied whole (HasToCopy frames count word))
quiet_copied false frames count word = (λ number. refl, tt)
quiet_copied true (frame ∷ frames) count word = (λ number. refl, tt)
quiet_copied true [] count word = (λ number. refl, tt)

logs_quiet : (slots : MemorySlots) (command : Command) (stage : Stage) (id : ℕ) (ids : List ℕ) (number : ℕ)
    → logs_left slots command stage ≡ id ∷ ids → open_at number stage ≡ []
logs_quiet slots command (HasAccessed frame value) id ids number left = absurd (cc left)
logs_quiet slots command _ id ids number left = refl

-- ---- an event

pub record Goes (u : LineUnderWay) (kind : EventKind) (then_ : LineUnderWay) : Type 0 where
  pub counts : open_access u ++ map told (made_by u.line kind) ≡ told_of kind ++ open_access then_
  pub well : LeavesWell then_.stage

closed : (u : LineUnderWay) (stage : Stage) → u.stage ≡ stage → open_at u.line.number stage ≡ [] → open_access u ≡ []
closed u stage is none = ap (open_at u.line.number) is ∙ none

-- an event after which none is open, as none was before, and that makes and tells none
quietly : (u then_ : LineUnderWay) → open_access u ≡ [] → IsQuiet then_.stage → (open_access u ++ [] ≡ open_access then_) × LeavesWell then_.stage
quietly u then_ none quiet = (append-nil (open_access u) ∙ none ∙ sym (quiet.0 then_.line.number), quiet.1)

pub own_goes : (z : Sizes) (f : Facts) (past : Past) (actor : Actor) (u : LineUnderWay) (kind : EventKind) → IsAllowed z f past actor u kind
    → LeavesWell u.stage → Goes u kind (under_after kind f u)
own_goes z f past actor u (Begun line) may well =
    record { counts = append-nil (open_access u) ∙ ap (open_at u.line.number) may.0; well = tt }
own_goes z f past actor u LookedAtPause may well = record { counts = append-nil (open_access u); well = well }
own_goes z f past actor u LookedAtSlots may well = record { counts = append-nil (open_access u); well = well }
own_goes z f past actor u (LookedAtHost page) may well = record { counts = append-nil (open_access u); well = well }
own_goes z f past actor u (BroughtIn page) may well = record { counts = append-nil (open_access u); well = well }
own_goes z f past actor u (Accessed gfn word op frame before) may well = record {
  counts = ap (λ (xs : List Told). xs ++ (record { number = u.line.number; frame = frame; value = before } ∷ [])) (closed u Fresh may.0 refl);
  well = tt;
}
own_goes z f past actor u (Exited answer) may well = record {
  counts = append-nil (open_access u) ∙ closed u Fresh may.0 refl;
  well = left_none z f actor u.line.command u.notes answer may.1;
}
own_goes z f past actor u (SlotChanged id slot) may well = record { counts = append-nil (open_access u) ∙ closed u Fresh may.0 refl; well = tt }
own_goes z f past actor u (HostChanged page entry) may well = record {
  counts = append-nil (open_access u)
      ∙ (changes_at (λ s. open_at u.line.number s ≡ []) refl (λ p l n. refl) z f past actor u page entry may
      ∙ sym (each_change (λ s. open_at u.line.number s ≡ []) (λ e. refl) (λ p l n. refl) u.line.command f.host u.stage page entry));
  well = each_change LeavesWell (λ e. tt) (λ p l n. tt) u.line.command f.host u.stage page entry;
}
own_goes z f past actor u (Armed id all) may well = record { counts = append-nil (open_access u) ∙ closed u HasChanged may.0 refl; well = tt }
own_goes z f past actor u (Taken id) may well = record { counts = Q.0; well = Q.1 }
  where
    none : ((u.stage ≡ Fresh) × HasWork z f actor u.line.command × (log_read u.line.command ≡ Some id)) ⊎ MayReadNext z f actor u id → open_access u ≡ []
    none (inl first) = closed u Fresh first.0 refl
    none (inr next) = logs_quiet f.slots u.line.command u.stage id next.ids u.line.number next.left

    Q : (open_access u ++ [] ≡ open_access (under_after (Taken id) f u)) × LeavesWell (under_after (Taken id) f u).stage
    Q =
        quietly u (under_after (Taken id) f u) (none may)
        (quiet_taken (log_read u.line.command) (logs_left f.slots u.line.command u.stage) id)
own_goes z f past actor u (Harvested id frames) may well = record { counts = Q.0; well = Q.1 }
  where
    none : MayRead z f past u.line.command u.stage id frames true ⊎ MayHarvest f past u.line.command u.stage id frames → open_access u ≡ []
    none (inl one) = closed u (HasTaken id) one.begun refl
    none (inr next) = closed u (HasTakenNext id next.ids) next.begun refl

    Q : (open_access u ++ [] ≡ open_access (under_after (Harvested id frames) f u)) × LeavesWell (under_after (Harvested id frames) f u).stage
    Q =
        quietly u (under_after (Harvested id frames) f u) (none may)
        (quiet_read u.stage frames (facts_after (Harvested id frames) f))
own_goes z f past actor u (Shown id frames) may well =
    record { counts = append-nil (open_access u) ∙ closed u (HasTaken id) may.begun refl; well = tt }
own_goes z f past actor u MigrationStarted may well = record { counts = append-nil (open_access u) ∙ closed u Fresh may.0 refl; well = tt }
own_goes z f past actor u PauseSet may well = record { counts = append-nil (open_access u) ∙ closed u Fresh may.0 refl; well = tt }
own_goes z f past actor u GuestStopped may well = record { counts = Q.0; well = Q.1 }
  where
    Q : (open_access u ++ [] ≡ open_access (under_after GuestStopped f u)) × LeavesWell (under_after GuestStopped f u).stage
    Q =
        quietly u (under_after GuestStopped f u) (closed u HasSetPause may refl)
        (quiet_next (keys_of f.slots) (facts_after GuestStopped f))
own_goes z f past actor u (WordCopied gfn page word value whole) may well = record { counts = Q.0; well = Q.1 }
  where
    stage : Stage
    stage = HasToCopy (gfn ∷ may.frames) may.count word

    Q : (open_access u ++ [] ≡ open_access (under_after (WordCopied gfn page word value whole) f u))
        × LeavesWell (under_after (WordCopied gfn page word value whole) f u).stage
    Q =
        quietly u (under_after (WordCopied gfn page word value whole) f u) (closed u stage may.left refl)
        (subst (λ (s : Stage). IsQuiet (stage_copied whole s)) (sym may.left) (quiet_copied whole (gfn ∷ may.frames) may.count word))
own_goes z f past actor u Resumed may well = record { counts = append-nil (open_access u) ∙ closed u Fresh may.0 refl; well = tt }
own_goes z f past actor u (Answered line answer) may well = record {
  counts = append-nil (open_access u)
      ∙ answered_so z f actor u.line.command u.stage answer u.line.number may.1 well
      ∙ ap (λ (n : ℕ). told_by n answer) (sym may.0)
      ∙ sym (append-nil (told_by line answer));
  well = tt;
}
