-- The reader's own line is in its reading until this ends, and nobody else has a line that reads.
use Rattle.std.proofs.Common.{◌≡◌, ◌⊎◌, inl, inr, ℕ, Bool, true, false, List, [], ◌∷◌, ◌++◌, refl, sym, ap, ◌∙◌, subst, append_assoc}
use Rattle.std.specs.Prelude.{None, Option, Some, if◌then◌else◌}
use Rattle.core_views.specs.declared.actor.Actor.{Actor}
use Rattle.core_views.specs.declared.event.Event.{Event}
use Rattle.core_views.specs.declared.event.EventKind.{EventKind}
use Rattle.core_views.specs.declared.event.EventKind.TheVariants.{Begun, LookedAtPause, LookedAtSlots, LookedAtHost}
use Rattle.core_views.specs.declared.event.EventKind.TheVariants.{Armed, Taken, Harvested, Shown, Answered}
use Rattle.core_views.specs.declared.sizes.Sizes.{Sizes}
use Rattle.core_views.specs.declared.trace.Line.{Line}
use Rattle.core_views.specs.Actors.{is_same}
use Rattle.core_views.specs.LogCommands.{log_read, reads_logs}
use Rattle.core_views.specs.declared.answer.Answer.{Answer}
use Rattle.core_views.specs.declared.trace.Command.{Command}
use Rattle.core_views.specs.declared.trace.Command.TheVariants.{ClearLog, GetLog}
use Rattle.core_views.specs.declared.event.EventKind.TheVariants.{GuestStopped, HostChanged, WordCopied}
use Rattle.core_views.specs.SlotSets.{MemorySlots}
use Rattle.flat_laws.proofs.StagesGoOn.{was_busy}
use Rattle.core_views.specs.Past.{Past}
use Rattle.core_views.specs.Flat.{Facts, Flat, LineUnderWay, Stage, Idle, Fresh, HasChanged, HasSetPause, HasTaken, HasTakenNext, HasToCopy, first_flat}
use Rattle.core_views.specs.Events.{after, after_all, logs_left, stage_taken, under_after}
use Rattle.core_views.specs.Lawful.{IsAllowed, IsLawful, Tells, may_look}
use Rattle.flat_laws.specs.Writes.{IsNoTaking, NoneIsTaken, DueFramesAreKept}
use Rattle.core_views.proofs.SameActor.{changed_here, same_is}
use Rattle.flat_laws.proofs.Writes.{apart_actors}
use Rattle.log_laws.specs.HarvestLaws.{IsStoppedAfter, made_by, NobodyWrites}
use Rattle.log_laws.specs.OneReader.{EndsNone, LeavesReading, LoneReadingsAreComplete, LoneReadingsReadAll}
use Rattle.log_laws.specs.OneReader.{OnlyReads, ReadingsAreApart, StillReads, StoppedReadingsAreComplete}
use Rattle.flat_laws.proofs.AloneIsLawful.{lawful_parts}
use Rattle.log_laws.proofs.Readings.{complete}
use Rattle.core_views.specs.FlatHistory.{harvest}
use Rattle.core_views.proofs.RunStages.{changes_at}

-- No line is under way, or one that reads no log.
abbrev IsNoReader : LineUnderWay → Type 0
IsNoReader u = (u.stage ≡ Idle) ⊎ (reads_logs u.line.command ≡ false)

abbrev OthersReadNone : Actor → Flat → Type 0
OthersReadNone reader f = (other : Actor) → is_same other reader ≡ false → IsNoReader (f.under other)

-- The line goes on.
goes_on : (u v : LineUnderWay) → v.line ≡ u.line → (u.stage ≡ Idle → ⊥) → IsNoReader u → IsNoReader v
goes_on u v same busy (inl idle) = absurd (busy idle)
goes_on u v same busy (inr none) = inr (ap (λ (l : Line). reads_logs l.command) same ∙ none)

still_none : (z : Sizes) (f : Facts) (past : Past) (actor reader : Actor) (u : LineUnderWay) (kind : EventKind) → IsAllowed z f past actor u kind
    → LeavesReading reader actor kind → (actor ≡ reader → ⊥) → IsNoReader u → IsNoReader (under_after kind f u)
still_none z f past actor reader u (Begun line) may (inl mine) other N = absurd (other mine)
still_none z f past actor reader u (Begun line) may (inr none) other N = inr none
still_none z f past actor reader u (Answered line answer) may leaves other N = inl refl
still_none z f past actor reader u kind may leaves other N = goes_on u (under_after kind f u) refl (was_busy z f past actor u kind tt may) N

others_after : (z : Sizes) (reader : Actor) (e : Event) (f : Flat) → IsAllowed z f.facts f.past e.actor (f.under e.actor) e.kind
    → LeavesReading reader e.actor e.kind → OthersReadNone reader f → OthersReadNone reader (after e f)
others_after z reader e f may leaves N other apart = by (is_same e.actor other) refl
  where
    by : (b : Bool) → is_same e.actor other ≡ b → IsNoReader (if b then under_after e.kind f.facts (f.under e.actor) else f.under other)
    by false is = N other apart
    by true is =
        let same : e.actor ≡ other = same_is e.actor other is in
        still_none z f.facts f.past e.actor reader (f.under e.actor) e.kind may leaves (λ mine. apart_actors other reader apart (sym same ∙ mine))
        (N e.actor (subst (λ (x : Actor). is_same x reader ≡ false) (sym same) apart))

others_then : (z : Sizes) (reader : Actor) (xs ys : List Event) (f : Flat) → IsLawful z f (xs ++ ys) → OnlyReads reader xs → OthersReadNone reader f
    → OthersReadNone reader (after_all xs f)
others_then z reader [] ys f lawful only N = N
others_then z reader (e ∷ es) ys f lawful only N =
    others_then z reader es ys (after e f) lawful.1 only.1 (others_after z reader e f lawful.0 only.0 N)

-- It has begun to read a log, and not read it yet.
abbrev is_reading : Stage → Bool
is_reading (HasTaken id) = true
is_reading (HasTakenNext id ids) = true
is_reading _ = false

at_other : (s t : Stage) → s ≡ t → is_reading t ≡ false → is_reading s ≡ true → ⊥
at_other s t is none reads = let not_ : is_reading s ≡ false = ap is_reading is ∙ none in cc (not_, reads)

taking_reads : (read : Option ℕ) (left : List ℕ) (id : ℕ) → is_reading (stage_taken read left id) ≡ true
taking_reads None left id = refl
taking_reads (Some other) left id = refl

looks_not : (s : Stage) → may_look s ≡ true → is_reading s ≡ true → ⊥
looks_not (HasTaken id) may reads = cc may
looks_not (HasTakenNext id ids) may reads = cc may
looks_not _ may reads = cc reads

left_not : (slots : MemorySlots) (command : Command) (s : Stage) (id : ℕ) (ids : List ℕ) → logs_left slots command s ≡ id ∷ ids → is_reading s ≡ true → ⊥
left_not slots command (HasTaken i) id ids left reads = cc left
left_not slots command (HasTakenNext i xs) id ids left reads = cc left
left_not slots command _ id ids left reads = cc reads

tells_not : (z : Sizes) (f : Facts) (actor : Actor) (command : Command) (s : Stage) (answer : Answer) → Tells z f actor command s answer
    → is_reading s ≡ true → ⊥
tells_not z f actor command (HasTaken id) answer tells reads = tells
tells_not z f actor command (HasTakenNext id ids) answer tells reads = tells
tells_not z f actor command _ answer tells reads = cc reads

-- In its reading the reader makes no other event than its end.
reads_on : (z : Sizes) (f : Facts) (past : Past) (actor reader : Actor) (u : LineUnderWay) (kind : EventKind) → IsAllowed z f past actor u kind
    → is_reading u.stage ≡ true → EndsNone reader actor kind → actor ≡ reader → ⊥
reads_on z f past actor reader u LookedAtPause may in_it ends mine = at_other u.stage Fresh may refl in_it
reads_on z f past actor reader u LookedAtSlots may in_it ends mine = at_other u.stage Fresh may refl in_it
reads_on z f past actor reader u (LookedAtHost page) may in_it ends mine = looks_not u.stage may in_it
reads_on z f past actor reader u (Begun line) may in_it ends mine = at_other u.stage Idle may.0 refl in_it
reads_on z f past actor reader u (Armed i all) may in_it ends mine = at_other u.stage HasChanged may.0 refl in_it
reads_on z f past actor reader u (Taken i) (inl may) in_it ends mine = at_other u.stage Fresh may.0 refl in_it
reads_on z f past actor reader u (Taken i) (inr may) in_it ends mine = left_not f.slots u.line.command u.stage i may.ids may.left in_it
reads_on z f past actor reader u (Harvested i frames) may in_it ends mine = ends mine
reads_on z f past actor reader u (Shown i frames) may in_it ends mine = ends mine
reads_on z f past actor reader u GuestStopped may in_it ends mine = at_other u.stage HasSetPause may refl in_it
reads_on z f past actor reader u (WordCopied gfn page word value whole) may in_it ends mine =
    at_other u.stage (HasToCopy (gfn ∷ may.frames) may.count word) may.left refl in_it
reads_on z f past actor reader u (Answered line answer) may in_it ends mine = tells_not z f actor u.line.command u.stage answer may.1 in_it
reads_on z f past actor reader u (HostChanged page entry) may in_it ends mine =
    changes_at (λ s. is_reading s ≡ true → ⊥) (λ e. cc e) (λ p l n e. cc e) z f past actor u page entry may in_it
reads_on z f past actor reader u _ may in_it ends mine = at_other u.stage Fresh may.0 refl in_it

-- Nobody begins to read who has no line that does.
reads_one : (command : Command) (id : ℕ) → log_read command ≡ Some id → reads_logs command ≡ false → ⊥
reads_one (GetLog i) id reads none = cc none
reads_one (ClearLog i first count words) id reads none = cc none
reads_one _ id reads none = cc reads

takes_none : (z : Sizes) (f : Facts) (past : Past) (actor : Actor) (u : LineUnderWay) (kind : EventKind) → IsAllowed z f past actor u kind
    → IsNoReader u → IsNoTaking kind
takes_none z f past actor u (Taken id) may (inl idle) = was_busy z f past actor u (Taken id) tt may idle
takes_none z f past actor u (Taken id) (inl may) (inr none) = reads_one u.line.command id may.2 none
takes_none z f past actor u (Taken id) (inr may) (inr none) = let reads = ap reads_logs may.asked in absurd (cc (reads, none))
takes_none z f past actor u _ may N = tt

none_between : (z : Sizes) (reader : Actor) (id : ℕ) (es : List Event) (f : Flat) → IsLawful z f es → OnlyReads reader es → StillReads reader es
    → is_reading (f.under reader).stage ≡ true → OthersReadNone reader f → NoneIsTaken es
none_between z reader id [] f lawful only still in_it N = tt
none_between z reader id (e ∷ es) f lawful only still in_it N =
    by (is_same e.actor reader) refl (λ in_it_ M. none_between z reader id es (after e f) lawful.1 only.1 still.1 in_it_ M)
  where
    by : (b : Bool) → is_same e.actor reader ≡ b
        → (is_reading ((after e f).under reader).stage ≡ true → OthersReadNone reader (after e f) → NoneIsTaken es) → NoneIsTaken (e ∷ es)
    by true is later =
        let mine : e.actor ≡ reader = same_is e.actor reader is in
        absurd (reads_on z f.facts f.past e.actor reader (f.under e.actor) e.kind lawful.0
        (subst (λ (x : Actor). is_reading (f.under x).stage ≡ true) (sym mine) in_it) still.0 mine)
    by false is later = (
      takes_none z f.facts f.past e.actor (f.under e.actor) e.kind lawful.0 (N e.actor is),
      later (ap (λ (b : Bool). is_reading (if b then under_after e.kind f.facts (f.under e.actor) else f.under reader).stage) is ∙ in_it)
          (others_after z reader e f lawful.0 only.0 N),
    )

pub apart : ReadingsAreApart
apart z before between reader id lawful early late still =
    none_between z reader id between (after taken f) rest.1 late still
    (ap (λ (u : LineUnderWay). is_reading u.stage) (changed_here reader (under_after (Taken id) f.facts (f.under reader)) f.under)
    ∙ taking_reads (log_read (f.under reader).line.command) (logs_left f.facts.slots (f.under reader).line.command (f.under reader).stage) id)
    (others_after z reader taken f rest.0 tt
    (others_then z reader before (taken ∷ between) first_flat lawful early (λ other apart_. inl refl)))
  where
    taken : Event
    taken = made_by reader (Taken id)

    f : Flat
    f = after_all before first_flat

    rest : IsLawful z f (taken ∷ between)
    rest = (lawful_parts z before (taken ∷ between) first_flat lawful).1

-- So none is left out.
lone_reads : (Held : List Event → ℕ → Type 0) → DueFramesAreKept
    → ((before : List Event) (gfn : ℕ) → Held before gfn → NobodyWrites before gfn ⊎ IsStoppedAfter before) → LoneReadingsReadAll Held
lone_reads Held kept excuse z before between reader id takes frames lawful early late still gfn dirty held asked =
    complete kept z before between reader id takes frames lawful
    (apart z before between reader id (lawful_parts z (before ++ (made_by reader (Taken id) ∷ between)) last first_flat
    (subst (IsLawful z first_flat) (sym (append_assoc before (made_by reader (Taken id) ∷ between) last)) lawful)).0 early late still)
    gfn dirty (excuse before gfn held) asked
  where
    last : List Event
    last = made_by reader (harvest takes id frames) ∷ []

pub lone_complete : DueFramesAreKept → LoneReadingsAreComplete
lone_complete kept = lone_reads NobodyWrites kept (λ before gfn nobody. inl nobody)

pub stopped_complete : DueFramesAreKept → StoppedReadingsAreComplete
stopped_complete kept = lone_reads (λ before gfn. IsStoppedAfter before) kept (λ before gfn stopped. inr stopped)
