-- A line changes a slot or a host page once at most, and its answer says whether it did.
use Rattle.std.proofs.Common.{◌≡◌, ◌⊎◌, inl, inr, ℕ, Bool, true, false, List, [], ◌∷◌, refl, sym, ap, ◌∙◌, subst}
use Rattle.std.specs.Prelude.{Option, Some, None}
use Rattle.core_views.specs.declared.actor.Actor.{Actor}
use Rattle.core_views.specs.declared.event.Event.{Event}
use Rattle.core_views.specs.declared.event.EventKind.{EventKind}
use Rattle.core_views.specs.declared.event.EventKind.TheVariants.{Begun, LookedAtPause, LookedAtSlots, LookedAtHost, BroughtIn, Accessed, Exited, SlotChanged}
use Rattle.core_views.specs.declared.event.EventKind.TheVariants.{HostChanged, Armed, Taken, Harvested, Shown, Answered}
use Rattle.core_views.specs.declared.event.EventKind.TheVariants.{GuestStopped, MigrationStarted, PauseSet, Resumed, WordCopied}
use Rattle.core_views.specs.declared.host.HostEntry.{HostEntry}
use Rattle.core_views.specs.declared.sizes.Sizes.{Sizes}
use Rattle.core_views.specs.declared.trace.Command.{Command}
use Rattle.core_views.specs.declared.trace.Line.{Line}
use Rattle.core_views.specs.Alone.{IsInside}
use Rattle.core_views.specs.Events.{after, after_all, facts_after, logs_left, stage_copied, stage_read, stage_taken, to_read_or_copy, under_after}
use Rattle.core_views.specs.Flat.{Facts, Flat, HasArmed, HasChanged, HasChangedHost, HasTakenNext, HasToCopy}
use Rattle.core_views.specs.Flat.{LineUnderWay, Stage}
use Rattle.core_views.specs.Lawful.{IsAllowed, IsLawful, MayHarvest, MayRead}
use Rattle.core_views.specs.LogCommands.{log_read}
use Rattle.core_views.specs.Past.{Past}
use Rattle.core_views.specs.SlotSets.{MemorySlots}
use Rattle.flat_laws.specs.Writes.{StaysWithin}
use Rattle.slot_laws.specs.OneChange.{AsksFor, TellsNoChange, TellsOne, is_change}
use Rattle.slot_laws.proofs.LineEvents.{over_line}
use Rattle.core_views.specs.HostRuns.{sets_run}
use Rattle.core_views.proofs.RunStages.{changed_one}

-- ---- what a line at a stage has changed

-- none; or one, with the entry that it has given to a host page, if it is of one
abbrev pub made : Stage → Option (Option HostEntry)
made HasChanged = Some None
made HasArmed = Some None
made (HasChangedHost entry) = Some (Some entry)
made _ = None

abbrev pub entry_told : EventKind → Option HostEntry
entry_told (HostChanged page entry) = Some entry
entry_told _ = None

-- After an event of its own it has made a change that it asks for, its first one, or as many as before.
data Own (z : Sizes) (f : Facts) (u : LineUnderWay) (kind : EventKind) : Type 0 where
  Keeps : is_change kind ≡ false → made (under_after kind f u).stage ≡ made u.stage → Own z f u kind
  Makes : made u.stage ≡ None → made (under_after kind f u).stage ≡ Some (entry_told kind) → AsksFor z f u.line.command kind → Own z f u kind

taken_none : (read : Option ℕ) (left : List ℕ) (id : ℕ) → made (stage_taken read left id) ≡ None
taken_none None left id = refl
taken_none (Some other) left id = refl

to_none : (ids : List ℕ) (f : Facts) → made (to_read_or_copy ids f) ≡ None
to_none [] f = refl
to_none (id ∷ ids) f = refl

read_none : (stage : Stage) (frames : List ℕ) (f : Facts) → made (stage_read stage frames f) ≡ None
read_none (HasTakenNext id ids) frames f = to_none ids f
read_none _ frames f = refl

left_none : (slots : MemorySlots) (command : Command) (stage : Stage) (id : ℕ) (ids : List ℕ) → logs_left slots command stage ≡ id ∷ ids → made stage ≡ None
left_none slots command HasChanged id ids left = absurd (cc left)
left_none slots command HasArmed id ids left = absurd (cc left)
left_none slots command (HasChangedHost entry) id ids left = absurd (cc left)
left_none slots command _ id ids left = refl

copied_none : (whole : Bool) (gfn : ℕ) (frames : List ℕ) (count word : ℕ) → made (stage_copied whole (HasToCopy (gfn ∷ frames) count word)) ≡ None
copied_none true gfn frames count word = refl
copied_none false gfn frames count word = refl

begun_none : (z : Sizes) (f : Facts) (past : Past) (u : LineUnderWay) (id : ℕ) (frames : List ℕ)
    → MayRead z f past u.line.command u.stage id frames true ⊎ MayHarvest f past u.line.command u.stage id frames → made u.stage ≡ None
begun_none z f past u id frames (inl M) = ap made M.begun
begun_none z f past u id frames (inr M) = ap made M.begun

own : (z : Sizes) (f : Facts) (past : Past) (actor : Actor) (u : LineUnderWay) (kind : EventKind) → sets_run u.line.command ≡ false
    → IsAllowed z f past actor u kind → IsInside kind → Own z f u kind
own z f past actor u (Begun l) none may inside = absurd inside
own z f past actor u (Answered number answer) none may inside = absurd inside
own z f past actor u LookedAtPause none may inside = Keeps refl refl
own z f past actor u LookedAtSlots none may inside = Keeps refl refl
own z f past actor u (LookedAtHost page) none may inside = Keeps refl refl
own z f past actor u (BroughtIn page) none may inside = Keeps refl refl
own z f past actor u (Accessed gfn word op frame value) none may inside = Keeps refl (sym (ap made may.0))
own z f past actor u (Exited answer) none may inside = Keeps refl (sym (ap made may.0))
own z f past actor u (SlotChanged id slot) none may inside = Makes (ap made may.0) refl may.2
own z f past actor u (Armed id all) none may inside = Keeps refl (sym (ap made may.0))
own z f past actor u (Taken id) none (inl may) inside =
    Keeps refl (taken_none (log_read u.line.command) (logs_left f.slots u.line.command u.stage) id ∙ sym (ap made may.0))
own z f past actor u (Taken id) none (inr may) inside =
    Keeps refl (taken_none (log_read u.line.command) (logs_left f.slots u.line.command u.stage) id
    ∙ sym (left_none f.slots u.line.command u.stage id may.ids may.left))
own z f past actor u (Harvested id frames) none may inside =
    Keeps refl (read_none u.stage frames (facts_after (Harvested id frames) f) ∙ sym (begun_none z f past u id frames may))
own z f past actor u (Shown id frames) none may inside = Keeps refl (sym (ap made may.begun))
own z f past actor u (HostChanged page entry) none (inl may) inside =
    Makes (ap made may.0) (ap made (changed_one u.line.command f.host u.stage page entry page may.1.change may.0 may.1.asked))
    (may.1.change, may.1.asked, may.1.changes)
own z f past actor u (HostChanged page entry) none (inr (inl may)) inside = absurd (let sets = ap sets_run may.1.asked in cc (none, sets))
own z f past actor u (HostChanged page entry) none (inr (inr may)) inside = absurd (let sets = ap sets_run may.asked in cc (none, sets))
own z f past actor u MigrationStarted none may inside = Keeps refl (sym (ap made may.0))
own z f past actor u PauseSet none may inside = Keeps refl (sym (ap made may.0))
own z f past actor u GuestStopped none may inside = Keeps refl (to_none _ _ ∙ sym (ap made may))
own z f past actor u (WordCopied gfn page word value whole) none may inside =
    Keeps refl (ap (λ (s : Stage). made (stage_copied whole s)) may.left ∙ copied_none whole gfn may.frames may.count word ∙ sym (ap made may.left))
own z f past actor u Resumed none may inside = Keeps refl (sym (ap made may.0))

-- ---- over its events, and those of others between them

abbrev pub made_by : Line → Flat → Option (Option HostEntry)
made_by line f = made (f.under line.actor).stage

-- None of the events is a change by the line, and it has changed what it had; or one is, and it had changed nothing before.
pub data Walked (z : Sizes) (line : Line) (f : Flat) (es : List Event) : Type 0 where
  None_ : TellsNoChange line.actor es → made_by line (after_all es f) ≡ made_by line f → Walked z line f es
  One_ : (kind : EventKind) → TellsOne z line kind f es → made_by line f ≡ None → made_by line (after_all es f) ≡ Some (entry_told kind) → Walked z line f es

module _ (z : Sizes) (line : Line) where
  abbrev under_in : Flat → LineUnderWay
  under_in f = f.under line.actor

  abbrev made_in : Flat → Option (Option HostEntry)
  made_in f = made_by line f

  keeps_on : (e : Event) (es : List Event) (f : Flat) → (e.actor ≡ line.actor → is_change e.kind ≡ false) → made_in (after e f) ≡ made_in f
      → Walked z line (after e f) es → Walked z line f (e ∷ es)
  keeps_on e es f leaves same (None_ none end_) = None_ (leaves, none) (end_ ∙ same)
  keeps_on e es f leaves same (One_ kind T none end_) = One_ kind (record {
    early = e ∷ T.early;
    late = T.late;
    events_are = ap (λ (xs : List Event). e ∷ xs) T.events_are;
    asked = T.asked;
    none_early = (leaves, T.none_early);
    none_late = T.none_late;
  }) (sym same ∙ none) end_

  makes_now : (e : Event) (es : List Event) (f : Flat) → e.actor ≡ line.actor → made_in f ≡ None → made_in (after e f) ≡ Some (entry_told e.kind)
      → AsksFor z f.facts line.command e.kind → Walked z line (after e f) es → Walked z line f (e ∷ es)
  makes_now e es f mine none makes asks (None_ leaves end_) = One_ e.kind (record {
    early = [];
    late = es;
    events_are = ap (λ (a : Actor). record { actor = a; kind = e.kind } ∷ es) mine;
    asked = asks;
    none_early = tt;
    none_late = leaves;
  }) none (end_ ∙ makes)
  makes_now e es f mine none makes asks (One_ kind T none_yet end_) = absurd (cc (none_yet, makes))

  pub walked : (es : List Event) (f : Flat) → sets_run line.command ≡ false → IsLawful z f es → StaysWithin line.actor es → (under_in f).line ≡ line
      → Walked z line f es
  walked es f none lawful within is =
      over_line z line (Walked z line) (λ g same. None_ tt refl)
      (λ e g xs apart still more. keeps_on e xs g (λ mine. absurd (apart mine)) (ap (λ (u : LineUnderWay). made u.stage) still) more)
      (λ e g xs mine inside same may now_ more. by_own e g xs mine same now_
      (own z g.facts g.past line.actor (under_in g) e.kind (ap (λ (l : Line). sets_run l.command) same ∙ none) may inside) more)
      es f lawful within is
    where
      by_own : (e : Event) (g : Flat) (xs : List Event) → e.actor ≡ line.actor → (under_in g).line ≡ line
          → under_in (after e g) ≡ under_after e.kind g.facts (under_in g) → Own z g.facts (under_in g) e.kind → Walked z line (after e g) xs
          → Walked z line g (e ∷ xs)
      by_own e g xs mine same now_ (Keeps leaves unmade) more =
          keeps_on e xs g (λ own_. leaves) (ap (λ (u : LineUnderWay). made u.stage) now_ ∙ unmade) more
      by_own e g xs mine same now_ (Makes none makes asks) more =
          makes_now e xs g mine none (ap (λ (u : LineUnderWay). made u.stage) now_ ∙ makes)
          (subst (λ (l : Line). AsksFor z g.facts l.command e.kind) same asks) more
