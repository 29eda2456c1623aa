-- What a line tells of changes, of slots and of host pages: in words over the events between its begin and its answer.
use Rattle.std.specs.Prelude.{◌≡◌, ◌≢◌, ◌⊎◌, ℕ, Bool, List, [], ◌∷◌, ◌++◌, Some, true, false}
use Rattle.core_views.specs.declared.actor.Actor.{Actor}
use Rattle.core_views.specs.declared.answer.Answer.{Answer}
use Rattle.core_views.specs.declared.answer.Answer.TheVariants.{Done, Refused}
use Rattle.core_views.specs.declared.event.Event.{Event}
use Rattle.core_views.specs.declared.event.EventKind.{EventKind}
use Rattle.core_views.specs.declared.event.EventKind.TheVariants.{Answered, Begun, HostChanged, SlotChanged}
use Rattle.core_views.specs.declared.host.HostEntry.{HostEntry}
use Rattle.core_views.specs.declared.sizes.Sizes.{Sizes}
use Rattle.core_views.specs.declared.trace.Command.{Command}
use Rattle.core_views.specs.declared.trace.Command.TheVariants.{ChangeHost}
use Rattle.core_views.specs.declared.trace.HostChange.{HostChange}
use Rattle.core_views.specs.declared.trace.Line.{Line}
use Rattle.core_views.specs.Events.{after_all}
use Rattle.core_views.specs.Flat.{Facts, Flat, Idle, first_flat}
use Rattle.core_views.specs.HostChanges.{Changes, changes_host, host_answer}
use Rattle.core_views.specs.Lawful.{IsLawful}
use Rattle.core_views.specs.SlotCommands.{changes_slot, slot_change}
use Rattle.flat_laws.specs.Writes.{StaysWithin}
use Rattle.slot_laws.specs.DoneLines.{ChangesOnce, HasNothingToDo, begins_after, by}

-- The event changes a slot or a host page.
abbrev pub is_change : EventKind → Bool
is_change (SlotChanged id slot) = true
is_change (HostChanged page entry) = true
is_change _ = false

-- None of the events is such a change by this actor.
abbrev pub TellsNoChange : Actor → List Event → Type 0
TellsNoChange own [] = Unit {0}
TellsNoChange own (e ∷ es) = (e.actor ≡ own → is_change e.kind ≡ false) × TellsNoChange own es

-- The command asks for this change, with these facts.
abbrev pub AsksFor : Sizes → Facts → Command → EventKind → Type 0
AsksFor z f command (SlotChanged id slot) = slot_change f.slots command ≡ Some (id, slot)
AsksFor z f command (HostChanged page entry) = (change : HostChange) × (command ≡ ChangeHost page change) × Changes z f.host page change entry
AsksFor z f command _ = ⊥

-- Of these events, which come after this state, just one is a change by the line's actor; it is this one, for which the line asks, with the facts right before
-- it.
pub record TellsOne (z : Sizes) (line : Line) (kind : EventKind) (f : Flat) (events : List Event) : Type 0 where
  pub early : List Event
  pub late : List Event
  pub events_are : events ≡ early ++ (by line kind ∷ late)
  pub asked : AsksFor z (after_all early f).facts line.command kind
  pub none_early : TellsNoChange line.actor early
  pub none_late : TellsNoChange line.actor late

abbrev pub is_refused : Answer → Bool
is_refused (Refused refusal) = true
is_refused _ = false

-- A slot line that is answered done has changed its slot once, as it asks, or it has nothing to do; one that is refused, or starved, has changed nothing.
pub record SlotLineTells (z : Sizes) (line : Line) (answer : Answer) (f : Flat) (events : List Event) : Type 0 where
  pub done : answer ≡ Done → ChangesOnce line f events ⊎ HasNothingToDo z line f events
  pub other : answer ≢ Done → TellsNoChange line.actor events

-- A host line that isn't refused has changed its host page once, as it asks, and is answered so; one that is refused has changed nothing.
pub record HostLineTells (z : Sizes) (line : Line) (answer : Answer) (f : Flat) (events : List Event) : Type 0 where
  pub done : is_refused answer ≡ false
      → (page : ℕ) × (entry : HostEntry) × TellsOne z line (HostChanged page entry) f events × (answer ≡ host_answer line.command entry)
  pub refused : is_refused answer ≡ true → TellsNoChange line.actor events

-- It is so of each answered line with such a command, in each lawful history.
abbrev pub OfAnswered : (Command → Bool) → (Sizes → Line → Answer → Flat → List Event → Type 0) → Type 0
OfAnswered has Tells =
    (z : Sizes) (before between : List Event) (line : Line) (answer : Answer) → has line.command ≡ true
    → IsLawful z first_flat (before ++ (by line (Begun line) ∷ (between ++ (by line (Answered line.number answer) ∷ []))))
    → StaysWithin line.actor between
    → Tells z line answer (begins_after line before) between

-- Each slot line that is answered tells one change of its slot or none, as its answer says.
abbrev pub SlotLinesTell : Type 0
SlotLinesTell = OfAnswered changes_slot SlotLineTells

-- Each host line that is answered tells one change of its host page or none, as its answer says.
abbrev pub HostLinesTell : Type 0
HostLinesTell = OfAnswered changes_host HostLineTells

-- In this history the actor has begun this line, and has answered none since.
pub record HasBegunLine (history : List Event) (actor : Actor) (line : Line) : Type 0 where
  pub before : List Event
  pub since : List Event
  pub history_is : history ≡ before ++ (record { actor = actor; kind = Begun line } ∷ since)
  pub within : StaysWithin actor since

-- In a lawful history, so it is of each line that is under way.
abbrev pub LinesUnderWayHaveBegun : Type 0
LinesUnderWayHaveBegun =
    (z : Sizes) (history : List Event) (actor : Actor) → IsLawful z first_flat history → ((after_all history first_flat).under actor).stage ≢ Idle
    → HasBegunLine history actor ((after_all history first_flat).under actor).line
