-- Histories in which each line stands alone: between its begin and its answer there is nothing of another line. And what such a history shows, beside
-- what its lines looked at.
use Rattle.std.specs.Prelude.{◌≡◌, ◌≢◌, List, [], ◌∷◌, ◌++◌, Bool, true, false, if◌then◌else◌, Some, None}
use Rattle.core_views.specs.declared.answer.Answer.{Answer}
use Rattle.core_views.specs.declared.answer.Answer.TheVariants.{Refused, Starved}
use Rattle.core_views.specs.declared.answer.Refusal.TheVariants.{NoFrame}
use Rattle.core_views.specs.declared.event.Event.{Event}
use Rattle.core_views.specs.declared.event.EventKind.{EventKind}
use Rattle.core_views.specs.declared.event.EventKind.TheVariants.{Begun, LookedAtPause, LookedAtSlots, LookedAtHost, Exited, HostChanged}
use Rattle.core_views.specs.declared.event.EventKind.TheVariants.{Harvested, Shown, Answered}
use Rattle.core_views.specs.declared.sizes.Sizes.{Sizes}
use Rattle.core_views.specs.declared.trace.Command.{Command}
use Rattle.core_views.specs.declared.trace.Command.TheVariants.{ChangeHost}
use Rattle.core_views.specs.declared.trace.HostChange.TheVariants.{Move}
use Rattle.core_views.specs.declared.trace.Line.{Line}
use Rattle.core_views.specs.HostChanges.{lowest_free}
use Rattle.core_views.specs.LogCommands.{asked_frames}
use Rattle.core_views.specs.SlotSets.{slot_of_id}
use Rattle.core_views.specs.Flat.{Facts, Flat}
use Rattle.core_views.specs.Events.{after}
use Rattle.core_views.specs.FlatHistory.{by}

-- The event only notes what is true: it changes no fact and is nobody's answer.
abbrev pub is_look : EventKind → Bool
is_look LookedAtPause = true
is_look LookedAtSlots = true
is_look (LookedAtHost page) = true
is_look _ = false

-- the history, but for what its lines looked at
abbrev pub without_looks : List Event → List Event
without_looks [] = []
without_looks (e ∷ es) = if is_look e.kind then without_looks es else e ∷ without_looks es

-- The event stands within a line: it neither begins nor answers one.
abbrev pub IsInside : EventKind → Type 0
IsInside (Begun line) = ⊥
IsInside (Answered line answer) = ⊥
IsInside _ = Unit {0}

-- Each of the events is of the line's actor, and stands within a line.
abbrev pub AreWithin : Line → List Event → Type 0
AreWithin line [] = Unit {0}
AreWithin line (e ∷ es) = (e.actor ≡ line.actor) × IsInside e.kind × AreWithin line es

-- The history starts with the whole of this line: its begin, events of its own, its answer; the rest comes after.
pub record StandsFirst (line : Line) (history rest : List Event) : Type 0 where
  pub within : List Event
  pub answer : Answer
  pub are_within : AreWithin line within
  pub history_is : history ≡ by line (Begun line) ∷ (within ++ (by line (Answered line.number answer) ∷ rest))

-- The history is these lines, one after another, each alone.
abbrev pub StandsAlone : List Event → List Line → Type 0
StandsAlone history [] = history ≡ []
StandsAlone history (line ∷ lines) = (rest : List Event) × StandsFirst line history rest × StandsAlone rest lines

-- A move takes the lowest frame that no page names, and it is refused a frame only where there is none.
abbrev pub TakesLowest : Sizes → Facts → Command → EventKind → Type 0
TakesLowest z f command (Exited (Refused NoFrame)) = lowest_free z f.host ≡ None
TakesLowest z f (ChangeHost page Move) (HostChanged other entry) = lowest_free z f.host ≡ Some entry.frame
TakesLowest _ _ _ _ = Unit {0}

-- What is read of a log is just the dirty frames for which the line asks.
abbrev pub ReadsDirty : Facts → Command → EventKind → Type 0
ReadsDirty f command (Harvested id frames) = frames ≡ asked_frames f.pending command (slot_of_id id f.slots)
ReadsDirty f command (Shown id frames) = frames ≡ asked_frames f.pending command (slot_of_id id f.slots)
ReadsDirty _ _ _ = Unit {0}

-- So does each move of the history, in the state that the events before it give.
abbrev pub TakeLowest : Sizes → Flat → List Event → Type 0
TakeLowest z f [] = Unit {0}
TakeLowest z f (e ∷ es) = TakesLowest z f.facts (f.under e.actor).line.command e.kind × TakeLowest z (after e f) es

-- So does each reading of the history.
abbrev pub ReadDirty : Flat → List Event → Type 0
ReadDirty f [] = Unit {0}
ReadDirty f (e ∷ es) = ReadsDirty f.facts (f.under e.actor).line.command e.kind × ReadDirty (after e f) es

-- No line of the history is given up for want of a pool page.
abbrev pub NoneStarved : List Event → Type 0
NoneStarved [] = Unit {0}
NoneStarved (e ∷ es) = (e.kind ≢ Exited Starved) × NoneStarved es

-- Where flat memory leaves an event of such a line open, it falls as the flat history's does: no line is given up for want of a pool page, a move takes
-- the lowest frame, and what is read of a log is just what is dirty.
abbrev pub FallsAsFlat : Sizes → Facts → Command → EventKind → Type 0
FallsAsFlat z f command kind = (kind ≢ Exited Starved) × TakesLowest z f command kind × ReadsDirty f command kind

-- So falls each event of the history, in the state that the events before it give.
abbrev pub FallAsFlat : Sizes → Flat → List Event → Type 0
FallAsFlat z f [] = Unit {0}
FallAsFlat z f (e ∷ es) = FallsAsFlat z f.facts (f.under e.actor).line.command e.kind × FallAsFlat z (after e f) es
