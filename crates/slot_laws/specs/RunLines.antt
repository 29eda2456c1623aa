-- What a line tells that makes a run of host pages large, or the pages of a large one small: in words over the events between its begin and its answer.
use Rattle.std.specs.Prelude.{◌≡◌, ◌+◌, ℕ, zero, suc, List, ◌∷◌, ◌++◌, None, true, false}
use Rattle.core_views.specs.declared.answer.Answer.{Answer}
use Rattle.core_views.specs.declared.answer.Answer.TheVariants.{Done}
use Rattle.core_views.specs.declared.event.Event.{Event}
use Rattle.core_views.specs.declared.event.EventKind.TheVariants.{HostChanged}
use Rattle.core_views.specs.declared.sizes.Sizes.{Sizes}
use Rattle.core_views.specs.declared.trace.Command.TheVariants.{ChangeRun}
use Rattle.core_views.specs.declared.trace.Line.{Line}
use Rattle.core_views.specs.declared.trace.RunChange.{RunChange}
use Rattle.core_views.specs.Events.{after, after_all}
use Rattle.core_views.specs.Flat.{Flat}
use Rattle.core_views.specs.Host.{HostMap}
use Rattle.core_views.specs.HostRuns.{level_set, run_count, run_first, run_refusal, sets_run}
use Rattle.slot_laws.specs.DoneLines.{by}
use Rattle.slot_laws.specs.OneChange.{OfAnswered, TellsNoChange, is_refused}

-- the line's change of this host page, which keeps all that the host maps it to but for its level
abbrev pub level_change : Line → ℕ → ℕ → Flat → Event
level_change line page level f = by line (HostChanged page (record (f.facts.host page) { level = level }))

-- Of these events, which come after this state, just so many are changes by the line's actor: of this host page and of those after it, one after another, each
-- once; and each page keeps all but its level, which is this one then.
abbrev pub SetsPages : Line → ℕ → ℕ → ℕ → Flat → List Event → Type 0
SetsPages line page zero level f events = TellsNoChange line.actor events
SetsPages line page (suc left) level f events =
    (early : List Event) × (late : List Event) × (events ≡ early ++ (level_change line page level (after_all early f) ∷ late))
    × TellsNoChange line.actor early
    × SetsPages line (page + 1) left level (after (level_change line page level (after_all early f)) (after_all early f)) late

-- the first page that the line sets, where the host maps its pages so
abbrev pub first_set : RunChange → ℕ → HostMap → ℕ
first_set change at host = run_first change at (host at)

-- These events, which come after this state, set the run for which the line asks, whole, each page once. With the first change, right before which the host
-- maps its pages so that the run isn't refused, the others follow.
pub record SetsItsRun (line : Line) (f : Flat) (events : List Event) : Type 0 where
  pub at : ℕ
  pub change : RunChange
  pub asked : line.command ≡ ChangeRun at change
  pub early : List Event
  pub rest : List Event
  pub host : HostMap
  pub host_is : host ≡ (after_all early f).facts.host
  pub events_are : events ≡ early ++ (level_change line (first_set change at host) (level_set change) (after_all early f) ∷ rest)
  pub none_early : TellsNoChange line.actor early
  pub fits : run_refusal host at change ≡ None
  pub sets :
      SetsPages line (first_set change at host) (run_count change (host at)) (level_set change) (after_all early f)
      (level_change line (first_set change at host) (level_set change) (after_all early f) ∷ rest)

-- A line of a run that isn't refused is answered done, and has set its run; one that is refused has changed nothing.
pub record RunLineTells (z : Sizes) (line : Line) (answer : Answer) (f : Flat) (events : List Event) : Type 0 where
  pub done : is_refused answer ≡ false → (answer ≡ Done) × SetsItsRun line f events
  pub refused : is_refused answer ≡ true → TellsNoChange line.actor events

-- In a lawful history: each line of a run that is answered has set its run, as it asks, or has changed nothing, as its answer says.
abbrev pub RunLinesTell : Type 0
RunLinesTell = OfAnswered sets_run RunLineTells
