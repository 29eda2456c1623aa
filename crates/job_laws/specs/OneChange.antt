-- What is told once a turn answers a line of a job for slots, or of one for host pages: the whole of this line, with exactly one change, those of its run, or
-- none.
use Rattle.std.specs.Prelude.{◌≡◌, ◌<◌, Bool, List, [], ◌∷◌, ◌++◌, Some, length, true}
use Rattle.core_views.specs.declared.answer.Answer.{Answer}
use Rattle.core_views.specs.declared.event.Event.{Event}
use Rattle.core_views.specs.declared.event.EventKind.TheVariants.{Answered, Begun}
use Rattle.core_views.specs.declared.kind.Kind.{Kind}
use Rattle.core_views.specs.declared.sizes.Sizes.{Sizes}
use Rattle.core_views.specs.declared.trace.Command.{Command}
use Rattle.core_views.specs.declared.trace.Line.{Line}
use Rattle.core_views.specs.Flat.{Flat}
use Rattle.core_views.specs.Held.{Held}
use Rattle.core_views.specs.HostChanges.{changes_host}
use Rattle.core_views.specs.HostRuns.{sets_run}
use Rattle.core_views.specs.SlotCommands.{changes_slot}
use Rattle.flat_laws.specs.Writes.{StaysWithin}
use Rattle.mmu_core.specs.machine.Enabled.{mmu}
use Rattle.mmu_core.specs.machine.Machine.{Legal, Step, World, run}
use Rattle.mmu_core.specs.machine.Turns.{line_of}
use Rattle.mmu_core.specs.machine.Worlds.{IsStart, history}
use Rattle.slot_laws.specs.DoneLines.{begins_after, by}
use Rattle.slot_laws.specs.OneChange.{HostLineTells, SlotLineTells}
use Rattle.slot_laws.specs.RunLines.{RunLineTells}
use Rattle.step_seats.specs.LineTurns.{TurnsLine}
use Rattle.step_seats.specs.Moves.{step_by}
use Rattle.step_seats.specs.Seats.{Seat}
use Rattle.step_seats.specs.declared.turn.Turn.TheVariants.{Done}

-- These events end with the whole of the line: its begin, then no begin and no answer of its actor, then this answer. And this is so, of the state after the
-- begin and of the events between it and the answer.
pub record EndsWithLine (line : Line) (answer : Answer) (Tells : Flat → List Event → Type 0) (told : List Event) : Type 0 where
  pub before : List Event
  pub between : List Event
  pub told_is : told ≡ before ++ (by line (Begun line) ∷ (between ++ (by line (Answered line.number answer) ∷ [])))
  pub within : StaysWithin line.actor between
  pub tells : Tells (begins_after line before) between

-- Where a turn answers the hand's line, and the seat told a world before it, all steps that led there from a start, whatever they are, tell with the turn's own
-- the whole of this line, and it is so.
abbrev pub OfAnsweredTurns : (Command → Bool) → (Sizes → Line → Answer → Flat → List Event → Type 0) → Type 0
OfAnsweredTurns has Tells =
    (z : Sizes) (lines : List Line) (start : World Held) (ss : List (Step Kind)) (before after : Seat) (answer : Answer)
    → IsStart z lines start → Legal mmu start ss → before.tells.world ≡ Some (run mmu start ss)
    → length before.hand.answers < length before.hand.lines → has (line_of before.hand).command ≡ true
    → (turns : TurnsLine (Done answer) before after)
    → EndsWithLine (line_of before.hand) answer (Tells z (line_of before.hand) answer)
    (history start (ss ++ step_by before.actor turns.makes.kind ∷ []))

-- A line of a slot's change: between its begin and its answer it changed its slot once, as it asks, and was answered done; or it had nothing to do; or it was
-- refused, or starved, and changed nothing.
abbrev pub SlotJobsChangeOnce : Type 0
SlotJobsChangeOnce = OfAnsweredTurns changes_slot SlotLineTells

-- A line of a host page's change: it changed its page once, as it asks, and was answered so; or it was refused, and changed nothing.
abbrev pub HostJobsChangeOnce : Type 0
HostJobsChangeOnce = OfAnsweredTurns changes_host HostLineTells

-- A line of a run of host pages: it set its run, each page once, in rising order, and was answered done; or it was refused, and changed nothing.
abbrev pub HostRunJobsTell : Type 0
HostRunJobsTell = OfAnsweredTurns sets_run RunLineTells
