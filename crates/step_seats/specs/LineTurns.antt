-- What one turn of a line's job is: the line's next step, and what the turn answers of it.
use Rattle.std.specs.Prelude.{◌≡◌, ℕ, Bool, true, false, Option, Some, None, length, slice_get, unwrap_or}
use Rattle.core_views.specs.declared.actor.Actor.TheVariants.{Manager}
use Rattle.core_views.specs.declared.answer.Answer.{Answer}
use Rattle.core_views.specs.declared.answer.Answer.TheVariants.{Mmio}
use Rattle.core_views.specs.declared.answer.AnsweredLine.{AnsweredLine}
use Rattle.core_views.specs.declared.progress.Seen.{Seen}
use Rattle.core_views.specs.declared.kind.Kind.{Kind}
use Rattle.core_views.specs.declared.place.AccessPlace.TheVariants.{Fault}
use Rattle.core_views.specs.declared.place.Cause.{Cause}
use Rattle.core_views.specs.declared.place.FaultEnd.TheVariants as end_of
use Rattle.core_views.specs.declared.place.FaultNext.{FaultNext}
use Rattle.core_views.specs.declared.place.FaultNext.TheVariants as next_of
use Rattle.core_views.specs.declared.place.FaultPlace.TheVariants as fault
use Rattle.core_views.specs.declared.place.Place.{Place}
use Rattle.core_views.specs.declared.place.Place.TheVariants as place
use Rattle.core_views.specs.declared.trace.Command.{Command}
use Rattle.core_views.specs.declared.trace.Command.TheVariants.{Access}
use Rattle.core_views.specs.declared.trace.Line.{Line}
use Rattle.core_views.specs.Held.{Held}
use Rattle.core_views.specs.Slots.{is_write}
use Rattle.mmu_core.specs.declared.outcome.Outcome.{Outcome}
use Rattle.mmu_core.specs.declared.outcome.Outcome.TheVariants.{Goes, Ends}
use Rattle.mmu_core.specs.forms.access.AccessSteps.{behind_fault}
use Rattle.mmu_core.specs.machine.Enabled.{Enabled}
use Rattle.mmu_core.specs.forms.access.FaultSteps.{fault_next}
use Rattle.mmu_core.specs.alone.LineAlone.{line_waits}
use Rattle.mmu_core.specs.lines.Forms.{outcome_at}
use Rattle.mmu_core.specs.machine.Steps.{next, place_at}
use Rattle.mmu_core.specs.machine.Turns.{GoesOn, IsAnswered, line_of}
pub use Rattle.mmu_steps.specs.Waits.{line_seen, seen_by}
use Rattle.step_seats.specs.Moves.{Adds, ToldBy}
use Rattle.step_seats.specs.Seats.{Seat}
use Rattle.step_seats.specs.Where.{AnsweredThere}
use Rattle.step_seats.specs.declared.turn.Turn.{Turn}
use Rattle.step_seats.specs.declared.turn.Turn.TheVariants.{More, Wait, Retry, Done}

-- what stands where no line is answered
abbrev pub no_answer : AnsweredLine
no_answer = record { number = 0; actor = Manager; answer = Mmio }

-- what the hand's next line was answered, by the hand that has one answer more
abbrev pub answer_given : Held → Held → Answer
answer_given before after = (unwrap_or (slice_get after.answers (length before.answers)) no_answer).answer

-- What a turn answers: it says itself that its line is answered, and the hand after it with what.
abbrev pub turn_told : Turn (Unit {0}) → Held → Held → Turn Answer
turn_told More before after = More
turn_told (Wait seen) before after = Wait seen
turn_told (Retry cause) before after = Retry cause
turn_told (Done u) before after = Done (answer_given before after)

-- what it says itself
abbrev pub untold : Turn Answer → Turn (Unit {0})
untold More = More
untold (Wait seen) = Wait seen
untold (Retry cause) = Retry cause
untold (Done answer) = Done tt

-- what a turn answers, by where the line stands after its step
abbrev pub turn_of : Outcome → Turn Answer
turn_of (Goes place) = More
turn_of (Ends answer) = Done answer

-- a fault that begins anew says why
abbrev pub or_anew : FaultNext → Turn Answer → Turn Answer
or_anew (next_of.Ends (end_of.Retry fast cause)) turn = Retry cause
or_anew _ turn = turn

-- what the turn of an access's fault answers, by what is next after its step
abbrev pub fault_turn : FaultNext → Turn Answer
fault_turn next = or_anew next (turn_of (behind_fault next))

-- what the turn of a line at this place answers of a step that found v, where no other actor is in its way
abbrev pub line_turn : Place → Command → Held → ℕ → Turn Answer
line_turn (place.Access (Fault p)) (Access gfn word op) h v = fault_turn (fault_next p h.state.sizes gfn (is_write op) h.topics v)
line_turn p command h v = turn_of (outcome_at p command h v)

-- why an access begins anew with the step of this place, where its fault ends so
abbrev pub cause_at : Place → Option Cause
cause_at (place.Access (Fault (fault.End (end_of.Retry fast cause)))) = Some cause
cause_at _ = None

-- The turn waits exactly where its step waits for another actor, and says what it has seen; where it doesn't wait it answers so.
abbrev pub WaitsElse : Turn Answer → Bool → Seen → Turn Answer → Type 0
WaitsElse (Wait seen) waits way t = (waits ≡ true) × (seen ≡ way)
WaitsElse turn waits way t = (waits ≡ false) × (turn ≡ t)

-- One step that the hand allows takes the actor's hand, and what its seat tells, to the next, and it answered this where it was made.
pub record MakesLine (before after : Seat) : Type 0 where
  pub kind : Kind
  pub found : ℕ
  pub enabled : Enabled before.hand kind
  pub hand : after.hand ≡ next before.hand kind found
  pub world : ToldBy before.tells.world before.actor kind found after.tells.world
  pub steps : Adds before.tells.steps before.actor kind after.tells.steps
  pub answers : AnsweredThere kind found before after

-- The turn of a hand's next line answers so of a step that found v.
abbrev pub AnswersBy : Turn Answer → Held → ℕ → Type 0
AnswersBy turn h v =
    WaitsElse turn (line_waits (place_at h.state.place h) (line_of h).command h v)
    (line_seen (place_at h.state.place h) (line_of h).command h v)
    (line_turn (place_at h.state.place h) (line_of h).command h v)

-- The line's next step was made, and the turn answers by it.
pub record TurnsLine (turn : Turn Answer) (before after : Seat) : Type 0 where
  pub makes : MakesLine before after
  pub gives : AnswersBy turn before.hand makes.found

-- what a turn says of its line, and of the hand before and after it
abbrev pub Says : Turn Answer → Line → Held → Held → Type 0
Says (Done answer) line before after = IsAnswered line answer before after
Says _ line before after = GoesOn line before after
