-- What a turn that was made tells, by the hand that has the answer.
use Rattle.std.specs.Prelude.{◌≡◌, Bool, true, false}
use Rattle.core_views.specs.declared.answer.Answer.{Answer}
use Rattle.core_views.specs.declared.trace.Line.{Line}
use Rattle.core_views.specs.Held.{Held}
use Rattle.mmu_core.specs.machine.Turns.{IsAnswered}
use Rattle.step_seats.specs.declared.turn.Turn.{Turn}
use Rattle.step_seats.specs.declared.turn.Turn.TheVariants.{More, Wait, Retry, Done}

-- The turn says so, and this is all of what it says: where it is done, the hand has its answer.
abbrev pub TellsAll : Turn (Unit {0}) → Turn Answer → Held → Type 0
TellsAll More told h = told ≡ More
TellsAll (Wait seen) told h = told ≡ Wait seen
TellsAll (Retry cause) told h = told ≡ Retry cause
TellsAll (Done u) told h = (answer : Answer) × (line : Line) × (before : Held) × (told ≡ Done answer) × IsAnswered line answer before h

-- The line goes on with the turn.
abbrev pub is_going : Turn (Unit {0}) → Bool
is_going More = true
is_going _ = false
