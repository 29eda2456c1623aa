-- What a line was answered, by the hand that has the answer.
use Rattle.std.specs.Prelude.{◌≡◌, ℕ}
use Rattle.core_views.specs.declared.answer.Answer.{Answer}
use Rattle.core_views.specs.declared.trace.Line.{Line}
use Rattle.core_views.specs.Held.{Held}
use Rattle.mmu_core.specs.machine.Enabled.{mmu}
use Rattle.mmu_core.specs.machine.Machine.{World, hand_in}
use Rattle.mmu_core.specs.machine.Turns.{IsAnswered}
use Rattle.step_seats.specs.declared.turn.Turn.{Turn}
use Rattle.step_seats.specs.LineTurns.{answer_given, turn_told}

-- what an actor's line was answered between these worlds
abbrev pub given_in : ℕ → World Held → World Held → Answer
given_in actor before after = answer_given (hand_in mmu before actor) (hand_in mmu after actor)

-- what the actor's turn between them answered
abbrev pub told_in : Turn (Unit {0}) → ℕ → World Held → World Held → Turn Answer
told_in turn actor before after = turn_told turn (hand_in mmu before actor) (hand_in mmu after actor)

-- It is what the hand's last line was answered, whichever line that was.
abbrev pub IsLastAnswer : Answer → Held → Type 0
IsLastAnswer answer h = (line : Line) → (given : Answer) → (before : Held) → IsAnswered line given before h → answer ≡ given
