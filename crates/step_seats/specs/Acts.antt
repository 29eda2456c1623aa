-- What one act of a seat makes of it.
use Rattle.std.specs.Prelude.{◌≡◌, ℕ, IfSome}
use Rattle.core_views.specs.declared.kind.Kind.{Kind}
use Rattle.mmu_core.specs.machine.Steps.{next}
use Rattle.step_seats.specs.Moves.{Adds, ToldBy}
use Rattle.step_seats.specs.Seats.{Seat}
use Rattle.step_seats.specs.Where.{AnsweredThere, HasHand}

-- The seat's actor made this step, which answered so: its hand is the next one, what the seat tells goes on by this step, and the step
-- answers so where it was made. The world that is told after it has the actor's hand.
pub record Acts (kind : Kind) (answer : ℕ) (before after : Seat) : Type 0 where
  pub hand : after.hand ≡ next before.hand kind answer
  pub world : ToldBy before.tells.world before.actor kind answer after.tells.world
  pub steps : Adds before.tells.steps before.actor kind after.tells.steps
  pub answers : AnsweredThere kind answer before after
  pub has : IfSome after.tells.world (HasHand after.actor after.hand)
