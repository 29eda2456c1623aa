-- What a line that runs alone makes of its actor's seat.
use Rattle.std.specs.Prelude.{◌≡◌, ◌++◌, List, Some, IfSome}
use Rattle.core_views.specs.declared.answer.Answer.{Answer}
use Rattle.core_views.specs.declared.kind.Kind.{Kind}
use Rattle.core_views.specs.declared.trace.Line.{Line}
use Rattle.core_views.specs.Held.{Held}
use Rattle.mmu_core.specs.machine.Enabled.{mmu}
use Rattle.mmu_core.specs.alone.LineAlone.{LineAlone}
use Rattle.mmu_core.specs.machine.Machine.{Step, World, hand_in, run}
use Rattle.step_seats.specs.Seats.{Seat}
use Rattle.turn_loops.specs.Replays.{RunsAlone}

-- The seat tells a world, whose hand its actor has, and in it the actor's line is alone.
pub record LineIsAlone (seat : Seat) : Type 0 where
  pub world : World Held
  pub is : seat.tells.world ≡ Some world
  pub has : hand_in mmu world seat.actor ≡ seat.hand
  pub alone : LineAlone seat.hand.state.sizes world seat.actor

-- The line ran alone: some steps of its actor alone lead from what the seat told before to what it tells after.
pub record RanAlone (line : Line) (answer : Answer) (before after : Seat) : Type 0 where
  pub steps : List (Step Kind)
  pub world : IfSome before.tells.world (λ w.
      RunsAlone before.hand.state.sizes before.actor line answer steps w × (after.tells.world ≡ Some (run mmu w steps)))
  pub added : IfSome before.tells.steps (λ ss. after.tells.steps ≡ Some (ss ++ steps))
