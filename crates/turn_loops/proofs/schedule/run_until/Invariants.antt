use Rattle.std.proofs.Common.{◌≡◌, length}
use Rattle.mmu_laws.proofs.turns.OwnTurns.{turns_left}
use Rattle.step_seats.specs.Machines.{world_in}
use Rattle.turn_loops.specs.Turning.{AreMarked}
use Rattle.turn_loops.proofs.Coming.{SoFar}
use Rattle.turn_loops.proofs.TurnLists.{TurnsGoOn}
use Rattle.turn_loops.proofs.schedule.run_until.Given as goal

abbrev pub invariant-loop : goal.invariant-loop
invariant-loop g l = record {
  so_far : SoFar g.P.TurnPrinter.prints (AreMarked (TurnsGoOn l.until l.fn.index))
      (world_in (g.M.MachineOwner.machine l.fn.machine)) (world_in (g.M.MachineOwner.machine l.machine)) l.fn.printer l.printer;
  sizes : (g.M.MachineOwner.machine l.machine).sizes ≡ (g.M.MachineOwner.machine l.fn.machine).sizes;
  hands : length (g.M.MachineOwner.machine l.machine).hands ≡ length (g.M.MachineOwner.machine l.fn.machine).hands;
}

abbrev pub decreases-loop : goal.decreases-loop
decreases-loop g l = turns_left (world_in (g.M.MachineOwner.machine l.machine)) l.fn.index
