use Rattle.std.proofs.Common.{◌≡◌, ◌+◌, ◌-◌, ◌*◌, ◌≤◌, length}
use Rattle.step_seats.specs.Machines.{world_in}
use Rattle.turn_loops.proofs.RoundLists.{RoundsSoFar}
use Rattle.turn_loops.proofs.rounds.run_rounds.Given as goal

abbrev pub invariant-loop-passed : goal.invariant-loop-passed
invariant-loop-passed g l = record {
  so_far : RoundsSoFar g.P.TurnPrinter.prints (g.M.MachineOwner.machine l.fn.machine).sizes l.index l.passed l.made
      (world_in (g.M.MachineOwner.machine l.fn.machine)) (world_in (g.M.MachineOwner.machine l.machine)) l.fn.printer l.printer;
  within : l.passed ≤ l.count;
  few : l.made ≤ l.fn.limit;
  sizes : (g.M.MachineOwner.machine l.machine).sizes ≡ (g.M.MachineOwner.machine l.fn.machine).sizes;
  hands : length (g.M.MachineOwner.machine l.machine).hands ≡ length (g.M.MachineOwner.machine l.fn.machine).hands;
}

abbrev pub decreases-loop-passed : goal.decreases-loop-passed
decreases-loop-passed g l = (l.fn.limit - l.made) * 32 + (l.count - l.passed)
