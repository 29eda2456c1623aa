use Rattle.std.proofs.Common.{◌≡◌, ◌≤◌, length}
use Rattle.step_seats.specs.Machines.{world_in}
use Rattle.turn_loops.proofs.LinesPut.{LinesPut}
use Rattle.turn_loops.proofs.lines.run_lines.Given as goal

abbrev pub invariant-loop-index : goal.invariant-loop-index
invariant-loop-index g l = record {
  so_far : LinesPut g.P.TurnPrinter.prints g.P.TurnPrinter.stops (record { both = g.met.P.TurnPrinter.then; stopped = g.met.P.TurnPrinter.stopped })
      (g.M.MachineOwner.machine l.fn.machine).sizes l.lines l.index (world_in (g.M.MachineOwner.machine l.fn.machine))
      (world_in (g.M.MachineOwner.machine l.machine)) l.fn.printer l.printer;
  within : l.index ≤ l.count;
  sizes : (g.M.MachineOwner.machine l.machine).sizes ≡ (g.M.MachineOwner.machine l.fn.machine).sizes;
  count : length (g.M.MachineOwner.machine l.machine).hands ≡ length (g.M.MachineOwner.machine l.fn.machine).hands;
}
