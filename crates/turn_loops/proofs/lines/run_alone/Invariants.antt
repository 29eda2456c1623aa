use Rattle.std.proofs.Common.{◌≡◌, ◌≤◌, ℕ, List, length}
use Rattle.step_seats.specs.Machines.{world_in}
use Rattle.turn_loops.proofs.LinesRun.{IsBetween}
use Rattle.turn_loops.proofs.lines.run_alone.Given as goal

abbrev pub invariant-loop-index : goal.invariant-loop-index
invariant-loop-index g l = record {
  printed : List ℕ;
  between : IsBetween (g.M.MachineOwner.machine l.fn.machine).sizes l.lines l.index (world_in (g.M.MachineOwner.machine l.fn.machine))
      (world_in (g.M.MachineOwner.machine l.machine)) printed;
  within : l.index ≤ l.count;
  sizes : (g.M.MachineOwner.machine l.machine).sizes ≡ (g.M.MachineOwner.machine l.fn.machine).sizes;
  count : length (g.M.MachineOwner.machine l.machine).hands ≡ length (g.M.MachineOwner.machine l.fn.machine).hands;
}
