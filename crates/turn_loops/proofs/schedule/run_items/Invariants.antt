use Rattle.std.proofs.Common.{◌≡◌, length, take}
use Rattle.step_seats.specs.Machines.{world_in}
use Rattle.turn_loops.specs.Turning.{RunsItems}
use Rattle.turn_loops.proofs.Coming.{SoFar}
use Rattle.turn_loops.proofs.schedule.run_items.Given as goal

abbrev pub invariant-loop-item : goal.invariant-loop-item
invariant-loop-item g l = record {
  so_far : SoFar g.P.TurnPrinter.prints (RunsItems (g.M.MachineOwner.machine l.fn.machine).sizes (take l.item-index l.items))
      (world_in (g.M.MachineOwner.machine l.fn.machine)) (world_in (g.M.MachineOwner.machine l.machine)) l.fn.printer l.printer;
  sizes : (g.M.MachineOwner.machine l.machine).sizes ≡ (g.M.MachineOwner.machine l.fn.machine).sizes;
  hands : length (g.M.MachineOwner.machine l.machine).hands ≡ length (g.M.MachineOwner.machine l.fn.machine).hands;
}
