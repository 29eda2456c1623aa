use Rattle.std.proofs.Common.{◌≡◌, ◌≤◌, length}
use Rattle.step_seats.specs.Machines.{world_in}
use Rattle.turn_loops.specs.Turning.{AreMarked}
use Rattle.turn_loops.proofs.Coming.{SoFar}
use Rattle.turn_loops.proofs.TurnLists.{TurnsMade}
use Rattle.turn_loops.proofs.schedule.run_turns.Given as goal

abbrev pub invariant-loop-made : goal.invariant-loop-made
invariant-loop-made g l = record {
  so_far : SoFar g.P.TurnPrinter.prints (AreMarked (TurnsMade l.fn.index l._made))
      (world_in (g.M.MachineOwner.machine l.fn.machine)) (world_in (g.M.MachineOwner.machine l.machine)) l.fn.printer l.printer;
  within : l._made ≤ l.count;
  sizes : (g.M.MachineOwner.machine l.machine).sizes ≡ (g.M.MachineOwner.machine l.fn.machine).sizes;
  hands : length (g.M.MachineOwner.machine l.machine).hands ≡ length (g.M.MachineOwner.machine l.fn.machine).hands;
}
