use Rattle.std.proofs.Common.{◌≡◌, length}
use Rattle.core_views.specs.Sizes.{index_of}
use Rattle.mmu_core.specs.alone.LineAlone.{hand_left}
use Rattle.mmu_core.specs.machine.Enabled.{mmu}
use Rattle.mmu_core.specs.machine.Machine.{hand_in}
use Rattle.step_seats.specs.Machines.{world_in}
use Rattle.turn_loops.proofs.TurnsAlone.{NextAlone}
use Rattle.turn_loops.proofs.TurnsPut.{StopsIn, TurnsPut, left_under_way}
use Rattle.turn_loops.proofs.by_turns.run_by_turns.Given as goal

abbrev pub invariant-loop-stop : goal.invariant-loop-stop
invariant-loop-stop g l = record {
  next : NextAlone (g.M.MachineOwner.machine l.fn.machine).sizes l.line l.index (world_in (g.M.MachineOwner.machine l.fn.machine));
  put : TurnsPut g.P.TurnPrinter.prints l.line l.index (world_in (g.M.MachineOwner.machine l.fn.machine)) (world_in (g.M.MachineOwner.machine l.machine))
      l.fn.printer l.printer;
  at : l.index ≡ index_of (g.M.MachineOwner.machine l.fn.machine).sizes l.line.actor;
  sizes : (g.M.MachineOwner.machine l.machine).sizes ≡ (g.M.MachineOwner.machine l.fn.machine).sizes;
  hands : length (g.M.MachineOwner.machine l.machine).hands ≡ length (g.M.MachineOwner.machine l.fn.machine).hands;
}

abbrev pub decreases-loop-stop : goal.decreases-loop-stop
decreases-loop-stop g l = hand_left (hand_in mmu (world_in (g.M.MachineOwner.machine l.machine)) l.index)

abbrev pub invariant-loop-machine : goal.invariant-loop-machine
invariant-loop-machine g l = record {
  next : NextAlone (g.M.MachineOwner.machine l.fn.machine).sizes l.line l.index (world_in (g.M.MachineOwner.machine l.fn.machine));
  stops_ : StopsIn g.P.TurnPrinter.stops (g.M.MachineOwner.machine l.fn.machine).sizes l.line l.index
      (world_in (g.M.MachineOwner.machine l.fn.machine)) (world_in (g.M.MachineOwner.machine l.machine)) l.fn.printer l.stop l.printer;
  at : l.index ≡ index_of (g.M.MachineOwner.machine l.fn.machine).sizes l.line.actor;
  sizes : (g.M.MachineOwner.machine l.machine).sizes ≡ (g.M.MachineOwner.machine l.fn.machine).sizes;
  hands : length (g.M.MachineOwner.machine l.machine).hands ≡ length (g.M.MachineOwner.machine l.fn.machine).hands;
}

abbrev pub decreases-loop-machine : goal.decreases-loop-machine
decreases-loop-machine g l = left_under_way (hand_in mmu (world_in (g.M.MachineOwner.machine l.machine)) l.index)
