use Rattle.std.proofs.Common.{◌≤◌}
use Rattle.std.specs.Option.{option_copied}
use Rattle.core_views.specs.Sizes.{actors_of}
use Rattle.step_seats.specs.Machines.{world_in}
use Rattle.turn_loops.proofs.FirstLines.{FirstBefore}
use Rattle.turn_loops.proofs.rounds.first_open.Given as goal

abbrev pub invariant-loop-index : goal.invariant-loop-index
invariant-loop-index g l = record {
  first : FirstBefore (world_in (g.M.MachineOwner.machine l.fn.machine)) l.index (option_copied l.first);
  within : l.index ≤ actors_of (g.M.MachineOwner.machine l.fn.machine).sizes;
}
