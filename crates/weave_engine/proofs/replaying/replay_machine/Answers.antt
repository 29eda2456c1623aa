use Rattle.step_seats.specs.Machines.{world_in}
use Rattle.turn_loops.proofs.Coming.{Printing}
use Rattle.weave_engine.proofs.Outputs.{replay_ends}
use Rattle.weave_engine.proofs.replaying.replay_machine.Goals as goal

pub returns : goal.returns
returns g c =
    let L : Printing g.P.TurnPrinter.prints g.P.TurnPrinter.stops = record { both = g.met.P.TurnPrinter.then; stopped = g.met.P.TurnPrinter.stopped } in
    replay_ends g.P.TurnPrinter.prints g.P.TurnPrinter.stops L c.args.trace.now (world_in (g.M.MachineOwner.machine c.replay_on.new.machine)) c.args.printer.now
    c.replay_on.new.printer c.replay_on.result c.how_of.result c.how_of.ensures.ran c.how_of.ensures.refused c.replay_on.ensures
