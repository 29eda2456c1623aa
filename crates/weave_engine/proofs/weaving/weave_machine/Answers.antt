use Rattle.step_seats.specs.Machines.{world_in}
use Rattle.weave_engine.proofs.WeaveEnds.{ends_on}
use Rattle.weave_engine.proofs.weaving.weave_machine.Goals as goal

pub returns : goal.returns
returns g c =
    ends_on g.P.TurnPrinter.prints g.P.TurnPrinter.stops c.args.trace.now c.args.limit
    (world_in (g.M.MachineOwner.machine c.weave_on.new.machine)) c.args.printer.now c.weave_on.new.printer
    c.weave_on.result c.how_of.result c.how_of.ensures.ran c.how_of.ensures.refused c.weave_on.ensures
