use Rattle.std.proofs.lemmas.Result.{err_from_is_err_and}
use Rattle.step_seats.specs.Machines.{world_in}
use Rattle.turn_loops.proofs.Coming.{Printing}
use Rattle.weave_engine.proofs.WovenLaws.{no_machine}
use Rattle.weave_engine.proofs.weaving.weave_with.Goals as goal

pub returns-in_err-machine : goal.returns-in_err-machine
returns-in_err-machine g c =
    let p = err_from_is_err_and c.from_residual.result c.from_residual.ensures.1 in
    let L : Printing g.P.TurnPrinter.prints g.P.TurnPrinter.stops = record { both = g.met.P.TurnPrinter.then; stopped = g.met.P.TurnPrinter.stopped } in
    rw p.1 (no_machine g.P.TurnPrinter.prints g.P.TurnPrinter.stops L c.args.trace.now c.args.limit c.args.printer.now c.args.printer.now c.requires.trace
    (g.met.P.TurnPrinter.refused c.args.printer.now c.requires.ready))

pub returns-in_err-how : goal.returns-in_err-how
returns-in_err-how g c =
    let p = err_from_is_err_and c.from_residual-in_err-how.result c.from_residual-in_err-how.ensures.1 in
    rw p.1 (world_in c.weave_machine.new.machine, c.in_err-how.ensures)

pub returns : goal.returns
returns g c = rw (c.into_closing.ensures.words, c.into_closing.ensures.hands) c.in_ok-how.ensures
