use Rattle.std.proofs.Common.{length, refl}
use Rattle.std.proofs.lemmas.Result.{err_from_is_err_and}
use Rattle.step_seats.specs.Machines.{world_in}
use Rattle.turn_loops.specs.Marks.{turns_from}
use Rattle.turn_loops.proofs.Coming.{Printing}
use Rattle.weave_engine.proofs.Outputs.{replay_over, replay_stopped, replay_stopped_over}
use Rattle.weave_engine.proofs.replaying.replay_on.Goals as goal

pub returns-in_err-run_lines : goal.returns-in_err-run_lines
returns-in_err-run_lines g c =
    let M = g.M.MachineOwner in
    let z = (M.machine c.args.machine.now).sizes in
    let start = world_in (M.machine c.args.machine.now) in
    let after_run_lines = world_in (M.machine c.run_lines.new.machine) in
    let p = err_from_is_err_and c.from_residual.result c.from_residual.ensures.1 in
    let L : Printing g.P.TurnPrinter.prints g.P.TurnPrinter.stops = record { both = g.met.P.TurnPrinter.then; stopped = g.met.P.TurnPrinter.stopped } in
    rw (p.1, p.2) (replay_stopped g.P.TurnPrinter.prints g.P.TurnPrinter.stops L c.args.trace.now z c.as_slice-lines.result.now
    start after_run_lines c.args.printer.now c.run_lines.new.printer c.requires.sizes c.as_slice-lines.ensures
    c.requires.start (length c.as_slice-lines.result.now) c.in_err-run_lines.field-0.0 c.in_err-run_lines.ensures.prints)

pub returns-in_err-over : goal.returns-in_err-over
returns-in_err-over g c =
    let M = g.M.MachineOwner in
    let z = (M.machine c.args.machine.now).sizes in
    let start = world_in (M.machine c.args.machine.now) in
    let after_run_lines = world_in (M.machine c.run_lines.new.machine) in
    let p = err_from_is_err_and c.from_residual-in_err-over.result c.from_residual-in_err-over.ensures.1 in
    let L : Printing g.P.TurnPrinter.prints g.P.TurnPrinter.stops = record { both = g.met.P.TurnPrinter.then; stopped = g.met.P.TurnPrinter.stopped } in
    rw (p.1, p.2) (replay_stopped_over g.P.TurnPrinter.prints g.P.TurnPrinter.stops L c.args.trace.now z c.as_slice-lines.result.now
    start after_run_lines c.args.printer.now c.run_lines.new.printer c.requires.sizes c.as_slice-lines.ensures
    c.requires.start (length c.as_slice-lines.result.now) c.over.new.self c.in_err-over.field-0.0 refl c.in_ok-run_lines.ensures.prints
    c.in_err-over.ensures)

pub returns : goal.returns
returns g c =
    let M = g.M.MachineOwner in
    let z = (M.machine c.args.machine.now).sizes in
    let start = world_in (M.machine c.args.machine.now) in
    let after_run_lines = world_in (M.machine c.run_lines.new.machine) in
    let L : Printing g.P.TurnPrinter.prints g.P.TurnPrinter.stops = record { both = g.met.P.TurnPrinter.then; stopped = g.met.P.TurnPrinter.stopped } in
    replay_over g.P.TurnPrinter.prints g.P.TurnPrinter.stops L c.args.trace.now z c.as_slice-lines.result.now
    start after_run_lines c.args.printer.now c.run_lines.new.printer c.requires.sizes c.as_slice-lines.ensures
    c.requires.start (length c.as_slice-lines.result.now) c.over.new.self refl c.in_ok-run_lines.ensures.prints c.in_ok-over.ensures

pub over-requires : goal.over-requires
over-requires g c =
    let M = g.M.MachineOwner in
    let start = world_in (M.machine c.args.machine.now) in
    let A = c.in_ok-run_lines.ensures.prints in
    record { ready = g.met.P.TurnPrinter.goes_on c.args.printer.now c.run_lines.new.printer (turns_from start A.0.steps) A.1 }
