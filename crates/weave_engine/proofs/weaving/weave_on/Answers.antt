use Rattle.std.proofs.lemmas.Result.{err_from_is_err_and}
use Rattle.std.specs.Option.{option_copied}
use Rattle.step_seats.specs.Machines.{world_in}
use Rattle.turn_loops.specs.Marks.{turns_from}
use Rattle.turn_loops.proofs.Coming.{Printing}
use Rattle.weave_engine.proofs.WovenLaws.{ends_open, stopped_in_items, stopped_in_lines, stopped_in_rounds, stops_open}
use Rattle.weave_engine.proofs.weaving.weave_on.Goals as goal

pub returns-in_err-run_lines : goal.returns-in_err-run_lines
returns-in_err-run_lines g c =
    let M = g.M.MachineOwner in
    let start = world_in (M.machine c.args.machine.now) in
    let after_run_lines = world_in (M.machine c.run_lines.new.machine) in
    let p = err_from_is_err_and c.from_residual.result c.from_residual.ensures.1 in
    let L : Printing g.P.TurnPrinter.prints g.P.TurnPrinter.stops = record { both = g.met.P.TurnPrinter.then; stopped = g.met.P.TurnPrinter.stopped } in
    rw (p.1, p.2) (stopped_in_lines c.args.trace.now c.args.limit start c.requires.start
    g.P.TurnPrinter.prints g.P.TurnPrinter.stops L after_run_lines c.args.printer.now c.run_lines.new.printer c.in_err-run_lines.field-0.0
    (rw (c.requires.sizes, c.as_slice-lines.ensures, c.unwrap_or-above.ensures) at c.in_err-run_lines.ensures.prints))

pub returns-in_err-run_items : goal.returns-in_err-run_items
returns-in_err-run_items g c =
    let M = g.M.MachineOwner in
    let start = world_in (M.machine c.args.machine.now) in
    let after_run_lines = world_in (M.machine c.run_lines.new.machine) in
    let after_run_items = world_in (M.machine c.run_items.new.machine) in
    let p = err_from_is_err_and c.from_residual-in_err-run_items.result c.from_residual-in_err-run_items.ensures.1 in
    let L : Printing g.P.TurnPrinter.prints g.P.TurnPrinter.stops = record { both = g.met.P.TurnPrinter.then; stopped = g.met.P.TurnPrinter.stopped } in
    rw (p.1, p.2) (stopped_in_items c.args.trace.now c.args.limit start c.requires.start
    g.P.TurnPrinter.prints g.P.TurnPrinter.stops L after_run_lines c.args.printer.now c.run_lines.new.printer
    (rw (c.requires.sizes, c.as_slice-lines.ensures, c.unwrap_or-above.ensures) at c.in_ok-run_lines.ensures.prints)
    after_run_items c.run_items.new.printer c.in_err-run_items.field-0.0
    (rw (c.run_lines.ensures.same.0, c.requires.sizes, c.as_slice.ensures) at c.in_err-run_items.ensures.prints))

pub returns-in_err-run_rounds : goal.returns-in_err-run_rounds
returns-in_err-run_rounds g c =
    let M = g.M.MachineOwner in
    let start = world_in (M.machine c.args.machine.now) in
    let after_run_lines = world_in (M.machine c.run_lines.new.machine) in
    let after_run_items = world_in (M.machine c.run_items.new.machine) in
    let after_run_rounds = world_in (M.machine c.run_rounds.new.machine) in
    let p = err_from_is_err_and c.from_residual-in_err-run_rounds.result c.from_residual-in_err-run_rounds.ensures.1 in
    let L : Printing g.P.TurnPrinter.prints g.P.TurnPrinter.stops = record { both = g.met.P.TurnPrinter.then; stopped = g.met.P.TurnPrinter.stopped } in
    rw (p.1, p.2) (stopped_in_rounds c.args.trace.now c.args.limit start c.requires.start
    g.P.TurnPrinter.prints g.P.TurnPrinter.stops L after_run_lines c.args.printer.now c.run_lines.new.printer
    (rw (c.requires.sizes, c.as_slice-lines.ensures, c.unwrap_or-above.ensures) at c.in_ok-run_lines.ensures.prints)
    after_run_items c.run_items.new.printer
    (rw (c.run_lines.ensures.same.0, c.requires.sizes, c.as_slice.ensures) at c.in_ok-run_items.ensures.prints)
    after_run_rounds c.run_rounds.new.printer c.in_err-run_rounds.field-0.0
    (rw (c.run_items.ensures.same.0, c.run_lines.ensures.same.0, c.requires.sizes) at c.in_err-run_rounds.ensures.prints))

pub returns-in_err-over : goal.returns-in_err-over
returns-in_err-over g c =
    let M = g.M.MachineOwner in
    let start = world_in (M.machine c.args.machine.now) in
    let after_run_lines = world_in (M.machine c.run_lines.new.machine) in
    let after_run_items = world_in (M.machine c.run_items.new.machine) in
    let after_run_rounds = world_in (M.machine c.run_rounds.new.machine) in
    let p = err_from_is_err_and c.from_residual-in_err-over.result c.from_residual-in_err-over.ensures.1 in
    let L : Printing g.P.TurnPrinter.prints g.P.TurnPrinter.stops = record { both = g.met.P.TurnPrinter.then; stopped = g.met.P.TurnPrinter.stopped } in
    rw (p.1, p.2) (stops_open c.args.trace.now c.args.limit start c.requires.start
    g.P.TurnPrinter.prints g.P.TurnPrinter.stops L after_run_lines c.args.printer.now c.run_lines.new.printer
    (rw (c.requires.sizes, c.as_slice-lines.ensures, c.unwrap_or-above.ensures) at c.in_ok-run_lines.ensures.prints)
    after_run_items c.run_items.new.printer
    (rw (c.run_lines.ensures.same.0, c.requires.sizes, c.as_slice.ensures) at c.in_ok-run_items.ensures.prints)
    after_run_rounds c.run_rounds.new.printer
    (rw (c.run_items.ensures.same.0, c.run_lines.ensures.same.0, c.requires.sizes) at c.in_ok-run_rounds.ensures.prints)
    c.requires.trace.rising c.in_err-over.field-0.0 (option_copied c.first_open-first.result) c.over.new.self
    (rw (c.run_rounds.ensures.same.0, c.run_items.ensures.same.0, c.run_lines.ensures.same.0, c.requires.sizes) at c.first_open-first.ensures)
    c.in_err-over.ensures)

pub returns : goal.returns
returns g c =
    let M = g.M.MachineOwner in
    let start = world_in (M.machine c.args.machine.now) in
    let after_run_lines = world_in (M.machine c.run_lines.new.machine) in
    let after_run_items = world_in (M.machine c.run_items.new.machine) in
    let after_run_rounds = world_in (M.machine c.run_rounds.new.machine) in
    let L : Printing g.P.TurnPrinter.prints g.P.TurnPrinter.stops = record { both = g.met.P.TurnPrinter.then; stopped = g.met.P.TurnPrinter.stopped } in
    rw c.open_line.ensures (ends_open c.args.trace.now c.args.limit start c.requires.start
    g.P.TurnPrinter.prints g.P.TurnPrinter.stops L after_run_lines c.args.printer.now c.run_lines.new.printer
    (rw (c.requires.sizes, c.as_slice-lines.ensures, c.unwrap_or-above.ensures) at c.in_ok-run_lines.ensures.prints)
    after_run_items c.run_items.new.printer
    (rw (c.run_lines.ensures.same.0, c.requires.sizes, c.as_slice.ensures) at c.in_ok-run_items.ensures.prints)
    after_run_rounds c.run_rounds.new.printer
    (rw (c.run_items.ensures.same.0, c.run_lines.ensures.same.0, c.requires.sizes) at c.in_ok-run_rounds.ensures.prints)
    c.requires.trace.rising (option_copied c.first_open-first.result) c.over.new.self
    (rw (c.run_rounds.ensures.same.0, c.run_items.ensures.same.0, c.run_lines.ensures.same.0, c.requires.sizes) at c.first_open-first.ensures)
    c.in_ok-over.ensures)

pub run_items-requires-clause-ready : goal.run_items-requires-clause-ready
run_items-requires-clause-ready g c =
    let M = g.M.MachineOwner in
    let start = world_in (M.machine c.args.machine.now) in
    let A = c.in_ok-run_lines.ensures.prints in
    g.met.P.TurnPrinter.goes_on c.args.printer.now c.run_lines.new.printer (turns_from start A.0.steps) A.1

pub run_rounds-requires : goal.run_rounds-requires
run_rounds-requires g c =
    let I = c.in_ok-run_items.ensures.prints in
    record { ready = g.met.P.TurnPrinter.goes_on c.run_lines.new.printer c.run_items.new.printer I.2 I.5 }

pub over-requires : goal.over-requires
over-requires g c =
    let R = c.in_ok-run_rounds.ensures.prints in
    record { ready = g.met.P.TurnPrinter.goes_on c.run_items.new.printer c.run_rounds.new.printer R.2 R.5 }
