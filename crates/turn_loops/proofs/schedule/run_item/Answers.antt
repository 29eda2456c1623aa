use Rattle.std.proofs.Common.{◌∙◌, ap, refl, sym}
use Rattle.core_views.specs.declared.sizes.Sizes.{Sizes}
use Rattle.core_views.specs.declared.trace.Until.TheVariants.{Turns}
use Rattle.core_views.specs.Sizes.{index_of}
use Rattle.step_seats.specs.Machines.{world_in}
use Rattle.turn_loops.proofs.Coming.{Printing}
use Rattle.turn_loops.proofs.ItemLists.{item_printed}
use Rattle.turn_loops.proofs.schedule.run_item.Goals as goal

pub returns-in-Turns-clause-prints : goal.returns-in-Turns-clause-prints
returns-in-Turns-clause-prints g c =
    let M = g.M.MachineOwner in
    let z = (M.machine c.args.machine.now).sizes in
    let start = world_in (M.machine c.args.machine.now) in
    let after_run_turns = world_in (M.machine c.run_turns.new.machine) in
    let L : Printing g.P.TurnPrinter.prints g.P.TurnPrinter.stops = record { both = g.met.P.TurnPrinter.then; stopped = g.met.P.TurnPrinter.stopped } in
    item_printed g.P.TurnPrinter.prints g.P.TurnPrinter.stops L z c.args.item.now (Turns c.in-Turns.count) c.index_of-index.result
    (sym c.in-Turns.is) (c.index_of-index.ensures ∙ ap (λ (z : Sizes). index_of z c.args.item.now.actor) c.sizes.ensures.is)
    start after_run_turns c.args.printer.now c.item.new.self c.run_turns.new.printer c.in_ok-item.ensures
    c.run_turns.result c.run_turns.ensures.prints

pub returns-in_default-clause-prints : goal.returns-in_default-clause-prints
returns-in_default-clause-prints g c =
    let M = g.M.MachineOwner in
    let z = (M.machine c.args.machine.now).sizes in
    let start = world_in (M.machine c.args.machine.now) in
    let after_run_until = world_in (M.machine c.run_until.new.machine) in
    let L : Printing g.P.TurnPrinter.prints g.P.TurnPrinter.stops = record { both = g.met.P.TurnPrinter.then; stopped = g.met.P.TurnPrinter.stopped } in
    item_printed g.P.TurnPrinter.prints g.P.TurnPrinter.stops L z c.args.item.now c.args.item.now.until
    c.index_of-index.result refl (c.index_of-index.ensures ∙ ap (λ (z : Sizes). index_of z c.args.item.now.actor) c.sizes.ensures.is)
    start after_run_until c.args.printer.now c.item.new.self c.run_until.new.printer c.in_ok-item.ensures
    c.run_until.result c.run_until.ensures.prints
