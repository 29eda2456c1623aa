use Rattle.std.proofs.Common.{◌∙◌, [], refl}
use Rattle.std.proofs.lemmas.Result.{err_from_is_err_and}
use Rattle.step_seats.specs.Machines.{world_in}
use Rattle.turn_loops.specs.Turning.{RunsItems}
use Rattle.turn_loops.proofs.Coming.{Printing, so_far_none}
use Rattle.turn_loops.proofs.ItemLists.{item_more, item_stops}
use Rattle.turn_loops.proofs.schedule.run_items.Goals as goal

pub loop-item-init : goal.loop-item-init
loop-item-init g c =
    let M = g.M.MachineOwner in
    let z = (M.machine c.args.machine.now).sizes in
    let start = world_in (M.machine c.args.machine.now) in
    record {
      so_far =
          so_far_none g.P.TurnPrinter.prints (RunsItems z []) start c.args.printer.now c.args.printer.now []
          (refl, refl) (g.met.P.TurnPrinter.nothing c.args.printer.now c.requires.ready);
      sizes = refl;
      hands = refl;
    }

pub returns-in_err-run_item-clause-prints : goal.returns-in_err-run_item-clause-prints
returns-in_err-run_item-clause-prints g c =
    let M = g.M.MachineOwner in
    let z = (M.machine c.args.machine.now).sizes in
    let start = world_in (M.machine c.args.machine.now) in
    let here = world_in (M.machine c.loop-item.machine) in
    let after_run_item = world_in (M.machine c.run_item.new.machine) in
    let i = c.loop-item.invariant in
    let p = err_from_is_err_and c.from_residual.result c.from_residual.ensures.1 in
    let printed = rw i.sizes at c.in_err-run_item.ensures.prints in
    let L : Printing g.P.TurnPrinter.prints g.P.TurnPrinter.stops = record { both = g.met.P.TurnPrinter.then; stopped = g.met.P.TurnPrinter.stopped } in
    rw (p.1, p.2) (item_stops g.P.TurnPrinter.prints g.P.TurnPrinter.stops L z c.args.items.now c.loop-item.item-index
    c.loop-item-test.true start here after_run_item c.args.printer.now
    c.loop-item.printer c.run_item.new.printer i.so_far c.in_err-run_item.field-0.0 printed)

pub loop-item-preserved : goal.loop-item-preserved
loop-item-preserved g c =
    let M = g.M.MachineOwner in
    let z = (M.machine c.args.machine.now).sizes in
    let start = world_in (M.machine c.args.machine.now) in
    let here = world_in (M.machine c.loop-item.machine) in
    let after_run_item = world_in (M.machine c.run_item.new.machine) in
    let i = c.loop-item.invariant in
    let printed = rw i.sizes at c.in_ok-run_item.ensures.prints in
    let L : Printing g.P.TurnPrinter.prints g.P.TurnPrinter.stops = record { both = g.met.P.TurnPrinter.then; stopped = g.met.P.TurnPrinter.stopped } in
    record {
      so_far =
          item_more g.P.TurnPrinter.prints g.P.TurnPrinter.stops L z c.args.items.now c.loop-item.item-index c.loop-item-test.true
          start here after_run_item c.args.printer.now c.loop-item.printer
          c.run_item.new.printer i.so_far printed;
      sizes = c.run_item.ensures.same.0 ∙ i.sizes;
      hands = c.run_item.ensures.same.1 ∙ i.hands;
    }

pub run_item-requires-clause-ready : goal.run_item-requires-clause-ready
run_item-requires-clause-ready g c =
    let F = c.loop-item.invariant.so_far in g.met.P.TurnPrinter.goes_on c.args.printer.now c.loop-item.printer F.marks F.put
