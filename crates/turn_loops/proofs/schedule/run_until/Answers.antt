use Rattle.std.proofs.Common.{◌∙◌, [], refl}
use Rattle.std.proofs.lemmas.Result.{err_from_is_err_and}
use Rattle.step_seats.specs.Machines.{world_in}
use Rattle.turn_loops.specs.Turning.{AreMarked}
use Rattle.turn_loops.proofs.Coming.{Printing, so_far_none}
use Rattle.turn_loops.proofs.ItemTurns.{ends_either, ends_named, goes_further, until_stops}
use Rattle.turn_loops.proofs.Nearer.{goes_nearer}
use Rattle.turn_loops.proofs.TurnLists.{TurnsGoOn, none_yet}
use Rattle.turn_loops.proofs.schedule.run_until.Goals as goal

pub loop-init : goal.loop-init
loop-init g c =
    let M = g.M.MachineOwner in
    let start = world_in (M.machine c.args.machine.now) in
    record {
      so_far =
          so_far_none g.P.TurnPrinter.prints (AreMarked (TurnsGoOn c.args.until c.args.index)) start c.args.printer.now
          c.args.printer.now [] (none_yet c.args.until c.args.index start, refl)
          (g.met.P.TurnPrinter.nothing c.args.printer.now c.requires.ready);
      sizes = refl;
      hands = refl;
    }

pub returns-in_err-turn-clause-prints : goal.returns-in_err-turn-clause-prints
returns-in_err-turn-clause-prints g c =
    let M = g.M.MachineOwner in
    let start = world_in (M.machine c.args.machine.now) in
    let here = world_in (M.machine c.loop.machine) in
    let after_turn = world_in (M.machine c.turn.new.machine) in
    let p = err_from_is_err_and c.from_residual.result c.from_residual.ensures.1 in
    let L : Printing g.P.TurnPrinter.prints g.P.TurnPrinter.stops = record { both = g.met.P.TurnPrinter.then; stopped = g.met.P.TurnPrinter.stopped } in
    rw (p.1, p.2) (until_stops g.P.TurnPrinter.prints g.P.TurnPrinter.stops L c.args.until c.args.index start here
    after_turn c.args.printer.now c.loop.printer c.turn.new.self c.requires.until c.loop.invariant.so_far
    c.in_err-turn.field-0.0 c.in_err-turn.ensures.turned)

pub returns-in-NoLine-clause-prints : goal.returns-in-NoLine-clause-prints
returns-in-NoLine-clause-prints g c =
    let M = g.M.MachineOwner in
    let start = world_in (M.machine c.args.machine.now) in
    let here = world_in (M.machine c.loop.machine) in
    let after_turn = world_in (M.machine c.turn.new.machine) in
    let L : Printing g.P.TurnPrinter.prints g.P.TurnPrinter.stops = record { both = g.met.P.TurnPrinter.then; stopped = g.met.P.TurnPrinter.stopped } in
    ends_either g.P.TurnPrinter.prints g.P.TurnPrinter.stops L c.args.until c.args.index start here
    after_turn c.args.printer.now c.loop.printer c.turn.new.self c.requires.until c.loop.invariant.so_far
    c.is_named-named.result c.is_named-named.ensures c.in_ok-turn.field-0 c.in-NoLine.is c.in_ok-turn.ensures.turned

pub returns-in-Went-clause-prints : goal.returns-in-Went-clause-prints
returns-in-Went-clause-prints g c =
    let M = g.M.MachineOwner in
    let start = world_in (M.machine c.args.machine.now) in
    let here = world_in (M.machine c.loop.machine) in
    let after_turn = world_in (M.machine c.turn.new.machine) in
    let L : Printing g.P.TurnPrinter.prints g.P.TurnPrinter.stops = record { both = g.met.P.TurnPrinter.then; stopped = g.met.P.TurnPrinter.stopped } in
    ends_named g.P.TurnPrinter.prints g.P.TurnPrinter.stops L c.args.until c.args.index start here
    after_turn c.args.printer.now c.loop.printer c.turn.new.self c.requires.until c.loop.invariant.so_far
    c.is_named-named.result c.is_named-named.ensures c.if-named.true (rw c.in-Went.is at c.in_ok-turn.ensures.turned)

pub loop-smaller : goal.loop-smaller
loop-smaller g c =
    let M = g.M.MachineOwner in
    let here = world_in (M.machine c.loop.machine) in
    let after_turn = world_in (M.machine c.turn.new.machine) in
    let turned = rw c.in-Went.is at c.in_ok-turn.ensures.turned in
    goes_nearer c.args.index here after_turn turned.0 c.sizes.ensures.reached.reached turned.1

pub loop-preserved : goal.loop-preserved
loop-preserved g c =
    let M = g.M.MachineOwner in
    let start = world_in (M.machine c.args.machine.now) in
    let here = world_in (M.machine c.loop.machine) in
    let after_turn = world_in (M.machine c.turn.new.machine) in
    let i = c.loop.invariant in
    let L : Printing g.P.TurnPrinter.prints g.P.TurnPrinter.stops = record { both = g.met.P.TurnPrinter.then; stopped = g.met.P.TurnPrinter.stopped } in
    record {
      so_far =
          goes_further g.P.TurnPrinter.prints g.P.TurnPrinter.stops L c.args.until c.args.index start here
          after_turn c.args.printer.now c.loop.printer c.turn.new.self c.requires.until c.loop.invariant.so_far
          c.is_named-named.result c.is_named-named.ensures c.if-named.false (rw c.in-Went.is at c.in_ok-turn.ensures.turned);
      sizes = c.turn.ensures.same.0 ∙ i.sizes;
      hands = c.turn.ensures.same.1 ∙ i.hands;
    }

pub turn-requires-clause-ready : goal.turn-requires-clause-ready
turn-requires-clause-ready g c = let F = c.loop.invariant.so_far in g.met.P.TurnPrinter.goes_on c.args.printer.now c.loop.printer F.marks F.put
