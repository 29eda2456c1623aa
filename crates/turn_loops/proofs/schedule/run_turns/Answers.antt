use Rattle.std.proofs.Common.{◌∙◌, [], inl, inr, arith, refl, subst, sym}
use Rattle.std.proofs.lemmas.Result.{err_from_is_err_and}
use Rattle.core_views.specs.Held.{Held}
use Rattle.mmu_core.specs.machine.Machine.{World}
use Rattle.step_seats.specs.Machines.{world_in}
use Rattle.turn_loops.specs.Turning.{AreMarked, HasNoLineLeft}
use Rattle.turn_loops.proofs.Coming.{Printing, nothing_more, so_far_none}
use Rattle.turn_loops.proofs.ItemTurns.{count_ends, count_stops, made_one, one_more}
use Rattle.turn_loops.proofs.TurnLists.{TurnsMade, none_made}
use Rattle.turn_loops.proofs.schedule.run_turns.Goals as goal

pub loop-made-init : goal.loop-made-init
loop-made-init g c =
    let M = g.M.MachineOwner in
    let start = world_in (M.machine c.args.machine.now) in
    record {
      so_far =
          so_far_none g.P.TurnPrinter.prints (AreMarked (TurnsMade c.args.index 0)) start c.args.printer.now c.args.printer.now []
          (none_made c.args.index start, refl) (g.met.P.TurnPrinter.nothing c.args.printer.now c.requires.ready);
      within = omega arith;
      sizes = refl;
      hands = refl;
    }

pub returns-in_err-turn-clause-prints : goal.returns-in_err-turn-clause-prints
returns-in_err-turn-clause-prints g c =
    let M = g.M.MachineOwner in
    let start = world_in (M.machine c.args.machine.now) in
    let here = world_in (M.machine c.loop-made.machine) in
    let after_turn = world_in (M.machine c.turn.new.machine) in
    let p = err_from_is_err_and c.from_residual.result c.from_residual.ensures.1 in
    let L : Printing g.P.TurnPrinter.prints g.P.TurnPrinter.stops = record { both = g.met.P.TurnPrinter.then; stopped = g.met.P.TurnPrinter.stopped } in
    rw (p.1, p.2) (count_stops g.P.TurnPrinter.prints g.P.TurnPrinter.stops L c.args.count c.args.index c.loop-made._made start
    here after_turn c.args.printer.now c.loop-made.printer c.turn.new.self c.loop-made.invariant.so_far
    c.in_err-turn.field-0.0 c.loop-made-test.true c.in_err-turn.ensures.turned)

pub returns-in-NoLine-clause-prints : goal.returns-in-NoLine-clause-prints
returns-in-NoLine-clause-prints g c =
    let M = g.M.MachineOwner in
    let start = world_in (M.machine c.args.machine.now) in
    let here = world_in (M.machine c.loop-made.machine) in
    let after_turn = world_in (M.machine c.turn.new.machine) in
    let i = c.loop-made.invariant in
    let p = rw c.in-NoLine.is at c.in_ok-turn.ensures.turned in
    let L : Printing g.P.TurnPrinter.prints g.P.TurnPrinter.stops = record { both = g.met.P.TurnPrinter.then; stopped = g.met.P.TurnPrinter.stopped } in
    count_ends g.P.TurnPrinter.prints g.P.TurnPrinter.stops L c.args.count c.args.index c.loop-made._made start
    after_turn after_turn c.args.printer.now c.turn.new.self c.turn.new.self
    (nothing_more g.P.TurnPrinter.prints g.P.TurnPrinter.stops L (AreMarked (TurnsMade c.args.index c.loop-made._made)) start
    here after_turn c.args.printer.now c.loop-made.printer c.turn.new.self i.so_far p.1 p.2)
    i.within (inr (subst (λ (x : World Held). HasNoLineLeft c.args.index x) (sym p.1) p.0))

pub loop-made-preserved : goal.loop-made-preserved
loop-made-preserved g c =
    let M = g.M.MachineOwner in
    let start = world_in (M.machine c.args.machine.now) in
    let here = world_in (M.machine c.loop-made.machine) in
    let after_turn = world_in (M.machine c.turn.new.machine) in
    let i = c.loop-made.invariant in
    let L : Printing g.P.TurnPrinter.prints g.P.TurnPrinter.stops = record { both = g.met.P.TurnPrinter.then; stopped = g.met.P.TurnPrinter.stopped } in
    record {
      so_far =
          one_more g.P.TurnPrinter.prints g.P.TurnPrinter.stops L c.args.count c.args.index c.loop-made._made start
          here after_turn c.args.printer.now c.loop-made.printer c.turn.new.self i.so_far
          (made_one g.P.TurnPrinter.prints g.P.TurnPrinter.stops L c.in_ok-turn.field-0 c.args.index here
          after_turn c.loop-made.printer c.turn.new.self c.in-Went.is c.in_ok-turn.ensures.turned);
      within = omega (arith, c.loop-made-test.true);
      sizes = c.turn.ensures.same.0 ∙ i.sizes;
      hands = c.turn.ensures.same.1 ∙ i.hands;
    }

pub returns-clause-prints : goal.returns-clause-prints
returns-clause-prints g c =
    let M = g.M.MachineOwner in
    let start = world_in (M.machine c.args.machine.now) in
    let here = world_in (M.machine c.loop-made.machine) in
    let i = c.loop-made.invariant in
    let L : Printing g.P.TurnPrinter.prints g.P.TurnPrinter.stops = record { both = g.met.P.TurnPrinter.then; stopped = g.met.P.TurnPrinter.stopped } in
    count_ends g.P.TurnPrinter.prints g.P.TurnPrinter.stops L c.args.count c.args.index c.loop-made._made start
    here here c.args.printer.now c.loop-made.printer c.loop-made.printer i.so_far i.within
    (inl (omega (arith, i.within, c.loop-made-test.false)))

pub turn-requires-clause-ready : goal.turn-requires-clause-ready
turn-requires-clause-ready g c =
    let F = c.loop-made.invariant.so_far in g.met.P.TurnPrinter.goes_on c.args.printer.now c.loop-made.printer F.marks F.put
