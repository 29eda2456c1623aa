use Rattle.std.proofs.Common.{◌≡◌, ◌∙◌, ℕ, List, ap, refl, subst}
use Rattle.core_views.specs.declared.sizes.Sizes.{Sizes}
use Rattle.core_views.specs.Sizes.{index_of}
use Rattle.step_seats.specs.Machines.{world_in}
use Rattle.turn_loops.specs.Marks.{Mark, turns_from}
use Rattle.turn_loops.proofs.Coming.{Printing}
use Rattle.turn_loops.proofs.TurnsAlone.{RanAll}
use Rattle.turn_loops.proofs.TurnsPut.{StopsOver, answered, next_alone, none_put, over_there, some_left, stopped_in, turned_unprinted, went_on}
use Rattle.turn_loops.proofs.by_turns.run_by_turns.Goals as goal

pub loop-stop-init : goal.loop-stop-init
loop-stop-init g c =
    let M = g.M.MachineOwner in
    let m = M.machine c.args.machine.now in
    let i = c.index_of-index.result in
    let at : i ≡ index_of m.sizes c.args.line.now.actor =
    c.index_of-index.ensures ∙ ap (λ (z : Sizes). index_of z c.args.line.now.actor) c.sizes.ensures.is in
    let N =
    next_alone m c.args.line.now i at c.requires.idle c.requires.next c.requires.own c.requires.alone c.sizes.ensures.reached.reached in
    let L : Printing g.P.TurnPrinter.prints g.P.TurnPrinter.stops = record { both = g.met.P.TurnPrinter.then; stopped = g.met.P.TurnPrinter.stopped } in
    record {
      next = N;
      put = none_put g.P.TurnPrinter.prints g.P.TurnPrinter.stops L m.sizes c.args.line.now i (world_in m) N c.args.printer.now
          (g.met.P.TurnPrinter.nothing c.args.printer.now c.requires.ready);
      at = at;
      sizes = refl;
      hands = refl;
    }

pub turn-requires-clause-ready : goal.turn-requires-clause-ready
turn-requires-clause-ready g c =
    let M = g.M.MachineOwner in
    let start = world_in (M.machine c.args.machine.now) in
    let F = c.loop-stop.invariant.put.so_far in
    g.met.P.TurnPrinter.goes_on c.args.printer.now c.loop-stop.printer (turns_from start F.part.steps) F.holds

pub loop-stop-preserved : goal.loop-stop-preserved
loop-stop-preserved g c =
    let M = g.M.MachineOwner in
    let z = (M.machine c.args.machine.now).sizes in
    let start = world_in (M.machine c.args.machine.now) in
    let here = world_in (M.machine c.loop-stop.machine) in
    let after_turn = world_in (M.machine c.turn.new.machine) in
    let i = c.loop-stop.invariant in
    let L : Printing g.P.TurnPrinter.prints g.P.TurnPrinter.stops = record { both = g.met.P.TurnPrinter.then; stopped = g.met.P.TurnPrinter.stopped } in
    let on =
    went_on g.P.TurnPrinter.prints g.P.TurnPrinter.stops L z c.args.line.now c.index_of-index.result
    start i.next c.args.printer.now here after_turn c.loop-stop.printer
    c.turn.new.self i.put (rw c.in-Ok-Went.field-0-is at c.in-Ok-Went.ensures.turned) in
    record {
      next = i.next;
      put = on.0;
      at = i.at;
      sizes = c.turn.ensures.same.0 ∙ i.sizes;
      hands = c.turn.ensures.same.1 ∙ i.hands;
    }

pub loop-stop-smaller : goal.loop-stop-smaller
loop-stop-smaller g c =
    let M = g.M.MachineOwner in
    let z = (M.machine c.args.machine.now).sizes in
    let start = world_in (M.machine c.args.machine.now) in
    let here = world_in (M.machine c.loop-stop.machine) in
    let after_turn = world_in (M.machine c.turn.new.machine) in
    let i = c.loop-stop.invariant in
    let L : Printing g.P.TurnPrinter.prints g.P.TurnPrinter.stops = record { both = g.met.P.TurnPrinter.then; stopped = g.met.P.TurnPrinter.stopped } in
    (went_on g.P.TurnPrinter.prints g.P.TurnPrinter.stops L z c.args.line.now c.index_of-index.result
    start i.next c.args.printer.now here after_turn c.loop-stop.printer
    c.turn.new.self i.put (rw c.in-Ok-Went.field-0-is at c.in-Ok-Went.ensures.turned)).1

pub returns-in-Ok-Stopped-clause-ran : goal.returns-in-Ok-Stopped-clause-ran
returns-in-Ok-Stopped-clause-ran g c =
    let M = g.M.MachineOwner in
    let z = (M.machine c.args.machine.now).sizes in
    let start = world_in (M.machine c.args.machine.now) in
    let here = world_in (M.machine c.loop-stop.machine) in
    let after_turn = world_in (M.machine c.turn.new.machine) in
    let i = c.loop-stop.invariant in
    let L : Printing g.P.TurnPrinter.prints g.P.TurnPrinter.stops = record { both = g.met.P.TurnPrinter.then; stopped = g.met.P.TurnPrinter.stopped } in
    subst (λ (n : ℕ). RanAll (λ (ms : List Mark). g.P.TurnPrinter.prints c.args.printer.now ms c.turn.new.self) z c.args.line.now n
    start after_turn) i.at
    (answered g.P.TurnPrinter.prints g.P.TurnPrinter.stops L z c.args.line.now c.index_of-index.result
    start i.next c.args.printer.now here after_turn c.loop-stop.printer
    c.turn.new.self i.put (rw c.in-Ok-Stopped.field-0-is at c.in-Ok-Stopped.ensures.turned))

pub unreachable-requires : goal.unreachable-requires
unreachable-requires g c =
    let M = g.M.MachineOwner in
    let z = (M.machine c.args.machine.now).sizes in
    let start = world_in (M.machine c.args.machine.now) in
    let here = world_in (M.machine c.loop-stop.machine) in
    let after_turn = world_in (M.machine c.turn.new.machine) in
    let i = c.loop-stop.invariant in
    let L : Printing g.P.TurnPrinter.prints g.P.TurnPrinter.stops = record { both = g.met.P.TurnPrinter.then; stopped = g.met.P.TurnPrinter.stopped } in
    let turned = rw c.in-Ok-NoLine.field-0-is at c.in-Ok-NoLine.ensures.turned in
    some_left g.P.TurnPrinter.prints g.P.TurnPrinter.stops L z c.args.line.now c.index_of-index.result
    start i.next c.args.printer.now here after_turn c.loop-stop.printer
    c.turn.new.self i.put turned.0

pub loop-machine-init : goal.loop-machine-init
loop-machine-init g c =
    let M = g.M.MachineOwner in
    let z = (M.machine c.args.machine.now).sizes in
    let start = world_in (M.machine c.args.machine.now) in
    let here = world_in (M.machine c.loop-stop.machine) in
    let after_turn = world_in (M.machine c.turn.new.machine) in
    let i = c.loop-stop.invariant in
    let L : Printing g.P.TurnPrinter.prints g.P.TurnPrinter.stops = record { both = g.met.P.TurnPrinter.then; stopped = g.met.P.TurnPrinter.stopped } in
    record {
      next = i.next;
      stops_ = stopped_in g.P.TurnPrinter.prints g.P.TurnPrinter.stops L z c.args.line.now c.index_of-index.result
          start i.next c.args.printer.now here after_turn c.loop-stop.printer
          c.turn.new.self i.put c.in-Err.stop c.in-Err.ensures.turned;
      at = i.at;
      sizes = c.turn.ensures.same.0 ∙ i.sizes;
      hands = c.turn.ensures.same.1 ∙ i.hands;
    }

pub loop-machine-preserved : goal.loop-machine-preserved
loop-machine-preserved g c =
    let M = g.M.MachineOwner in
    let z = (M.machine c.args.machine.now).sizes in
    let start = world_in (M.machine c.args.machine.now) in
    let after_turn_on = world_in (M.machine c.turn_on.new.machine) in
    let i = c.loop-machine.invariant in
    let L : Printing g.P.TurnPrinter.prints g.P.TurnPrinter.stops = record { both = g.met.P.TurnPrinter.then; stopped = g.met.P.TurnPrinter.stopped } in
    let on =
    turned_unprinted g.P.TurnPrinter.prints g.P.TurnPrinter.stops L z c.args.line.now c.index_of-index.result
    start i.next c.args.printer.now c.requires.part c.in-Err.stop c.turn.new.self (M.machine c.loop-machine.machine)
    after_turn_on c.turn_on.result c.turn_on.ensures.turned c.turn_on.ensures.begins (c.is_under_way.ensures.0 c.loop-machine-test.true)
    i.stops_ in
    record {
      next = i.next;
      stops_ = on.0;
      at = i.at;
      sizes = c.turn_on.ensures.same.0 ∙ i.sizes;
      hands = c.turn_on.ensures.same.1 ∙ i.hands;
    }

pub loop-machine-smaller : goal.loop-machine-smaller
loop-machine-smaller g c =
    let M = g.M.MachineOwner in
    let z = (M.machine c.args.machine.now).sizes in
    let start = world_in (M.machine c.args.machine.now) in
    let after_turn_on = world_in (M.machine c.turn_on.new.machine) in
    let i = c.loop-machine.invariant in
    let L : Printing g.P.TurnPrinter.prints g.P.TurnPrinter.stops = record { both = g.met.P.TurnPrinter.then; stopped = g.met.P.TurnPrinter.stopped } in
    (turned_unprinted g.P.TurnPrinter.prints g.P.TurnPrinter.stops L z c.args.line.now c.index_of-index.result
    start i.next c.args.printer.now c.requires.part c.in-Err.stop c.turn.new.self (M.machine c.loop-machine.machine)
    after_turn_on c.turn_on.result c.turn_on.ensures.turned c.turn_on.ensures.begins (c.is_under_way.ensures.0 c.loop-machine-test.true)
    i.stops_).1

pub returns-clause-ran : goal.returns-clause-ran
returns-clause-ran g c =
    let M = g.M.MachineOwner in
    let z = (M.machine c.args.machine.now).sizes in
    let start = world_in (M.machine c.args.machine.now) in
    let here = world_in (M.machine c.loop-machine.machine) in
    let i = c.loop-machine.invariant in
    let L : Printing g.P.TurnPrinter.prints g.P.TurnPrinter.stops = record { both = g.met.P.TurnPrinter.then; stopped = g.met.P.TurnPrinter.stopped } in
    subst (λ (n : ℕ). StopsOver g.P.TurnPrinter.stops z c.args.line.now n start
    here c.args.printer.now c.in-Err.stop c.turn.new.self) i.at
    (over_there g.P.TurnPrinter.prints g.P.TurnPrinter.stops L z c.args.line.now c.index_of-index.result
    start i.next c.args.printer.now here c.in-Err.stop c.turn.new.self
    (λ under. let going = c.is_under_way.ensures.1 under in let none = c.loop-machine-test.false in absurd (cc (going, none))) i.stops_)
