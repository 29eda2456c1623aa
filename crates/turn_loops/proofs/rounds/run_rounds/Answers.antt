use Rattle.std.proofs.Common.{◌∙◌, ◌≡◌, ◌<◌, [], ◌∷◌, arith, refl}
use Rattle.std.proofs.lemmas.Result.{err_from_is_err_and}
use Rattle.core_views.specs.Sizes.{actors_of}
use Rattle.step_seats.specs.Machines.{world_in}
use Rattle.turn_loops.specs.Marks.{Rounds}
use Rattle.turn_loops.specs.Rounds.{IsNextPlace}
use Rattle.turn_loops.specs.Turning.{AreMarkedAfter}
use Rattle.turn_loops.proofs.BeforeSteps.{no_rounds}
use Rattle.turn_loops.proofs.Coming.{Printing, comes_none, so_far_none}
use Rattle.turn_loops.proofs.ItemTurns.{made_one}
use Rattle.turn_loops.proofs.RoundLists.{InRounds, none_made, passes, rounds_over, rounds_stop, turns}
use Rattle.turn_loops.proofs.rounds.run_rounds.Goals as goal

pub returns-in_err-rounds-clause-prints : goal.returns-in_err-rounds-clause-prints
returns-in_err-rounds-clause-prints g c =
    let M = g.M.MachineOwner in
    let z = (M.machine c.args.machine.now).sizes in
    let start = world_in (M.machine c.args.machine.now) in
    let p = err_from_is_err_and c.from_residual.result c.from_residual.ensures.1 in
    rw (p.1, p.2) (
      [],
      [],
      Rounds ∷ [],
      (no_rounds z c.args.limit start, refl),
      comes_none start,
      c.in_err-rounds.ensures,
    )

pub loop-passed-init : goal.loop-passed-init
loop-passed-init g c =
    let M = g.M.MachineOwner in
    let z = (M.machine c.args.machine.now).sizes in
    let start = world_in (M.machine c.args.machine.now) in
    record {
      so_far =
          so_far_none g.P.TurnPrinter.prints (AreMarkedAfter Rounds (InRounds z 0 0 0)) start c.args.printer.now
          c.rounds.new.self (Rounds ∷ []) (none_made z start, refl) c.in_ok-rounds.ensures;
      within = omega arith;
      few = omega arith;
      sizes = refl;
      hands = refl;
    }

pub returns-in_err-turn-clause-prints : goal.returns-in_err-turn-clause-prints
returns-in_err-turn-clause-prints g c =
    let M = g.M.MachineOwner in
    let z = (M.machine c.args.machine.now).sizes in
    let start = world_in (M.machine c.args.machine.now) in
    let here = world_in (M.machine c.loop-passed.machine) in
    let after_turn = world_in (M.machine c.turn.new.machine) in
    let i = c.loop-passed.invariant in
    let some : c.loop-passed.passed < actors_of z = rw (c.actors-count.ensures, c.sizes.ensures.is) at c.loop-passed-test.true in
    let p = err_from_is_err_and c.from_residual-in_err-turn.result c.from_residual-in_err-turn.ensures.1 in
    let L : Printing g.P.TurnPrinter.prints g.P.TurnPrinter.stops = record { both = g.met.P.TurnPrinter.then; stopped = g.met.P.TurnPrinter.stopped } in
    rw (p.1, p.2) (rounds_stop g.P.TurnPrinter.prints g.P.TurnPrinter.stops L z c.loop-passed.index c.loop-passed.passed
    c.loop-passed.made c.next_place-index.result start here after_turn
    c.args.printer.now c.loop-passed.printer c.turn.new.self i.so_far some c.args.limit c.in_err-turn.field-0.0 c.if-made-limit.true
    c.in_err-turn.ensures.turned)

pub loop-passed-preserved-in-NoLine : goal.loop-passed-preserved-in-NoLine
loop-passed-preserved-in-NoLine g c =
    let M = g.M.MachineOwner in
    let z = (M.machine c.args.machine.now).sizes in
    let start = world_in (M.machine c.args.machine.now) in
    let here = world_in (M.machine c.loop-passed.machine) in
    let after_turn = world_in (M.machine c.turn.new.machine) in
    let i = c.loop-passed.invariant in
    let some : c.loop-passed.passed < actors_of z = rw (c.actors-count.ensures, c.sizes.ensures.is) at c.loop-passed-test.true in
    let step : IsNextPlace (actors_of z) c.loop-passed.index c.next_place-index.result =
    rw (c.actors-count.ensures, c.sizes.ensures.is) at c.next_place-index.ensures in
    let turned = rw c.in-NoLine.is at c.in_ok-turn.ensures.turned in
    let L : Printing g.P.TurnPrinter.prints g.P.TurnPrinter.stops = record { both = g.met.P.TurnPrinter.then; stopped = g.met.P.TurnPrinter.stopped } in
    record {
      so_far =
          passes g.P.TurnPrinter.prints g.P.TurnPrinter.stops L z c.loop-passed.index c.loop-passed.passed c.loop-passed.made
          c.next_place-index.result start here after_turn c.args.printer.now
          c.loop-passed.printer c.turn.new.self i.so_far some step turned.0 turned.1 turned.2;
      within = omega (arith, c.loop-passed-test.true);
      few = i.few;
      sizes = c.turn.ensures.same.0 ∙ i.sizes;
      hands = c.turn.ensures.same.1 ∙ i.hands;
    }

pub loop-passed-preserved : goal.loop-passed-preserved
loop-passed-preserved g c =
    let M = g.M.MachineOwner in
    let z = (M.machine c.args.machine.now).sizes in
    let start = world_in (M.machine c.args.machine.now) in
    let here = world_in (M.machine c.loop-passed.machine) in
    let after_turn = world_in (M.machine c.turn.new.machine) in
    let i = c.loop-passed.invariant in
    let some : c.loop-passed.passed < actors_of z = rw (c.actors-count.ensures, c.sizes.ensures.is) at c.loop-passed-test.true in
    let step : IsNextPlace (actors_of z) c.loop-passed.index c.next_place-index.result =
    rw (c.actors-count.ensures, c.sizes.ensures.is) at c.next_place-index.ensures in
    let L : Printing g.P.TurnPrinter.prints g.P.TurnPrinter.stops = record { both = g.met.P.TurnPrinter.then; stopped = g.met.P.TurnPrinter.stopped } in
    record {
      so_far =
          turns g.P.TurnPrinter.prints g.P.TurnPrinter.stops L z c.loop-passed.index c.loop-passed.passed c.loop-passed.made
          c.next_place-index.result start here after_turn c.args.printer.now
          c.loop-passed.printer c.turn.new.self i.so_far some step
          (made_one g.P.TurnPrinter.prints g.P.TurnPrinter.stops L c.in_ok-turn.field-0 c.loop-passed.index here
          after_turn c.loop-passed.printer c.turn.new.self c.in-Went.is c.in_ok-turn.ensures.turned);
      within = omega arith;
      few = omega (arith, c.if-made-limit.true);
      sizes = c.turn.ensures.same.0 ∙ i.sizes;
      hands = c.turn.ensures.same.1 ∙ i.hands;
    }

pub returns-after-loop-passed-clause-prints : goal.returns-after-loop-passed-clause-prints
returns-after-loop-passed-clause-prints g c =
    let M = g.M.MachineOwner in
    let z = (M.machine c.args.machine.now).sizes in
    let start = world_in (M.machine c.args.machine.now) in
    let here = world_in (M.machine c.loop-passed.machine) in
    let i = c.loop-passed.invariant in
    let count : c.actors-count.result ≡ actors_of z = rw c.sizes.ensures.is at c.actors-count.ensures in
    let L : Printing g.P.TurnPrinter.prints g.P.TurnPrinter.stops = record { both = g.met.P.TurnPrinter.then; stopped = g.met.P.TurnPrinter.stopped } in
    rounds_over g.P.TurnPrinter.prints g.P.TurnPrinter.stops L z c.args.limit c.loop-passed.index c.loop-passed.passed
    c.loop-passed.made start here c.args.printer.now c.loop-passed.printer i.so_far i.few
    (λ some more. omega (arith, some, count, c.loop-passed-test.false))

pub turn-requires-clause-ready : goal.turn-requires-clause-ready
turn-requires-clause-ready g c =
    let F = c.loop-passed.invariant.so_far in g.met.P.TurnPrinter.goes_on c.args.printer.now c.loop-passed.printer F.marks F.put
