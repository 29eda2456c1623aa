use Rattle.step_seats.specs.LineTurns.{turn_told}
use Rattle.step_seats.proofs.LineTurns.{turns_from}
use Rattle.step_seats.proofs.line_turn.take_turn.Goals as goal

pub returns-clause-turns : goal.returns-clause-turns
returns-clause-turns g c =
    let e = c.make_ready.ensures in
    turns_from (turn_told c.turn_line.result (g.S.Stepper.seat c.args.s.now).hand (g.S.Stepper.seat c.turn_line.new.s).hand) (g.S.Stepper.seat c.args.s.now)
    (g.S.Stepper.seat c.make_ready.new.s) (g.S.Stepper.seat c.turn_line.new.s) e.same.0 e.hand e.told
    (rw e.hand at c.turn_line.ensures.turns)
