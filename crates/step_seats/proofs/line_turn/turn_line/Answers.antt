use Rattle.step_seats.specs.LineTurns.{turn_told}
use Rattle.step_seats.proofs.LineTurns.{turns_same, turns_say}
use Rattle.step_seats.proofs.line_turn.turn_line.Goals as goal

pub returns-clause-says : goal.returns-clause-says
returns-clause-says g c =
    turns_say (turn_told c.make_turn.result (g.S.Stepper.seat c.args.s.now).hand (g.S.Stepper.seat c.make_turn.new.s).hand) (g.S.Stepper.seat c.args.s.now)
    (g.S.Stepper.seat c.make_turn.new.s) c.requires.left c.make_turn.ensures.turns

pub returns-clause-hand : goal.returns-clause-hand
returns-clause-hand g c =
    turns_same (turn_told c.make_turn.result (g.S.Stepper.seat c.args.s.now).hand (g.S.Stepper.seat c.make_turn.new.s).hand) (g.S.Stepper.seat c.args.s.now)
    (g.S.Stepper.seat c.make_turn.new.s) c.make_turn.ensures.turns
