use Rattle.step_seats.proofs.PartMade.{made_part}
use Rattle.step_seats.proofs.part.make_part.Goals as goal

pub returns-clause-made : goal.returns-clause-made
returns-clause-made g c =
    made_part c.args.step c.args.note c.act.result (g.S.Stepper.seat c.args.s.now) (g.S.Stepper.seat c.act.new.self)
    c.part_kind-kind.result (rw c.hand-hand.ensures.hand at c.part_kind-kind.ensures) c.requires.may c.hand-hand.ensures.has c.act.ensures.acts

pub returns-clause-has : goal.returns-clause-has
returns-clause-has g c = c.act.ensures.acts.has
