use Rattle.std.proofs.Common.{refl}
use Rattle.step_seats.proofs.Where.{telling, where_made}
use Rattle.invalidate_seq.proofs.Storing.{open_keeps, opened_behind, wrote}
use Rattle.invalidate_seq.proofs.open.Open.turn.Goals as goal

pub returns-clause-opens : goal.returns-clause-opens
returns-clause-opens g c =
    let is = rw (c.topics.ensures, c.hand-hand.ensures.hand) at c.step-step.ensures in
    let made = rw is at c.make_part.ensures.made in
    opened_behind c.args.self.now.stage c.args.self.now.first c.args.self.now.end (g.S.Stepper.seat c.args.s.now).hand.topics
    (g.S.Stepper.seat c.make_part.new.s).hand.topics c.make_part.result c.requires.alone (wrote _ _ _ _ _ c.requires.may.needs made) made.topics

pub returns-clause-word : goal.returns-clause-word
returns-clause-word g c =
    let is = rw (c.topics.ensures, c.hand-hand.ensures.hand) at c.step-step.ensures in
    let made = rw is at c.make_part.ensures.made in
    where_made made
    (λ w at has. open_keeps _ _ (telling w (g.S.Stepper.seat c.args.s.now)) (telling _ (g.S.Stepper.seat c.make_part.new.s)) w _
    c.args.self.now.stage c.args.self.now.first c.args.self.now.end c.requires.may.needs refl refl at)
