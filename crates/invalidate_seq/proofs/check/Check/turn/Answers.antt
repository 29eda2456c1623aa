use Rattle.invalidate_seq.proofs.Loading.{loads_only, word_told}
use Rattle.step_seats.proofs.Where.{telling, where_made}
use Rattle.invalidate_seq.proofs.check.Check.turn.Goals as goal

pub returns-clause-loads : goal.returns-clause-loads
returns-clause-loads g c =
    let made = rw c.step.ensures at c.make_part.ensures.made in
    loads_only c.args.self.now.stage (g.S.Stepper.seat c.args.s.now).hand.topics (g.S.Stepper.seat c.make_part.new.s).hand.topics c.make_part.result
    c.requires.locked made.topics

pub returns-clause-word : goal.returns-clause-word
returns-clause-word g c =
    let made = rw c.step.ensures at c.make_part.ensures.made in
    where_made made (λ w at has. word_told c.args.self.now.stage _ _ (telling w (g.S.Stepper.seat c.args.s.now)) _ c.requires.locked at)
