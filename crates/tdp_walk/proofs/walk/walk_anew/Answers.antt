use Rattle.step_seats.proofs.Where.{telling, where_made}
use Rattle.tdp_walk.proofs.Sweeping.{anew_word}
use Rattle.tdp_walk.proofs.walk.walk_anew.Goals as goal

pub returns-clause-told : goal.returns-clause-told
returns-clause-told g c =
    where_made c.make_part.ensures.made
    (λ w at has. anew_word c.args.gfn _ _ (telling w (g.S.Stepper.seat c.args.s.now)) (telling _ (g.S.Stepper.seat c.make_part.new.s))
    c.requires.may.needs at)
