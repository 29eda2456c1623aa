use Rattle.step_seats.proofs.Where.{telling, where_made}
use Rattle.host_map.proofs.Moving.{frees_frame}
use Rattle.host_map.proofs.moves.frame_give.Goals as goal

pub returns-clause-frees : goal.returns-clause-frees
returns-clause-frees g c =
    where_made c.make_part.ensures.made (λ w at has. frees_frame c.args.note _ (telling w (g.S.Stepper.seat c.args.s.now)) _ c.requires.may.needs at)
