use Rattle.step_seats.proofs.Where.{telling, where_made}
use Rattle.host_map.proofs.Moving.{copies_word}
use Rattle.host_map.proofs.moves.copy.Goals as goal

pub returns-clause-told : goal.returns-clause-told
returns-clause-told g c =
    where_made c.make_part.ensures.made
    (λ w at has. copies_word c.args.index c.args.note _ (telling w (g.S.Stepper.seat c.args.s.now)) _ c.requires.may.needs at)
