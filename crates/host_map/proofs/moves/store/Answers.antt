use Rattle.step_seats.proofs.Where.{telling, where_made}
use Rattle.host_map.proofs.Moving.{stores_word}
use Rattle.host_map.proofs.moves.store.Goals as goal

pub returns-clause-writes : goal.returns-clause-writes
returns-clause-writes g c =
    where_made c.make_part.ensures.made
    (λ w at has. stores_word c.args.index c.args.note _ (telling w (g.S.Stepper.seat c.args.s.now)) _ c.requires.may.needs at)
