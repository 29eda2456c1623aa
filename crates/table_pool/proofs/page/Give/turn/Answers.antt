use Rattle.table_pool.proofs.Paging.{give_frees}
use Rattle.step_seats.proofs.Where.{telling, where_made}
use Rattle.table_pool.proofs.page.Give.turn.Goals as goal

pub returns-clause-frees : goal.returns-clause-frees
returns-clause-frees g c =
    where_made c.make_part.ensures.made
    (λ w at has. give_frees c.args.self.now.page _ _ (telling w (g.S.Stepper.seat c.args.s.now)) _ c.requires.may.needs c.requires.page at)
