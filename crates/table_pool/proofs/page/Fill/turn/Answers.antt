use Rattle.table_pool.proofs.Paging.{fill_writes}
use Rattle.step_seats.proofs.Where.{telling, where_made}
use Rattle.table_pool.proofs.page.Fill.turn.Goals as goal

pub returns-then-filled-eq-ENTRIES-clause-writes : goal.returns-then-filled-eq-ENTRIES-clause-writes
returns-then-filled-eq-ENTRIES-clause-writes g c =
    where_made c.fill_next.ensures.made
    (λ w at has. fill_writes c.args.value c.args.self.now.page _ _ (telling w (g.S.Stepper.seat c.args.s.now)) _ c.requires.may.needs c.requires.page at)

pub returns-else-filled-eq-ENTRIES-clause-writes : goal.returns-else-filled-eq-ENTRIES-clause-writes
returns-else-filled-eq-ENTRIES-clause-writes g c =
    where_made c.fill_next.ensures.made
    (λ w at has. fill_writes c.args.value c.args.self.now.page _ _ (telling w (g.S.Stepper.seat c.args.s.now)) _ c.requires.may.needs c.requires.page at)
