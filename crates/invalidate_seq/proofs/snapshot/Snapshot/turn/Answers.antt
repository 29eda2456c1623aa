use Rattle.invalidate_seq.proofs.Loading.{snapshot_told}
use Rattle.step_seats.proofs.Where.{telling, where_made}
use Rattle.invalidate_seq.proofs.snapshot.Snapshot.turn.Goals as goal

pub returns-clause-word : goal.returns-clause-word
returns-clause-word g c =
    where_made c.make_part.ensures.made (λ w at has. snapshot_told _ _ (telling w (g.S.Stepper.seat c.args.s.now)) _ c.requires.loose at)
