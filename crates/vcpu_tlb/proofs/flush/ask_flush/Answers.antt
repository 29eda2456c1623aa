use Rattle.step_seats.proofs.Where.{telling, where_made}
use Rattle.vcpu_tlb.proofs.Asking.{asked_word}
use Rattle.vcpu_tlb.proofs.flush.ask_flush.Goals as goal

pub returns-clause-told : goal.returns-clause-told
returns-clause-told g c =
    where_made c.make_part.ensures.made
    (λ w at has. asked_word c.args.index _ _ (telling w (g.S.Stepper.seat c.args.s.now)) (telling _ (g.S.Stepper.seat c.make_part.new.s))
    c.requires.may.needs at)
