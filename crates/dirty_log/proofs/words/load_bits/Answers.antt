use Rattle.step_seats.proofs.Where.{telling, where_made}
use Rattle.dirty_log.proofs.LogWords.{loaded_word}
use Rattle.dirty_log.proofs.words.load_bits.Goals as goal

pub returns-clause-told : goal.returns-clause-told
returns-clause-told g c =
    where_made c.make_part.ensures.made
    (λ w at has. loaded_word c.args.word _ _ (telling w (g.S.Stepper.seat c.args.s.now)) (telling _ (g.S.Stepper.seat c.make_part.new.s))
    c.requires.may.needs at)
