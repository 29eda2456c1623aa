use Rattle.host_map.proofs.Touches.{reads}
use Rattle.host_map.proofs.content.load.Goals as goal

pub returns-clause-words : goal.returns-clause-words
returns-clause-words g c =
    reads c.args.frame c.args.word c.args.note c.touch.result (g.S.Stepper.seat c.args.s.now) (g.S.Stepper.seat c.touch.new.s)
    c.requires.frame c.requires.word c.touch.ensures.touches
