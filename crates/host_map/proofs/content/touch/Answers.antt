use Rattle.std.proofs.Common.{ap, ◌∙◌}
use Rattle.core_views.specs.declared.progress.Progress.{Progress}
use Rattle.core_views.specs.Held.{Held, progress_of}
use Rattle.host_map.specs.Touching.{touch_kind}
use Rattle.host_map.proofs.Touches.{touches}
use Rattle.host_map.proofs.content.touch.Goals as goal

pub returns-clause-touches : goal.returns-clause-touches
returns-clause-touches g c =
    touches c.args.frame c.args.word c.args.note c.act.result (g.S.Stepper.seat c.args.s.now) (g.S.Stepper.seat c.act.new.self)
    c.requires.frame c.requires.word c.args.op c.touch_kind-kind.result
    (c.touch_kind-kind.ensures
    ∙ ap (λ (x : Progress). touch_kind x.sizes c.args.frame c.args.word c.args.op c.args.note)
    (c.progress.ensures ∙ ap (λ (x : Held). progress_of x.state) c.hand-hand.ensures.hand))
    c.act.ensures.acts
