use Rattle.std.proofs.Common.{◌<◌, ◌∙◌, ap, length, subst, sym}
use Rattle.core_views.specs.Held.{Handful, Held}
use Rattle.turn_loops.specs.Given.{IsLastAnswer}
use Rattle.turn_loops.proofs.one_line.last_answer.Goals as goal

pub last_of-requires : goal.last_of-requires
last_of-requires g c =
    subst (λ (h : Held). 0 < length h.answers) (c.hand.ensures.has.is ∙ ap (λ (x : Handful). x.core) (sym c.hand.ensures.hand)) c.requires.answered

pub returns : goal.returns
returns g c =
    subst (λ (h : Held). IsLastAnswer c.last_of.result.now h) (sym (c.hand.ensures.has.is ∙ ap (λ (x : Handful). x.core) (sym c.hand.ensures.hand)))
    c.last_of.ensures
