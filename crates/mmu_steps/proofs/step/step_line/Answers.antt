use Rattle.std.proofs.Common.{ap, refl, subst, sym, ◌∙◌}
use Rattle.core_views.specs.Held.{Handful}
use Rattle.mmu_core.specs.lines.Rests.{Rests}
use Rattle.mmu_steps.proofs.Advancing.{line_rests}
use Rattle.mmu_steps.proofs.step.step_line.Goals as goal

pub step_access-requires-clause-rests : goal.step_access-requires-clause-rests
step_access-requires-clause-rests c =
    line_rests c.args.hand.now.core c.args.kind c.requires.enabled (sym c.has_line.ensures ∙ c.if-has_line.true)

pub step_form-requires-clause-rests : goal.step_form-requires-clause-rests
step_form-requires-clause-rests c =
    subst Rests (sym (ap (λ (x : Handful). x.core) (c.if-not-step_access.ensures.none refl)))
    (line_rests c.args.hand.now.core c.args.kind c.requires.enabled (sym c.has_line.ensures ∙ c.if-has_line.true))
