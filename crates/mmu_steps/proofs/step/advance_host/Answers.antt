use Rattle.std.proofs.Common.{length, ap, sym, ◌∙◌}
use Rattle.core_views.specs.declared.place.Place.TheVariants.{Between}
use Rattle.core_views.specs.declared.progress.Progress.{Progress}
use Rattle.core_views.specs.declared.trace.Line.{Line}
use Rattle.core_views.specs.Held.{Handful, Held, answered, line_under}
use Rattle.mmu_core.specs.declared.outcome.Outcome.{Outcome}
use Rattle.mmu_core.specs.declared.outcome.Outcome.TheVariants.{Ends}
use Rattle.mmu_core.specs.machine.Outcomes.{answers_after, place_after}
use Rattle.mmu_steps.proofs.LineMade.{line_ends}
use Rattle.mmu_steps.proofs.forms.host.HostMade.{host_goes, host_made}
use Rattle.mmu_steps.proofs.step.advance_host.Goals as goal

pub returns-in-Goes-clause-core : goal.returns-in-Goes-clause-core
returns-in-Goes-clause-core c =
    let h : Held = c.args.hand.now.core in
    let line : Line = c.line-line.result.now in
    let used = ap (λ (x : Progress). x.used) c.progress.ensures in
    c.go_on.ensures.core
    ∙ host_made h line c.args.place c.in-ChangeHost.page c.in-ChangeHost.change c.args.found c.outcome-outcome.result c.args.waits
    c.steps_behind-steps.result c.delays_behind-delays.result c.progress.result.now.used c.line-line.ensures.next c.in-ChangeHost.is
    c.outcome-outcome.ensures c.requires.waits c.steps_behind-steps.ensures c.delays_behind-delays.ensures used
    c.in-Goes.place (line_under c.in-Goes.place h.lines (length h.answers)) h.answers (sym (ap place_after c.in-Goes.is))
    (sym (ap (λ (o : Outcome). answers_after o line h.answers) c.in-Goes.is))
    (host_goes h line c.args.place c.in-ChangeHost.page c.in-ChangeHost.change c.args.found c.outcome-outcome.result c.args.waits
    c.steps_behind-steps.result c.delays_behind-delays.result c.progress.result.now.used c.line-line.ensures.next c.in-ChangeHost.is
    c.outcome-outcome.ensures c.requires.waits c.steps_behind-steps.ensures c.delays_behind-delays.ensures used c.in-Goes.place c.in-Goes.is)

pub returns-in-Ends-clause-core : goal.returns-in-Ends-clause-core
returns-in-Ends-clause-core c =
    let h : Held = c.args.hand.now.core in
    let line : Line = c.line-line.result.now in
    let answers = answers_after (Ends c.in-Ends.answer) line h.answers in
    ap (λ (x : Handful). x.core) c.answer.ensures
    ∙ ap (answered (record { number = line.number; actor = line.actor; answer = c.in-Ends.answer })) c.go_on-in-Ends.ensures.core
    ∙ host_made h line c.args.place c.in-ChangeHost.page c.in-ChangeHost.change c.args.found c.outcome-outcome.result c.args.waits
    c.steps_behind-steps.result c.delays_behind-delays.result c.progress.result.now.used c.line-line.ensures.next c.in-ChangeHost.is
    c.outcome-outcome.ensures c.requires.waits c.steps_behind-steps.ensures c.delays_behind-delays.ensures
    (ap (λ (x : Progress). x.used) c.progress.ensures) Between (line_under Between h.lines (length answers)) answers
    (sym (ap place_after c.in-Ends.is)) (sym (ap (λ (o : Outcome). answers_after o line h.answers) c.in-Ends.is))
    (line_ends h _ ∙ sym c.line-line.ensures.next)
