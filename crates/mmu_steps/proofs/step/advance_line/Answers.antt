use Rattle.std.proofs.Common.{length, ap, refl, subst, sym, ◌∙◌}
use Rattle.core_views.specs.declared.place.Place.TheVariants.{Between}
use Rattle.core_views.specs.declared.progress.Progress.{Progress}
use Rattle.core_views.specs.declared.trace.Line.{Line}
use Rattle.core_views.specs.Held.{Held, answered, line_under, next_line}
use Rattle.mmu_core.specs.declared.outcome.Outcome.{Outcome}
use Rattle.mmu_core.specs.declared.outcome.Outcome.TheVariants.{Ends}
use Rattle.mmu_core.specs.lines.Forms.{records_at}
use Rattle.mmu_core.specs.machine.Outcomes.{answers_after, place_after}
use Rattle.mmu_core.specs.machine.Steps.{line_after}
use Rattle.mmu_core.proofs.lines.Forms.{outcome_goes}
use Rattle.mmu_core.proofs.machine.GoesOn.{GoesUnderWay}
use Rattle.mmu_steps.proofs.LineMade.{delay_is, line_ends, line_goes, line_made, loads_none, recorded_is}
use Rattle.mmu_steps.proofs.forms.log.LogMade.{reads_same}
use Rattle.mmu_steps.proofs.step.advance_line.Goals as goal

pub returns-in-Goes-clause-core : goal.returns-in-Goes-clause-core
returns-in-Goes-clause-core c =
    let h : Held = c.args.hand.now.core in
    let line : Line = c.line-line.result.now in
    let recorded : Held = c.record_step.new.hand.core in
    let reads = reads_same c.args.place line.command h c.args.found c.requires.other in
    let f_is = recorded_is h recorded line c.args.place c.args.found c.line-line.ensures.next c.requires.no_access c.record_step.ensures.core in
    let under = subst GoesUnderWay (sym c.outcome-outcome.ensures
    ∙ c.in-Goes.is) (outcome_goes c.args.place line.command h c.args.found c.requires.begun) in
    c.go_on.ensures.core
    ∙ line_made h recorded line c.args.place c.in-Goes.place (line_under c.in-Goes.place recorded.lines (length recorded.answers)) c.args.found
    c.progress.result.now.used (records_at c.args.place line.command h.slots) c.outcome-outcome.result c.is_delay-delay.result c.steps_behind-steps.result
    c.delays_behind-delays.result recorded.answers
    c.outcome-outcome.ensures (ap (λ (x : Progress). x.used) c.progress.ensures ∙ loads_none c.args.place line.command h c.args.found c.requires.no_access)
    (delay_is c.args.place line.command (next_line h).command h c.outcome-outcome.result c.args.found c.args.waits c.is_delay-delay.result
    (ap (λ (l : Line). l.command) c.line-line.ensures.next) c.requires.waits c.is_delay-delay.ensures) c.steps_behind-steps.ensures
    c.delays_behind-delays.ensures refl f_is (sym (ap place_after c.in-Goes.is))
    (ap (λ (x : Held). x.answers) f_is ∙ sym (ap (λ (o : Outcome). answers_after o line h.answers) c.in-Goes.is))
    (ap (λ (x : Held). line_under c.in-Goes.place x.lines (length x.answers)) f_is ∙ (line_goes c.in-Goes.place h under ∙ sym c.line-line.ensures.next)) reads
    ∙ ap (λ (l : Line). line_after l c.args.place h c.args.found) c.line-line.ensures.next

pub returns-in-Ends-clause-core : goal.returns-in-Ends-clause-core
returns-in-Ends-clause-core c =
    let h : Held = c.args.hand.now.core in
    let line : Line = c.line-line.result.now in
    let recorded : Held = c.record_step.new.hand.core in
    let reads = reads_same c.args.place line.command h c.args.found c.requires.other in
    let f_is = recorded_is h recorded line c.args.place c.args.found c.line-line.ensures.next c.requires.no_access c.record_step.ensures.core in
    let answers = answers_after (Ends c.in-Ends.answer) line recorded.answers in
    ap (λ x. x.core) c.answer.ensures
    ∙ ap (λ (x : Held). answered (record { number = line.number; actor = line.actor; answer = c.in-Ends.answer }) x) c.go_on-in-Ends.ensures.core
    ∙ line_made h recorded line c.args.place Between (line_under Between recorded.lines (length answers)) c.args.found
    c.progress.result.now.used (records_at c.args.place line.command h.slots) c.outcome-outcome.result c.is_delay-delay.result c.steps_behind-steps.result
    c.delays_behind-delays.result answers
    c.outcome-outcome.ensures (ap (λ (x : Progress). x.used) c.progress.ensures ∙ loads_none c.args.place line.command h c.args.found c.requires.no_access)
    (delay_is c.args.place line.command (next_line h).command h c.outcome-outcome.result c.args.found c.args.waits c.is_delay-delay.result
    (ap (λ (l : Line). l.command) c.line-line.ensures.next) c.requires.waits c.is_delay-delay.ensures) c.steps_behind-steps.ensures
    c.delays_behind-delays.ensures refl f_is (sym (ap place_after c.in-Ends.is))
    (ap (λ (x : Held). answers_after (Ends c.in-Ends.answer) line x.answers) f_is
    ∙ sym (ap (λ (o : Outcome). answers_after o line h.answers) c.in-Ends.is))
    (ap (λ (x : Held). line_under Between x.lines (length (answers_after (Ends c.in-Ends.answer) line x.answers))) f_is
    ∙ (line_ends h _ ∙ sym c.line-line.ensures.next)) reads
    ∙ ap (λ (l : Line). line_after l c.args.place h c.args.found) c.line-line.ensures.next
