use Rattle.std.proofs.Common.{[], ap, sym, ◌∙◌}
use Rattle.core_views.specs.declared.answer.Answer.TheVariants.{Bits, Refused}
use Rattle.core_views.specs.declared.answer.AnsweredLine.{AnsweredLine}
use Rattle.core_views.specs.declared.progress.Progress.{Progress}
use Rattle.core_views.specs.declared.place.Place.TheVariants.{Between, Log}
use Rattle.core_views.specs.declared.trace.Line.{Line}
use Rattle.core_views.specs.Held.{Handful, Held, answered}
use Rattle.mmu_core.specs.lines.Delays.{line_waits}
use Rattle.mmu_steps.proofs.forms.log.LogMade.{log_answered, log_goes, log_refused, stands_at}
use Rattle.mmu_steps.proofs.step.advance_log.Goals as goal

pub returns-in-Goes-clause-core : goal.returns-in-Goes-clause-core
returns-in-Goes-clause-core c =
    c.go_on.ensures.core
    ∙ log_goes c.args.hand.now.core c.read.new.hand.core c.line-line.result.now c.args.place c.args.found c.next-next.result c.args.waits
    c.steps_behind-steps.result c.delays_behind-delays.result c.progress.result.now.used c.line-line.ensures.next c.next-next.ensures
    (c.requires.waits ∙ ap (λ (l : Line). line_waits (Log c.args.place) l.command c.args.hand.now.core c.args.found) (sym c.line-line.ensures.next))
    c.steps_behind-steps.ensures c.delays_behind-delays.ensures (ap (λ (p : Progress). p.used) c.progress.ensures)
    c.read.ensures.core c.in-Goes.place c.in-Goes.is

pub returns-in-Refused-clause-core : goal.returns-in-Refused-clause-core
returns-in-Refused-clause-core c =
    let line : Line = c.line-line.result.now in
    let answer : AnsweredLine = record { number = line.number; actor = line.actor; answer = Refused c.in-Refused.refusal } in
    ap (λ (x : Handful). x.core) c.answer.ensures
    ∙ ap (answered answer) (c.go_on-in-Refused.ensures.core
    ∙ ap (λ (x : Held). stands_at x Between c.progress.result.now.used c.steps_behind-steps.result c.delays_behind-delays.result) c.clear_harvest.ensures.core)
    ∙ log_refused c.args.hand.now.core c.read.new.hand.core line c.args.place c.args.found c.next-next.result c.args.waits
    c.steps_behind-steps.result c.delays_behind-delays.result c.progress.result.now.used c.line-line.ensures.next c.next-next.ensures
    (c.requires.waits ∙ ap (λ (l : Line). line_waits (Log c.args.place) l.command c.args.hand.now.core c.args.found) (sym c.line-line.ensures.next))
    c.steps_behind-steps.ensures c.delays_behind-delays.ensures (ap (λ (p : Progress). p.used) c.progress.ensures)
    c.read.ensures.core c.in-Refused.refusal c.in-Refused.is

pub returns-in-Reads-clause-core : goal.returns-in-Reads-clause-core
returns-in-Reads-clause-core c =
    let line : Line = c.line-line.result.now in
    c.answer_harvest.ensures.core
    ∙ ap (λ (x : Held). record (answered (record { number = line.number; actor = line.actor; answer = Bits x.harvest }) x) { harvest = [] })
    c.go_on-in-Reads.ensures.core
    ∙ log_answered c.args.hand.now.core c.read.new.hand.core line c.args.place c.args.found c.next-next.result c.args.waits
    c.steps_behind-steps.result c.delays_behind-delays.result c.progress.result.now.used c.line-line.ensures.next c.next-next.ensures
    (c.requires.waits ∙ ap (λ (l : Line). line_waits (Log c.args.place) l.command c.args.hand.now.core c.args.found) (sym c.line-line.ensures.next))
    c.steps_behind-steps.ensures c.delays_behind-delays.ensures (ap (λ (p : Progress). p.used) c.progress.ensures)
    c.read.ensures.core c.in-Reads.is
