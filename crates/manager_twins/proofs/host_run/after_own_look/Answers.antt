use Rattle.std.proofs.Common.{◌≡◌, sym, ap, ◌∙◌}
use Rattle.std.specs.Prelude.{Bool, true, if◌then◌else◌}
use Rattle.core_views.specs.declared.answer.Answer.TheVariants.{Refused}
use Rattle.core_views.specs.declared.answer.Refusal.TheVariants.{OutOfRange}
use Rattle.core_views.specs.declared.topics.HostRow.{HostRow}
use Rattle.core_views.specs.HostRuns.{owns_run}
use Rattle.part_steps.specs.PageRuns.{one_look}
use Rattle.mmu_core.specs.declared.outcome.Outcome.TheVariants.{Ends}
use Rattle.mmu_core.specs.forms.host_run.HostRunSteps.{after_run_look}
use Rattle.manager_twins.proofs.host_run.after_own_look.Goals as goal

pub returns-then-owns_run : goal.returns-then-owns_run
returns-then-owns_run c =
    let owns : owns_run c.args.hand.now.core.state.sizes c.args.hand.now.core.state.actor c.args.page c.args.change ≡ true =
    sym (rw (c.progress.ensures) at c.owns_run.ensures) ∙ c.if-owns_run.true in
    c.after_look.ensures
    ∙ ap (λ (row : HostRow). after_run_look c.args.change (record { page = c.args.page; word = c.args.found }) row c.args.found) c.one_look.ensures
    ∙ sym (ap (λ (b : Bool). if b then after_run_look c.args.change (record { page = c.args.page; word = c.args.found }) one_look c.args.found
    else Ends (Refused OutOfRange)) owns)
