use Rattle.std.proofs.Common.{ap, sym, ◌∙◌}
use Rattle.core_views.specs.declared.topics.Topics.{Topics}
use Rattle.core_views.specs.Held.{Held}
use Rattle.mmu_steps.proofs.PauseLoaded.{pause_loaded}
use Rattle.mmu_steps.proofs.step.advance_topics.Goals as goal

pub returns-in-Control-clause-core : goal.returns-in-Control-clause-core
returns-in-Control-clause-core c =
    let h : Held = c.args.hand.now.core in
    ap (λ (t : Topics). record h { topics = record t { pause = c.args.found } }) c.topics_mut-in-Control.ensures.value
    ∙ ap (λ (t : Topics). record h { topics = t }) (pause_loaded h.state.sizes c.args.kind h.topics c.args.found (sym c.named.ensures ∙ c.in-Control.is)
    (c.if-kind-number.true ∙ c.number.ensures))
