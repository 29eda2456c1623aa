use Rattle.std.proofs.Common.{◌≡◌, ◌<◌, ◌^◌, ap, subst, sym, ◌∙◌}
use Rattle.std.specs.Prelude.{Some}
use Rattle.core_views.specs.declared.topics.Topics.{Topics}
use Rattle.part_steps.specs.PageRuns.{is_several}
use Rattle.part_steps.specs.PartTasks.{page_to_change}
use Rattle.part_steps.proofs.PageRuns.{changing_small, next_small}
use Rattle.manager_twins.proofs.host_run.after_change.Goals as goal

-- The run whose pages are changed is one of the machine's, and so is its next page.
pub word_next-requires-clause-run : goal.word_next-requires-clause-run
word_next-requires-clause-run c = λ run is.
    let several = ap (λ (t : Topics). is_several t.invalidations.own.pages) (sym c.topics-topics.ensures) ∙ sym c.is_several.ensures ∙ c.if-is_several.true in
    changing_small c.args.hand.now.core run c.requires.rests (c.requires.needs several)
    (subst (λ (t : Topics). t.invalidations.own.pages ≡ Some run) c.topics-topics.ensures is)

pub word_next-requires-clause-page : goal.word_next-requires-clause-page
word_next-requires-clause-page c =
    let several = ap (λ (t : Topics). is_several t.invalidations.own.pages) (sym c.topics-topics.ensures) ∙ sym c.is_several.ensures ∙ c.if-is_several.true in
    subst (λ (t : Topics). page_to_change t.invalidations.own.pages < 2 ^ 32) (sym c.topics-topics.ensures)
    (next_small c.args.hand.now.core c.requires.rests (c.requires.needs several))
