use Rattle.std.proofs.Common.{ap, ◌∙◌}
use Rattle.part_steps.specs.WalkTopics.{walked}
use Rattle.part_steps.proofs.EntryTopics.{entry_loaded, entry_not_loaded}
use Rattle.topic_twins.proofs.topics.load_entry.Goals as goal

pub returns-then-topics-ge1 : goal.returns-then-topics-ge1
returns-then-topics-ge1 c =
    entry_loaded c.args.sizes.now c.args.kind c.args.topics.now c.args.found c.walk.new.walk c.index_in_page.result c.requires.named
    c.if-topics-ge1.true c.index_in_page.ensures.is (c.walk.ensures ∙ ap (λ w. walked w c.index_in_page.result c.args.found) c.walk_on-at.ensures.is)

pub returns-else-topics-ge1 : goal.returns-else-topics-ge1
returns-else-topics-ge1 c = entry_not_loaded c.args.sizes.now c.args.kind c.args.topics.now c.args.found c.requires.named c.if-topics-ge1.false
