use Rattle.part_steps.proofs.EntryTopics.{entry_exchanged, entry_not_exchanged}
use Rattle.topic_twins.proofs.topics.exchange_entry.Goals as goal

pub returns-then-topics-ge1 : goal.returns-then-topics-ge1
returns-then-topics-ge1 c =
    entry_exchanged c.args.sizes.now c.args.kind c.args.topics.now c.args.found c.swap_entry.new.at c.keep_owned.new.owned c.owe_mark.new.owed
    c.index_in_page-index.result c.requires.named c.if-topics-ge1.true c.index_in_page-index.ensures.is c.swap_entry.ensures c.keep_owned.ensures
    c.owe_mark.ensures

pub returns-else-topics-ge1 : goal.returns-else-topics-ge1
returns-else-topics-ge1 c = entry_not_exchanged c.args.sizes.now c.args.kind c.args.topics.now c.args.found c.requires.named c.if-topics-ge1.false
