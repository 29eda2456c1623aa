use Rattle.mmu_steps.proofs.Advancing.{advanced, room_still, sizes_still}
use Rattle.mmu_steps.proofs.step.advance.Goals as goal

pub advance_topics-requires-clause-sizes : goal.advance_topics-requires-clause-sizes
advance_topics-requires-clause-sizes c =
    sizes_still c.args.hand.now.core c.step_line.new.hand.core c.args.kind c.args.found c.requires.enabled c.step_line.ensures.line
    c.step_line.ensures.none c.flush.new.hand.core c.flush.ensures.core

pub advance_topics-requires-clause-room : goal.advance_topics-requires-clause-room
advance_topics-requires-clause-room c =
    room_still c.args.hand.now.core c.step_line.new.hand.core c.args.kind c.args.found c.requires.enabled c.step_line.ensures.line
    c.step_line.ensures.none c.flush.new.hand.core c.flush.ensures.core

pub returns-clause-core : goal.returns-clause-core
returns-clause-core c =
    advanced c.args.hand.now.core c.step_line.new.hand.core c.args.kind c.args.found c.requires.enabled c.step_line.ensures.line c.step_line.ensures.none
    c.flush.new.hand.core c.advance_topics.new.hand.core c.flush.ensures.core c.advance_topics.ensures.core
