use Rattle.std.proofs.Common.{arith}
use Rattle.order_twins.proofs.SweptBounds.{leaf_small}
use Rattle.order_twins.proofs.sweep.after_leaf.Goals as goal

-- The guest frame to which the sweep has come is one of 64 bits.
pub sweep_next-requires-clause-small : goal.sweep_next-requires-clause-small
sweep_next-requires-clause-small c =
    leaf_small c.args.zaps c.args.range.start c.swept_to.result c.entry_index.result c.args.left c.args.walk.now (omega arith) c.requires.walk.level
    c.requires.saw c.swept_to.ensures c.entry_index.ensures.is
