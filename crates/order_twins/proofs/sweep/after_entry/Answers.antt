use Rattle.std.proofs.Common.{arith}
use Rattle.order_twins.proofs.SweptBounds.{on_small}
use Rattle.order_twins.proofs.sweep.after_entry.Goals as goal

-- The walk after the next entry stands at one of the levels.
pub sweep_next-requires-clause-from : goal.sweep_next-requires-clause-from
sweep_next-requires-clause-from c =
    (on_small c.args.zaps c.args.range.start c.swept_to-gfn.result c.args.found c.args.walk.now c.sweep_on.result (omega arith) c.requires.walk.level
    c.requires.there c.requires.over c.swept_to-gfn.ensures c.sweep_on.ensures).1

-- And the guest frame to which it has come is one of 64 bits.
pub sweep_next-requires-clause-small : goal.sweep_next-requires-clause-small
sweep_next-requires-clause-small c =
    (on_small c.args.zaps c.args.range.start c.swept_to-gfn.result c.args.found c.args.walk.now c.sweep_on.result (omega arith) c.requires.walk.level
    c.requires.there c.requires.over c.swept_to-gfn.ensures c.sweep_on.ensures).0
