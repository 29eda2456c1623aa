use Rattle.std.proofs.Common.{◌∙◌, arith, sym}
use Rattle.trace_reader.proofs.NeedRanges.{taken, passed, finish, larger}
use Rattle.trace_reader.proofs.pool.tables.Goals as goal
use Rattle.trace_reader.proofs.pool.tables.Goals.{then-first-end, else-first-end}

pub loop-range-preserved : goal.loop-range-preserved
loop-range-preserved c =
    let i = c.loop-range.invariant in
    let f = c.max-first.ensures ∙ larger c.loop-range.next _ in
    elim c.if-first-end.branch [
      | then-first-end w ↦ record {
        low = omega arith;
        counted =
            λ n ends. taken n c.args.span c.loop-range.range-index _ c.args.ranges.now c.loop-range.count c.loop-range.next c.max-first.result
            c.if-first-end.count c.if-first-end.next _ c.requires.span c.loop-range-test.true c.requires.ranges c.requires.rising ends f
            w.if-first-end.true w.count-is w.next-is (i.counted n ends);
      }
      | else-first-end w ↦ record {
        low = omega (arith, i.low, w.count-is, w.next-is);
        counted =
            λ n ends. passed n c.args.span c.loop-range.range-index _ c.args.ranges.now c.loop-range.count c.loop-range.next c.max-first.result
            c.if-first-end.count c.if-first-end.next _ c.requires.span c.loop-range-test.true c.requires.ranges c.requires.rising ends f
            w.if-first-end.false w.count-is w.next-is (i.counted n ends);
      }
    ]

pub returns : goal.returns
returns c =
    λ n ends. sym (omega
    (arith, c.loop-range.invariant.counted n ends, finish n c.args.span c.loop-range.next c.loop-range.range-index c.args.ranges.now c.loop-range-test.false))
