use Rattle.std.proofs.Common.{◌^◌, ◌≤◌, lit≤, arith}
use Rattle.trace_reader.proofs.NeedTables.{wanted, few, total}
use Rattle.trace_reader.proofs.pool.need.Goals as goal

-- no pass counts more than all tables of its span
sizes : (c : goal.After-tables-lower) → (c.tables-upper.result ≤ 2 ^ 9) × (c.tables-middle.result ≤ 2 ^ 18) × (c.tables-lower.result ≤ 2 ^ 27)
sizes c =
    let ranges = c.in_ok-ranges.ensures.ranges in (
      few (2 ^ 9) (2 ^ 27) _ _ _ (lit≤ tt) c.deref.ensures.value ranges c.tables-upper.ensures,
      few (2 ^ 18) (2 ^ 18) _ _ _ (lit≤ tt) c.deref-2.ensures.value ranges c.tables-middle.ensures,
      few (2 ^ 27) (2 ^ 9) _ _ _ (lit≤ tt) c.deref-3.ensures.value ranges c.tables-lower.ensures,
    )

pub overflow_add-result : goal.overflow_add-result
overflow_add-result c = omega (arith, sizes c)

pub overflow_add-result-2 : goal.overflow_add-result-2
overflow_add-result-2 c = omega (arith, sizes c)

pub overflow_add-result-3 : goal.overflow_add-result-3
overflow_add-result-3 c = omega (arith, sizes c)

pub returns : goal.returns
returns c =
    let r = c.in_ok-ranges.ensures in
    total c.args.trace.now.header c.args.trace.now.lines _ _ _
    (wanted (2 ^ 9) (2 ^ 27) _ c.args.trace.now.header.pages _ _ _ _ (lit≤ tt) c.as_slice.ensures c.deref.ensures.value r.ranges c.tables-upper.ensures r.same)
    (wanted (2 ^ 18) (2 ^ 18) _ c.args.trace.now.header.pages _ _ _ _ (lit≤ tt) c.as_slice.ensures c.deref-2.ensures.value r.ranges
    c.tables-middle.ensures r.same)
    (wanted (2 ^ 27) (2 ^ 9) _ c.args.trace.now.header.pages _ _ _ _ (lit≤ tt) c.as_slice.ensures c.deref-3.ensures.value r.ranges c.tables-lower.ensures
    r.same)
