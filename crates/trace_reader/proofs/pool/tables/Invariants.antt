use Rattle.std.proofs.Common.{◌≡◌, ◌+◌, ◌*◌, ◌≤◌, ℕ, drop}
use Rattle.core_views.specs.Need.{count_below}
use Rattle.trace_reader.specs.Ranges.{EndBy, any_covers}
use Rattle.trace_reader.proofs.NeedRanges.{any_later}
use Rattle.trace_reader.proofs.pool.tables.Given as goal

abbrev pub invariant-loop-range : goal.invariant-loop-range
invariant-loop-range l = record {
  low : l.count ≤ l.next;
  counted : (n : ℕ) → EndBy (n * l.span) l.ranges
      → l.count + count_below n (any_later l.span (drop l.range-index l.ranges) l.next) ≡ count_below n (any_covers l.span l.ranges);
}
