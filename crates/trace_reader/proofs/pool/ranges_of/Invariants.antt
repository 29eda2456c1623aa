use Rattle.std.proofs.Common.{◌≡◌, ℕ, All, take}
use Rattle.std.specs.List.{list_any}
use Rattle.core_views.specs.Need.{wants}
use Rattle.trace_reader.specs.Ranges.{IsFrameRange, any_covers}
use Rattle.trace_reader.proofs.pool.ranges_of.Given as goal

abbrev pub invariant-loop-line : goal.invariant-loop-line
invariant-loop-line l = record {
  ranges : All IsFrameRange l.ranges.items;
  same : (span index : ℕ) → any_covers span l.ranges.items index ≡ list_any (λ line. wants l.pages span index line.command) (take l.line-index l.lines);
}
