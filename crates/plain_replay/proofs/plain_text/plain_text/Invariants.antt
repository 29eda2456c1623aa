use Rattle.std.proofs.Common.{◌≡◌, ◌++◌, drop, string_bytes}
use Rattle.core_views.specs.FlatHistory.{one_by_one, flat_history}
use Rattle.core_views.specs.Sizes.{sizes_of}
use Rattle.core_views.specs.Text.{text}
use Rattle.flat_model.specs.Kept.{facts_of}
use Rattle.plain_replay.proofs.plain_text.plain_text.Given as goal

abbrev pub invariant-loop-line : goal.invariant-loop-line
invariant-loop-line l = record {
  so_far : string_bytes l.text ++ text (one_by_one l.plain.sizes (drop l.line-index l.lines) (facts_of l.plain)) ≡ text (flat_history l.trace);
  same : l.lines ≡ l.trace.lines;
  sizes : l.plain.sizes ≡ sizes_of l.trace.header;
}
