use Rattle.std.proofs.Common.{rules, sym, ◌∙◌, ap}
use Rattle.std.specs.List.{list_any}
use Rattle.std.proofs.lemmas.List.{take_all}
use Rattle.std.proofs.lemmas.List.Sorted.{IsNonDecreasingBy-from_sort_by_key, list_any-IsPermutation}
use Rattle.core_views.specs.Need.{wants}
use Rattle.trace_reader.specs.Ranges.{range_covers}
use Rattle.trace_reader.proofs.pool.ranges_of.Goals as goal

pub returns-clause-rising : goal.returns-clause-rising
returns-clause-rising c = IsNonDecreasingBy-from_sort_by_key (λ range. range.base) _ c.sort_unstable_by_key.ensures.sorted (λ a r q k. search rules)

pub returns-clause-same : goal.returns-clause-same
returns-clause-same c = λ span index.
    sym (list_any-IsPermutation (range_covers span index) _ _ c.sort_unstable_by_key.ensures.permutation)
    ∙ c.loop-line.invariant.same span index
    ∙ ap (list_any (λ line. wants c.args.pages span index line.command)) (take_all c.loop-line.line-index c.args.lines.now c.loop-line-test.false)
