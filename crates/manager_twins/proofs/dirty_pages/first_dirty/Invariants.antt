-- None of the pages so far has its bit set.
use Rattle.std.specs.Prelude.{◌*◌}
use Rattle.manager_twins.proofs.FirstDirty.{HasNone}
use Rattle.manager_twins.proofs.dirty_pages.first_dirty.Given as goal

abbrev pub invariant-loop-at : goal.invariant-loop-at
invariant-loop-at l = HasNone l.words l.from (64 * l.at)
