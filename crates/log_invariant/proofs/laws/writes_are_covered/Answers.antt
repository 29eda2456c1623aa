use Rattle.log_invariant.proofs.LogRuns.{writes_are_covered}
use Rattle.log_invariant.proofs.laws.writes_are_covered.Goals as goal

pub returns : goal.returns
returns c = writes_are_covered
