use Rattle.job_laws.proofs.SplitLines.{splits_tell}
use Rattle.job_laws.proofs.laws.splits_tell_what_they_found.Goals as goal

pub returns : goal.returns
returns c = splits_tell
