use Rattle.job_laws.proofs.Ended.{ends_raise_once}
use Rattle.job_laws.proofs.laws.ends_raise_once.Goals as goal

pub returns : goal.returns
returns c = ends_raise_once
