use Rattle.job_laws.proofs.OneChange.{host_jobs_change_once}
use Rattle.job_laws.proofs.laws.host_lines_change_once.Goals as goal

pub returns : goal.returns
returns c = host_jobs_change_once
