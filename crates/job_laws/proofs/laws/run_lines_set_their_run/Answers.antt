use Rattle.job_laws.proofs.OneChange.{host_run_jobs_tell}
use Rattle.job_laws.proofs.laws.run_lines_set_their_run.Goals as goal

pub returns : goal.returns
returns c = host_run_jobs_tell
