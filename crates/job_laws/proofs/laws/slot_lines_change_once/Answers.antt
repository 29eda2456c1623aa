use Rattle.job_laws.proofs.OneChange.{slot_jobs_change_once}
use Rattle.job_laws.proofs.laws.slot_lines_change_once.Goals as goal

pub returns : goal.returns
returns c = slot_jobs_change_once
