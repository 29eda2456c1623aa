use Rattle.job_laws.proofs.Begun.{begun_frames_are_empty, done_has_begun}
use Rattle.job_laws.proofs.laws.begins_leave_nothing.Goals as goal

pub returns-clause-begun : goal.returns-clause-begun
returns-clause-begun c = done_has_begun

pub returns-clause-empty : goal.returns-clause-empty
returns-clause-empty c = begun_frames_are_empty
