use Rattle.job_laws.proofs.forms.log.ReadOut.{after_readings_writes_are_told, readings_have_flushes}
use Rattle.job_laws.proofs.laws.readings_leave_no_silent_write.Goals as goal

pub returns-clause-flushes : goal.returns-clause-flushes
returns-clause-flushes c = readings_have_flushes

pub returns-clause-told : goal.returns-clause-told
returns-clause-told c = after_readings_writes_are_told
