use Rattle.log_laws.proofs.LoggedWrites.{logged_slots_stand, logged_writes_are_kept, logs_begin_once}
use Rattle.log_laws.proofs.laws.logged_writes_are_kept.Goals as goal

pub returns-clause-kept : goal.returns-clause-kept
returns-clause-kept c = logged_writes_are_kept

pub returns-clause-stand : goal.returns-clause-stand
returns-clause-stand c = logged_slots_stand

pub returns-clause-once : goal.returns-clause-once
returns-clause-once c = logs_begin_once
