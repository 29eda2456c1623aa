use Rattle.slot_laws.proofs.BegunLines.{lines_under_way_have_begun}
use Rattle.slot_laws.proofs.ChangesAnswered.{host_lines_tell, slot_lines_tell}
use Rattle.slot_laws.proofs.RunLines.{run_lines_tell}
use Rattle.slot_laws.proofs.laws.lines_change_once.Goals as goal

pub returns-clause-slots : goal.returns-clause-slots
returns-clause-slots c = slot_lines_tell

pub returns-clause-hosts : goal.returns-clause-hosts
returns-clause-hosts c = host_lines_tell

pub returns-clause-runs : goal.returns-clause-runs
returns-clause-runs c = run_lines_tell

pub returns-clause-begun : goal.returns-clause-begun
returns-clause-begun c = lines_under_way_have_begun
