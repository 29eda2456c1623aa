use Rattle.slot_laws.proofs.DoneLines.{done_comes_of_one_change}
use Rattle.slot_laws.proofs.laws.done_lines_have_changed_once.Goals as goal

pub returns : goal.returns
returns c = done_comes_of_one_change
