use Rattle.step_printing.proofs.LineRows.{lines_tell}
use Rattle.step_printing.proofs.laws.lines_tell_turns.Goals as goal

pub returns : goal.returns
returns c = lines_tell
