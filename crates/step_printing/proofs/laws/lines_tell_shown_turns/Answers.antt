use Rattle.step_printing.proofs.ShownRows.{shown_tell}
use Rattle.step_printing.proofs.laws.lines_tell_shown_turns.Goals as goal

pub returns : goal.returns
returns c = shown_tell
