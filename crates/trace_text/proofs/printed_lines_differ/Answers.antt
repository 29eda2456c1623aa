use Rattle.trace_text.proofs.Tells.{tells}
use Rattle.trace_text.proofs.printed_lines_differ.Goals as goal

pub returns : goal.returns
returns c = tells
