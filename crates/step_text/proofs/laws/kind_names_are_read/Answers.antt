use Rattle.step_text.proofs.KindNames.{read}
use Rattle.step_text.proofs.laws.kind_names_are_read.Goals as goal

pub returns : goal.returns
returns c = read
