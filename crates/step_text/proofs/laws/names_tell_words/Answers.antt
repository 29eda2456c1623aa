use Rattle.step_text.proofs.WordNames.{names_tell}
use Rattle.step_text.proofs.laws.names_tell_words.Goals as goal

pub returns : goal.returns
returns c = names_tell
