use Rattle.word_laws.proofs.AccessCounts as counts
use Rattle.word_laws.proofs.AskedLines as lines
use Rattle.word_laws.proofs.ExampleRun.{two_accesses_are_told}
use Rattle.word_laws.proofs.accesses_are_answered.Goals as goal

pub returns-clause-told : goal.returns-clause-told
returns-clause-told c = counts.accesses_are_answered

pub returns-clause-asked : goal.returns-clause-asked
returns-clause-asked c = lines.accesses_are_asked

pub returns-clause-example : goal.returns-clause-example
returns-clause-example c = two_accesses_are_told
