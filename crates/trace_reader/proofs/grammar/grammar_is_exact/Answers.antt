use Rattle.trace_reader.proofs.Bytes.{says, only_said}
use Rattle.trace_reader.proofs.Reasons.{refuses, the_reason, no_other}
use Rattle.trace_reader.proofs.grammar.grammar_is_exact.Goals as goal

pub returns-clause-forward : goal.returns-clause-forward
returns-clause-forward c = says

pub returns-clause-backward : goal.returns-clause-backward
returns-clause-backward c = only_said

pub returns-clause-refused : goal.returns-clause-refused
returns-clause-refused c = refuses

pub returns-clause-reason : goal.returns-clause-reason
returns-clause-reason c = the_reason

pub returns-clause-only_reason : goal.returns-clause-only_reason
returns-clause-only_reason c = no_other
