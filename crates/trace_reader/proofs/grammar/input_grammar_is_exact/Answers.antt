use Rattle.trace_reader.proofs.Input.{the_trace, only_trace, where_it_fails, only_where}
use Rattle.trace_reader.proofs.grammar.input_grammar_is_exact.Goals as goal

pub returns-clause-forward : goal.returns-clause-forward
returns-clause-forward c = the_trace

pub returns-clause-backward : goal.returns-clause-backward
returns-clause-backward c = only_trace

pub returns-clause-refused : goal.returns-clause-refused
returns-clause-refused c = where_it_fails

pub returns-clause-only_refused : goal.returns-clause-only_refused
returns-clause-only_refused c = only_where
