use Rattle.trace_reader.proofs.HeaderSaid.{header_reads, header_only}
use Rattle.trace_reader.proofs.HeaderRefused.{header_refuses}
use Rattle.trace_reader.proofs.grammar.header_grammar_is_exact.Goals as goal

pub returns-clause-forward : goal.returns-clause-forward
returns-clause-forward c = header_reads

pub returns-clause-backward : goal.returns-clause-backward
returns-clause-backward c = header_only

pub returns-clause-refused : goal.returns-clause-refused
returns-clause-refused c = header_refuses
