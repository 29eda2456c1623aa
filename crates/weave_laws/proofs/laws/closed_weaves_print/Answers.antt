use Rattle.weave_laws.proofs.ExampleLostWrite.{lost_write_is_trace, lost_write_weaves}
use Rattle.weave_laws.proofs.ExampleWeave.{example_is_trace, example_weaves}
use Rattle.weave_laws.proofs.laws.closed_weaves_print.Goals as goal

pub returns-clause-trace : goal.returns-clause-trace
returns-clause-trace c = example_is_trace

pub returns-clause-weaves : goal.returns-clause-weaves
returns-clause-weaves c = example_weaves

pub returns-clause-lost_write : goal.returns-clause-lost_write
returns-clause-lost_write c = lost_write_is_trace

pub returns-clause-lost_write_weaves : goal.returns-clause-lost_write_weaves
returns-clause-lost_write_weaves c = lost_write_weaves
