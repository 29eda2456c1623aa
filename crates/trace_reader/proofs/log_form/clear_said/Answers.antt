use Rattle.trace_reader.proofs.ClearLines.{clear_allowed}
use Rattle.trace_reader.proofs.log_form.clear_said.Goals as goal

pub returns-in-len3-up-clause-allowed : goal.returns-in-len3-up-clause-allowed
returns-in-len3-up-clause-allowed c =
    λ h. clear_allowed h _ _ _ _ _ _ _ _ c.number.ensures c.are_counted.ensures c.if-are_counted.true c.clearing_said.ensures
