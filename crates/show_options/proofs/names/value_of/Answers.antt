use Rattle.std.proofs.Common.{arith}
use Rattle.std.proofs.lemmas.Grind.{common_steps}
use Rattle.trace_reader.proofs.Values.{add_over, ends}
use Rattle.show_options.proofs.names.value_of.Goals as goal

pub returns-in_err-checked_mul : goal.returns-in_err-checked_mul
returns-in_err-checked_mul c =
    rw c.from_residual.ensures (add_over 10 c.loop-rest.total c.loop-rest.rest.now c.args.digits.now (omega arith)
    c.loop-rest.invariant.0 (omega arith) (grind (arith, common_steps)))

pub returns-in_err-total : goal.returns-in_err-total
returns-in_err-total c =
    rw c.from_residual-in_err-total.ensures (add_over 10 c.loop-rest.total c.loop-rest.rest.now c.args.digits.now (omega arith)
    c.loop-rest.invariant.0 (omega arith) (grind (arith, common_steps)))

pub returns : goal.returns
returns c = ends 10 c.loop-rest.total c.loop-rest.rest.now c.args.digits.now c.loop-rest.invariant.0 c.in_default.len_below c.loop-rest.invariant.2
