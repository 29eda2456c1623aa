use Rattle.std.proofs.Common.{arith, rules, refl}
use Rattle.std.proofs.lemmas.Grind.{common_steps}
use Rattle.std.proofs.lemmas.List.{take_rest}
use Rattle.trace_reader.proofs.Prefix.{one_read, none_read, all_read}
use Rattle.trace_reader.proofs.log_form.numbers_of.Goals as goal

pub returns-in-Err : goal.returns-in-Err
returns-in-Err c = (
  refl,
  none_read c.loop-rest.numbers.items c.loop-rest.rest.now _ c.in-Err.reason _ (grind (arith, common_steps)) c.in-Err.ensures c.loop-rest.invariant,
)

pub loop-rest-preserved : goal.loop-rest-preserved
loop-rest-preserved c =
    rw take_rest (one_read c.loop-rest.numbers.items _ c.loop-rest.rest.now _ c.in-Ok.value _ (grind (arith, common_steps)) c.in-Ok.ensures
    (search rules) c.loop-rest.invariant)

pub returns : goal.returns
returns c = all_read c.loop-rest.numbers.items c.loop-rest.rest.now _ c.in_default.len_below c.loop-rest.invariant
