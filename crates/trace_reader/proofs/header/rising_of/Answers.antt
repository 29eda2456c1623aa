use Rattle.std.proofs.Common.{arith, rules, refl}
use Rattle.std.proofs.lemmas.Grind.{common_steps}
use Rattle.std.proofs.lemmas.List.{take_rest}
use Rattle.trace_reader.proofs.Prefix.{risen, not_risen, all_risen}
use Rattle.trace_reader.proofs.header.rising_of.Goals as goal

pub returns-in-Err : goal.returns-in-Err
returns-in-Err c = (
  refl,
  not_risen c.loop-rest.hosts.items c.loop-rest.low c.args.high c.loop-rest.rest.now _ c.in-Err.reason _ (grind (arith, common_steps))
      c.in-Err.ensures.value c.loop-rest.invariant,
)

pub loop-rest-preserved : goal.loop-rest-preserved
loop-rest-preserved c =
    rw take_rest (risen c.loop-rest.hosts.items _ c.loop-rest.low c.args.high c.loop-rest.rest.now _ c.in-Ok.host _ (grind (arith, common_steps))
    c.in-Ok.ensures.value (search rules) c.loop-rest.invariant)

pub returns : goal.returns
returns c = all_risen c.loop-rest.hosts.items c.loop-rest.low c.args.high c.loop-rest.rest.now _ c.in_default.len_below c.loop-rest.invariant
