use Rattle.std.proofs.Common.{arith, rules}
use Rattle.std.proofs.lemmas.Grind.{common_steps}
use Rattle.tdp_io.proofs.Prefixes.{wrote_more}
use Rattle.tdp_io.proofs.sink.write_all.Goals as goal

pub loop-at-preserved : goal.loop-at-preserved
loop-at-preserved g c = record {
  in_range = grind (arith, common_steps, c.in-Took.ensures.bytes);
  so_far =
      wrote_more (g.K.Sink.written c.args.out.now) (g.K.Sink.written c.loop-at.out) (g.K.Sink.written c.write.new.self) c.args.text.now c.loop-at.at
      c.in-Took.count c.loop-at.invariant.so_far c.in-Took.ensures.bytes.2;
  faults = search rules;
  failed = c.in-Took.ensures.failed;
}
