use Rattle.std.proofs.Common.{string_bytes}
use Rattle.step_seats.specs.Moves.{world_of}
use Rattle.tdpmmu.proofs.Lived.{lived, nothing_lived}
use Rattle.tdpmmu.proofs.program.run_live.Goals as goal

pub returns-in_default-clause-bytes : goal.returns-in_default-clause-bytes
returns-in_default-clause-bytes g c = nothing_lived c.args.trace.now (g.K.Sink.written c.args.out.now)

pub returns-clause-bytes : goal.returns-clause-bytes
returns-clause-bytes g c =
    let gathered = c.in-Ok.gathered in
    lived c.args.trace.now (world_of gathered.closing.words gathered.closing.hands) (g.K.Sink.written c.args.out.now) (g.K.Sink.written c.write_all.new.out)
    c.write_all.result (string_bytes gathered.text) ((c.in-Ok.ensures {u = tt}).lives) (rw c.as_bytes.ensures.value at c.write_all.ensures.bytes)
