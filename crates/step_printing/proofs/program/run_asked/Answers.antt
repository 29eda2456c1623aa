use Rattle.std.proofs.Common.{map, string_bytes}
use Rattle.step_printing.proofs.Runs.{trace_prints}
use Rattle.step_printing.proofs.program.run_asked.Goals as goal

pub returns-in-Ok-Trace-clause-prints : goal.returns-in-Ok-Trace-clause-prints
returns-in-Ok-Trace-clause-prints g c =
    trace_prints (map string_bytes c.args.words.now) c.args.asked.now c.args.limit c.in-Ok-Trace.trace (g.K.Sink.written c.args.out.now)
    (g.K.Sink.written c.run_trace.new.out) (g.S.Source.left c.args.src.now) c.run_trace.result
    (rw c.in-Ok-Trace.field-0-is at c.in-Ok-Trace.ensures.told) c.run_trace.ensures.written
