use Rattle.std.proofs.Common.{◌≡◌, None, Some, arith, map, string_bytes}
use Rattle.std.proofs.KnownBytes.{Consumes-nil}
use Rattle.std.proofs.lemmas.Grind.{common_steps}
use Rattle.tdpmmu.specs.Run.{Around, command_of}
use Rattle.tdpmmu.proofs.Runs.{refused_prints, refused_runs, trace_prints, trace_runs, usage_prints, usage_runs}
use Rattle.tdpmmu.proofs.program.run.Goals as goal

pub returns-in-Ok-Trace-clause-runs : goal.returns-in-Ok-Trace-clause-runs
returns-in-Ok-Trace-clause-runs g c =
    let asked : command_of (map string_bytes c.args.words.now) ≡ Some c.in-Some.command = grind (arith, common_steps) in
    let around : Around =
    record {
      left = g.S.Source.left c.args.src.now;
      left_after = g.S.Source.left c.read_trace.new.src;
      ended = g.S.Source.ended c.read_trace.new.src;
      written = g.K.Sink.written c.args.out.now;
      written_after = g.K.Sink.written c.run_trace.new.out;
    } in
    let read = rw c.in-Ok-Trace.field-0-is at c.in-Ok-Trace.ensures.read in
    trace_runs _ c.in-Some.command around read.0 c.in-Ok-Trace.trace c.run_trace.result asked read.1 c.run_trace.ensures.written

pub returns-in-Ok-Trace-clause-prints : goal.returns-in-Ok-Trace-clause-prints
returns-in-Ok-Trace-clause-prints g c =
    let asked : command_of (map string_bytes c.args.words.now) ≡ Some c.in-Some.command = grind (arith, common_steps) in
    trace_prints _ c.in-Some.command (g.S.Source.left c.args.src.now) c.in-Ok-Trace.trace (g.K.Sink.written c.args.out.now) (g.K.Sink.written
    c.run_trace.new.out) c.run_trace.result asked (rw c.in-Ok-Trace.field-0-is at c.in-Ok-Trace.ensures.told) c.run_trace.ensures.written

pub returns-in-Ok-Refused-clause-runs : goal.returns-in-Ok-Refused-clause-runs
returns-in-Ok-Refused-clause-runs g c =
    let asked : command_of (map string_bytes c.args.words.now) ≡ Some c.in-Some.command = grind (arith, common_steps) in
    let around : Around =
    record {
      left = g.S.Source.left c.args.src.now;
      left_after = g.S.Source.left c.read_trace.new.src;
      ended = g.S.Source.ended c.read_trace.new.src;
      written = g.K.Sink.written c.args.out.now;
      written_after = g.K.Sink.written c.refuse.new.out;
    } in
    let read = rw c.in-Ok-Refused.field-0-is at c.in-Ok-Refused.ensures.read in
    refused_runs _ c.in-Some.command around read.0 c.in-Ok-Refused.line c.in-Ok-Refused.reason c.refuse.result asked read.1 c.refuse.ensures.written

pub returns-in-Ok-Refused-clause-prints : goal.returns-in-Ok-Refused-clause-prints
returns-in-Ok-Refused-clause-prints g c =
    let asked : command_of (map string_bytes c.args.words.now) ≡ Some c.in-Some.command = grind (arith, common_steps) in
    refused_prints _ c.in-Some.command (g.S.Source.left c.args.src.now) c.in-Ok-Refused.line c.in-Ok-Refused.reason (g.K.Sink.written c.args.out.now)
    (g.K.Sink.written c.refuse.new.out) c.refuse.result asked (rw c.in-Ok-Refused.field-0-is at c.in-Ok-Refused.ensures.told) c.refuse.ensures.written

pub returns-in_default-clause-runs : goal.returns-in_default-clause-runs
returns-in_default-clause-runs g c =
    let none : command_of (map string_bytes c.args.words.now) ≡ None = grind (arith, common_steps) in
    let around : Around =
    record {
      left = g.S.Source.left c.args.src.now;
      left_after = g.S.Source.left c.args.src.now;
      ended = g.S.Source.ended c.args.src.now;
      written = g.K.Sink.written c.args.out.now;
      written_after = g.K.Sink.written c.usage.new.out;
    } in
    usage_runs _ around c.usage.result none (Consumes-nil (g.S.Source.left c.args.src.now)) c.usage.ensures.written

pub returns-in_default-clause-prints : goal.returns-in_default-clause-prints
returns-in_default-clause-prints g c =
    let none : command_of (map string_bytes c.args.words.now) ≡ None = grind (arith, common_steps) in
    usage_prints _ (g.S.Source.left c.args.src.now) (g.K.Sink.written c.args.out.now) (g.K.Sink.written c.usage.new.out) c.usage.result none
    c.usage.ensures.written
