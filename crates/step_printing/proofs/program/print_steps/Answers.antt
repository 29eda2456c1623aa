use Rattle.std.proofs.Common.{◌≡◌, List, string_bytes}
use Rattle.core_views.specs.Sizes.{sizes_of}
use Rattle.tdp_io.specs.declared.sink.Stop.{Stop}
use Rattle.turn_loops.specs.Marks.{Mark}
use Rattle.step_printing.specs.Puts.{Printed, PutsSteps, StopsSteps, printed_by}
use Rattle.step_printing.specs.declared.step_printer.StepPrinter.{StepPrinter}
use Rattle.step_printing.proofs.StepsWritten.{IsFresh, part_written, replay_writes, weave_writes, whole_written}
use Rattle.step_printing.proofs.program.print_steps.Goals as goal

pub returns-in-Weave-clause-written : goal.returns-in-Weave-clause-written
returns-in-Weave-clause-written g c =
    let V : Type 0 = StepPrinter g.row.K.Denot in
    let at : V → Printed =
    λ p. printed_by (g.K.Sink.written p.out.now) (g.K.Sink.faults p.out.now) (g.K.Sink.failed p.out.now) (string_bytes p.waiting.now) p.lines in
    let prints : V → List Mark → V → Type 0 = λ p marks q. PutsSteps (at p) marks (at q) × (q.out.ghost_name ≡ p.out.ghost_name) in
    let stops : V → List Mark → Stop → V → Type 0 = λ p marks stop q. StopsSteps (at p) marks stop (at q) × (q.out.ghost_name ≡ p.out.ghost_name) in
    let p = c.args.printer.now in
    let q = c.weave_with.new.printer in
    let v = p.lines.view in
    let fresh : IsFresh (at p) v (sizes_of c.args.trace.now.header) = record { waits = c.requires.fresh; lines = c.requires.first } in
    rw (c.in-Weave.is, c.status_of.ensures)
    (weave_writes prints stops (λ p. g.K.Sink.written p.out.now) v c.args.trace.now p q
    (λ ms open_ put. whole_written (at p) (at q) v (sizes_of c.args.trace.now.header) fresh ms open_ put.0)
    (λ ms stop part. part_written (at p) (at q) v (sizes_of c.args.trace.now.header) fresh ms stop part.0)
    c.args.limit c.weave_with.result c.weave_with.ensures)

pub returns-in-Replay-clause-written : goal.returns-in-Replay-clause-written
returns-in-Replay-clause-written g c =
    let V : Type 0 = StepPrinter g.row.K.Denot in
    let at : V → Printed =
    λ p. printed_by (g.K.Sink.written p.out.now) (g.K.Sink.faults p.out.now) (g.K.Sink.failed p.out.now) (string_bytes p.waiting.now) p.lines in
    let prints : V → List Mark → V → Type 0 = λ p marks q. PutsSteps (at p) marks (at q) × (q.out.ghost_name ≡ p.out.ghost_name) in
    let stops : V → List Mark → Stop → V → Type 0 = λ p marks stop q. StopsSteps (at p) marks stop (at q) × (q.out.ghost_name ≡ p.out.ghost_name) in
    let p = c.args.printer.now in
    let q = c.replay_with.new.printer in
    let v = p.lines.view in
    let fresh : IsFresh (at p) v (sizes_of c.args.trace.now.header) = record { waits = c.requires.fresh; lines = c.requires.first } in
    rw (c.in-Replay.is, c.status_of-in-Replay.ensures)
    (replay_writes prints stops (λ p. g.K.Sink.written p.out.now) v c.args.trace.now p q
    (λ ms open_ put. whole_written (at p) (at q) v (sizes_of c.args.trace.now.header) fresh ms open_ put.0)
    (λ ms stop part. part_written (at p) (at q) v (sizes_of c.args.trace.now.header) fresh ms stop part.0)
    c.args.limit c.replay_with.result c.replay_with.ensures)
