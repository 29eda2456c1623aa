use Rattle.std.proofs.Common.{◌≡◌, List, string_bytes}
use Rattle.tdp_io.specs.declared.sink.Stop.{Stop}
use Rattle.weave_engine.specs.AnswerTexts.{FailedBy, NoneFailed, PutsAnswers, StopsAnswers}
use Rattle.turn_loops.specs.Marks.{Mark}
use Rattle.weave_engine.specs.declared.answer_printer.AnswerPrinter.{AnswerPrinter}
use Rattle.weave_engine.proofs.AnswersWritten.{weave_writes}
use Rattle.weave_engine.proofs.weaving.weave_answers.Goals as goal

pub returns : goal.returns
returns g c =
    let V : Type 0 = AnswerPrinter g.row.K.Denot in
    let prints : V → List Mark → V → Type 0 =
    λ p marks q. PutsAnswers (g.K.Sink.written p.out.now) (g.K.Sink.written q.out.now) (string_bytes p.waiting.now) (string_bytes q.waiting.now) marks
    × NoneFailed (g.K.Sink.faults p.out.now) (g.K.Sink.faults q.out.now) (g.K.Sink.failed q.out.now) × (q.out.ghost_name ≡ p.out.ghost_name) in
    let stops : V → List Mark → Stop → V → Type 0 =
    λ p marks stop q. StopsAnswers (g.K.Sink.written p.out.now) (g.K.Sink.written q.out.now) (string_bytes p.waiting.now) marks stop
    × FailedBy (g.K.Sink.faults p.out.now) (g.K.Sink.faults q.out.now) (g.K.Sink.failed q.out.now) stop × (q.out.ghost_name ≡ p.out.ghost_name) in
    let R =
    weave_writes prints stops (λ p. g.K.Sink.written p.out.now) (λ p. string_bytes p.waiting.now) (λ p. g.K.Sink.faults p.out.now)
    (λ p. g.K.Sink.failed p.out.now) (λ p q. q.out.ghost_name ≡ p.out.ghost_name) (λ p q ms put. put) (λ p q ms stop most. most) c.args.trace.now
    c.args.printer.now c.weave_with.new.printer c.requires.fresh c.args.limit c.weave_with.result c.weave_with.ensures in
    record { writes = R.0; faults = R.1; failed = R.2; same = R.3 }
