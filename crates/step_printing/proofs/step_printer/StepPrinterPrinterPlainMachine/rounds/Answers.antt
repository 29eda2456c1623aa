use Rattle.std.proofs.Common.{refl, string_bytes, subst, sym}
use Rattle.core_views.specs.Sizes.{AreSizes}
use Rattle.std.proofs.lemmas.Result.{err_from_is_err_and}
use Rattle.turn_loops.specs.Marks.{Rounds}
use Rattle.step_printing.specs.Puts.{Printed, printed_by}
use Rattle.step_printing.proofs.TurnsTold.{mark_put, mark_stopped}
use Rattle.step_printing.proofs.step_printer.StepPrinterPrinterPlainMachine.rounds.Goals as goal

pub returns-in_err-write_piece : goal.returns-in_err-write_piece
returns-in_err-write_piece g c =
    let e = err_from_is_err_and c.from_residual.result c.from_residual.ensures.1 in
    let p : Printed =
    printed_by (g.K.Sink.written c.args.self.now.out.now) (g.K.Sink.faults c.args.self.now.out.now) (g.K.Sink.failed c.args.self.now.out.now)
    (string_bytes c.args.self.now.waiting.now) c.args.self.now.lines in
    let q : Printed =
    printed_by (g.K.Sink.written c.write_piece.new.out) (g.K.Sink.faults c.write_piece.new.out) (g.K.Sink.failed c.write_piece.new.out)
    (string_bytes c.write_piece.new.pending) c.in-Ok.after in
    let text = string_bytes c.put_rounds.new.text in
    let mark = Rounds in
    let puts = c.in-Ok.ensures.puts in
    rw (e.1, e.2) (
      mark_stopped p q text mark c.in-Ok.after puts c.in_err-write_piece.field-0.0 c.in_err-write_piece.ensures.bytes c.in_err-write_piece.ensures.faults
          c.in_err-write_piece.ensures.failed,
      refl,
    )

pub returns : goal.returns
returns g c =
    let p : Printed =
    printed_by (g.K.Sink.written c.args.self.now.out.now) (g.K.Sink.faults c.args.self.now.out.now) (g.K.Sink.failed c.args.self.now.out.now)
    (string_bytes c.args.self.now.waiting.now) c.args.self.now.lines in
    let q : Printed =
    printed_by (g.K.Sink.written c.write_piece.new.out) (g.K.Sink.faults c.write_piece.new.out) (g.K.Sink.failed c.write_piece.new.out)
    (string_bytes c.write_piece.new.pending) c.in-Ok.after in
    let text = string_bytes c.put_rounds.new.text in
    let mark = Rounds in
    let puts = c.in-Ok.ensures.puts in (
      mark_put p q text mark c.in-Ok.after puts refl refl
          (record { sizes = subst AreSizes (sym c.in-Ok.ensures.sizes) c.requires.ready.sizes; unfailed = c.in_ok-write_piece.ensures.failed }) c.in_ok-write_piece.ensures.faults
          c.in_ok-write_piece.ensures.bytes,
      refl,
    )
