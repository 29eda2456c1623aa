use Rattle.std.proofs.Common.{refl, string_bytes}
use Rattle.std.proofs.lemmas.Result.{err_from_is_err_and}
use Rattle.std.specs.Option.{option_copied}
use Rattle.weave_engine.proofs.AnswerTexts.{over_stopped}
use Rattle.weave_engine.proofs.answer_printer.AnswerPrinterPrinter.over.Goals as goal

pub returns-in_err-write_all : goal.returns-in_err-write_all
returns-in_err-write_all g c =
    let p = err_from_is_err_and c.from_residual.result c.from_residual.ensures.1 in
    rw (p.1, p.2) (
      over_stopped (option_copied c.args.first) (g.K.Sink.written c.args.self.now.out.now) (g.K.Sink.written c.write_all.new.out)
          (string_bytes c.args.self.now.waiting.now) c.requires.ready.1 c.in_err-write_all.field-0.0
          (rw (c.as_bytes.ensures.value, c.in-Ok.ensures) at c.in_err-write_all.ensures.bytes),
      (c.in_err-write_all.ensures.faults, c.in_err-write_all.ensures.failed),
      refl,
    )
