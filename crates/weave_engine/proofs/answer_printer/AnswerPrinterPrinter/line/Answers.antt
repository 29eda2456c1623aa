use Rattle.std.proofs.Common.{inl, inr, refl, string_bytes, subst, sym}
use Rattle.std.proofs.lemmas.Result.{err_from_is_err_and}
use Rattle.core_views.specs.declared.answer.Answer.{Answer}
use Rattle.core_views.specs.declared.sizes.Sizes.{Sizes}
use Rattle.core_views.specs.Sizes.{index_of}
use Rattle.mmu_core.specs.machine.Enabled.{mmu}
use Rattle.mmu_core.specs.machine.Machine.{hand_in}
use Rattle.step_seats.specs.Machines.{world_in}
use Rattle.turn_loops.specs.Given.{IsLastAnswer, given_in}
use Rattle.turn_loops.specs.Replays.{RanOn}
use Rattle.weave_engine.specs.PrinterLaws.{none_stopped}
use Rattle.weave_engine.proofs.AnswerTexts.{line_put, line_stopped}
use Rattle.turn_loops.proofs.Turns.{some_answer}
use Rattle.weave_engine.proofs.answer_printer.AnswerPrinterPrinter.line.Goals as goal

pub answer_to-answer-requires-clause-answered : goal.answer_to-answer-requires-clause-answered
answer_to-answer-requires-clause-answered g c =
    let M = g.M.MachineOwner in
    let line = c.args.line.now in
    let z = (M.machine c.args.machine.now).sizes in
    let here = world_in (M.machine c.args.machine.now) in
    let after = world_in (M.machine c.run_on.new.machine) in
    rw c.in-Ok.ensures.same.0 (some_answer line (given_in (index_of z line.actor) here after) (hand_in mmu here (index_of z line.actor))
    (hand_in mmu after (index_of z line.actor)) c.in-Ok.ensures.ran.answered)

pub returns-in_default-clause-ran : goal.returns-in_default-clause-ran
returns-in_default-clause-ran g c = inl (
  c.in_default.ensures.refused,
  (
    none_stopped (g.K.Sink.written c.args.self.now.out.now) (string_bytes c.args.self.now.waiting.now) c.requires.ready.1,
    (refl, c.requires.ready.0),
    refl,
  ),
)

pub returns-in_err-put_answer-clause-ran : goal.returns-in_err-put_answer-clause-ran
returns-in_err-put_answer-clause-ran g c =
    let M = g.M.MachineOwner in
    let p = err_from_is_err_and c.from_residual.result c.from_residual.ensures.1 in
    let line = c.args.line.now in
    let z = (M.machine c.args.machine.now).sizes in
    let here = world_in (M.machine c.args.machine.now) in
    let after = world_in (M.machine c.run_on.new.machine) in
    let own = c.in-Ok.ensures.ran in
    let last : IsLastAnswer c.answer_to-answer.result.now (hand_in mmu after (index_of z line.actor)) =
    subst (λ (y : Sizes). IsLastAnswer c.answer_to-answer.result.now (hand_in mmu after (index_of y line.actor))) c.in-Ok.ensures.same.0
    c.answer_to-answer.ensures in
    let ran : RanOn z line c.answer_to-answer.result.now (index_of z line.actor) here after =
    subst (λ (a : Answer). RanOn z line a (index_of z line.actor) here after)
    (sym (last line (given_in (index_of z line.actor) here after) (hand_in mmu here (index_of z line.actor)) own.answered)) own in
    rw (p.1, p.2) (inr (
      c.answer_to-answer.result.now,
      ran,
      (
        line_stopped z line c.answer_to-answer.result.now here after ran (g.K.Sink.written c.args.self.now.out.now) (g.K.Sink.written c.put_answer.new.out)
            (string_bytes c.args.self.now.waiting.now) (string_bytes c.put_answer.new.waiting) c.in_err-put_answer.field-0.0 c.requires.ready.1
            c.in_err-put_answer.ensures.bytes,
        (c.in_err-put_answer.ensures.faults, c.in_err-put_answer.ensures.failed),
        refl,
      ),
    ))

pub returns-clause-ran : goal.returns-clause-ran
returns-clause-ran g c =
    let M = g.M.MachineOwner in
    let line = c.args.line.now in
    let z = (M.machine c.args.machine.now).sizes in
    let here = world_in (M.machine c.args.machine.now) in
    let after = world_in (M.machine c.run_on.new.machine) in
    let own = c.in-Ok.ensures.ran in
    let last : IsLastAnswer c.answer_to-answer.result.now (hand_in mmu after (index_of z line.actor)) =
    subst (λ (y : Sizes). IsLastAnswer c.answer_to-answer.result.now (hand_in mmu after (index_of y line.actor))) c.in-Ok.ensures.same.0
    c.answer_to-answer.ensures in
    let ran : RanOn z line c.answer_to-answer.result.now (index_of z line.actor) here after =
    subst (λ (a : Answer). RanOn z line a (index_of z line.actor) here after)
    (sym (last line (given_in (index_of z line.actor) here after) (hand_in mmu here (index_of z line.actor)) own.answered)) own in (
      c.answer_to-answer.result.now,
      ran,
      (
        line_put z line c.answer_to-answer.result.now here after ran (g.K.Sink.written c.args.self.now.out.now) (g.K.Sink.written c.put_answer.new.out)
            (string_bytes c.args.self.now.waiting.now) (string_bytes c.put_answer.new.waiting) c.in_ok-put_answer.ensures.bytes,
        (c.in_ok-put_answer.ensures.faults, c.in_ok-put_answer.ensures.failed),
        refl,
      ),
    )
