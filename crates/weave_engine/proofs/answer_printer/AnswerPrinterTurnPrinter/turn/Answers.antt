use Rattle.std.proofs.Common.{inr, refl, string_bytes, []}
use Rattle.std.specs.Prelude.{true, false}
use Rattle.std.proofs.lemmas.Result.{err_from_is_err_and}
use Rattle.core_views.specs.Text.{line_text}
use Rattle.step_seats.specs.Machines.{world_in}
use Rattle.weave_engine.specs.PrinterLaws.{nothing_buffered}
use Rattle.weave_engine.proofs.AnswerTexts.{turn_put, turn_stopped}
use Rattle.turn_loops.proofs.Turns.{done_has, done_made, more_made, waiting_made}
use Rattle.weave_engine.proofs.answer_printer.AnswerPrinterTurnPrinter.turn.Goals as goal

pub last_answer-answer-requires-clause-answered : goal.last_answer-answer-requires-clause-answered
last_answer-answer-requires-clause-answered g c =
    let M = g.M.MachineOwner in
    let start = world_in (M.machine c.args.machine.now) in
    let after_turn_on = world_in (M.machine c.turn_on.new.machine) in
    done_has c.in-Some.made c.args.index start after_turn_on c.in-Done.is
    (rw c.in-Some.is at c.in-Ok.ensures.turned)

pub returns-in_err-put_answer-in-Done-clause-turned : goal.returns-in_err-put_answer-in-Done-clause-turned
returns-in_err-put_answer-in-Done-clause-turned g c =
    let M = g.M.MachineOwner in
    let start = world_in (M.machine c.args.machine.now) in
    let after_turn_on = world_in (M.machine c.turn_on.new.machine) in
    let p = err_from_is_err_and c.from_residual.result c.from_residual.ensures.1 in
    let made = c.in-Some.made in
    let bytes = line_text made.number made.actor c.last_answer-answer.result.now in
    let D =
    done_made made c.args.index start after_turn_on c.last_answer-answer.result.now c.in-Done.is
    (rw c.in-Some.is at c.in-Ok.ensures.turned) c.last_answer-answer.ensures in
    rw (p.1, p.2) (inr (
      bytes,
      true,
      D.0,
      (
        turn_stopped c.args.index start after_turn_on true bytes D.0 (g.K.Sink.written c.args.self.now.out.now)
            (g.K.Sink.written c.put_answer.new.out) (string_bytes c.args.self.now.waiting.now) (string_bytes c.put_answer.new.waiting)
            c.in_err-put_answer-in-Done.field-0.0 made.number made.actor c.last_answer-answer.result.now refl D.1 c.requires.ready.1
            c.in_err-put_answer-in-Done.ensures.bytes,
        (c.in_err-put_answer-in-Done.ensures.faults, c.in_err-put_answer-in-Done.ensures.failed),
        refl,
      ),
    ))

pub returns-in_ok-put_answer-in-Done-clause-turned : goal.returns-in_ok-put_answer-in-Done-clause-turned
returns-in_ok-put_answer-in-Done-clause-turned g c =
    let M = g.M.MachineOwner in
    let start = world_in (M.machine c.args.machine.now) in
    let after_turn_on = world_in (M.machine c.turn_on.new.machine) in
    let made = c.in-Some.made in
    let bytes = line_text made.number made.actor c.last_answer-answer.result.now in
    let D =
    done_made made c.args.index start after_turn_on c.last_answer-answer.result.now c.in-Done.is
    (rw c.in-Some.is at c.in-Ok.ensures.turned) c.last_answer-answer.ensures in (
      bytes,
      D.0,
      (
        turn_put c.args.index start after_turn_on true bytes D.0 (g.K.Sink.written c.args.self.now.out.now)
            (g.K.Sink.written c.put_answer.new.out) (string_bytes c.args.self.now.waiting.now) (string_bytes c.put_answer.new.waiting)
            c.in_ok-put_answer-in-Done.ensures.bytes,
        (c.in_ok-put_answer-in-Done.ensures.faults, c.in_ok-put_answer-in-Done.ensures.failed),
        refl,
      ),
    )

pub returns-in-More-clause-turned : goal.returns-in-More-clause-turned
returns-in-More-clause-turned g c =
    let M = g.M.MachineOwner in
    let start = world_in (M.machine c.args.machine.now) in
    let after_turn_on = world_in (M.machine c.turn_on.new.machine) in
    let made =
    more_made c.in-Some.made c.args.index start after_turn_on c.in-More.is
    (rw c.in-Some.is at c.in-Ok.ensures.turned) in (
      [],
      made,
      (
        turn_put c.args.index start after_turn_on false [] made
            (g.K.Sink.written c.args.self.now.out.now) (g.K.Sink.written c.args.self.now.out.now) (string_bytes c.args.self.now.waiting.now)
            (string_bytes c.args.self.now.waiting.now)
            (nothing_buffered (g.K.Sink.written c.args.self.now.out.now) (string_bytes c.args.self.now.waiting.now) c.requires.ready.1),
        (refl, c.requires.ready.0),
        refl,
      ),
    )

pub returns-in-Wait-clause-turned : goal.returns-in-Wait-clause-turned
returns-in-Wait-clause-turned g c =
    let M = g.M.MachineOwner in
    let start = world_in (M.machine c.args.machine.now) in
    let after_turn_on = world_in (M.machine c.turn_on.new.machine) in
    let made =
    waiting_made c.in-Some.made c.args.index start after_turn_on c.in-Wait.is
    (rw c.in-Some.is at c.in-Ok.ensures.turned) in (
      [],
      made,
      (
        turn_put c.args.index start after_turn_on true [] made
            (g.K.Sink.written c.args.self.now.out.now) (g.K.Sink.written c.args.self.now.out.now) (string_bytes c.args.self.now.waiting.now)
            (string_bytes c.args.self.now.waiting.now)
            (nothing_buffered (g.K.Sink.written c.args.self.now.out.now) (string_bytes c.args.self.now.waiting.now) c.requires.ready.1),
        (refl, c.requires.ready.0),
        refl,
      ),
    )
