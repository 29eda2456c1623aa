use Rattle.std.proofs.Common.{[], ◌∷◌, inl, inr, refl, string_bytes, subst, sym, ap, ◌∙◌}
use Rattle.std.proofs.lemmas.Result.{err_from_is_err_and}
use Rattle.step_seats.specs.Machines.{world_in}
use Rattle.core_views.specs.declared.kind.Kind.{Kind}
use Rattle.core_views.specs.Held.{Held, has_line}
use Rattle.core_views.specs.Sizes.{AreSizes}
use Rattle.mmu_core.specs.machine.Enabled.{mmu}
use Rattle.mmu_core.specs.machine.Machine.{Step, hand_in}
use Rattle.turn_loops.specs.Given.{told_in}
use Rattle.turn_loops.specs.Marks.{Made}
use Rattle.turn_loops.specs.Turned.{is_stop, turn_text}
use Rattle.step_printing.specs.PutLaws.{nothing_put, nothing_stopped}
use Rattle.step_printing.specs.Puts.{Printed, PutsSteps, printed_by}
use Rattle.step_printing.proofs.TurnsTold.{goes_made, line_of_turn, mark_put, mark_stopped, nothing_written, put_told, row_of_turn, stops_made, tells_all, turn_is, turn_puts}
use Rattle.step_printing.proofs.step_printer.StepPrinterTurnPrinterPlainMachine.turn.Goals as goal

pub returns-then-not-has_line-clause-turned : goal.returns-then-not-has_line-clause-turned
returns-then-not-has_line-clause-turned g c =
    let p : Printed =
    printed_by (g.K.Sink.written c.args.self.now.out.now) (g.K.Sink.faults c.args.self.now.out.now) (g.K.Sink.failed c.args.self.now.out.now)
    (string_bytes c.args.self.now.waiting.now) c.args.self.now.lines in (
      ap (λ (h : Held). has_line h) c.hand.ensures.has.is ∙ ap (λ h. has_line h.core) (sym c.hand.ensures.hand) ∙ sym c.has_line.ensures
          ∙ c.if-not-has_line.true,
      refl,
      (nothing_put p c.requires.ready, refl),
    )

pub returns-in_default-2-clause-turned : goal.returns-in_default-2-clause-turned
returns-in_default-2-clause-turned g c =
    let p : Printed =
    printed_by (g.K.Sink.written c.args.self.now.out.now) (g.K.Sink.faults c.args.self.now.out.now) (g.K.Sink.failed c.args.self.now.out.now)
    (string_bytes c.args.self.now.waiting.now) c.args.self.now.lines in
    inl (rw c.in_default.is at c.turn_on.ensures.refused, (nothing_stopped p c.requires.ready, refl))

pub put_turn-requires-clause-told : goal.put_turn-requires-clause-told
put_turn-requires-clause-told g c =
    let w = world_in c.args.machine.now in
    let t = world_in c.turn_on.new.machine in
    let made = c.in-Ok-Some.made in
    let T = rw c.in-Ok-Some.field-0-is at c.in-Ok-Some.ensures.turned in
    (told_in made.turn c.args.index w t, tells_all made.number made.actor c.args.index w t made.turn T)

pub returns-in_default-put_turn-clause-turned : goal.returns-in_default-put_turn-clause-turned
returns-in_default-put_turn-clause-turned g c =
    let p : Printed =
    printed_by (g.K.Sink.written c.args.self.now.out.now) (g.K.Sink.faults c.args.self.now.out.now) (g.K.Sink.failed c.args.self.now.out.now)
    (string_bytes c.args.self.now.waiting.now) c.args.self.now.lines in
    let q : Printed =
    printed_by (g.K.Sink.written c.args.self.now.out.now) (g.K.Sink.faults c.args.self.now.out.now) (g.K.Sink.failed c.args.self.now.out.now)
    (string_bytes c.put_turn.new.text) c.args.self.now.lines in
    let w = world_in c.args.machine.now in
    let t = world_in c.turn_on.new.machine in
    let made = c.in-Ok-Some.made in
    let T = rw c.in-Ok-Some.field-0-is at c.in-Ok-Some.ensures.turned in
    let told = told_in made.turn c.args.index w t in
    inr (
      turn_text made.number made.actor told,
      is_stop told,
      T.makes,
      (nothing_written p q (Made w T.makes.step ∷ []) refl refl c.requires.ready.unfailed, refl),
    )

pub returns-in_err-write_piece-clause-turned : goal.returns-in_err-write_piece-clause-turned
returns-in_err-write_piece-clause-turned g c =
    let e = err_from_is_err_and c.from_residual.result c.from_residual.ensures.1 in
    let p : Printed =
    printed_by (g.K.Sink.written c.args.self.now.out.now) (g.K.Sink.faults c.args.self.now.out.now) (g.K.Sink.failed c.args.self.now.out.now)
    (string_bytes c.args.self.now.waiting.now) c.args.self.now.lines in
    let q : Printed =
    printed_by (g.K.Sink.written c.write_piece.new.out) (g.K.Sink.faults c.write_piece.new.out) (g.K.Sink.failed c.write_piece.new.out)
    (string_bytes c.write_piece.new.pending) c.in-Ok.after in
    let w = world_in c.args.machine.now in
    let t = world_in c.turn_on.new.machine in
    let made = c.in-Ok-Some.made in
    let T = rw c.in-Ok-Some.field-0-is at c.in-Ok-Some.ensures.turned in
    let told = told_in made.turn c.args.index w t in
    let text = string_bytes c.put_turn.new.text in
    let mark = Made w T.makes.step in
    let puts =
    turn_puts p q text w T.makes.step c.next_row-row.result made.number told c.in-Ok.after
    (row_of_turn made.number made.actor c.args.index w t p.lines.sizes p.lines.reach.number c.next_row-row.result told T c.next_row-row.ensures)
    (line_of_turn made.number made.actor c.args.index w t told T)
    (turn_is made.number made.actor c.args.index w t told T)
    (put_told p q text c.next_row-row.result made.number made.turn told (hand_in mmu t c.args.index) c.of-shown.result c.in-Ok.after c.of-shown.ensures
    (tells_all made.number made.actor c.args.index w t made.turn T)
    (c.in-Ok.ensures told (tells_all made.number made.actor c.args.index w t made.turn T))) in
    rw (e.1, e.2) (inr (
      turn_text made.number made.actor told,
      is_stop told,
      T.makes,
      (
        mark_stopped p q text mark c.in-Ok.after puts c.in_err-write_piece.field-0.0 c.in_err-write_piece.ensures.bytes
            c.in_err-write_piece.ensures.faults c.in_err-write_piece.ensures.failed,
        refl,
      ),
    ))

pub returns-then-is_going-clause-turned : goal.returns-then-is_going-clause-turned
returns-then-is_going-clause-turned g c =
    let p : Printed =
    printed_by (g.K.Sink.written c.args.self.now.out.now) (g.K.Sink.faults c.args.self.now.out.now) (g.K.Sink.failed c.args.self.now.out.now)
    (string_bytes c.args.self.now.waiting.now) c.args.self.now.lines in
    let q : Printed =
    printed_by (g.K.Sink.written c.write_piece.new.out) (g.K.Sink.faults c.write_piece.new.out) (g.K.Sink.failed c.write_piece.new.out)
    (string_bytes c.write_piece.new.pending) c.in-Ok.after in
    let w = world_in c.args.machine.now in
    let t = world_in c.turn_on.new.machine in
    let made = c.in-Ok-Some.made in
    let T = rw c.in-Ok-Some.field-0-is at c.in-Ok-Some.ensures.turned in
    let told = told_in made.turn c.args.index w t in
    let text = string_bytes c.put_turn.new.text in
    let mark = Made w T.makes.step in
    let puts =
    turn_puts p q text w T.makes.step c.next_row-row.result made.number told c.in-Ok.after
    (row_of_turn made.number made.actor c.args.index w t p.lines.sizes p.lines.reach.number c.next_row-row.result told T c.next_row-row.ensures)
    (line_of_turn made.number made.actor c.args.index w t told T)
    (turn_is made.number made.actor c.args.index w t told T)
    (put_told p q text c.next_row-row.result made.number made.turn told (hand_in mmu t c.args.index) c.of-shown.result c.in-Ok.after c.of-shown.ensures
    (tells_all made.number made.actor c.args.index w t made.turn T)
    (c.in-Ok.ensures told (tells_all made.number made.actor c.args.index w t made.turn T))) in
    let put =
    mark_put p q text mark c.in-Ok.after puts refl refl
    (record { sizes = subst AreSizes (sym (c.in-Ok.ensures told (tells_all made.number made.actor c.args.index w t made.turn T)).sizes) c.requires.ready.sizes; unfailed = c.in_ok-write_piece.ensures.failed }) c.in_ok-write_piece.ensures.faults
    c.in_ok-write_piece.ensures.bytes in
    let M = goes_made made.number made.actor c.args.index w t made.turn (sym c.is_going.ensures ∙ c.if-is_going.true) T in
    ([], M.0, (subst (λ (s : Step Kind). PutsSteps p (Made w s ∷ []) q) (sym M.1) put, refl))

pub returns-clause-turned : goal.returns-clause-turned
returns-clause-turned g c =
    let p : Printed =
    printed_by (g.K.Sink.written c.args.self.now.out.now) (g.K.Sink.faults c.args.self.now.out.now) (g.K.Sink.failed c.args.self.now.out.now)
    (string_bytes c.args.self.now.waiting.now) c.args.self.now.lines in
    let q : Printed =
    printed_by (g.K.Sink.written c.write_piece.new.out) (g.K.Sink.faults c.write_piece.new.out) (g.K.Sink.failed c.write_piece.new.out)
    (string_bytes c.write_piece.new.pending) c.in-Ok.after in
    let w = world_in c.args.machine.now in
    let t = world_in c.turn_on.new.machine in
    let made = c.in-Ok-Some.made in
    let T = rw c.in-Ok-Some.field-0-is at c.in-Ok-Some.ensures.turned in
    let told = told_in made.turn c.args.index w t in
    let text = string_bytes c.put_turn.new.text in
    let mark = Made w T.makes.step in
    let puts =
    turn_puts p q text w T.makes.step c.next_row-row.result made.number told c.in-Ok.after
    (row_of_turn made.number made.actor c.args.index w t p.lines.sizes p.lines.reach.number c.next_row-row.result told T c.next_row-row.ensures)
    (line_of_turn made.number made.actor c.args.index w t told T)
    (turn_is made.number made.actor c.args.index w t told T)
    (put_told p q text c.next_row-row.result made.number made.turn told (hand_in mmu t c.args.index) c.of-shown.result c.in-Ok.after c.of-shown.ensures
    (tells_all made.number made.actor c.args.index w t made.turn T)
    (c.in-Ok.ensures told (tells_all made.number made.actor c.args.index w t made.turn T))) in
    let put =
    mark_put p q text mark c.in-Ok.after puts refl refl
    (record { sizes = subst AreSizes (sym (c.in-Ok.ensures told (tells_all made.number made.actor c.args.index w t made.turn T)).sizes) c.requires.ready.sizes; unfailed = c.in_ok-write_piece.ensures.failed }) c.in_ok-write_piece.ensures.faults
    c.in_ok-write_piece.ensures.bytes in
    let M = stops_made made.number made.actor c.args.index w t made.turn (sym c.is_going.ensures ∙ c.if-is_going.false) T in
    (M.0, M.1, (subst (λ (s : Step Kind). PutsSteps p (Made w s ∷ []) q) (sym M.2) put, refl))
