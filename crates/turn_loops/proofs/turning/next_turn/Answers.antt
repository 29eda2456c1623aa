use Rattle.std.proofs.Common.{◌≡◌, ap, refl, sym, ◌∙◌}
use Rattle.std.specs.Prelude.{Bool, Some, None, true, if◌then◌else◌}
use Rattle.core_views.specs.declared.trace.Line.{Line}
use Rattle.core_views.specs.Held.{Held, has_line}
use Rattle.mmu_core.specs.machine.Turns.{line_of}
use Rattle.turn_loops.specs.Turned.{open_line}
use Rattle.turn_loops.proofs.Turns.{turned_told}
use Rattle.turn_loops.proofs.turning.next_turn.Goals as goal

pub returns-clause-turned : goal.returns-clause-turned
returns-clause-turned g c =
    let h : Held = (g.S.Stepper.seat c.args.s.now).hand in
    let has : has_line h ≡ true = ap (λ (x : Held). has_line x) (sym c.hand-hand.ensures.hand) ∙ sym c.has_line.ensures ∙ c.if-not-has_line.false in
    let line : Line = c.line.result.now in
    let is : line ≡ line_of h = c.line.ensures.line ∙ ap (λ (x : Held). line_of x) c.hand-hand.ensures.hand in
    let open_ : open_line h ≡ Some line = ap (λ (b : Bool). if b then Some (line_of h) else None) has ∙ ap Some (sym is) in
    turned_told (g.S.Stepper.seat c.args.s.now) (g.S.Stepper.seat c.take_turn.new.s)
    line c.progress.result.now.actor c.in_ok-turn.turn c.hand-hand.ensures.has open_ (rw (c.progress.ensures, c.hand-hand.ensures.hand) refl)
    c.in_ok-turn.ensures.turns
