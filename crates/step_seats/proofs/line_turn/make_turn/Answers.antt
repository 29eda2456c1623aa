use Rattle.std.proofs.Common.{ap, length}
use Rattle.core_views.specs.declared.progress.Progress.{Progress}
use Rattle.step_seats.proofs.OneTurn.{turn_anew, turn_done, turn_more, turn_waits}
use Rattle.step_seats.proofs.line_turn.make_turn.Goals as goal

pub returns-then-waits-clause-turns : goal.returns-then-waits-clause-turns
returns-then-waits-clause-turns g c =
    turn_waits (g.S.Stepper.seat c.args.s.now) (g.S.Stepper.seat c.act-found.new.self) c.next_kind-kind.result c.act-found.result c.requires.left
    (rw c.hand-hand.ensures.hand at c.rests.ensures) (rw c.hand-hand.ensures.hand at c.next_kind-kind.ensures) c.act-found.ensures.acts
    c.of-waiting.result c.waits.result c.seen.result (rw c.hand-hand.ensures.hand at c.of-waiting.ensures.waits) c.waits.ensures c.if-waits.true c.seen.ensures

pub returns-in-Some-clause-turns : goal.returns-in-Some-clause-turns
returns-in-Some-clause-turns g c =
    turn_anew (g.S.Stepper.seat c.args.s.now) (g.S.Stepper.seat c.act-found.new.self) c.next_kind-kind.result c.act-found.result c.requires.left
    (rw c.hand-hand.ensures.hand at c.rests.ensures) (rw c.hand-hand.ensures.hand at c.next_kind-kind.ensures) c.act-found.ensures.acts
    c.of-waiting.result c.waits.result c.progress.result.now.place c.cause_of-anew.result c.in-Some.cause
    (rw c.hand-hand.ensures.hand at c.of-waiting.ensures.waits) c.waits.ensures c.if-waits.false
    (ap (λ (x : Progress). x.place) (rw c.hand-hand.ensures.hand at c.progress.ensures)) c.cause_of-anew.ensures c.in-Some.is

pub returns-in-Some-get-clause-turns : goal.returns-in-Some-get-clause-turns
returns-in-Some-get-clause-turns g c =
    turn_done (g.S.Stepper.seat c.args.s.now) (g.S.Stepper.seat c.act-found.new.self) c.next_kind-kind.result c.act-found.result c.requires.left
    (rw c.hand-hand.ensures.hand at c.rests.ensures) (rw c.hand-hand.ensures.hand at c.next_kind-kind.ensures) c.act-found.ensures.acts
    c.of-waiting.result c.waits.result c.progress.result.now.place c.cause_of-anew.result _ c.answers.result.now c.in-Some-get.field-0.now
    (rw c.hand-hand.ensures.hand at c.of-waiting.ensures.waits) c.waits.ensures c.if-waits.false
    (ap (λ (x : Progress). x.place) (rw c.hand-hand.ensures.hand at c.progress.ensures)) c.cause_of-anew.ensures c.in_default.is
    (ap length (rw c.hand-hand.ensures.hand at c.answers-answered.ensures)) (rw c.hand.ensures.hand at c.answers.ensures)
    c.in-Some-get.ensures.lookup.3.0 c.in-Some-get.ensures.lookup.1

pub returns-in-None-clause-turns : goal.returns-in-None-clause-turns
returns-in-None-clause-turns g c =
    turn_more (g.S.Stepper.seat c.args.s.now) (g.S.Stepper.seat c.act-found.new.self) c.next_kind-kind.result c.act-found.result c.requires.left
    (rw c.hand-hand.ensures.hand at c.rests.ensures) (rw c.hand-hand.ensures.hand at c.next_kind-kind.ensures) c.act-found.ensures.acts
    c.of-waiting.result c.waits.result c.progress.result.now.place c.cause_of-anew.result _ c.answers.result.now
    (rw c.hand-hand.ensures.hand at c.of-waiting.ensures.waits) c.waits.ensures c.if-waits.false
    (ap (λ (x : Progress). x.place) (rw c.hand-hand.ensures.hand at c.progress.ensures)) c.cause_of-anew.ensures c.in_default.is
    (ap length (rw c.hand-hand.ensures.hand at c.answers-answered.ensures)) (rw c.hand.ensures.hand at c.answers.ensures)
    c.in-None.ensures.lookup.3
