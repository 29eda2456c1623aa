use Rattle.std.proofs.Common.{◌≡◌, subst}
use Rattle.part_steps.specs.PartTasks.{part_kind, words_filled}
use Rattle.part_steps.specs.declared.part_step.PartStep.{PartStep}
use Rattle.step_seats.specs.PartTurns.{MadePart}
use Rattle.step_seats.proofs.PartMade.{made_part}
use Rattle.table_pool.specs.Pages.{fill_step}
use Rattle.table_pool.proofs.Paging.{fill_answers_value}
use Rattle.table_pool.proofs.page.fill_next.Goals as goal

pub returns-clause-made : goal.returns-clause-made
returns-clause-made g c =
    let step : PartStep = fill_step (words_filled (g.S.Stepper.seat c.args.s.now).hand.topics.owned) c.args.value in
    let kind : c.part_kind-kind.result ≡ part_kind (g.S.Stepper.seat c.args.s.now).hand step c.args.note =
    rw (c.fill_step-step.ensures, c.words_filled.ensures, c.topics.ensures, c.hand-hand.ensures.hand) at c.part_kind-kind.ensures in
    let made = made_part step c.args.note c.act.result (g.S.Stepper.seat c.args.s.now) (g.S.Stepper.seat c.act.new.self)
    c.part_kind-kind.result kind c.requires.may c.hand-hand.ensures.has c.act.ensures.acts in
    let wrote : c.act.result ≡ c.args.value =
    fill_answers_value c.args.value c.args.note c.act.result (g.S.Stepper.seat c.args.s.now) (g.S.Stepper.seat c.act.new.self) c.requires.may.needs
    made.answers in
    subst (λ v. MadePart step c.args.note v (g.S.Stepper.seat c.args.s.now) (g.S.Stepper.seat c.act.new.self)) wrote made
