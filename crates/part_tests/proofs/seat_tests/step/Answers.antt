use Rattle.std.proofs.Common.{subst}
use Rattle.step_seats.specs.Told.{WorldLeadsOn}
use Rattle.step_seats.specs.Seats.{Told}
use Rattle.step_seats.proofs.Told.{told_goes_on}
use Rattle.part_tests.proofs.seat_tests.step.Goals as goal

pub returns-clause-told : goal.returns-clause-told
returns-clause-told g c =
    let on = told_goes_on (g.S.Stepper.seat c.reserve.new.self).tells.world (g.S.Stepper.seat c.act.new.self).tells.world
    (g.S.Stepper.seat c.reserve.new.self).actor c.next_kind-kind.result c.act.result c.act.ensures.acts.world in
    subst (λ (x : Told). WorldLeadsOn x.world (g.S.Stepper.seat c.act.new.self).tells.world) c.reserve.ensures.told on
