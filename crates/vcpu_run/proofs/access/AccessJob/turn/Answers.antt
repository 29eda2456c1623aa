use Rattle.mmu_core.specs.machine.Turns.{line_of}
use Rattle.step_seats.specs.LineTurns.{turn_told}
use Rattle.vcpu_run.proofs.ToldCauses.{told_cause}
use Rattle.vcpu_run.proofs.access.AccessJob.turn.Goals as goal

pub returns-clause-cause : goal.returns-clause-cause
returns-clause-cause g c =
    let T = c.turn_line.ensures.turns in
    told_cause c.args.self (g.S.Stepper.seat c.args.s.now).hand
    (turn_told c.turn_line.result (g.S.Stepper.seat c.args.s.now).hand (g.S.Stepper.seat c.turn_line.new.s).hand) T.makes.found
    (line_of (g.S.Stepper.seat c.args.s.now).hand).command c.requires.access (rw c.hand-hand.ensures.hand at c.rests.ensures).at
    (rw c.hand-hand.ensures.hand at c.knows.ensures) T.gives
