use Rattle.std.proofs.Common.{ℕ, ap, subst}
use Rattle.step_seats.specs.FaultTurns.{MakesFaultStep, as_end}
use Rattle.step_seats.proofs.FaultTurns.{nearer, turns_fault}
use Rattle.fault_install.specs.Faults.{end_told}
use Rattle.fault_install.proofs.fault.FaultJob.turn.Goals as goal

pub returns-clause-turned : goal.returns-clause-turned
returns-clause-turned g c =
    let job = c.args.self.now in
    let before = g.S.Stepper.seat c.args.s.now in
    let after = g.S.Stepper.seat c.step.new.s in
    let p = c.fault_place-place.result in
    let turn = as_end end_told c.step.result in
    turns_fault p job.gfn job.write turn before after (rw c.hand-hand.ensures.hand at c.part_rests.ensures) c.requires.stands.fault
    (rw c.hand-hand.ensures.hand at c.fault_place-place.ensures.stands) (rw c.hand-hand.ensures.hand at c.fault_place-place.ensures.is_at)
    (subst (λ (n : ℕ). MakesFaultStep p job.gfn job.write turn n before after) c.access_note.ensures c.step.ensures.makes)

pub returns-clause-nearer : goal.returns-clause-nearer
returns-clause-nearer g c is =
    let job = c.args.self.now in
    let before = g.S.Stepper.seat c.args.s.now in
    let after = g.S.Stepper.seat c.step.new.s in
    let p = c.fault_place-place.result in
    let turn = as_end end_told c.step.result in
    nearer p job.gfn job.write turn before after (rw c.hand-hand.ensures.hand at c.part_rests.ensures) c.requires.stands.fault
    (rw c.hand-hand.ensures.hand at c.fault_place-place.ensures.stands) (rw c.hand-hand.ensures.hand at c.fault_place-place.ensures.is_at)
    (subst (λ (n : ℕ). MakesFaultStep p job.gfn job.write turn n before after) c.access_note.ensures c.step.ensures.makes)
    (ap (as_end end_told) is)
