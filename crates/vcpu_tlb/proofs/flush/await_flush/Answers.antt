use Rattle.std.proofs.Common.{ap, sym, ◌∙◌}
use Rattle.part_steps.specs.declared.part_step.PartStep.TheVariants.{Await}
use Rattle.step_seats.proofs.Found.{found_told}
use Rattle.step_seats.proofs.Where.{telling, where_made}
use Rattle.vcpu_tlb.specs.Flushing.{awaited_by}
use Rattle.vcpu_tlb.proofs.Asking.{has_not, has_yet}
use Rattle.vcpu_tlb.proofs.flush.await_flush.Goals as goal

pub returns-then-has_to_flush-clause-told : goal.returns-then-has_to_flush-clause-told
returns-then-has_to_flush-clause-told g c =
    where_made c.make_part-state.ensures.made
    (λ w at has. sym (has_yet c.make_part-state.result (sym c.has_to_flush.ensures ∙ c.if-has_to_flush.true))
    ∙ ap awaited_by (found_told (Await c.args.index) _ _ (telling w (g.S.Stepper.seat c.args.s.now)) _ at c.requires.may.needs))

pub returns-else-has_to_flush-clause-told : goal.returns-else-has_to_flush-clause-told
returns-else-has_to_flush-clause-told g c =
    where_made c.make_part-state.ensures.made
    (λ w at has. sym (has_not c.make_part-state.result (sym c.has_to_flush.ensures ∙ c.if-has_to_flush.false))
    ∙ ap awaited_by (found_told (Await c.args.index) _ _ (telling w (g.S.Stepper.seat c.args.s.now)) _ at c.requires.may.needs))
