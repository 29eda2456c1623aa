use Rattle.std.proofs.Common.{ap}
use Rattle.std.specs.Prelude.{not, ◌==◌}
use Rattle.part_steps.specs.declared.part_step.PartStep.TheVariants.{Pause}
use Rattle.step_seats.proofs.Found.{found_told}
use Rattle.vcpu_tlb.proofs.CachedBehind.{paused_cached}
use Rattle.step_seats.proofs.Where.{telling, where_made}
use Rattle.vcpu_tlb.proofs.guest.paused.Goals as goal

pub returns-clause-told : goal.returns-clause-told
returns-clause-told g c =
    where_made c.make_part.ensures.made
    (λ w at has. ap (λ n. not (n == 0)) (found_told Pause _ _ (telling w (g.S.Stepper.seat c.args.s.now)) _ at c.requires.may.needs))

pub returns-clause-cached : goal.returns-clause-cached
returns-clause-cached g c =
    paused_cached (g.S.Stepper.seat c.args.s.now).hand (g.S.Stepper.seat c.make_part.new.s).hand c.args.note c.make_part.result c.requires.may
    c.make_part.ensures.made.hand
