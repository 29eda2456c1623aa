use Rattle.std.proofs.Common.{ap, Some}
use Rattle.core_views.specs.declared.topics.Topics.{Topics}
use Rattle.vcpu_tlb.proofs.GuestWords.{flush_kept, outside_told}
use Rattle.vcpu_tlb.proofs.CachedBehind.{left_cached}
use Rattle.step_seats.proofs.Where.{where_made}
use Rattle.vcpu_tlb.proofs.guest.leave.Goals as goal

pub returns-clause-clear : goal.returns-clause-clear
returns-clause-clear g c =
    let made = c.make_part.ensures.made in
    where_made made (λ w at has. outside_told (Some _) _ _ has (ap (λ (t : Topics). t.stay) made.topics))

pub returns-clause-asked : goal.returns-clause-asked
returns-clause-asked g c =
    where_made c.make_part.ensures.made (λ w at has. flush_kept (Some w) (Some _) _ _ _ _ _ at.has at.world has)

pub returns-clause-cached : goal.returns-clause-cached
returns-clause-cached g c =
    left_cached (g.S.Stepper.seat c.args.s.now).hand (g.S.Stepper.seat c.make_part.new.s).hand c.args.note c.make_part.result c.requires.may
    c.make_part.ensures.made.hand
