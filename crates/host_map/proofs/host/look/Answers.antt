use Rattle.host_map.proofs.ContentWords.{host_found}
use Rattle.std.proofs.Common.{Some}
use Rattle.step_seats.proofs.Where.{where_made}
use Rattle.host_map.proofs.host.look.Goals as goal

pub returns-clause-told : goal.returns-clause-told
returns-clause-told g c =
    where_made c.make_part.ensures.made
    (λ w at has. host_found (g.S.Stepper.seat c.args.s.now).hand.state.sizes c.args.page c.args.note (Some w) (Some _) _ _ c.requires.may.needs.0 at.world)
