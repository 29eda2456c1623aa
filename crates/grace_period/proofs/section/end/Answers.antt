use Rattle.std.proofs.Common.{ap, Some}
use Rattle.core_views.specs.declared.topics.Topics.{Topics}
use Rattle.grace_period.proofs.Looks.{told_out}
use Rattle.step_seats.proofs.Where.{where_made}
use Rattle.grace_period.proofs.section.end.Goals as goal

pub returns-clause-told : goal.returns-clause-told
returns-clause-told g c =
    let made = c.make_part.ensures.made in
    where_made made (λ w at has. told_out (Some _) _ _ has (ap (λ (t : Topics). t.stay) made.topics))
