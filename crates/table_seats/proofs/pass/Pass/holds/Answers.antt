use Rattle.std.proofs.Common.{subst}
use Rattle.table_seats.specs.Passes.{IsPass, PassView}
use Rattle.table_seats.proofs.pass.Pass.holds.Goals as goal

pub returns : goal.returns
returns c = subst (λ (t : PassView). IsPass t.knows t.hands) c.self.view_is c.self.invariant.1
