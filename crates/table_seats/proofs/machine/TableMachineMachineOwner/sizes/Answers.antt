use Rattle.std.proofs.Common.{◌≡◌, length, subst}
use Rattle.core_views.specs.Sizes.{AreSizes, actors_of}
use Rattle.step_seats.specs.Machines.{IsMachine}
use Rattle.table_seats.specs.Owners.{OwnerView, machine_of}
use Rattle.table_seats.proofs.Owners.{are_sizes, counted, is_machine}
use Rattle.table_seats.proofs.machine.TableMachineMachineOwner.sizes.Goals as goal

pub returns-clause-reached : goal.returns-clause-reached
returns-clause-reached c =
    subst (λ (x : OwnerView). IsMachine x.sizes (machine_of x).words (machine_of x).hands) c.self.view_is (is_machine _ c.self.invariant.0)

pub returns-clause-sizes : goal.returns-clause-sizes
returns-clause-sizes c = subst (λ (x : OwnerView). AreSizes x.sizes) c.self.view_is (are_sizes _ c.self.invariant.0)

pub returns-clause-count : goal.returns-clause-count
returns-clause-count c = subst (λ (x : OwnerView). length (machine_of x).hands ≡ actors_of x.sizes) c.self.view_is (counted _ c.self.invariant.0)
