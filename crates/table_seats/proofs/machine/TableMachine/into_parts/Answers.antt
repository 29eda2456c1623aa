use Rattle.std.proofs.Common.{◌∙◌, ap}
use Rattle.step_seats.specs.Machines.{world_in}
use Rattle.table_seats.specs.Owners.{OwnerView, machine_of}
use Rattle.table_seats.proofs.Owners.{world_is}
use Rattle.table_seats.proofs.machine.TableMachine.into_parts.Goals as goal

pub returns-clause-fits : goal.returns-clause-fits
returns-clause-fits c = c.self.invariant.0.fits

pub returns-clause-full : goal.returns-clause-full
returns-clause-full c = c.self.invariant.0.all

pub returns-clause-alone : goal.returns-clause-alone
returns-clause-alone c = c.self.invariant.0.alone

pub returns-clause-world : goal.returns-clause-world
returns-clause-world c = world_is _ c.self.invariant.0 ∙ ap (λ (x : OwnerView). world_in (machine_of x)) c.self.view_is
