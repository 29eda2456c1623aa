use Rattle.std.proofs.Common.{◌∙◌, ap, sym}
use Rattle.step_seats.specs.Machines.{world_in}
use Rattle.table_seats.specs.Owners.{OwnerView, machine_of}
use Rattle.table_seats.proofs.Owners.{world_is}
use Rattle.table_seats.proofs.machine.TableMachine.into_closing.Goals as goal

pub returns : goal.returns
returns c =
    sym (c.close.ensures.told c.self.invariant.0.alone)
    ∙ (world_is _ c.self.invariant.0 ∙ ap (λ (x : OwnerView). world_in (machine_of x)) c.self.view_is)
