use Rattle.mmu_laws.proofs.forms.access.FaultAlone.{goes_through}
use Rattle.mmu_laws.proofs.leaves.LeadsDown.{leads_down}
use Rattle.mmu_laws.proofs.laws.a_fault_alone_goes_through.Goals as goal

pub returns-clause-through : goal.returns-clause-through
returns-clause-through c = goes_through

pub returns-clause-leads : goal.returns-clause-leads
returns-clause-leads c = leads_down
