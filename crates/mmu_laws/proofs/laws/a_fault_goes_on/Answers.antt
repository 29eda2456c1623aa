use Rattle.mmu_core.proofs.forms.access.FaultFalls.{fault_falls, fault_is_bounded}
use Rattle.mmu_core.proofs.forms.access.FaultKnown.{fault_known, parts_answer}
use Rattle.mmu_core.proofs.forms.access.FaultNeeds.{fault_needs}
use Rattle.mmu_laws.proofs.causes.WaitsSee.{waits_see_another}
use Rattle.mmu_laws.proofs.laws.a_fault_goes_on.Goals as goal

pub returns-clause-needs : goal.returns-clause-needs
returns-clause-needs c = fault_needs

pub returns-clause-answers : goal.returns-clause-answers
returns-clause-answers c = parts_answer

pub returns-clause-known : goal.returns-clause-known
returns-clause-known c = fault_known

pub returns-clause-falls : goal.returns-clause-falls
returns-clause-falls c = fault_falls

pub returns-clause-bounded : goal.returns-clause-bounded
returns-clause-bounded c = fault_is_bounded

pub returns-clause-waits : goal.returns-clause-waits
returns-clause-waits c = waits_see_another
