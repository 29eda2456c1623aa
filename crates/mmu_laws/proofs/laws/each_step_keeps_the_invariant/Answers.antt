use Rattle.mmu_core.proofs.machine.Worlds.{good_step}
use Rattle.log_invariant.proofs.LogRuns.{log_step}
use Rattle.mmu_laws.proofs.flat.EachStep.{each_step_stands_on, each_step_tells_lawfully, starts_stand}
use Rattle.mmu_laws.proofs.laws.each_step_keeps_the_invariant.Goals as goal

pub returns-clause-sound : goal.returns-clause-sound
returns-clause-sound c = good_step

pub returns-clause-covered : goal.returns-clause-covered
returns-clause-covered c = log_step

pub returns-clause-lawful : goal.returns-clause-lawful
returns-clause-lawful c = each_step_tells_lawfully

pub returns-clause-stands : goal.returns-clause-stands
returns-clause-stands c = each_step_stands_on

pub returns-clause-starts : goal.returns-clause-starts
returns-clause-starts c = starts_stand
