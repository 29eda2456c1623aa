use Rattle.mmu_laws.proofs.causes.Causes.{faults_begin_anew_by_cause}
use Rattle.mmu_laws.proofs.causes.SawNothing.{between_lines_saw_nothing, starts_saw_nothing}
use Rattle.mmu_laws.proofs.causes.StepWaits.{step_waits_are_by_cause}
use Rattle.mmu_laws.proofs.turns.DelayCases.{delays_wait_begin_anew_or_miss}
use Rattle.mmu_laws.proofs.laws.each_delay_has_its_cause.Goals as goal

pub returns-clause-begins_anew : goal.returns-clause-begins_anew
returns-clause-begins_anew c = faults_begin_anew_by_cause

pub returns-clause-waits : goal.returns-clause-waits
returns-clause-waits c = step_waits_are_by_cause

pub returns-clause-delays : goal.returns-clause-delays
returns-clause-delays c = delays_wait_begin_anew_or_miss

pub returns-clause-starts : goal.returns-clause-starts
returns-clause-starts c = starts_saw_nothing

pub returns-clause-between : goal.returns-clause-between
returns-clause-between c = between_lines_saw_nothing
