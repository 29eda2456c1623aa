use Rattle.mmu_laws.proofs.flat.EveryHistory.{every_history}
use Rattle.mmu_laws.proofs.flat.ArmedSlots.{armed_slots_are_covered}
use Rattle.mmu_laws.proofs.flat.EveryLog.{every_log}
use Rattle.mmu_laws.proofs.causes.StarvedScan.{starved_lines_scan}
use Rattle.mmu_core.proofs.start.Starts.{start_good}
use Rattle.mmu_core.proofs.machine.Worlds.{good_run}
use Rattle.mmu_laws.proofs.laws.every_list_of_steps.Goals as goal

pub returns-clause-sound : goal.returns-clause-sound
returns-clause-sound c z lines w ss start legal = good_run z w ss (start_good z lines w start) legal

pub returns-clause-lawful : goal.returns-clause-lawful
returns-clause-lawful c = every_history

pub returns-clause-logs : goal.returns-clause-logs
returns-clause-logs c = every_log

pub returns-clause-armed : goal.returns-clause-armed
returns-clause-armed c = armed_slots_are_covered

pub returns-clause-starved : goal.returns-clause-starved
returns-clause-starved c = starved_lines_scan
