use Rattle.mmu_laws.proofs.steps.ExampleHostRun.{example_host}
use Rattle.mmu_laws.proofs.steps.ExampleLogRun.{example_log}
use Rattle.mmu_laws.proofs.steps.ExampleLogAllRun.{example_log_all}
use Rattle.mmu_laws.proofs.steps.ExampleApartRun.{example_apart}
use Rattle.mmu_laws.proofs.steps.ExampleLeafRun.{example_leaf}
use Rattle.mmu_laws.proofs.steps.ExampleMissesRun.{example_misses}
use Rattle.mmu_laws.proofs.forms.log.ExampleReadsRun.{example_reads}
use Rattle.mmu_laws.proofs.forms.log.ExampleOwedRun.{example_owed}
use Rattle.mmu_laws.proofs.forms.log.ExampleManualRun.{example_manual}
use Rattle.mmu_laws.proofs.steps.ExampleProtectRun.{example_protect}
use Rattle.mmu_laws.proofs.steps.ExampleEvictRun.{example_evict}
use Rattle.mmu_laws.proofs.steps.ExampleSlotsRun.{example_slots}
use Rattle.mmu_laws.proofs.steps.ExampleSplitRun.{example_split}
use Rattle.mmu_laws.proofs.steps.ExampleMoveRun.{example_move}
use Rattle.mmu_laws.proofs.steps.ExampleOverlapRun.{example_overlap}
use Rattle.mmu_laws.proofs.steps.ExampleTightRun.{example_tight}
use Rattle.mmu_laws.proofs.steps.ExampleSmallRun.{example_small}
use Rattle.mmu_laws.proofs.steps.ExampleHugeRun.{example_huge}
use Rattle.mmu_core.specs.machine.Enabled.{mmu}
use Rattle.mmu_core.specs.machine.Machine.{run}
use Rattle.mmu_laws.proofs.steps.CanStep.{may_step}
use Rattle.mmu_laws.proofs.steps.ExampleRun.{example_prints, example_races, example_runs, example_starves, example_waits}
use Rattle.mmu_core.proofs.start.StartViews.{a_start}
use Rattle.mmu_core.proofs.start.Starts.{start_good}
use Rattle.mmu_core.proofs.machine.Worlds.{good_run}
use Rattle.mmu_laws.proofs.laws.the_steps_can_be_made.Goals as goal

pub returns-clause-starts : goal.returns-clause-starts
returns-clause-starts c = a_start

pub returns-clause-goes_on : goal.returns-clause-goes_on
returns-clause-goes_on c z lines w ss actor start legal there has =
    may_step z (run mmu w ss) actor (good_run z w ss (start_good z lines w start) legal) there has

pub returns-clause-example : goal.returns-clause-example
returns-clause-example c = example_runs

pub returns-clause-prints : goal.returns-clause-prints
returns-clause-prints c = example_prints

pub returns-clause-starves : goal.returns-clause-starves
returns-clause-starves c = example_starves

pub returns-clause-tight : goal.returns-clause-tight
returns-clause-tight c = example_tight

pub returns-clause-races : goal.returns-clause-races
returns-clause-races c = example_races

pub returns-clause-slot_waits : goal.returns-clause-slot_waits
returns-clause-slot_waits c = example_waits

pub returns-clause-host : goal.returns-clause-host
returns-clause-host c = example_host

pub returns-clause-protect : goal.returns-clause-protect
returns-clause-protect c = example_protect

pub returns-clause-evict : goal.returns-clause-evict
returns-clause-evict c = example_evict

pub returns-clause-moves : goal.returns-clause-moves
returns-clause-moves c = example_move

pub returns-clause-overlap : goal.returns-clause-overlap
returns-clause-overlap c = example_overlap

pub returns-clause-slots : goal.returns-clause-slots
returns-clause-slots c = example_slots

pub returns-clause-log : goal.returns-clause-log
returns-clause-log c = example_log

pub returns-clause-log_all : goal.returns-clause-log_all
returns-clause-log_all c = example_log_all

pub returns-clause-reads : goal.returns-clause-reads
returns-clause-reads c = example_reads

pub returns-clause-owed : goal.returns-clause-owed
returns-clause-owed c = example_owed

pub returns-clause-manual : goal.returns-clause-manual
returns-clause-manual c = example_manual

pub returns-clause-misses : goal.returns-clause-misses
returns-clause-misses c = example_misses

pub returns-clause-apart : goal.returns-clause-apart
returns-clause-apart c = example_apart

pub returns-clause-leaf : goal.returns-clause-leaf
returns-clause-leaf c = example_leaf

pub returns-clause-split : goal.returns-clause-split
returns-clause-split c = example_split

pub returns-clause-small : goal.returns-clause-small
returns-clause-small c = example_small

pub returns-clause-huge : goal.returns-clause-huge
returns-clause-huge c = example_huge
