use Rattle.mmu_laws.proofs.alone.AloneEnds.{ends_alone}
use Rattle.mmu_laws.proofs.alone.AloneEnough.{none_starved}
use Rattle.mmu_laws.proofs.alone.AloneRuns.{begins_alone, steps_alone}
use Rattle.mmu_laws.proofs.alone.LowestFrames.{moves_take_lowest}
use Rattle.mmu_laws.proofs.forms.log.ReadingsAlone.{readings_alone_are_exact}
use Rattle.mmu_laws.proofs.laws.a_line_alone_goes_through.Goals as goal

pub returns-clause-through : goal.returns-clause-through
returns-clause-through c = steps_alone

pub returns-clause-begins : goal.returns-clause-begins
returns-clause-begins c = begins_alone

pub returns-clause-ends : goal.returns-clause-ends
returns-clause-ends c = ends_alone

pub returns-clause-enough : goal.returns-clause-enough
returns-clause-enough c = none_starved

pub returns-clause-lowest : goal.returns-clause-lowest
returns-clause-lowest c = moves_take_lowest

pub returns-clause-readings : goal.returns-clause-readings
returns-clause-readings c = readings_alone_are_exact
