use Rattle.mmu_laws.proofs.forms.access.InstalledEntries.{installed_serve}
use Rattle.mmu_laws.proofs.turns.EntriesTaken.{breaking_changes_entries, leaves_stay}
use Rattle.mmu_laws.proofs.turns.StepsBounded.{turns_bounded}
use Rattle.mmu_laws.proofs.turns.DelayCases.{turns_come_nearer}
use Rattle.mmu_laws.proofs.laws.turns_come_to_an_end.Goals as goal

pub returns-clause-nearer : goal.returns-clause-nearer
returns-clause-nearer c = turns_come_nearer

pub returns-clause-bounded : goal.returns-clause-bounded
returns-clause-bounded c = turns_bounded

pub returns-clause-installed : goal.returns-clause-installed
returns-clause-installed c = installed_serve

pub returns-clause-stay : goal.returns-clause-stay
returns-clause-stay c = leaves_stay

pub returns-clause-breaking : goal.returns-clause-breaking
returns-clause-breaking c = breaking_changes_entries
