use Rattle.mmu_core.proofs.held.Grace.{watched_was_outside}
use Rattle.mmu_core.proofs.held.EmptySections.{sections_begin_empty}
use Rattle.grace_period.proofs.laws.who_was_seen_outside_holds_nothing_older.Goals as goal

pub returns-clause-outside : goal.returns-clause-outside
returns-clause-outside c = watched_was_outside

pub returns-clause-empty : goal.returns-clause-empty
returns-clause-empty c = sections_begin_empty
