use Rattle.mmu_core.proofs.held.Scanned.{claims_scan_once, claims_see_each_word}
use Rattle.table_pool.proofs.laws.a_scan_saw_each_word_empty.Goals as goal

pub returns-clause-each : goal.returns-clause-each
returns-clause-each c = claims_see_each_word

pub returns-clause-once : goal.returns-clause-once
returns-clause-once c = claims_scan_once
