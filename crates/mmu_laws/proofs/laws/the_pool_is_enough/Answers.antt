use Rattle.mmu_laws.proofs.pool.Enough.{each_table_is_wanted, enough_pages, tables_are_for_their_spans}
use Rattle.mmu_laws.proofs.pool.NeedCounts.{need_is_counted, one_slot_needs_seven}
use Rattle.mmu_laws.proofs.laws.the_pool_is_enough.Goals as goal

pub returns-clause-wanted : goal.returns-clause-wanted
returns-clause-wanted c = each_table_is_wanted

pub returns-clause-enough : goal.returns-clause-enough
returns-clause-enough c = enough_pages

pub returns-clause-own_spans : goal.returns-clause-own_spans
returns-clause-own_spans c = tables_are_for_their_spans

pub returns-clause-counted : goal.returns-clause-counted
returns-clause-counted c = need_is_counted

pub returns-clause-seven : goal.returns-clause-seven
returns-clause-seven c = one_slot_needs_seven
