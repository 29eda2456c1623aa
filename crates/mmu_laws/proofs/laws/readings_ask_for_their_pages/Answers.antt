use Rattle.mmu_laws.proofs.forms.log.LogCommandLaws.{bad_ranges_are_refused, clears_ask_for_named, gets_ask_for_all, readings_are_of_logs}
use Rattle.mmu_laws.proofs.laws.readings_ask_for_their_pages.Goals as goal

pub returns-clause-gets : goal.returns-clause-gets
returns-clause-gets c = gets_ask_for_all

pub returns-clause-clears : goal.returns-clause-clears
returns-clause-clears c = clears_ask_for_named

pub returns-clause-refused : goal.returns-clause-refused
returns-clause-refused c = bad_ranges_are_refused

pub returns-clause-logs : goal.returns-clause-logs
returns-clause-logs c = readings_are_of_logs
