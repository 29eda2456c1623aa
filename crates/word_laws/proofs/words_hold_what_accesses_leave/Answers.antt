use Rattle.std.proofs.Common.{◌∙◌}
use Rattle.word_laws.specs.Words.{ops_on}
use Rattle.word_laws.proofs.ExampleRun.{an_add_comes_between}
use Rattle.word_laws.proofs.Founds.{next_finds, own_found}
use Rattle.word_laws.proofs.WordOps.{left_after_all, left_by_adds}
use Rattle.word_laws.proofs.words_hold_what_accesses_leave.Goals as goal

pub returns-clause-left : goal.returns-clause-left
returns-clause-left c history f page word = left_after_all page word history f

pub returns-clause-adds : goal.returns-clause-adds
returns-clause-adds c history f page word below are =
    left_after_all page word history f ∙ left_by_adds (ops_on page word history f.facts) (f.facts.memory page word) below are

pub returns-clause-finds : goal.returns-clause-finds
returns-clause-finds c = next_finds

pub returns-clause-own : goal.returns-clause-own
returns-clause-own c = own_found

pub returns-clause-example : goal.returns-clause-example
returns-clause-example c = an_add_comes_between
