use Rattle.mmu_laws.proofs.flat.EveryAnswer.{answers_are_told, ends_whole}
use Rattle.mmu_laws.proofs.flat.WholeSoFar.{stays_whole}
use Rattle.mmu_laws.proofs.laws.every_answer_is_told.Goals as goal

pub returns-clause-answers : goal.returns-clause-answers
returns-clause-answers c = answers_are_told

pub returns-clause-whole : goal.returns-clause-whole
returns-clause-whole c = ends_whole

pub returns-clause-so_far : goal.returns-clause-so_far
returns-clause-so_far c = stays_whole
