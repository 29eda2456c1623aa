use Rattle.mmu_laws.proofs.turns.FewSteps.{few_steps}
use Rattle.mmu_laws.proofs.turns.StepsCounted.{counts_fit, steps_counted_on}
use Rattle.mmu_laws.proofs.laws.steps_are_bounded.Goals as goal

pub returns-clause-bounded : goal.returns-clause-bounded
returns-clause-bounded c = counts_fit

pub returns-clause-counted : goal.returns-clause-counted
returns-clause-counted c = steps_counted_on

pub returns-clause-few : goal.returns-clause-few
returns-clause-few c = few_steps
