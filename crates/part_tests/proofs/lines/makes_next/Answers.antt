use Rattle.std.proofs.Common.{subst}
use Rattle.part_steps.specs.PartSteps.{PartNeeds}
use Rattle.part_tests.proofs.NextSteps.{step_needs}
use Rattle.part_tests.proofs.lines.makes_next.Goals as goal

pub returns-in-Some : goal.returns-in-Some
returns-in-Some c = λ same.
    subst (λ s. PartNeeds s c.args.hand.now.core) (c.is_same.ensures same)
    (step_needs _ _ c.args.hand.now.core c.in-Some.next c.requires.rests.at c.in-Some.ensures.step)
