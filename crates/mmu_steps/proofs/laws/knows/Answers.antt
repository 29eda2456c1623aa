use Rattle.mmu_core.proofs.lines.KnowsStay.{reached_knows}
use Rattle.mmu_steps.proofs.laws.knows.Goals as goal

pub returns : goal.returns
returns c = reached_knows c.args.hand.now.core c.requires.reached c.requires.left
