use Rattle.mmu_core.proofs.start.Starts.{reached_rests}
use Rattle.mmu_steps.proofs.laws.rests.Goals as goal

pub returns : goal.returns
returns c = reached_rests c.args.hand.now.core c.requires.reached c.requires.left
