use Rattle.mmu_core.proofs.invariant.PartRested.{reached_part_rests}
use Rattle.mmu_steps.proofs.parts.part_rests.Goals as goal

pub returns : goal.returns
returns c = reached_part_rests c.args.hand.now.core c.requires.reached
