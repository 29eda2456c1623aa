use Rattle.mmu_core.proofs.invariant.PartRested.{may_make}
use Rattle.mmu_steps.proofs.parts.may_make.Goals as goal

pub returns : goal.returns
returns c = may_make c.args.hand.now.core c.args.step c.args.note c.requires.rests c.requires.idle c.requires.free c.requires.needs
