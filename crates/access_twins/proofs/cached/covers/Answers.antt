use Rattle.mmu_core.proofs.forms.access.CachedKept.{covers_not}
use Rattle.access_twins.proofs.cached.covers.Goals as goal

pub returns-then-translation-eq1 : goal.returns-then-translation-eq1
returns-then-translation-eq1 c = covers_not c.args.gfn c.args.translation.now c.if-translation-eq1.true c.if-gfn-translation.false
