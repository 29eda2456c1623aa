use Rattle.std.proofs.Common.{◌<◌}
use Rattle.std.specs.Ordering.{nat_cmp}
use Rattle.std.proofs.lemmas.Map.Views.{All-insert_key}
use Rattle.flat_model.proofs.free_frames.FreeFrames.give.Goals as goal

pub invariant_of-self-2 : goal.invariant_of-self-2
invariant_of-self-2 c = rw c.in_ok-insert.ensures.keys (All-insert_key nat_cmp c.args.frame (λ x. x < c.self.inside.unused) _ c.self.invariant
    (rw (← c.self.view_is) at c.requires))
