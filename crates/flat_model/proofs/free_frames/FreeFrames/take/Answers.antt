use Rattle.std.proofs.Common.{◌<◌, sym}
use Rattle.std.specs.BTreeMap.{is_at}
use Rattle.std.specs.Ordering.{nat_cmp}
use Rattle.std.proofs.lemmas.Map.Views.{All-remove_key}
use Rattle.flat_model.proofs.Frames.{given_up_below, taken_of_given}
use Rattle.flat_model.proofs.free_frames.FreeFrames.take.Goals as goal

pub invariant_of-self-else-not-remove : goal.invariant_of-self-else-not-remove
invariant_of-self-else-not-remove c = rw c.remove.ensures.keys
    (All-remove_key (is_at (nat_cmp c.args.frame)) (λ x. x < c.self.inside.unused) _ c.self.invariant)

pub returns-else-not-remove : goal.returns-else-not-remove
returns-else-not-remove c =
    let below : c.args.frame < c.self.inside.unused = given_up_below c.args.frame c.self.inside.unused _ c.self.invariant (sym c.if-not-remove.ensures.test) in
    rw (← c.self.view_is) (λ other. taken_of_given c.args.frame c.self.inside.unused other _ _ (c.remove.ensures.updates.0 other) below)
