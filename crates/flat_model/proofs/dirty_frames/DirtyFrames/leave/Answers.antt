use Rattle.std.proofs.Common.{ℕ, not, rules}
use Rattle.std.proofs.lemmas.Fn.{filter_same}
use Rattle.flat_model.specs.Copying.{is_held}
use Rattle.flat_model.proofs.DirtySets.{left}
use Rattle.flat_model.proofs.dirty_frames.DirtyFrames.leave.Goals as goal

pub returns : goal.returns
returns c =
    let test = λ (gfn : ℕ). not (is_held c.args.slots.now gfn) in
    rw (← c.self.view_is, filter_same _ test _ (λ x b f' k. search rules) _ _ c.retain.ensures.filtered) (λ gfn. left test gfn c.self.inside.frames.keys)
