use Rattle.std.proofs.Common.{◌||◌, ℕ, not, rules}
use Rattle.std.proofs.lemmas.Fn.{filter_same}
use Rattle.core_views.specs.Past.{has_gfn}
use Rattle.flat_model.proofs.DirtySets.{left}
use Rattle.flat_model.proofs.dirty_frames.DirtyFrames.forget.Goals as goal

pub returns : goal.returns
returns c =
    let test = λ (gfn : ℕ). not (has_gfn c.args.was.now gfn || has_gfn c.args.now.now gfn) in
    rw (← c.self.view_is, filter_same _ test _ (λ x b f' k. search rules) _ _ c.retain.ensures.filtered) (λ gfn. left test gfn c.self.inside.frames.keys)
