use Rattle.std.proofs.Common.{◌&&◌, ◌-◌, ◌∙◌, ℕ, not, rules}
use Rattle.std.proofs.lemmas.Fn.{filter_same}
use Rattle.core_views.specs.LogCommands.{asks_for}
use Rattle.core_views.specs.Slots.{contains}
use Rattle.flat_model.proofs.DirtySets.{left, left_of_asked}
use Rattle.flat_model.proofs.dirty_frames.DirtyFrames.take_out.Goals as goal

pub returns : goal.returns
returns c =
    let slot = c.args.slot.now in
    let test = λ (gfn : ℕ). not (contains gfn slot.slot && asks_for c.args.command.now (gfn - slot.slot.base)) in
    rw (← c.self.view_is, filter_same _ test _ (λ x b f' k. search rules) _ _ c.retain.ensures.filtered)
    (λ gfn. left test gfn c.self.inside.frames.keys ∙ left_of_asked c.self.inside.frames.keys c.args.command.now slot gfn)
