use Rattle.flat_model.proofs.DirtySets.{undone_if}
use Rattle.flat_model.proofs.dirty_frames.DirtyFrames.add.Goals as goal

pub returns-clause-undone : goal.returns-clause-undone
returns-clause-undone c =
    rw (← c.self.view_is) (undone_if c.in_ok-insert.field-0 c.args.gfn c.self.inside.frames.keys c.insert.new.self.keys c.in_ok-insert.ensures.added
    c.in_ok-insert.ensures.keys)
