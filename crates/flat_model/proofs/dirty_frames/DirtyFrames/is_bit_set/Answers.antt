use Rattle.std.proofs.Common.{◌∙◌, ◌<◌, arith}
use Rattle.core_views.specs.LogCommands.{count_asked}
use Rattle.flat_model.specs.Dirty.{is_dirty}
use Rattle.flat_model.proofs.LogWords.{bit_found, failed, passed}
use Rattle.flat_model.proofs.dirty_frames.DirtyFrames.is_bit_set.Goals as goal

pub returns-then-asks_for : goal.returns-then-asks_for
returns-then-asks_for c =
    let lt : c.args.bit < count_asked c.args.command.now c.args.slot.now.slot = omega (arith, c.count_asked.ensures) in
    rw (← c.self.view_is) (passed _ _ _ c.if-asks_for.true c.contains.ensures
    ∙ bit_found (is_dirty c.self.inside.frames.keys) c.args.command.now c.args.slot.now c.args.bit c.first_asked.result c.asks_for.result c.requires lt
    c.first_asked.ensures c.asks_for.ensures)

pub returns-else-asks_for : goal.returns-else-asks_for
returns-else-asks_for c =
    let lt : c.args.bit < count_asked c.args.command.now c.args.slot.now.slot = omega (arith, c.count_asked.ensures) in
    failed _ _ c.if-asks_for.false
    ∙ bit_found (is_dirty c.args.self.now) c.args.command.now c.args.slot.now c.args.bit c.first_asked.result c.asks_for.result c.requires lt
    c.first_asked.ensures c.asks_for.ensures
