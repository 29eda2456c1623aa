use Rattle.std.proofs.Common.{◌+◌, ◌*◌, ◌∙◌, ℕ, add-one, arith, ap}
use Rattle.flat_model.specs.Dirty.{is_bit_set, is_dirty}
use Rattle.flat_model.proofs.LogWords.{bit_of, bool_is, number_more, one_at_most, word_small, word_whole}
use Rattle.flat_model.proofs.dirty_frames.DirtyFrames.word.Goals as goal

pub overflow_mul-number : goal.overflow_mul-number
overflow_mul-number c = omega (arith, word_small _ _ _ c.loop-done-test.true c.loop-done.invariant)

pub overflow_add-number : goal.overflow_add-number
overflow_add-number c = omega (arith, word_small _ _ _ c.loop-done-test.true c.loop-done.invariant, c.from.ensures, one_at_most c.is_bit_set.result)

pub loop-done-preserved : goal.loop-done-preserved
loop-done-preserved c =
    let low = c.from.ensures ∙ bool_is c.is_bit_set.result ∙ ap bit_of c.is_bit_set.ensures in
    rw add-one (ap (λ (x : ℕ). 2 * c.loop-done.number + x) low
    ∙ number_more c.loop-done.done c.args.first c.loop-done.number (λ bit. is_bit_set (is_dirty c.args.self.now) c.args.command.now c.args.slot.now bit)
    c.loop-done-test.true c.loop-done.invariant)

pub returns : goal.returns
returns c = word_whole c.loop-done.done c.args.first c.loop-done.number (λ bit. is_bit_set (is_dirty c.args.self.now) c.args.command.now c.args.slot.now bit)
    (omega arith) c.loop-done.invariant
