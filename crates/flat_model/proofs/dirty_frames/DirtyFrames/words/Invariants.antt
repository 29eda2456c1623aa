use Rattle.std.proofs.Common.{◌≡◌, ◌+◌, ◌*◌, map}
use Rattle.std.specs.List.{range_with_len}
use Rattle.flat_model.specs.Dirty.{is_bit_set, is_dirty, word_of}
use Rattle.flat_model.proofs.dirty_frames.DirtyFrames.words.Given as goal

abbrev pub invariant-loop-word : goal.invariant-loop-word
invariant-loop-word l =
    l.words.items ≡ map (λ word. word_of (λ bit. is_bit_set (is_dirty l.self) l.command l.slot (64 * word + bit))) (range_with_len 0 l.word)
