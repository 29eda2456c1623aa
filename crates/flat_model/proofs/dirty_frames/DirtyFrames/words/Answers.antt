use Rattle.std.proofs.Common.{◌+◌, ◌*◌, ◌/◌, ◌∙◌, ◌++◌, [], ◌∷◌, ℕ, List, map, arith, ap, sym}
use Rattle.std.specs.List.{range_with_len}
use Rattle.std.proofs.lemmas.List.FromFn.{map-range_with_len_more}
use Rattle.flat_model.specs.Dirty.{is_bit_set, is_dirty, word_of}
use Rattle.flat_model.proofs.LogWords.{words_whole}
use Rattle.flat_model.proofs.dirty_frames.DirtyFrames.words.Goals as goal

pub loop-word-preserved : goal.loop-word-preserved
loop-word-preserved c =
    let word = λ (n : ℕ). word_of (λ bit. is_bit_set (is_dirty c.args.self.now) c.args.command.now c.args.slot.now (64 * n + bit)) in
    c.in_ok-push.ensures.items ∙ ap (λ (xs : List ℕ). xs ++ c.word.result ∷ []) c.loop-word.invariant
    ∙ ap (λ (x : ℕ). map word (range_with_len 0 c.loop-word.word) ++ x ∷ []) c.word.ensures
    ∙ sym (map-range_with_len_more word 0 c.loop-word.word c.loop-word.word (omega arith))

pub returns : goal.returns
returns c =
    c.from_vec.ensures ∙ c.loop-word.invariant
    ∙ words_whole (is_dirty c.args.self.now) c.args.command.now c.args.slot.now c.loop-word.word
    (omega (arith, ap (λ (n : ℕ). (n + 63) / 64) c.count_asked.ensures))
