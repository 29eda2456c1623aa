use Rattle.std.proofs.Common.{◌++◌, rules, ◌∙◌, codes, false, get_or}
use Rattle.std.proofs.Output.{has_written_append}
use Rattle.std.specs.Fmt.{digits}
use Rattle.core_views.proofs.Texts.{bits_more}
use Rattle.core_views.proofs.answer.write_bits.Goals as goal

pub words-preserved : goal.words-preserved
words-preserved g c =
    let (done, whole, wrote) = c.words.invariant in
    let word = get_or c.args.words.now c.words.word-index 0 in (
      done ++ (codes " 0x" ++ digits 16 false word),
      bits_more done c.args.words.now c.words.word-index (search rules) ∙ whole,
      λ plain. has_written_append _ _ _ c.words.f _ _ (wrote plain) (search rules),
    )
