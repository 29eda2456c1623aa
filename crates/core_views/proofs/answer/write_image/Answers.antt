use Rattle.std.proofs.Common.{◌++◌, rules, ◌∙◌, codes}
use Rattle.std.proofs.Output.{has_written_append}
use Rattle.core_views.specs.Text.{image_word_text}
use Rattle.core_views.proofs.Texts.{image_more}
use Rattle.core_views.proofs.answer.write_image.Goals as goal

pub loop-at-preserved : goal.loop-at-preserved
loop-at-preserved g c =
    let (done, whole, wrote) = c.loop-at.invariant in (
      done ++ (codes " " ++ image_word_text c.in-Some.at.now),
      image_more done c.in-Some.at.now c.in-Some.more.now c.loop-at.rest.now (search rules) ∙ whole,
      λ plain. has_written_append _ _ _ c.loop-at.f _ _ (wrote plain) (search rules),
    )
