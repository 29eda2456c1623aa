use Rattle.std.proofs.Common.{ℕ, add-one, ap₂, ◌∙◌}
use Rattle.core_views.specs.Memory.{Memory, with_word}
use Rattle.flat_model.proofs.Words.{written}
use Rattle.flat_model.proofs.plain.Plain.copy_page.Goals as goal

pub loop-word-preserved : goal.loop-word-preserved
loop-word-preserved c =
    let page = c.args.page in
    let word = c.loop-word.word in
    let put = written page word c.content.result c.loop-word.image.entries c.insert.new.self.entries c.in_ok-insert.ensures.updates.0 in
    rw add-one ((λ i p w. put p w i)
    ∙ ap₂ (λ (x : ℕ) (image : Memory). with_word page word x image) c.content.ensures c.loop-word.invariant)
