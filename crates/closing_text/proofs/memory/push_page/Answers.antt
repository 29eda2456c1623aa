use Rattle.std.proofs.Common.{◌≡◌, ◌==◌, ◌++◌, ℕ, not, true, false, codes, string_bytes, rules, ap, sym, ◌∙◌}
use Rattle.core_views.specs.declared.migration.ImageWord.{ImageWord}
use Rattle.core_views.specs.Text.{image_word_text}
use Rattle.closing_text.specs.MemoryText.{content_in}
use Rattle.closing_text.proofs.ImageTexts.{word_left, word_put}
use Rattle.closing_text.proofs.memory.push_page.Goals as goal
use Rattle.closing_text.proofs.memory.push_page.Goals.{then-value-ne0+in_ok-push_word, else-value-ne0}

pub loop-word-preserved : goal.loop-word-preserved
loop-word-preserved c =
    let content : ℕ → ℕ = content_in c.args.sizes.now c.args.words.now c.frame_of-frame.result in
    let at : ℕ → ℕ → ImageWord = λ word value. record { id = c.args.place.0; page = c.args.place.1; word = word; value = value } in
    let f : ℕ → ImageWord = λ word. at word (content word) in
    let word = c.loop-word.word in
    let start = string_bytes c.args.text.now in
    let before = string_bytes c.loop-word.text in
    let after = string_bytes c.if-value-ne0.text in
    let value_is : c.content-value.result ≡ content word = c.content-value.ensures in
    elim c.if-value-ne0.branch [
      | then-value-ne0+in_ok-push_word w ↦
          let put : after ≡ before ++ (codes " " ++ image_word_text (at word c.content-value.result)) = search rules in
          let there : not (c.content-value.result == 0) ≡ true = search rules in
          word_put f word start before after c.loop-word.invariant (ap (λ (x : ℕ). not (x == 0)) (sym value_is) ∙ there)
          (put ∙ ap (λ (x : ℕ). before ++ (codes " " ++ image_word_text (at word x))) value_is)
      | else-value-ne0 w ↦
          let same : after ≡ before = search rules in
          let none : not (c.content-value.result == 0) ≡ false = search rules in
          word_left f word start before after c.loop-word.invariant (ap (λ (x : ℕ). not (x == 0)) (sym value_is) ∙ none) same
    ]
