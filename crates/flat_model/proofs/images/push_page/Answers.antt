use Rattle.std.proofs.Common.{◌≡◌, ◌==◌, ◌++◌, ◌∷◌, [], ℕ, not, true, false, rules, ap, sym, ◌∙◌}
use Rattle.core_views.specs.declared.migration.ImageWord.{ImageWord}
use Rattle.flat_model.specs.Kept.{memory_of}
use Rattle.flat_model.proofs.Held.{printed_next, skipped_next}
use Rattle.flat_model.proofs.images.push_page.Goals as goal
use Rattle.flat_model.proofs.images.push_page.Goals.{then-value-ne0+in_ok-push, else-value-ne0}

pub loop-word-preserved : goal.loop-word-preserved
loop-word-preserved c =
    let content = memory_of c.args.image.now.entries c.args.host_page in
    let at : ℕ → ℕ → ImageWord = λ word value. record { id = c.args.place.0; page = c.args.place.1; word = word; value = value } in
    let f : ℕ → ImageWord = λ word. at word (content word) in
    let word = c.loop-word.word in
    let before = c.loop-word.found.items in
    let value_is : c.unwrap_or-value.result ≡ content word = search rules in
    elim c.if-value-ne0.branch [
      | then-value-ne0+in_ok-push w ↦
          let items : c.if-value-ne0.found.items ≡ before ++ at word c.unwrap_or-value.result ∷ [] = search rules in
          let there : not (c.unwrap_or-value.result == 0) ≡ true = search rules in
          printed_next f word c.args.found.now.items before _ c.loop-word.invariant (ap (λ (x : ℕ). not (x == 0)) (sym value_is) ∙ there)
          (items ∙ ap (λ (x : ℕ). before ++ at word x ∷ []) value_is)
      | else-value-ne0 w ↦
          let items : c.if-value-ne0.found.items ≡ before = search rules in
          let none : not (c.unwrap_or-value.result == 0) ≡ false = search rules in
          skipped_next f word c.args.found.now.items before _ c.loop-word.invariant (ap (λ (x : ℕ). not (x == 0)) (sym value_is) ∙ none) items
    ]
