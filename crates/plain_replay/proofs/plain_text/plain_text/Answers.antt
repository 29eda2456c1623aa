use Rattle.std.proofs.Common.{◌≡◌, ◌+◌, ◌++◌, ◌∷◌, ℕ, List, drop, string_bytes, sym, ap, subst, ◌∙◌, append_assoc, rules}
use Rattle.std.proofs.lemmas.List.{append-nil, drop_more}
use Rattle.core_views.specs.declared.answer.Answer.{Answer}
use Rattle.core_views.specs.declared.sizes.Sizes.{Sizes}
use Rattle.core_views.specs.declared.trace.Line.{Line}
use Rattle.core_views.specs.Flat.{Facts}
use Rattle.core_views.specs.Events.{facts_after_all}
use Rattle.core_views.specs.FlatHistory.{alone, flat_history, one_by_one}
use Rattle.core_views.specs.Text.{line_text, lines_text, text}
use Rattle.core_views.proofs.Texts.{text_append}
use Rattle.flat_model.specs.Kept.{GivesLine, facts_of}
use Rattle.plain_replay.proofs.plain_text.plain_text.Goals as goal

-- A line's answer is printed, and the lines after it are yet to be run.
goes_on : (z : Sizes) (line : Line) (rest : List Line) (f g : Facts) (answer : Answer) (before after printed total : List ℕ)
    → GivesLine z line f g answer → printed ≡ line_text line.number line.actor answer
    → after ≡ before ++ printed → before ++ text (one_by_one z (line ∷ rest) f) ≡ total → after ++ text (one_by_one z rest g) ≡ total
goes_on z line rest f g answer before after printed total gives is more so_far =
    let alone_prints : text (alone z line f) ≡ printed = ap lines_text gives.tells ∙ append-nil (line_text line.number line.actor answer) ∙ sym is in
    let then_ : text (one_by_one z (line ∷ rest) f) ≡ printed ++ text (one_by_one z rest g) =
    text_append (alone z line f) (one_by_one z rest (facts_after_all (alone z line f) f))
    ∙ ap (λ (t : List ℕ). t ++ text (one_by_one z rest (facts_after_all (alone z line f) f))) alone_prints
    ∙ ap (λ (h : Facts). printed ++ text (one_by_one z rest h)) (sym gives.leads) in
    ap (λ (t : List ℕ). t ++ text (one_by_one z rest g)) more ∙ append_assoc before printed (text (one_by_one z rest g))
    ∙ ap (λ (t : List ℕ). before ++ t) (sym then_) ∙ so_far

pub loop-line-preserved : goal.loop-line-preserved
loop-line-preserved c =
    let z : Sizes = c.loop-line.plain.sizes in
    let lines : List Line = c.as_slice-lines.result.now in
    let i : ℕ = c.loop-line.line-index in
    let facts : Facts = facts_of c.loop-line.plain in
    let before : List ℕ = string_bytes c.loop-line.text in
    let line : Line = c.line-item.result in
    let front : drop i lines ≡ line ∷ drop (i + 1) lines =
    drop_more lines i line c.loop-line-test.true ∙ ap (λ (first : Line). first ∷ drop (i + 1) lines) (sym c.line-item.is) in
    let so_far = ap (λ (ls : List Line). before ++ text (one_by_one z ls facts)) (sym front) ∙ c.loop-line.invariant.so_far in
    record {
      so_far =
          subst (λ (sizes : Sizes). string_bytes c.push_str.new.self ++ text (one_by_one sizes (drop (i + 1) lines) (facts_of c.line.new.self))
          ≡ text (flat_history c.args.trace.now)) (sym c.in_ok-answer.ensures.sizes)
          (goes_on z line (drop (i + 1) lines) facts (facts_of c.line.new.self) c.in_ok-answer.answer before _
          (string_bytes c.in_ok-answer_line.field-0) _ c.in_ok-answer.ensures.gives c.in_ok-answer_line.ensures (search rules) so_far);
      same = search rules;
      sizes = search rules;
    }
