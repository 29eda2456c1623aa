use Rattle.std.proofs.Common.{◌≡◌, ◌<◌, ◌+◌, ◌++◌, ◌∷◌, [], ℕ, List, length, take, drop, string_bytes, arith, rules, refl, sym, ap, subst, ◌∙◌}
use Rattle.std.proofs.Common.{append-nil, append_assoc}
use Rattle.std.proofs.Math.ListN.{replicate}
use Rattle.std.proofs.lemmas.List.{length-set, take_at}
use Rattle.std.proofs.lemmas.Option.{slice_get_read}
use Rattle.std.specs.Prelude.{Some, slice_get, slice_index}
use Rattle.core_views.specs.declared.trace.Line.{Line}
use Rattle.core_views.specs.Sizes.{actors_of, index_of}
use Rattle.core_views.specs.Text.{line_text, lines_text}
use Rattle.core_views.proofs.Texts.{lines_text_append}
use Rattle.closing_text.specs.ByLine.{IsAnswerAt, IsToPut}
use Rattle.closing_text.proofs.ByLine.{ArePut, all_put, line_at, none_put, put_more, to_put, with_one}
use Rattle.closing_text.proofs.by_line.push_by_line.Goals as goal

pub loop-line-init : goal.loop-line-init
loop-line-init c =
    let none : c.in_ok-put.put.items ≡ replicate (actors_of c.args.sizes.now) 0 = search rules in (
      [],
      none_put c.args.sizes.now c.args.lines.now c.args.hands.now c.in_ok-put.put.items c.requires.answered none,
      sym (append-nil (string_bytes c.args.text.now)),
    )

pub push_next-requires-clause-left : goal.push_next-requires-clause-left
push_next-requires-clause-left c =
    let z = c.args.sizes.now in
    let lines = c.args.lines.now in
    let hands = c.args.hands.now in
    let (answers, so_far, text) = c.loop-line.invariant in
    let line : Line = c.line-item.result in
    let lt : c.loop-line.line-index < length lines = omega (arith, c.loop-line-test.true) in
    let at : slice_get lines c.loop-line.line-index ≡ Some line = slice_get_read lines (length lines) c.loop-line.line-index line refl lt c.line-item.is in
    let is = line_at z lines hands c.loop-line.line-index line c.requires.answered at in
    let same : c.deref_mut.result.now ≡ c.loop-line.put.items = search rules in
    subst (λ (put : List ℕ). IsToPut hands put (index_of z line.actor)) (sym same)
    (to_put z lines hands c.loop-line.line-index c.loop-line.put.items answers line c.requires.answered is so_far)

pub loop-line-preserved : goal.loop-line-preserved
loop-line-preserved c =
    let z = c.args.sizes.now in
    let lines = c.args.lines.now in
    let hands = c.args.hands.now in
    let done = c.loop-line.line-index in
    let items : List ℕ = c.loop-line.put.items in
    let old = string_bytes c.args.text.now in
    let (answers, so_far, text) = c.loop-line.invariant in
    let (told, answer, added) = c.in_ok-push_next.ensures.text in
    let line : Line = c.line-item.result in
    let lt : done < length lines = omega (arith, c.loop-line-test.true) in
    let at : slice_get lines done ≡ Some line = slice_get_read lines (length lines) done line refl lt c.line-item.is in
    let same : c.deref_mut.result.now ≡ items = search rules in
    let put : c.push_next.new.put ≡ with_one items (index_of z line.actor) =
    c.in_ok-push_next.ensures.put ∙ ap (λ (xs : List ℕ). with_one xs (index_of z line.actor)) same in
    let count : length c.push_next.new.put ≡ c.loop-line.put.len =
    ap length put ∙ length-set items (index_of z line.actor) (slice_index items (index_of z line.actor) + 1) ∙ sym c.loop-line.put.ok.0 in
    let whole : take c.loop-line.put.len (c.push_next.new.put ++ drop (length c.push_next.new.put) items) ≡ with_one items (index_of z line.actor) =
    take_at c.push_next.new.put (drop (length c.push_next.new.put) items) c.loop-line.put.len count ∙ put in
    let told_text : List ℕ = line_text told.number told.actor told.answer in (
      answers ++ told ∷ [],
      subst (λ (xs : List ℕ). ArePut z lines hands (done + 1) xs (answers ++ told ∷ [])) (sym whole)
          (put_more z lines hands done items answers line told c.requires.answered (line_at z lines hands done line c.requires.answered at) so_far
          (subst (λ (xs : List ℕ). IsAnswerAt hands xs (index_of z line.actor) told) same answer)),
      added ∙ ap (λ (t : List ℕ). t ++ told_text) text ∙ append_assoc old (lines_text answers) told_text
          ∙ ap (λ (t : List ℕ). old ++ t) (ap (λ (t : List ℕ). lines_text answers ++ t) (sym (append-nil told_text))
          ∙ sym (lines_text_append answers (told ∷ []))),
    )

pub returns : goal.returns
returns c =
    let (answers, so_far, text) = c.loop-line.invariant in (
      answers,
      all_put c.args.sizes.now c.args.lines.now c.args.hands.now c.loop-line.line-index c.loop-line.put.items answers c.requires.answered
          c.loop-line-test.false so_far,
      text,
    )
