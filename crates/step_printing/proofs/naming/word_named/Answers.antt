use Rattle.std.proofs.Common.{◌≡◌, ◌++◌, ◌<◌, ◌≤◌, ℕ, List, ap, arith, subst, sym, ◌∙◌}
use Rattle.std.specs.Prelude.{string_bytes}
use Rattle.part_steps.specs.Tasks.{map_of}
use Rattle.spte_words.specs.Areas.{total}
use Rattle.step_text.specs.Names.{word_text}
use Rattle.step_printing.specs.Rows.{place_in}
use Rattle.step_printing.proofs.WordNames.{none_more, one_name, other_name}
use Rattle.step_printing.proofs.naming.word_named.Goals as goal

pub returns-then-eq : goal.returns-then-eq
returns-then-eq c =
    let z = c.args.sizes.now in
    let put = c.as_str.ensures.value ∙ c.in_ok-push_words.ensures ∙ ap (λ (xs : List ℕ). xs ++ word_text z c.place_in-place.result) c.clear.ensures.bytes in (
      c.loop-word.word,
      subst (λ n. c.loop-word.word < n) (c.total-word-end.ensures ∙ ap total c.map_of-map.ensures.is) c.loop-word-test.true,
      c.place_in-place.ensures ∙ ap (λ m. place_in m c.loop-word.word) c.map_of-map.ensures.is,
      sym put ∙ one_name c.as_str.result.now c.args.name.now c.eq.result c.eq.ensures c.if-eq.true,
    )

pub loop-word-preserved : goal.loop-word-preserved
loop-word-preserved c =
    let z = c.args.sizes.now in
    let put = c.as_str.ensures.value ∙ c.in_ok-push_words.ensures ∙ ap (λ (xs : List ℕ). xs ++ word_text z c.place_in-place.result) c.clear.ensures.bytes in
    let place = c.place_in-place.ensures ∙ ap (λ m. place_in m c.loop-word.word) c.map_of-map.ensures.is in
    none_more (λ k. word_text z (place_in (map_of z) k)) c.args.name.now c.loop-word.word c.loop-word.invariant
    (λ same. other_name c.as_str.result.now c.args.name.now c.eq.result c.eq.ensures c.if-eq.false (put ∙ ap (word_text z) place ∙ same))

pub returns : goal.returns
returns c = λ word low.
    let last = c.loop-word-test.false in
    let end_ = c.total-word-end.ensures ∙ ap total c.map_of-map.ensures.is in
    c.loop-word.invariant word (omega (arith, last, end_, low))
