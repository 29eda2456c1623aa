use Rattle.std.proofs.Common.{◌∙◌, arith}
use Rattle.manager_twins.proofs.FirstDirty.{first_is, lowest_from, lowest_later, none_from, none_is}
use Rattle.manager_twins.proofs.dirty_pages.first_dirty.Goals as goal

pub returns-then-rest-ne0 : goal.returns-then-rest-ne0
returns-then-rest-ne0 c =
    let L = lowest_from c.args.words.now c.args.from c.word_at.result c.word_at.ensures c.word_at.type_inv c.if-rest-ne0.true in
    c.below.ensures ∙ first_is c.args.words.now c.args.from c.args.count _ L.low L.set L.none

pub loop-at-init : goal.loop-at-init
loop-at-init c = none_from c.args.words.now c.args.from c.word_at.result c.word_at.ensures c.if-rest-ne0.false

pub returns-then-word-ne0 : goal.returns-then-word-ne0
returns-then-word-ne0 c =
    let from = c.loop-at.auto.at in
    let L = lowest_later c.args.words.now c.args.from c.loop-at.at c.word_at-word.result (omega (arith, from)) c.loop-at.invariant c.word_at-word.ensures
    c.word_at-word.type_inv c.if-word-ne0.true in
    c.below-then-word-ne0.ensures ∙ first_is c.args.words.now c.args.from c.args.count _ L.low L.set L.none

pub returns : goal.returns
returns c =
    let past = c.loop-at-test.false in
    let end_ = c.div_ceil-at-end.ensures in
    none_is c.args.words.now c.args.from c.args.count (λ page low high. c.loop-at.invariant page low (omega (arith, past, end_, high)))
