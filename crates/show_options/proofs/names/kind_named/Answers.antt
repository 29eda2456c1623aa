use Rattle.std.proofs.Common.{ℕ, List, ap, refl, sym, ◌∙◌}
use Rattle.std.specs.Str.{bytes_eq}
use Rattle.trace_reader.specs.Items.{kind_number}
use Rattle.show_options.proofs.KindNames.{found, passed}
use Rattle.show_options.proofs.names.kind_named.Goals as goal

pub loop-before-init : goal.loop-before-init
unfolding kind_number
loop-before-init c = refl

pub returns-then-eq : goal.returns-then-eq
returns-then-eq c =
    let w = c.args.word.now in
    let is = ap (λ (n : List ℕ). bytes_eq w n) (sym c.kind_name.ensures) ∙ sym c.eq.ensures ∙ c.if-eq.true in
    sym (found c.loop-before.before w c.loop-before-test.true is) ∙ c.loop-before.invariant

pub loop-before-preserved : goal.loop-before-preserved
loop-before-preserved c =
    let w = c.args.word.now in
    let not_ = ap (λ (n : List ℕ). bytes_eq w n) (sym c.kind_name.ensures) ∙ sym c.eq.ensures ∙ c.if-eq.false in
    sym (passed c.loop-before.before w c.loop-before-test.true not_) ∙ c.loop-before.invariant
