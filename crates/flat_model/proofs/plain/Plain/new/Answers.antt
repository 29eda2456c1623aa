use Rattle.std.proofs.Common.{◌≡◌, [], ap, rules, arith}
use Rattle.flat_model.proofs.SameFacts.{start_facts}
use Rattle.core_views.specs.declared.sizes.Sizes.{Sizes}
use Rattle.flat_model.proofs.plain.Plain.new.Goals as goal

pub invariant_of-result : goal.invariant_of-result
invariant_of-result c = rw c.at_start.ensures (omega arith, search rules, omega (arith, ap (λ (s : Sizes). s.words) c.of.ensures))

pub returns-clause-start : goal.returns-clause-start
returns-clause-start c =
    let changed : c.at_start.result.changed ≡ [] = search rules in
    let words : c.new.result.entries ≡ [] = search rules in
    start_facts c.at_start.result.sizes c.empty.result c.at_start.result.changed c.new.result.entries c.none.result c.none-2.result
    c.empty.ensures changed words c.none.ensures c.none-2.ensures
