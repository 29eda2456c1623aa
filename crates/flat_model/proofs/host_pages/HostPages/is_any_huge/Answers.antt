use Rattle.std.proofs.Common.{◌≡◌, ◌<◌, ◌≤◌, ◌∙◌, true, false, sym, arith, rules}
use Rattle.flat_model.specs.HostPages.{host_of}
use Rattle.flat_model.proofs.HostRuns.{huge_first, huge_found, huge_next, huge_nowhere}
use Rattle.flat_model.proofs.host_pages.HostPages.is_any_huge.Goals as goal

pub loop-done-init : goal.loop-done-init
loop-done-init c = huge_first c.args.first c.args.count (host_of c.args.self.now.changed)

pub returns-then-is_huge : goal.returns-then-is_huge
returns-then-is_huge c =
    let lt : c.loop-done.done < c.args.count = omega (arith, c.loop-done-test.true) in
    let is : c.is_huge.result ≡ true = search rules in
    huge_found c.args.first c.args.count c.loop-done.done (host_of c.args.self.now.changed) c.entry_of.result _ lt c.entry_of.ensures
    (sym c.is_huge.ensures ∙ is) c.loop-done.invariant

pub loop-done-preserved : goal.loop-done-preserved
loop-done-preserved c =
    let lt : c.loop-done.done < c.args.count = omega (arith, c.loop-done-test.true) in
    let is : c.is_huge.result ≡ false = search rules in
    huge_next c.args.first c.args.count c.loop-done.done (host_of c.args.self.now.changed) c.entry_of.result _ lt c.entry_of.ensures
    (sym c.is_huge.ensures ∙ is) c.loop-done.invariant

pub returns : goal.returns
returns c =
    let le : c.args.count ≤ c.loop-done.done = omega arith in
    huge_nowhere c.args.first c.args.count c.loop-done.done (host_of c.args.self.now.changed) _ le c.loop-done.invariant
