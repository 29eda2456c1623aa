use Rattle.std.proofs.Common.{◌≡◌, ◌<◌, ◌≤◌, ◌∙◌, true, false, sym, arith, rules}
use Rattle.flat_model.specs.HostPages.{host_of}
use Rattle.flat_model.proofs.HostRuns.{row_broken, row_first, row_next, row_whole}
use Rattle.flat_model.proofs.host_pages.HostPages.are_in_a_row.Goals as goal

pub loop-done-init : goal.loop-done-init
loop-done-init c = row_first c.args.page c.args.count c.args.first.frame (host_of c.args.self.now.changed) c.args.first.writable

pub returns-then-not-continues : goal.returns-then-not-continues
returns-then-not-continues c =
    let lt : c.loop-done.done < c.args.count = omega (arith, c.loop-done-test.true) in
    let is : c.continues.result ≡ false = search rules in
    row_broken c.args.page c.args.count c.loop-done.done (host_of c.args.self.now.changed) c.entry_of-entry.result _ c.args.first.frame
    c.args.first.writable lt c.entry_of-entry.ensures (sym c.continues.ensures ∙ is) c.loop-done.invariant

pub loop-done-preserved : goal.loop-done-preserved
loop-done-preserved c =
    let lt : c.loop-done.done < c.args.count = omega (arith, c.loop-done-test.true) in
    let is : c.continues.result ≡ true = search rules in
    row_next c.args.page c.args.count c.loop-done.done (host_of c.args.self.now.changed) c.entry_of-entry.result _ c.args.first.frame
    c.args.first.writable lt c.entry_of-entry.ensures (sym c.continues.ensures ∙ is) c.loop-done.invariant

pub returns : goal.returns
returns c =
    let le : c.args.count ≤ c.loop-done.done = omega arith in
    row_whole c.args.page c.args.count c.loop-done.done (host_of c.args.self.now.changed) c.args.first.frame c.args.first.writable _ le
    c.loop-done.invariant
