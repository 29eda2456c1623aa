use Rattle.std.proofs.Common.{◌≡◌, ◌≤◌, ◌<◌, ◌+◌, ◌*◌, ◌/◌, ◌^◌, ℕ, arith, subst, sym}
use Rattle.flat_model.specs.HostPages.{host_of}
use Rattle.flat_model.proofs.HostRuns.{levels_free, made_small}
use Rattle.flat_model.proofs.OwnedRuns.{run_ends}
use Rattle.flat_model.proofs.host_pages.HostPages.make_small.Goals as goal

pub set_levels-requires : goal.set_levels-requires
set_levels-requires c =
    let page = c.args.page in
    let small : page < 2 ^ 64 = omega arith in
    subst (λ (n : ℕ). page / n * n + n ≤ 2 ^ 64) (sym c.run_pages-count.ensures.pages) (run_ends c.entry_of-entry.result.level page small)

pub invariant_of-self-2 : goal.invariant_of-self-2
invariant_of-self-2 c =
    let count = c.run_pages-count.result in
    levels_free c.self.inside.sizes.pages (c.args.page / count * count) count 1 c.self.inside.changed.entries c.set_levels.new.changed.entries
    c.self.inside.free c.in_ok-set_levels.ensures.set c.self.invariant

pub returns-clause-sets : goal.returns-clause-sets
returns-clause-sets c =
    let before = c.self.inside.changed.entries in
    let entry = c.entry_of-entry.result in
    let is : entry ≡ host_of before c.args.page = rw (← c.self.view_is) at c.entry_of-entry.ensures in
    rw (← c.self.view_is) (made_small c.args.page c.run_pages-count.result entry before c.set_levels.new.changed.entries
    c.run_pages-count.ensures.pages is c.in_ok-set_levels.ensures.set)
