use Rattle.std.proofs.Common.{◌≡◌, ◌∙◌, true, false, sym, rules}
use Rattle.core_views.specs.HostRuns.{is_aligned, is_any_huge}
use Rattle.flat_model.specs.HostPages.{host_of}
use Rattle.flat_model.proofs.HostRuns.{kept_huge, kept_unaligned, levels_free, made_huge}
use Rattle.flat_model.proofs.host_pages.HostPages.make_huge.Goals as goal

pub returns-then-is_any_huge-clause-sets : goal.returns-then-is_any_huge-clause-sets
returns-then-is_any_huge-clause-sets c =
    let huge : c.is_any_huge.result ≡ true = search rules in
    kept_huge c.args.page c.args.level c.run_pages-count.result c.args.self.now.changed c.run_pages-count.ensures.pages (sym c.is_any_huge.ensures ∙ huge)

pub returns-then-not-is_aligned-clause-sets : goal.returns-then-not-is_aligned-clause-sets
returns-then-not-is_aligned-clause-sets c =
    let huge : c.is_any_huge.result ≡ false = search rules in
    let aligned : c.is_aligned.result ≡ false = search rules in
    kept_unaligned c.args.page c.args.level c.run_pages-count.result c.args.self.now.changed c.run_pages-count.ensures.pages
    (sym c.is_any_huge.ensures ∙ huge) (sym c.is_aligned.ensures ∙ aligned)

pub invariant_of-self-2 : goal.invariant_of-self-2
invariant_of-self-2 c =
    levels_free c.self.inside.sizes.pages c.args.page c.run_pages-count.result c.args.level c.self.inside.changed.entries
    c.set_levels.new.changed.entries c.self.inside.free c.in_ok-set_levels.ensures.set c.self.invariant

pub returns-clause-sets : goal.returns-clause-sets
returns-clause-sets c =
    let before = c.self.inside.changed.entries in
    let count = c.run_pages-count.result in
    let huge : c.is_any_huge.result ≡ false = search rules in
    let aligned : c.is_aligned.result ≡ true = search rules in
    let looked : c.is_any_huge.result ≡ is_any_huge (host_of before) c.args.page count = rw (← c.self.view_is) at c.is_any_huge.ensures in
    let like : c.is_aligned.result ≡ is_aligned (host_of before) c.args.page c.args.level = rw (← c.self.view_is) at c.is_aligned.ensures in
    rw (← c.self.view_is) (made_huge c.args.page c.args.level count before c.run_pages-count.ensures.pages c.set_levels.new.changed.entries
    (sym looked ∙ huge) (sym like ∙ aligned) c.in_ok-set_levels.ensures.set)
