use Rattle.std.proofs.Common.{◌≡◌, ◌+◌, ◌∙◌, ℕ, Option, true, unwrap_or, ap, ap₂, arith, sym}
use Rattle.std.proofs.lemmas.Option.{unwrap_or-slice_get}
use Rattle.core_views.specs.declared.actor.Actor.{Actor}
use Rattle.core_views.specs.declared.trace.RunChange.{RunChange}
use Rattle.core_views.specs.HostRuns.{owns_run}
use Rattle.core_views.specs.Sizes.{first_page_in, is_threads}
use Rattle.flat_model.proofs.OwnedRuns.{nobodys, owned}
use Rattle.flat_model.proofs.host_pages.owns_run.Goals as goal

pub returns-in_default-clause-owns : goal.returns-in_default-clause-owns
returns-in_default-clause-owns c = nobodys c.args.sizes.now c.args.actor c.args.page c.args.change c.in_default.not-Host

pub returns-then-owns-clause-owns : goal.returns-then-owns-clause-owns
returns-then-owns-clause-owns c =
    let z = c.args.sizes.now in
    let host = c.in-Host.host in
    let end_is : c.unwrap_or-end.result ≡ first_page_in z.first_pages z.pages (host + 1) =
    c.unwrap_or-end.ensures ∙ ap (λ (o : Option ℕ). unwrap_or o z.pages) c.copied.ensures ∙ c.get.ensures.lookup.4 (omega arith) z.pages
    ∙ sym (unwrap_or-slice_get z.first_pages (host + 1) z.pages) in
    let own : is_threads z host c.args.page ≡ true = sym c.owns.ensures ∙ c.if-owns.true in
    owned z host c.args.page c.unwrap_or-end.result c.run_pages.result c.in-Huge.level end_is c.run_pages.ensures.pages c.run_pages.ensures.some own
    ∙ sym (ap₂ (λ (actor : Actor) (change : RunChange). owns_run z actor c.args.page change) c.in-Host.is c.in-Huge.is)
