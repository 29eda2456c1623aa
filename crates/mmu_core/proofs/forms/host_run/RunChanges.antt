-- What a line knows of the host pages that it changes, whose invalidation is open: of those of a run of several, or of one.
use Rattle.std.proofs.lemmas.Bool.Decides.{nat_tests}
use Rattle.std.proofs.Common.{◌≡◌, ◌≤◌, ℕ, true, refl, sym, subst, ap, ◌∙◌, arith}
use Rattle.std.specs.Option.{IfSome}
use Rattle.std.specs.Prelude.{nat_lt, Option, Some, None}
use Rattle.core_views.specs.declared.topics.HostLook.{HostLook}
use Rattle.core_views.specs.declared.topics.PageRun.{PageRun}
use Rattle.core_views.specs.declared.trace.RunChange.{RunChange}
use Rattle.core_views.specs.declared.trace.RunChange.TheVariants.{Huge, Small}
use Rattle.core_views.specs.Held.{Held}
use Rattle.spte_words.specs.HostWords.{host_level}
use Rattle.spte_words.proofs.Spans.{span_positive}
use Rattle.part_steps.specs.InvalidationRange.{run_of_target}
use Rattle.part_steps.specs.PageRuns.{is_several, run_looked, run_of}
use Rattle.mmu_core.specs.forms.host_run.HostRunKnows.{ChangesPages, ChangesRun, HasLookedAtAll}
use Rattle.mmu_core.specs.forms.host_run.HostRunSteps.{run_target}
use Rattle.mmu_core.proofs.forms.host_run.RunLooks.{RunSeen, Large, One, Several, large_looked, level_most, look_of, run_seen_at}
use Rattle.mmu_core.proofs.forms.host_run.RunTargets.{aimed_looked, run_is_aimed, several_looked}
use Rattle.mmu_core.proofs.orders.RunsAimed.{lowest_looked, one_looked}

same_level : {a b : ℕ} → Huge a ≡ Huge b → a ≡ b
same_level e = cc e

module _ (page : ℕ) (g : Held) where
  abbrev pages : Option PageRun
  pages = g.topics.invalidations.own.pages

  -- A run of several pages is to change.
  several_change : (change : RunChange) (run : PageRun) → pages ≡ Some run → ChangesRun page change run → ChangesPages (is_several pages) page change g
  several_change change run is C =
      let many : nat_lt 1 run.level ≡ true = above run.level C.level.0 in
      subst (λ b. ChangesPages b page change g) (sym (ap is_several is ∙ many)) (subst (λ (o : Option PageRun). IfSome o (ChangesRun page change)) (sym is) C)
    where
      above : (level : ℕ) → 2 ≤ level → nat_lt 1 level ≡ true
      above level more = grind (arith, nat_tests)

  seen_change : (change : RunChange) (look : HostLook) → g.topics.host ≡ Some look → look.page ≡ page → HasLookedAtAll page change g
      → RunSeen look g.topics.row change → pages ≡ Some (run_looked look g.topics.row) → ChangesPages (is_several pages) page change g
  seen_change _ look host at L (Large large) is =
      let row = g.topics.row in
      let level : ℕ = host_level look.word in
      let level_is = large_looked look row large in
      let from : 2 ≤ level = grind (arith, nat_tests) in
      let most = level_most look.word in
      several_change Small (record { first = look.page; level = level; word = look.word; changed = 0 })
      (is ∙ ap Some (several_looked look row (ap (λ l. nat_lt 1 l) level_is ∙ large)
      ∙ ap (λ l. record { first = look.page; level = l; word = look.word; changed = 0 }) level_is)) (record {
        level = (from, most);
        first = at;
        left = span_positive level (omega (arith, from)) (omega (arith, most));
        huge = λ l e. absurd (cc e);
        small = λ e. refl;
      })
  seen_change _ look host at L (Several level from most level_is small begins) is =
      let row = g.topics.row in
      let many : nat_lt 1 level ≡ true = grind (arith, nat_tests) in
      several_change (Huge level) (record { first = look.page; level = level; word = look.word; changed = 0 })
      (is ∙ ap Some (several_looked look row (ap (λ l. nat_lt 1 l) level_is ∙ many)
      ∙ ap (λ l. record { first = look.page; level = l; word = look.word; changed = 0 }) level_is)) (record {
        level = (from, most);
        first = at;
        left = span_positive level (omega (arith, from)) (omega (arith, most));
        huge = λ l e. (same_level e, small);
        small = λ e. absurd (cc e);
      })
  seen_change _ look host at L (One small alone) is =
      let one = is ∙ ap Some (one_looked look g.topics.row (lowest_looked look g.topics.row alone small) ∙ ap run_of at) in
      subst (λ b. ChangesPages b page Small g) (sym (ap is_several one)) (record {
        is = one;
        looks = record { own_ = L.looks.own_; looked = L.looks.looked; at = L.looks.at; alone = alone };
        asked = refl;
      })

  -- So are the pages of the run that was looked at, for which the invalidation is.
  pub pages_to_change : (change : RunChange) → HasLookedAtAll page change g → g.topics.owned ≡ None
      → pages ≡ run_of_target (run_target page g.topics) → ChangesPages (is_several pages) page change g
  pages_to_change change L none is =
      let O = look_of page g L.looks.looked L.looks.at in
      seen_change change O.0 O.1 O.2 L (run_seen_at page change g O.0 O.1 L)
      (is ∙ (sym (run_is_aimed page g L.looks.looked L.looks.at none).0 ∙ aimed_looked g O.0 none O.1))
