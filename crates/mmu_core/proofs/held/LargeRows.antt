-- The pages that the host maps as one with a page that their owner has looked at, while it invalidates none: their words are those of a row.
use Rattle.std.proofs.Common.{◌≡◌, ◌/◌, ◌<◌, ◌≤◌, ℕ, refl, sym, subst, ap, ◌∙◌, arith}
use Rattle.std.specs.Prelude.{true, false, Option, Some, None}
use Rattle.core_views.specs.declared.sizes.Sizes.{Sizes}
use Rattle.core_views.specs.declared.topics.HostLook.{HostLook}
use Rattle.core_views.specs.declared.topics.PageRun.{PageRun}
use Rattle.core_views.specs.Sizes.{AreSizes, actors_of}
use Rattle.spte_words.specs.declared.area.Area.TheVariants as area
use Rattle.spte_words.specs.Entries.{level_span}
use Rattle.spte_words.specs.HostWords.{host_level, host_present}
use Rattle.part_steps.specs.PageRuns.{IsOnRun, word_in_row}
use Rattle.mmu_core.specs.invariant.HostWordsPart.{owns_page}
use Rattle.mmu_core.specs.invariant.RunsPart.{IsOneRun, IsOwnRow}
use Rattle.mmu_core.specs.invariant.SearchPart.{IsOnPage}
use Rattle.mmu_core.specs.invariant.TopicsInvariant.{TopicsInvariant}
use Rattle.mmu_core.specs.machine.View.{View}
use Rattle.mmu_core.proofs.held.Invalidating.{NoneInvalidating}
use Rattle.mmu_core.proofs.held.OwnPages.{one_place_owns, owner_within}
use Rattle.mmu_core.proofs.held.RowRuns.{one_row_word}
use Rattle.mmu_core.proofs.words.HostStays.{level_low, still_present}

module _ (z : Sizes) (v : View) (a : ℕ) (sizes : AreSizes z) (I : TopicsInvariant z v) (there : a < actors_of z)
    (closed : (v.hand a).topics.invalidations.opened ≡ false) where
  abbrev host : ℕ → ℕ
  host = v.words area.Host

  -- Nobody is invalidating a page whose owner has no invalidation open.
  pub own_quiet : (page : ℕ) → owns_page z a page ≡ true → NoneInvalidating z v (IsOnPage page)
  own_quiet page owns j low U = by (v.hand j).topics.invalidations.own.pages refl U.of_it
    where
      by : (pages : Option PageRun) → (v.hand j).topics.invalidations.own.pages ≡ pages → IsOnRun page pages → ⊥
      by None at on = on
      by (Some other) at on =
          let same = one_place_owns z sizes j a page ((I.own_pages j other low U.opened at).owns page on) owns in
          let opened = subst (λ k. (v.hand k).topics.invalidations.opened ≡ true) same U.opened in
          cc (opened, closed)

  -- What is so of another page that the host maps as one with the page that was looked at.
  pub record IsInLarge (look : HostLook) (other : ℕ) : Type 0 where
    pub word : host other ≡ word_in_row look.word look.page other
    pub level : host_level (host other) ≡ host_level look.word
    pub present : host_present (host other) ≡ true
    pub owns : owns_page z a other ≡ true

  module _ (look : HostLook) (is : (v.hand a).topics.host ≡ Some look) (owner : owns_page z a look.page ≡ true) (several : 2 ≤ host_level look.word) where
    own_row : IsOwnRow z host a look (v.hand a).topics.row
    own_row = I.own_rows a look there is owner

    pub large_now : look.word ≡ host look.page
    large_now = still_present look.word (host look.page) (I.own_looks a look there is owner) (own_row.present several)

    pub in_large : (other : ℕ) → other / level_span (host_level look.word) ≡ look.page / level_span (host_level look.word) → IsInLarge look other
    in_large other on = record {
      word =
          one_row_word z (host_level look.word) host look.page other (omega (arith, several)) (omega (arith, most)) (I.hosts look.page within)
          (I.hosts other (owner_within z sizes a other owns)) here (one.present several) on one ∙ ap (λ w. word_in_row w look.page other) (sym large_now);
      level = one.same_level ∙ ap host_level (sym large_now);
      present = (one.present several);
      owns = owns;
    }
      where
        most : host_level look.word < 4
        most = level_low look.word

        within : look.page < z.pages
        within = owner_within z sizes a look.page owner

        owns : owns_page z a other ≡ true
        owns = own_row.owns other on

        here : host_present (host look.page) ≡ true
        here = ap host_present (sym large_now) ∙ own_row.present several

        one : IsOneRun (host_level look.word) host look.page other
        one =
            (I.runs look.page (host_level look.word) other within (own_quiet look.page owner) (omega (arith, several))
            (let same : host_level look.word ≡ host_level (host look.page) = ap host_level large_now in omega (arith, same)) on).1
