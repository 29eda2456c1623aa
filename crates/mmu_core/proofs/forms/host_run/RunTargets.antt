-- What a line invalidates that sets a run of host pages: the run that it looked at, whose pages are its own; and which page it looks at next.
use Rattle.std.proofs.lemmas.Bool.Decides.{nat_tests}
use Rattle.std.proofs.Common.{◌≡◌, ◌+◌, ◌-◌, ◌*◌, ◌/◌, ◌%◌, ◌<◌, ◌≤◌, ℕ, Bool, true, false, refl, sym, subst, ap, ◌∙◌, arith}
use Rattle.std.specs.Prelude.{nat_lt, if◌then◌else◌, Option, Some, None, is_some}
use Rattle.core_views.specs.declared.topics.HostLook.{HostLook}
use Rattle.core_views.specs.declared.topics.HostRow.{HostRow}
use Rattle.core_views.specs.declared.topics.OwnedPage.{OwnedPage}
use Rattle.core_views.specs.declared.topics.PageRun.{PageRun}
use Rattle.core_views.specs.declared.topics.Topics.{Topics}
use Rattle.core_views.specs.declared.trace.RunChange.{RunChange}
use Rattle.core_views.specs.declared.trace.RunChange.TheVariants.{Huge, Small}
use Rattle.core_views.specs.Held.{Held}
use Rattle.core_views.specs.HostChanges.{is_own}
use Rattle.core_views.specs.HostRuns.{owns_run, run_count, run_first, run_pages}
use Rattle.spte_words.specs.Entries.{level_span}
use Rattle.spte_words.specs.HostWords.{host_level}
use Rattle.spte_words.proofs.Spans.{span_2, span_3}
use Rattle.part_steps.specs.declared.invalidations.Target.{Target}
use Rattle.part_steps.specs.declared.invalidations.Target.TheVariants as aim
use Rattle.part_steps.specs.InvalidationHoldings.{OpensOnOwnPages}
use Rattle.part_steps.specs.InvalidationRange.{HasSeveral, IsAimed, IsSmall, page_looked, run_aimed, run_of_look, run_of_target}
use Rattle.part_steps.specs.PageRuns.{IsOnRun, level_looked, run_looked, run_of}
use Rattle.part_steps.specs.PartBounds.{PartRests}
use Rattle.part_steps.specs.PartTasks.{word_looked}
use Rattle.mmu_core.specs.forms.host.HostSteps.{entry_of, maps_large}
use Rattle.mmu_core.specs.forms.host_run.HostRunKnows.{HasLookedAtAll, LooksAtRun, looks_wanted}
use Rattle.mmu_core.specs.forms.host_run.HostRunSteps.{other_page, page_after, run_target, target_looked}
use Rattle.mmu_core.proofs.forms.host_run.RunLooks.{RunSeen, Large, One, Several, each_several, huge_own, large_looked, level_most, look_of}
use Rattle.mmu_core.proofs.forms.host_run.RunLooks.{run_seen_at, small_count}
use Rattle.mmu_core.proofs.held.PageRuns.{this_page}
use Rattle.mmu_core.proofs.lines.EitherPlace.{either_place}
use Rattle.mmu_core.proofs.orders.RunsAimed.{LeavesLooks, lowest_looked, one_looked}

-- ---- the target

-- The run of several pages that was looked at, and the one page.
pub several_looked : (look : HostLook) (row : HostRow) → nat_lt 1 (level_looked look row) ≡ true
    → run_looked look row ≡ record { first = look.page; level = level_looked look row; word = look.word; changed = 0 }
several_looked look row several =
    ap (λ (b : Bool). if b then record { first = look.page; level = level_looked look row; word = look.word; changed = 0 } else run_of look.page) several

page_alone : (look : HostLook) (row : HostRow) → nat_lt 1 (level_looked look row) ≡ false → run_looked look row ≡ run_of look.page
page_alone look row one =
    ap (λ (b : Bool). if b then record { first = look.page; level = level_looked look row; word = look.word; changed = 0 } else run_of look.page) one

target_is : (page : ℕ) (look : HostLook) (row : HostRow) (b : Bool) → nat_lt 1 (level_looked look row) ≡ b → look.page ≡ page
    → (Some (run_looked look row) ≡ run_of_target (if b then aim.Run (run_looked look row) else aim.Page page))
    × HasSeveral (if b then aim.Run (run_looked look row) else aim.Page page)
target_is page look row true is at =
    let more : 2 ≤ level_looked look row = grind (arith, nat_tests) in
    (refl, subst (λ (run : PageRun). 2 ≤ run.level) (sym (several_looked look row is)) more)
target_is page look row false is at = (ap Some (page_alone look row is ∙ ap run_of at), tt)

-- What it may change is the run that it looked at.
pub aimed_looked : (h : Held) (look : HostLook) → h.topics.owned ≡ None → h.topics.host ≡ Some look → run_aimed h.topics ≡ Some (run_looked look h.topics.row)
aimed_looked h look none is =
    ap (λ (o : Option OwnedPage). if is_some o then None else run_of_look h.topics.host h.topics.row) none
    ∙ ap (λ (o : Option HostLook). run_of_look o h.topics.row) is

-- So it invalidates this.
pub run_is_aimed : (page : ℕ) (h : Held) → is_some h.topics.host ≡ true → page_looked h.topics.host ≡ page → h.topics.owned ≡ None
    → IsAimed (run_target page h.topics) h.topics
run_is_aimed page h some at none =
    let O = look_of page h some at in
    let T = target_is page O.0 h.topics.row (nat_lt 1 (level_looked O.0 h.topics.row)) refl O.2 in
    subst (λ (target : Target). (run_aimed h.topics ≡ run_of_target target) × HasSeveral target)
    (ap (λ (o : Option HostLook). target_looked page o h.topics.row) (sym O.1)) (aimed_looked h O.0 none O.1 ∙ T.0, T.1)

-- It is a run, or a page.
pub each_target : (P : Target → Type 0) (page : ℕ) (t : Topics) → ((run : PageRun) → P (aim.Run run)) → P (aim.Page page) → P (run_target page t)
each_target P page t of_run of_page = by t.host
  where
    by : (o : Option HostLook) → P (target_looked page o t.row)
    by None = of_page
    by (Some look) =
        either_place P (nat_lt 1 (level_looked look t.row)) (aim.Run (run_looked look t.row)) (aim.Page page) (of_run (run_looked look t.row)) of_page

pub target_is_small : (page : ℕ) (t : Topics) → IsSmall (run_target page t)
target_is_small page t = each_target IsSmall page t (λ run. tt) tt

-- Its invalidation is of host pages.
pub target_has_pages : (page : ℕ) (t : Topics) → is_some (run_of_target (run_target page t)) ≡ true
target_has_pages page t = each_target (λ target. is_some (run_of_target target) ≡ true) page t (λ run. refl) refl

-- It stays the same while what was seen does.
pub same_target : (page : ℕ) (t u : Topics) → LeavesLooks t u → run_target page t ≡ run_target page u
same_target page t u L = ap (λ (o : Option HostLook). target_looked page o t.row) (sym L.host) ∙ by u.host
  where
    by : (o : Option HostLook) → target_looked page o t.row ≡ target_looked page o u.row
    by None = refl
    by (Some look) = λ i. target_by look (sym L.looked i) (sym L.alike i)
      where
        target_by : HostLook → ℕ → Bool → Target
        target_by look looked alike = target_looked page (Some look) (record { looked = looked; alike = alike; start = 0; end = 0 })

-- ---- its pages are its own

-- The pages of an aligned run, from its first page on.
row_within : (level first other : ℕ) → 2 ≤ level → level ≤ 3 → first % level_span level ≡ 0 → other / level_span level ≡ first / level_span level
    → (first ≤ other) × (other ≤ first + (run_pages level - 1))
row_within level first other =
    each_several (λ l. first % level_span l ≡ 0 → other / level_span l ≡ first / level_span l → (first ≤ other) × (other ≤ first + (run_pages l - 1)))
    (λ begins on. within_two (subst (λ s. first % s ≡ 0) span_2 begins) (subst (λ s. other / s ≡ first / s) span_2 on))
    (λ begins on. within_three (subst (λ s. first % s ≡ 0) span_3 begins) (subst (λ s. other / s ≡ first / s) span_3 on)) level
  where
    within_two : first % 512 ≡ 0 → other / 512 ≡ first / 512 → (first ≤ other) × (other ≤ first + 511)
    within_two begins on = (omega (arith, begins, on), omega (arith, begins, on))

    within_three : first % 262144 ≡ 0 → other / 262144 ≡ first / 262144 → (first ≤ other) × (other ≤ first + 262143)
    within_three begins on = (omega (arith, begins, on), omega (arith, begins, on))

module _ (page : ℕ) (change : RunChange) (h : Held) (R : PartRests h) (L : HasLookedAtAll page change h) (none : h.topics.owned ≡ None) where
  abbrev own_page : ℕ → Type 0
  own_page other = is_own h.state.sizes h.state.actor other ≡ true

  seen_own : (c : RunChange) (look : HostLook) → h.topics.host ≡ Some look → look.page ≡ page → owns_run h.state.sizes h.state.actor page c ≡ true
      → RunSeen look h.topics.row c → (other : ℕ) → IsOnRun other (Some (run_looked look h.topics.row)) → own_page other
  seen_own _ look is at own_ (Large large) other on =
      let several = ap (λ l. nat_lt 1 l) (large_looked look h.topics.row large) ∙ large in
      let run = several_looked look h.topics.row several
      ∙ ap (λ l. record { first = look.page; level = l; word = look.word; changed = 0 }) (large_looked look h.topics.row large) in
      R.large look is (subst own_page (sym at) own_) other (subst (λ (r : PageRun). IsOnRun other (Some r)) run on)
  seen_own _ look is at own_ (Several level from most level_is small begins) other on =
      let more : nat_lt 1 level ≡ true = grind (arith, nat_tests) in
      let run = several_looked look h.topics.row (ap (λ l. nat_lt 1 l) level_is ∙ more)
      ∙ ap (λ l. record { first = look.page; level = l; word = look.word; changed = 0 }) level_is in
      let W = row_within level look.page other from most begins (subst (λ (r : PageRun). IsOnRun other (Some r)) run on) in
      huge_own h.state.sizes h.state.actor page level other own_ (subst (λ p. p ≤ other) at W.0)
      (subst (λ p. other ≤ p + (run_pages level - 1)) at W.1)
  seen_own _ look is at own_ (One small alone) other on =
      let run = one_looked look h.topics.row (lowest_looked look h.topics.row alone small) ∙ ap run_of at in
      subst own_page (sym (this_page other page (subst (λ (r : PageRun). IsOnRun other (Some r)) run on))) own_

  pub run_opens_own : OpensOnOwnPages h
  run_opens_own closed run other aimed on =
      let O = look_of page h L.looks.looked L.looks.at in
      seen_own change O.0 O.1 O.2 L.looks.own_ (run_seen_at page change h O.0 O.1 L) other
      (subst (IsOnRun other) (sym aimed ∙ aimed_looked h O.0 none O.1) on)

-- ---- the next look

-- The page that is looked at next lies in the run.
other_within : (first page looked count : ℕ) → 1 ≤ looked → looked < count → first ≤ page → page < first + count
    → (first ≤ other_page first page looked) × (other_page first page looked < first + count)
other_within first page looked count some few from to = by (nat_lt (first + (looked - 1)) page) refl
  where
    by : (b : Bool) → nat_lt (first + (looked - 1)) page ≡ b
        → (first ≤ (if b then first + (looked - 1) else first + looked)) × ((if b then first + (looked - 1) else first + looked) < first + count)
    by true is = (omega arith, omega (arith, few))
    by false is = (omega arith, omega (arith, few))

-- So it is its own: in the run that is to be large, or in that of the large page.
large_within : (level page other : ℕ) → 2 ≤ level → level ≤ 3 → page / run_pages level * run_pages level ≤ other
    → other < page / run_pages level * run_pages level + run_pages level → other / level_span level ≡ page / level_span level
large_within level page other =
    each_several (λ l. page / run_pages l * run_pages l ≤ other → other < page / run_pages l * run_pages l + run_pages l
    → other / level_span l ≡ page / level_span l)
    (λ from to. subst (λ s. other / s ≡ page / s) (sym span_2) (two from to)) (λ from to. subst (λ s. other / s ≡ page / s) (sym span_3) (three from to)) level
  where
    two : page / 512 * 512 ≤ other → other < page / 512 * 512 + 512 → other / 512 ≡ page / 512
    two from to = omega (arith, from, to)

    three : page / 262144 * 262144 ≤ other → other < page / 262144 * 262144 + 262144 → other / 262144 ≡ page / 262144
    three from to = omega (arith, from, to)

large_begins : (level page : ℕ) → 2 ≤ level → level ≤ 3
    → (page / run_pages level * run_pages level ≤ page) × (page < page / run_pages level * run_pages level + run_pages level)
large_begins level page =
    each_several (λ l. (page / run_pages l * run_pages l ≤ page) × (page < page / run_pages l * run_pages l + run_pages l)) (two page) (three page) level
  where
    two : (n : ℕ) → (n / 512 * 512 ≤ n) × (n < n / 512 * 512 + 512)
    two n = (omega arith, omega arith)

    three : (n : ℕ) → (n / 262144 * 262144 ≤ n) × (n < n / 262144 * 262144 + 262144)
    three n = (omega arith, omega arith)

module _ (page : ℕ) (h : Held) (R : PartRests h) where
  next_in : (change : RunChange) (look : HostLook) → h.topics.host ≡ Some look → look.page ≡ page → owns_run h.state.sizes h.state.actor page change ≡ true
      → 1 ≤ h.topics.row.looked → h.topics.row.looked < run_count change (entry_of look.word)
      → is_own h.state.sizes h.state.actor (other_page (run_first change page (entry_of look.word)) page h.topics.row.looked) ≡ true
  next_in (Huge level) look is at own_ some few =
      let W = other_within page page h.topics.row.looked (run_pages level) some few (omega arith) (omega (arith, few)) in
      huge_own h.state.sizes h.state.actor page level (other_page page page h.topics.row.looked) own_ W.0 (let to = W.1 in omega (arith, to))
  next_in Small look is at own_ some few = by (maps_large look.word) refl
    where
      by : (b : Bool) → maps_large look.word ≡ b
          → is_own h.state.sizes h.state.actor (other_page (run_first Small page (entry_of look.word)) page h.topics.row.looked) ≡ true
      by true large =
          let level : ℕ = host_level look.word in
          let from : 2 ≤ level = grind (arith, nat_tests) in
          let most = level_most look.word in
          let B = large_begins level page from most in
          let W = other_within (run_first Small page (entry_of look.word)) page h.topics.row.looked (run_pages level) some few B.0 B.1 in
          let next : ℕ = other_page (run_first Small page (entry_of look.word)) page h.topics.row.looked in
          R.large look is (subst (λ p. is_own h.state.sizes h.state.actor p ≡ true) (sym at) own_) next
          (large_within level page next from most W.0 W.1 ∙ ap (λ p. p / level_span level) (sym at))
      by false small = absurd (let one = small_count (host_level look.word) small in omega (arith, some, few, one))

  pub next_own : (change : RunChange) → LooksAtRun page change h → h.topics.row.looked < looks_wanted change h.topics
      → is_own h.state.sizes h.state.actor (page_after page change h.topics) ≡ true
  next_own change L few =
      let O = look_of page h L.looked L.at in
      subst (λ (o : Option HostLook). is_own h.state.sizes h.state.actor
      (other_page (run_first change page (entry_of (word_looked o))) page h.topics.row.looked) ≡ true) (sym O.1)
      (next_in change O.0 O.1 O.2 L.own_ L.some
      (subst (λ (o : Option HostLook). h.topics.row.looked < run_count change (entry_of (word_looked o))) O.1 few))
