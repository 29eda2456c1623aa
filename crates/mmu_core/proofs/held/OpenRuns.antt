-- The invalidation of host pages that an actor opens is of pages of its own, none of which is part of a larger run; and where it is of several, they have
-- the words that it has seen.
use Rattle.std.proofs.Common.{◌≡◌, ◌/◌, ◌%◌, ◌<◌, ◌≤◌, ℕ, refl, sym, subst, ap, ◌∙◌, arith}
use Rattle.std.specs.Prelude.{Bool, true, false, if◌then◌else◌, nat_lt, Some, is_some}
use Rattle.std.proofs.lemmas.Bool.Decides.{nat_tests}
use Rattle.core_views.specs.declared.sizes.Sizes.{Sizes}
use Rattle.core_views.specs.declared.topics.HostLook.{HostLook}
use Rattle.core_views.specs.declared.topics.Invalidated.{Invalidated}
use Rattle.core_views.specs.declared.topics.PageRun.{PageRun}
use Rattle.core_views.specs.declared.topics.Topics.{Topics}
use Rattle.core_views.specs.HostChanges.{is_own}
use Rattle.core_views.specs.Sizes.{index_of}
use Rattle.spte_words.specs.declared.area.Area.TheVariants as area
use Rattle.spte_words.specs.Entries.{level_span}
use Rattle.spte_words.specs.HostWords.{host_frame, host_level, host_present}
use Rattle.part_steps.specs.declared.part_step.PartStep.TheVariants as part
use Rattle.part_steps.specs.InvalidationHoldings.{MayOpen}
use Rattle.part_steps.specs.InvalidationRange.{run_aimed}
use Rattle.part_steps.specs.PageRuns.{IsOnRun, level_looked, page_next, run_looked, run_of, word_given, word_in_row, word_seen}
use Rattle.mmu_core.specs.invariant.HostWordsPart.{owns_page}
use Rattle.mmu_core.specs.invariant.RunsPart.{IsChanging, IsOfOwnPages, IsOwnRow}
use Rattle.mmu_core.specs.invariant.TopicsInvariant.{TopicsInvariant}
use Rattle.mmu_core.specs.machine.View.{View}
use Rattle.mmu_core.proofs.held.OwnPages.{own_page}
use Rattle.mmu_core.proofs.held.LargeRows.{IsInLarge, in_large}
use Rattle.mmu_core.proofs.held.OwnRowsKept.{further_level, further_present}
use Rattle.mmu_core.proofs.held.PageRuns.{this_page}
use Rattle.mmu_core.proofs.held.RowRuns.{IsWholeRow, LevelLooked, aimed_look, level_bounds, level_told, row_word, whole_row}
use Rattle.mmu_core.proofs.held.RowRuns.LevelLooked.{Large, One, Several}
use Rattle.mmu_core.proofs.machine.PartStepping.{IsPart}
use Rattle.mmu_core.proofs.words.HostStays.{still_level}
use Rattle.mmu_core.proofs.words.RunSpans.{on_run}

module _ (z : Sizes) (v : View) (a count : ℕ) (S : IsPart z v a (part.SetCount count)) (I : TopicsInvariant z v)
    (closed : (v.hand a).topics.invalidations.opened ≡ false) (M : MayOpen (v.hand a).topics) (run : PageRun)
    (is : (v.hand a).topics.invalidations.own.pages ≡ Some run) where
  abbrev t : Topics
  t = (v.hand a).topics

  abbrev host : ℕ → ℕ
  host = v.words area.Host

  aimed : run_aimed t ≡ Some run
  aimed = M.opening.aimed.0 ∙ (sym (ap (λ (n : Invalidated). n.pages) M.own_) ∙ is)

  abbrev found : (look : HostLook) × (t.host ≡ Some look) × (run ≡ run_looked look t.row)
  found = aimed_look (is_some t.owned) t.host t.row run aimed

  abbrev look : HostLook
  look = found.0

  opened_owns : (page : ℕ) → IsOnRun page (Some run) → owns_page z a page ≡ true
  opened_owns page on =
      own_page z a page (v.hand a).state.actor
      (subst (λ (y : Sizes). is_own y (v.hand a).state.actor page ≡ true) S.sizes (S.needs.1 closed run page aimed on))
      (subst (λ (y : Sizes). index_of y (v.hand a).state.actor ≡ a) S.sizes S.own_place)

  -- What is so of the run, where it is told how it is looked at.
  pub record IsOpened : Type 0 where
    pub own_pages : IsOfOwnPages z host a run
    pub changing : 2 ≤ run.level → IsChanging host run

  -- of a run of several pages, from the words that they have
  of_several : run ≡ record { first = look.page; level = level_looked look t.row; word = look.word; changed = 0 }
      → (1 ≤ level_looked look t.row) × (level_looked look t.row ≤ 3)
      → ((page : ℕ) → IsOnRun page (Some run) → (host page ≡ word_in_row look.word look.page page) × (host_level (host page) ≤ level_looked look t.row)
      × (2 ≤ level_looked look t.row → host_present (host page) ≡ true))
      → (host_level look.word ≡ 1
      → (look.page % level_span (level_looked look t.row) ≡ 0) × (host_frame look.word % level_span (level_looked look t.row) ≡ 0)) → IsOpened
  of_several told bounds words begins = record {
    own_pages = record {
      level = subst (λ (r : PageRun). (1 ≤ r.level) × (r.level ≤ 3)) (sym told) bounds;
      owns = opened_owns;
      most = λ page on. subst (λ (r : PageRun). host_level (host page) ≤ r.level) (sym told) (words page on).1;
    };
    changing = λ several. record {
      few = let none : run.changed ≡ 0 = ap (λ (r : PageRun). r.changed) told in omega (arith, none);
      present = λ page on.
          ap host_present (sym (seen page) ∙ sym (words page on).0)
          ∙ (words page on).2 (subst (λ (r : PageRun). 2 ≤ r.level) told several);
      begins =
          subst (λ (r : PageRun). host_level r.word ≡ 1 → (r.first % level_span r.level ≡ 0) × (host_frame r.word % level_span r.level ≡ 0)) (sym told)
          begins;
      words = λ page on. (words page on).0 ∙ (seen page ∙ sym (unchanged page on several));
    };
  }
    where
      seen : (page : ℕ) → word_in_row look.word look.page page ≡ word_seen run page
      seen page = ap (λ (r : PageRun). word_seen r page) (sym told)

      unchanged : (page : ℕ) → IsOnRun page (Some run) → 2 ≤ run.level
          → (if nat_lt page (page_next run) then word_given run page else word_seen run page) ≡ word_seen run page
      unchanged page on several =
          let none : run.changed ≡ 0 = ap (λ (r : PageRun). r.changed) told in
          let most : run.level ≤ 3 = ap_le (ap (λ (r : PageRun). r.level) told) bounds.1 in
          let low = (on_run run page (omega (arith, several)) (omega (arith, most)) on).0 in
          let not_before : nat_lt page (page_next run) ≡ false = (let le : page_next run ≤ page = omega (arith, low, none) in grind (arith, nat_tests)) in
          ap (λ (b : Bool). if b then word_given run page else word_seen run page) not_before
        where
          ap_le : {x y n : ℕ} → x ≡ y → y ≤ n → x ≤ n
          ap_le same le = omega (arith, same, le)

  several_told : 1 < level_looked look t.row → run ≡ record { first = look.page; level = level_looked look t.row; word = look.word; changed = 0 }
  several_told more =
      found.2 ∙ ap (λ (b : Bool). if b then record { first = look.page; level = level_looked look t.row; word = look.word; changed = 0 } else run_of look.page)
      (let test : nat_lt 1 (level_looked look t.row) ≡ true = grind (arith, nat_tests) in test)

  on_told : (page : ℕ) (several : 1 < level_looked look t.row) → IsOnRun page (Some run)
      → page / level_span (level_looked look t.row) ≡ look.page / level_span (level_looked look t.row)
  on_told page several on =
      subst (λ (r : PageRun). page / level_span r.level ≡ r.first / level_span r.level) (several_told several) on

  itself : (several : 1 < level_looked look t.row) → owns_page z a look.page ≡ true
  itself several =
      opened_owns look.page (subst (λ (r : PageRun). look.page / level_span r.level ≡ r.first / level_span r.level) (sym (several_told several)) refl)

  of_large : 1 < host_level look.word → level_looked look t.row ≡ host_level look.word → IsOpened
  of_large more level = of_several (several_told several) bounds words (λ one. absurd (omega (arith, one, more)))
    where
      several : 1 < level_looked look t.row
      several = omega (arith, level, more)

      bounds : (1 ≤ level_looked look t.row) × (level_looked look t.row ≤ 3)
      bounds = level_bounds look t.row (Large more level)

      owner : owns_page z a look.page ≡ true
      owner = itself several

      words : (page : ℕ) → IsOnRun page (Some run) → (host page ≡ word_in_row look.word look.page page) × (host_level (host page) ≤ level_looked look t.row)
          × (2 ≤ level_looked look t.row → host_present (host page) ≡ true)
      words page on =
          let L : IsInLarge z v a S.is_sizes I S.there closed look page =
          in_large z v a S.is_sizes I S.there closed look found.1 owner (omega (arith, more)) page
          (subst (λ l. page / level_span l ≡ look.page / level_span l) level (on_told page several on)) in
          (L.word, (let same = L.level in omega (arith, same, level)), λ _. L.present)

  of_row : (level : ℕ) → 2 ≤ level → level ≤ 3 → host_level look.word ≤ 1 → IsWholeRow level look t.row → level_looked look t.row ≡ level → IsOpened
  of_row level from to small W told = of_several (several_told several) (omega (arith, told, from), omega (arith, told, to)) words
      (λ one. subst (λ l. (look.page % level_span l ≡ 0) × (host_frame look.word % level_span l ≡ 0)) (sym told) (W.begins, W.frame_begins))
    where
      several : 1 < level_looked look t.row
      several = omega (arith, told, from)

      own_row : IsOwnRow z host a look t.row
      own_row = I.own_rows a look S.there found.1 (itself several)

      words : (page : ℕ) → IsOnRun page (Some run) → (host page ≡ word_in_row look.word look.page page) × (host_level (host page) ≤ level_looked look t.row)
          × (2 ≤ level_looked look t.row → host_present (host page) ≡ true)
      words page on =
          let at = subst (λ l. page / level_span l ≡ look.page / level_span l) told (on_told page several on) in
          let R = row_word z host a level page look t.row (omega (arith, from)) (omega (arith, to)) W own_row at (opened_owns page on) in (
            R.2,
            (let same : host_level (host page) ≡ host_level look.word = ap host_level R.1 ∙ further_level look.word R.0 in
                omega (arith, same, small, told, from)),
            λ _. ap host_present R.1 ∙ (further_present look.word R.0 ∙ W.present),
          )

  of_one : host_level look.word ≤ 1 → level_looked look t.row ≡ 1 → IsOpened
  of_one small told = record {
    own_pages = record {
      level = subst (λ (r : PageRun). (1 ≤ r.level) × (r.level ≤ 3)) (sym single) (omega arith, omega arith);
      owns = opened_owns;
      most = λ page on. subst (λ (r : PageRun). host_level (host page) ≤ r.level) (sym single) (most page on);
    };
    changing = λ several. absurd (let one : run.level ≡ 1 = ap (λ (r : PageRun). r.level) single in omega (arith, one, several));
  }
    where
      single : run ≡ run_of look.page
      single =
          found.2
          ∙ ap (λ (b : Bool). if b then record { first = look.page; level = level_looked look t.row; word = look.word; changed = 0 } else run_of look.page)
          (let test : nat_lt 1 (level_looked look t.row) ≡ false = grind (arith, nat_tests) in test)

      most : (page : ℕ) → IsOnRun page (Some run) → host_level (host page) ≤ 1
      most page on =
          let same : page ≡ look.page = this_page page look.page (subst (λ (r : PageRun). IsOnRun page (Some r)) single on) in
          let owner = subst (λ p. owns_page z a p ≡ true) same (opened_owns page on) in
          let level = still_level look.word (host look.page) (I.own_looks a look S.there found.1 owner) in
          let here : host_level (host page) ≡ host_level (host look.page) = ap (λ p. host_level (host p)) same in
          omega (arith, here, level, small)

  pub is_opened : IsOpened
  is_opened = by (level_told look t.row)
    where
      by : LevelLooked look t.row → IsOpened
      by (Large more level) = of_large more level
      by (Several level from to small row told) = of_row level from to small (whole_row level look t.row row) told
      by (One small told) = of_one small told
