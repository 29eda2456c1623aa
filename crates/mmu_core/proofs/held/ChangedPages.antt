-- A run of host pages all of which are changed: they are mapped alike, one after the other.
use Rattle.std.proofs.Common.{◌≡◌, ◌⊎◌, inl, inr, ◌+◌, ◌-◌, ◌/◌, ◌%◌, ◌^◌, ◌<◌, ◌≤◌, ℕ, refl, sym, subst, ap, ◌∙◌, arith}
use Rattle.std.specs.Prelude.{Bool, true, false, ◌==◌, if◌then◌else◌, nat_lt, Some}
use Rattle.std.proofs.lemmas.Bool.{cases_lt}
use Rattle.std.proofs.lemmas.Bool.Decides.{nat_tests}
use Rattle.core_views.specs.declared.sizes.Sizes.{Sizes}
use Rattle.core_views.specs.declared.topics.PageRun.{PageRun}
use Rattle.core_views.specs.Sizes.{AreSizes}
use Rattle.spte_words.specs.Entries.{level_span}
use Rattle.spte_words.specs.HostWords.{host_allows_write, host_frame, host_level, host_present}
use Rattle.spte_words.proofs.ReadsHost.{host_has_frame, host_has_level, host_is_present, host_is_writable}
use Rattle.part_steps.specs.PageRuns.{IsOnRun, level_put, page_next, run_start, word_given, word_in_row, word_seen}
use Rattle.mmu_core.specs.invariant.RunsPart.{HasOwnerOf, IsChanging, IsInRun, IsOfOwnPages, IsOneRun}
use Rattle.mmu_core.proofs.held.OwnPages.{one_place_owns, owner_within}
use Rattle.mmu_core.proofs.held.PageRuns.{one_alone}
use Rattle.mmu_core.proofs.machine.Columns.{same_or}
use Rattle.mmu_core.proofs.words.HostStays.{put_low}
use Rattle.mmu_core.proofs.words.RunSpans.{as_far, begins_narrower, in_wider, on_run, one_span}
use Rattle.mmu_core.specs.invariant.HostWordsPart.{owns_page}
use Rattle.std.proofs.Math.Nat.{mod-le}

pub run_or_not : (run : PageRun) (page : ℕ) → IsOnRun page (Some run) ⊎ (IsOnRun page (Some run) → ⊥)
run_or_not run page = same_or (page / level_span run.level) (run.first / level_span run.level)

pub single_or_several : (run : PageRun) → (run.level ≤ 1) ⊎ (1 < run.level)
single_or_several run = by (cases_lt 1 run.level)
  where
    by : (1 < run.level) ⊎ (run.level ≤ 1) → (run.level ≤ 1) ⊎ (1 < run.level)
    by (inl several) = inr several
    by (inr single) = inl single

-- ---- words in a row

-- The word of a page that stands so many pages after another one, in a row with it, names the frame that is as far after; it tells the same else.
row_frame : (word page other : ℕ) → page ≤ other → host_frame (word_in_row word page other) ≡ host_frame word + (other - page)
unfolding host_frame
row_frame word page other le = omega (arith, le)

row_quarters : (word page other : ℕ) → page ≤ other → word_in_row word page other / 2 ^ 1 % 2 ≡ word / 2 ^ 1 % 2
row_quarters word page other le = omega (arith, le)

row_writes : (word page other : ℕ) → page ≤ other → host_allows_write (word_in_row word page other) ≡ host_allows_write word
unfolding host_allows_write
row_writes word page other le = ap (λ n. n == 1) (row_quarters word page other le)

-- ---- a run that is changed whole

module _ (z : Sizes) (sizes : AreSizes z) (a : ℕ) (host : ℕ → ℕ) (run : PageRun) (several : 2 ≤ run.level) (O : IsOfOwnPages z host a run)
    (C : IsChanging host run) (all : run.changed ≡ level_span run.level) where
  given : (q : ℕ) → IsOnRun q (Some run) → host q ≡ word_given run q
  given q on =
      let most = O.level.1 in
      let within = (on_run run q (omega (arith, several)) (omega (arith, most)) on).1 in
      let before : nat_lt q (page_next run) ≡ true = (let below : q < page_next run = omega (arith, within, all) in grind (arith, nat_tests)) in
      C.words q on ∙ ap (λ (b : Bool). if b then word_given run q else word_seen run q) before

  level_given : (q : ℕ) → IsOnRun q (Some run) → host_level (host q) ≡ level_put run
  level_given q on =
      ap host_level (given q on)
      ∙ host_has_level (host_frame (word_seen run q)) (host_present (word_seen run q)) (host_allows_write (word_seen run q)) (level_put run)
      (put_low run O.level.1)

  frame_given : (q : ℕ) → IsOnRun q (Some run) → host_frame (host q) ≡ host_frame (word_seen run q)
  frame_given q on =
      ap host_frame (given q on)
      ∙ host_has_frame (host_frame (word_seen run q)) (host_present (word_seen run q)) (host_allows_write (word_seen run q)) (level_put run)
      (put_low run O.level.1)

  writes_given : (q : ℕ) → IsOnRun q (Some run) → host_allows_write (host q) ≡ host_allows_write (word_seen run q)
  writes_given q on =
      ap host_allows_write (given q on)
      ∙ host_is_writable (host_frame (word_seen run q)) (host_present (word_seen run q)) (host_allows_write (word_seen run q)) (level_put run)

  present_given : (q : ℕ) → IsOnRun q (Some run) → host_present (host q) ≡ host_present (word_seen run q)
  present_given q on =
      ap host_present (given q on)
      ∙ host_is_present (host_frame (word_seen run q)) (host_present (word_seen run q)) (host_allows_write (word_seen run q)) (level_put run)

  -- Its pages are made large only where they were small ones, from the first one of the run on.
  put_large : 2 ≤ level_put run → (level_put run ≡ run.level) × (host_level run.word ≡ 1)
  put_large more = by (host_level run.word == 1) refl
    where
      by : (b : Bool) → (host_level run.word == 1) ≡ b → (level_put run ≡ run.level) × (host_level run.word ≡ 1)
      by true is = (ap (λ (b : Bool). if b then run.level else 1) is, grind (arith, nat_tests))
      by false is = absurd (let one : level_put run ≡ 1 = ap (λ (b : Bool). if b then run.level else 1) is in omega (arith, one, more))

  owned_by : (page other : ℕ) → IsOnRun page (Some run) → IsOnRun other (Some run) → HasOwnerOf z page other
  owned_by page other on there i owns =
      let same = one_place_owns z sizes i a page owns (O.owns page on) in
      subst (λ j. owns_page z j other ≡ true) (sym same) (O.owns other there)

  pub given_run : (level page other : ℕ) → page < z.pages → IsOnRun page (Some run) → 1 ≤ level → level ≤ host_level (host page) → IsInRun level page other
      → (other < z.pages) × IsOneRun level host page other × HasOwnerOf z page other
  given_run level page other there on from large in_run = by (cases_lt 1 level)
    where
      by : (1 < level) ⊎ (level ≤ 1) → (other < z.pages) × IsOneRun level host page other × HasOwnerOf z page other
      by (inr lowest) = one_alone z level page other host there from lowest in_run
      by (inl more) =
          let put = level_given page on in
          let L = put_large (omega (arith, put, large, more)) in
          let most = O.level.1 in
          let top : run.level ≤ 4 = omega (arith, most) in
          let too : IsOnRun other (Some run) =
          in_wider level run.level other page from (let own = L.0 in omega (arith, put, large, own)) top in_run ∙ on in
          let at_start : run_start run ≡ run.first = (let none = (C.begins L.1).0 in omega (arith, none)) in
          let low : run.first ≤ page = (let le = (on_run run page (omega (arith, several)) top on).0 in omega (arith, at_start, le)) in
          let low_too : run.first ≤ other = (let le = (on_run run other (omega (arith, several)) top too).0 in omega (arith, at_start, le)) in
          let here = frame_given page on ∙ row_frame run.word run.first page low in
          let there_too = frame_given other too ∙ row_frame run.word run.first other low_too in
          let within : level ≤ run.level = (let own = L.0 in omega (arith, put, large, own)) in
          let places = (one_span level from (omega (arith, within, top)) page other in_run) in (
            owner_within z sizes a other (O.owns other too),
            record {
              same_level = level_given other too ∙ sym put;
              writes = writes_given other too ∙ row_writes run.word run.first other low_too
                  ∙ sym (writes_given page on ∙ row_writes run.word run.first page low);
              frames = apart (host_frame (host other)) (host_frame (host page)) (host_frame run.word) places.2 there_too here low low_too;
              present = λ several. present_given other too ∙ C.present other too;
              in_place = λ several. ap (λ n. n % level_span level) here
                  ∙ as_far level from (omega (arith, within, top)) run.first page (host_frame run.word) low
                  (begins_narrower level run.level run.first from within top (C.begins L.1).0)
                  (begins_narrower level run.level (host_frame run.word) from within top (C.begins L.1).1);
            },
            owned_by page other on too,
          )
        where
          apart : (x y f : ℕ) → other ≡ page - page % level_span level + other % level_span level → x ≡ f + (other - run.first) → y ≡ f + (page - run.first)
              → run.first ≤ page → run.first ≤ other → x + page % level_span level ≡ y + other % level_span level
          apart x y f is one two low low_too =
              let least : page % level_span level ≤ page = mod-le page (level_span level) in omega (arith, is, one, two, low, low_too, least)
