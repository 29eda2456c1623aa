-- Each step of a part keeps it that the pages of a run are mapped alike.
use Rattle.std.proofs.Common.{◌≡◌, ◌⊎◌, inl, inr, ◌+◌, ◌/◌, ◌%◌, ◌<◌, ◌≤◌, ℕ, refl, sym, subst, ap, ◌∙◌, arith}
use Rattle.std.specs.Prelude.{false, Option, Some, None}
use Rattle.core_views.specs.declared.sizes.Sizes.{Sizes}
use Rattle.core_views.specs.declared.topics.PageRun.{PageRun}
use Rattle.core_views.specs.Held.{Held}
use Rattle.core_views.specs.Sizes.{actors_of}
use Rattle.spte_words.specs.declared.area.Area.TheVariants as area
use Rattle.spte_words.specs.Entries.{level_span}
use Rattle.spte_words.specs.HostWords.{host_level}
use Rattle.part_steps.specs.declared.part_step.PartStep.{PartStep}
use Rattle.part_steps.specs.declared.part_step.PartStep.TheVariants as part
use Rattle.part_steps.specs.PageRuns.{IsOnRun}
use Rattle.part_steps.specs.PartTasks.{page_looked, word_looked}
use Rattle.mmu_core.specs.invariant.HostWordsPart.{IsStill}
use Rattle.mmu_core.specs.invariant.RunsPart.{HasOwnerOf, IsInRun, IsOneRun, RunsPart}
use Rattle.mmu_core.specs.invariant.SearchPart.{IsInvalidating, IsOnPage}
use Rattle.mmu_core.specs.invariant.TopicsInvariant.{TopicsInvariant}
use Rattle.mmu_core.specs.machine.View.{View, part_stepped}
use Rattle.mmu_core.proofs.held.ChangedPages.{given_run, run_or_not, single_or_several}
use Rattle.mmu_core.proofs.held.Invalidating.{NoneInvalidating, invalidating_after, raises_number}
use Rattle.mmu_core.proofs.held.NextPages.{next_page, next_under, next_words}
use Rattle.mmu_core.proofs.held.PageRuns.{on_changed, on_it, one_alone}
use Rattle.mmu_core.proofs.machine.Columns.{at_upd}
use Rattle.mmu_core.proofs.machine.PartStepping.{IsPart}
use Rattle.mmu_core.proofs.words.HostStays.{still_brought, still_frame, still_level, still_there, still_writes}
use Rattle.mmu_core.proofs.words.PartTopics.{behind_step, part_behind}
use Rattle.mmu_core.proofs.words.RunSpans.{in_wider}

-- Where the words of two pages stay, but that an absent one may be brought in, these are mapped as one still.
still_run : (level : ℕ) (host after : ℕ → ℕ) (page other : ℕ) → IsStill (host page) (after page) → IsStill (host other) (after other)
    → IsOneRun level host page other → IsOneRun level after page other
still_run level host after page other here there R = record {
  same_level = still_level (host other) (after other) there ∙ R.same_level ∙ sym (still_level (host page) (after page) here);
  writes = still_writes (host other) (after other) there ∙ R.writes ∙ sym (still_writes (host page) (after page) here);
  frames =
      ap (λ n. n + page % level_span level) (still_frame (host other) (after other) there) ∙ R.frames
      ∙ ap (λ n. n + other % level_span level) (sym (still_frame (host page) (after page) here));
  present = λ more. still_there (host other) (after other) there (R.present more);
  in_place = λ more. ap (λ n. n % level_span level) (still_frame (host page) (after page) here) ∙ R.in_place more;
}

module _ (z : Sizes) (v : View) (a : ℕ) (step : PartStep) (note : ℕ) (S : IsPart z v a step) where
  abbrev host : ℕ → ℕ
  host = v.words area.Host

  abbrev after : ℕ → ℕ
  after = (part_stepped a step note v).words area.Host

  abbrev NoneOn : ℕ → Type 0
  NoneOn page = NoneInvalidating z v (IsOnPage page)

  -- A page that nobody is invalidating keeps its word, but that it may be brought in.
  word_still : TopicsInvariant z v → (q : ℕ) → NoneOn q → IsStill (host q) (after q)
  word_still I = by step S
    where
      by : (step : PartStep) → IsPart z v a step → (q : ℕ) → NoneOn q → IsStill (host q) ((part_stepped a step note v).words area.Host q)
      by part.Bring S =
          at_upd (λ (q w : ℕ). NoneOn q → IsStill (host q) w) host (page_looked (v.hand a).topics.host) _
          (λ none. still_brought (host (page_looked (v.hand a).topics.host)) (host (page_looked (v.hand a).topics.host)) (word_looked (v.hand a).topics.host)
          S.needs.absent (inl refl)) (λ q ne none. inl refl)
      by (part.Change new_) S =
          at_upd (λ (q w : ℕ). NoneOn q → IsStill (host q) w) host (page_looked (v.hand a).topics.host) _
          (λ none. absurd (none a S.there (record {
            opened = S.needs.0.opened;
            unraised = S.needs.0.unraised;
            of_it = on_it (page_looked (v.hand a).topics.host) (v.hand a).topics.invalidations.own.pages S.needs.0.invalid;
          }))) (λ q ne none. inl refl)
      by part.ChangeNext S =
          subst (λ (h : ℕ → ℕ). (q : ℕ) → NoneOn q → IsStill (host q) (h q)) (sym (next_words z v a S I note))
          (at_upd (λ (q w : ℕ). NoneOn q → IsStill (host q) w) host (next_page z v a S I) _
          (λ none. absurd (none a S.there (next_under z v a S I))) (λ q ne none. inl refl))
      by _ S = λ q none. inl refl

  -- Nobody is invalidating the other pages of a run of which nobody is invalidating this one: such an invalidation would have all of the run's pages.
  quiet_run : TopicsInvariant z v → (page level other : ℕ) → page < z.pages → NoneOn page → 1 ≤ level → level ≤ host_level (host page)
      → IsInRun level page other → NoneOn other
  quiet_run I page level other there none from large in_run j low U = by (v.hand j).topics.invalidations.own.pages refl U.of_it
    where
      by : (pages : Option PageRun) → (v.hand j).topics.invalidations.own.pages ≡ pages → IsOnRun other pages → ⊥
      by None is on = on
      by (Some run) is on =
          let O = I.own_pages j run low U.opened is in
          let same = (I.runs page level other there none from large in_run).1.same_level in
          let most = O.most other on in
          let top = O.level.1 in
          let wide : other / level_span run.level ≡ page / level_span run.level =
          in_wider level run.level other page from (omega (arith, same, most, large)) (omega (arith, top)) in_run in
          none j low (record { opened = U.opened; unraised = U.unraised; of_it = subst (IsOnRun page) (sym is) (sym wide ∙ on) })

  -- Where the number isn't raised.
  quiet_runs : raises_number step ≡ false → TopicsInvariant z v
      → RunsPart z (actors_of z) after (λ i. ((part_behind a step note v).hand i).topics)
  quiet_runs other_step I page level other there none from large in_run =
      let R = I.runs page level other there here from was_large in_run in
      (R.0, still_run level host after page other still (word_still I other (quiet_run I page level other there here from was_large in_run)) R.1, R.2)
    where
      here : NoneOn page
      here j low U = none j low (invalidating_after z v a note (IsOnPage page) (λ won own_. on_changed won page own_.pages) step S other_step j U)

      still : IsStill (host page) (after page)
      still = word_still I page here

      was_large : level ≤ host_level (host page)
      was_large = let same = still_level (host page) (after page) still in omega (arith, large, same)

-- Where it is, the pages of the invalidation for which it is are all changed.
module _ (z : Sizes) (v : View) (a note seq : ℕ) (S : IsPart z v a (part.SetSeq seq)) (I : TopicsInvariant z v) where
  abbrev words : ℕ → ℕ
  words = v.words area.Host

  -- Who was invalidating a page is so still, but for the actor that raises the number.
  others_invalidating : (page : ℕ) → NoneInvalidating z (part_behind a (part.SetSeq seq) note v) (IsOnPage page)
      → (IsOnPage page (v.hand a).topics.invalidations.own → ⊥) → NoneInvalidating z v (IsOnPage page)
  others_invalidating page none off j low U =
      at_upd (λ j (k : Held). j < actors_of z → (IsInvalidating (IsOnPage page) k.topics → ⊥) → IsInvalidating (IsOnPage page) (v.hand j).topics → ⊥) v.hand a
      _ (λ there not_now W. off W.of_it) (λ j ne there not_now W. not_now W) j low (none j low) U

  raised_runs : RunsPart z (actors_of z) words (λ i. ((part_behind a (part.SetSeq seq) note v).hand i).topics)
  raised_runs page level other there none from large in_run = by (v.hand a).topics.invalidations.own.pages refl
    where
      outside : (IsOnPage page (v.hand a).topics.invalidations.own → ⊥)
          → (other < z.pages) × IsOneRun level words page other × HasOwnerOf z page other
      outside off = I.runs page level other there (others_invalidating page none off) from large in_run

      of_run : (run : PageRun) → (v.hand a).topics.invalidations.own.pages ≡ Some run → IsOnRun page (Some run) → (run.level ≤ 1) ⊎ (1 < run.level)
          → (other < z.pages) × IsOneRun level words page other × HasOwnerOf z page other
      of_run run is on (inl single) =
          let O = I.own_pages a run S.there S.needs.0.opened is in
          let most = O.most page on in
          one_alone z level page other words there from (omega (arith, large, most, single)) in_run
      of_run run is on (inr several) =
          let O = I.own_pages a run S.there S.needs.0.opened is in
          let C = I.changes a run S.there S.needs.0.opened S.needs.0.unraised is (omega (arith, several)) in
          given_run z S.is_sizes a words run (omega (arith, several)) O C (S.needs.0.all run is (omega (arith, several))) level page other there on from large
          in_run

      by : (pages : Option PageRun) → (v.hand a).topics.invalidations.own.pages ≡ pages
          → (other < z.pages) × IsOneRun level words page other × HasOwnerOf z page other
      by None is = outside (λ on. subst (IsOnRun page) is on)
      by (Some run) is = each (run_or_not run page)
        where
          each : IsOnRun page (Some run) ⊎ (IsOnRun page (Some run) → ⊥) → (other < z.pages) × IsOneRun level words page other × HasOwnerOf z page other
          each (inl on) = of_run run is on (single_or_several run)
          each (inr off) = outside (λ on. off (subst (IsOnRun page) is on))

runs_behind : (z : Sizes) (v : View) (a note : ℕ) (step : PartStep) → IsPart z v a step → TopicsInvariant z v
    → RunsPart z (actors_of z) ((part_stepped a step note v).words area.Host) (λ i. ((part_behind a step note v).hand i).topics)
runs_behind z v a note (part.SetSeq seq) S I = raised_runs z v a note seq S I
runs_behind z v a note step S I = quiet_runs z v a step note S refl I

pub runs_kept : (z : Sizes) (v : View) (a : ℕ) (step : PartStep) (note : ℕ) → IsPart z v a step → TopicsInvariant z v
    → RunsPart z (actors_of z) ((part_stepped a step note v).words area.Host) (λ i. ((part_stepped a step note v).hand i).topics)
runs_kept z v a step note S I =
    behind_step (λ (w : View). RunsPart z (actors_of z) ((part_stepped a step note v).words area.Host) (λ i. (w.hand i).topics)) z v a step note S
    (runs_behind z v a note step S I)
