-- Each step of a part keeps of whose pages open invalidations are, and that the pages of a run of several are changed in their order.
use Rattle.std.proofs.Common.{◌≡◌, ◌≢◌, ◌⊎◌, inl, inr, ◌+◌, ◌<◌, ◌≤◌, ℕ, refl, sym, subst, ap, ◌∙◌, arith}
use Rattle.std.specs.Prelude.{Bool, true, false, if◌then◌else◌, nat_lt, Option, Some, None}
use Rattle.std.proofs.lemmas.Bool.{cases_lt}
use Rattle.std.proofs.lemmas.Bool.Decides.{nat_tests}
use Rattle.core_views.specs.declared.sizes.Sizes.{Sizes}
use Rattle.core_views.specs.declared.topics.PageRun.{PageRun}
use Rattle.core_views.specs.Held.{Held}
use Rattle.core_views.specs.Sizes.{actors_of}
use Rattle.spte_words.specs.declared.area.Area.TheVariants as area
use Rattle.spte_words.specs.HostWords.{host_allows_write, host_frame, host_level, host_present}
use Rattle.spte_words.proofs.ReadsHost.{host_has_level}
use Rattle.part_steps.specs.declared.part_step.PartStep.{PartStep}
use Rattle.part_steps.specs.declared.part_step.PartStep.TheVariants as part
use Rattle.part_steps.specs.PageRuns.{IsOnRun, level_put, page_next, run_start, word_given, word_seen}
use Rattle.mmu_core.specs.invariant.RunsPart.{ChangesPart, IsChanging, IsOfOwnPages, OwnPagesPart}
use Rattle.mmu_core.specs.invariant.TopicsInvariant.{TopicsInvariant}
use Rattle.mmu_core.specs.machine.View.{View, part_stepped}
use Rattle.mmu_core.proofs.held.Invalidating.{topics_now}
use Rattle.mmu_core.proofs.held.NextPages.{next_is_won, next_own, next_owned, next_page, next_words}
use Rattle.mmu_core.proofs.held.OpenFrames.{opened_by}
use Rattle.mmu_core.proofs.held.OpenRuns.{is_opened}
use Rattle.mmu_core.proofs.held.OwnPages.{one_place_owns}
use Rattle.mmu_core.proofs.held.OwnWords.{changes_own_word, seen_or_given, word_stays}
use Rattle.mmu_core.proofs.held.PageRuns.{changed_run}
use Rattle.mmu_core.proofs.machine.Columns.{at_upd}
use Rattle.mmu_core.proofs.machine.PartStepping.{IsPart}
use Rattle.mmu_core.proofs.words.HostStays.{changes_run, levels_stay, put_either, put_low}
use Rattle.mmu_core.proofs.words.PartTopics.{behind_step, part_behind}

-- ---- whose pages they are

-- A page that is given its word is of a level no greater than the run's.
given_level : (z : Sizes) (v : View) (a : ℕ) (S : IsPart z v a part.ChangeNext) (I : TopicsInvariant z v)
    → host_level (word_given S.needs.run (next_page z v a S I)) ≤ S.needs.run.level
given_level z v a S I =
    let run : PageRun = S.needs.run in
    let seen : ℕ = word_seen run (next_page z v a S I) in
    let is = host_has_level (host_frame seen) (host_present seen) (host_allows_write seen) (level_put run) (put_low run (next_own z v a S I).level.1) in
    let least = (next_own z v a S I).level.0 in
    let most : level_put run ≤ run.level = put_either (λ n. n ≤ run.level) run (omega arith) least in
    omega (arith, is, most)

-- So is each page of an invalidation after a step.
levels_most : (z : Sizes) (v : View) (a : ℕ) (step : PartStep) (note : ℕ) → IsPart z v a step → TopicsInvariant z v → (i : ℕ) (run : PageRun) → i < actors_of z
    → (v.hand i).topics.invalidations.opened ≡ true → (v.hand i).topics.invalidations.own.pages ≡ Some run
    → IsOfOwnPages z ((part_stepped a step note v).words area.Host) i run
levels_most z v a step note S I i run lt opened is = record { level = O.level; owns = O.owns; most = by step S }
  where
    O : IsOfOwnPages z (v.words area.Host) i run
    O = I.own_pages i run lt opened is

    stay : (step : PartStep) → IsPart z v a step → changes_run step ≡ false → (page : ℕ) → IsOnRun page (Some run)
        → host_level ((part_stepped a step note v).words area.Host page) ≤ run.level
    stay step S other page on = let same = levels_stay z v a step note other S page in let most = O.most page on in omega (arith, same, most)

    by : (step : PartStep) → IsPart z v a step → (page : ℕ) → IsOnRun page (Some run)
        → host_level ((part_stepped a step note v).words area.Host page) ≤ run.level
    by part.ChangeNext S page on =
        subst (λ (h : ℕ → ℕ). host_level (h page) ≤ run.level) (sym (next_words z v a S I note))
        (at_upd (λ (q w : ℕ). IsOnRun q (Some run) → host_level w ≤ run.level) (v.words area.Host) (next_page z v a S I) _
        (λ on. given on) (λ q ne on. O.most q on) page on)
      where
        given : IsOnRun (next_page z v a S I) (Some run) → host_level (word_given S.needs.run (next_page z v a S I)) ≤ run.level
        given on =
            let same = one_place_owns z S.is_sizes i a (next_page z v a S I) (O.owns (next_page z v a S I) on) (next_owned z v a S I) in
            let at : (v.hand a).topics.invalidations.own.pages ≡ Some run = ap (λ k. (v.hand k).topics.invalidations.own.pages) (sym same) ∙ is in
            let one : S.needs.run ≡ run = one_of (sym S.needs.is ∙ at) in
            let most = given_level z v a S I in
            subst (λ (r : PageRun). host_level (word_given S.needs.run (next_page z v a S I)) ≤ r.level) one most
          where
            one_of : {x y : PageRun} → Some x ≡ Some y → x ≡ y
            one_of e = cc e
    by step S page on = stay step S refl page on

abbrev PagesAt : Sizes → (ℕ → ℕ) → View → Type 0
PagesAt z host v = OwnPagesPart z (actors_of z) host (λ i. (v.hand i).topics)

-- what the actor's own invalidation is of after its step
abbrev OwnPagesNow : Sizes → View → ℕ → ℕ → PartStep → Type 0
OwnPagesNow z v a note step =
    (run : PageRun) → (topics_now v a note step).invalidations.opened ≡ true → (topics_now v a note step).invalidations.own.pages ≡ Some run
    → IsOfOwnPages z ((part_stepped a step note v).words area.Host) a run

own_pages_now : (z : Sizes) (v : View) (a note : ℕ) (step : PartStep) → IsPart z v a step → TopicsInvariant z v → OwnPagesNow z v a note step
own_pages_now z v a note (part.SetStart first gfn) S I run is at = absurd (let closed = S.needs.0.opening.closed in cc (is, closed))
own_pages_now z v a note (part.SetEnd last gfn) S I run is at = absurd (let closed = S.needs.0.opening.closed in cc (is, closed))
own_pages_now z v a note (part.SetCount count) S I run more at =
    let closed = opened_by z v a I S.there (v.hand a).topics.invalidations.opened count refl S.needs.0.is more in
    (is_opened z v a count S I closed (S.needs.0.opens closed) run at).own_pages
own_pages_now z v a note part.ChangeNext S I run is at =
    let now_ = changed_run _ (v.hand a).topics.invalidations.own.pages S.needs.run run S.needs.is at in
    let O = levels_most z v a part.ChangeNext note S I a S.needs.run S.there S.needs.opened S.needs.is in
    subst (IsOfOwnPages z ((part_stepped a part.ChangeNext note v).words area.Host) a) (sym now_)
    (record { level = O.level; owns = O.owns; most = O.most })
own_pages_now z v a note step S I run is at = levels_most z v a step note S I a run S.there is at

own_pages_behind : (z : Sizes) (v : View) (a note : ℕ) (step : PartStep) → IsPart z v a step → TopicsInvariant z v
    → PagesAt z ((part_stepped a step note v).words area.Host) (part_behind a step note v)
own_pages_behind z v a note step S I i run lt =
    at_upd (λ j (k : Held). j < actors_of z → k.topics.invalidations.opened ≡ true → k.topics.invalidations.own.pages ≡ Some run
    → IsOfOwnPages z ((part_stepped a step note v).words area.Host) j run) v.hand a _ (λ there. own_pages_now z v a note step S I run)
    (λ j ne there. levels_most z v a step note S I j run there) i lt

pub own_pages_kept : (z : Sizes) (v : View) (a : ℕ) (step : PartStep) (note : ℕ) → IsPart z v a step → TopicsInvariant z v
    → PagesAt z ((part_stepped a step note v).words area.Host) (part_stepped a step note v)
own_pages_kept z v a step note S I =
    behind_step (λ (w : View). PagesAt z ((part_stepped a step note v).words area.Host) w) z v a step note S (own_pages_behind z v a note step S I)

-- ---- how far they are changed

abbrev ChangesAt : Sizes → (ℕ → ℕ) → View → Type 0
ChangesAt z host v = ChangesPart (actors_of z) host (λ i. (v.hand i).topics)

-- The words of its pages stay, where its actor changes none of them.
changing_stays : (z : Sizes) (v : View) (a : ℕ) (step : PartStep) (note : ℕ) → IsPart z v a step → TopicsInvariant z v → (i : ℕ) (run : PageRun)
    → IsOfOwnPages z (v.words area.Host) i run → (changes_own_word step ≡ true → i ≢ a) → IsChanging (v.words area.Host) run
    → IsChanging ((part_stepped a step note v).words area.Host) run
changing_stays z v a step note S I i run O other C = record {
  few = C.few;
  present = C.present;
  begins = C.begins;
  words = λ page on.
      let was = C.words page on in
      let there : host_present (v.words area.Host page) ≡ true = ap host_present was ∙ seen_or_given run page (C.present page on) _ in
      word_stays z v a step note S I i page (O.owns page on) there other ∙ was;
}

module _ (z : Sizes) (v : View) (a note : ℕ) (S : IsPart z v a part.ChangeNext) (I : TopicsInvariant z v) where
  abbrev run : PageRun
  run = S.needs.run

  abbrev host : ℕ → ℕ
  host = v.words area.Host

  abbrev next : ℕ
  next = page_next run

  C : IsChanging host run
  C = I.changes a run S.there S.needs.opened S.needs.unraised S.needs.is S.needs.several

  one_more : (n : ℕ) → nat_lt n (n + 1) ≡ true
  one_more n = grind (arith, nat_tests)

  others : (q n : ℕ) → q ≢ n → nat_lt q n ≡ nat_lt q (n + 1)
  others q n ne = each (cases_lt q n)
    where
      each : (q < n) ⊎ (n ≤ q) → nat_lt q n ≡ nat_lt q (n + 1)
      each (inl less) = grind (arith, nat_tests)
      each (inr more) = let above : n < q = omega (arith, more, ne) in grind (arith, nat_tests)

  -- the word of a page of the run once one more is changed
  abbrev word_then : ℕ → ℕ
  word_then q = if nat_lt q (next + 1) then word_given run q else word_seen run q

  further : run_start run + (run.changed + 1) ≡ next + 1
  further = omega arith

  -- One more page is changed.
  next_changed : IsChanging ((part_stepped a part.ChangeNext note v).words area.Host) (record run { changed = run.changed + 1 })
  next_changed =
      subst (λ (h : ℕ → ℕ). IsChanging h (record run { changed = run.changed + 1 })) (sym (next_words z v a S I note)) (record {
        few = let left = S.needs.left in omega (arith, left);
        present = C.present;
        begins = C.begins;
        words = λ page on.
            at_upd (λ (q w : ℕ). IsOnRun q (Some run) → w ≡ word_then q) host next _
            (λ on. sym (ap (λ (b : Bool). if b then word_given run next else word_seen run next) (one_more next)))
            (λ q ne on. C.words q on ∙ ap (λ (b : Bool). if b then word_given run q else word_seen run q) (others q next ne)) page on
            ∙ ap (λ n. if nat_lt page n then word_given run page else word_seen run page) (sym further);
      })

-- what the actor's own invalidation has changed after its step
abbrev ChangesNow : Sizes → View → ℕ → ℕ → PartStep → Type 0
ChangesNow z v a note step =
    (run : PageRun) → (topics_now v a note step).invalidations.opened ≡ true → (topics_now v a note step).invalidations.raised ≡ false
    → (topics_now v a note step).invalidations.own.pages ≡ Some run → 2 ≤ run.level → IsChanging ((part_stepped a step note v).words area.Host) run

changes_now : (z : Sizes) (v : View) (a note : ℕ) (step : PartStep) → IsPart z v a step → TopicsInvariant z v → ChangesNow z v a note step
changes_now z v a note (part.SetStart first gfn) S I run is raised at several = absurd (let closed = S.needs.0.opening.closed in cc (is, closed))
changes_now z v a note (part.SetEnd last gfn) S I run is raised at several = absurd (let closed = S.needs.0.opening.closed in cc (is, closed))
changes_now z v a note (part.SetSeq seq) S I run is raised at several = absurd (cc raised)
changes_now z v a note (part.SetCount count) S I run more raised at several =
    let closed = opened_by z v a I S.there (v.hand a).topics.invalidations.opened count refl S.needs.0.is more in
    (is_opened z v a count S I closed (S.needs.0.opens closed) run at).changing several
changes_now z v a note part.ChangeNext S I run is raised at several =
    let now_ = changed_run _ (v.hand a).topics.invalidations.own.pages S.needs.run run S.needs.is at in
    let one : run ≡ record S.needs.run { changed = S.needs.run.changed + 1 } =
    now_ ∙ ap (λ (b : Bool). record S.needs.run { changed = if b then S.needs.run.changed + 1 else S.needs.run.changed }) (next_is_won z v a S I) in
    subst (IsChanging ((part_stepped a part.ChangeNext note v).words area.Host)) (sym one) (next_changed z v a note S I)
changes_now z v a note (part.Change new_) S I run is raised at several =
    absurd (let one : run.level ≡ 1 = single S.needs.0.invalid at in omega (arith, one, several))
  where
    single : {pages : Option PageRun} {x : PageRun} → pages ≡ Some x → pages ≡ Some run → run.level ≡ x.level
    single one other = ap level_in (sym other ∙ one)
      where
        level_in : Option PageRun → ℕ
        level_in None = 0
        level_in (Some r) = r.level
changes_now z v a note step S I run is raised at several =
    changing_stays z v a step note S I a run (I.own_pages a run S.there is at) (λ changes. absurd (cc changes)) (I.changes a run S.there is raised at several)

changes_behind : (z : Sizes) (v : View) (a note : ℕ) (step : PartStep) → IsPart z v a step → TopicsInvariant z v
    → ChangesAt z ((part_stepped a step note v).words area.Host) (part_behind a step note v)
changes_behind z v a note step S I i run lt =
    at_upd (λ j (k : Held). j < actors_of z → k.topics.invalidations.opened ≡ true → k.topics.invalidations.raised ≡ false
    → k.topics.invalidations.own.pages ≡ Some run → 2 ≤ run.level → IsChanging ((part_stepped a step note v).words area.Host) run) v.hand a _
    (λ there. changes_now z v a note step S I run)
    (λ j ne there is raised at several. changing_stays z v a step note S I j run (I.own_pages j run there is at) (λ changes. ne)
    (I.changes j run there is raised at several)) i lt

pub changes_kept : (z : Sizes) (v : View) (a : ℕ) (step : PartStep) (note : ℕ) → IsPart z v a step → TopicsInvariant z v
    → ChangesAt z ((part_stepped a step note v).words area.Host) (part_stepped a step note v)
changes_kept z v a step note S I =
    behind_step (λ (w : View). ChangesAt z ((part_stepped a step note v).words area.Host) w) z v a step note S (changes_behind z v a note step S I)
