-- The words of host pages that are present, under the steps of others than their owners; and what an owner's large pages are.
use Rattle.std.proofs.Common.{◌≡◌, ◌≢◌, ◌⊎◌, inl, inr, ◌<◌, ◌≤◌, ℕ, refl, sym, subst, ap, ◌∙◌, arith}
use Rattle.std.specs.Prelude.{Bool, true, false, ◌==◌, if◌then◌else◌, Option, Some, None}
use Rattle.std.proofs.lemmas.Bool.Decides.{nat_tests}
use Rattle.core_views.specs.declared.sizes.Sizes.{Sizes}
use Rattle.core_views.specs.declared.topics.PageRun.{PageRun}
use Rattle.core_views.specs.Sizes.{AreSizes, actors_of}
use Rattle.spte_words.specs.declared.area.Area.TheVariants as area
use Rattle.spte_words.specs.HostWords.{host_allows_write, host_frame, host_level, host_present, with_presence}
use Rattle.spte_words.proofs.ReadsHost.{host_is_present}
use Rattle.part_steps.specs.declared.part_step.PartStep.{PartStep}
use Rattle.part_steps.specs.declared.part_step.PartStep.TheVariants as part
use Rattle.part_steps.specs.PageRuns.{IsOnRun, level_put, word_given, word_seen}
use Rattle.part_steps.specs.PartTasks.{page_looked, word_looked}
use Rattle.mmu_core.specs.invariant.HostWordsPart.{owns_page}
use Rattle.mmu_core.specs.invariant.RunsPart.{IsInRun}
use Rattle.mmu_core.specs.invariant.SearchPart.{IsInvalidating, IsOnPage}
use Rattle.mmu_core.specs.invariant.TopicsInvariant.{TopicsInvariant}
use Rattle.mmu_core.specs.machine.View.{View, part_stepped}
use Rattle.mmu_core.proofs.held.ChangedPages.{run_or_not}
use Rattle.mmu_core.proofs.held.Invalidating.{NoneInvalidating}
use Rattle.mmu_core.proofs.held.NextPages.{next_owned, next_page, next_words}
use Rattle.mmu_core.proofs.held.OwnPages.{changes_own, one_place_owns, owner_within}
use Rattle.mmu_core.proofs.machine.Columns.{at_upd}
use Rattle.mmu_core.proofs.machine.PartStepping.{IsPart}
use Rattle.mmu_core.proofs.words.RunSpans.{in_wider}

-- The step changes a host word of its actor's own.
abbrev pub changes_own_word : PartStep → Bool
changes_own_word (part.Change new_) = true
changes_own_word part.ChangeNext = true
changes_own_word _ = false

-- The word of a present page stays, but where its owner changes it.
pub word_stays : (z : Sizes) (v : View) (a : ℕ) (step : PartStep) (note : ℕ) → IsPart z v a step → TopicsInvariant z v → (j q : ℕ)
    → owns_page z j q ≡ true → host_present (v.words area.Host q) ≡ true → (changes_own_word step ≡ true → j ≢ a)
    → (part_stepped a step note v).words area.Host q ≡ v.words area.Host q
word_stays z v a step note S I j q owns there other = by step S other
  where
    host : ℕ → ℕ
    host = v.words area.Host

    page : ℕ
    page = page_looked (v.hand a).topics.host

    absent_stays : (found old_ : ℕ) → host_present old_ ≡ false → host_present found ≡ true → (if found == old_ then with_presence true old_ else found) ≡ found
    absent_stays found old_ gone here = each (found == old_) (λ e. grind (arith, nat_tests))
      where
        each : (won : Bool) → (won ≡ true → found ≡ old_) → (if won then with_presence true old_ else found) ≡ found
        each false same = refl
        each true same = absurd (let is = ap host_present (same refl) in cc (gone, here, is))

    by : (step : PartStep) → IsPart z v a step → (changes_own_word step ≡ true → j ≢ a) → (part_stepped a step note v).words area.Host q ≡ host q
    by part.Bring S other =
        at_upd (λ (k w : ℕ). host_present (host k) ≡ true → w ≡ host k) host page _
        (λ here. absent_stays (host page) (word_looked (v.hand a).topics.host) S.needs.absent here) (λ k ne here. refl) q there
    by (part.Change new_) S other =
        at_upd (λ (k w : ℕ). owns_page z j k ≡ true → w ≡ host k) host page _
        (λ own. absurd (other refl (one_place_owns z S.is_sizes j a page own (changes_own z v a new_ S)))) (λ k ne own. refl) q owns
    by part.ChangeNext S other =
        subst (λ (h : ℕ → ℕ). h q ≡ host q) (sym (next_words z v a S I note))
        (at_upd (λ (k w : ℕ). owns_page z j k ≡ true → w ≡ host k) host (next_page z v a S I) _
        (λ own. absurd (other refl (one_place_owns z S.is_sizes j a (next_page z v a S I) own (next_owned z v a S I)))) (λ k ne own. refl) q owns)
    by _ S other = refl

-- ---- large pages of an owner

-- A page of a run that is changed is present, before and after.
pub seen_or_given : (run : PageRun) (page : ℕ) → host_present (word_seen run page) ≡ true → (b : Bool)
    → host_present (if b then word_given run page else word_seen run page) ≡ true
seen_or_given run page there false = there
seen_or_given run page there true =
    host_is_present (host_frame (word_seen run page)) (host_present (word_seen run page)) (host_allows_write (word_seen run page)) (level_put run) ∙ there

module _ (z : Sizes) (v : View) (I : TopicsInvariant z v) (sizes : AreSizes z) (i page : ℕ) (lt : i < actors_of z) (owns : owns_page z i page ≡ true) where
  abbrev host : ℕ → ℕ
  host = v.words area.Host

  abbrev IsUnder : Type 0
  IsUnder = IsInvalidating (IsOnPage page) (v.hand i).topics

  -- The owner is invalidating the page, or isn't.
  under_or_not : IsUnder ⊎ (IsUnder → ⊥)
  under_or_not = by (v.hand i).topics.invalidations.own.pages refl
    where
      by : (pages : Option PageRun) → (v.hand i).topics.invalidations.own.pages ≡ pages → IsUnder ⊎ (IsUnder → ⊥)
      by None is = inr (λ U. subst (IsOnRun page) is U.of_it)
      by (Some run) is = each (run_or_not run page) (v.hand i).topics.invalidations.opened (v.hand i).topics.invalidations.raised refl refl
        where
          each : IsOnRun page (Some run) ⊎ (IsOnRun page (Some run) → ⊥) → (opened raised : Bool)
              → (v.hand i).topics.invalidations.opened ≡ opened → (v.hand i).topics.invalidations.raised ≡ raised → IsUnder ⊎ (IsUnder → ⊥)
          each (inr off) opened raised o r = inr (λ U. off (subst (IsOnRun page) is U.of_it))
          each (inl on) false raised o r = inr (λ U. let no = U.opened in cc (o, no))
          each (inl on) true true o r = inr (λ U. let no = U.unraised in cc (r, no))
          each (inl on) true false o r = inl (record { opened = o; unraised = r; of_it = subst (IsOnRun page) (sym is) on })

  -- Nobody else is.
  quiet_but : (IsUnder → ⊥) → NoneInvalidating z v (IsOnPage page)
  quiet_but none j low U = by (v.hand j).topics.invalidations.own.pages refl U.of_it
    where
      by : (pages : Option PageRun) → (v.hand j).topics.invalidations.own.pages ≡ pages → IsOnRun page pages → ⊥
      by None is on = on
      by (Some run) is on =
          let same = one_place_owns z sizes j i page ((I.own_pages j run low U.opened is).owns page on) owns in
          none (subst (λ k. IsInvalidating (IsOnPage page) (v.hand k).topics) same U)

  pub record IsOwnLarge : Type 0 where
    pub owner : (other : ℕ) → IsInRun (host_level (host page)) page other → owns_page z i other ≡ true
    pub present : 2 ≤ host_level (host page) → host_present (host page) ≡ true

  at_most : (n : ℕ) → n ≤ n
  at_most n = omega arith

  -- The pages that the host maps as one with a page have its owner; and a large page is present.
  pub own_large : IsOwnLarge
  own_large = by under_or_not
    where
      there : page < z.pages
      there = owner_within z sizes i page owns

      least : 1 ≤ host_level (host page)
      least = (I.hosts page there).2

      under : IsUnder → (pages : Option PageRun) → (v.hand i).topics.invalidations.own.pages ≡ pages → IsOnRun page pages → IsOwnLarge
      under U None is on = absurd on
      under U (Some run) is on =
          let O = I.own_pages i run lt U.opened is in
          let most = O.most page on in
          let top = O.level.1 in
          record {
            owner = λ other in_run. O.owns other (in_wider (host_level (host page)) run.level other page least most (omega (arith, top)) in_run ∙ on);
            present = λ more.
                let C = I.changes i run lt U.opened U.unraised is (omega (arith, more, most)) in
                ap host_present (C.words page on) ∙ seen_or_given run page (C.present page on) _;
          }

      by : IsUnder ⊎ (IsUnder → ⊥) → IsOwnLarge
      by (inl U) = under U (v.hand i).topics.invalidations.own.pages refl U.of_it
      by (inr none) =
          let quiet = quiet_but none in
          record {
            owner = λ other in_run. (I.runs page (host_level (host page)) other there quiet least (at_most _) in_run).2 i owns;
            present = λ more. (I.runs page (host_level (host page)) page there quiet least (at_most _) refl).1.present more;
          }
