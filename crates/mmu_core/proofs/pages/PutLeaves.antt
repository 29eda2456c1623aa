-- The leaf that a fault puts, over the run of its guest frame: it meets no open invalidation, and is the one that slots and host give each guest frame of the
-- run.
use Rattle.std.proofs.Common.{◌≡◌, ◌⊎◌, inl, inr, ◌<◌, ◌≤◌, ℕ, sym, subst, ◌∙◌, arith}
use Rattle.std.specs.Prelude.{Bool, true}
use Rattle.std.proofs.lemmas.Bool.{cases_lt}
use Rattle.core_views.specs.declared.sizes.Sizes.{Sizes}
use Rattle.core_views.specs.declared.topics.Topics.{Topics}
use Rattle.core_views.specs.declared.trace.Slot.{Slot as SlotOf}
use Rattle.core_views.specs.Sizes.{actors_of}
use Rattle.core_views.specs.Slots.{contains}
use Rattle.spte_words.specs.declared.area.Area.TheVariants as area
use Rattle.spte_words.specs.HostWords.{host_level}
use Rattle.spte_words.proofs.Spans.{offset_1, span_1}
use Rattle.part_steps.specs.declared.part_step.PartStep.TheVariants as part
use Rattle.part_steps.specs.PartHoldings.{MayEnter}
use Rattle.part_steps.specs.PartTasks.{leaf_written, puts_write, word_looked}
use Rattle.part_steps.specs.RunHoldings.{HasRun, MapsRun}
use Rattle.part_steps.specs.SlotWords.{page_of}
use Rattle.mmu_core.specs.invariant.CachedPart.{IsLeafFor}
use Rattle.mmu_core.specs.invariant.InvalidatedPart.{IsIn, keeps_empty}
use Rattle.mmu_core.specs.invariant.RunsPart.{IsInRun}
use Rattle.mmu_core.specs.invariant.TopicsInvariant.{TopicsInvariant}
use Rattle.mmu_core.specs.machine.View.{View}
use Rattle.mmu_core.proofs.held.FreshFrames.{looked_word}
use Rattle.mmu_core.proofs.machine.PartStepping.{IsPart}
use Rattle.mmu_core.proofs.pages.RunLeaves.{none_meets, run_leaf}
use Rattle.mmu_core.proofs.words.RunPlaces.{between, run_has}

-- A guest frame of the slot is a run of its own.
one_run : (level gfn : ℕ) (slot : SlotOf) → level ≡ 1 → contains gfn slot ≡ true → HasRun level gfn slot
one_run level gfn slot lowest has =
    subst (λ l. HasRun l gfn slot) (sym lowest)
    (let B = between slot gfn has in let low = B.0 in let high = B.1 in let first = offset_1 gfn in let page = offset_1 (page_of slot gfn) in
    record {
      from = omega (arith, first, low);
      to = rw span_1 (omega (arith, first, high));
      alike = page ∙ sym first;
    })

-- The slot that was found has the run whole.
pub run_found : (gfn : ℕ) (t : Topics) → MayEnter gfn t → MapsRun gfn t → HasRun t.walk.level gfn t.search.slot
run_found gfn t M R = by (cases_lt 1 t.walk.level)
  where
    by : (1 < t.walk.level) ⊎ (t.walk.level ≤ 1) → HasRun t.walk.level gfn t.search.slot
    by (inl above) = R.run (omega (arith, above))
    by (inr lowest) = let from = M.saw.over.there in one_run t.walk.level gfn t.search.slot (omega (arith, lowest, from)) M.looked_up.found.holds

-- So it has each guest frame of the run.
pub run_holds : (gfn other : ℕ) (t : Topics) → MayEnter gfn t → MapsRun gfn t → IsInRun t.walk.level gfn other → contains other t.search.slot ≡ true
run_holds gfn other t M R in_run =
    run_has t.search.slot gfn other t.walk.level M.saw.over.there (let most = R.most in omega (arith, most)) (run_found gfn t M R) in_run

module _ (z : Sizes) (v : View) (a gfn : ℕ) (write : Bool) (other : ℕ) (S : IsPart z v a (part.Leaf gfn write)) (I : TopicsInvariant z v) where
  abbrev held : Topics
  held = (v.hand a).topics

  -- The host maps the pages of the run as one.
  pub run_mapped : held.walk.level ≤ host_level (word_looked held.host)
  run_mapped = by (cases_lt 1 held.walk.level)
    where
      by : (1 < held.walk.level) ⊎ (held.walk.level ≤ 1) → held.walk.level ≤ host_level (word_looked held.host)
      by (inl above) = S.needs.1.large (omega (arith, above))
      by (inr lowest) =
          let page = (I.looks a S.there).there (record { page = page_of held.search.slot gfn; word = S.needs.0.looked_up.word }) S.needs.0.looked_up.host in
          let least : 1 ≤ host_level (word_looked held.host) =
          subst (λ w. 1 ≤ host_level w) (sym (looked_word z v a gfn S.there I S.needs.0)) (I.hosts (page_of held.search.slot gfn) page).2 in
          omega (arith, lowest, least)

  -- It is over no guest frame of an open invalidation, but of a slot's whose actor has published since.
  pub put_meets_none : (i : ℕ) → i < actors_of z → IsInRun held.walk.level gfn other → keeps_empty (v.hand i).topics ≡ true
      → IsIn (v.hand i).topics.invalidations.own other → ⊥
  put_meets_none i lt in_run empty is_in =
      none_meets z v a held.walk.level gfn S.there I S.slots S.needs.0 S.needs.0.saw.over.there (let most = S.needs.1.most in omega (arith, most))
      (run_found gfn held S.needs.0 S.needs.1) run_mapped i other lt in_run empty is_in

  -- And it is the one that slots and host give each guest frame that it is over.
  pub put_leaf : IsInRun held.walk.level gfn other
      → IsLeafFor (v.words area.Pool) (v.words area.Host) (v.words area.Slots 0) held.walk.level other (leaf_written gfn write held)
  put_leaf in_run =
      run_leaf z v a held.walk.level gfn S.there I S.slots S.needs.0 S.needs.0.saw.over.there (let most = S.needs.1.most in omega (arith, most))
      (run_found gfn held S.needs.0 S.needs.1) run_mapped S.is_sizes (puts_write write held) other in_run
