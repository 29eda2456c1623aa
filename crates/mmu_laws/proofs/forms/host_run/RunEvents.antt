-- What a line tells that maps a run of host pages as one, or its pages by themselves: that it looked at a page, and may be refused for what it saw; or that it
-- changed one.
use Rattle.std.proofs.Common.{◌≡◌, ◌≢◌, ℕ, List, [], ◌∷◌, refl}
use Rattle.std.specs.Prelude.{◌==◌, Bool, true, false, if◌then◌else◌, Option, None, Some}
use Rattle.core_views.specs.declared.answer.Answer.TheVariants.{Refused}
use Rattle.core_views.specs.declared.answer.Refusal.{Refusal}
use Rattle.core_views.specs.declared.answer.Refusal.TheVariants.{IsHuge, NoFrame, NotAligned, OutOfRange}
use Rattle.core_views.specs.declared.event.EventKind.{EventKind}
use Rattle.core_views.specs.declared.event.EventKind.TheVariants.{Exited, HostChanged, LookedAtHost}
use Rattle.core_views.specs.declared.host.HostEntry.{HostEntry}
use Rattle.core_views.specs.declared.place.HostRunPlace.{HostRunPlace}
use Rattle.core_views.specs.declared.place.HostRunPlace.TheVariants.{Change, Look, LookOn}
use Rattle.core_views.specs.declared.topics.PageRun.{PageRun}
use Rattle.core_views.specs.declared.trace.RunChange.{RunChange}
use Rattle.core_views.specs.Held.{Held}
use Rattle.core_views.specs.HostRuns.{owns_run}
use Rattle.part_steps.specs.PageRuns.{is_several, one_look}
use Rattle.part_steps.specs.PartTasks.{word_looked, word_next}
use Rattle.mmu_core.specs.declared.outcome.Outcome.{Outcome}
use Rattle.mmu_core.specs.declared.outcome.Outcome.TheVariants.{Ends}
use Rattle.mmu_core.specs.forms.access.AccessSteps.{exiting}
use Rattle.mmu_core.specs.forms.host.HostSteps.{entry_of}
use Rattle.mmu_core.specs.forms.host_run.HostRunSteps.{after_run_look, as_it_is, host_run_tells, page_after, page_changed}
use Rattle.mmu_core.proofs.forms.host_run.HostRunKept.{is_change}
use Rattle.mmu_core.proofs.forms.host_run.HostRunPlaces.{each_look, each_next_look}
use Rattle.mmu_core.proofs.lines.EitherPlace.{either_place}

-- What is so of no event, of a look, of one with which the line is refused, and, where the line stands at a change, of a change of a page is so of what its
-- step tells.
module _ (Q : List EventKind → Type 0) (none : Q []) (looks : (page : ℕ) → Q (LookedAtHost page ∷ []))
    (refused : (page : ℕ) (refusal : Refusal) → refusal ≢ NoFrame → Q (LookedAtHost page ∷ Exited (Refused refusal) ∷ [])) where
  changed_so : ((page : ℕ) (entry : HostEntry) → Q (HostChanged page entry ∷ [])) → (pages : Option PageRun) → Q (page_changed pages)
  changed_so changes None = none
  changed_so changes (Some run) = changes _ _

  pub run_tells_so : (p : HostRunPlace) → (is_change p ≡ true → (page : ℕ) (entry : HostEntry) → Q (HostChanged page entry ∷ []))
      → (page : ℕ) (change : RunChange) (h : Held) (v : ℕ) → Q (host_run_tells p page change h v)
  run_tells_so Look changes page change h v = by (owns_run h.state.sizes h.state.actor page change)
    where
      Looked : Outcome → Type 0
      Looked o = Q (LookedAtHost page ∷ exiting o)

      by : (own_ : Bool)
          → Q (if own_ then LookedAtHost page ∷ exiting (if own_ then after_run_look change (record { page = page; word = v }) one_look v else
          Ends (Refused OutOfRange)) else [])
      by false = none
      by true =
          each_look Looked change (record { page = page; word = v }) one_look v (refused page IsHuge (λ e. cc e)) (looks page) (looks page)
          (refused page NotAligned (λ e. cc e))
  run_tells_so LookOn changes page change h v =
      let other : ℕ = page_after page change h.topics in
      each_next_look (λ (o : Outcome). Q (LookedAtHost other ∷ exiting o)) change h.topics.host h.topics.row other v (refused other OutOfRange (λ e. cc e))
      (refused other IsHuge (λ e. cc e)) (looks other) (looks other) (refused other NotAligned (λ e. cc e))
  run_tells_so Change changes page change h v =
      either_place Q (is_several h.topics.invalidations.own.pages) _ _
      (either_place Q (v == word_next h.topics.invalidations.own.pages) (page_changed h.topics.invalidations.own.pages) []
      (changed_so (changes refl) h.topics.invalidations.own.pages) none)
      (either_place Q (v == word_looked h.topics.host) (HostChanged page (entry_of (as_it_is (word_looked h.topics.host))) ∷ []) [] (changes refl page _)
      none)
  run_tells_so _ changes page change h v = none
