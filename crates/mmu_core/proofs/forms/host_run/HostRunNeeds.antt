-- A line that maps a run of host pages as one, or its pages by themselves, has what each of its steps needs.
use Rattle.std.proofs.Common.{◌≡◌, ℕ, Bool, true, false, refl, ap, ◌∙◌}
use Rattle.std.specs.Option.{IfSome}
use Rattle.std.specs.Prelude.{◌&&◌, if◌then◌else◌, nat_lt, Option, Some, None}
use Rattle.core_views.specs.declared.place.EndPlace.{EndPlace}
use Rattle.core_views.specs.declared.place.EndPlace.TheVariants as ends
use Rattle.core_views.specs.declared.place.HostRunPlace.{HostRunPlace}
use Rattle.core_views.specs.declared.place.HostRunPlace.TheVariants.{Look, LookOn, Begin, Change, End}
use Rattle.core_views.specs.declared.topics.Checked.{Checked}
use Rattle.core_views.specs.declared.topics.OwnedFrame.{OwnedFrame}
use Rattle.core_views.specs.declared.topics.PageRun.{PageRun}
use Rattle.core_views.specs.declared.trace.HostChange.TheVariants.{Allow, Protect}
use Rattle.core_views.specs.declared.trace.RunChange.{RunChange}
use Rattle.core_views.specs.Held.{Held}
use Rattle.core_views.specs.HostRuns.{owns_run}
use Rattle.spte_words.specs.HostWords.{host_allows_write, with_writes}
use Rattle.part_steps.specs.declared.part_step.PartStep.TheVariants as part
use Rattle.part_steps.specs.FrameHoldings.{revises}
use Rattle.part_steps.specs.FrameTopics.{is_uncopied}
use Rattle.part_steps.specs.InvalidationHoldings.{MayChangeNext}
use Rattle.part_steps.specs.PageRuns.{is_several}
use Rattle.part_steps.specs.PartBounds.{PartRests}
use Rattle.part_steps.specs.PartSteps.{PartNeeds}
use Rattle.part_steps.specs.PartTasks.{word_looked}
use Rattle.part_steps.specs.StayTopics.{is_alone}
use Rattle.mmu_core.specs.forms.host.HostKnows.{HasFlushed}
use Rattle.mmu_core.specs.forms.host_run.HostRunKnows.{ChangesPages, ChangesRun, HasFlushedRun, HostRunKnows, HostRunRests}
use Rattle.mmu_core.specs.forms.host_run.HostRunSteps.{as_it_is, host_run_part, page_after, run_target}
use Rattle.mmu_core.specs.lines.PartWaits.{own_open, was_counted}
use Rattle.mmu_core.specs.orders.InvalidateKnows.{EndKnows}
use Rattle.mmu_core.proofs.forms.host.HostMoves.{revises_it}
use Rattle.mmu_core.proofs.forms.host.HostNeeds.{look_needs, may_change, own_low}
use Rattle.mmu_core.proofs.forms.host_run.RunLooks.{page_own}
use Rattle.mmu_core.proofs.forms.host_run.RunTargets.{next_own, run_is_aimed, run_opens_own, target_is_small}
use Rattle.mmu_core.proofs.orders.InvalidateNeeds.{begin_needs, end_needs}

-- It gives the lock back once it has ended its invalidation, and saw none of others.
run_ends_rest : (p : EndPlace) (h : Held) → EndKnows p h.topics → HostRunRests (End p) h
run_ends_rest ends.Release h K = ap (λ (c : Checked). was_counted c && nat_lt (own_open h.topics.invalidations) h.topics.invalidations.count) K.1
run_ends_rest _ h K = tt

-- ---- the changes

-- A page that stays as it is has one of the words that it may be given.
stays_revised : (words : ℕ) (owned : Option OwnedFrame) (word : ℕ) → owned ≡ None → revises words owned word (as_it_is word) ≡ true
stays_revised words owned word none =
    ap (λ (o : Option OwnedFrame). revises words o word (as_it_is word)) none ∙ by (host_allows_write word)
  where
    by : (allows : Bool) → revises words None word (with_writes allows word) ≡ true
    by true = revises_it Allow words None word (record { owns = refl; all = λ moving. absurd (cc moving) })
    by false = revises_it Protect words None word (record { owns = refl; all = λ moving. absurd (cc moving) })

-- The next page of the run may be changed.
next_may : (h : Held) (page : ℕ) (change : RunChange) (o : Option PageRun) → h.topics.invalidations.own.pages ≡ o → is_several o ≡ true
    → IfSome o (ChangesRun page change) → HasFlushedRun h → MayChangeNext h
next_may h page change None is several C F = absurd (cc several)
next_may h page change (Some run) is several C F = record {
  run = run;
  is = is;
  several = C.level.0;
  left = C.left;
  opened = F.opened.opened;
  unraised = F.opened.unraised;
  asked = F.asked;
  awaited = F.awaited;
  unlocked = ap is_alone F.opened.rests.loose;
}

change_needs : (h : Held) (page : ℕ) (change : RunChange) (b : Bool) → is_several h.topics.invalidations.own.pages ≡ b → HasFlushedRun h
    → h.topics.frames.owned ≡ None → ChangesPages b page change h
    → PartNeeds (if b then part.ChangeNext else part.Change (as_it_is (word_looked h.topics.host))) h
change_needs h page change true several F none C = next_may h page change h.topics.invalidations.own.pages refl several C F
change_needs h page change false several F none C =
    let flushed : HasFlushed page h =
    record { owns_none = F.owns_none; opened = F.opened; invalid = C.is; asked = F.asked; awaited = F.awaited } in
    (may_change page h C.looks flushed, stays_revised h.state.sizes.words h.topics.frames.owned (word_looked h.topics.host) none)

-- ---- all steps

pub host_run_needs : (p : HostRunPlace) (h : Held) (page : ℕ) (change : RunChange) → PartRests h → HostRunKnows p page change h
    → PartNeeds (host_run_part p page change h) h × HostRunRests p h
host_run_needs Look h page change R K = (
  look_needs (owns_run h.state.sizes h.state.actor page change) page h
      (λ e. own_low h.state.sizes h.state.actor page R.sizes (page_own h.state.sizes h.state.actor page change e)) K.0.loose,
  tt,
)
host_run_needs LookOn h page change R K =
    ((own_low h.state.sizes h.state.actor (page_after page change h.topics) R.sizes (next_own page h R change K.2 K.3), ap is_alone K.0.loose), tt)
host_run_needs (Begin p) h page change R K = (
  begin_needs p h (run_target page h.topics) R (target_is_small page h.topics) (run_is_aimed page h K.0.looks.looked K.0.looks.at K.2)
      (run_opens_own page change h R K.0 K.2) (ap is_uncopied K.3) K.1,
  tt,
)
host_run_needs Change h page change R K =
    (change_needs h page change (is_several h.topics.invalidations.own.pages) refl K.0 K.1 K.2, tt)
host_run_needs (End p) h page change R K = (end_needs p h K.0, run_ends_rest p h K.0)
