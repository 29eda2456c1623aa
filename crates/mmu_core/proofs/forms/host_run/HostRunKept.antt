-- The steps of a line that maps a run of host pages as one, or its pages by themselves, keep the invariant.
use Rattle.std.proofs.Common.{◌≡◌, ℕ, false, refl}
use Rattle.std.specs.Prelude.{Bool, true}
use Rattle.core_views.specs.declared.answer.Answer.TheVariants.{Refused}
use Rattle.core_views.specs.declared.answer.Refusal.TheVariants.{OutOfRange}
use Rattle.core_views.specs.declared.place.EndPlace.TheVariants as ends
use Rattle.core_views.specs.declared.place.HostRunPlace.{HostRunPlace}
use Rattle.core_views.specs.declared.place.HostRunPlace.TheVariants.{Look, LookOn, Begin, Change, End}
use Rattle.core_views.specs.declared.place.Place.TheVariants as place
use Rattle.core_views.specs.declared.sizes.Sizes.{Sizes}
use Rattle.core_views.specs.declared.trace.Command.{Command}
use Rattle.core_views.specs.declared.trace.Command.TheVariants.{ChangeRun}
use Rattle.core_views.specs.declared.trace.Line.{Line}
use Rattle.core_views.specs.declared.trace.RunChange.{RunChange}
use Rattle.core_views.specs.Held.{Held}
use Rattle.core_views.specs.HostRuns.{owns_run}
use Rattle.spte_words.specs.declared.area.Area.{Area}
use Rattle.spte_words.specs.declared.area.Area.TheVariants as area
use Rattle.part_steps.specs.declared.part_step.PartStep.TheVariants as part
use Rattle.part_steps.specs.PageRuns.{is_several, one_look}
use Rattle.part_steps.specs.PartBounds.{PartRests}
use Rattle.part_steps.specs.PartTasks.{own_index, part_task}
use Rattle.mmu_core.specs.declared.outcome.Outcome.TheVariants.{Ends}
use Rattle.mmu_core.specs.forms.host_run.HostRunSteps.{host_run_note, host_run_outcome, host_run_part, page_after, run_target}
use Rattle.mmu_core.specs.invariant.Invariant.{Holds, Invariant, KnowsPart, RetiresPart}
use Rattle.mmu_core.specs.invariant.TopicsInvariant.{TopicsInvariant}
use Rattle.mmu_core.specs.machine.Outcomes.{place_after}
use Rattle.mmu_core.specs.machine.View.{View, answer_in, stepped}
use Rattle.mmu_core.proofs.forms.access.FaultKnown.{parts_answer}
use Rattle.mmu_core.proofs.forms.host_run.HostRunKnown.{host_run_known}
use Rattle.mmu_core.proofs.forms.host_run.HostRunMakes.{makes_host_run}
use Rattle.mmu_core.proofs.forms.host_run.HostRunNeeds.{host_run_needs}
use Rattle.mmu_core.proofs.forms.host_run.HostRunPlaces.{each_look, each_next_look}
use Rattle.mmu_core.proofs.forms.host_run.HostRunRetires.{host_run_leaves}
use Rattle.mmu_core.proofs.invariant.FormKept.{FormKept}
use Rattle.mmu_core.proofs.invariant.PartBounded.{part_rests_at}
use Rattle.mmu_core.proofs.invariant.QuietHand.{one_step, quiet_hand}
use Rattle.mmu_core.proofs.invariant.QuietKept.{MakesAt}
use Rattle.mmu_core.proofs.lines.EitherPlace.{either_place}
use Rattle.mmu_core.proofs.lines.KnowsKept.{KnowsAfter, step_knows, step_leaves}
use Rattle.mmu_core.proofs.lines.StepTopics.{knows_by}
use Rattle.mmu_core.proofs.machine.PartStepping.{IsPart, changes_word, is_publish}
use Rattle.mmu_core.proofs.machine.Stepping.{IsStep}
use Rattle.mmu_core.proofs.orders.InvalidatePlaces.{begin_plain, end_plain}
use Rattle.mmu_core.proofs.slots.SlotsStay.{AllKnow}

-- It publishes nothing.
pub host_run_never : (p : HostRunPlace) (page : ℕ) (change : RunChange) (h : Held) → is_publish (host_run_part p page change h) ≡ false
host_run_never Look page change h =
    either_place (λ s. is_publish s ≡ false) (owns_run h.state.sizes h.state.actor page change) (part.Host page) part.Seq refl refl
host_run_never LookOn page change h = refl
host_run_never (Begin p) page change h = (begin_plain p (run_target page h.topics) h.topics).never
host_run_never Change page change h =
    either_place (λ s. is_publish s ≡ false) (is_several h.topics.invalidations.own.pages) part.ChangeNext (part.Change _) refl refl
host_run_never (End p) page change h = (end_plain p h.topics).never

-- And but for its changes it changes no host word.
abbrev pub is_change : HostRunPlace → Bool
is_change Change = true
is_change _ = false

pub host_run_quiet : (p : HostRunPlace) (page : ℕ) (change : RunChange) (h : Held) → is_change p ≡ false
    → changes_word (host_run_part p page change h) ≡ false
host_run_quiet Look page change h other =
    either_place (λ s. changes_word s ≡ false) (owns_run h.state.sizes h.state.actor page change) (part.Host page) part.Seq refl refl
host_run_quiet LookOn page change h other = refl
host_run_quiet (Begin p) page change h other = (begin_plain p (run_target page h.topics) h.topics).quiet
host_run_quiet Change page change h other = absurd (cc other)
host_run_quiet (End p) page change h other = (end_plain p h.topics).quiet

-- It has loaded nothing that its places speak of.
host_run_holds : (p : HostRunPlace) (page : ℕ) (change : RunChange) (h g : Held) (x : ℕ) (z : Sizes) (pool : ℕ → ℕ) (set : ℕ)
    → Holds z pool set (place_after (host_run_outcome p page change h x)) (ChangeRun page change) g
host_run_holds Look page change h g x z pool set =
    either_place (λ o. Holds z pool set (place_after o) (ChangeRun page change) g)
    (owns_run h.state.sizes h.state.actor page change) _ (Ends (Refused OutOfRange))
    (each_look (λ o. Holds z pool set (place_after o) (ChangeRun page change) g) change (record { page = page; word = x }) one_look x tt tt tt tt) tt
host_run_holds LookOn page change h g x z pool set =
    each_next_look (λ o. Holds z pool set (place_after o) (ChangeRun page change) g) change h.topics.host h.topics.row (page_after page change h.topics) x
    tt tt tt tt tt
host_run_holds (End ends.Release) page change h g x z pool set = tt
host_run_holds (End _) page change h g x z pool set = tt
host_run_holds _ page change h g x z pool set = tt

pub host_run_kept : (z : Sizes) (v : View) (a : ℕ) (line : Line) (p : HostRunPlace) (page : ℕ) (change : RunChange)
    → IsStep z v a line (ChangeRun page change) (place.HostRun p) → Invariant z v → TopicsInvariant z v
    → MakesAt z v a (place.HostRun p) (ChangeRun page change) → AllKnow z (stepped a line (ChangeRun page change) (place.HostRun p) v).hand
    → Invariant z (stepped a line (ChangeRun page change) (place.HostRun p) v)
host_run_kept z v a line p page change S I P makes knows =
    let h : Held = v.hand a in
    let x : ℕ = answer_in (part_task (host_run_part p page change h) (own_index h) h.topics (host_run_note p change)) v.words in
    let K = step_knows z v a line (ChangeRun page change) (place.HostRun p) S I in
    let R = part_rests_at z v a I P S.there in
    let A = parts_answer (host_run_part p page change h) (own_index h) h.topics (host_run_note p change) v.words in
    quiet_hand z v a line (ChangeRun page change) (place.HostRun p) S I P makes (host_run_needs p h page change R K) (record {
      never = one_step (λ s. is_publish s ≡ false) (host_run_part p page change h) (host_run_never p page change h);
      same = refl;
      caches = refl;
      leaves = host_run_leaves p page change h x R K (step_leaves z v a line (ChangeRun page change) (place.HostRun p) S I) A;
      holds = λ cached. host_run_holds p page change h _ x z _ (v.words area.Slots 0);
    }) knows

pub own_host_run : (p : HostRunPlace) (line : Line) (h : Held) (page : ℕ) (change : RunChange) (words : Area → ℕ → ℕ) → PartRests h
    → KnowsPart (place.HostRun p) (ChangeRun page change) h → RetiresPart (place.HostRun p) h.topics
    → KnowsAfter line (ChangeRun page change) (place.HostRun p) h
    (answer_in (part_task (host_run_part p page change h) (own_index h) h.topics (host_run_note p change)) words)
own_host_run p line h page change words R K left =
    let v : ℕ = answer_in (part_task (host_run_part p page change h) (own_index h) h.topics (host_run_note p change)) words in
    let A = parts_answer (host_run_part p page change h) (own_index h) h.topics (host_run_note p change) words in
    knows_by (place.HostRun p) line (ChangeRun page change) h v (host_run_needs p h page change R K)
    (λ cached. host_run_known line h page change cached v p R K left.opens A)

-- ---- all of it

pub host_run_keeps : (p : HostRunPlace) (c : Command) → FormKept (place.HostRun p) c
host_run_keeps p (ChangeRun page change) = record {
  needs = λ z v a line S I P.
      host_run_needs p (v.hand a) page change (part_rests_at z v a I P S.there) (step_knows z v a line (ChangeRun page change) (place.HostRun p) S I);
  knows = λ z v a line S I P there.
      own_host_run p line (v.hand a) page change v.words (part_rests_at z v a I P there)
      (step_knows z v a line (ChangeRun page change) (place.HostRun p) S I) (step_leaves z v a line (ChangeRun page change) (place.HostRun p) S I);
  makes = λ z v a line small S I P.
      one_step (IsPart z v a) (host_run_part p page change (v.hand a)) (makes_host_run z v a line p page change small S I P);
  kept = λ z v a line S I P makes knows. host_run_kept z v a line p page change S I P makes knows;
}
host_run_keeps p _ = record {
  needs = λ z v a line S I P. absurd S.holds;
  knows = λ z v a line S I P there. absurd S.holds;
  makes = λ z v a line small S I P. absurd S.holds;
  kept = λ z v a line S I P makes knows. absurd S.holds;
}
