-- The steps of a line that changes a host page keep the invariant.
use Rattle.core_views.specs.declared.answer.Refusal.TheVariants.{NoFrame, OutOfRange, IsHuge}
use Rattle.core_views.specs.declared.answer.Answer.TheVariants.{Done, Refused}
use Rattle.mmu_core.specs.declared.outcome.Outcome.TheVariants.{Goes, Ends}
use Rattle.mmu_core.proofs.slots.SlotsStay.{AllKnow}
use Rattle.mmu_core.proofs.machine.Stepping.{IsStep}
use Rattle.mmu_core.specs.machine.Outcomes.{place_after}
use Rattle.std.proofs.Common.{◌≡◌, ℕ, Bool, false, refl, true}
use Rattle.std.specs.Prelude.{if◌then◌else◌}
use Rattle.core_views.specs.declared.place.BeginPlace.TheVariants as begins
use Rattle.core_views.specs.declared.place.EndPlace.TheVariants as ends
use Rattle.core_views.specs.declared.place.HostPlace.{HostPlace}
use Rattle.core_views.specs.declared.place.HostPlace.TheVariants.{Look, Claim, Begin, Change, End, Watch}
use Rattle.core_views.specs.declared.place.Place.TheVariants as place
use Rattle.core_views.specs.declared.sizes.Sizes.{Sizes}
use Rattle.core_views.specs.declared.trace.Command.TheVariants.{ChangeHost}
use Rattle.core_views.specs.declared.trace.HostChange.{HostChange}
use Rattle.core_views.specs.declared.trace.Line.{Line}
use Rattle.core_views.specs.Held.{Held}
use Rattle.core_views.specs.HostChanges.{is_own}
use Rattle.spte_words.specs.declared.area.Area.{Area}
use Rattle.part_steps.specs.declared.part_step.PartStep.{PartStep}
use Rattle.part_steps.specs.declared.part_step.PartStep.TheVariants as part
use Rattle.part_steps.specs.PartBounds.{PartRests}
use Rattle.part_steps.specs.PartTasks.{own_index, part_task}
use Rattle.mmu_core.specs.invariant.Invariant.{Invariant, KnowsPart, RetiresPart, Holds}
use Rattle.mmu_core.specs.invariant.TopicsInvariant.{TopicsInvariant}
use Rattle.mmu_core.specs.forms.host.HostSteps.{host_note, host_outcome, host_part, moves, after_look, maps_large}
use Rattle.mmu_core.specs.machine.View.{View, answer_in, stepped}
use Rattle.mmu_core.proofs.invariant.QuietHand.{one_step, quiet_hand}
use Rattle.mmu_core.proofs.invariant.QuietKept.{MakesAt}
use Rattle.mmu_core.proofs.lines.EitherPlace.{each_claim, either_place}
use Rattle.mmu_core.proofs.forms.access.FaultKnown.{parts_answer}
use Rattle.mmu_core.specs.orders.ClaimSteps.{Frames, claim_next}
use Rattle.mmu_core.proofs.orders.ClaimMade.{claim_is}
use Rattle.mmu_core.proofs.forms.host.HostKnown.{host_known}
use Rattle.mmu_core.proofs.forms.host.HostRetires.{host_leaves}
use Rattle.mmu_core.proofs.forms.host.HostNeeds.{host_needs}
use Rattle.mmu_core.proofs.lines.KnowsKept.{KnowsAfter, step_knows, step_leaves}
use Rattle.mmu_core.proofs.lines.StepTopics.{knows_by}
use Rattle.mmu_core.proofs.invariant.PartBounded.{part_rests_at}
use Rattle.mmu_core.proofs.machine.PartStepping.{is_publish, changes_word}
use Rattle.spte_words.specs.declared.area.Area.TheVariants as area
use Rattle.core_views.specs.declared.trace.Command.{Command}
use Rattle.mmu_core.proofs.forms.host.HostMakes.{makes_host}
use Rattle.mmu_core.proofs.invariant.FormKept.{FormKept}
use Rattle.mmu_core.proofs.machine.PartStepping.{IsPart}

-- It publishes nothing.
begin_never : (begun : Bool) (p q : PartStep) → is_publish p ≡ false → is_publish q ≡ false → is_publish (if begun then p else q) ≡ false
begin_never begun p q one other = either_place (λ s. is_publish s ≡ false) begun p q one other

pub host_never : (p : HostPlace) (page : ℕ) (change : HostChange) (h : Held) → is_publish (host_part p page change h) ≡ false
host_never (Claim begun) page change h = claim_is (λ s. is_publish s ≡ false) Frames begun h.topics.frames.claim refl (λ word. refl)
host_never (Look moving) page change h = begin_never (is_own h.state.sizes h.state.actor page) (part.Host page) part.Seq refl refl
host_never (Begin (begins.Find begun)) page change h = begin_never begun part.Slot part.Slots refl refl
host_never (Begin (begins.Walk rooted)) page change h = begin_never rooted (part.Sweep _) part.Root refl refl
host_never (Begin _) page change h = refl
host_never (End ends.Exclude) page change h = refl
host_never (End _) page change h = refl
host_never _ page change h = refl

-- And but for its change it changes no host word.
abbrev pub is_change : HostPlace → Bool
is_change Change = true
is_change _ = false

pub host_quiet : (p : HostPlace) (page : ℕ) (change : HostChange) (h : Held) → is_change p ≡ false → changes_word (host_part p page change h) ≡ false
host_quiet (Claim begun) page change h other =
    claim_is (λ s. changes_word s ≡ false) Frames begun h.topics.frames.claim refl (λ word. refl)
host_quiet (Look moving) page change h other =
    either_place (λ s. changes_word s ≡ false) (is_own h.state.sizes h.state.actor page) (part.Host page) part.Seq refl refl
host_quiet (Begin (begins.Find begun)) page change h other = either_place (λ s. changes_word s ≡ false) begun part.Slot part.Slots refl refl
host_quiet (Begin (begins.Walk rooted)) page change h other = either_place (λ s. changes_word s ≡ false) rooted (part.Sweep _) part.Root refl refl
host_quiet (Begin _) page change h other = refl
host_quiet Change page change h other = absurd (cc other)
host_quiet (End ends.Exclude) page change h other = refl
host_quiet (End _) page change h other = refl
host_quiet _ page change h other = refl

-- It has loaded nothing that its places speak of.
host_holds : (p : HostPlace) (page : ℕ) (change : HostChange) (h g : Held) (x : ℕ) (z : Sizes) (pool : ℕ → ℕ) (set : ℕ)
    → Holds z pool set (place_after (host_outcome p page h x)) (ChangeHost page change) g
host_holds (Look moving) page change h g x z pool set =
    either_place (λ o. Holds z pool set (place_after o) (ChangeHost page change) g) (is_own h.state.sizes h.state.actor page) (after_look moving x)
    (Ends (Refused OutOfRange))
    (either_place (λ o. Holds z pool set (place_after o) (ChangeHost page change) g) (maps_large x) (Ends (Refused IsHuge))
    (Goes (place.Host (if moving then Claim false else Begin begins.Exclude))) tt tt) tt
host_holds (Claim begun) page change h g x z pool set =
    each_claim (λ o. Holds z pool set (place_after o) (ChangeHost page change) g) (claim_next Frames begun h.state.sizes h.topics.frames.claim x)
    (place.Host (Claim true)) (place.Host (Begin begins.Exclude)) (Refused NoFrame) tt tt tt
host_holds (End ends.Release) page change h g x z pool set =
    either_place (λ o. Holds z pool set (place_after o) (ChangeHost page change) g) (moves h.topics) (Goes (place.Host Watch)) (Ends Done) tt tt
host_holds (End _) page change h g x z pool set = tt
host_holds _ page change h g x z pool set = tt

pub host_kept : (z : Sizes) (v : View) (a : ℕ) (line : Line) (p : HostPlace) (page : ℕ) (change : HostChange)
    → IsStep z v a line (ChangeHost page change) (place.Host p) → Invariant z v → TopicsInvariant z v → MakesAt z v a (place.Host p) (ChangeHost page change)
    → AllKnow z (stepped a line (ChangeHost page change) (place.Host p) v).hand → Invariant z (stepped a line (ChangeHost page change) (place.Host p) v)
host_kept z v a line p page change S I P makes knows =
    let h : Held = v.hand a in
    let x : ℕ = answer_in (part_task (host_part p page change h) (own_index h) h.topics (host_note p page h)) v.words in
    let K = step_knows z v a line (ChangeHost page change) (place.Host p) S I in
    let R = part_rests_at z v a I P S.there in
    let A = parts_answer (host_part p page change h) (own_index h) h.topics (host_note p page h) v.words in
    quiet_hand z v a line (ChangeHost page change) (place.Host p) S I P makes (host_needs p h page change R K) (record {
      never = one_step (λ s. is_publish s ≡ false) (host_part p page change h) (host_never p page change h);
      same = refl;
      caches = refl;
      leaves = host_leaves p page change h x R K (step_leaves z v a line (ChangeHost page change) (place.Host p) S I) A;
      holds = λ cached. host_holds p page change h _ x z _ (v.words area.Slots 0);
    }) knows

pub own_host : (p : HostPlace) (line : Line) (h : Held) (page : ℕ) (change : HostChange) (words : Area → ℕ → ℕ) → PartRests h
    → KnowsPart (place.Host p) (ChangeHost page change) h → RetiresPart (place.Host p) h.topics
    → KnowsAfter line (ChangeHost page change) (place.Host p) h
    (answer_in (part_task (host_part p page change h) (own_index h) h.topics (host_note p page h)) words)
own_host p line h page change words R K left =
    let v : ℕ = answer_in (part_task (host_part p page change h) (own_index h) h.topics (host_note p page h)) words in
    let A = parts_answer (host_part p page change h) (own_index h) h.topics (host_note p page h) words in
    knows_by (place.Host p) line (ChangeHost page change) h v (host_needs p h page change R K)
    (λ cached. host_known line h page change cached v p R K left.opens A)

-- ---- all of it

pub host_keeps : (p : HostPlace) (c : Command) → FormKept (place.Host p) c
host_keeps p (ChangeHost page change) = record {
  needs = λ z v a line S I P.
      host_needs p (v.hand a) page change (part_rests_at z v a I P S.there) (step_knows z v a line (ChangeHost page change) (place.Host p) S I);
  knows = λ z v a line S I P there.
      own_host p line (v.hand a) page change v.words (part_rests_at z v a I P there) (step_knows z v a line (ChangeHost page change) (place.Host p) S I)
      (step_leaves z v a line (ChangeHost page change) (place.Host p) S I);
  makes = λ z v a line small S I P.
      one_step (IsPart z v a) (host_part p page change (v.hand a)) (makes_host z v a line p page change small S I P);
  kept = λ z v a line S I P makes knows. host_kept z v a line p page change S I P makes knows;
}
host_keeps p _ = record {
  needs = λ z v a line S I P. absurd S.holds;
  knows = λ z v a line S I P there. absurd S.holds;
  makes = λ z v a line small S I P. absurd S.holds;
  kept = λ z v a line S I P makes knows. absurd S.holds;
}
