-- Where a line that maps a run of host pages as one, or its pages by themselves, stands after a step: no page is retired, no frame is owned, and its own
-- invalidation is open where its place says so.
use Rattle.std.proofs.Common.{◌≡◌, ℕ, Bool, true, false, refl, ap, ◌∙◌}
use Rattle.std.specs.Prelude.{◌==◌, if◌then◌else◌, None}
use Rattle.core_views.specs.declared.answer.Answer.TheVariants.{Refused}
use Rattle.core_views.specs.declared.answer.Refusal.TheVariants.{OutOfRange}
use Rattle.core_views.specs.declared.place.EndPlace.TheVariants as ends
use Rattle.core_views.specs.declared.place.HostRunPlace.{HostRunPlace}
use Rattle.core_views.specs.declared.place.HostRunPlace.TheVariants.{Look, LookOn, Begin, Change, End}
use Rattle.core_views.specs.declared.place.Place.{Place}
use Rattle.core_views.specs.declared.place.Place.TheVariants as place
use Rattle.core_views.specs.declared.sizes.Sizes.{Sizes}
use Rattle.core_views.specs.declared.topics.Frames.{Frames as HeldFrames}
use Rattle.core_views.specs.declared.topics.Topics.{Topics}
use Rattle.core_views.specs.declared.trace.RunChange.{RunChange}
use Rattle.core_views.specs.Held.{Held}
use Rattle.core_views.specs.HostRuns.{owns_run}
use Rattle.spte_words.specs.HostWords.{host_frame}
use Rattle.part_steps.specs.declared.invalidations.Target.{Target}
use Rattle.part_steps.specs.declared.part_step.PartStep.TheVariants as part
use Rattle.part_steps.specs.PageRuns.{is_several, one_look}
use Rattle.part_steps.specs.PartBounds.{PartRests}
use Rattle.part_steps.specs.PartTasks.{word_looked}
use Rattle.part_steps.specs.PartTopics.{part_topics}
use Rattle.mmu_core.specs.declared.invalidate.BeginNext.{BeginNext}
use Rattle.mmu_core.specs.declared.invalidate.BeginNext.TheVariants as begins_next
use Rattle.mmu_core.specs.declared.invalidate.EndNext.{EndNext}
use Rattle.mmu_core.specs.declared.invalidate.EndNext.TheVariants as ends_next
use Rattle.mmu_core.specs.declared.outcome.Outcome.TheVariants.{Ends}
use Rattle.mmu_core.specs.forms.access.FaultLaws.{CanAnswer}
use Rattle.mmu_core.specs.forms.host_run.HostRunKnows.{HostRunKnows}
use Rattle.mmu_core.specs.forms.host_run.HostRunSteps.{after_run_begin, after_run_change, after_run_end, after_run_look, as_it_is, host_run_outcome}
use Rattle.mmu_core.specs.forms.host_run.HostRunSteps.{host_run_part, run_target}
use Rattle.mmu_core.specs.lines.Forms.{RetiresPart}
use Rattle.mmu_core.specs.machine.Outcomes.{place_after}
use Rattle.mmu_core.specs.orders.InvalidateSteps.{begin_next, end_next}
use Rattle.mmu_core.proofs.forms.host_run.HostRunKnown.{none_after}
use Rattle.mmu_core.proofs.forms.host_run.HostRunPlaces.{each_change}
use Rattle.mmu_core.proofs.forms.host_run.RunTargets.{run_is_aimed, target_is_small}
use Rattle.mmu_core.proofs.orders.InvalidateKnown.{BeginComes, EndComes, begin_known, ending_known}
use Rattle.mmu_core.proofs.orders.InvalidatePlaces.{begin_leaves_pages, end_leaves_pages, not_yet_open}

-- Whoever has none of them may stand anywhere.
rests_anywhere : (p : Place) (u : Topics) → u.retired ≡ None → u.invalidations.opened ≡ false → u.frames.owned ≡ None → RetiresPart p u
rests_anywhere p u none closed no_frame = record { leaves = λ may. none; opens = λ may. closed; frames = λ may. no_frame }

look_leaves : (own_ : Bool) (page v : ℕ) (change : RunChange) (t : Topics) → t.retired ≡ None → t.invalidations.opened ≡ false → t.frames.owned ≡ None
    → RetiresPart
    (place_after (if own_ then after_run_look change (record { page = page; word = v }) one_look v else Ends (Refused OutOfRange)))
    (part_topics (if own_ then part.Host page else part.Seq) t v)
look_leaves true page v change t none closed no_frame = rests_anywhere _ (part_topics (part.Host page) t v) none closed no_frame
look_leaves false page v change t none closed no_frame = rests_anywhere place.Between (part_topics part.Seq t v) none closed no_frame

begin_left_run : (next : BeginNext) (z : Sizes) (target : Target) (u : Topics) → u.retired ≡ None → u.frames.owned ≡ None → BeginComes next z target u
    → RetiresPart (place.HostRun (after_run_begin next)) u
begin_left_run (begins_next.Goes p) z target u none no_frame C =
    record { leaves = λ may. none; opens = λ may. not_yet_open p z target u may C; frames = λ may. no_frame }
begin_left_run begins_next.Begun z target u none no_frame C =
    record { leaves = λ may. none; opens = λ may. absurd (cc may); frames = λ may. no_frame }

end_left_run : (next : EndNext) (u : Topics) → u.retired ≡ None → u.frames.owned ≡ None → EndComes next u → RetiresPart (place_after (after_run_end next)) u
end_left_run (ends_next.Goes ends.Release) u none no_frame C = record { leaves = λ may. none; opens = λ may. C.0.is; frames = λ may. no_frame }
end_left_run (ends_next.Goes _) u none no_frame C = record { leaves = λ may. none; opens = λ may. absurd (cc may); frames = λ may. no_frame }
end_left_run ends_next.Ended u none no_frame C = record { leaves = λ may. none; opens = λ may. C.1; frames = λ may. no_frame }

-- Its invalidation is open while it changes pages.
changing_left : (t u : Topics) (v : ℕ) → u.retired ≡ None → u.frames.owned ≡ None → RetiresPart (place.HostRun (after_run_change t v)) u
changing_left t u v none no_frame =
    each_change (λ q. RetiresPart (place.HostRun q) u) t v
    (record { leaves = λ may. none; opens = λ may. absurd (cc may); frames = λ may. no_frame })
    (record { leaves = λ may. none; opens = λ may. absurd (cc may); frames = λ may. no_frame })

changed_leaves : (b : Bool) (t : Topics) (v : ℕ) → t.retired ≡ None → t.frames.owned ≡ None
    → RetiresPart (place.HostRun (after_run_change t v)) (part_topics (if b then part.ChangeNext else part.Change (as_it_is (word_looked t.host))) t v)
changed_leaves true t v none no_frame = changing_left t (part_topics part.ChangeNext t v) v none no_frame
changed_leaves false t v none no_frame =
    changing_left t (part_topics (part.Change (as_it_is (word_looked t.host))) t v) v none
    (none_after (v == word_looked t.host) (host_frame (word_looked t.host)) t.frames.owned no_frame)

pub host_run_leaves : (p : HostRunPlace) (page : ℕ) (change : RunChange) (h : Held) (v : ℕ) → PartRests h → HostRunKnows p page change h
    → RetiresPart (place.HostRun p) h.topics → CanAnswer (host_run_part p page change h) v
    → RetiresPart (place_after (host_run_outcome p page change h v)) (part_topics (host_run_part p page change h) h.topics v)
host_run_leaves Look page change h v R K left A =
    look_leaves (owns_run h.state.sizes h.state.actor page change) page v change h.topics (left.leaves refl) (left.opens refl) (left.frames refl)
host_run_leaves LookOn page change h v R K left A =
    rests_anywhere _ (part_topics (host_run_part LookOn page change h) h.topics v) (left.leaves refl) (left.opens refl) (left.frames refl)
host_run_leaves (Begin p) page change h v R K left A =
    let target : Target = run_target page h.topics in
    begin_left_run (begin_next p h.state.sizes target h.topics v) h.state.sizes target _
    ((begin_leaves_pages p target h.topics v).retired ∙ left.leaves refl)
    (ap (λ (f : HeldFrames). f.owned) (begin_leaves_pages p target h.topics v).frames ∙ left.frames refl)
    (begin_known p h.state.sizes target h.topics v R.sizes (target_is_small page h.topics) (run_is_aimed page h K.0.looks.looked K.0.looks.at K.2)
    R.frames R.row R.level K.1 A)
host_run_leaves Change page change h v R K left A =
    changed_leaves (is_several h.topics.invalidations.own.pages) h.topics v (left.leaves refl) (left.frames refl)
host_run_leaves (End p) page change h v R K left A =
    end_left_run (end_next p v) _ ((end_leaves_pages p h.topics v).retired ∙ left.leaves refl)
    (ap (λ (f : HeldFrames). f.owned) (end_leaves_pages p h.topics v).frames ∙ left.frames refl) (ending_known p h.topics v K.0 A)
