-- Where a line that changes a host page stands after a step: no page is retired, its own invalidation is open, and a frame is owned, where its place says so.
use Rattle.std.proofs.Common.{◌≡◌, ◌+◌, ℕ, Bool, true, false, refl, ap, ◌∙◌}
use Rattle.std.specs.Prelude.{◌==◌, if◌then◌else◌, nat_lt, None, is_some}
use Rattle.core_views.specs.declared.answer.Answer.TheVariants.{Refused}
use Rattle.core_views.specs.declared.answer.Refusal.TheVariants.{OutOfRange, IsHuge}
use Rattle.core_views.specs.declared.place.BeginPlace.TheVariants as begins
use Rattle.core_views.specs.declared.place.EndPlace.TheVariants as ends
use Rattle.core_views.specs.declared.place.HostPlace.{HostPlace}
use Rattle.core_views.specs.declared.place.HostPlace.TheVariants.{Look, Claim, Begin, Copy, Store, Change, End, Watch, Free}
use Rattle.core_views.specs.declared.place.Place.TheVariants as place
use Rattle.core_views.specs.declared.sizes.Sizes.{Sizes}
use Rattle.core_views.specs.declared.topics.Frames.{Frames as HeldFrames}
use Rattle.core_views.specs.declared.topics.Topics.{Topics}
use Rattle.core_views.specs.declared.trace.HostChange.{HostChange}
use Rattle.core_views.specs.Held.{Held}
use Rattle.core_views.specs.HostChanges.{is_own}
use Rattle.part_steps.specs.declared.invalidations.Target.{Target}
use Rattle.part_steps.specs.declared.invalidations.Target.TheVariants as aim
use Rattle.part_steps.specs.declared.part_step.PartStep.TheVariants as part
use Rattle.part_steps.specs.FrameTopics.{words_moved}
use Rattle.part_steps.specs.PartBounds.{PartRests}
use Rattle.part_steps.specs.PartTasks.{word_looked}
use Rattle.part_steps.specs.PartTopics.{part_topics}
use Rattle.mmu_core.specs.declared.claim.ClaimNext.{ClaimNext}
use Rattle.mmu_core.specs.declared.claim.ClaimNext.TheVariants as claims
use Rattle.mmu_core.specs.declared.invalidate.BeginNext.{BeginNext}
use Rattle.mmu_core.specs.declared.invalidate.BeginNext.TheVariants as begins_next
use Rattle.mmu_core.specs.declared.invalidate.EndNext.{EndNext}
use Rattle.mmu_core.specs.declared.invalidate.EndNext.TheVariants as ends_next
use Rattle.mmu_core.specs.declared.outcome.Outcome.TheVariants.{Goes, Ends}
use Rattle.mmu_core.specs.orders.ClaimSteps.{Frames}
use Rattle.mmu_core.specs.forms.access.FaultLaws.{CanAnswer}
use Rattle.mmu_core.specs.lines.Forms.{RetiresPart}
use Rattle.mmu_core.specs.forms.host.HostKnows.{HostKnows}
use Rattle.mmu_core.specs.forms.host.HostSteps.{after_begin, after_end, after_frame_claim, host_outcome, host_part, moves, word_put, maps_large}
use Rattle.mmu_core.specs.orders.InvalidateSteps.{begin_next, end_next}
use Rattle.mmu_core.specs.orders.WatchSteps.{watch_next}
use Rattle.mmu_core.specs.machine.Outcomes.{place_after}
use Rattle.mmu_core.proofs.orders.ClaimMade.{claim_leaves, claim_made, claim_opens}
use Rattle.mmu_core.proofs.orders.ClaimRests.{RestsAfterClaim, claim_rests}
use Rattle.mmu_core.proofs.lines.EitherPlace.{each_watch, either_place}
use Rattle.mmu_core.proofs.forms.host.HostMoves.{none_owned}
use Rattle.mmu_core.proofs.forms.host.HostNeeds.{looks_aimed}
use Rattle.mmu_core.proofs.orders.InvalidatePlaces.{begin_leaves_pages, end_leaves_pages, not_yet_open}
use Rattle.mmu_core.proofs.orders.InvalidateKnown.{BeginComes, EndComes, begin_known, ending_known}

look_leaves : (moving own_ large : Bool) (page : ℕ) (t : Topics) (v : ℕ) → t.retired ≡ None → t.invalidations.opened ≡ false → t.frames.owned ≡ None
    → RetiresPart (place_after (if own_ then (if large then Ends (Refused IsHuge) else Goes (place.Host (if moving then Claim false else Begin begins.Exclude)))
    else Ends (Refused OutOfRange))) (part_topics (if own_ then part.Host page else part.Seq) t v)
look_leaves moving false large page t v none closed loose = record { leaves = λ may. none; opens = λ may. closed; frames = λ may. loose }
look_leaves moving true true page t v none closed loose = record { leaves = λ may. none; opens = λ may. closed; frames = λ may. loose }
look_leaves true true false page t v none closed loose = record { leaves = λ may. none; opens = λ may. closed; frames = λ may. loose }
look_leaves false true false page t v none closed loose = record { leaves = λ may. none; opens = λ may. closed; frames = λ may. loose }

claim_left_host : (next : ClaimNext) (z : Sizes) (u : Topics) → u.retired ≡ None → u.invalidations.opened ≡ false → RestsAfterClaim Frames next z u
    → RetiresPart (place_after (after_frame_claim next)) u
claim_left_host claims.Goes z u none closed C = record { leaves = λ may. none; opens = λ may. closed; frames = λ may. C.1 }
claim_left_host claims.Got z u none closed C = record { leaves = λ may. none; opens = λ may. closed; frames = λ may. absurd (cc may) }
claim_left_host claims.Empty z u none closed C = record { leaves = λ may. none; opens = λ may. closed; frames = λ may. C.1 }

begin_left_host : (moving : Bool) (next : BeginNext) (z : Sizes) (target : Target) (u : Topics) → u.retired ≡ None → BeginComes next z target u
    → RetiresPart (place.Host (after_begin moving next)) u
begin_left_host moving (begins_next.Goes p) z target u none C =
    record { leaves = λ may. none; opens = λ may. not_yet_open p z target u may C; frames = λ may. absurd (cc may) }
begin_left_host true begins_next.Begun z target u none C =
    record { leaves = λ may. none; opens = λ may. absurd (cc may); frames = λ may. absurd (cc may) }
begin_left_host false begins_next.Begun z target u none C =
    record { leaves = λ may. none; opens = λ may. absurd (cc may); frames = λ may. absurd (cc may) }

end_left_host : (moving : Bool) (next : EndNext) (u : Topics) → u.retired ≡ None → is_some u.frames.owned ≡ moving → EndComes next u
    → RetiresPart (place_after (after_end moving next)) u
end_left_host moving (ends_next.Goes ends.Release) u none owns C =
    record { leaves = λ may. none; opens = λ may. C.0.is; frames = λ may. absurd (cc may) }
end_left_host moving (ends_next.Goes _) u none owns C =
    record { leaves = λ may. none; opens = λ may. absurd (cc may); frames = λ may. absurd (cc may) }
end_left_host true ends_next.Ended u none owns C = record { leaves = λ may. none; opens = λ may. C.1; frames = λ may. absurd (cc may) }
end_left_host false ends_next.Ended u none owns C =
    record { leaves = λ may. none; opens = λ may. C.1; frames = λ may. none_owned u.frames.owned owns }

pub host_leaves : (p : HostPlace) (page : ℕ) (change : HostChange) (h : Held) (v : ℕ) → PartRests h → HostKnows p page change h
    → RetiresPart (place.Host p) h.topics → CanAnswer (host_part p page change h) v
    → RetiresPart (place_after (host_outcome p page h v)) (part_topics (host_part p page change h) h.topics v)
host_leaves (Look moving) page change h v R K left A =
    look_leaves moving (is_own h.state.sizes h.state.actor page) (maps_large v) page h.topics v (left.leaves refl) (left.opens refl) (left.frames refl)
host_leaves (Claim begun) page change h v R K left A =
    let M = claim_made h.state.sizes Frames begun h.topics v in
    claim_left_host _ h.state.sizes _ (claim_leaves h.state.sizes Frames begun h.topics v _ _ _ M ∙ left.leaves refl)
    (ap (λ n. n.opened) (claim_opens h.state.sizes Frames begun h.topics v _ _ _ M) ∙ left.opens refl)
    (claim_rests h.state.sizes Frames begun h.topics v _ _ _ M K.0 K.2.owns_none K.2.within)
host_leaves (Begin p) page change h v R K left A =
    begin_left_host (moves h.topics) (begin_next p h.state.sizes (aim.Page page) h.topics v) h.state.sizes (aim.Page page) _
    ((begin_leaves_pages p (aim.Page page) h.topics v).retired ∙ left.leaves refl)
    (begin_known p h.state.sizes (aim.Page page) h.topics v R.sizes tt (looks_aimed page h K.0 K.3 K.4) R.frames R.row R.level K.1 A)
host_leaves Copy page change h v R K left A =
    record { leaves = λ may. left.leaves refl; opens = λ may. absurd (cc may); frames = λ may. absurd (cc may) }
host_leaves Store page change h v R K left A =
    either_place (λ q. RetiresPart (place.Host q) (part_topics (part.Store 0) h.topics v)) (nat_lt (words_moved h.topics.frames.owned + 1) h.state.sizes.words)
    Copy Change
    (record { leaves = λ may. left.leaves refl; opens = λ may. absurd (cc may); frames = λ may. absurd (cc may) })
    (record { leaves = λ may. left.leaves refl; opens = λ may. absurd (cc may); frames = λ may. absurd (cc may) })
host_leaves Change page change h v R K left A =
    either_place (λ q. RetiresPart (place.Host q) (part_topics (part.Change (word_put change h.topics)) h.topics v)) (v == word_looked h.topics.host)
    (End ends.Exclude) Change
    (record { leaves = λ may. left.leaves refl; opens = λ may. absurd (cc may); frames = λ may. absurd (cc may) })
    (record { leaves = λ may. left.leaves refl; opens = λ may. absurd (cc may); frames = λ may. absurd (cc may) })
host_leaves (End p) page change h v R K left A =
    end_left_host (moves h.topics) (end_next p v) _ ((end_leaves_pages p h.topics v).retired ∙ left.leaves refl)
    (ap (λ (f : HeldFrames). is_some f.owned) (end_leaves_pages p h.topics v).frames) (ending_known p h.topics v K.1 A)
host_leaves Watch page change h v R K left A =
    each_watch (λ q. RetiresPart (place.Host q) (part_topics (host_part Watch page change h) h.topics v)) (watch_next h v) Watch Free
    (record { leaves = λ may. left.leaves refl; opens = λ may. left.opens refl; frames = λ may. absurd (cc may) })
    (record { leaves = λ may. left.leaves refl; opens = λ may. left.opens refl; frames = λ may. absurd (cc may) })
host_leaves Free page change h v R K left A = record { leaves = λ may. left.leaves refl; opens = λ may. left.opens refl; frames = λ may. refl }
