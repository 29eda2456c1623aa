-- Each step of a line that changes a host page, and doesn't wait, leaves it fewer steps, beside other actors too: since the page is its actor's own, its
-- exchange of the host word is won, but where an access has brought the page in, which it saw absent; the next one is won then.
use Rattle.part_steps.specs.declared.invalidations.Target.TheVariants as aim
use Rattle.part_steps.specs.declared.part_step.PartStep.TheVariants as part
use Rattle.spte_words.specs.declared.area.Area.TheVariants as area
use Rattle.core_views.specs.declared.place.BeginPlace.TheVariants as begins
use Rattle.core_views.specs.declared.place.EndPlace.TheVariants as ends
use Rattle.core_views.specs.declared.place.Place.TheVariants as place
use Rattle.core_views.specs.declared.answer.Answer.TheVariants.{Refused}
use Rattle.mmu_core.specs.declared.invalidate.BeginNext.TheVariants as begins_next
use Rattle.mmu_core.specs.declared.invalidate.EndNext.TheVariants as ends_next
use Rattle.mmu_core.specs.declared.outcome.Outcome.TheVariants.{Goes, Ends}
use Rattle.mmu_core.specs.forms.access.AccessSteps.{task_by}
use Rattle.mmu_core.specs.lines.PartAt.{task_at, touch_at}
use Rattle.mmu_core.specs.lines.Forms.{note_at, part_at}
use Rattle.mmu_core.specs.machine.View.{answer_in}
use Rattle.mmu_core.proofs.lines.ByStep.{step_needs}
use Rattle.part_steps.specs.PartTasks.{own_index, part_task}
use Rattle.core_views.specs.HostChanges.{is_own}
use Rattle.mmu_core.proofs.lines.EitherPlace.{either_place, one_place}
use Rattle.part_steps.specs.PartTopics.{part_topics}
use Rattle.mmu_core.proofs.held.NextSeen.{SeesOwn}
use Rattle.mmu_core.specs.invariant.HostWordsPart.{IsStill}
use Rattle.spte_words.specs.HostWords.{host_allows_write, host_frame, host_level, host_present}
use Rattle.spte_words.proofs.ReadsHost.{host_is_present}
use Rattle.mmu_core.specs.forms.host.HostKnows.{HostKnows}
use Rattle.mmu_core.specs.lines.PartWaits.{part_waits}
use Rattle.mmu_core.specs.orders.InvalidateLeft.{begin_left, end_left}
use Rattle.mmu_core.specs.orders.InvalidateSteps.{end_part, begin_next, end_next}
use Rattle.mmu_core.specs.lines.Forms.{RestsAt}
use Rattle.part_steps.specs.PageRuns.{one_look}
use Rattle.part_steps.specs.PartSteps.{PartNeeds}
use Rattle.part_steps.specs.PartBounds.{PartRests}
use Rattle.spte_words.specs.declared.area.Area.{Area}
use Rattle.core_views.specs.declared.topics.Topics.{Topics}
use Rattle.core_views.specs.declared.trace.Command.{Command}
use Rattle.core_views.specs.declared.trace.Command.TheVariants.{ChangeHost}
use Rattle.part_steps.specs.declared.task.Task.{Task}
use Rattle.core_views.specs.Held.{Held}
use Rattle.part_steps.specs.PartTasks.{page_looked, word_looked, word_next}
use Rattle.core_views.specs.declared.place.HostPlace.{HostPlace}
use Rattle.core_views.specs.declared.place.EndPlace.{EndPlace}
use Rattle.mmu_core.specs.declared.invalidate.EndNext.{EndNext}
use Rattle.core_views.specs.declared.sizes.Sizes.{Sizes}
use Rattle.mmu_core.specs.declared.invalidate.BeginNext.{BeginNext}
use Rattle.core_views.specs.declared.place.Place.{Place}
use Rattle.core_views.specs.declared.trace.HostChange.{HostChange}
use Rattle.core_views.specs.declared.topics.HostLook.{HostLook}
use Rattle.part_steps.specs.declared.part_step.PartStep.{PartStep}
use Rattle.std.proofs.Common.{◌≡◌, inl, inr, ◌+◌, ◌-◌, ◌*◌, ◌<◌, ◌≤◌, ℕ, refl, sym, ap, ◌∙◌, arith}
use Rattle.std.specs.Prelude.{Bool, true, false, ◌==◌, nat_lt, not, is_some, if◌then◌else◌, Option, Some, None}
use Rattle.std.proofs.lemmas.Bool.Decides.{nat_tests}
use Rattle.core_views.specs.declared.place.HostPlace.TheVariants.{Look, Claim, Begin, Copy, Store, Change, End, Watch, Free}
use Rattle.core_views.specs.declared.answer.Refusal.TheVariants.{NoFrame, OutOfRange, IsHuge}
use Rattle.core_views.specs.declared.topics.Frames.{Frames as HeldFrames}
use Rattle.core_views.specs.declared.topics.OwnedFrame.{OwnedFrame}
use Rattle.core_views.specs.Sizes.{actors_of}
use Rattle.part_steps.specs.FrameTopics.{frame_after, word_copied, word_stored, words_moved}
use Rattle.mmu_core.specs.declared.claim.FreeMap.TheVariants.{Frames}
use Rattle.mmu_core.specs.orders.ClaimSteps.{claim_left, claim_next}
use Rattle.mmu_core.specs.forms.host.HostSteps.{word_put, host_part, after_end, host_outcome, after_begin, moves}
use Rattle.mmu_core.specs.forms.host.HostLeft.{host_left, copies_left, frees_left}
use Rattle.mmu_core.specs.orders.WatchSteps.{looked_at, watch_next}
use Rattle.mmu_core.proofs.orders.ClaimMade.{claim_falls, claim_made, word_there}
use Rattle.mmu_core.proofs.orders.InvalidatePlaces.{begin_leaves_pages, end_leaves_pages}
use Rattle.mmu_core.proofs.orders.WatchMade.{watch_falls, watch_made}
use Rattle.mmu_laws.proofs.turns.BeginNearer.{begin_falls, begin_left_after}
use Rattle.mmu_laws.proofs.turns.Nearer.{Nearer, claim_nearer, watch_nearer}
use Rattle.mmu_core.specs.forms.host.HostSteps.{maps_large}

-- ---- the exchange

-- Where the step is one that exchanges a host word, it finds the word that was looked up, or this word with the page present, which was absent; and at the next
-- page of a run the word that was seen of it.
abbrev pub FindsStill : Option PartStep → Topics → ℕ → Type 0
FindsStill (Some (part.Change new_)) t v = IsStill (word_looked t.host) v
FindsStill (Some part.ChangeNext) t v = v ≡ word_next t.invalidations.own.pages
FindsStill _ t v = Unit {0}

is_word_now : (o : Option HostLook) (host : ℕ → ℕ) → ((look : HostLook) → o ≡ Some look → IsStill look.word (host look.page)) → is_some o ≡ true
    → IsStill (word_looked o) (host (page_looked o))
is_word_now None host is some = absurd (cc some)
is_word_now (Some look) host is some = is look refl

part_finds : (step : PartStep) (own_ note : ℕ) (h : Held) (words : Area → ℕ → ℕ) → PartNeeds step h → SeesOwn h (words area.Host)
    → FindsStill (Some step) h.topics (answer_in (part_task step own_ h.topics note) words)
part_finds (part.Change new_) own_ note h words N looks = is_word_now h.topics.host (words area.Host) looked N.0.looked
  where
    looked : (look : HostLook) → h.topics.host ≡ Some look → IsStill look.word (words area.Host look.page)
    looked look is = looks.looked look is (ap (λ (o : Option HostLook). is_own h.state.sizes h.state.actor (page_looked o)) (sym is) ∙ N.0.own_)
part_finds part.ChangeNext own_ note h words N looks = looks.next N
part_finds _ own_ note h words N looks = tt

finds_by : (s : Option PartStep) (note : ℕ) (touch : Task) (h : Held) (words : Area → ℕ → ℕ)
    → ((step : PartStep) → s ≡ Some step → PartNeeds step h) → SeesOwn h (words area.Host)
    → FindsStill s h.topics (answer_in (task_by s h note touch) words)
finds_by None note touch h words needs looks = tt
finds_by (Some step) note touch h words needs looks = part_finds step (own_index h) note h words (needs step refl) looks

pub finds_at : (p : Place) (c : Command) (h : Held) (words : Area → ℕ → ℕ) → RestsAt p c h → SeesOwn h (words area.Host)
    → FindsStill (part_at p c h) h.topics (answer_in (task_at p c h) words)
finds_at p c h words R looks = finds_by (part_at p c h) (note_at p c h) (touch_at c h) h words (λ step is. step_needs p c h step R is) looks

-- the most steps that are left of the end of its invalidation
abbrev pub end_left_after : EndNext → ℕ
end_left_after (ends_next.Goes p) = end_left p
end_left_after ends_next.Ended = 0

-- ---- the exchange of the word

-- One more exchange may be left where the page was seen absent, and none where it was seen present.
few_tries : (present : Bool) → 7 + (if present then 0 else 1) ≤ 8
few_tries true = omega arith
few_tries false = omega arith

pub fewer_tries : (found seen : Bool) (k : ℕ) → found ≡ true → seen ≡ false → 7 + (if found then 0 else 1) + k < 7 + (if seen then 0 else 1) + k
fewer_tries true false k there absent = omega arith
fewer_tries true true k there absent = absurd (cc absent)
fewer_tries false seen k there absent = absurd (cc there)

-- A frame is owned after it exactly where one was before.
still_owner : (won : Bool) (frame : ℕ) (owned : Option OwnedFrame) → is_some (frame_after won frame owned) ≡ is_some owned
still_owner true frame None = refl
still_owner true frame (Some o) = refl
still_owner false frame owned = refl

-- Where it is lost, the page was seen absent, and found present.
change_nearer : (c : Command) (won : Bool) (z : Sizes) (t : Topics) (v new_ : ℕ) → (v == word_looked t.host) ≡ won → IsStill (word_looked t.host) v
    → Nearer (Goes (place.Host (if won then End ends.Exclude else Change))) c z (record t {
      host = Some (record { page = page_looked t.host; word = if won then new_ else v });
      row = one_look;
      watched = 0;
      frames = record t.frames { owned = frame_after won (host_frame (word_looked t.host)) t.frames.owned };
    }) (host_left Change z t)
change_nearer c true z t v new_ is still =
    let same = ap (λ (b : Bool). frees_left b z) (still_owner true (host_frame (word_looked t.host)) t.frames.owned) in
    omega (arith, same)
change_nearer c false z t v new_ is (inl same) = absurd (grind (arith, nat_tests))
change_nearer c false z t v new_ is (inr brought) =
    let seen : ℕ = word_looked t.host in
    fewer_tries (host_present v) (host_present seen) (frees_left (moves t) z)
    (ap host_present brought.1 ∙ host_is_present (host_frame seen) true (host_allows_write seen) (host_level seen)) brought.0

-- ---- a move

-- A line that moves a page has the copy left, and to give the old frame back; it has no more than that.
begin_most : (b : Bool) (z : Sizes)
    → 2 * z.vcpus + 138 + 5 * 1 + 8 + (if b then copies_left z None else 0) + frees_left b z ≤ 2 * z.vcpus + 151 + copies_left z None + frees_left true z
begin_most true z = omega arith
begin_most false z = omega arith

frees_most : (b : Bool) (z : Sizes) → frees_left b z ≤ frees_left true z
frees_most true z = omega arith
frees_most false z = omega arith

-- The look leads to the claim, or to the begin.
look_nearer : (c : Command) (moving own_ large : Bool) (z : Sizes) (t u : Topics) → t.frames.owned ≡ None → u.frames ≡ t.frames
    → Nearer (if own_ then (if large then Ends (Refused IsHuge) else Goes (place.Host (if moving then Claim false else Begin begins.Exclude)))
    else Ends (Refused OutOfRange)) c z u (host_left (Look moving) z t)
look_nearer c moving false large z t u none same = tt
look_nearer c moving true true z t u none same = tt
look_nearer c true true false z t u none same = omega arith
look_nearer c false true false z t u none same =
    let no : moves u ≡ false = ap (λ (f : HeldFrames). is_some f.owned) same ∙ ap is_some none in
    rw no (omega arith)

-- A word that is copied is stored next, and one that is stored is left no more.
copied_moved : (owned : Option OwnedFrame) (v : ℕ) → words_moved (word_copied owned v) ≡ words_moved owned
copied_moved None v = refl
copied_moved (Some o) v = refl

stored_moved : (owned : Option OwnedFrame) → is_some owned ≡ true → words_moved (word_stored owned) ≡ words_moved owned + 1
stored_moved None some = absurd (cc some)
stored_moved (Some o) some = refl

store_nearer : (c : Command) (more : Bool) (z : Sizes) (t : Topics) → is_some t.frames.owned ≡ true → words_moved t.frames.owned < z.words
    → Nearer (Goes (place.Host (if more then Copy else Change))) c z (record t { frames = record t.frames { owned = word_stored t.frames.owned } })
    (host_left Store z t)
store_nearer c true z t owns left = let stored = stored_moved t.frames.owned owns in omega (arith, stored, left)
store_nearer c false z t owns left =
    let few = few_tries (host_present (word_looked t.host)) in
    let most = frees_most (is_some (word_stored t.frames.owned)) z in
    omega (arith, few, most, left)

-- ---- the invalidation

begin_nearer : (c : Command) (moving : Bool) (next : BeginNext) (z : Sizes) (u : Topics) (n : ℕ) → moves u ≡ moving → begin_left_after next z 1 u < n
    → Nearer (Goes (place.Host (after_begin moving next))) c z u (n + 8 + (if moving then copies_left z None else 0) + frees_left moving z)
begin_nearer c true (begins_next.Goes p) z u n is less = rw is (omega (arith, less))
begin_nearer c false (begins_next.Goes p) z u n is less = rw is (omega (arith, less))
begin_nearer c true begins_next.Begun z u n is less = omega (arith, less)
begin_nearer c false begins_next.Begun z u n is less = let few = few_tries (host_present (word_looked u.host)) in rw is (omega (arith, less, few))

pub end_less : (p : EndPlace) (t : Topics) (v : ℕ) → part_waits (end_part p t) t v ≡ false → end_left_after (end_next p v) < end_left p
end_less ends.Exclude t v goes =
    one_place (λ q. end_left q < 6) (v == 0) ends.Seq ends.Exclude (λ e. omega arith) (λ e. absurd (cc (goes, ap not e)))
end_less ends.Seq t v goes = omega arith
end_less ends.SetSeq t v goes = omega arith
end_less ends.Count t v goes = omega arith
end_less ends.SetCount t v goes = omega arith
end_less ends.Release t v goes = omega arith

end_nearer : (c : Command) (moving : Bool) (next : EndNext) (z : Sizes) (u : Topics) (n : ℕ) → moves u ≡ moving → end_left_after next < n
    → Nearer (after_end moving next) c z u (n + frees_left moving z)
end_nearer c moving (ends_next.Goes q) z u n is less = rw is (omega (arith, less))
end_nearer c true ends_next.Ended z u n is less = omega (arith, less)
end_nearer c false ends_next.Ended z u n is less = tt

-- ---- each place

pub host_nearer : (p : HostPlace) (page : ℕ) (change : HostChange) (h : Held) (v : ℕ) → PartRests h → HostKnows p page change h
    → FindsStill (Some (host_part p page change h)) h.topics v → part_waits (host_part p page change h) h.topics v ≡ false
    → Nearer (host_outcome p page h v) (ChangeHost page change) h.state.sizes (part_topics (host_part p page change h) h.topics v)
    (host_left p h.state.sizes h.topics)
host_nearer (Look moving) page change h v R K finds goes =
    look_nearer (ChangeHost page change) moving (is_own h.state.sizes h.state.actor page) (maps_large v) h.state.sizes h.topics
    (part_topics (host_part (Look moving) page change h) h.topics v) K.2
    (either_place (λ s. (part_topics s h.topics v).frames ≡ h.topics.frames) (is_own h.state.sizes h.state.actor page) (part.Host page) part.Seq refl refl)
host_nearer (Claim begun) page change h v R K finds goes =
    let z : Sizes = h.state.sizes in
    let u : Topics = part_topics (host_part (Claim begun) page change h) h.topics v in
    let low = word_there Frames begun z h.topics.frames.claim R.sizes K.2.within in
    let less = claim_falls z Frames begun h.topics v _ _ _ (claim_made z Frames begun h.topics v) goes low in
    claim_nearer Frames (claim_next Frames begun z h.topics.frames.claim v) (place.Host (Claim true)) (place.Host (Begin begins.Exclude)) (Refused NoFrame)
    (ChangeHost page change) z u
    (2 * z.vcpus + 151 + copies_left z None + frees_left true z) (claim_left Frames begun z h.topics.frames.claim) less refl (begin_most (moves u) z)
host_nearer (Begin p) page change h v R K finds goes =
    let same = ap (λ (f : HeldFrames). is_some f.owned) (begin_leaves_pages p (aim.Page page) h.topics v).frames in
    begin_nearer (ChangeHost page change) (moves h.topics) (begin_next p h.state.sizes (aim.Page page) h.topics v) h.state.sizes _
    (begin_left p h.state.sizes 1 h.topics) same
    (begin_falls p h.state.sizes 1 (aim.Page page) h.topics v (omega arith) R.row R.level K.1 goes)
host_nearer Copy page change h v R K finds goes = let moved = copied_moved h.topics.frames.owned v in omega (arith, moved)
host_nearer Store page change h v R K finds goes =
    store_nearer (ChangeHost page change) (nat_lt (words_moved h.topics.frames.owned + 1) h.state.sizes.words) h.state.sizes h.topics K.2.owns K.2.left
host_nearer Change page change h v R K finds goes =
    change_nearer (ChangeHost page change) (v == word_looked h.topics.host) h.state.sizes h.topics v (word_put change h.topics) refl finds
host_nearer (End p) page change h v R K finds goes =
    let same = ap (λ (f : HeldFrames). is_some f.owned) (end_leaves_pages p h.topics v).frames in
    end_nearer (ChangeHost page change) (moves h.topics) (end_next p v) h.state.sizes _ (end_left p) same (end_less p h.topics v goes)
host_nearer Watch page change h v R K finds goes =
    let less = watch_falls (own_index h) (actors_of h.state.sizes) h.topics v _ _ (watch_made h v) goes K.3 in
    watch_nearer (λ q. place.Host q) (watch_next h v) Watch Free (ChangeHost page change) h.state.sizes (part_topics (part.Watch (looked_at h)) h.topics v) 1
    (actors_of h.state.sizes - h.topics.watched) less refl (omega arith)
host_nearer Free page change h v R K finds goes = tt
