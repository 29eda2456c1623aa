-- A line that changes a host page knows after each of its steps what its next place asks.
use Rattle.std.proofs.Common.{◌≡◌, ◌≤◌, ℕ, Bool, true, false, refl, subst, ap, ◌∙◌, sym}
use Rattle.std.specs.Prelude.{◌+◌, ◌==◌, if◌then◌else◌, nat_lt, Some, None, is_some, Option}
use Rattle.circular_buffer.specs.Buffer.{Buffer}
use Rattle.core_views.specs.declared.answer.Answer.TheVariants.{Done, Refused}
use Rattle.core_views.specs.declared.answer.Refusal.TheVariants.{IsHuge, OutOfRange}
use Rattle.core_views.specs.declared.cache.Translation.{Translation}
use Rattle.core_views.specs.declared.place.BeginPlace.{BeginPlace}
use Rattle.core_views.specs.declared.place.BeginPlace.TheVariants as begins
use Rattle.core_views.specs.declared.place.EndPlace.{EndPlace}
use Rattle.core_views.specs.declared.place.EndPlace.TheVariants as ends
use Rattle.core_views.specs.declared.place.HostPlace.{HostPlace}
use Rattle.core_views.specs.declared.place.HostPlace.TheVariants.{Look, Claim, Begin, Copy, Store, Change, End, Watch, Free}
use Rattle.core_views.specs.declared.place.Place.TheVariants as place
use Rattle.core_views.specs.declared.topics.Frames.{Frames as HeldFrames}
use Rattle.core_views.specs.declared.topics.Topics.{Topics}
use Rattle.core_views.specs.declared.trace.Command.TheVariants.{ChangeHost}
use Rattle.core_views.specs.declared.trace.HostChange.{HostChange}
use Rattle.core_views.specs.declared.trace.Line.{Line}
use Rattle.core_views.specs.Held.{Held}
use Rattle.core_views.specs.HostChanges.{is_own}
use Rattle.core_views.specs.Sizes.{actors_of}
use Rattle.spte_words.specs.HostWords.{host_frame}
use Rattle.part_steps.specs.declared.invalidations.Target.TheVariants as aim
use Rattle.part_steps.specs.declared.part_step.PartStep.TheVariants as part
use Rattle.part_steps.specs.FrameTopics.{frame_after, words_moved}
use Rattle.part_steps.specs.PartBounds.{PartRests}
use Rattle.part_steps.specs.PartSteps.{IsAtRest}
use Rattle.part_steps.specs.PartTasks.{own_index, page_looked, word_looked}
use Rattle.part_steps.specs.PartTopics.{part_topics}
use Rattle.mmu_core.specs.declared.claim.ClaimNext.{ClaimNext}
use Rattle.mmu_core.specs.declared.claim.ClaimNext.TheVariants as claims
use Rattle.mmu_core.specs.declared.invalidate.BeginNext.{BeginNext}
use Rattle.mmu_core.specs.declared.invalidate.BeginNext.TheVariants as begins_next
use Rattle.mmu_core.specs.declared.invalidate.EndNext.{EndNext}
use Rattle.mmu_core.specs.declared.invalidate.EndNext.TheVariants as ends_next
use Rattle.mmu_core.specs.declared.outcome.Outcome.TheVariants.{Goes, Ends}
use Rattle.mmu_core.specs.declared.watch.WatchNext.{WatchNext}
use Rattle.mmu_core.specs.orders.ClaimSteps.{Frames}
use Rattle.mmu_core.specs.forms.access.FaultLaws.{CanAnswer}
use Rattle.mmu_core.specs.lines.Forms.{KnowsPart, may_open}
use Rattle.mmu_core.specs.forms.host.HostKnows.{HasFlushed, HostKnows, LooksAt, OwnsToMove, SawSmall}
use Rattle.mmu_core.specs.forms.host.HostSteps.{after_begin, after_end, after_frame_claim, after_frame_watch, host_outcome, host_part, moves, word_put}
use Rattle.part_steps.specs.StayTopics.{is_section}
use Rattle.mmu_core.specs.orders.InvalidateSteps.{begin_next, begin_part, end_next, end_part}
use Rattle.mmu_core.proofs.orders.ClaimMade.{claim_looks, claim_made, claim_opens}
use Rattle.mmu_core.proofs.orders.ClaimRests.{RestsAfterClaim, claim_rests}
use Rattle.mmu_core.proofs.lines.EitherPlace.{one_place}
use Rattle.mmu_core.proofs.forms.host.HostMoves.{copied_next, copies_first, copies_none, free_rests, open_still, owns_none, owns_old}
use Rattle.mmu_core.proofs.forms.host.HostMoves.{rests_free, rests_still, stored_last, stored_more}
use Rattle.mmu_core.proofs.forms.host.HostNeeds.{looks_aimed}
use Rattle.mmu_core.proofs.orders.InvalidateKnown.{BeginComes, EndComes, begin_known, ending_known}
use Rattle.mmu_core.proofs.orders.InvalidatePlaces.{LeavesPages, begin_leaves_pages, end_leaves_pages}
use Rattle.mmu_core.proofs.orders.RunsAimed.{LeavesLooks, begin_leaves_looks, end_leaves_looks, one_changed, same_looks}
use Rattle.mmu_core.proofs.lines.KnowsKept.{KnowsBehind}
use Rattle.mmu_core.proofs.lines.LockHeld.{rests_by_seq}
use Rattle.mmu_core.proofs.orders.WatchMade.{WatchMade, watch_begins, watch_comes, watch_made}
use Rattle.mmu_core.proofs.orders.WatchMade as made
use Rattle.mmu_core.proofs.machine.HandWith.{hand_with}
use Rattle.part_steps.specs.PageRuns.{one_look}
use Rattle.core_views.specs.declared.topics.Invalidations.{Invalidations}
use Rattle.mmu_core.specs.forms.host.HostSteps.{maps_large}
use Rattle.core_views.specs.declared.topics.HostLook.{HostLook}

module _ (line : Line) (h : Held) (page : ℕ) (change : HostChange) (cached : Buffer Translation) (v : ℕ) where
  -- the hand after the step of a place, with these topics
  abbrev behind : HostPlace → Topics → Held
  behind p t = hand_with line (ChangeHost page change) (place.Host p) h t cached v

  abbrev Knows : HostPlace → Held → Type 0
  Knows p g = KnowsPart (place.Host p) (ChangeHost page change) g

  -- What it has looked up stays.
  looks_still : (p : HostPlace) (u : Topics) → LeavesLooks h.topics u → LooksAt page h → LooksAt page (behind p u)
  looks_still p u same L =
      record { own_ = L.own_; looked = ap is_some same.host ∙ L.looked; at = ap page_looked same.host ∙ L.at; alone = same.looked ∙ L.alone }

  small_still : (p : HostPlace) (u : Topics) → LeavesLooks h.topics u → SawSmall h → SawSmall (behind p u)
  small_still p u same small = ap (λ (o : Option HostLook). maps_large (word_looked o)) same.host ∙ small

  -- ---- the look, and the claim

  look_known : (moving own_ large : Bool) → is_own h.state.sizes h.state.actor page ≡ own_ → maps_large v ≡ large → HostKnows (Look moving) page change h
      → h.topics.invalidations.opened ≡ false
      → KnowsBehind (if own_ then (if large then Ends (Refused IsHuge) else Goes (place.Host (if moving then Claim false else Begin begins.Exclude)))
      else Ends (Refused OutOfRange))
      (ChangeHost page change) (behind (Look moving) (part_topics (if own_ then part.Host page else part.Seq) h.topics v))
  look_known moving false large is size K closed = rests_by_seq h.topics v K.0
  look_known moving true true is size K closed = rests_still h.topics (part_topics (part.Host page) h.topics v) refl refl refl refl refl refl K.0
  look_known moving true false is size K closed =
      let u : Topics = part_topics (part.Host page) h.topics v in
      let looks : LooksAt page (behind (Look moving) u) = record { own_ = is; looked = refl; at = refl; alone = refl } in
      one_place (λ q. Knows q (behind (Look moving) u)) moving (Claim false) (Begin begins.Exclude)
      (λ e. (
        rests_still h.topics u refl refl refl refl refl refl K.0,
        looks,
        record { moves = sym K.1 ∙ e; owns_none = K.2; within = λ b. absurd (cc b) },
        size,
      ))
      (λ e. (
        looks,
        (rests_free u (rests_still h.topics u refl refl refl refl refl refl K.0), closed),
        owns_none change h.topics.frames.owned K.2 (sym K.1 ∙ e),
        K.0.owns_none,
        size,
      ))

  claim_known : (begun : Bool) (next : ClaimNext) (u : Topics) → LeavesLooks h.topics u → u.invalidations ≡ h.topics.invalidations
      → RestsAfterClaim Frames next h.state.sizes u → HostKnows (Claim begun) page change h → h.topics.invalidations.opened ≡ false
      → KnowsBehind (after_frame_claim next) (ChangeHost page change) (behind (Claim begun) u)
  claim_known begun claims.Goes u same opens C K closed =
      (C.0, looks_still (Claim begun) u same K.1, record { moves = K.2.moves; owns_none = C.1; within = λ b. C.2 }, small_still (Claim begun) u same K.3)
  claim_known begun claims.Got u same opens C K closed = (
    looks_still (Claim begun) u same K.1,
    (rests_free u C.0, ap (λ n. n.opened) opens ∙ closed),
    record { owns = C.1.owns ∙ sym K.2.moves; uncopied = C.1.uncopied },
    C.0.owns_none,
    small_still (Claim begun) u same K.3,
  )
  claim_known begun claims.Empty u same opens C K closed = C.0

  -- ---- the invalidation

  begin_comes : (p : BeginPlace) (next : BeginNext) (u : Topics) → LeavesLooks h.topics u → LeavesPages h.topics u → LooksAt page h
      → 1 ≤ h.state.sizes.words → OwnsToMove change h.topics.frames.owned → h.topics.owned ≡ None → SawSmall h
      → BeginComes next h.state.sizes (aim.Page page) u
      → Knows (after_begin (moves h.topics) next) (behind (Begin p) u)
  begin_comes p (begins_next.Goes q) u same leaves L some O none small C = (
    looks_still (Begin p) u same L,
    C,
    subst (λ (f : HeldFrames). OwnsToMove change f.owned) (sym leaves.frames) O,
    leaves.owned ∙ none,
    small_still (Begin p) u same small,
  )
  begin_comes p begins_next.Begun u same leaves L some O none small C =
      let frames = leaves.frames in
      let flushed : HasFlushed page (behind (Begin p) u) =
      record { owns_none = leaves.owned ∙ none; opened = C.0; invalid = C.1; asked = C.2; awaited = C.3 } in
      let looks = looks_still (Begin p) u same L in
      let owns : OwnsToMove change u.frames.owned = subst (λ (f : HeldFrames). OwnsToMove change f.owned) (sym frames) O in
      let same_owned = ap (λ (f : HeldFrames). is_some f.owned) frames in
      one_place (λ q. Knows q (behind (Begin p) u)) (moves h.topics) Copy Change
      (λ e. (looks, flushed, copies_first change h.state.sizes.words u.frames.owned some owns (same_owned ∙ e)))
      (λ e. (looks, flushed, copies_none change h.state.sizes.words u.frames.owned owns (same_owned ∙ e)))

  end_comes : (p : EndPlace) (next : EndNext) (u : Topics) → PartRests h → LeavesLooks h.topics u → LeavesPages h.topics u
      → HostKnows (End p) page change h → EndComes next u → KnowsBehind (after_end (moves h.topics) next) (ChangeHost page change) (behind (End p) u)
  end_comes p (ends_next.Goes q) u R same leaves K C = (
    looks_still (End p) u same K.0,
    C,
    subst (λ (f : HeldFrames). OwnsToMove change f.owned) (sym leaves.frames) K.2,
    leaves.watched ∙ K.3,
    leaves.owned ∙ K.4,
  )
  end_comes p ends_next.Ended u R same leaves K C =
      let rests : IsAtRest u = free_rests u (leaves.owned ∙ K.4) (leaves.owed ∙ R.owes (ap is_section (sym leaves.stay ∙ C.0.outside))) C.0 in
      one_place (λ o. KnowsBehind o (ChangeHost page change) (behind (End p) u)) (moves h.topics) (Goes (place.Host Watch)) (Ends Done)
      (λ e. (
        looks_still (End p) u same K.0,
        rests,
        record { moves = sym K.2.owns ∙ e; owns = ap (λ (f : HeldFrames). is_some f.owned) leaves.frames ∙ e; closed = C.1 },
        watch_begins (behind (End p) u) (leaves.watched ∙ K.3) R.sizes,
      ))
      (λ e. rests)

  -- ---- the copy, and the exchange

  flushed_still : (p : HostPlace) (u : Topics) → u.stay ≡ h.topics.stay → u.hold ≡ h.topics.hold → u.owned ≡ h.topics.owned → u.walk ≡ h.topics.walk
      → u.search ≡ h.topics.search → u.invalidations ≡ h.topics.invalidations → u.flush ≡ h.topics.flush → HasFlushed page h → HasFlushed page (behind p u)
  flushed_still p u stay hold owned walk search own_ flush F = record {
    owns_none = owned ∙ F.owns_none;
    opened = open_still h.topics u stay hold walk search own_ F.opened;
    invalid = ap (λ (n : Invalidations). n.own.pages) own_ ∙ F.invalid;
    asked = subst (λ f. h.state.sizes.vcpus ≤ f.asked) (sym flush) F.asked;
    awaited = subst (λ f. h.state.sizes.vcpus ≤ f.awaited) (sym flush) F.awaited;
  }

  change_known : (won : Bool) → HostKnows Change page change h
      → Knows (if won then End ends.Exclude else Change) (behind Change (record h.topics {
        host = Some (record { page = page_looked h.topics.host; word = if won then word_put change h.topics else v });
        row = one_look;
        watched = 0;
        frames = record h.topics.frames { owned = frame_after won (host_frame (word_looked h.topics.host)) h.topics.frames.owned };
      }))
  change_known true K = (
    record { own_ = K.0.own_; looked = refl; at = K.0.at; alone = refl },
    (open_still h.topics _ refl refl refl refl refl K.1.opened, one_changed page h.topics K.1.invalid),
    owns_old change h.state.sizes.words h.topics.frames.owned (host_frame (word_looked h.topics.host)) K.2,
    refl,
    K.1.owns_none,
  )
  change_known false K = (
    record { own_ = K.0.own_; looked = refl; at = K.0.at; alone = refl },
    flushed_still Change _ refl refl refl refl refl refl refl K.1,
    K.2,
  )

  -- ---- the watch

  watch_known : (next : WatchNext) (u : Topics) → WatchMade (own_index h) (actors_of h.state.sizes) h.topics v next u → HostKnows Watch page change h
      → Knows (after_frame_watch next) (behind Watch u)
  watch_known _ _ (made.Again is) K = (
    looks_still Watch _ (same_looks h.topics _ refl refl) K.0,
    rests_still h.topics _ refl refl refl refl refl refl K.1,
    record { moves = K.2.moves; owns = K.2.owns; closed = K.2.closed },
    watch_comes (own_index h) (actors_of h.state.sizes) h.topics v _ _ (made.Again is) K.3,
  )
  watch_known _ _ (made.Next is lt) K = (
    looks_still Watch _ (same_looks h.topics _ refl refl) K.0,
    rests_still h.topics _ refl refl refl refl refl refl K.1,
    record { moves = K.2.moves; owns = K.2.owns; closed = K.2.closed },
    lt,
  )
  watch_known _ _ (made.Last is le) K = (
    looks_still Watch _ (same_looks h.topics _ refl refl) K.0,
    rests_still h.topics _ refl refl refl refl refl refl K.1,
    record { moves = K.2.moves; owns = K.2.owns; closed = K.2.closed },
    record { owns = K.2.owns; closed = K.2.closed; watched = le },
  )

  pub host_known : (p : HostPlace) → PartRests h → HostKnows p page change h → (may_open (place.Host p) ≡ false → h.topics.invalidations.opened ≡ false)
      → CanAnswer (host_part p page change h) v
      → KnowsBehind (host_outcome p page h v) (ChangeHost page change) (behind p (part_topics (host_part p page change h) h.topics v))
  host_known (Look moving) R K closed A = look_known moving (is_own h.state.sizes h.state.actor page) (maps_large v) refl refl K (closed refl)
  host_known (Claim begun) R K closed A =
      let M = claim_made h.state.sizes Frames begun h.topics v in
      claim_known begun _ _ (claim_looks h.state.sizes Frames begun h.topics v _ _ _ M) (claim_opens h.state.sizes Frames begun h.topics v _ _ _ M)
      (claim_rests h.state.sizes Frames begun h.topics v _ _ _ M K.0 K.2.owns_none K.2.within) K (closed refl)
  host_known (Begin p) R K closed A =
      begin_comes p (begin_next p h.state.sizes (aim.Page page) h.topics v) (part_topics (begin_part p (aim.Page page) h.topics) h.topics v)
      (begin_leaves_looks p (aim.Page page) h.topics v) (begin_leaves_pages p (aim.Page page) h.topics v) K.0 R.sizes.words.0 K.2 K.3 K.4
      (begin_known p h.state.sizes (aim.Page page) h.topics v R.sizes tt (looks_aimed page h K.0 K.3 K.4) R.frames R.row R.level K.1 A)
  host_known Copy R K closed A =
      let C = copied_next change h.state.sizes.words h.topics.frames.owned v K.2 in
      (looks_still Copy _ (same_looks h.topics _ refl refl) K.0, flushed_still Copy _ refl refl refl refl refl refl refl K.1, C.0, C.1)
  host_known Store R K closed A =
      let u : Topics = part_topics (part.Store 0) h.topics v in
      one_place (λ q. Knows q (behind Store u)) (nat_lt (words_moved h.topics.frames.owned + 1) h.state.sizes.words) Copy Change
      (λ e. (
        looks_still Store u (same_looks h.topics u refl refl) K.0,
        flushed_still Store u refl refl refl refl refl refl refl K.1,
        stored_more change h.state.sizes.words h.topics.frames.owned K.2 e,
      ))
      (λ e. (
        looks_still Store u (same_looks h.topics u refl refl) K.0,
        flushed_still Store u refl refl refl refl refl refl refl K.1,
        stored_last change h.state.sizes.words h.topics.frames.owned K.2 e,
      ))
  host_known Change R K closed A = change_known (v == word_looked h.topics.host) K
  host_known (End p) R K closed A =
      end_comes p (end_next p v) (part_topics (end_part p h.topics) h.topics v) R (end_leaves_looks p h.topics v K.1) (end_leaves_pages p h.topics v) K
      (ending_known p h.topics v K.1 A)
  host_known Watch R K closed A = watch_known _ _ (watch_made h v) K
  host_known Free R K closed A = rests_still h.topics _ refl refl refl refl refl refl K.1
