-- What a line that changes a host page knows of the frames, where it runs while all other actors rest: from its claim up to its exchange it owns the lowest one
-- that was free.
use Rattle.std.proofs.Common.{◌≡◌, ◌≢◌, ◌⊎◌, inl, inr, ◌+◌, ◌*◌, ◌/◌, ◌%◌, ◌^◌, ◌<◌, ℕ, refl, sym, subst, ap, ◌∙◌, arith, bit_and, w64}
use Rattle.std.specs.Prelude.{Bool, true, false, ◌==◌, nat_lt, if◌then◌else◌, Option, Some, None}
use Rattle.std.specs.Int.{bit_not}
use Rattle.std.proofs.lemmas.Nat.Bits.{bit_at-trailing_zeros, bit_at-zero}
use Rattle.core_views.specs.declared.answer.Answer.TheVariants.{Refused}
use Rattle.core_views.specs.declared.answer.Refusal.TheVariants.{OutOfRange, IsHuge}
use Rattle.core_views.specs.declared.place.BeginPlace.{BeginPlace}
use Rattle.core_views.specs.declared.place.BeginPlace.TheVariants as begins
use Rattle.core_views.specs.declared.place.EndPlace.TheVariants as ends
use Rattle.core_views.specs.declared.place.HostPlace.{HostPlace}
use Rattle.core_views.specs.declared.place.HostPlace.TheVariants as host
use Rattle.core_views.specs.declared.place.Place.TheVariants as place
use Rattle.core_views.specs.declared.sizes.Sizes.{Sizes}
use Rattle.core_views.specs.declared.topics.MapClaim.{MapClaim}
use Rattle.core_views.specs.declared.topics.OwnedFrame.{OwnedFrame}
use Rattle.core_views.specs.declared.topics.Topics.{Topics}
use Rattle.core_views.specs.declared.trace.Command.{Command}
use Rattle.core_views.specs.declared.trace.Command.TheVariants.{ChangeHost}
use Rattle.core_views.specs.declared.trace.HostChange.{HostChange}
use Rattle.core_views.specs.Held.{Held}
use Rattle.core_views.specs.HostChanges.{is_own}
use Rattle.core_views.specs.Sizes.{actors_of}
use Rattle.spte_words.specs.declared.area.Area.{Area}
use Rattle.spte_words.specs.declared.area.Area.TheVariants as area
use Rattle.spte_words.specs.Bits.{has_bit}
use Rattle.spte_words.specs.HostWords.{host_frame}
use Rattle.part_steps.specs.declared.invalidations.Target.{Target}
use Rattle.part_steps.specs.declared.invalidations.Target.TheVariants as aim
use Rattle.part_steps.specs.declared.part_step.PartStep.{PartStep}
use Rattle.part_steps.specs.declared.part_step.PartStep.TheVariants as part
use Rattle.part_steps.specs.FrameTopics.{frame_after, frame_owned, word_copied, word_stored, words_moved}
use Rattle.part_steps.specs.PageTopics.{tried_bit}
use Rattle.part_steps.specs.PartTasks.{own_index, part_task, word_looked}
use Rattle.part_steps.specs.PartTopics.{part_topics}
use Rattle.mmu_core.specs.alone.AloneKnows.{AloneKnows, OwnsLowest}
use Rattle.mmu_core.specs.alone.SeenStands.{ScanStands}
use Rattle.mmu_core.specs.declared.claim.ClaimNext.{ClaimNext}
use Rattle.mmu_core.specs.declared.claim.FreeMap.TheVariants.{Frames}
use Rattle.mmu_core.specs.declared.invalidate.BeginNext.{BeginNext}
use Rattle.mmu_core.specs.declared.invalidate.BeginNext.TheVariants as begins_next
use Rattle.mmu_core.specs.declared.invalidate.EndNext.{EndNext}
use Rattle.mmu_core.specs.declared.invalidate.EndNext.TheVariants as ends_next
use Rattle.mmu_core.specs.declared.outcome.Outcome.TheVariants.{Goes, Ends}
use Rattle.mmu_core.specs.declared.watch.WatchNext.{WatchNext}
use Rattle.mmu_core.specs.invariant.Laws.{IsSound}
use Rattle.mmu_core.specs.invariant.PoolPart.{is_free}
use Rattle.mmu_core.specs.forms.host.HostKnows.{HostKnows}
use Rattle.mmu_core.specs.forms.host.HostSteps.{after_begin, after_end, after_frame_claim, after_frame_watch, host_note, host_part, moves, maps_large}
use Rattle.mmu_core.specs.orders.InvalidateSteps.{begin_next, begin_part, end_next}
use Rattle.mmu_core.specs.orders.WatchSteps.{watch_next}
use Rattle.mmu_core.specs.machine.Enabled.{mmu}
use Rattle.mmu_core.specs.machine.Machine.{World, hand_in}
use Rattle.mmu_core.specs.machine.View.{answer_in, upd, word_in, words_after}
use Rattle.mmu_core.proofs.orders.ClaimMade.{ClaimMade, claim_made}
use Rattle.mmu_core.proofs.orders.ClaimMade as made
use Rattle.mmu_core.proofs.lines.EitherPlace.{each_watch, either_place}
use Rattle.mmu_core.proofs.machine.Columns.{same_or, upd_other}
use Rattle.mmu_core.proofs.words.PoolBits.{free_cleared}
use Rattle.mmu_laws.proofs.forms.access.AccessAlone.{FormNext, KnowsAfter}

-- ---- the frame that is owned

owns_none_lowest : (map : ℕ → ℕ) (owned : Option OwnedFrame) → owned ≡ None → OwnsLowest map owned
owns_none_lowest map owned none o is = absurd (cc (none, is))

-- It is the same, whatever is copied into it.
copied_lowest : (map : ℕ → ℕ) (owned : Option OwnedFrame) (v : ℕ) → OwnsLowest map owned → OwnsLowest map (word_copied owned v)
copied_lowest map None v L o is frame lt = absurd (cc is)
copied_lowest map (Some p) v L o is frame lt = L p refl frame (subst (λ n. frame < n) (sym (ap frame_owned is)) lt)

stored_lowest : (map : ℕ → ℕ) (owned : Option OwnedFrame) → OwnsLowest map owned → OwnsLowest map (word_stored owned)
stored_lowest map None L o is frame lt = absurd (cc is)
stored_lowest map (Some p) L o is frame lt = L p refl frame (subst (λ n. frame < n) (sym (ap frame_owned is)) lt)

-- Each frame below the one that a claim tries is taken, where the words before its own are 0 and it saw this one as it is.
below_tried : (map : ℕ → ℕ) (claim : MapClaim) → ScanStands map claim → 0 < claim.seen → claim.seen < 2 ^ 64 → (frame : ℕ)
    → frame < 64 * claim.at + tried_bit claim → is_free map frame ≡ false
below_tried map claim S some small frame lt = by (same_or (frame / 64) claim.at)
  where
    first : (tried_bit claim < 64) × ((i : ℕ) → i < tried_bit claim → has_bit i claim.seen ≡ false)
    first = let T = bit_at-trailing_zeros w64 claim.seen some small in (T.0, λ i low. ap (λ b. b == 1) (T.2 i low))

    by : (frame / 64 ≡ claim.at) ⊎ (frame / 64 ≢ claim.at) → is_free map frame ≡ false
    by (inl e) = ap (λ n. has_bit (frame % 64) (map n)) e ∙ ap (has_bit (frame % 64)) (S.seen some) ∙ first.1 (frame % 64) (omega (arith, e, lt))
    by (inr ne) =
        let low : tried_bit claim < 64 = first.0 in
        let word : frame / 64 < claim.at = omega (arith, lt, low, ne) in
        ap (has_bit (frame % 64)) (S.before (frame / 64) word) ∙ ap (λ b. b == 1) (bit_at-zero (frame % 64))

-- So it is once this one is won, and its bit cleared.
won_lowest : (map : ℕ → ℕ) (claim : MapClaim) → ScanStands map claim → 0 < claim.seen → claim.seen < 2 ^ 64
    → OwnsLowest (upd map claim.at (bit_and (map claim.at) (bit_not w64 (2 ^ tried_bit claim)))) (Some (made.frame_won claim))
won_lowest map claim S some small o is frame lt =
    let below : frame < 64 * claim.at + tried_bit claim = subst (λ n. frame < n) (sym (ap frame_owned is)) lt in
    free_cleared map claim.at (tried_bit claim) (bit_at-trailing_zeros w64 claim.seen some small).0 frame
    ∙ upd_other (is_free map) (64 * claim.at + tried_bit claim) frame false (λ e. absurd (omega (arith, below, e)))
    ∙ below_tried map claim S some small frame below

-- ---- after the step of each place

-- The step is one on frames, or on the words of one.
abbrev is_of_frames : PartStep → Bool
is_of_frames (part.FrameMap word) = true
is_of_frames part.Frame = true
is_of_frames part.GiveFrame = true
is_of_frames (part.Copy index) = true
is_of_frames (part.Store index) = true
is_of_frames (part.Change new_) = true
is_of_frames _ = false

begin_leaves_frames : (p : BeginPlace) (target : Target) (t : Topics) → is_of_frames (begin_part p target t) ≡ false
begin_leaves_frames (begins.Find begun) target t = either_place (λ s. is_of_frames s ≡ false) begun part.Slot part.Slots refl refl
begin_leaves_frames (begins.Walk rooted) target t = either_place (λ s. is_of_frames s ≡ false) rooted (part.Sweep _) part.Root refl refl
begin_leaves_frames _ target t = refl

module _ (command : Command) (words : Area → ℕ → ℕ) (a note : ℕ) (t : Topics) (v : ℕ) where
  abbrev after : PartStep → Area → ℕ → ℕ
  after step = words_after (part_task step a t note) words

  -- Another step leaves all frames as they are.
  still_lowest : (step : PartStep) → is_of_frames step ≡ false → OwnsLowest (words area.FrameMap) t.frames.owned
      → OwnsLowest (after step area.FrameMap) (part_topics step t v).frames.owned
  still_lowest (part.FrameMap word) other L = absurd (cc other)
  still_lowest part.Frame other L = absurd (cc other)
  still_lowest part.GiveFrame other L = absurd (cc other)
  still_lowest (part.Copy index) other L = absurd (cc other)
  still_lowest (part.Store index) other L = absurd (cc other)
  still_lowest (part.Change new_) other L = absurd (cc other)
  still_lowest _ other L = L

  look_form : (own large moving : Bool) (page : ℕ) → t.frames.owned ≡ None
      → FormNext (if own then (if large then Ends (Refused IsHuge) else Goes (place.Host (if moving then host.Claim false else host.Begin begins.Exclude)))
      else Ends (Refused OutOfRange)) command (after (if own then part.Host page else part.Seq)) (part_topics (if own then part.Host page else part.Seq) t v)
  look_form true true moving page none = tt
  look_form true false true page none = tt
  look_form true false false page none = owns_none_lowest (words area.FrameMap) t.frames.owned none
  look_form false large moving page none = tt

  claim_form : (z : Sizes) (begun : Bool) (step : PartStep) (next : ClaimNext) (u : Topics) → ClaimMade z Frames begun t v step next u
      → (begun ≡ true → ScanStands (words area.FrameMap) t.frames.claim) → t.frames.claim.seen < 2 ^ 64
      → FormNext (after_frame_claim next) command (after step) u
  claim_form z begun _ _ _ (made.Won tries b some is) S small = won_lowest (words area.FrameMap) t.frames.claim (S b) some small
  claim_form z begun _ _ _ (made.Lost tries b some is) S small = tt
  claim_form z begun _ _ _ (made.Saw not_ lt) S small = tt
  claim_form z begun _ _ _ (made.SawNone not_ le) S small = tt

module _ (command : Command) (words : Area → ℕ → ℕ) (t u : Topics) where
  begun_form : (moving : Bool) (next : BeginNext) → OwnsLowest (words area.FrameMap) u.frames.owned
      → FormNext (Goes (place.Host (after_begin moving next))) command words u
  begun_form moving (begins_next.Goes p) L = L
  begun_form true begins_next.Begun L = L
  begun_form false begins_next.Begun L = L

  stored_form : (more : Bool) → OwnsLowest (words area.FrameMap) u.frames.owned
      → FormNext (Goes (place.Host (if more then host.Copy else host.Change))) command words u
  stored_form true L = L
  stored_form false L = L

  changed_form : (won : Bool) (old : ℕ) → u.frames.owned ≡ frame_after won old t.frames.owned → OwnsLowest (words area.FrameMap) t.frames.owned
      → FormNext (Goes (place.Host (if won then host.End ends.Exclude else host.Change))) command words u
  changed_form true old is L = tt
  changed_form false old is L = subst (OwnsLowest (words area.FrameMap)) (sym is) L

  ended_form : (moving : Bool) (next : EndNext) → FormNext (after_end moving next) command words u
  ended_form moving (ends_next.Goes p) = tt
  ended_form true ends_next.Ended = tt
  ended_form false ends_next.Ended = tt

  watched_form : (next : WatchNext) → FormNext (Goes (place.Host (after_frame_watch next))) command words u
  watched_form next = each_watch (λ p. FormNext (Goes (place.Host p)) command words u) next host.Watch host.Free tt tt

-- ---- in a sound world

module _ (z : Sizes) (w : World Held) (a : ℕ) (sound : IsSound z w) (there : a < actors_of z) where
  abbrev h : Held
  h = hand_in mmu w a

  abbrev words : Area → ℕ → ℕ
  words = word_in z w

  -- what the step of a place finds, and leaves
  abbrev step_of : HostPlace → ℕ → HostChange → PartStep
  step_of p page change = host_part p page change h

  abbrev found : HostPlace → ℕ → HostChange → ℕ
  found p page change = answer_in (part_task (step_of p page change) (own_index h) h.topics (host_note p page h)) words

  abbrev left : HostPlace → ℕ → HostChange → Area → ℕ → ℕ
  left p page change = words_after (part_task (step_of p page change) (own_index h) h.topics (host_note p page h)) words

  pub host_form : (p : HostPlace) (page : ℕ) (change : HostChange) → HostKnows p page change h
      → AloneKnows (place.Host p) (ChangeHost page change) words h.topics → KnowsAfter z w a (place.Host p) (ChangeHost page change)
  host_form (host.Look moving) page change K L =
      look_form (ChangeHost page change) words (own_index h) (host_note (host.Look moving) page h) h.topics (found (host.Look moving) page change)
      (is_own h.state.sizes h.state.actor page) (maps_large (found (host.Look moving) page change)) moving page K.2
  host_form (host.Claim begun) page change K L =
      claim_form (ChangeHost page change) words (own_index h) (host_note (host.Claim begun) page h) h.topics (found (host.Claim begun) page change)
      h.state.sizes begun _ _ _ (claim_made h.state.sizes Frames begun h.topics (found (host.Claim begun) page change)) (λ b. L.seen.scan Frames b)
      (sound.topics.counters a there).frames.seen
  host_form (host.Begin p) page change K L =
      begun_form (ChangeHost page change) (left (host.Begin p) page change) h.topics
      (part_topics (step_of (host.Begin p) page change) h.topics (found (host.Begin p) page change)) (moves h.topics)
      (begin_next p h.state.sizes (aim.Page page) h.topics (found (host.Begin p) page change))
      (still_lowest (ChangeHost page change) words (own_index h) (host_note (host.Begin p) page h) h.topics (found (host.Begin p) page change)
      (begin_part p (aim.Page page) h.topics) (begin_leaves_frames p (aim.Page page) h.topics) L.form)
  host_form host.Copy page change K L =
      copied_lowest (words area.FrameMap) h.topics.frames.owned (found host.Copy page change) L.form
  host_form host.Store page change K L =
      stored_form (ChangeHost page change) (left host.Store page change) h.topics
      (part_topics (step_of host.Store page change) h.topics (found host.Store page change))
      (nat_lt (words_moved h.topics.frames.owned + 1) h.state.sizes.words) (stored_lowest (words area.FrameMap) h.topics.frames.owned L.form)
  host_form host.Change page change K L =
      changed_form (ChangeHost page change) (left host.Change page change) h.topics
      (part_topics (step_of host.Change page change) h.topics (found host.Change page change))
      (found host.Change page change == word_looked h.topics.host) (host_frame (word_looked h.topics.host)) refl L.form
  host_form (host.End p) page change K L =
      ended_form (ChangeHost page change) (left (host.End p) page change) h.topics
      (part_topics (step_of (host.End p) page change) h.topics (found (host.End p) page change)) (moves h.topics)
      (end_next p (found (host.End p) page change))
  host_form host.Watch page change K L =
      watched_form (ChangeHost page change) (left host.Watch page change) h.topics
      (part_topics (step_of host.Watch page change) h.topics (found host.Watch page change)) (watch_next h (found host.Watch page change))
  host_form host.Free page change K L = tt
