-- A line that changes a slot knows after each of its steps what its next place asks.
use Rattle.std.proofs.lemmas.Bool.Decides.{nat_tests}
use Rattle.std.proofs.Common.{◌≡◌, ◌<◌, ◌≤◌, ◌+◌, ◌==◌, ℕ, arith, refl, sym, subst, ap, ◌∙◌}
use Rattle.part_steps.specs.StayTopics.{is_section}
use Rattle.std.specs.Prelude.{Bool, true, false, nat_lt, if◌then◌else◌, Option, Some, None, is_some}
use Rattle.circular_buffer.specs.Buffer.{Buffer}
use Rattle.core_views.specs.declared.cache.Translation.{Translation}
use Rattle.core_views.specs.declared.place.BeginPlace.{BeginPlace}
use Rattle.core_views.specs.declared.place.BeginPlace.TheVariants as begins
use Rattle.core_views.specs.declared.place.EndPlace.{EndPlace}
use Rattle.core_views.specs.declared.place.EndPlace.TheVariants as ends
use Rattle.core_views.specs.declared.place.Place.TheVariants as place
use Rattle.core_views.specs.declared.place.SlotChangePlace.{SlotChangePlace}
use Rattle.core_views.specs.declared.place.SlotChangePlace.TheVariants.{AtOnce, Claim, Fill, Role, Arm, Begin, Exclude, Count, Close, Publish}
use Rattle.core_views.specs.declared.place.SlotChangePlace.TheVariants.{Release, End, Watch, WriteProtect, Clear, Give}
use Rattle.core_views.specs.declared.topics.Hold.TheVariants.{Loose, Exclusive}
use Rattle.core_views.specs.declared.topics.Topics.{Topics}
use Rattle.core_views.specs.declared.trace.Command.{Command}
use Rattle.core_views.specs.declared.trace.Line.{Line}
use Rattle.core_views.specs.declared.trace.Slot.{Slot}
use Rattle.core_views.specs.Held.{Held}
use Rattle.core_views.specs.Sizes.{actors_of}
use Rattle.core_views.specs.SlotCommands.{arms, changes_slot, slot_armed, slot_invalidated}
use Rattle.core_views.specs.LogCommands.{is_all_set}
use Rattle.core_views.specs.declared.place.FrameRange.{FrameRange}
use Rattle.core_views.specs.declared.place.WriteProtectPlace.{WriteProtectPlace}
use Rattle.core_views.specs.declared.place.WriteProtectPlace.TheVariants as protect
use Rattle.part_steps.specs.declared.invalidations.Target.{Target}
use Rattle.part_steps.specs.declared.part_step.PartStep.TheVariants as part
use Rattle.part_steps.specs.ControlTopics.{count_checked}
use Rattle.part_steps.specs.PageTopics.{filled_more}
use Rattle.part_steps.specs.PartBounds.{PartRests}
use Rattle.part_steps.specs.LogHoldings.{log_begin, log_end}
use Rattle.part_steps.specs.SetHoldings.{MayGiveOld, OwnsSet, next_watched, own_open}
use Rattle.part_steps.specs.PartTasks.{own_index, page_retired, words_filled}
use Rattle.part_steps.specs.PartTopics.{part_topics}
use Rattle.part_steps.specs.SetWords.{set_role}
use Rattle.mmu_core.specs.declared.claim.ClaimNext.{ClaimNext}
use Rattle.mmu_core.specs.declared.claim.ClaimNext.TheVariants as claims
use Rattle.mmu_core.specs.declared.invalidate.BeginNext.{BeginNext}
use Rattle.mmu_core.specs.declared.invalidate.BeginNext.TheVariants as begins_next
use Rattle.mmu_core.specs.declared.invalidate.EndNext.{EndNext}
use Rattle.mmu_core.specs.declared.invalidate.EndNext.TheVariants as ends_next
use Rattle.mmu_core.specs.declared.watch.WatchNext.{WatchNext}
use Rattle.mmu_core.specs.orders.ClaimSteps.{Pages}
use Rattle.mmu_core.specs.forms.access.FaultLaws.{CanAnswer}
use Rattle.mmu_core.specs.lines.Forms.{KnowsPart, RetiresPart}
use Rattle.mmu_core.specs.orders.InvalidateSteps.{begin_next, begin_part, end_next, end_part}
use Rattle.mmu_core.specs.forms.slot_change.SlotChangeKnows.{ArmsFitting, ArmsSlot, Fits, HasPublished, HoldsLock, IsInLog, SlotChangeKnows}
use Rattle.mmu_core.specs.forms.slot_change.SlotChangeSteps.{after_arm, after_grace, after_protect, after_role, after_set_begin, after_set_claim, after_set_end}
use Rattle.mmu_core.specs.forms.slot_change.SlotChangeSteps.{after_watch, arm_word, frames_of, log_target, slot_change_outcome, slot_change_part, slot_or_none}
use Rattle.mmu_core.specs.forms.slot_change.SlotChangeSteps.{slot_target}
use Rattle.mmu_core.specs.declared.write_protect.WriteProtectNext.{WriteProtectNext}
use Rattle.mmu_core.specs.declared.write_protect.WriteProtectNext.TheVariants as protects_next
use Rattle.mmu_core.specs.orders.WriteProtectSteps.{protect_next, protect_part}
use Rattle.mmu_core.proofs.orders.RunsAimed.{none_changed}
use Rattle.mmu_core.proofs.orders.ProtectKnown.{ProtectComes, protect_known}
use Rattle.mmu_core.proofs.orders.ProtectPlaces.{kept_closed, protect_leaves_pages}
use Rattle.mmu_core.proofs.orders.ClaimMade.{claim_made}
use Rattle.mmu_core.proofs.orders.ClaimRests.{RestsAfterClaim, claim_rests}
use Rattle.mmu_core.proofs.lines.EitherPlace.{one_place}
use Rattle.mmu_core.proofs.orders.FillMade.{fill_ends, fill_goes, same_set, set_whole}
use Rattle.mmu_core.proofs.orders.InvalidateKnown.{BeginComes, EndComes, begin_known, ending_known}
use Rattle.mmu_core.proofs.orders.InvalidatePlaces.{LeavesPages, begin_leaves_pages, end_leaves_pages}
use Rattle.mmu_core.proofs.lines.KnowsKept.{KnowsBehind}
use Rattle.mmu_core.proofs.lines.LockHeld.{lock_let_go, lock_publishes, lock_taken, lock_tried, rests_by_seq}
use Rattle.mmu_core.proofs.orders.WatchMade.{WatchMade, watch_begins, watch_comes, watch_made}
use Rattle.mmu_core.proofs.orders.WatchMade as watch
use Rattle.mmu_core.proofs.machine.HandWith.{hand_with}
use Rattle.mmu_core.proofs.slots.MadeWay.{free_holds, holds_free, owns_aimed, sees_none, sees_others, some_fits, way_begun, way_free, way_still}
use Rattle.mmu_core.proofs.slots.MadeWay.{way_flushed, way_tried, way_unraised}
use Rattle.mmu_core.proofs.slots.SlotChangeArms.{armed_is, none_moved, published_there}

-- What the words say besides what the line knows: a slot that it moves, or gives a dirty log, fits the machine, and its own invalidation is counted.
pub record WordsSay (p : SlotChangePlace) (command : Command) (h : Held) (v : ℕ) : Type 0 where
  pub fits : (slot : Slot) → slot_invalidated h.slots command ≡ Some slot → Fits h.state.sizes slot
  pub counted : p ≡ Count → own_open h.topics.invalidations ≤ v
  pub armed : (slot : Slot) → slot_armed h.slots command ≡ Some slot → Fits h.state.sizes slot × (1 ≤ slot.pages)
  pub there : p ≡ Role → arms command ≡ true → is_some (slot_armed h.slots command) ≡ true
  pub arms_slot : p ≡ Role → is_some (slot_armed h.slots command) ≡ true → ArmsSlot h.state.actor h.state.sizes command h.slots

-- ---- What is known after each step: what the next place asks, or rest where the line is answered.

module _ (line : Line) (h : Held) (command : Command) (cached : Buffer Translation) (v : ℕ) (changes : changes_slot command ≡ true) where
  -- the hand after the step of a place, with these topics
  abbrev behind : SlotChangePlace → Topics → Held
  behind p t = hand_with line command (place.SlotChange p) h t cached v

  abbrev Knows : SlotChangePlace → Held → Type 0
  Knows p g = KnowsPart (place.SlotChange p) command g

  -- The retired page is kept with the steps that forbid writes.
  still_given : (range : FrameRange) (p : WriteProtectPlace) (u : Topics) → LeavesPages h.topics u → u.invalidations.opened ≡ false → MayGiveOld h
      → MayGiveOld (behind (WriteProtect range p) u)
  still_given range p u L closed old = record {
    leaves = ap is_some L.retired ∙ old.leaves;
    in_pool = subst (λ o. page_retired o < h.state.sizes.pool) (sym L.retired) old.in_pool;
    owns_none = L.owned ∙ old.owns_none;
    watched = subst (λ n. actors_of h.state.sizes ≤ next_watched (own_index h) n) (sym L.watched) old.watched;
    closed = closed;
  }

  claim_known : (p : SlotChangePlace) (next : ClaimNext) (u : Topics) → RestsAfterClaim Pages next h.state.sizes u
      → KnowsBehind (after_set_claim next) command (behind p u)
  claim_known p claims.Goes u C = (changes, (C.0, λ b. C.2))
  claim_known p claims.Got u C = (changes, C)
  claim_known p claims.Empty u C = C.0

  -- A page that is retired is one of the pool.
  retired_below : PartRests h → is_some h.topics.retired ≡ true → page_retired h.topics.retired < h.state.sizes.pool
  retired_below R leaves = by h.topics.retired refl leaves
    where
      by : (o : Option ℕ) → h.topics.retired ≡ o → is_some o ≡ true → page_retired o < h.state.sizes.pool
      by None is some = absurd (cc some)
      by (Some k) is some = R.left k is

  -- After the watch writes are forbidden to a slot whose dirty log begins, unless each page is dirty then.
  grace_known : (slot : Option Slot) → slot_armed h.slots command ≡ slot → WordsSay Watch command h v → PartRests h → (u : Topics)
      → HoldsLock Loose u → u.invalidations.opened ≡ false → MayGiveOld (behind Watch u) → Knows (after_grace h.state.sizes slot) (behind Watch u)
  grace_known None is W R u free closed old = (changes, (free, old))
  grace_known (Some slot) is W R u free closed old =
      let F = W.armed slot is in
      let frames = F.0.frames in
      let pages = F.0.pages in
      let some = F.1 in
      one_place (λ q. Knows q (behind Watch u)) (is_all_set h.state.sizes.mode) Clear (WriteProtect (frames_of slot) protect.Exclude)
      (λ all. (changes, (free, old)))
      (λ none. (
        changes,
        (
          old,
          record { free = holds_free u free; closed = closed },
          record { some = omega (arith, some); low = frames; few = omega (arith, pages) },
          armed_is h.slots command slot is,
          none,
          (sym (ap (λ o. (slot_or_none o).base) is), sym (ap (λ o. (slot_or_none o).base + (slot_or_none o).pages) is)),
        ),
      ))

  watch_known : (next : WatchNext) (u : Topics) → WatchMade (own_index h) (actors_of h.state.sizes) h.topics v next u → PartRests h
      → SlotChangeKnows Watch command h → WordsSay Watch command h v → h.topics.invalidations.opened ≡ false
      → Knows (after_watch h.state.sizes (slot_armed h.slots command) next) (behind Watch u)
  watch_known _ _ (watch.Again is) R K W closed =
      (changes, (K.0, K.1, watch_comes (own_index h) (actors_of h.state.sizes) h.topics v _ _ (watch.Again is) K.2, K.3, K.4))
  watch_known _ _ (watch.Next is lt) R K W closed = (changes, (K.0, K.1, lt, K.3, K.4))
  watch_known _ u (watch.Last is le) R K W closed = grace_known (slot_armed h.slots command) refl W R u K.0 closed
      (record { leaves = K.1.leaves; in_pool = retired_below R K.1.leaves; owns_none = K.1.owns_none; watched = le; closed = closed })

  -- the slot that is moved, if there is one
  abbrev moved : Option Slot
  moved = slot_invalidated h.slots command

  -- after its page is filled whole
  role_known : SlotChangeKnows Role command h → RetiresPart (place.SlotChange Role) h.topics → WordsSay Role command h v → CanAnswer (part.Role set_role) v
      → Knows (after_role moved (slot_armed h.slots command)) (behind Role (record h.topics { owned = filled_more h.topics.owned v }))
  role_known K left W A =
      let u : Topics = record h.topics { owned = filled_more h.topics.owned v } in
      let owns : OwnsSet u = set_whole h.topics v K.1 A in
      let closed = left.opens refl in
      one_place (λ q. Knows q (behind Role u)) (is_some moved) (Begin begins.Exclude) (if is_some (slot_armed h.slots command) then Arm false else Exclude)
      (λ e. (changes, (owns, (holds_free u K.0, closed), e, some_fits h.state.sizes moved W.fits e))) (λ e.
      one_place (λ q. Knows q (behind Role u)) (is_some (slot_armed h.slots command)) (Arm false) Exclude
      (λ some. (changes, (K.0, owns, closed, W.arms_slot refl some, λ begun. absurd (cc begun))))
      (λ none. (changes, (K.0, owns, way_free h.state.sizes moved u e closed, λ arms_. absurd (let there = W.there refl arms_ in cc (there, none))))))

  -- after a word of its log is set
  arm_known : (begun : Bool) → SlotChangeKnows (Arm begun) command h → Knows (after_arm (log_target h command) (arm_word begun (log_target h command) h.topics))
      (behind (Arm begun) (record h.topics { next_log_word = arm_word begun (log_target h command) h.topics + 1 }))
  arm_known begun K =
      let slot : Slot = log_target h command in
      let u : Topics = record h.topics { next_log_word = arm_word begun slot h.topics + 1 } in
      let least = from_first begun K.4 in
      one_place (λ q. Knows q (behind (Arm begun) u)) (nat_lt (arm_word begun slot h.topics + 1) (log_end slot)) (Arm true) Exclude
      (λ e. (changes, (K.0, same_set h.topics u refl K.1, K.2, K.3, λ is. (omega (arith, least), grind (arith, nat_tests)))))
      (λ e. (changes, (K.0, same_set h.topics u refl K.1, way_free h.state.sizes moved u (none_moved h.slots command K.3.arms) K.2, λ arms_. K.3.there)))
    where
      from_first : (b : Bool) → (b ≡ true → IsInLog (log_target h command) h.topics.next_log_word)
          → log_begin (log_target h command) ≤ arm_word b (log_target h command) h.topics
      from_first true in_log = (in_log refl).0
      from_first false in_log = omega arith

  -- after a step that forbids writes
  protect_comes : (range : FrameRange) (p : WriteProtectPlace) (next : WriteProtectNext) (u : Topics) → LeavesPages h.topics u
      → SlotChangeKnows (WriteProtect range p) command h → ProtectComes next h.state.sizes range u
      → Knows (after_protect range next) (behind (WriteProtect range p) u)
  protect_comes range p (protects_next.Goes q) u L K C = (changes, (still_given range p u L (kept_closed q h.state.sizes range u C) K.0, C, K.2, K.3, K.4, K.5))
  protect_comes range p protects_next.Over u L K C = (changes, (free_holds u C.free, still_given range p u L C.closed K.0))

  -- after a step that begins its invalidation
  begin_comes : (p : BeginPlace) (next : BeginNext) (u : Topics) → LeavesPages h.topics u → SlotChangeKnows (Begin p) command h
      → BeginComes next h.state.sizes (slot_target h command) u → Knows (after_set_begin next) (behind (Begin p) u)
  begin_comes p (begins_next.Goes q) u L K C = (changes, (same_set h.topics u L.owned K.0, C, K.2, K.3))
  begin_comes p begins_next.Begun u L K C = (
    changes,
    (
      free_holds u C.0.rests,
      same_set h.topics u L.owned K.0,
      way_begun h.state.sizes moved u K.2 C.0 C.1 C.4 C.2 C.3,
      λ arms_. absurd (let none = none_moved h.slots command arms_ in let some = K.2 in cc (none, some)),
    ),
  )

  few_armed : {p : SlotChangePlace} → WordsSay p command h v → ArmsFitting h.state.sizes command h.slots
  few_armed W slot is = (W.armed slot is).0

  -- after one that ends it
  still_published : (u : Topics) → LeavesPages h.topics u → HasPublished h.topics.retired h.topics.owned → HasPublished u.retired u.owned
  still_published u L H = record { leaves = ap is_some L.retired ∙ H.leaves; owns_none = L.owned ∙ H.owns_none }

  end_comes : (p : EndPlace) (next : EndNext) (u : Topics) → PartRests h → LeavesPages h.topics u → SlotChangeKnows (End p) command h → EndComes next u
      → WordsSay (End p) command h v → Knows (after_set_end next) (behind (End p) u)
  end_comes p (ends_next.Goes q) u R L K C W = (changes, (C, still_published u L K.1, L.watched ∙ K.2, K.3))
  end_comes p ends_next.Ended u R L K C W =
      (changes, (free_holds u C.0, still_published u L K.1, watch_begins (behind (End p) u) (L.watched ∙ K.2) R.sizes, few_armed W, K.3))

  pub slot_change_known : (p : SlotChangePlace) → PartRests h → SlotChangeKnows p command h → RetiresPart (place.SlotChange p) h.topics
      → WordsSay p command h v → CanAnswer (slot_change_part p h command) v
      → KnowsBehind (slot_change_outcome p command h v) command (behind p (part_topics (slot_change_part p h command) h.topics v))
  slot_change_known (AtOnce refusal) R K left W A = rests_by_seq h.topics v K.0
  slot_change_known (Claim begun) R K left W A =
      claim_known (Claim begun) _ _
      (claim_rests h.state.sizes Pages begun h.topics v _ _ _ (claim_made h.state.sizes Pages begun h.topics v) K.0 K.0.owns_none K.1)
  slot_change_known Fill R K left W A = one_place (λ q. Knows q (behind Fill (record h.topics { owned = filled_more h.topics.owned v })))
      (nat_lt (words_filled h.topics.owned + 1) 512) Fill Role
      (λ e. (changes, (K.0, fill_goes h.topics v K.1 e))) (λ e. (changes, (K.0, fill_ends h.topics v K.1 e)))
  slot_change_known Role R K left W A = role_known K left W A
  slot_change_known (Begin p) R K left W A =
      let target : Target = slot_target h command in
      begin_comes p (begin_next p h.state.sizes target h.topics v) (part_topics (begin_part p target h.topics) h.topics v)
      (begin_leaves_pages p target h.topics v) K
      (begin_known p h.state.sizes target h.topics v R.sizes K.3.frames (owns_aimed (slot_or_none moved) h.topics K.0) R.frames R.row R.level K.1 A)
  slot_change_known Exclude R K left W A =
      let u : Topics = part_topics part.Exclude h.topics v in
      let way = way_tried h.state.sizes moved h.topics v K.2 in
      one_place (λ q. Knows q (behind Exclude u)) (v == 0) Count Exclude
      (λ e. (changes, (lock_taken h.topics v K.0 e, same_set h.topics u refl K.1, way, K.3)))
      (λ e. (changes, (lock_tried h.topics v K.0 e, same_set h.topics u refl K.1, way, K.3)))
  slot_change_known Count R K left W A =
      let u : Topics = part_topics part.Count h.topics v in
      let owns : OwnsSet u = same_set h.topics u refl K.1 in
      let way = way_still h.state.sizes moved h.topics u refl refl refl (λ is. refl) K.2 in
      one_place (λ q. Knows q (behind Count u)) (v == own_open h.topics.invalidations) Publish Close
      (λ e. (
        changes,
        (
          K.0,
          record {
            owns = owns;
            alone = K.0.holds;
            looked = ap count_checked K.0.holds;
            none_open = grind (arith, nat_tests);
            of_no_page = K.2.of_no_page;
            none_retired = left.leaves refl;
          },
          way,
          K.3,
        ),
      ))
      (λ e. (changes, (K.0, owns, way, sees_others h.topics v K.0 (W.counted refl) e, K.3)))
  slot_change_known Close R K left W A = (
    changes,
    (
      lock_let_go Exclusive h.topics K.0,
      same_set h.topics _ refl K.1,
      way_still h.state.sizes moved h.topics _ refl refl refl (λ is. refl) K.2,
      K.4,
    ),
  )
  slot_change_known Publish R K left W A = (
    changes,
    (
      lock_publishes Exclusive h.topics v K.0,
      record { leaves = refl; owns_none = refl },
      refl,
      sees_none h.topics.invalidations K.1.none_open,
      way_unraised h.state.sizes moved h.topics K.2,
      published_there h.slots command K.3,
      way_flushed h.state.sizes moved h.topics K.2,
      K.2.of_no_page,
    ),
  )
  slot_change_known Release R K left W A =
      let u : Topics = part_topics part.Release h.topics v in
      let free : HoldsLock Loose u = lock_let_go Exclusive h.topics K.0 in
      one_place (λ q. Knows q (behind Release u)) h.topics.invalidations.opened (End ends.Exclude) Watch
      (λ e. (changes, ((record { rests = holds_free u free; opened = e; unraised = K.4 e }, none_changed u (K.7 e)), K.1, K.2, K.5)))
      (λ e. (changes, (free, K.1, watch_begins h K.2 R.sizes, few_armed W, K.5)))
  slot_change_known (End p) R K left W A =
      end_comes p (end_next p v) (part_topics (end_part p h.topics) h.topics v) R (end_leaves_pages p h.topics v) K (ending_known p h.topics v K.0 A) W
  slot_change_known (Arm begun) R K left W A = arm_known begun K
  slot_change_known (WriteProtect range p) R K left W A =
      protect_comes range p (protect_next p h.state.sizes range h.topics v) (part_topics (protect_part p range h.topics) h.topics v)
      (protect_leaves_pages p range h.topics v) K (protect_known p h.state.sizes range h.topics v R.sizes K.2.some K.2.low R.level K.1)
  slot_change_known Watch R K left W A = watch_known _ _ (watch_made h v) R K W (left.opens refl)
  slot_change_known Clear R K left W A =
      let none = ap (λ o. filled_more o v) K.1.owns_none in
      (changes, (K.0, record { leaves = K.1.leaves; in_pool = K.1.in_pool; owns_none = none; watched = K.1.watched; closed = K.1.closed }))
  slot_change_known Give R K left W A =
      let owes_none = R.owes (ap is_section K.0.outside) in
      record { outside = K.0.outside; loose = K.0.holds; owns_none = refl; owes_none = owes_none; no_table = K.0.no_table; no_set = K.0.no_set }
