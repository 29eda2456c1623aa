-- Where a line that changes a slot stands after a step: what it has filled of its page, and that a page is retired, and its own invalidation is open, where its
-- place says so.
use Rattle.std.proofs.Common.{◌≡◌, ◌+◌, ◌==◌, ℕ, refl, sym, subst, ap, ◌∙◌}
use Rattle.std.specs.Prelude.{Bool, true, false, nat_lt, if◌then◌else◌, Option, Some, None, is_some}
use Rattle.circular_buffer.specs.Buffer.{Buffer}
use Rattle.core_views.specs.declared.cache.Translation.{Translation}
use Rattle.core_views.specs.declared.place.BeginPlace.{BeginPlace}
use Rattle.core_views.specs.declared.place.BeginPlace.TheVariants as begins
use Rattle.core_views.specs.declared.place.EndPlace.TheVariants as ends
use Rattle.core_views.specs.declared.place.Place.TheVariants as place
use Rattle.core_views.specs.declared.place.SlotChangePlace.{SlotChangePlace}
use Rattle.core_views.specs.declared.place.SlotChangePlace.TheVariants.{Claim, Fill, Role, Arm, Begin, Exclude, Count, Close, Publish}
use Rattle.core_views.specs.declared.place.SlotChangePlace.TheVariants.{Release, End, Watch, WriteProtect, Clear, Give}
use Rattle.core_views.specs.declared.sizes.Sizes.{Sizes}
use Rattle.core_views.specs.declared.topics.Frames.{Frames as HeldFrames}
use Rattle.core_views.specs.declared.topics.Topics.{Topics}
use Rattle.core_views.specs.declared.trace.Command.{Command}
use Rattle.core_views.specs.declared.trace.Line.{Line}
use Rattle.core_views.specs.Held.{Held}
use Rattle.core_views.specs.SlotCommands.{change_at_once, slot_armed, slot_invalidated, slots_after}
use Rattle.core_views.specs.LogCommands.{is_all_set}
use Rattle.core_views.specs.declared.trace.Slot.{Slot}
use Rattle.core_views.specs.declared.place.WriteProtectPlace.TheVariants as protect
use Rattle.part_steps.specs.LogHoldings.{log_end}
use Rattle.spte_words.specs.declared.area.Area.{Area}
use Rattle.spte_words.specs.declared.area.Area.TheVariants as area
use Rattle.part_steps.specs.declared.invalidations.Target.{Target}
use Rattle.part_steps.specs.declared.part_step.PartStep.{PartStep}
use Rattle.part_steps.specs.declared.part_step.PartStep.TheVariants as part
use Rattle.part_steps.specs.PageTopics.{filled_more, still_retired}
use Rattle.part_steps.specs.PartBounds.{PartRests}
use Rattle.part_steps.specs.SetHoldings.{own_open}
use Rattle.part_steps.specs.PartTasks.{words_filled}
use Rattle.part_steps.specs.PartTopics.{part_topics}
use Rattle.part_steps.specs.SetWords.{IsFilledWith, set_word}
use Rattle.mmu_core.specs.declared.claim.ClaimNext.{ClaimNext}
use Rattle.mmu_core.specs.declared.invalidate.BeginNext.{BeginNext}
use Rattle.mmu_core.specs.declared.invalidate.BeginNext.TheVariants as begins_next
use Rattle.mmu_core.specs.declared.invalidate.EndNext.{EndNext}
use Rattle.mmu_core.specs.declared.invalidate.EndNext.TheVariants as ends_next
use Rattle.mmu_core.specs.orders.ClaimSteps.{Pages}
use Rattle.mmu_core.specs.forms.access.FaultLaws.{CanAnswer}
use Rattle.mmu_core.specs.lines.Forms.{Holds, RetiresPart, may_open, may_retire}
use Rattle.mmu_core.specs.orders.InvalidateSteps.{begin_next, end_next}
use Rattle.mmu_core.specs.forms.slot_change.SlotChangeKnows.{FillsSet, SlotChangeHolds, SlotChangeKnows}
use Rattle.mmu_core.specs.forms.slot_change.SlotChangeSteps.{after_grace, after_protect, after_set_begin, after_set_claim, after_set_end, arm_word, frames_of}
use Rattle.mmu_core.specs.forms.slot_change.SlotChangeSteps.{log_target}
use Rattle.mmu_core.specs.forms.slot_change.SlotChangeSteps.{looked_at, slot_change_outcome, slot_change_part}
use Rattle.mmu_core.specs.declared.write_protect.WriteProtectNext.{WriteProtectNext}
use Rattle.mmu_core.specs.declared.write_protect.WriteProtectNext.TheVariants as protects_next
use Rattle.mmu_core.specs.orders.WriteProtectSteps.{protect_next}
use Rattle.mmu_core.proofs.orders.ProtectPlaces.{protect_leaves_pages, protect_opens}
use Rattle.mmu_core.specs.forms.slot_change.SlotChangeSteps.{slot_change_task, slot_or_none, slot_target, watch_next}
use Rattle.mmu_core.specs.machine.Outcomes.{place_after}
use Rattle.mmu_core.specs.machine.View.{words_after}
use Rattle.mmu_core.proofs.orders.ClaimMade.{ClaimMade, claim_is, claim_leaves, claim_made, page_won}
use Rattle.mmu_core.proofs.orders.ClaimMade as made
use Rattle.mmu_core.proofs.lines.EitherPlace.{each_watch, either_place, one_place}
use Rattle.mmu_core.proofs.orders.InvalidateKnown.{BeginComes, EndComes, begin_known, ending_known}
use Rattle.mmu_core.proofs.orders.InvalidatePlaces.{begin_leaves_pages, end_leaves_pages, not_yet_open}
use Rattle.mmu_core.proofs.machine.HandWith.{hand_with}
use Rattle.mmu_core.proofs.pages.WordsFilled.{all_filled, none_filled, one_more}
use Rattle.mmu_core.proofs.slots.LiveStays.{OwnedStays}
use Rattle.mmu_core.proofs.slots.MadeWay.{owns_aimed}

-- It begins its invalidation there.
abbrev pub is_begin : SlotChangePlace → Bool
is_begin (Begin p) = true
is_begin _ = false

module _ (line : Line) (h : Held) (command : Command) (cached : Buffer Translation) (v : ℕ) where
  -- the hand after the step of a place, with these topics
  abbrev behind : SlotChangePlace → Topics → Held
  behind p t = hand_with line command (place.SlotChange p) h t cached v

  -- ---- what it has filled of the page

  claim_holds : (z : Sizes) (pool : ℕ → ℕ) (set : ℕ) (begun : Bool) (step : PartStep) (next : ClaimNext) (u : Topics)
      → ClaimMade h.state.sizes Pages begun h.topics v step next u → change_at_once z command h.slots ≡ None
      → Holds z pool set (place_after (after_set_claim next)) command (behind (Claim begun) u)
  claim_holds z pool set begun _ _ _ (made.Won tries b some is) e =
      record { works = e; filled = none_filled pool (set_word (slots_after command h.slots)) (page_won h.topics.walk h.topics.claim) refl }
  claim_holds z pool set begun _ _ _ (made.SawNone not_ le) e = tt
  claim_holds z pool set begun _ _ _ _ e = e

  begin_holds : (z : Sizes) (pool : ℕ → ℕ) (p : BeginPlace) (next : BeginNext) (u : Topics) → FillsSet z pool command h.slots u.owned
      → SlotChangeHolds z pool (after_set_begin next) command (behind (Begin p) u)
  begin_holds z pool p (begins_next.Goes q) u F = F
  begin_holds z pool p begins_next.Begun u F = F

  -- The words of its own page stay with the steps of an invalidation, and change as it fills them.
  pub change_holds : (z : Sizes) (words : Area → ℕ → ℕ) (set : ℕ) (p : SlotChangePlace) → SlotChangeKnows p command h
      → (is_begin p ≡ true → OwnedStays (words area.Pool) (words_after (slot_change_task p h command) words area.Pool) h)
      → SlotChangeHolds z (words area.Pool) p command h
      → Holds z (words_after (slot_change_task p h command) words area.Pool) set (place_after (slot_change_outcome p command h v)) command
      (behind p (part_topics (slot_change_part p h command) h.topics v))
  change_holds z words set (Claim begun) K stays e =
      claim_holds z (words_after (slot_change_task (Claim begun) h command) words area.Pool) set begun _ _ _ (claim_made h.state.sizes Pages begun h.topics v) e
  change_holds z words set Fill K stays e =
      let pool : ℕ → ℕ = words_after (slot_change_task Fill h command) words area.Pool in
      let filled = one_more (words area.Pool) (set_word (slots_after command h.slots)) h.topics.owned v K.1.1 e.filled in
      let F : FillsSet z pool command h.slots (filled_more h.topics.owned v) = record { works = e.works; filled = filled } in
      either_place (λ q. SlotChangeHolds z pool q command (behind Fill (record h.topics { owned = filled_more h.topics.owned v })))
      (nat_lt (words_filled h.topics.owned + 1) 512) Fill Role F F
  change_holds z words set Role K stays e =
      let filled = all_filled (words area.Pool) (set_word (slots_after command h.slots)) h.topics.owned v K.1 e.filled in
      let F : FillsSet z (words area.Pool) command h.slots (filled_more h.topics.owned v) = record { works = e.works; filled = filled } in
      either_place (λ q. SlotChangeHolds z (words area.Pool) q command (behind Role (record h.topics { owned = filled_more h.topics.owned v })))
      (is_some (slot_invalidated h.slots command)) (Begin begins.Exclude) (if is_some (slot_armed h.slots command) then Arm false else Exclude) F
      (either_place (λ q. SlotChangeHolds z (words area.Pool) q command (behind Role (record h.topics { owned = filled_more h.topics.owned v })))
      (is_some (slot_armed h.slots command)) (Arm false) Exclude F F)
  change_holds z words set (Arm begun) K stays e =
      let slot = log_target h command in
      either_place (λ q. SlotChangeHolds z (words area.Pool) q command (behind (Arm begun) (part_topics (slot_change_part (Arm begun) h command) h.topics v)))
      (nat_lt (arm_word begun slot h.topics + 1) (log_end slot)) (Arm true) Exclude e e
  change_holds z words set (Begin p) K stays e =
      let target : Target = slot_target h command in
      let pool : ℕ → ℕ = words_after (slot_change_task (Begin p) h command) words area.Pool in
      let same = (begin_leaves_pages p target h.topics v).owned in
      begin_holds z pool p (begin_next p h.state.sizes target h.topics v) (part_topics (slot_change_part (Begin p) h command) h.topics v) (record {
        works = e.works;
        filled =
            subst (IsFilledWith pool (slots_after command h.slots)) (sym same) (λ o is j lt word. stays refl o is j word ∙ e.filled o is j lt word);
      })
  change_holds z words set Exclude K stays e =
      either_place (λ q. SlotChangeHolds z (words area.Pool) q command (behind Exclude (part_topics part.Exclude h.topics v))) (v == 0) Count Exclude e e
  change_holds z words set Count K stays e =
      either_place (λ q. SlotChangeHolds z (words area.Pool) q command (behind Count (part_topics part.Count h.topics v)))
      (v == own_open h.topics.invalidations) Publish Close e e
  change_holds z words set Close K stays e = e
  change_holds z words set Release K stays e =
      either_place (λ q. SlotChangeHolds z (words area.Pool) q command (behind Release (part_topics part.Release h.topics v)))
      h.topics.invalidations.opened (End ends.Exclude) Watch tt tt
  change_holds z words set (End p) K stays e = end_holds (end_next p v)
    where
      end_holds : (next : EndNext) → SlotChangeHolds z (words_after (slot_change_task (End p) h command) words area.Pool) (after_set_end next) command
          (behind (End p) (part_topics (slot_change_part (End p) h command) h.topics v))
      end_holds (ends_next.Goes q) = tt
      end_holds ends_next.Ended = tt
  change_holds z words set Watch K stays e =
      each_watch (λ q. SlotChangeHolds z (words area.Pool) q command (behind Watch (part_topics (part.Watch (looked_at h)) h.topics v)))
      (watch_next h v) Watch (after_grace h.state.sizes (slot_armed h.slots command)) tt (grace_holds (slot_armed h.slots command))
    where
      grace_holds : (slot : Option Slot) → SlotChangeHolds z (words area.Pool) (after_grace h.state.sizes slot) command
          (behind Watch (part_topics (part.Watch (looked_at h)) h.topics v))
      grace_holds None = tt
      grace_holds (Some slot) =
          either_place (λ q. SlotChangeHolds z (words area.Pool) q command (behind Watch (part_topics (part.Watch (looked_at h)) h.topics v)))
          (is_all_set h.state.sizes.mode) Clear (WriteProtect (frames_of slot) protect.Exclude) tt tt
  change_holds z words set (WriteProtect range p) K stays e = protect_holds (protect_next p h.state.sizes range h.topics v)
    where
      protect_holds : (next : WriteProtectNext)
          → SlotChangeHolds z (words_after (slot_change_task (WriteProtect range p) h command) words area.Pool) (after_protect range next) command
          (behind (WriteProtect range p) (part_topics (slot_change_part (WriteProtect range p) h command) h.topics v))
      protect_holds (protects_next.Goes q) = tt
      protect_holds protects_next.Over = tt
  change_holds z words set _ K stays e = tt

-- ---- which page is retired: after a step up to the publication none, and after the last one none any more

end_retires : (next : EndNext) → may_retire (place.SlotChange (after_set_end next)) ≡ true
end_retires (ends_next.Goes q) = refl
end_retires ends_next.Ended = refl

module _ (h : Held) (command : Command) (v : ℕ) where
  -- what is held after the step of a place, and the place where the line stands then
  abbrev after : SlotChangePlace → Topics
  after p = part_topics (slot_change_part p h command) h.topics v

  page_retires : (p : SlotChangePlace) → SlotChangeKnows p command h → (may_retire (place.SlotChange p) ≡ false → h.topics.retired ≡ None)
      → may_retire (place_after (slot_change_outcome p command h v)) ≡ false → (after p).retired ≡ None
  page_retires (Claim begun) K left =
      λ may. claim_leaves h.state.sizes Pages begun h.topics v _ _ _ (claim_made h.state.sizes Pages begun h.topics v) ∙ left refl
  page_retires (Begin p) K left = λ may. (begin_leaves_pages p (slot_target h command) h.topics v).retired ∙ left refl
  page_retires Publish K left = λ may. absurd (cc may)
  page_retires Release K left =
      either_place (λ q. may_retire (place.SlotChange q) ≡ false → h.topics.retired ≡ None) h.topics.invalidations.opened (End ends.Exclude) Watch left left
  page_retires (End p) K left = λ may. let still = end_retires (end_next p v) in absurd (cc (may, still))
  page_retires Role K left =
      either_place (λ q. may_retire (place.SlotChange q) ≡ false → h.topics.retired ≡ None) (is_some (slot_invalidated h.slots command)) (Begin begins.Exclude)
      (if is_some (slot_armed h.slots command) then Arm false else Exclude) (λ may. left refl)
      (either_place (λ q. may_retire (place.SlotChange q) ≡ false → h.topics.retired ≡ None) (is_some (slot_armed h.slots command)) (Arm false) Exclude
      (λ may. left refl) (λ may. left refl))
  page_retires Watch K left =
      each_watch (λ q. may_retire (place.SlotChange q) ≡ false → h.topics.retired ≡ None) (watch_next h v) Watch
      (after_grace h.state.sizes (slot_armed h.slots command)) left (grace_retires (slot_armed h.slots command))
    where
      grace_retires : (slot : Option Slot) → may_retire (place.SlotChange (after_grace h.state.sizes slot)) ≡ false → h.topics.retired ≡ None
      grace_retires None = left
      grace_retires (Some slot) =
          either_place (λ q. may_retire (place.SlotChange q) ≡ false → h.topics.retired ≡ None) (is_all_set h.state.sizes.mode) Clear
          (WriteProtect (frames_of slot) protect.Exclude) left left
  page_retires (WriteProtect range p) K left = by (protect_next p h.state.sizes range h.topics v)
    where
      by : (next : WriteProtectNext) → may_retire (place.SlotChange (after_protect range next)) ≡ false → (after (WriteProtect range p)).retired ≡ None
      by (protects_next.Goes q) = λ may. absurd (cc may)
      by protects_next.Over = λ may. absurd (cc may)
  page_retires Clear K left = left
  page_retires Give K left = λ may. ap (λ x. still_retired x h.topics.retired) K.1.owns_none
  page_retires _ K left = λ may. left refl

  -- ---- where its own invalidation is open

  abbrev Opens : SlotChangePlace → Topics → Type 0
  Opens p u = may_open (place.SlotChange p) ≡ false → u.invalidations.opened ≡ false

  begin_opens : (next : BeginNext) (u : Topics) → BeginComes next h.state.sizes (slot_target h command) u → Opens (after_set_begin next) u
  begin_opens (begins_next.Goes q) u C = λ may. not_yet_open q h.state.sizes (slot_target h command) u may C
  begin_opens begins_next.Begun u C = λ may. absurd (cc may)

  end_opens : (next : EndNext) (u : Topics) → EndComes next u → Opens (after_set_end next) u
  end_opens (ends_next.Goes ends.Release) u C = λ may. C.0.is
  end_opens (ends_next.Goes _) u C = λ may. absurd (cc may)
  end_opens ends_next.Ended u C = λ may. C.1

  change_opens : (p : SlotChangePlace) → PartRests h → SlotChangeKnows p command h → Opens p h.topics → CanAnswer (slot_change_part p h command) v
      → may_open (place_after (slot_change_outcome p command h v)) ≡ false → (after p).invalidations.opened ≡ false
  change_opens (Claim begun) R K left A = λ may.
      claim_is (λ s. (part_topics s h.topics v).invalidations.opened ≡ h.topics.invalidations.opened) Pages begun h.topics.claim refl (λ word. refl) ∙ left refl
  change_opens (Begin p) R K left A =
      let target : Target = slot_target h command in
      begin_opens (begin_next p h.state.sizes target h.topics v) (after (Begin p))
      (begin_known p h.state.sizes target h.topics v R.sizes K.3.frames
      (owns_aimed (slot_or_none (slot_invalidated h.slots command)) h.topics K.0) R.frames R.row R.level K.1 A)
  change_opens Watch R K left A = λ may. left refl
  change_opens (WriteProtect range p) R K left A = λ may. protect_opens p range h.topics v ∙ left refl
  change_opens Exclude R K left A = either_place (λ q. Opens q (after Exclude)) (v == 0) Count Exclude (λ may. absurd (cc may)) (λ may. absurd (cc may))
  change_opens Count R K left A =
      either_place (λ q. Opens q (after Count)) (v == own_open h.topics.invalidations) Publish Close (λ may. absurd (cc may)) (λ may. absurd (cc may))
  change_opens Close R K left A = λ may. absurd (cc may)
  change_opens Publish R K left A = λ may. absurd (cc may)
  change_opens Release R K left A =
      one_place (λ q. Opens q (after Release)) h.topics.invalidations.opened (End ends.Exclude) Watch (λ e may. absurd (cc may)) (λ e may. e)
  change_opens (End p) R K left A = end_opens (end_next p v) (after (End p)) (ending_known p h.topics v K.0 A)
  change_opens _ R K left A = λ may. left refl

  -- What is held of frames stays.
  change_frames : (p : SlotChangePlace) → (after p).frames ≡ h.topics.frames
  change_frames (Claim begun) = claim_is (λ s. (part_topics s h.topics v).frames ≡ h.topics.frames) Pages begun h.topics.claim refl (λ word. refl)
  change_frames (Begin p) = (begin_leaves_pages p (slot_target h command) h.topics v).frames
  change_frames (End p) = (end_leaves_pages p h.topics v).frames
  change_frames (WriteProtect range p) = (protect_leaves_pages p range h.topics v).frames
  change_frames _ = refl

  pub change_leaves : (p : SlotChangePlace) → PartRests h → SlotChangeKnows p command h → RetiresPart (place.SlotChange p) h.topics
      → CanAnswer (slot_change_part p h command) v → RetiresPart (place_after (slot_change_outcome p command h v)) (after p)
  change_leaves p R K left A = record {
    leaves = page_retires p K left.leaves;
    opens = change_opens p R K left.opens A;
    frames = λ may. ap (λ (x : HeldFrames). x.owned) (change_frames p) ∙ left.frames refl;
  }
