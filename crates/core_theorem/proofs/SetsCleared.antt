-- What a step leaves of the role of an old slot set's page, where a slot line is about to give the page back.
use Rattle.mmu_core.specs.declared.outcome.Outcome.{Outcome}
use Rattle.mmu_core.specs.declared.outcome.Outcome.TheVariants.{Goes}
use Rattle.mmu_core.specs.lines.Forms.{outcome_at}
use Rattle.mmu_core.proofs.lines.Forms.{GoesElsewhere, outcome_elsewhere}
use Rattle.core_views.specs.SlotCommands.{slot_armed, slot_invalidated}
use Rattle.core_views.specs.LogCommands.{is_all_set}
use Rattle.core_views.specs.declared.place.FrameRange.{FrameRange}
use Rattle.core_views.specs.declared.place.WriteProtectPlace.TheVariants as protect
use Rattle.core_views.specs.declared.trace.Slot.{Slot}
use Rattle.part_steps.specs.LogHoldings.{log_end}
use Rattle.mmu_core.specs.declared.write_protect.WriteProtectNext.{WriteProtectNext}
use Rattle.mmu_core.specs.declared.write_protect.WriteProtectNext.TheVariants as protects_next
use Rattle.mmu_core.specs.orders.WriteProtectSteps.{protect_next}
use Rattle.std.proofs.Common.{◌≡◌, ◌≢◌, ◌<◌, ℕ, refl, sym, subst, ap, ◌∙◌}
use Rattle.std.specs.Prelude.{Bool, true, false, ◌+◌, ◌==◌, nat_lt, if◌then◌else◌, Option, Some, None, is_some}
use Rattle.core_views.specs.declared.place.Place.{Place}
use Rattle.core_views.specs.declared.place.Place.TheVariants as place
use Rattle.core_views.specs.declared.place.SlotChangePlace.{SlotChangePlace}
use Rattle.core_views.specs.declared.place.SlotChangePlace.TheVariants.{Claim, Fill, Role, Arm, Begin, Exclude, Count, Close, Publish}
use Rattle.core_views.specs.declared.place.SlotChangePlace.TheVariants.{Release, End, Watch, WriteProtect, Clear, Give}
use Rattle.core_views.specs.declared.place.BeginPlace.TheVariants as begins
use Rattle.core_views.specs.declared.place.EndPlace.TheVariants as ends
use Rattle.core_views.specs.declared.sizes.Sizes.{Sizes}
use Rattle.core_views.specs.declared.topics.Topics.{Topics}
use Rattle.core_views.specs.declared.trace.Command.{Command}
use Rattle.core_views.specs.declared.trace.Line.{Line}
use Rattle.core_views.specs.declared.trace.Op.{Op}
use Rattle.core_views.specs.declared.trace.Op.TheVariants.{Read}
use Rattle.core_views.specs.Held.{Held}
use Rattle.core_views.specs.Sizes.{actors_of}
use Rattle.spte_words.specs.declared.area.Area.{Area}
use Rattle.spte_words.specs.declared.area.Area.TheVariants as area
use Rattle.part_steps.specs.declared.part_step.PartStep.{PartStep}
use Rattle.part_steps.specs.declared.part_step.PartStep.TheVariants as part
use Rattle.part_steps.specs.declared.task.Task.{Task}
use Rattle.part_steps.specs.PartTasks.{own_index, page_retired, words_filled}
use Rattle.part_steps.specs.Tasks.{kind_of_task}
use Rattle.part_steps.specs.TopicSteps.{topics_after}
use Rattle.mmu_core.specs.declared.claim.ClaimNext.{ClaimNext}
use Rattle.mmu_core.specs.declared.claim.ClaimNext.TheVariants as claims
use Rattle.mmu_core.specs.declared.claim.FreeMap.TheVariants.{Pages}
use Rattle.mmu_core.specs.forms.access.AccessSteps.{touch_of}
use Rattle.mmu_core.specs.orders.ClaimSteps.{claim_next}
use Rattle.mmu_core.specs.invariant.Invariant.{Invariant, KnowsPart}
use Rattle.mmu_core.specs.machine.Outcomes.{place_after}
use Rattle.mmu_core.specs.lines.PartAt.{task_at}
use Rattle.part_steps.specs.SetHoldings.{own_open}
use Rattle.mmu_core.specs.declared.invalidate.BeginNext.{BeginNext}
use Rattle.mmu_core.specs.declared.invalidate.BeginNext.TheVariants as begins_next
use Rattle.mmu_core.specs.declared.invalidate.EndNext.{EndNext}
use Rattle.mmu_core.specs.declared.invalidate.EndNext.TheVariants as ends_next
use Rattle.mmu_core.specs.orders.InvalidateSteps.{begin_next, end_next}
use Rattle.mmu_core.specs.forms.slot_change.SlotChangeSteps.{after_grace, after_protect, after_set_begin, after_set_end, arm_word, frames_of, log_target}
use Rattle.mmu_core.specs.forms.slot_change.SlotChangeSteps.{slot_target}
use Rattle.mmu_core.specs.forms.slot_change.SlotChangeSteps.{after_set_claim, watch_next, slot_change_note, slot_change_outcome, slot_change_task}
use Rattle.mmu_core.specs.invariant.TopicsInvariant.{TopicsInvariant}
use Rattle.mmu_core.specs.machine.View.{View, answer_in, stepped, upd, words_after}
use Rattle.mmu_core.proofs.machine.Columns.{upd_other, upd_same}
use Rattle.mmu_core.proofs.pages.OwnedBehind.{retired_is}
use Rattle.mmu_core.proofs.machine.PartStepping.{IsPart}
use Rattle.mmu_core.proofs.words.PartWords.{HasOtherRole, retired_elsewhere, role_stays}
use Rattle.mmu_core.proofs.pages.PoolPages.{retired_not_owned, one_retires}
use Rattle.mmu_core.proofs.lines.EitherPlace.{each_watch, either_place}
use Rattle.mmu_core.proofs.lines.StepIn.{StepIn, Makes, Touches}
use Rattle.mmu_core.proofs.machine.Stepping.{IsStep}

-- ---- its role

-- Where the line is about to give the page back that is retired, the page's role is 0.
abbrev SlotChangeCleared : (ℕ → ℕ) → SlotChangePlace → Topics → Type 0
SlotChangeCleared role Give t = role (page_retired t.retired) ≡ 0
SlotChangeCleared role _ t = Unit {0}

abbrev pub PlaceCleared : (ℕ → ℕ) → Place → Topics → Type 0
PlaceCleared role (place.SlotChange p) t = SlotChangeCleared role p t
PlaceCleared role _ t = Unit {0}

abbrev pub HeldCleared : (ℕ → ℕ) → Held → Type 0
HeldCleared role h = PlaceCleared role h.state.place h.topics

abbrev pub HandCleared : View → ℕ → Type 0
HandCleared v i = HeldCleared (v.words area.Role) (v.hand i)

-- ---- a line's own step

module _ (role : ℕ → ℕ) (x : ℕ) (t : Topics) where
  claim_cleared : (next : ClaimNext) → PlaceCleared role (place_after (after_set_claim next)) t
  claim_cleared claims.Goes = tt
  claim_cleared _ = tt

  begun_cleared : (next : BeginNext) → SlotChangeCleared role (after_set_begin next) t
  begun_cleared (begins_next.Goes p) = tt
  begun_cleared begins_next.Begun = tt

  ended_cleared : (next : EndNext) → SlotChangeCleared role (after_set_end next) t
  ended_cleared (ends_next.Goes p) = tt
  ended_cleared ends_next.Ended = tt

  grace_cleared : (z : Sizes) (slot : Option Slot) → SlotChangeCleared role (after_grace z slot) t
  grace_cleared z None = tt
  grace_cleared z (Some slot) = either_place (λ q. SlotChangeCleared role q t) (is_all_set z.mode) Clear (WriteProtect (frames_of slot) protect.Exclude) tt tt

  protected_cleared : (range : FrameRange) (next : WriteProtectNext) → SlotChangeCleared role (after_protect range next) t
  protected_cleared range (protects_next.Goes p) = tt
  protected_cleared range protects_next.Over = tt

  -- The step of this place clears the role.
  abbrev clears : SlotChangePlace → Bool
  clears Clear = true
  clears _ = false

  -- From no other place does a slot line come to give the page back.
  no_give : (p : SlotChangePlace) (command : Command) (h : Held) → clears p ≡ false → PlaceCleared role (place_after (slot_change_outcome p command h x)) t
  no_give (Claim begun) command h never = claim_cleared (claim_next Pages begun h.state.sizes h.topics.claim x)
  no_give Fill command h never = either_place (λ q. SlotChangeCleared role q t) (nat_lt (words_filled h.topics.owned + 1) 512) Fill Role tt tt
  no_give Role command h never =
      either_place (λ q. SlotChangeCleared role q t) (is_some (slot_invalidated h.slots command)) (Begin begins.Exclude)
      (if is_some (slot_armed h.slots command) then Arm false else Exclude) tt
      (either_place (λ q. SlotChangeCleared role q t) (is_some (slot_armed h.slots command)) (Arm false) Exclude tt tt)
  no_give (Arm begun) command h never =
      let slot = log_target h command in
      either_place (λ q. SlotChangeCleared role q t) (nat_lt (arm_word begun slot h.topics + 1) (log_end slot)) (Arm true) Exclude tt tt
  no_give (WriteProtect range p) command h never = protected_cleared range (protect_next p h.state.sizes range h.topics x)
  no_give (Begin p) command h never = begun_cleared (begin_next p h.state.sizes (slot_target h command) h.topics x)
  no_give Release command h never = either_place (λ q. SlotChangeCleared role q t) h.topics.invalidations.opened (End ends.Exclude) Watch tt tt
  no_give (End p) command h never = ended_cleared (end_next p x)
  no_give Exclude command h never = either_place (λ q. SlotChangeCleared role q t) (x == 0) Count Exclude tt tt
  no_give Count command h never = either_place (λ q. SlotChangeCleared role q t) (x == own_open h.topics.invalidations) Publish Close tt tt
  no_give Watch command h never =
      each_watch (λ q. SlotChangeCleared role q t) (watch_next h x) Watch (after_grace h.state.sizes (slot_armed h.slots command)) tt
      (grace_cleared h.state.sizes (slot_armed h.slots command))
  no_give Clear command h never = absurd (cc never)
  no_give _ command h never = tt

module _ (words : Area → ℕ → ℕ) (h : Held) (command : Command) (x : ℕ) where
  abbrev role_behind : SlotChangePlace → ℕ → ℕ
  role_behind p = words_after (slot_change_task p h command) words area.Role

  abbrev topics_behind : SlotChangePlace → Topics
  topics_behind p = topics_after h.state.sizes (kind_of_task h.state.sizes (slot_change_task p h command)) h.topics x

  change_cleared : (p : SlotChangePlace) → PlaceCleared (role_behind p) (place_after (slot_change_outcome p command h x)) (topics_behind p)
  change_cleared Clear =
      ap (λ l. role_behind Clear (page_retired l)) (retired_is part.Clear h.state.sizes (own_index h) h.topics (slot_change_note Clear h) x)
      ∙ upd_same (words area.Role) (page_retired h.topics.retired) 0
  change_cleared p = no_give (role_behind p) x (topics_behind p) p command h refl

-- A line of another form goes on to no place of a slot line.
elsewhere_cleared : (role : ℕ → ℕ) (o : Outcome) (t : Topics) → GoesElsewhere o → PlaceCleared role (place_after o) t
elsewhere_cleared role (Goes (place.SlotChange p)) t other = absurd other
elsewhere_cleared role _ t other = tt

pub own_cleared : (z : Sizes) (v : View) (a : ℕ) (line : Line) (c : Command) (p : Place) → IsStep z v a line c p → Invariant z (stepped a line c p v)
    → HandCleared (stepped a line c p v) a
own_cleared z v a line command (place.SlotChange p) S after =
    let w : View = stepped a line command (place.SlotChange p) v in
    subst (HeldCleared (w.words area.Role)) (sym (upd_same v.hand a _))
    (change_cleared v.words (v.hand a) command (answer_in (slot_change_task p (v.hand a) command) v.words) p)
own_cleared z v a line command place.Between S after = absurd S.begun
own_cleared z v a line command p S after =
    let w : View = stepped a line command p v in
    let x : ℕ = answer_in (task_at p command (v.hand a)) v.words in
    subst (HeldCleared (w.words area.Role)) (sym (upd_same v.hand a _))
    (elsewhere_cleared (w.words area.Role) (outcome_at p command (v.hand a) x) _ (outcome_elsewhere p command (v.hand a) x refl))

-- ---- another actor's step

touched : (op : Op) (index : ℕ) (words : Area → ℕ → ℕ) (k : ℕ) → words_after (touch_of op index) words area.Role k ≡ words area.Role k
touched Read index words k = refl
touched _ index words k = refl

module _ (z : Sizes) (v : View) (a i : ℕ) (I : Invariant z v) (P : TopicsInvariant z v) (lt : i < actors_of z) (ne : i ≢ a) where
  abbrev Leaves : ℕ → Type 0
  Leaves k = (v.hand i).topics.retired ≡ Some k

  -- The step stores in another role.
  elsewhere : (k : ℕ) → Leaves k → (step : PartStep) → IsPart z v a step → HasOtherRole step (v.hand a).topics k
  elsewhere k left (part.Role value) S = λ o is. retired_not_owned P.uses i k lt left a o S.there is
  elsewhere k left part.Clear S =
      retired_elsewhere (v.hand a).topics S.needs.leaves k (λ l is e. ne (one_retires P.uses i a k lt S.there left (is ∙ ap Some e)))
  elsewhere k left _ S = tt

  role_after : (k : ℕ) → Leaves k → (task : Task) → StepIn z v a task → words_after task v.words area.Role k ≡ v.words area.Role k
  role_after k left _ (Makes step note S) = role_stays z v a step note S k (elsewhere k left step S)
  role_after k left _ (Touches op index) = touched op index v.words k

  some_left : (x : Option ℕ) → is_some x ≡ true → x ≡ Some (page_retired x)
  some_left None some = absurd (cc some)
  some_left (Some k) some = refl

  still_cleared : (role after : ℕ → ℕ) (p : Place) (c : Command) (h : Held) → KnowsPart p c h → ((k : ℕ) → h.topics.retired ≡ Some k → after k ≡ role k)
      → PlaceCleared role p h.topics → PlaceCleared after p h.topics
  still_cleared role after (place.SlotChange Give) command h K same C = same (page_retired h.topics.retired) (some_left h.topics.retired K.1.1.leaves) ∙ C
  still_cleared role after (place.SlotChange _) c h K same C = tt
  still_cleared role after _ c h K same C = tt

  pub others_cleared : (h : Held) (task : Task) → StepIn z v a task → HandCleared v i
      → HandCleared (record { words = words_after task v.words; hand = upd v.hand a h }) i
  others_cleared h task makes C = subst (HeldCleared (words_after task v.words area.Role)) (sym (upd_other v.hand a i h ne))
      (still_cleared (v.words area.Role) (words_after task v.words area.Role) (v.hand i).state.place (v.hand i).state.line.command (v.hand i) (I.knows i lt)
      (λ k left. role_after k left task makes) C)
