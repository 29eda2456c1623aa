-- What the steps of a slot line owe flat memory.
use Rattle.std.proofs.Common.{◌≡◌, ◌+◌, ℕ, [], ◌++◌, refl, sym, subst, ap, ◌∙◌}
use Rattle.std.specs.Option.{option_map}
use Rattle.std.specs.Prelude.{Bool, true, false, ◌==◌, ◌&&◌, nat_lt, if◌then◌else◌, Option, Some, None, is_some}
use Rattle.core_views.specs.declared.answer.Answer.TheVariants.{Starved, Done}
use Rattle.core_views.specs.declared.answer.Refusal.{Refusal}
use Rattle.core_views.specs.declared.place.Place.TheVariants as place
use Rattle.core_views.specs.declared.place.SlotChangePlace.{SlotChangePlace}
use Rattle.core_views.specs.declared.place.SlotChangePlace.TheVariants.{AtOnce, Claim, Fill, Role, Arm, Begin, Exclude, Count, Close, Publish}
use Rattle.core_views.specs.declared.place.SlotChangePlace.TheVariants.{Release, End, Watch, WriteProtect, Clear, Give}
use Rattle.core_views.specs.declared.place.BeginPlace.TheVariants as begins
use Rattle.core_views.specs.declared.place.EndPlace.TheVariants as ends
use Rattle.core_views.specs.declared.sizes.Sizes.{Sizes}
use Rattle.core_views.specs.declared.trace.Command.TheVariants.{DeleteSlot, SetLog, SetSlot}
use Rattle.core_views.specs.declared.trace.Line.{Line}
use Rattle.core_views.specs.declared.trace.Command.{Command}
use Rattle.core_views.specs.declared.migration.Migration.{Migration}
use Rattle.core_views.specs.declared.migration.Migration.TheVariants.{Unstarted}
use Rattle.core_views.specs.Flat.{Facts, LineUnderWay, Notes}
use Rattle.core_views.specs.Flat as stage
use Rattle.core_views.specs.declared.memory_slot.MemorySlot.{MemorySlot}
use Rattle.core_views.specs.Lawful.{HasWork, MayLeave, Tells, answer_at_once, slot_change}
use Rattle.core_views.specs.LogCommands.{is_all_set}
use Rattle.core_views.specs.SlotCommands.{after_change, arms, change_at_once, changes_slot, refused_or_done, slot_armed, slot_change, slot_invalidated}
use Rattle.core_views.specs.declared.place.FrameRange.{FrameRange}
use Rattle.core_views.specs.declared.place.WriteProtectPlace.{WriteProtectPlace}
use Rattle.core_views.specs.declared.place.WriteProtectPlace.TheVariants as protect
use Rattle.core_views.specs.declared.trace.Slot.{Slot}
use Rattle.core_views.specs.Flat.{Stage}
use Rattle.core_views.specs.SlotSets.{MemorySlots}
use Rattle.core_views.specs.Past.{Past}
use Rattle.core_views.proofs.SlotChanges.{answered_by_slots}
use Rattle.mmu_core.specs.declared.claim.ClaimNext.{ClaimNext}
use Rattle.mmu_core.specs.declared.claim.ClaimNext.TheVariants as claims
use Rattle.mmu_core.specs.forms.access.AccessSteps.{exiting}
use Rattle.mmu_core.specs.declared.claim.FreeMap.TheVariants.{Pages}
use Rattle.mmu_core.specs.orders.ClaimSteps.{claim_next}
use Rattle.mmu_core.specs.invariant.Invariant.{Invariant}
use Rattle.part_steps.specs.PartTasks.{words_filled}
use Rattle.mmu_core.specs.machine.Outcomes.{answering, place_after}
use Rattle.mmu_core.specs.invariant.TopicsInvariant.{TopicsInvariant}
use Rattle.mmu_core.proofs.slots.Changes.{is_change}
use Rattle.mmu_core.proofs.forms.slot_change.SlotChangeKept.{change_published, record_of}
use Rattle.mmu_core.proofs.machine.PartStepping.{IsPart}
use Rattle.mmu_core.proofs.forms.slot_change.SlotChangePlaces.{is_publication, change_never, change_quiet}
use Rattle.mmu_core.proofs.machine.Stepping.{IsStep}
use Rattle.part_steps.specs.declared.task.Task.{Task}
use Rattle.part_steps.specs.SetHoldings.{own_open}
use Rattle.mmu_core.specs.declared.invalidate.BeginNext.{BeginNext}
use Rattle.mmu_core.specs.declared.invalidate.BeginNext.TheVariants as begins_next
use Rattle.mmu_core.specs.declared.invalidate.EndNext.{EndNext}
use Rattle.mmu_core.specs.declared.invalidate.EndNext.TheVariants as ends_next
use Rattle.mmu_core.specs.orders.InvalidateSteps.{begin_next, end_next}
use Rattle.mmu_core.specs.forms.slot_change.SlotChangeSteps.{after_grace, after_protect, after_set_begin, after_set_claim, after_set_end, arm_word}
use Rattle.mmu_core.specs.forms.slot_change.SlotChangeTells.{arming, changed, protect_tells}
use Rattle.mmu_core.specs.forms.slot_change.SlotChangeSteps.{frames_of, log_target, slot_change_note, slot_change_part, slot_change_task}
use Rattle.mmu_core.specs.declared.write_protect.WriteProtectNext.{WriteProtectNext}
use Rattle.mmu_core.specs.declared.write_protect.WriteProtectNext.TheVariants as protects_next
use Rattle.mmu_core.specs.forms.slot_change.SlotChangeKnows.{ArmsThere}
use Rattle.mmu_core.specs.orders.WriteProtectSteps.{protect_next}
use Rattle.mmu_core.proofs.lines.KnowsKept.{step_knows}
use Rattle.part_steps.specs.LogHoldings.{log_end}
use Rattle.mmu_core.specs.forms.slot_change.SlotChangeSteps.{slot_target, watch_next}
use Rattle.mmu_core.specs.machine.View.{View, answer_in}
use Rattle.mmu_core.proofs.lines.EitherPlace.{each_watch, either_place, one_place}
use Rattle.mmu_laws.specs.flat.FlatInvariant.{SlotChangeUnder, changed_stage}
use Rattle.mmu_laws.proofs.flat.FlatSteps.{GoesBy, Ready, RefinesBy, StepGoes, answers_by, goes_by, leaves_by, part_refines}

module _ (z : Sizes) (v : View) (a : ℕ) (line : Line) (command : Command) (facts : Facts) (past : Past) (u : LineUnderWay) where
  abbrev task : SlotChangePlace → Task
  task p = slot_change_task p (v.hand a) command

  abbrev ReadyAt : SlotChangePlace → Type 0
  ReadyAt p = Ready z v line command (place.SlotChange p) (v.hand a).topics facts u

  abbrev GoesAt : SlotChangePlace → Type 0
  GoesAt p = StepGoes z v a line command (place.SlotChange p) facts past u

  abbrev MakesAt : SlotChangePlace → Type 0
  MakesAt p = IsPart z v a (slot_change_part p (v.hand a) command)

  abbrev Under : SlotChangePlace → Type 0
  Under p = (u.line ≡ line) × SlotChangeUnder p z command u

  -- Flat memory has the slots of the manager's record, and so answers at once as it does.
  same_record : (p : SlotChangePlace) → IsStep z v a line command (place.SlotChange p) → Invariant z v → ReadyAt p → facts.slots ≡ (v.hand a).slots
  same_record p S I R = R.refines.slots ∙ sym (record_of z v a line command p S I).same

  at_once : (p : SlotChangePlace) (answer : Option (Option Refusal)) → changes_slot command ≡ true
      → IsStep z v a line command (place.SlotChange p) → Invariant z v → ReadyAt p → change_at_once z command (v.hand a).slots ≡ answer
      → answer_at_once z facts.slots facts.migration (v.hand a).state.actor u.line.command ≡ option_map refused_or_done answer
  at_once p answer changes S I R is =
      ap (answer_at_once z facts.slots facts.migration (v.hand a).state.actor) (ap (λ (l : Line). l.command) R.under.0 ∙ S.command_is)
      ∙ ap (λ (slots : MemorySlots). answer_at_once z slots facts.migration (v.hand a).state.actor command) (same_record p S I R)
      ∙ ap (λ (m : Migration). answer_at_once z (v.hand a).slots m (v.hand a).state.actor command) R.refines.idle
      ∙ answered_by_slots z (v.hand a).slots Unstarted (v.hand a).state.actor command changes
      ∙ ap (option_map refused_or_done) is

  -- After a step that publishes nothing the words stand for the same facts.
  still : (p : SlotChangePlace) → is_publication p ≡ false → MakesAt p → TopicsInvariant z v → ReadyAt p → RefinesBy z v (task p) facts
  still p never S P R =
      part_refines z v a (slot_change_part p (v.hand a) command) (slot_change_note p (v.hand a)) facts S P (change_never p (v.hand a) command never)
      (change_quiet p (v.hand a) command never) R.refines

  -- It tells nothing, where it goes on at this place.
  quiet : (p next : SlotChangePlace) → is_publication p ≡ false → MakesAt p → TopicsInvariant z v → ReadyAt p → Under next
      → GoesBy z v a line command (task p) (place.SlotChange next) [] facts past u
  quiet p next never S P R under = goes_by z v a line command (task p) facts past u (still p never S P R) (place.SlotChange next) under

  -- A line that has something to do may be given up where no page is free.
  gives_up : (c : Command) (notes : Notes) → changes_slot c ≡ true → HasWork z facts (v.hand a).state.actor c
      → MayLeave z facts (v.hand a).state.actor c notes Starved
  gives_up (SetSlot id slot) notes is works = works
  gives_up (DeleteSlot id) notes is works = works
  gives_up (SetLog id on) notes is works = works
  gives_up _ notes is works = absurd (cc is)

  -- A claim goes on, or there is no page free.
  claim_goes : (begun : Bool) (next : ClaimNext) → changes_slot u.line.command ≡ true → HasWork z facts (v.hand a).state.actor u.line.command
      → MakesAt (Claim begun) → TopicsInvariant z v → ReadyAt (Claim begun)
      → GoesBy z v a line command (task (Claim begun)) (place_after (after_set_claim next))
      (exiting (after_set_claim next) ++ answering (after_set_claim next) line)
      facts past u
  claim_goes begun claims.Goes is works S P R = quiet (Claim begun) (Claim true) refl S P R R.under
  claim_goes begun claims.Got is works S P R = quiet (Claim begun) Fill refl S P R R.under
  claim_goes begun claims.Empty is works S P R =
      leaves_by z v a line command (task (Claim begun)) facts past u (still (Claim begun) refl S P R) Starved R.under.0 R.under.1
      (gives_up u.line.command u.notes is works)

  -- The set is published: flat memory has the change too.
  change_told : (change : Option (ℕ × Option MemorySlot)) → is_some change ≡ true → slot_change facts.slots u.line.command ≡ change → u.stage ≡ stage.Fresh
      → HasWork z facts (v.hand a).state.actor u.line.command
      → RefinesBy z v (task Publish) (record facts { slots = after_change change facts.slots }) → u.line ≡ line → line.command ≡ command
      → (all : Bool) → all ≡ is_all_set z.mode
      → GoesBy z v a line command (task Publish) (place.SlotChange Release) (changed change ++ (if all then arming true command else []) ++ []) facts past u
  change_told None some is fresh works refines own said all mode = absurd (cc some)
  change_told (Some (id, slot)) some is fresh works refines own said false mode = record {
    allowed = ((fresh, works, is), tt);
    refines = record { slots = refines.slots; host = refines.host; memory = refines.memory; paused = refines.paused; idle = refines.idle };
    under = (own, ap (λ (b : Bool). if b && arms command then stage.HasArmed else stage.HasChanged) mode);
  }
  change_told (Some (id, slot)) some is fresh works refines own said true mode = by command refl
    where
      no_log : (c : Command) → command ≡ c → arms c ≡ false → arming true c ≡ []
          → GoesBy z v a line command (task Publish) (place.SlotChange Release) (changed (Some (id, slot)) ++ (arming true c ++ [])) facts past u
      no_log c is_ unarmed none =
          subst (λ es. GoesBy z v a line command (task Publish) (place.SlotChange Release) (changed (Some (id, slot)) ++ (es ++ [])) facts past u)
          (sym none) (record {
            allowed = ((fresh, works, is), tt);
            refines = record { slots = refines.slots; host = refines.host; memory = refines.memory; paused = refines.paused; idle = refines.idle };
            under = (own, stage_is (ap arms is_ ∙ unarmed) (is_all_set z.mode));
          })
        where
          both_false : (b c : Bool) → c ≡ false → stage.HasChanged ≡ (if b && c then stage.HasArmed else stage.HasChanged)
          both_false true c e = ap (λ (x : Bool). if x then stage.HasArmed else stage.HasChanged) (sym e)
          both_false false c e = refl

          stage_is : arms command ≡ false → (b : Bool) → stage.HasChanged ≡ changed_stage b command
          stage_is none b = both_false b (arms command) none

      by : (c : Command) → command ≡ c
          → GoesBy z v a line command (task Publish) (place.SlotChange Release) (changed (Some (id, slot)) ++ (arming true c ++ [])) facts past u
      by (SetLog at true) is_ = record {
        allowed = ((fresh, works, is), ((refl, ap (λ (l : Line). l.command) own ∙ said ∙ is_, mode), tt));
        refines = record { slots = refines.slots; host = refines.host; memory = refines.memory; paused = refines.paused; idle = refines.idle };
        under = (
          own,
          ap (λ c. if arms c then stage.HasArmed else stage.HasChanged) (sym is_)
              ∙ ap (λ (b : Bool). if b && arms command then stage.HasArmed else stage.HasChanged) mode,
        );
      }
      by c is_ = no_log c is_ refl refl

  publish_goes : changes_slot command ≡ true → IsStep z v a line command (place.SlotChange Publish) → Invariant z v → ReadyAt Publish → GoesAt Publish
  publish_goes changes S I R = let same = same_record Publish S I R in
      change_told (slot_change (v.hand a).slots command) (is_change command (v.hand a).slots changes)
      (ap (slot_change facts.slots) (ap (λ (l : Line). l.command) R.under.0 ∙ S.command_is) ∙ ap (λ (slots : MemorySlots). slot_change slots command) same)
      R.under.1 (at_once Publish None changes S I R S.holds.works)
      (record {
        slots = ap (after_change (slot_change (v.hand a).slots command)) same ∙ (change_published z v a line command S I).list;
        host = R.refines.host;
        memory = R.refines.memory;
        paused = R.refines.paused;
        idle = R.refines.idle;
      })
      R.under.0 S.command_is (is_all_set (v.hand a).state.sizes.mode) (ap (λ (y : Sizes). is_all_set y.mode) (I.lines a S.there).sizes)

  -- A step of the invalidation's begin, or of its end, leaves what the line has done.
  begun_under : (next : BeginNext) → Under Exclude → Under (after_set_begin next)
  begun_under (begins_next.Goes p) U = U
  begun_under begins_next.Begun U = U

  ended_under : (next : EndNext) → Under Watch → Under (after_set_end next)
  ended_under (ends_next.Goes p) U = U
  ended_under ends_next.Ended U = U

  -- Where the watch is over a log has begun, or writes are to be forbidden first.
  changed_by : (b : Bool) → is_all_set z.mode ≡ b → u.stage ≡ changed_stage (is_all_set z.mode) command → u.stage ≡ changed_stage b command
  changed_by b is at = at ∙ ap (λ (x : Bool). changed_stage x command) is

  grace_under : (slot : Option Slot) → slot_armed (v.hand a).slots command ≡ slot → ArmsThere command (v.hand a).slots → (y : Sizes) → y ≡ z → Under Watch
      → Under (after_grace y slot)
  grace_under None is there y same U = (U.0, by (arms command) refl (is_all_set z.mode) U.1)
    where
      second_false : (b c : Bool) → c ≡ false → (b && c) ≡ false
      second_false true c e = e
      second_false false c e = refl

      by : (c : Bool) → arms command ≡ c → (b : Bool) → u.stage ≡ (if b && arms command then stage.HasArmed else stage.HasChanged)
          → u.stage ≡ (if arms command then stage.HasArmed else stage.HasChanged)
      by true armed_ b at = absurd (let some = there armed_ in let none = ap is_some is in cc (some, none))
      by false unarmed b at = at ∙ ap (λ (x : Bool). if x then stage.HasArmed else stage.HasChanged) (second_false b (arms command) unarmed ∙ sym unarmed)
  grace_under (Some slot) is there y same U = one_place Under (is_all_set y.mode) Clear (WriteProtect (frames_of slot) protect.Exclude)
      (λ e. (U.0, changed_by true (ap (λ (x : Sizes). is_all_set x.mode) (sym same) ∙ e) U.1))
      (λ e. (U.0, changed_by false (ap (λ (x : Sizes). is_all_set x.mode) (sym same) ∙ e) U.1))

  -- Once writes are forbidden the log begins.
  protect_goes : (range : FrameRange) (p : WriteProtectPlace) (next : WriteProtectNext) → arms command ≡ true → is_all_set z.mode ≡ false
      → line.command ≡ command → MakesAt (WriteProtect range p) → TopicsInvariant z v → ReadyAt (WriteProtect range p)
      → GoesBy z v a line command (task (WriteProtect range p)) (place.SlotChange (after_protect range next)) (protect_tells next command ++ []) facts past u
  protect_goes range p (protects_next.Goes q) arms_ none said M P R = quiet (WriteProtect range p) (WriteProtect range q) refl M P R R.under
  protect_goes range p protects_next.Over arms_ none said M P R = by command refl arms_
    where
      stays : RefinesBy z v (task (WriteProtect range p)) facts
      stays = still (WriteProtect range p) refl M P R

      by : (c : Command) → command ≡ c → arms c ≡ true
          → GoesBy z v a line command (task (WriteProtect range p)) (place.SlotChange Clear) (arming false c ++ []) facts past u
      by (SetLog at true) is on = record {
        allowed = ((R.under.1, ap (λ (l : Line). l.command) R.under.0 ∙ said ∙ is, sym none), tt);
        refines = record { slots = stays.slots; host = stays.host; memory = stays.memory; paused = stays.paused; idle = stays.idle };
        under = (R.under.0, ap (λ (b : Bool). if b then stage.HasArmed else stage.HasChanged) (sym arms_));
      }
      by _ is on = absurd (cc on)

  -- Its answer is as its stage says.
  done_told : (s : Stage) → s ≡ changed_stage true command → u.line.command ≡ command → Tells z facts (v.hand a).state.actor u.line.command s Done
  done_told s is said = by (arms command) refl
    where
      by : (b : Bool) → arms command ≡ b → Tells z facts (v.hand a).state.actor u.line.command s Done
      by true on = subst (λ x. Tells z facts (v.hand a).state.actor u.line.command x Done)
          (sym (is ∙ ap (λ (b : Bool). if b then stage.HasArmed else stage.HasChanged) on)) refl
      by false off =
          subst (λ x. Tells z facts (v.hand a).state.actor u.line.command x Done)
          (sym (is ∙ ap (λ (b : Bool). if b then stage.HasArmed else stage.HasChanged) off)) (refl, ap arms said ∙ off)

  pub slot_change_goes : (p : SlotChangePlace) → changes_slot command ≡ true → IsStep z v a line command (place.SlotChange p) → Invariant z v
      → TopicsInvariant z v → MakesAt p → ReadyAt p → GoesAt p
  slot_change_goes (AtOnce refusal) changes S I P M R =
      answers_by z v a line command (task (AtOnce refusal)) facts past u (still (AtOnce refusal) refl M P R) (refused_or_done refusal) R.under.0
      (subst (λ s. Tells z facts (v.hand a).state.actor u.line.command s (refused_or_done refusal)) (sym R.under.1)
      (at_once (AtOnce refusal) (Some refusal) changes S I R S.holds))
  slot_change_goes (Claim begun) changes S I P M R =
      claim_goes begun (claim_next Pages begun (v.hand a).state.sizes (v.hand a).topics.claim (answer_in (task (Claim begun)) v.words))
      (ap changes_slot (ap (λ (l : Line). l.command) R.under.0 ∙ S.command_is) ∙ changes) (at_once (Claim begun) None changes S I R S.holds) M P R
  slot_change_goes Fill changes S I P M R =
      quiet Fill _ refl M P R (either_place Under (nat_lt (words_filled (v.hand a).topics.owned + 1) 512) Fill Role R.under R.under)
  slot_change_goes Role changes S I P M R = quiet Role _ refl M P R
      (either_place Under (is_some (slot_invalidated (v.hand a).slots command)) (Begin begins.Exclude)
      (if is_some (slot_armed (v.hand a).slots command) then Arm false else Exclude) R.under
      (either_place Under (is_some (slot_armed (v.hand a).slots command)) (Arm false) Exclude R.under R.under))
  slot_change_goes (Arm begun) changes S I P M R =
      let slot = log_target (v.hand a) command in
      quiet (Arm begun) _ refl M P R
      (either_place Under (nat_lt (arm_word begun slot (v.hand a).topics + 1) (log_end slot)) (Arm true) Exclude R.under R.under)
  slot_change_goes (WriteProtect range p) changes S I P M R =
      let K = (step_knows z v a line command (place.SlotChange (WriteProtect range p)) S I).1 in
      protect_goes range p (protect_next p (v.hand a).state.sizes range (v.hand a).topics (answer_in (task (WriteProtect range p)) v.words)) K.3
      (ap (λ (y : Sizes). is_all_set y.mode) (sym (I.lines a S.there).sizes) ∙ K.4) S.command_is M P R
  slot_change_goes (Begin p) changes S I P M R = quiet (Begin p) _ refl M P R
      (begun_under (begin_next p (v.hand a).state.sizes (slot_target (v.hand a) command) (v.hand a).topics (answer_in (task (Begin p)) v.words)) R.under)
  slot_change_goes Release changes S I P M R =
      quiet Release _ refl M P R (either_place Under (v.hand a).topics.invalidations.opened (End ends.Exclude) Watch R.under R.under)
  slot_change_goes (End p) changes S I P M R = quiet (End p) _ refl M P R (ended_under (end_next p (answer_in (task (End p)) v.words)) R.under)
  slot_change_goes Exclude changes S I P M R =
      quiet Exclude _ refl M P R (either_place Under (answer_in (task Exclude) v.words == 0) Count Exclude R.under R.under)
  slot_change_goes Count changes S I P M R = quiet Count _ refl M P R
      (either_place Under (answer_in (task Count) v.words == own_open (v.hand a).topics.invalidations) Publish Close R.under R.under)
  slot_change_goes Publish changes S I P M R = publish_goes changes S I R
  slot_change_goes Watch changes S I P M R =
      let K = (step_knows z v a line command (place.SlotChange Watch) S I).1 in
      quiet Watch _ refl M P R
      (each_watch Under (watch_next (v.hand a) (answer_in (task Watch) v.words)) Watch
      (after_grace (v.hand a).state.sizes (slot_armed (v.hand a).slots command)) R.under
      (grace_under (slot_armed (v.hand a).slots command) refl K.4 (v.hand a).state.sizes (I.lines a S.there).sizes R.under))
  slot_change_goes Give changes S I P M R = answers_by z v a line command (task Give) facts past u (still Give refl M P R) Done R.under.0
      (done_told u.stage R.under.1 (ap (λ (l : Line). l.command) R.under.0 ∙ S.command_is))
  slot_change_goes p changes S I P M R = quiet p _ refl M P R R.under
