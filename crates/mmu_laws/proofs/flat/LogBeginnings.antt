-- Where a line stands that is to begin a log for flat memory: no step but a publication leads to such a place from another one, and the line is the manager's.
use Rattle.std.proofs.Common.{◌≡◌, ◌⊎◌, inl, inr, ◌+◌, ℕ, refl, subst, arith}
use Rattle.std.proofs.lemmas.Bool.Decides.{nat_tests}
use Rattle.std.specs.Prelude.{Bool, true, false, ◌==◌, nat_lt, if◌then◌else◌, is_some, Option, Some, None}
use Rattle.core_views.specs.declared.answer.Answer.TheVariants.{Starved}
use Rattle.core_views.specs.declared.place.BeginPlace.TheVariants as begins
use Rattle.core_views.specs.declared.place.EndPlace.TheVariants as ends
use Rattle.core_views.specs.declared.place.Place.{Place}
use Rattle.core_views.specs.declared.place.Place.TheVariants as place
use Rattle.core_views.specs.declared.place.SlotChangePlace.{SlotChangePlace}
use Rattle.core_views.specs.declared.place.SlotChangePlace.TheVariants as change
use Rattle.core_views.specs.declared.place.WriteProtectPlace.TheVariants as protect
use Rattle.core_views.specs.declared.trace.Command.{Command}
use Rattle.core_views.specs.declared.trace.Slot.{Slot as SlotOf}
use Rattle.core_views.specs.Held.{Held}
use Rattle.core_views.specs.LogCommands.{is_all_set}
use Rattle.core_views.specs.SlotCommands.{slot_armed, slot_invalidated}
use Rattle.core_views.specs.Slots.{contains}
use Rattle.part_steps.specs.LogHoldings.{log_end}
use Rattle.part_steps.specs.SetHoldings.{own_open}
use Rattle.part_steps.specs.PartTasks.{words_filled}
use Rattle.mmu_core.specs.declared.invalidate.BeginNext.{BeginNext}
use Rattle.mmu_core.specs.declared.invalidate.BeginNext.TheVariants as begins_next
use Rattle.mmu_core.specs.declared.invalidate.EndNext.{EndNext}
use Rattle.mmu_core.specs.declared.invalidate.EndNext.TheVariants as ends_next
use Rattle.mmu_core.specs.declared.outcome.Outcome.{Outcome}
use Rattle.mmu_core.specs.declared.outcome.Outcome.TheVariants.{Goes, Ends}
use Rattle.mmu_core.specs.declared.write_protect.WriteProtectNext.{WriteProtectNext}
use Rattle.mmu_core.specs.declared.write_protect.WriteProtectNext.TheVariants as protects_next
use Rattle.mmu_core.specs.declared.claim.FreeMap.TheVariants.{Pages}
use Rattle.mmu_core.specs.orders.ClaimSteps.{claim_next}
use Rattle.mmu_core.specs.lines.Forms.{outcome_at}
use Rattle.mmu_core.proofs.lines.Forms.{GoesElsewhere, outcome_elsewhere}
use Rattle.mmu_core.specs.orders.InvalidateSteps.{begin_next, end_next}
use Rattle.mmu_core.specs.forms.slot_change.SlotChangeSteps.{after_grace, after_protect, after_set_begin, after_set_end, arm_word, frames_of, log_target}
use Rattle.mmu_core.specs.forms.slot_change.SlotChangeSteps.{slot_change_outcome, slot_target, watch_next}
use Rattle.mmu_core.specs.orders.WriteProtectSteps.{protect_next}
use Rattle.mmu_core.specs.machine.Outcomes.{place_after}
use Rattle.mmu_core.proofs.lines.EitherPlace.{each_claim, each_watch, either_place, one_place}
use Rattle.log_invariant.specs.forms.slot_change.LogBegins.{BeginsClean, LogIsUnwatchedAt, begun_at, is_unwatched}
use Rattle.log_invariant.proofs.StepPlaces.{publishes}

-- A line stands at the place, by its hand's record, and its log is to begin.
abbrev pub BeginsAt : Place → Command → Held → ℕ → Type 0
BeginsAt p command h gfn = (LogIsUnwatchedAt p command h gfn × BeginsClean h) ⊎ (begun_at p h.topics).Has gfn

-- It is one of the places where a line may be so.
abbrev pub may_begin : Place → Bool
may_begin (place.SlotChange (change.WriteProtect range p)) = true
may_begin (place.SlotChange p) = is_unwatched p
may_begin _ = false

-- ---- where a step leads

module _ (command : Command) (h : Held) (gfn : ℕ) where
  abbrev At : Place → Type 0
  At p = BeginsAt p command h gfn

  pub none_begins : {X : Type 0} (p : Place) → may_begin p ≡ false → At p → X
  none_begins (place.SlotChange (change.WriteProtect range p)) none B = absurd (cc none)
  none_begins (place.SlotChange p) none (inl o) = let is = o.0.0 in absurd (cc (none, is))
  none_begins (place.SlotChange p) none (inr f) = absurd f
  none_begins _ none (inl o) = absurd o.0
  none_begins _ none (inr f) = absurd f

  -- A place at which a line may be so, where it had opened the log before.
  opened : (p q : SlotChangePlace) → is_unwatched p ≡ true → may_begin (place.SlotChange q) ≡ is_unwatched q → At (place.SlotChange q) → At (place.SlotChange p)
  opened p (change.WriteProtect range q) is same B = absurd (cc same)
  opened p q is same (inl o) = inl ((is, o.0.1, o.0.2, o.0.3), o.1)
  opened p q is same (inr f) = absurd f

  -- Behind the watch it had opened the log, and forbids writes to the slot's frames.
  grace_before : (armed : Option SlotOf) → slot_armed h.slots command ≡ armed → At (place.SlotChange (after_grace h.state.sizes armed))
      → At (place.SlotChange change.Watch)
  grace_before None is B = none_begins (place.SlotChange change.Clear) refl B
  grace_before (Some slot) is B =
      one_place (λ q. At (place.SlotChange q) → At (place.SlotChange change.Watch)) (is_all_set h.state.sizes.mode) change.Clear
      (change.WriteProtect (frames_of slot) protect.Exclude) (λ all B. none_begins (place.SlotChange change.Clear) refl B) forbids B
    where
      forbids : is_all_set h.state.sizes.mode ≡ false → At (place.SlotChange (change.WriteProtect (frames_of slot) protect.Exclude))
          → At (place.SlotChange change.Watch)
      forbids clean (inl o) = let is = o.0.0 in absurd (cc is)
      forbids clean (inr among) =
          let from = among.0 in let to = among.1 in let holds : contains gfn slot ≡ true = grind (arith, nat_tests) in inl ((refl, slot, is, holds), clean)

  -- Each step of a slot line but the publication.
  change_before : (p : SlotChangePlace) (x : ℕ) → publishes (place.SlotChange p) ≡ false → At (place_after (slot_change_outcome p command h x))
      → At (place.SlotChange p)
  change_before change.Publish x never B = absurd (cc never)
  change_before (change.AtOnce r) x never B = none_begins place.Between refl B
  change_before (change.Claim begun) x never B =
      each_claim (λ o. At (place_after o) → At (place.SlotChange (change.Claim begun))) (claim_next Pages begun h.state.sizes h.topics.claim x)
      (place.SlotChange (change.Claim true)) (place.SlotChange change.Fill) Starved
      (none_begins (place.SlotChange (change.Claim true)) refl) (none_begins (place.SlotChange change.Fill) refl) (none_begins place.Between refl) B
  change_before change.Fill x never B =
      either_place (λ q. At (place.SlotChange q) → At (place.SlotChange change.Fill)) (nat_lt (words_filled h.topics.owned + 1) 512) change.Fill change.Role
      (λ B. B) (none_begins (place.SlotChange change.Role) refl) B
  change_before change.Role x never B =
      either_place (λ q. At (place.SlotChange q) → At (place.SlotChange change.Role)) (is_some (slot_invalidated h.slots command))
      (change.Begin begins.Exclude) (if is_some (slot_armed h.slots command) then change.Arm false else change.Exclude)
      (none_begins (place.SlotChange (change.Begin begins.Exclude)) refl)
      (either_place (λ q. At (place.SlotChange q) → At (place.SlotChange change.Role)) (is_some (slot_armed h.slots command)) (change.Arm false) change.Exclude
      (none_begins (place.SlotChange (change.Arm false)) refl) (none_begins (place.SlotChange change.Exclude) refl)) B
  change_before (change.Arm begun) x never B =
      let slot = log_target h command in
      either_place (λ q. At (place.SlotChange q) → At (place.SlotChange (change.Arm begun))) (nat_lt (arm_word begun slot h.topics + 1) (log_end slot))
      (change.Arm true) change.Exclude (none_begins (place.SlotChange (change.Arm true)) refl) (none_begins (place.SlotChange change.Exclude) refl) B
  change_before (change.Begin p) x never B = by (begin_next p h.state.sizes (slot_target h command) h.topics x) B
    where
      by : (next : BeginNext) → At (place.SlotChange (after_set_begin next)) → At (place.SlotChange (change.Begin p))
      by (begins_next.Goes q) B = none_begins (place.SlotChange (change.Begin q)) refl B
      by begins_next.Begun B = none_begins (place.SlotChange change.Exclude) refl B
  change_before change.Exclude x never B =
      either_place (λ q. At (place.SlotChange q) → At (place.SlotChange change.Exclude)) (x == 0) change.Count change.Exclude
      (none_begins (place.SlotChange change.Count) refl) (λ B. B) B
  change_before change.Count x never B =
      either_place (λ q. At (place.SlotChange q) → At (place.SlotChange change.Count)) (x == own_open h.topics.invalidations) change.Publish change.Close
      (none_begins (place.SlotChange change.Publish) refl) (none_begins (place.SlotChange change.Close) refl) B
  change_before change.Close x never B = none_begins (place.SlotChange change.Exclude) refl B
  change_before change.Release x never B =
      either_place (λ q. At (place.SlotChange q) → At (place.SlotChange change.Release)) h.topics.invalidations.opened (change.End ends.Exclude) change.Watch
      (opened change.Release (change.End ends.Exclude) refl refl) (opened change.Release change.Watch refl refl) B
  change_before (change.End p) x never B = by (end_next p x) B
    where
      by : (next : EndNext) → At (place.SlotChange (after_set_end next)) → At (place.SlotChange (change.End p))
      by (ends_next.Goes q) B = opened (change.End p) (change.End q) refl refl B
      by ends_next.Ended B = opened (change.End p) change.Watch refl refl B
  change_before change.Watch x never B =
      each_watch (λ q. At (place.SlotChange q) → At (place.SlotChange change.Watch)) (watch_next h x) change.Watch
      (after_grace h.state.sizes (slot_armed h.slots command)) (λ B. B) (grace_before (slot_armed h.slots command) refl) B
  change_before (change.WriteProtect range p) x never B = by (protect_next p h.state.sizes range h.topics x) B
    where
      by : (next : WriteProtectNext) → At (place.SlotChange (after_protect range next)) → At (place.SlotChange (change.WriteProtect range p))
      by (protects_next.Goes q) (inl o) = let is = o.0.0 in absurd (cc is)
      by (protects_next.Goes q) (inr among) = inr among
      by protects_next.Over B = none_begins (place.SlotChange change.Clear) refl B
  change_before change.Clear x never B = none_begins (place.SlotChange change.Give) refl B
  change_before change.Give x never B = none_begins place.Between refl B

  elsewhere : {X : Type 0} (o : Outcome) → GoesElsewhere o → At (place_after o) → X
  elsewhere (Ends answer) other B = none_begins place.Between refl B
  elsewhere (Goes (place.SlotChange p)) other B = absurd other
  elsewhere (Goes p) other B = none_begins p refl B

  -- So where a step leads to such a place that publishes nothing, its own was one.
  pub begins_before : (p : Place) (x : ℕ) → publishes p ≡ false → At (place_after (outcome_at p command h x)) → At p
  begins_before p x never B = by p command refl never B
    where
      by : (p : Place) (c : Command) → c ≡ command → publishes p ≡ false → At (place_after (outcome_at p c h x)) → At p
      by (place.SlotChange p) c same never B =
          change_before p x never (subst (λ d. At (place_after (slot_change_outcome p d h x))) same B)
      by p c same never B = elsewhere (outcome_at p c h x) (outcome_elsewhere p c h x refl) B
