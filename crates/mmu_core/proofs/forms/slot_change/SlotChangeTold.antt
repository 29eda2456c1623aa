-- How a line that changes a slot ends, what each of its steps tells, and what else is so of its places, which are simple ones.
use Rattle.std.proofs.Common.{◌≡◌, ◌≤◌, ℕ, ◌+◌, ap, arith, length, ◌≢◌, refl}
use Rattle.std.specs.Prelude.{true, Option, Some, None, Bool, false, List, [], ◌++◌, ◌||◌, if◌then◌else◌, nat_lt}
use Rattle.core_views.specs.declared.answer.Answer.{Answer}
use Rattle.core_views.specs.declared.answer.Answer.TheVariants.{Done, Refused, Starved}
use Rattle.core_views.specs.declared.answer.Refusal.TheVariants.{NoFrame}
use Rattle.core_views.specs.declared.place.EndPlace.TheVariants as ends
use Rattle.core_views.specs.declared.place.FrameRange.{FrameRange}
use Rattle.core_views.specs.declared.place.WriteProtectPlace.{WriteProtectPlace}
use Rattle.core_views.specs.declared.place.WriteProtectPlace.TheVariants as protect
use Rattle.core_views.specs.declared.event.EventKind.{EventKind}
use Rattle.core_views.specs.LogCommands.{is_all_set}
use Rattle.core_views.specs.declared.place.Place.TheVariants as place
use Rattle.core_views.specs.declared.place.SlotChangePlace.{SlotChangePlace}
use Rattle.core_views.specs.declared.place.SlotChangePlace.TheVariants.{AtOnce, Claim, Fill, Arm, Begin, Publish, End, Watch, WriteProtect, Clear, Give}
use Rattle.core_views.specs.declared.memory_slot.MemorySlot.{MemorySlot}
use Rattle.core_views.specs.declared.trace.Slot.{Slot}
use Rattle.core_views.specs.declared.trace.Command.{Command}
use Rattle.core_views.specs.declared.trace.Command.TheVariants.{Access, ChangeHost, ChangeRun, ClearLog, DeleteSlot, GetLog, Migrate, SetLog, SetSlot, Split}
use Rattle.core_views.specs.Held.{Held}
use Rattle.core_views.specs.SlotCommands.{slot_armed, slot_change, changes_slot}
use Rattle.part_steps.specs.ControlBits.{has_to_flush}
use Rattle.mmu_core.specs.declared.outcome.Outcome.TheVariants.{Ends}
use Rattle.mmu_core.specs.orders.ClaimSteps.{Pages, claim_next}
use Rattle.mmu_core.specs.lines.PartWaits.{part_waits}
use Rattle.mmu_core.specs.forms.slot_change.SlotChangeSteps.{after_grace, after_protect, frames_of, slot_change_outcome}
use Rattle.mmu_core.specs.forms.slot_change.SlotChangeSteps.{slot_change_part, slot_target}
use Rattle.mmu_core.specs.forms.slot_change.SlotChangeTells.{arming, changed, protect_tells, slot_change_tells}
use Rattle.mmu_core.specs.orders.WatchSteps.{watch_next}
use Rattle.mmu_core.specs.declared.write_protect.WriteProtectNext.{WriteProtectNext}
use Rattle.mmu_core.specs.declared.write_protect.WriteProtectNext.TheVariants as protects_next
use Rattle.mmu_core.specs.orders.WriteProtectSteps.{protect_next, protect_part}
use Rattle.mmu_core.proofs.orders.ProtectPlaces.{protect_rises}
use Rattle.mmu_core.specs.invariant.InvalidationsPart.{has_raised}
use Rattle.mmu_core.specs.machine.Sums.{one_if}
use Rattle.mmu_core.proofs.orders.ClaimMade.{claim_free, claim_is, claim_made}
use Rattle.mmu_core.proofs.lines.EitherPlace.{each_claim, each_watch, either_place, one_place}
use Rattle.mmu_core.proofs.orders.InvalidatePlaces.{begin_rises}
use Rattle.mmu_core.proofs.lines.LinesKept.{answers_length}
use Rattle.mmu_core.proofs.machine.PartStepping.{rises}
use Rattle.mmu_core.proofs.lines.SimplePlaces.{SimplePlace, Told, RaisesOn, Nothing, Arms, ArmsClean, Exit, Change, none_raised}
use Rattle.mmu_core.proofs.forms.slot_change.SlotChangeClaims.{change_claims_or_not}
use Rattle.mmu_core.specs.forms.access.AccessSteps.{exiting}
use Rattle.mmu_core.proofs.forms.slot_change.SlotChangePlaces.{slot_change_goes, accepts_prop, change_accepts, slot_change_knows_prop, slot_change_rests_prop}
use Rattle.mmu_core.specs.forms.slot_change.SlotChangeKnows.{SlotChangeRests}
use Rattle.mmu_core.proofs.forms.slot_change.SlotChangePlaces.{slot_change_stays}
use Rattle.mmu_core.proofs.lines.FormLaws.{FormLaws, rests_on}
use Rattle.mmu_core.proofs.forms.slot_change.SlotChangeCounted.{slot_change_allowed, some_change_left}

-- ---- how it ends

-- The step that ends it doesn't wait.
pub slot_change_free : (p : SlotChangePlace) (h : Held) (command : Command) (v : ℕ) (answer : Answer) → slot_change_outcome p command h v ≡ Ends answer
    → part_waits (slot_change_part p h command) h.topics v ≡ false
slot_change_free (Claim begun) h command v answer e =
    claim_free h.state.sizes Pages begun h.topics v _ _ _ (claim_made h.state.sizes Pages begun h.topics v) (place.SlotChange (Claim true))
    (place.SlotChange Fill) Starved answer e
slot_change_free (AtOnce refusal) h command v answer e = refl
slot_change_free (Begin p) h command v answer e = absurd (cc e)
slot_change_free (End p) h command v answer e = absurd (cc e)
slot_change_free (WriteProtect range p) h command v answer e = absurd (cc e)
slot_change_free (Arm begun) h command v answer e = absurd (cc e)
slot_change_free Give h command v answer e = refl
slot_change_free _ h command v answer e = absurd (cc e)

-- ---- what it tells, and what else is so of each place of a simple form

module _ (h : Held) (command : Command) (v : ℕ) where
  -- the begin of the slot's log, with each page dirty or none
  arms_told : (c : Command) → Told h v (place.SlotChange Publish) command (arming true c)
  arms_told (SetLog id true) = Arms id refl
  arms_told (SetLog id false) = Nothing
  arms_told (Access gfn word op) = Nothing
  arms_told (ChangeHost page change) = Nothing
  arms_told (ChangeRun page change) = Nothing
  arms_told (SetSlot id slot) = Nothing
  arms_told (DeleteSlot id) = Nothing
  arms_told (GetLog id) = Nothing
  arms_told (Migrate call) = Nothing
  arms_told (Split gfn) = Nothing
  arms_told (ClearLog id first count words) = Nothing

  at_once_told : (now_ : Bool) → Told h v (place.SlotChange Publish) command (if now_ then arming true command else [])
  at_once_told true = arms_told command
  at_once_told false = Nothing

  clean_told : (range : FrameRange) (c : Command) → has_to_flush v ≡ false → nat_lt (h.topics.flush.awaited + 1) h.state.sizes.vcpus ≡ false
      → Told h v (place.SlotChange (WriteProtect range protect.Await)) command (arming false c)
  clean_told range (SetLog id true) seen last = ArmsClean range id seen last
  clean_told range (SetLog id false) seen last = Nothing
  clean_told range (Access gfn word op) seen last = Nothing
  clean_told range (ChangeHost page change) seen last = Nothing
  clean_told range (ChangeRun page change) seen last = Nothing
  clean_told range (SetSlot id slot) seen last = Nothing
  clean_told range (DeleteSlot id) seen last = Nothing
  clean_told range (GetLog id) seen last = Nothing
  clean_told range (Migrate call) seen last = Nothing
  clean_told range (Split gfn) seen last = Nothing
  clean_told range (ClearLog id first count words) seen last = Nothing

  first_not : (a b : Bool) → (a || b) ≡ false → a ≡ false
  first_not true b is = absurd (cc is)
  first_not false b is = refl

  second_not : (a b : Bool) → (a || b) ≡ false → b ≡ false
  second_not true b is = absurd (cc is)
  second_not false b is = is

  protect_told : (range : FrameRange) (p : WriteProtectPlace)
      → Told h v (place.SlotChange (WriteProtect range p)) command (protect_tells (protect_next p h.state.sizes range h.topics v) command)
  protect_told range protect.Await =
      one_place (λ q. Told h v (place.SlotChange (WriteProtect range protect.Await)) command (protect_tells q command))
      (has_to_flush v || nat_lt (h.topics.flush.awaited + 1) h.state.sizes.vcpus) (protects_next.Goes protect.Await) protects_next.Over (λ e. Nothing)
      (λ e. clean_told range command (first_not (has_to_flush v) _ e) (second_not (has_to_flush v) _ e))
  protect_told range (protect.Walk true) = Nothing
  protect_told range (protect.Walk false) = Nothing
  protect_told range _ = Nothing

  -- the slot's change, if there is one
  change_told : (change : Option (ℕ × Option MemorySlot)) (more : List EventKind) → Told h v (place.SlotChange Publish) command more
      → Told h v (place.SlotChange Publish) command (changed change ++ more)
  change_told None more T = T
  change_told (Some (id, slot)) more T = Change id slot refl T

  -- Its claim is answered for want of a page alone.
  claim_told : (begun : Bool) → Told h v (place.SlotChange (Claim begun)) command (exiting (slot_change_outcome (Claim begun) command h v))
  claim_told begun =
      Exit (each_claim (λ o. o ≢ Ends (Refused NoFrame)) (claim_next Pages begun h.state.sizes h.topics.claim v) (place.SlotChange (Claim true))
      (place.SlotChange Fill) Starved (λ e. cc e) (λ e. cc e) (λ e. cc e))

  slot_change_told : (p : SlotChangePlace) → Told h v (place.SlotChange p) command (slot_change_tells p h command v)
  slot_change_told (Claim begun) = claim_told begun
  slot_change_told Publish = change_told (slot_change h.slots command) _ (at_once_told (is_all_set h.state.sizes.mode))
  slot_change_told (WriteProtect range p) = protect_told range p
  slot_change_told _ = Nothing

  -- It raises the sequence number with one step of the invalidation's end, and has raised it from then on.
  abbrev RaisesFrom : SlotChangePlace → Type 0
  RaisesFrom p = RaisesOn (place.SlotChange p) command h v

  raises_none : (p : SlotChangePlace) → has_raised (place.SlotChange p) ≡ false → rises (slot_change_part p h command) ≡ 0 → RaisesFrom p
  raises_none p not_yet none line =
      let more = none_raised (slot_change_outcome p command h v) line h.answers (rises (slot_change_part p h command)) none in
      let same = ap one_if not_yet in
      omega (arith, more, same)

  change_raises : (p : SlotChangePlace) → RaisesFrom p
  change_raises (Claim begun) line =
      raises_none (Claim begun) refl (claim_is (λ s. rises s ≡ 0) Pages begun h.topics.claim refl (λ word. refl)) line
  change_raises (Begin p) line = raises_none (Begin p) refl (begin_rises p (slot_target h command) h.topics) line
  change_raises (End ends.Exclude) line = omega arith
  change_raises (End _) line = omega arith
  change_raises Watch line =
      each_watch (λ q. length h.answers + 1 + 0 ≤ length h.answers + one_if (has_raised (place.SlotChange q))) (watch_next h v) Watch
      (after_grace h.state.sizes (slot_armed h.slots command)) (omega arith) (grace_raised (slot_armed h.slots command))
    where
      grace_raised : (slot : Option Slot)
          → length h.answers + 1 + 0 ≤ length h.answers + one_if (has_raised (place.SlotChange (after_grace h.state.sizes slot)))
      grace_raised None = omega arith
      grace_raised (Some slot) =
          either_place (λ q. length h.answers + 1 + 0 ≤ length h.answers + one_if (has_raised (place.SlotChange q))) (is_all_set h.state.sizes.mode) Clear
          (WriteProtect (frames_of slot) protect.Exclude) (omega arith) (omega arith)
  change_raises (WriteProtect range p) line = by (protect_next p h.state.sizes range h.topics v)
    where
      by : (next : WriteProtectNext)
          → length h.answers + 1 + rises (protect_part p range h.topics) ≤ length h.answers + one_if (has_raised (place.SlotChange (after_protect range next)))
      by (protects_next.Goes q) = let none = protect_rises p range h.topics in omega (arith, none)
      by protects_next.Over = let none = protect_rises p range h.topics in omega (arith, none)
  change_raises Clear line = omega arith
  change_raises Give line =
      let more = answers_length h.answers (record { number = line.number; actor = line.actor; answer = Done }) in omega (arith, more)
  change_raises p line = raises_none p refl refl line

  pub slot_change_simple : (p : SlotChangePlace) → SimplePlace (place.SlotChange p) command h v
  slot_change_simple p = record {
    tells = slot_change_told p;
    raises = change_raises p;
    claims = λ R. change_claims_or_not command h v p;
  }

-- ---- all that laws ask of it

pub slot_change_laws : (p : SlotChangePlace) (c : Command) → FormLaws (place.SlotChange p) c
slot_change_laws p c = record {
  goes = λ h v begun. (slot_change_goes p c h v).0;
  within = λ h v. (slot_change_goes p c h v).1;
  knows_for = λ h begun K. K.0;
  rests_for = λ h begun R. R.0;
  simple = λ h v is. slot_change_simple h c v p;
  rests = λ h other.
      rests_on (place.SlotChange p) c h (changes_slot c) (slot_change_part p h c) (SlotChangeRests p c h) refl (slot_change_rests_prop p c h)
      (λ R. R) (λ R. R);
  knows_prop = λ h other. slot_change_knows_prop p c h;
  stays = λ z before set after other h own e. slot_change_stays z before after h own p c e;
  accepts = λ z pool set h e. change_accepts p c z pool h e;
  accepts_prop = λ z slots. accepts_prop p z c slots;
  free = λ h v answer R e. slot_change_free p h c v answer e;
  told = λ h v. (slot_change_simple h c v p).tells;
  few = λ z pool set h holds K S most. slot_change_allowed p c h K.0 K.1 S most;
  some = λ z t begun. some_change_left p c z t;
}
