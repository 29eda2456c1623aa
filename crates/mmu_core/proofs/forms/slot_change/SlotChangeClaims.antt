-- Which steps of a line that changes a slot claim: those of its claim, with the last of which it may be starved.
use Rattle.std.proofs.Common.{◌≡◌, ◌≢◌, ◌⊎◌, inl, inr, ◌+◌, ℕ, refl, ap}
use Rattle.std.specs.Prelude.{Bool, true, false, ◌==◌, nat_lt, if◌then◌else◌, Option, Some, None, is_some}
use Rattle.core_views.specs.declared.answer.Answer.TheVariants.{Done}
use Rattle.core_views.specs.declared.answer.Refusal.{Refusal}
use Rattle.core_views.specs.declared.answer.Refusal.TheVariants.{NoFrame}
use Rattle.core_views.specs.declared.place.BeginPlace.TheVariants as begins
use Rattle.core_views.specs.declared.place.EndPlace.TheVariants as ends
use Rattle.core_views.specs.declared.place.FrameRange.{FrameRange}
use Rattle.core_views.specs.declared.place.WriteProtectPlace.TheVariants as protect
use Rattle.core_views.specs.declared.place.Place.TheVariants as place
use Rattle.core_views.specs.declared.place.SlotChangePlace.{SlotChangePlace}
use Rattle.core_views.specs.declared.place.SlotChangePlace.TheVariants.{AtOnce, Claim, Fill, Role, Arm, Begin, Exclude, Count, Close, Publish}
use Rattle.core_views.specs.declared.place.SlotChangePlace.TheVariants.{Release, End, Watch, WriteProtect, Clear, Give}
use Rattle.core_views.specs.declared.trace.Command.{Command}
use Rattle.core_views.specs.Held.{Held}
use Rattle.core_views.specs.SlotCommands.{refused_or_done, slot_armed, slot_invalidated}
use Rattle.core_views.specs.Slots.{is_some_and}
use Rattle.part_steps.specs.SetHoldings.{own_open}
use Rattle.part_steps.specs.PartTasks.{words_filled}
use Rattle.mmu_core.specs.declared.claim.ClaimNext.{ClaimNext}
use Rattle.mmu_core.specs.declared.invalidate.BeginNext.{BeginNext}
use Rattle.mmu_core.specs.declared.invalidate.BeginNext.TheVariants as begins_next
use Rattle.mmu_core.specs.declared.invalidate.EndNext.{EndNext}
use Rattle.mmu_core.specs.declared.invalidate.EndNext.TheVariants as ends_next
use Rattle.mmu_core.specs.declared.outcome.Outcome.TheVariants.{Goes, Ends}
use Rattle.mmu_core.specs.orders.ClaimSteps.{FreeMap, Pages, Frames, claim_next}
use Rattle.mmu_core.specs.lines.ScanPlaces.{HasScan, answer_without, claim_at}
use Rattle.mmu_core.specs.forms.slot_change.SlotChangeKnows.{is_of_frames}
use Rattle.mmu_core.specs.orders.InvalidateSteps.{begin_next, end_next}
use Rattle.mmu_core.specs.forms.slot_change.SlotChangeSteps.{after_grace, after_protect, after_set_begin, after_set_end, arm_word, frames_of, log_target}
use Rattle.mmu_core.specs.forms.slot_change.SlotChangeSteps.{slot_change_first, slot_change_outcome, slot_target, watch_next}
use Rattle.mmu_core.specs.declared.write_protect.WriteProtectNext.{WriteProtectNext}
use Rattle.mmu_core.specs.declared.write_protect.WriteProtectNext.TheVariants as protects_next
use Rattle.mmu_core.specs.orders.WriteProtectSteps.{protect_next}
use Rattle.mmu_core.proofs.orders.ProtectPlaces.{protect_plain}
use Rattle.part_steps.specs.LogHoldings.{log_end}
use Rattle.core_views.specs.LogCommands.{is_all_set}
use Rattle.core_views.specs.declared.sizes.Sizes.{Sizes}
use Rattle.core_views.specs.declared.trace.Slot.{Slot}
use Rattle.mmu_core.proofs.lines.EitherPlace.{each_map, each_watch, either_place}
use Rattle.mmu_core.proofs.orders.InvalidatePlaces.{begin_plain, end_plain}
use Rattle.mmu_core.proofs.lines.LineClaims.{Claims, ClaimsNot, HasNoScan, claim_leads, claim_notes, claim_scans, is_answered, no_scan_between, to_no_scan}

abbrev is_claim : SlotChangePlace → Bool
is_claim (Claim begun) = true
is_claim _ = false

no_claim : (p : SlotChangePlace) → is_claim p ≡ false → (map : FreeMap) → claim_at map (place.SlotChange p) ≡ None
no_claim (Claim begun) other Pages = absurd (cc other)
no_claim _ other Pages = refl
no_claim p other Frames = refl

abbrev is_at_once : SlotChangePlace → Bool
is_at_once (AtOnce refusal) = true
is_at_once _ = false

-- A line that is refused for another reason, or done, isn't refused for want of a frame.
refused_not : (refusal : Option Refusal) (map : FreeMap) → is_some_and is_of_frames refusal ≡ false
    → Ends (refused_or_done refusal) ≡ Ends (answer_without map) → ⊥
refused_not None Pages other e = cc e
refused_not None Frames other e = cc e
refused_not (Some refusal) Pages other e = cc e
refused_not (Some refusal) Frames other e = let is : refusal ≡ NoFrame = cc e in let same = ap is_of_frames is in cc (other, same)

abbrev NoScan : SlotChangePlace → Type 0
NoScan p = HasNoScan (Goes (place.SlotChange p))

goes_on : (p : SlotChangePlace) → (HasScan (place.SlotChange p) Pages → ⊥) → NoScan p
goes_on p none = record { no_scan = each_map (λ map. HasScan (place.SlotChange p) map → ⊥) none (λ S. S); fed = λ map e. cc e }

scans_pages : (map : FreeMap) → HasScan (place.SlotChange (Claim true)) map → map ≡ Pages
scans_pages Pages S = refl
scans_pages Frames S = absurd S

module _ (command : Command) (h : Held) (v : ℕ) where
  abbrev OfPlace : SlotChangePlace → Type 0
  OfPlace p = Claims (place.SlotChange p) command h v ⊎ ClaimsNot (place.SlotChange p) command h v

  -- Any other step leads to no scan.
  by_begin : (next : BeginNext) → NoScan (after_set_begin next)
  by_begin (begins_next.Goes p) = goes_on (Begin p) (λ S. S)
  by_begin begins_next.Begun = goes_on Exclude (λ S. S)

  by_end : (next : EndNext) → NoScan (after_set_end next)
  by_end (ends_next.Goes p) = goes_on (End p) (λ S. S)
  by_end ends_next.Ended = goes_on Watch (λ S. S)

  by_grace : (z : Sizes) (slot : Option Slot) → NoScan (after_grace z slot)
  by_grace z None = goes_on Clear (λ S. S)
  by_grace z (Some slot) =
      either_place NoScan (is_all_set z.mode) Clear (WriteProtect (frames_of slot) protect.Exclude) (goes_on Clear (λ S. S))
      (goes_on (WriteProtect (frames_of slot) protect.Exclude) (λ S. S))

  by_protect : (range : FrameRange) (next : WriteProtectNext) → NoScan (after_protect range next)
  by_protect range (protects_next.Goes q) = goes_on (WriteProtect range q) (λ S. S)
  by_protect range protects_next.Over = goes_on Clear (λ S. S)

  no_scan : (p : SlotChangePlace) → is_claim p ≡ false → is_at_once p ≡ false → HasNoScan (slot_change_outcome p command h v)
  no_scan (Claim begun) other not_ = absurd (cc other)
  no_scan (AtOnce refusal) other not_ = absurd (cc not_)
  no_scan Fill other not_ = either_place NoScan (nat_lt (words_filled h.topics.owned + 1) 512) Fill Role (goes_on Fill (λ S. S)) (goes_on Role (λ S. S))
  no_scan Role other not_ =
      either_place NoScan (is_some (slot_invalidated h.slots command)) (Begin begins.Exclude)
      (if is_some (slot_armed h.slots command) then Arm false else Exclude) (goes_on (Begin begins.Exclude) (λ S. S))
      (either_place NoScan (is_some (slot_armed h.slots command)) (Arm false) Exclude (goes_on (Arm false) (λ S. S)) (goes_on Exclude (λ S. S)))
  no_scan (Arm begun) other not_ =
      let slot = log_target h command in
      either_place NoScan (nat_lt (arm_word begun slot h.topics + 1) (log_end slot)) (Arm true) Exclude (goes_on (Arm true) (λ S. S))
      (goes_on Exclude (λ S. S))
  no_scan (Begin p) other not_ = by_begin (begin_next p h.state.sizes (slot_target h command) h.topics v)
  no_scan Exclude other not_ = either_place NoScan (v == 0) Count Exclude (goes_on Count (λ S. S)) (goes_on Exclude (λ S. S))
  no_scan Count other not_ =
      either_place NoScan (v == own_open h.topics.invalidations) Publish Close (goes_on Publish (λ S. S)) (goes_on Close (λ S. S))
  no_scan Close other not_ = goes_on Exclude (λ S. S)
  no_scan Publish other not_ = goes_on Release (λ S. S)
  no_scan Release other not_ =
      either_place NoScan h.topics.invalidations.opened (End ends.Exclude) Watch (goes_on (End ends.Exclude) (λ S. S)) (goes_on Watch (λ S. S))
  no_scan (End p) other not_ = by_end (end_next p v)
  no_scan Watch other not_ =
      each_watch NoScan (watch_next h v) Watch (after_grace h.state.sizes (slot_armed h.slots command)) (goes_on Watch (λ S. S))
      (by_grace h.state.sizes (slot_armed h.slots command))
  no_scan (WriteProtect range p) other not_ = by_protect range (protect_next p h.state.sizes range h.topics v)
  no_scan Clear other not_ = goes_on Give (λ S. S)
  no_scan Give other not_ = is_answered Done (each_map (λ map. Ends Done ≢ Ends (answer_without map)) (λ e. cc e) (λ e. cc e))

  pub change_claims_or_not : (p : SlotChangePlace) → OfPlace p
  change_claims_or_not (Claim begun) =
      let next : ClaimNext = claim_next Pages begun h.state.sizes h.topics.claim v in
      let on = place.SlotChange (Claim true) in
      let got = place.SlotChange Fill in
      let none = (goes_on Fill (λ S. S)).no_scan in
      inl (record {
        map = Pages;
        begun = begun;
        at = refl;
        step = refl;
        scan = λ b. b;
        one = claim_scans Pages on got next scans_pages none;
        leads = claim_leads Pages on got next refl none;
        note = (refl, claim_notes on got (answer_without Pages) next);
      })
  change_claims_or_not (AtOnce refusal) = inr (record {
    at = no_claim (AtOnce refusal) refl;
    step = λ map. refl;
    note = inl refl;
    keeps = λ K map S. absurd (no_scan_between map S);
    starved = λ K map e. absurd (refused_not refusal map K.1.1 e);
  })
  change_claims_or_not (Begin p) =
      to_no_scan (place.SlotChange (Begin p)) command h v (no_claim (Begin p) refl) (begin_plain p (slot_target h command) h.topics).maps_not refl
      (no_scan (Begin p) refl refl)
  change_claims_or_not (End p) =
      to_no_scan (place.SlotChange (End p)) command h v (no_claim (End p) refl) (end_plain p h.topics).maps_not refl (no_scan (End p) refl refl)
  change_claims_or_not (WriteProtect range p) =
      to_no_scan (place.SlotChange (WriteProtect range p)) command h v (no_claim (WriteProtect range p) refl) (protect_plain p range h.topics).maps_not refl
      (no_scan (WriteProtect range p) refl refl)
  change_claims_or_not p = to_no_scan (place.SlotChange p) command h v (no_claim p refl) (λ map. refl) refl (no_scan p refl refl)

-- It begins with no scan.
pub begins_without_scan : (refused : Option (Option Refusal)) (map : FreeMap) → HasScan (place.SlotChange (slot_change_first refused)) map → ⊥
begins_without_scan (Some refusal) Pages S = S
begins_without_scan (Some refusal) Frames S = S
begins_without_scan None Pages S = absurd (cc S)
begins_without_scan None Frames S = S
