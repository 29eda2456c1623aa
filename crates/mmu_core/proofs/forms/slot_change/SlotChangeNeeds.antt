-- A line that changes a slot has what each of its steps needs.
use Rattle.std.proofs.lemmas.Bool.Decides.{nat_tests}
use Rattle.std.proofs.Math.Nat.{pow-le-pow_right}
use Rattle.core_views.specs.LogCommands.{is_all_set}
use Rattle.std.proofs.Common.{◌≡◌, inr, ◌+◌, ◌-◌, ◌*◌, ◌<◌, ◌≤◌, ◌^◌, ℕ, refl, ap, arith}
use Rattle.std.specs.Prelude.{Bool, true, false, nat_lt, if◌then◌else◌}
use Rattle.core_views.specs.declared.place.Place.TheVariants as place
use Rattle.core_views.specs.declared.place.SlotChangePlace.{SlotChangePlace}
use Rattle.core_views.specs.declared.place.SlotChangePlace.TheVariants.{AtOnce, Claim, Fill, Role, Arm, Begin, Count, Close, Publish}
use Rattle.core_views.specs.declared.place.SlotChangePlace.TheVariants.{Release, End, Watch, WriteProtect, Clear, Give}
use Rattle.core_views.specs.declared.trace.Command.{Command}
use Rattle.core_views.specs.Held.{Held}
use Rattle.core_views.specs.SlotCommands.{slot_invalidated, slots_after}
use Rattle.part_steps.specs.FrameTopics.{is_uncopied}
use Rattle.part_steps.specs.PartBounds.{PartRests}
use Rattle.part_steps.specs.PartSteps.{PartNeeds}
use Rattle.part_steps.specs.PartTasks.{own_index, words_filled}
use Rattle.part_steps.specs.SetWords.{set_word}
use Rattle.mmu_core.specs.orders.ClaimSteps.{Pages}
use Rattle.mmu_core.specs.lines.Forms.{RetiresPart}
use Rattle.mmu_core.specs.forms.slot_change.SlotChangeKnows.{IsInLog, SlotChangeKnows, SlotChangeRests}
use Rattle.mmu_core.specs.forms.slot_change.SlotChangeSteps.{arm_bits, log_target, slot_change_part, slot_or_none, slot_target}
use Rattle.mmu_core.proofs.orders.ProtectKnown.{protect_needs}
use Rattle.part_steps.specs.LogHoldings.{MayArm, log_begin}
use Rattle.core_views.specs.declared.trace.Slot.{Slot}
use Rattle.mmu_core.proofs.orders.ClaimMade.{claim_needs}
use Rattle.mmu_core.proofs.forms.access.FaultNeeds.{full_owns, owned_below}
use Rattle.mmu_core.proofs.orders.InvalidateNeeds.{begin_needs, end_needs}
use Rattle.mmu_core.proofs.orders.WatchMade.{never_own}
use Rattle.mmu_core.proofs.lines.ReleaseNeeds.{release_free}
use Rattle.mmu_core.proofs.slots.MadeWay.{owns_aimed, way_flushed, way_unraised}

-- The bits of a word of a log are of 64 bits.
bits_small : (all : Bool) (slot : Slot) (word : ℕ) → arm_bits all slot word < 2 ^ 64
bits_small false slot word = omega arith
bits_small true slot word = by (nat_lt (64 * (word - log_begin slot) + 63) slot.pages) refl
  where
    by : (b : Bool) → nat_lt (64 * (word - log_begin slot) + 63) slot.pages ≡ b
        → (if b then 2 ^ 64 - 1 else 2 ^ (slot.pages - 64 * (word - log_begin slot)) - 1) < 2 ^ 64
    by true is = omega arith
    by false is =
        let few : slot.pages - 64 * (word - log_begin slot) ≤ 63 = grind (arith, nat_tests) in
        let most : 2 ^ (slot.pages - 64 * (word - log_begin slot)) ≤ 2 ^ 63 = pow-le-pow_right (omega arith) few in
        omega (arith, most)

-- The next word of a log is one of the slot's, which has none yet.
arm_needs : (begun : Bool) (h : Held) (command : Command) → SlotChangeKnows (Arm begun) command h
    → PartNeeds (slot_change_part (Arm begun) h command) h
arm_needs begun h command K = by begun K.4
  where
    slot : Slot
    slot = log_target h command

    may : (word bits : ℕ) → bits < 2 ^ 64 → IsInLog slot word → MayArm word bits h
    may word bits small in_log =
        let high = in_log.1 in
        let pages = K.3.fits.pages in
        record {
          reads = record { manager = K.3.manager; there = omega (arith, high, pages) };
          small = small;
          unlogged = K.3.unlogged word in_log;
          of_no_log = K.3.of_no_log word in_log;
        }

    by : (begun : Bool) → (begun ≡ true → IsInLog slot h.topics.next_log_word) → PartNeeds (slot_change_part (Arm begun) h command) h
    by true in_log = may _ _ (bits_small (is_all_set h.state.sizes.mode) slot h.topics.next_log_word) (in_log refl)
    by false in_log =
        let some = K.3.some in
        may _ _ (bits_small (is_all_set h.state.sizes.mode) slot (log_begin slot)) (omega arith, omega (arith, some))

pub slot_change_needs : (p : SlotChangePlace) (h : Held) (command : Command)
    → set_word (slots_after command h.slots) (words_filled h.topics.owned) < 2 ^ 64 → PartRests h → SlotChangeKnows p command h
    → RetiresPart (place.SlotChange p) h.topics → PartNeeds (slot_change_part p h command) h
slot_change_needs (AtOnce refusal) h command small R K left = tt
slot_change_needs (Claim begun) h command small R K left = claim_needs Pages begun h R.sizes K.0.owns_none K.1
slot_change_needs Fill h command small R K left = (K.1, small, owned_below h R K.1.0)
slot_change_needs Role h command small R K left = (K.1, omega arith, owned_below h R (full_owns h.topics.owned K.1))
slot_change_needs (Begin p) h command small R K left =
    begin_needs p h (slot_target h command) R K.3.frames (owns_aimed (slot_or_none (slot_invalidated h.slots command)) h.topics K.0)
    (λ closed run page aimed on. absurd (let none = (owns_aimed (slot_or_none (slot_invalidated h.slots command)) h.topics K.0).0 in cc (none, aimed)))
    (ap is_uncopied (left.frames refl)) K.1
slot_change_needs Count h command small R K left = tt
slot_change_needs Publish h command small R K left = K.1
slot_change_needs (End p) h command small R K left = end_needs p h K.0
slot_change_needs (Arm begun) h command small R K left = arm_needs begun h command K
slot_change_needs (WriteProtect range p) h command small R K left = protect_needs p h range K.0.leaves K.1
slot_change_needs Watch h command small R K left = (K.2, never_own (own_index h) h.topics.watched, inr refl)
slot_change_needs Clear h command small R K left = K.1
slot_change_needs Give h command small R K left = K.1
slot_change_needs Close h command small R K left =
    let moved = slot_invalidated h.slots command in
    release_free h K.0 (way_unraised h.state.sizes moved h.topics K.2) (way_flushed h.state.sizes moved h.topics K.2)
slot_change_needs Release h command small R K left = release_free h K.0 K.4 K.6
slot_change_needs _ h command small R K left = K.0.holds

-- And what it asks besides: a slot that is invalidated fits the machine.
pub slot_change_rests : (p : SlotChangePlace) (command : Command) (h : Held) → SlotChangeKnows p command h → SlotChangeRests p command h
slot_change_rests (Begin p) command h K = K.3.frames
slot_change_rests (Arm true) command h K = (K.4 refl, K.3.fits)
slot_change_rests (Arm false) command h K = let some = K.3.some in ((omega arith, omega (arith, some)), K.3.fits)
slot_change_rests Watch command h K = K.3
slot_change_rests _ command h K = tt
