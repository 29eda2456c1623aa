-- The words of the dirty logs of two published slots are apart, since the manager's lines set these slots.
use Rattle.std.proofs.Common.{◌≡◌, ◌≢◌, ◌<◌, ◌%◌, ℕ}
use Rattle.std.specs.Prelude.{false}
use Rattle.core_views.specs.declared.actor.Actor.TheVariants.{Manager}
use Rattle.core_views.specs.declared.sizes.Sizes.{Sizes}
use Rattle.core_views.specs.declared.trace.Slot.{Slot as SlotOf}
use Rattle.core_views.specs.Held.{Held}
use Rattle.core_views.specs.Sizes.{actors_of}
use Rattle.spte_words.specs.declared.area.Area.TheVariants as area
use Rattle.part_steps.specs.LogHoldings.{is_in_log}
use Rattle.mmu_core.specs.invariant.Invariant.{Invariant, IsLiveIn, RecordPart}
use Rattle.mmu_core.specs.forms.slot_change.ArmKnows.{IsInLog}
use Rattle.mmu_core.specs.machine.View.{View}
use Rattle.mmu_core.proofs.slots.LogsApart.{logs_apart}
use Rattle.mmu_core.proofs.words.SmallSlots.{aligned, record_is_so}
use Rattle.log_invariant.proofs.ArmBits.{within_word}
use Rattle.log_invariant.proofs.LogRecords.{live_recorded}

-- The hand at a place is the manager's.
module _ (z : Sizes) (v : View) (m : ℕ) (I : Invariant z v) (there : m < actors_of z) (is : (v.hand m).state.actor ≡ Manager) where
  abbrev h : Held
  h = v.hand m

  abbrev pool : ℕ → ℕ
  pool = v.words area.Pool

  abbrev set : ℕ
  set = v.words area.Slots 0

  R : RecordPart pool set h.slots
  R = I.recorded m there is

  -- The host pages of a live slot begin with a word of the logs.
  pub live_aligned : (id : ℕ) (slot : SlotOf) → IsLiveIn pool set id slot → slot.host % 64 ≡ 0
  live_aligned id slot L =
      record_is_so (λ s. s.host % 64 ≡ 0) aligned z h.lines h.slots (I.lines m there).allowed (I.lines m there).set id _
      (live_recorded pool set id slot h.slots R L)

  -- No word is one of the logs of two of them.
  pub words_apart : (i j : ℕ) (slot other : SlotOf) → i ≢ j → IsLiveIn pool set i slot → IsLiveIn pool set j other → (word : ℕ)
      → IsInLog slot word → IsInLog other word → ⊥
  words_apart i j slot other apart L M word in_log too =
      let out : is_in_log word other ≡ false =
      logs_apart z pool set h.lines h.slots R I.set_part.slots (I.lines m there).allowed (I.lines m there).set i j _ _ apart
      (live_recorded pool set i slot h.slots R L) (live_recorded pool set j other h.slots R M) word in_log in
      let is_in = within_word word other too in
      absurd (cc (out, is_in))
