-- What speaks of the published slot set alone stays where its words stay.
use Rattle.std.proofs.Common.{◌≡◌, ◌≢◌, ◌<◌, ◌≤◌, ◌+◌, ◌*◌, ℕ, sym, ap, ◌∙◌, arith}
use Rattle.core_views.specs.declared.actor.Actor.TheVariants.{Manager}
use Rattle.core_views.specs.declared.place.SlotField.{SlotField}
use Rattle.core_views.specs.declared.place.SlotField.TheVariants as field
use Rattle.core_views.specs.declared.sizes.Sizes.{Sizes}
use Rattle.core_views.specs.declared.trace.Slot.{Slot as SlotOf}
use Rattle.core_views.specs.Held.{Held}
use Rattle.core_views.specs.Sizes.{actors_of}
use Rattle.core_views.specs.SlotSets.{MemorySlots}
use Rattle.spte_words.specs.Flags.{flags_live, flags_logged, flags_read_only}
use Rattle.mmu_core.specs.invariant.Invariant.{CachedPart, Holds, InvariantOf, KnowsPart, RetiresPart, OwnLines, RecordPart, SlotSetPart}
use Rattle.part_steps.specs.SlotWords.{field_number, live_at, memory_slot_at, memory_slots_below, slot_at, slot_index, slots_below}
use Rattle.mmu_core.specs.machine.View.{upd}
use Rattle.mmu_core.proofs.machine.Columns.{at_upd}
use Rattle.mmu_core.proofs.lines.Forms.{loads_stay}
use Rattle.mmu_core.proofs.slots.LiveStay.{StayLive}
pub use Rattle.mmu_core.proofs.slots.LiveStays.{OwnedStays, SetStays}
use Rattle.mmu_core.proofs.words.SlotFields.{is_number, same_slot}
use Rattle.mmu_core.proofs.words.SlotLists.{same_below}

module _ (set : ℕ) (before after : ℕ → ℕ) (stays : SetStays set before after) where
  pub word_stays : (id : ℕ) (f : SlotField) → id ≤ 31 → after (slot_index set id f) ≡ before (slot_index set id f)
  word_stays id f low = let n = is_number f in stays (4 * id + field_number f) (omega arith)

  pub live_stays : (id : ℕ) → id ≤ 31 → live_at after set id ≡ live_at before set id
  live_stays id low = ap flags_live (word_stays id field.Flags low)

  pub slot_stays : (id : ℕ) → id ≤ 31 → slot_at after set id ≡ slot_at before set id
  slot_stays id low =
      same_slot (slot_at after set id) (slot_at before set id)
      (word_stays id field.Base low) (word_stays id field.Pages low) (word_stays id field.Host low) (ap flags_read_only (word_stays id field.Flags low))

  pub is_live_stays : StayLive before set after set
  is_live_stays id slot l = record { low = l.low; live = live_stays id l.low ∙ l.live; is = slot_stays id l.low ∙ l.is }

  pub is_live_was : StayLive after set before set
  is_live_was id slot l = record { low = l.low; live = sym (live_stays id l.low) ∙ l.live; is = sym (slot_stays id l.low) ∙ l.is }

  memory_slot_stays : (id : ℕ) → id ≤ 31 → memory_slot_at after set id ≡ memory_slot_at before set id
  memory_slot_stays id low =
      ap (λ (s : SlotOf). record { slot = s; logged = flags_logged (after (slot_index set id field.Flags)) }) (slot_stays id low)
      ∙ ap (λ word. record { slot = slot_at before set id; logged = flags_logged word }) (word_stays id field.Flags low)

  pub below_stay : (n : ℕ) → n ≤ 32 → slots_below after set n ≡ slots_below before set n
  below_stay n le =
      same_below (live_at after set) (live_at before set) (slot_at after set) (slot_at before set) n (λ i lt. live_stays i (omega arith))
      (λ i lt live. slot_stays i (omega arith))

  pub memory_below_stay : (n : ℕ) → n ≤ 32 → memory_slots_below after set n ≡ memory_slots_below before set n
  memory_below_stay n le =
      same_below (live_at after set) (live_at before set) (memory_slot_at after set) (memory_slot_at before set) n
      (λ i lt. live_stays i (omega arith)) (λ i lt live. memory_slot_stays i (omega arith))

  pub record_stays : (slots : MemorySlots) → RecordPart before set slots → RecordPart after set slots
  record_stays slots R = record { same = R.same ∙ sym (memory_below_stay 32 (omega arith)) }

-- What each hand knows of its place, from itself.
abbrev pub AllKnow : Sizes → (ℕ → Held) → Type 0
AllKnow z hand = (i : ℕ) → i < actors_of z → KnowsPart (hand i).state.place (hand i).state.line.command (hand i)

-- The published set is one, and one hand is another one.
pub hand_moved : (z : Sizes) (set other : ℕ) (role behind before after : ℕ → ℕ) (hand : ℕ → Held) (a : ℕ) (h : Held)
    → SlotSetPart z other behind after
    → ((i : ℕ) → i < actors_of z → i ≢ a → OwnedStays before after (hand i))
    → ((i : ℕ) → i < actors_of z → i ≢ a → (hand i).state.actor ≡ Manager → RecordPart after other (hand i).slots)
    → OwnLines z a h → Holds z after other h.state.place h.state.line.command h → RetiresPart h.state.place h.topics
    → CachedPart z h.cached.items → (h.state.actor ≡ Manager → RecordPart after other h.slots) → AllKnow z (upd hand a h)
    → InvariantOf z set role before hand → InvariantOf z other behind after (upd hand a h)
hand_moved z set other role behind before after hand a h part owned others own holds leaves cached recorded knows I = record {
  sizes = I.sizes;
  set_part = part;
  lines = at_upd (λ i x. i < actors_of z → OwnLines z i x) hand a h (λ lt. own) (λ i ne. I.lines i);
  loads = at_upd (λ i (x : Held). i < actors_of z → Holds z after other x.state.place x.state.line.command x) hand a h (λ lt. holds)
      (λ i ne lt. loads_stay z before set after other (hand i) (owned i lt ne) (hand i).state.place (hand i).state.line.command (I.loads i lt));
  knows = knows;
  leaves = at_upd (λ i (x : Held). i < actors_of z → RetiresPart x.state.place x.topics) hand a h (λ lt. leaves) (λ i ne. I.leaves i);
  cached = at_upd (λ i (x : Held). i < actors_of z → CachedPart z x.cached.items) hand a h (λ lt. cached) (λ i ne. I.cached i);
  recorded = at_upd (λ i (x : Held). i < actors_of z → x.state.actor ≡ Manager → RecordPart after other x.slots) hand a h (λ lt. recorded)
      (λ i ne lt is. others i lt ne is);
}
