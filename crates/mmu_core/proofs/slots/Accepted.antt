-- A slot whose words are stored may be set: it fits the machine, and has nothing in common with a live one that has another ID.
use Rattle.std.proofs.Common.{◌≡◌, ◌≢◌, ◌⊎◌, inl, inr, ◌+◌, ◌<◌, ◌≤◌, ◌==◌, ◌&&◌, ◌||◌, ℕ, zero, suc, [], ◌∷◌}
use Rattle.std.proofs.Common.{sym, subst, ap, ◌∙◌, arith}
use Rattle.std.proofs.lemmas.Bool.{or_parts}
use Rattle.std.proofs.lemmas.Bool.Decides.{nat_tests}
use Rattle.std.proofs.lemmas.List.Folds.{list_any-append}
use Rattle.std.specs.Prelude.{Bool, true, false, not, nat_le, nat_lt, if◌then◌else◌, None}
use Rattle.std.specs.List.{list_any}
use Rattle.core_views.specs.declared.sizes.Sizes.{Sizes}
use Rattle.core_views.specs.declared.trace.Slot.{Slot}
use Rattle.core_views.specs.Refusals.{set_refusal}
use Rattle.core_views.specs.SlotSets.{MemorySlots, flat_slots}
use Rattle.core_views.specs.Slots.{Slots, contains, has_host_page, share_guest_frames, share_host_pages}
use Rattle.core_views.proofs.Sound.{Passes, passes}
use Rattle.mmu_core.specs.invariant.Invariant.{RecordPart}
use Rattle.mmu_core.specs.invariant.SlotSetPart.{Fits}
use Rattle.part_steps.specs.SlotWords.{live_at, slot_at, slots_below}
use Rattle.mmu_core.proofs.machine.Columns.{same_or}
use Rattle.mmu_core.proofs.words.SlotLists.{flat_below}

-- What no slot of the list passes, no live slot does.
none_listed : (test : ℕ × Slot → Bool) (pool : ℕ → ℕ) (set n j : ℕ) → j < n → live_at pool set j ≡ true
    → list_any test (slots_below pool set n) ≡ false → test (j, slot_at pool set j) ≡ false
none_listed test pool set zero j lt live none = absurd (omega arith)
none_listed test pool set (suc n) j lt live none =
    case (same_or j n) (or_parts (list_any test (slots_below pool set n)) (list_any test (last (live_at pool set n)))
    (sym (list_any-append test (slots_below pool set n) (last (live_at pool set n))) ∙ none))
    (λ less before. none_listed test pool set n j less live before)
  where
    last : Bool → Slots
    last b = if b then (n, slot_at pool set n) ∷ [] else []

    here : (b : Bool) → b ≡ true → list_any test (last b) ≡ false → test (n, slot_at pool set n) ≡ false
    here true on none = (or_parts (test (n, slot_at pool set n)) false none).0
    here false on none = absurd (cc on)

    case : (j ≡ n) ⊎ (j ≢ n) → (list_any test (slots_below pool set n) ≡ false) × (list_any test (last (live_at pool set n)) ≡ false)
        → (j < n → list_any test (slots_below pool set n) ≡ false → test (j, slot_at pool set j) ≡ false) → test (j, slot_at pool set j) ≡ false
    case (inl e) both before =
        subst (λ k. test (k, slot_at pool set k) ≡ false) (sym e) (here (live_at pool set n) (ap (live_at pool set) (sym e) ∙ live) both.1)
    case (inr apart) both before = before (omega arith) both.0

-- A number in two ranges is between the first of one and the end of the other.
in_both : (a b c d x : ℕ) → (nat_le a x && nat_lt x b) ≡ true → (nat_le c x && nat_lt x d) ≡ true
    → ((nat_le c a && nat_lt a d) || (nat_le a c && nat_lt c b)) ≡ false → ⊥
in_both a b c d x one two none = grind (arith, nat_tests)

other : (i j : ℕ) (s : Bool) → i ≢ j → (not (i == j) && s) ≡ false → s ≡ false
other i j s apart none = grind (arith, nat_tests)

-- The slot may be set: it fits the machine, and no guest frame and no host page is in it and in a live one with another ID.
pub record MayBeSet (z : Sizes) (pool : ℕ → ℕ) (set id : ℕ) (slot : Slot) : Type 0 where
  pub low : id ≤ 31
  pub fits : Fits z slot
  pub guest_apart : (gfn j : ℕ) → j ≤ 31 → j ≢ id → live_at pool set j ≡ true → contains gfn (slot_at pool set j) ≡ true → contains gfn slot ≡ true → ⊥
  pub host_apart : (page j : ℕ) → j ≤ 31 → j ≢ id → live_at pool set j ≡ true → has_host_page page (slot_at pool set j) ≡ true
      → has_host_page page slot ≡ true → ⊥

may_be : (z : Sizes) (pool : ℕ → ℕ) (set id : ℕ) (slot : Slot) → Passes z.pages id slot (slots_below pool set 32) → MayBeSet z pool set id slot
may_be z pool set id slot P = record {
  low = P.low;
  fits = record { pages = P.fits; frames = P.below };
  guest_apart = λ gfn j low apart live holds too.
      let s : Slot = slot_at pool set j in
      in_both slot.base (slot.base + slot.pages) s.base (s.base + s.pages) gfn too holds
      (other j id (share_guest_frames slot s) apart
      (none_listed (λ e. not (e.0 == id) && share_guest_frames slot e.1) pool set 32 j (omega (arith, low)) live P.guest));
  host_apart = λ page j low apart live has too.
      let s : Slot = slot_at pool set j in
      in_both slot.host (slot.host + slot.pages) s.host (s.host + s.pages) page too has
      (other j id (share_host_pages slot s) apart
      (none_listed (λ e. not (e.0 == id) && share_host_pages slot e.1) pool set 32 j (omega (arith, low)) live P.host));
}

-- Without their dirty logs the slots of the record are those of the set.
pub record_flat : (pool : ℕ → ℕ) (set : ℕ) (slots : MemorySlots) → RecordPart pool set slots → flat_slots slots ≡ slots_below pool set 32
record_flat pool set slots R = ap flat_slots R.same ∙ flat_below pool set 32

-- So it may where the record accepts it.
pub may_be_set : (z : Sizes) (pool : ℕ → ℕ) (set id : ℕ) (slot : Slot) (slots : MemorySlots) → RecordPart pool set slots
    → set_refusal z.pages id slot slots ≡ None → MayBeSet z pool set id slot
may_be_set z pool set id slot slots R accepts =
    may_be z pool set id slot (subst (Passes z.pages id slot) (record_flat pool set slots R) (passes z.pages id slot slots accepts))
