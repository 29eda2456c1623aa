-- A slot set stays one where a slot that nothing refuses is set, where a slot is deleted, and where only a dirty log changes.
use Rattle.std.proofs.Common.{◌≡◌, ◌≢◌, ◌+◌, ◌<◌, ◌≤◌, ◌^◌, ◌==◌, ◌&&◌, ◌||◌, ◌⊎◌, inl, inr, ℕ, Bool, true, false, not, cond, List, [], ◌∷◌, length}
use Rattle.std.proofs.Common.{set, arith, refl, sym, subst, ◌∙◌}
use Rattle.std.proofs.lemmas.Bool.{cases_eq, eqb-true, ltb-false, ne_eqb, or_parts, or_from}
use Rattle.std.proofs.lemmas.Bool.Decides.{nat_tests}
use Rattle.std.proofs.lemmas.List.{get_or-set_same, get_or-set_other, length-set}
use Rattle.std.proofs.lemmas.Map.Keys.{IsStrictlyIncreasing-from_sorted}
use Rattle.std.proofs.lemmas.Option.{none-some, same_Some}
use Rattle.std.specs.Prelude.{Option, Some, None, if◌then◌else◌, is_none, nat_lt}
use Rattle.std.specs.List.{AllByRecursion, list_any}
use Rattle.std.specs.Map.{keys_of}
use Rattle.core_views.specs.declared.answer.Refusal.{Refusal}
use Rattle.core_views.specs.declared.answer.Refusal.TheVariants.{BadId, TooLarge, Missing, Logged, Resize, Fixed, Overlap, HostOverlap}
use Rattle.core_views.specs.declared.trace.Slot.{Slot}
use Rattle.core_views.specs.Slots.{changes_fixed, contains, first_of, has_host_page, is_some_and, is_too_large, meets_guest_frames, meets_host_pages}
use Rattle.core_views.specs.Slots.{resizes, share_guest_frames, share_host_pages, slot_with_id, Slots}
use Rattle.core_views.specs.declared.memory_slot.MemorySlot.{MemorySlot}
use Rattle.core_views.specs.SlotSets.{IsSlotSet, MemorySlots, flat_slots, slot_of_id}
use Rattle.core_views.specs.Places.{Places, found, slots_from}
use Rattle.core_views.specs.Refusals.{delete_refusal, is_logged, moves_logged, set_refusal}
use Rattle.core_views.proofs.Places.{rising}

-- Neither of two holds, in the other order.
flip : (x y : Bool) → (x || y) ≡ false → (y || x) ≡ false
flip x y e = or_from y x (or_parts x y e).1 (or_parts x y e).0

-- What a test of a look-up tells.
pub by_test : {A : Type 0} (b : Bool) (x y : A) (rest : Option A) → cond b (Some x) rest ≡ Some y → ((b ≡ true) × (x ≡ y)) ⊎ (rest ≡ Some y)
by_test true x y rest e = inl (refl, same_Some x y e)
by_test false x y rest e = inr e

-- Where no entry passes a test, the slot with an ID doesn't.
none_passes : (test : ℕ × Slot → Bool) (es : MemorySlots) (j : ℕ) (n : MemorySlot) → list_any test (flat_slots es) ≡ false → slot_of_id j es ≡ Some n
    → test (j, n.slot) ≡ false
none_passes test [] j n none at = cc
none_passes test ((k, x) ∷ es) j n none at =
    let parts = or_parts (test (k, x.slot)) (list_any test (flat_slots es)) none in
    elim (by_test (k == j) x n (slot_of_id j es) at) [
      | inl p ↦ subst (λ (i : ℕ). test (i, n.slot) ≡ false) (eqb-true k j p.0) (subst (λ (y : MemorySlot). test (k, y.slot) ≡ false) p.1 parts.0)
      | inr q ↦ none_passes test es j n parts.1 q
    ]

-- A test that looks at other IDs only, at one of these.
other : (b s : Bool) → b ≡ false → (not b && s) ≡ false → s ≡ false
other true s e h = cc
other false s e h = h

-- A place of an array of places is written.
module _ (id : ℕ) (p : Option MemorySlot) (ps : Places) (lt : id < length ps) where
  at_same : slot_of_id id (slots_from 0 (set ps id p)) ≡ p
  at_same = found id (set ps id p) ∙ get_or-set_same ps id p None lt

  at_other : (j : ℕ) → j ≢ id → slot_of_id j (slots_from 0 (set ps id p)) ≡ slot_of_id j (slots_from 0 ps)
  at_other j ne = found j (set ps id p) ∙ get_or-set_other ps id j p None ne ∙ sym (found j ps)

  -- A slot that is there afterwards is the written one, or was there.
  either : (j : ℕ) (n : MemorySlot) → slot_of_id j (slots_from 0 (set ps id p)) ≡ Some n
      → ((j ≡ id) × (p ≡ Some n)) ⊎ ((j ≢ id) × (slot_of_id j (slots_from 0 ps) ≡ Some n))
  either j n at = elim (cases_eq j id) [
    | inl same ↦ inl (same, sym at_same ∙ subst (λ (i : ℕ). slot_of_id i (slots_from 0 (set ps id p)) ≡ Some n) same at)
    | inr ne ↦ inr (ne, sym (at_other j ne) ∙ at)
  ]

-- A slot that fits is written to a place, and is apart from all that have other IDs.
module _ (id : ℕ) (m : MemorySlot) (ps : Places) (lt : id < length ps) (old : IsSlotSet (slots_from 0 ps))
    (guest : (j : ℕ) (n : MemorySlot) → j ≢ id → slot_of_id j (slots_from 0 ps) ≡ Some n → share_guest_frames m.slot n.slot ≡ false)
    (host : (j : ℕ) (n : MemorySlot) → j ≢ id → slot_of_id j (slots_from 0 ps) ≡ Some n → share_host_pages m.slot n.slot ≡ false) where
  guest_apart : (i j : ℕ) (a b : MemorySlot) → i ≢ j → slot_of_id i (slots_from 0 (set ps id (Some m))) ≡ Some a
      → slot_of_id j (slots_from 0 (set ps id (Some m))) ≡ Some b → share_guest_frames a.slot b.slot ≡ false
  guest_apart i j a b ne ai bj = elim (either id (Some m) ps lt i a ai) [
    | inl p ↦ elim (either id (Some m) ps lt j b bj) [
      | inl q ↦ absurd (ne (p.0 ∙ sym q.0))
      | inr q ↦ subst (λ (x : MemorySlot). share_guest_frames x.slot b.slot ≡ false) (same_Some m a p.1) (guest j b q.0 q.1)
    ]
    | inr p ↦ elim (either id (Some m) ps lt j b bj) [
      | inl q ↦
          subst (λ (x : MemorySlot). share_guest_frames a.slot x.slot ≡ false) (same_Some m b q.1)
          (flip (contains m.slot.base a.slot) (contains a.slot.base m.slot) (guest i a p.0 p.1))
      | inr q ↦ old.guest_apart i j a b ne p.1 q.1
    ]
  ]

  host_apart : (i j : ℕ) (a b : MemorySlot) → i ≢ j → slot_of_id i (slots_from 0 (set ps id (Some m))) ≡ Some a
      → slot_of_id j (slots_from 0 (set ps id (Some m))) ≡ Some b → share_host_pages a.slot b.slot ≡ false
  host_apart i j a b ne ai bj = elim (either id (Some m) ps lt i a ai) [
    | inl p ↦ elim (either id (Some m) ps lt j b bj) [
      | inl q ↦ absurd (ne (p.0 ∙ sym q.0))
      | inr q ↦ subst (λ (x : MemorySlot). share_host_pages x.slot b.slot ≡ false) (same_Some m a p.1) (host j b q.0 q.1)
    ]
    | inr p ↦ elim (either id (Some m) ps lt j b bj) [
      | inl q ↦
          subst (λ (x : MemorySlot). share_host_pages a.slot x.slot ≡ false) (same_Some m b q.1)
          (flip (has_host_page m.slot.host a.slot) (has_host_page a.slot.host m.slot) (host i a p.0 p.1))
      | inr q ↦ old.host_apart i j a b ne p.1 q.1
    ]
  ]

  written : id ≤ 31 → 1 ≤ m.slot.pages → m.slot.base + m.slot.pages ≤ 2 ^ 36 → IsSlotSet (slots_from 0 (set ps id (Some m)))
  written low some below = record {
    rising = IsStrictlyIncreasing-from_sorted (keys_of (slots_from 0 (set ps id (Some m)))) (rising 0 (set ps id (Some m)));
    ids = λ j n at. elim (either id (Some m) ps lt j n at) [ inl p ↦ subst (λ (i : ℕ). i ≤ 31) (sym p.0) low | inr q ↦ old.ids j n q.1 ];
    some =
        λ j n at. elim (either id (Some m) ps lt j n at) [
          | inl p ↦ subst (λ (x : MemorySlot). 1 ≤ x.slot.pages) (same_Some m n p.1) some
          | inr q ↦ old.some j n q.1
        ];
    below =
        λ j n at. elim (either id (Some m) ps lt j n at) [
          | inl p ↦ subst (λ (x : MemorySlot). x.slot.base + x.slot.pages ≤ 2 ^ 36) (same_Some m n p.1) below
          | inr q ↦ old.below j n q.1
        ];
    guest_apart = guest_apart;
    host_apart = host_apart;
  }

-- A condition that doesn't refuse doesn't hold.
row : (b : Bool) (r : Refusal) (rest : Option Refusal) → (if b then Some r else rest) ≡ None → (b ≡ false) × (rest ≡ None)
row true r rest e = cc
row false r rest e = (refl, e)

-- Where no condition refuses, none holds.
none_holds : (rows : List (Bool × Refusal)) → first_of rows ≡ None → AllByRecursion (λ r. r.0 ≡ false) rows
none_holds [] e = tt
none_holds ((holds, refusal) ∷ rows) e = let now = row holds refusal (first_of rows) e in (now.0, none_holds rows now.1)

-- What a slot that isn't refused meets, beside these slots.
pub record Passes (total id : ℕ) (slot : Slot) (slots : Slots) : Type 0 where
  pub low : id ≤ 31
  pub below : slot.base + slot.pages ≤ 2 ^ 36
  pub fits : slot.host + slot.pages ≤ total
  pub guest : meets_guest_frames id slot slots ≡ false
  pub host : meets_host_pages id slot slots ≡ false

by_parts : (total id : ℕ) (slot : Slot) (slots : Slots) → nat_lt 31 id ≡ false → is_too_large total slot ≡ false
    → meets_guest_frames id slot slots ≡ false → meets_host_pages id slot slots ≡ false → Passes total id slot slots
by_parts total id slot slots low large guest host =
    let ends = or_parts (nat_lt (2 ^ 36) (slot.base + slot.pages)) (nat_lt total (slot.host + slot.pages)) large in
    record {
      low = ltb-false 31 id low;
      below = ltb-false (2 ^ 36) (slot.base + slot.pages) ends.0;
      fits = ltb-false total (slot.host + slot.pages) ends.1;
      guest = guest;
      host = host;
    }

-- the conditions that refuse a slot
abbrev conditions : ℕ → ℕ → Slot → MemorySlots → List (Bool × Refusal)
conditions total id slot slots =
    (nat_lt 31 id, BadId)
    ∷ (is_too_large total slot, TooLarge)
    ∷ (is_some_and (resizes slot) (slot_with_id id (flat_slots slots)), Resize)
    ∷ (is_some_and (changes_fixed slot) (slot_with_id id (flat_slots slots)), Fixed)
    ∷ (is_some_and (moves_logged slot) (slot_of_id id slots), Logged)
    ∷ (meets_guest_frames id slot (flat_slots slots), Overlap)
    ∷ (meets_host_pages id slot (flat_slots slots), HostOverlap)
    ∷ []

pub passes : (total id : ℕ) (slot : Slot) (slots : MemorySlots) → set_refusal total id slot slots ≡ None → Passes total id slot (flat_slots slots)
passes total id slot slots e =
    let free = none_holds (conditions total id slot slots) e in
    by_parts total id slot (flat_slots slots) free.0 free.1.0 free.1.1.1.1.1.0 free.1.1.1.1.1.1.0

-- What the invariant says of an array of places.
abbrev pub AreSound : Places → Type 0
AreSound ps = (length ps ≡ 32) × IsSlotSet (slots_from 0 ps)

-- A slot that isn't refused is set.
pub set_sound : (total id : ℕ) (slot : Slot) (logged : Bool) (ps : Places) → AreSound ps → 1 ≤ slot.pages
    → set_refusal total id slot (slots_from 0 ps) ≡ None → AreSound (set ps id (Some (record { slot = slot; logged = logged })))
set_sound total id slot logged ps old some e =
    let p = passes total id slot (slots_from 0 ps) e in
    let low : id ≤ 31 = p.low in
    let lt : id < length ps = omega (arith, old.0) in
    let m : MemorySlot = record { slot = slot; logged = logged } in (
      length-set ps id (Some m) ∙ old.0,
      written id m ps lt old.1
          (λ j n ne at. other (j == id) (share_guest_frames slot n.slot) (ne_eqb j id ne)
          (none_passes (λ entry. not (entry.0 == id) && share_guest_frames slot entry.1) (slots_from 0 ps) j n p.guest at))
          (λ j n ne at. other (j == id) (share_host_pages slot n.slot) (ne_eqb j id ne)
          (none_passes (λ entry. not (entry.0 == id) && share_host_pages slot entry.1) (slots_from 0 ps) j n p.host at))
          low some p.below,
    )

-- A dirty log is set or taken away.
pub log_sound : (id : ℕ) (m : MemorySlot) (on : Bool) (ps : Places) → AreSound ps → slot_of_id id (slots_from 0 ps) ≡ Some m
    → AreSound (set ps id (Some (record { slot = m.slot; logged = on })))
log_sound id m on ps old at =
    let low : id ≤ 31 = old.1.ids id m at in
    let lt : id < length ps = omega (arith, old.0) in
    let after : MemorySlot = record { slot = m.slot; logged = on } in (
      length-set ps id (Some after) ∙ old.0,
      written id after ps lt old.1
          (λ j n ne other. old.1.guest_apart id j m n (λ e. ne (sym e)) at other)
          (λ j n ne other. old.1.host_apart id j m n (λ e. ne (sym e)) at other)
          low (old.1.some id m at) (old.1.below id m at),
    )

-- A slot is deleted.
pub delete_sound : (id : ℕ) (ps : Places) → AreSound ps → id ≤ 31 → AreSound (set ps id None)
delete_sound id ps old low =
    let lt : id < length ps = omega (arith, old.0) in
    let was : (j : ℕ) (n : MemorySlot) → slot_of_id j (slots_from 0 (set ps id None)) ≡ Some n → slot_of_id j (slots_from 0 ps) ≡ Some n =
    λ j n at. elim (either id None ps lt j n at) [ inl p ↦ absurd (none-some n p.1) | inr q ↦ q.1 ] in (
      length-set ps id None ∙ old.0,
      record {
        rising = IsStrictlyIncreasing-from_sorted (keys_of (slots_from 0 (set ps id None))) (rising 0 (set ps id None));
        ids = λ j n at. old.1.ids j n (was j n at);
        some = λ j n at. old.1.some j n (was j n at);
        below = λ j n at. old.1.below j n (was j n at);
        guest_apart = λ i j a b ne ai bj. old.1.guest_apart i j a b ne (was i a ai) (was j b bj);
        host_apart = λ i j a b ne ai bj. old.1.host_apart i j a b ne (was i a ai) (was j b bj);
      },
    )

-- A deletion that nothing refuses is of an ID that a set may have.
pub deletion_low : (id : ℕ) (slots : MemorySlots) → delete_refusal id slots ≡ None → id ≤ 31
deletion_low id slots accepted = by (nat_lt 31 id) refl accepted
  where
    by : (above : Bool) → nat_lt 31 id ≡ above
        → (if above then Some BadId else first_of ((is_none (slot_of_id id slots), Missing) ∷ (is_logged id slots, Logged) ∷ [])) ≡ None → id ≤ 31
    by true is accepted = absurd (cc accepted)
    by false is accepted = grind (arith, nat_tests)
