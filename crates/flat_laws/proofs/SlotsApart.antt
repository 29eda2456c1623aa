-- Sets of slots whose IDs rise and whose guest frames are apart: which slot has a guest frame, and what a lawful change of a slot keeps.
use Rattle.std.proofs.Common.{◌≡◌, ◌≢◌, ◌⊎◌, inl, inr, ◌+◌, ◌<◌, ◌≤◌, ◌==◌, ◌&&◌, ℕ, suc, Bool, true, false, not, [], ◌∷◌}
use Rattle.std.proofs.Common.{arith, refl, sym, ap, ◌∙◌, subst}
use Rattle.std.proofs.lemmas.Bool.{and_from, and_parts, cases_eq, cases_lt, cond-true, cond-false, or_parts}
use Rattle.std.proofs.lemmas.Bool.{eq-eqb, eqb-true, ltb-true, leb-true, lt-ltb, le-leb, ne_eqb}
use Rattle.std.proofs.lemmas.Option.{same_Some}
use Rattle.std.specs.Cmp.{ranks}
use Rattle.std.specs.List.{list_any}
use Rattle.std.specs.Ordering.{MatchOrdering, match_ordering, nat_cmp}
use Rattle.std.specs.declared.cmp.Ordering.{Ordering}
use Rattle.std.specs.declared.cmp.Ordering.TheVariants.{Less, Equal, Greater}
use Rattle.std.specs.Prelude.{Option, Some, None, if◌then◌else◌, nat_le, nat_lt}
use Rattle.core_views.specs.declared.memory_slot.MemorySlot.{MemorySlot}
use Rattle.core_views.specs.declared.trace.Slot.{Slot}
use Rattle.core_views.specs.Past.{has_gfn}
use Rattle.core_views.specs.Slots.{contains, share_guest_frames}
use Rattle.core_views.specs.SlotSets.{MemorySlots, changed_slots, flat_slots, slot_holding, slot_of_id, with_slot_at, without_slot_at}
use Rattle.core_views.proofs.SlotLines.{set_elsewhere, set_here, taken_at}

-- The IDs rise, from this one on.
abbrev pub RisesFrom : ℕ → MemorySlots → Type 0
RisesFrom k [] = Unit {0}
RisesFrom k ((j, m) ∷ es) = (k ≤ j) × RisesFrom (suc j) es

rises_below : (k l : ℕ) (es : MemorySlots) → l ≤ k → RisesFrom k es → RisesFrom l es
rises_below k l [] le rises = tt
rises_below k l ((j, m) ∷ es) le rises = (omega (arith, rises.0), rises.1)

set_rises : (k id : ℕ) (m : MemorySlot) (es : MemorySlots) → k ≤ id → RisesFrom k es → RisesFrom k (with_slot_at id m es)
set_rises k id m [] le rises = (le, tt)
set_rises k id m ((j, n) ∷ es) le rises = by (nat_cmp id j) (ranks id j) (λ above. set_rises (suc j) id m es above rises.1)
  where
    by : (o : Ordering) → MatchOrdering o (id < j) (id ≡ j) (j < id) → (suc j ≤ id → RisesFrom (suc j) (with_slot_at id m es))
        → RisesFrom k (match_ordering o ((id, m) ∷ (j, n) ∷ es) ((j, m) ∷ es) ((j, n) ∷ with_slot_at id m es))
    by Less is rest = (le, (omega (arith, is), rises.1))
    by Equal is rest = rises
    by Greater is rest = (rises.0, rest (omega (arith, is)))

taken_rises : (k id : ℕ) (es : MemorySlots) → RisesFrom k es → RisesFrom k (without_slot_at id es)
taken_rises k id [] rises = tt
taken_rises k id ((j, n) ∷ es) rises = by (j == id) (taken_rises (suc j) id es rises.1)
  where
    by : (b : Bool) → RisesFrom (suc j) (without_slot_at id es) → RisesFrom k (if not b then (j, n) ∷ without_slot_at id es else without_slot_at id es)
    by true rest = rises_below (suc j) k (without_slot_at id es) (omega (arith, rises.0)) rest
    by false rest = (rises.0, rest)

pub changed_rises : (id : ℕ) (slot : Option MemorySlot) (es : MemorySlots) → RisesFrom 0 es → RisesFrom 0 (changed_slots id slot es)
changed_rises id None es rises = taken_rises 0 id es rises
changed_rises id (Some m) es rises = set_rises 0 id m es (omega arith) rises

-- The slot that has a frame stands at its ID.
pub record Stands (k gfn j : ℕ) (m : MemorySlot) (es : MemorySlots) : Type 0 where
  pub from : k ≤ j
  pub there : slot_of_id j es ≡ Some m
  pub has : contains gfn m.slot ≡ true

pub holding_stands : (k gfn j : ℕ) (m : MemorySlot) (es : MemorySlots) → RisesFrom k es → slot_holding gfn es ≡ Some (j, m) → Stands k gfn j m es
holding_stands k gfn j m [] rises holds = absurd (cc holds)
holding_stands k gfn j m ((i, n) ∷ es) rises holds = by (contains gfn n.slot) refl holds (λ e. holding_stands (suc i) gfn j m es rises.1 e)
  where
    by : (b : Bool) → contains gfn n.slot ≡ b → (if b then Some (i, n) else slot_holding gfn es) ≡ Some (j, m)
        → (slot_holding gfn es ≡ Some (j, m) → Stands (suc i) gfn j m es) → Stands k gfn j m ((i, n) ∷ es)
    by true has e rest =
        let pair : ◌≡◌ {A = ℕ × MemorySlot} (i, n) (j, m) = same_Some (i, n) (j, m) e in
        let id : i ≡ j = ap (λ (p : ℕ × MemorySlot). p.0) pair in
        let slot : n ≡ m = ap (λ (p : ℕ × MemorySlot). p.1) pair in
        record {
          from = subst (λ x. k ≤ x) id rises.0;
          there = cond-true (i == j) (Some n) (slot_of_id j es) (eq-eqb i j id) ∙ ap Some slot;
          has = sym (ap (λ (x : MemorySlot). contains gfn x.slot) slot) ∙ has;
        }
    by false has e rest =
        let S = rest e in
        let above : i < j = S.from in
        record {
          from = omega (arith, rises.0, above);
          there = cond-false (i == j) (Some n) (slot_of_id j es) (ne_eqb i j (λ same. omega (arith, same, above))) ∙ S.there;
          has = S.has;
        }

-- Where a slot with the frame stands, one is found.
pub stands_held : (gfn j : ℕ) (m : MemorySlot) (es : MemorySlots) → slot_of_id j es ≡ Some m → contains gfn m.slot ≡ true
    → (e : ℕ × MemorySlot) × (slot_holding gfn es ≡ Some e)
stands_held gfn j m [] there has = absurd (cc there)
stands_held gfn j m ((i, n) ∷ es) there has = by (contains gfn n.slot) (i == j) refl there (λ at. stands_held gfn j m es at has)
  where
    by : (b same : Bool) → contains gfn n.slot ≡ b → (if same then Some n else slot_of_id j es) ≡ Some m
        → (slot_of_id j es ≡ Some m → (e : ℕ × MemorySlot) × (slot_holding gfn es ≡ Some e))
        → (e : ℕ × MemorySlot) × ((if b then Some (i, n) else slot_holding gfn es) ≡ Some e)
    by true same is at rest = ((i, n), refl)
    by false true is at rest =
        let slot : n ≡ m = same_Some n m at in let here = ap (λ (x : MemorySlot). contains gfn x.slot) slot ∙ has in absurd (cc (here, is))
    by false false is at rest = rest at

-- No guest frame is in two slots.
abbrev pub Apart : MemorySlots → Type 0
Apart es = (gfn i j : ℕ) (m n : MemorySlot) → slot_of_id i es ≡ Some m → slot_of_id j es ≡ Some n → contains gfn m.slot ≡ true → contains gfn n.slot ≡ true
    → i ≡ j

-- What stands at an ID after a change.
pub changed_here : (id : ℕ) (slot : Option MemorySlot) (es : MemorySlots) → slot_of_id id (changed_slots id slot es) ≡ slot
changed_here id None es = taken_at id id es ∙ cond-true (id == id) None (slot_of_id id es) (eq-eqb id id refl)
changed_here id (Some m) es = set_here id m es

pub changed_elsewhere : (id j : ℕ) (slot : Option MemorySlot) (es : MemorySlots) → j ≢ id → slot_of_id j (changed_slots id slot es) ≡ slot_of_id j es
changed_elsewhere id j None es apart = taken_at j id es ∙ cond-false (id == j) None (slot_of_id j es) (ne_eqb id j (λ e. apart (sym e)))
changed_elsewhere id j (Some m) es apart = set_elsewhere id j m es apart

-- The new slot has no frame of a slot with another ID.
abbrev pub FitsAt : ℕ → Option MemorySlot → MemorySlots → Type 0
FitsAt id slot es = (gfn j : ℕ) (n : MemorySlot) → j ≢ id → slot_of_id j es ≡ Some n → contains gfn n.slot ≡ true → has_gfn slot gfn ≡ true → ⊥

-- A slot that is there, after a change: it is the new one, or was there.
pub either : (id j : ℕ) (slot : Option MemorySlot) (n : MemorySlot) (es : MemorySlots) → slot_of_id j (changed_slots id slot es) ≡ Some n
    → ((j ≡ id) × (slot ≡ Some n)) ⊎ ((j ≢ id) × (slot_of_id j es ≡ Some n))
either id j slot n es at = by (cases_eq j id)
  where
    by : (j ≡ id) ⊎ (j ≢ id) → ((j ≡ id) × (slot ≡ Some n)) ⊎ ((j ≢ id) × (slot_of_id j es ≡ Some n))
    by (inl same) =
        inl (same, sym (changed_here id slot es) ∙ subst (λ x. slot_of_id x (changed_slots id slot es) ≡ Some n) same at)
    by (inr ne) = inr (ne, sym (changed_elsewhere id j slot es ne) ∙ at)

new_has : (gfn : ℕ) (slot : Option MemorySlot) (n : MemorySlot) → slot ≡ Some n → contains gfn n.slot ≡ true → has_gfn slot gfn ≡ true
new_has gfn slot n is has = ap (λ (o : Option MemorySlot). has_gfn o gfn) is ∙ has

pub changed_apart : (id : ℕ) (slot : Option MemorySlot) (es : MemorySlots) → FitsAt id slot es → Apart es → Apart (changed_slots id slot es)
changed_apart id slot es fits apart gfn i j m n at_i at_j has_m has_n = by (either id i slot m es at_i) (either id j slot n es at_j)
  where
    by : ((i ≡ id) × (slot ≡ Some m)) ⊎ ((i ≢ id) × (slot_of_id i es ≡ Some m)) → ((j ≡ id) × (slot ≡ Some n)) ⊎ ((j ≢ id) × (slot_of_id j es ≡ Some n))
        → i ≡ j
    by (inl p) (inl q) = p.0 ∙ sym q.0
    by (inl p) (inr q) = absurd (fits gfn j n q.0 q.1 has_n (new_has gfn slot m p.1 has_m))
    by (inr p) (inl q) = absurd (fits gfn i m p.0 p.1 has_m (new_has gfn slot n q.1 has_n))
    by (inr p) (inr q) = apart gfn i j m n p.1 q.1 has_m has_n

-- Two slots that have a frame in common share guest frames.
pub do_share : (gfn : ℕ) (a b : Slot) → contains gfn a ≡ true → contains gfn b ≡ true → share_guest_frames a b ≡ false → ⊥
do_share gfn a b in_a in_b none = by (cases_lt a.base b.base)
  where
    P : (nat_le a.base gfn ≡ true) × (nat_lt gfn (a.base + a.pages) ≡ true)
    P = and_parts (nat_le a.base gfn) (nat_lt gfn (a.base + a.pages)) in_a

    Q : (nat_le b.base gfn ≡ true) × (nat_lt gfn (b.base + b.pages) ≡ true)
    Q = and_parts (nat_le b.base gfn) (nat_lt gfn (b.base + b.pages)) in_b

    a_from : a.base ≤ gfn
    a_from = leb-true a.base gfn P.0

    a_to : gfn < a.base + a.pages
    a_to = ltb-true gfn (a.base + a.pages) P.1

    b_from : b.base ≤ gfn
    b_from = leb-true b.base gfn Q.0

    b_to : gfn < b.base + b.pages
    b_to = ltb-true gfn (b.base + b.pages) Q.1

    N : (contains a.base b ≡ false) × (contains b.base a ≡ false)
    N = or_parts (contains a.base b) (contains b.base a) none

    by : (a.base < b.base) ⊎ (b.base ≤ a.base) → ⊥
    by (inl lt) =
        let is : contains b.base a ≡ true =
        and_from (nat_le a.base b.base) (nat_lt b.base (a.base + a.pages)) (le-leb a.base b.base (omega (arith, lt)))
        (lt-ltb b.base (a.base + a.pages) (omega (arith, b_from, a_to))) in
        let out = N.1 in absurd (cc (is, out))
    by (inr le) =
        let is : contains a.base b ≡ true =
        and_from (nat_le b.base a.base) (nat_lt a.base (b.base + b.pages)) (le-leb b.base a.base le)
        (lt-ltb a.base (b.base + b.pages) (omega (arith, a_from, b_to))) in
        let out = N.0 in absurd (cc (is, out))

-- Where no slot with another ID meets this one, it fits at its ID.
flat_none : (test : ℕ × Slot → Bool) (es : MemorySlots) (j : ℕ) (n : MemorySlot) → list_any test (flat_slots es) ≡ false → slot_of_id j es ≡ Some n
    → test (j, n.slot) ≡ false
flat_none test [] j n none at = absurd (cc at)
flat_none test ((i, x) ∷ es) j n none at =
    by (i == j) refl at (λ e. flat_none test es j n (or_parts (test (i, x.slot)) (list_any test (flat_slots es)) none).1 e)
  where
    P : (test (i, x.slot) ≡ false) × (list_any test (flat_slots es) ≡ false)
    P = or_parts (test (i, x.slot)) (list_any test (flat_slots es)) none

    by : (b : Bool) → (i == j) ≡ b → (if b then Some x else slot_of_id j es) ≡ Some n → (slot_of_id j es ≡ Some n → test (j, n.slot) ≡ false)
        → test (j, n.slot) ≡ false
    by true same e rest =
        subst (λ y. test (y, n.slot) ≡ false) (eqb-true i j same) (subst (λ (y : MemorySlot). test (i, y.slot) ≡ false) (same_Some x n e) P.0)
    by false same e rest = rest e

pub meets_none : (id : ℕ) (slot : Slot) (logged : Bool) (es : MemorySlots)
    → list_any (λ entry. not (entry.0 == id) && share_guest_frames slot entry.1) (flat_slots es) ≡ false
    → FitsAt id (Some (record { slot = slot; logged = logged })) es
meets_none id slot logged es none gfn j n ne at has_n has =
    do_share gfn slot n.slot has has_n
    (other (j == id) (share_guest_frames slot n.slot) (ne_eqb j id ne)
    (flat_none (λ entry. not (entry.0 == id) && share_guest_frames slot entry.1) es j n none at))
  where
    other : (b s : Bool) → b ≡ false → (not b && s) ≡ false → s ≡ false
    other true s e h = absurd (cc e)
    other false s e h = h
