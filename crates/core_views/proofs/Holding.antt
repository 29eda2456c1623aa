-- At most one slot of a set contains a guest frame, and a look-up finds it.
use Rattle.std.proofs.Common.{◌≡◌, ◌+◌, ◌==◌, ◌&&◌, ◌||◌, inl, inr, nat_le, nat_lt, ℕ, Bool, true, false, cond, [], ◌∷◌, arith, refl, sym, subst, ◌∙◌}
use Rattle.std.proofs.lemmas.Bool.{cases_eq, cases_lt, cond-false, cond-true, eq-eqb, eqb-true, false≢true, ne_eqb}
use Rattle.std.proofs.lemmas.Bool.Decides.{nat_tests}
use Rattle.std.proofs.lemmas.Option.{none-some, same_Some}
use Rattle.std.specs.Prelude.{Option, Some, None, find}
use Rattle.core_views.specs.Slots.{contains}
use Rattle.core_views.specs.declared.memory_slot.MemorySlot.{MemorySlot}
use Rattle.core_views.specs.SlotSets.{IsSlotSet, MemorySlots, slot_of_id, slot_holding}
use Rattle.core_views.specs.Places.{Places, none_below, slots_from}
use Rattle.core_views.proofs.Sound.{by_test}

-- Two slots that contain one guest frame have a guest frame in common.
inside : (gfn a m b n : ℕ) → (nat_le a gfn && nat_lt gfn (a + m)) ≡ true → (nat_le b gfn && nat_lt gfn (b + n)) ≡ true
    → ((nat_le b a && nat_lt a (b + n)) || (nat_le a b && nat_lt b (a + m))) ≡ true
inside gfn a m b n p q = grind (arith, nat_tests, p, q)

-- What a search finds passes its test, and is the slot with its ID.
finds : (test : ℕ × MemorySlot → Bool) (k : ℕ) (ps : Places) (e : ℕ × MemorySlot) → find test (slots_from k ps) ≡ Some e
    → (test e ≡ true) × (slot_of_id e.0 (slots_from k ps) ≡ Some e.1)
finds test k [] e f = cc
finds test k (None ∷ ps) e f = finds test (k + 1) ps e f
finds test k (Some m ∷ ps) e f = elim (by_test (test (k, m)) (k, m) e (find test (slots_from (k + 1) ps)) f) [
  | inl p ↦ (
    subst (λ (x : ℕ × MemorySlot). test x ≡ true) p.1 p.0,
    subst (λ (x : ℕ × MemorySlot). slot_of_id x.0 ((k, m) ∷ slots_from (k + 1) ps) ≡ Some x.1) p.1
        (cond-true (k == k) (Some m) (slot_of_id k (slots_from (k + 1) ps)) (eq-eqb k k refl)),
  )
  | inr q ↦
      let later = finds test (k + 1) ps e q in (
        later.0,
        elim (cases_lt e.0 (k + 1)) [
          | inl early ↦ absurd (none-some e.1 (sym (none_below e.0 (k + 1) ps early) ∙ later.1))
          | inr late ↦ cond-false (k == e.0) (Some m) (slot_of_id e.0 (slots_from (k + 1) ps)) (ne_eqb k e.0 (λ d. omega (arith, late))) ∙ later.1
        ],
      )
]

-- Where a search finds nothing, the slot with an ID doesn't pass its test.
misses : (test : ℕ × MemorySlot → Bool) (es : MemorySlots) (j : ℕ) (n : MemorySlot) → find test es ≡ None → slot_of_id j es ≡ Some n → test (j, n) ≡ true → ⊥
misses test [] j n f at holds = cc
misses test ((k, x) ∷ es) j n f at holds = elim (by_test (k == j) x n (slot_of_id j es) at) [
  | inl p ↦
      let passes : test (k, x) ≡ true =
      subst (λ (y : MemorySlot). test (k, y) ≡ true) (sym p.1) (subst (λ (i : ℕ). test (i, n) ≡ true) (sym (eqb-true k j p.0)) holds) in
      none-some (k, x) (sym f ∙ cond-true (test (k, x)) (Some (k, x)) (find test es) passes)
  | inr q ↦ misses test es j n (past (test (k, x)) (k, x) (find test es) f) q holds
] where
  past : (b : Bool) (e : ℕ × MemorySlot) (rest : Option (ℕ × MemorySlot)) → cond b (Some e) rest ≡ None → rest ≡ None
  past true e rest f = cc
  past false e rest f = f

-- The slot with an ID that contains the guest frame is the one that is found.
pub only : (gfn : ℕ) (ps : Places) → IsSlotSet (slots_from 0 ps) → (id : ℕ) (m : MemorySlot) → slot_of_id id (slots_from 0 ps) ≡ Some m
    → contains gfn m.slot ≡ true → slot_holding gfn (slots_from 0 ps) ≡ Some (id, m)
only gfn ps sound id m at holds = by_found (slot_holding gfn (slots_from 0 ps)) refl where
  by_found : (r : Option (ℕ × MemorySlot)) → slot_holding gfn (slots_from 0 ps) ≡ r → r ≡ Some (id, m)
  by_found None f = absurd (misses (λ entry. contains gfn entry.1.slot) (slots_from 0 ps) id m f at holds)
  by_found (Some e) f =
      let it = finds (λ entry. contains gfn entry.1.slot) 0 ps e f in
      elim (cases_eq e.0 id) [
        | inl same ↦
            let slot : e.1 ≡ m = same_Some e.1 m (sym (subst (λ (i : ℕ). slot_of_id i (slots_from 0 ps) ≡ Some e.1) same it.1) ∙ at) in
            rw (← same, ← slot) refl
        | inr ne ↦
            let apart = sound.guest_apart e.0 id e.1 m ne it.1 at in
            let meet = inside gfn e.1.slot.base e.1.slot.pages m.slot.base m.slot.pages it.0 holds in
            absurd (false≢true (sym apart ∙ meet))
      ]
