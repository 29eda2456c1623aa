-- The slots of a set, one ID after the other.
use Rattle.std.proofs.Common.{◌≡◌, ◌<◌, ◌≤◌, ◌+◌, ◌-◌, ◌^◌, ◌==◌, nat_le, nat_lt, ℕ, suc, [], ◌∷◌, ◌++◌, Bool, true, false, cond}
use Rattle.std.proofs.Common.{refl, sym, ap, ap₂, arith, subst, ◌∙◌}
use Rattle.std.proofs.Common.{append_assoc, append-nil}
use Rattle.std.proofs.lemmas.Bool.{eq-eqb, eqb-true}
use Rattle.std.proofs.lemmas.Bool.Decides.{nat_tests}
use Rattle.std.proofs.lemmas.List.Elements.{All-cons, All-head, All-nil, All-tail}
use Rattle.std.proofs.lemmas.List.Kept.{AllPairs-from_increasing}
use Rattle.std.proofs.lemmas.Option.{same_Some}
use Rattle.std.specs.List.{AllPairs}
use Rattle.std.specs.Map.{keys_of, values_of}
use Rattle.std.specs.Prelude.{All, Some, None, filter}
use Rattle.core_views.specs.declared.memory_slot.MemorySlot.{MemorySlot}
use Rattle.core_views.specs.SlotSets.{IsSlotSet, MemorySlots, flat_slots, slot_of_id}
use Rattle.flat_model.specs.Copying.{FitsIn}
use Rattle.flat_model.specs.Steps.{AreSlotsOf, IsSlotOf}

-- those from this ID on
abbrev pub from_id : ℕ → MemorySlots → MemorySlots
from_id n slots = filter (λ e. nat_le n e.0) slots

-- The IDs rise.
abbrev pub AreRising : MemorySlots → Type 0
AreRising es = AllPairs (λ x y. x < y) (keys_of es)

pub are_rising : (es : MemorySlots) → IsSlotSet es → AreRising es
are_rising es S = AllPairs-from_increasing (keys_of es) S.rising

rising_tail : (e : ℕ × MemorySlot) (es : MemorySlots) → AreRising (e ∷ es) → AreRising es
rising_tail e es pairs = λ i j d lt low. pairs (suc i) (suc j) d (omega (arith, lt)) (omega (arith, low))

rising_head : (e : ℕ × MemorySlot) (es : MemorySlots) → AreRising (e ∷ es) → All (λ k. e.0 < k) (keys_of es)
rising_head e es pairs = λ j d low. pairs 0 (suc j) d (omega arith) (omega (arith, low))

-- The ID that stands first is that of its slot.
pub first_there : (e : ℕ × MemorySlot) (es : MemorySlots) → slot_of_id e.0 (e ∷ es) ≡ Some e.1
first_there e es = ap (λ (b : Bool). cond b (Some e.1) (slot_of_id e.0 es)) (eq-eqb e.0 e.0 refl)

-- Behind greater IDs none is found.
none_above : (n : ℕ) (es : MemorySlots) → All (λ k. n < k) (keys_of es) → slot_of_id n es ≡ None
none_above n [] all = refl
none_above n (e ∷ es) all =
    let lt : n < e.0 = All-head (λ k. n < k) e.0 (keys_of es) all in
    let apart : (e.0 == n) ≡ false = grind (arith, nat_tests, lt) in
    ap (λ (b : Bool). cond b (Some e.1) (slot_of_id n es)) apart ∙ none_above n es (All-tail (λ k. n < k) e.0 (keys_of es) all)

-- Those from an ID on, where the next one is that of no slot, or of one.
abbrev kept : ℕ × MemorySlot → Bool → MemorySlots → MemorySlots
kept e b es = cond b (e ∷ es) es

pub none_at : (n : ℕ) (es : MemorySlots) → slot_of_id n es ≡ None → from_id n es ≡ from_id (n + 1) es
none_at n [] is = refl
none_at n (e ∷ es) is = by (e.0 == n) refl is (none_at n es)
  where
    by : (b : Bool) → (e.0 == n) ≡ b → cond b (Some e.1) (slot_of_id n es) ≡ None
        → (slot_of_id n es ≡ None → from_id n es ≡ from_id (n + 1) es) → from_id n (e ∷ es) ≡ from_id (n + 1) (e ∷ es)
    by true here found rest = absurd (cc found)
    by false here found rest =
        let same : nat_le n e.0 ≡ nat_le (n + 1) e.0 = grind (arith, nat_tests, here) in
        ap₂ (kept e) same (rest found)

above_alike : (n : ℕ) (es : MemorySlots) → All (λ k. n < k) (keys_of es) → from_id n es ≡ from_id (n + 1) es
above_alike n es all = none_at n es (none_above n es all)

pub some_at : (n : ℕ) (m : MemorySlot) (es : MemorySlots) → AreRising es → slot_of_id n es ≡ Some m → from_id n es ≡ (n, m) ∷ from_id (n + 1) es
some_at n m [] rising is = absurd (cc is)
some_at n m (e ∷ es) rising is = by (e.0 == n) (nat_lt e.0 n) refl refl is (some_at n m es (rising_tail e es rising))
  where
    by : (here low : Bool) → (e.0 == n) ≡ here → nat_lt e.0 n ≡ low → cond here (Some e.1) (slot_of_id n es) ≡ Some m
        → (slot_of_id n es ≡ Some m → from_id n es ≡ (n, m) ∷ from_id (n + 1) es)
        → from_id n (e ∷ es) ≡ (n, m) ∷ from_id (n + 1) (e ∷ es)
    by true low here below found rest =
        let same : e.0 ≡ n = eqb-true e.0 n here in
        let first : nat_le n e.0 ≡ true = grind (arith, nat_tests, same) in
        let later : nat_le (n + 1) e.0 ≡ false = grind (arith, nat_tests, same) in
        let slot : e.1 ≡ m = same_Some e.1 m found in
        let whole : e ≡ (n, m) = λ i. (same i, slot i) in
        let above : All (λ k. n < k) (keys_of es) = subst (λ k. All (λ j. k < j) (keys_of es)) same (rising_head e es rising) in
        ap (λ (b : Bool). kept e b (from_id n es)) first
        ∙ ap₂ (λ (x : ℕ × MemorySlot) (xs : MemorySlots). x ∷ xs) whole (above_alike n es above)
        ∙ sym (ap (λ (b : Bool). (n, m) ∷ kept e b (from_id (n + 1) es)) later)
    by false true here below found rest =
        let first : nat_le n e.0 ≡ false = grind (arith, nat_tests, below) in
        let later : nat_le (n + 1) e.0 ≡ false = grind (arith, nat_tests, below) in
        ap (λ (b : Bool). kept e b (from_id n es)) first ∙ rest found
        ∙ sym (ap (λ (b : Bool). (n, m) ∷ kept e b (from_id (n + 1) es)) later)
    by false false here below found rest =
        let lt : n < e.0 = grind (arith, nat_tests, here, below) in
        let above : All (λ k. n < k) (keys_of es) = λ j d low. let further = rising_head e es rising j d low in omega (arith, lt, further) in
        absurd (let none = none_above n es above in cc (found, none))

-- All IDs lie below 32.
pub none_from : (es : MemorySlots) → ((id : ℕ) (m : MemorySlot) → slot_of_id id es ≡ Some m → id ≤ 31) → from_id 32 es ≡ []
none_from [] ids = refl
none_from (e ∷ es) ids =
    let low : e.0 ≤ 31 = ids e.0 e.1 (first_there e es) in
    let test : nat_le 32 e.0 ≡ false = grind (arith, nat_tests, low) in
    ap (λ (b : Bool). kept e b (from_id 32 es)) test ∙ none_from es later
  where
    later : (id : ℕ) (m : MemorySlot) → slot_of_id id es ≡ Some m → id ≤ 31
    later id m is = by (e.0 == id) refl
      where
        by : (b : Bool) → (e.0 == id) ≡ b → id ≤ 31
        by true here = ids id e.1 (ap (λ (b : Bool). cond b (Some e.1) (slot_of_id id es)) here)
        by false here = ids id m (ap (λ (b : Bool). cond b (Some e.1) (slot_of_id id es)) here ∙ is)

pub all_from : (es : MemorySlots) → from_id 0 es ≡ es
all_from [] = refl
all_from (e ∷ es) =
    let test : nat_le 0 e.0 ≡ true = grind (arith, nat_tests) in
    ap (λ (b : Bool). kept e b (from_id 0 es)) test ∙ ap (λ (xs : MemorySlots). e ∷ xs) (all_from es)

-- One more of them.
pub one_more : (done : MemorySlots) (n : ℕ) (m : MemorySlot) (es : MemorySlots) → AreRising es → slot_of_id n es ≡ Some m → done ++ from_id n es ≡ es
    → (done ++ (n, m) ∷ []) ++ from_id (n + 1) es ≡ es
one_more done n m es rising is whole =
    append_assoc done ((n, m) ∷ []) (from_id (n + 1) es) ∙ sym (ap (λ (xs : MemorySlots). done ++ xs) (some_at n m es rising is)) ∙ whole

pub none_more : (done : MemorySlots) (n : ℕ) (es : MemorySlots) → slot_of_id n es ≡ None → done ++ from_id n es ≡ es → done ++ from_id (n + 1) es ≡ es
none_more done n es is whole = sym (ap (λ (xs : MemorySlots). done ++ xs) (none_at n es is)) ∙ whole

pub all_found : (done : MemorySlots) (n : ℕ) (es : MemorySlots) → IsSlotSet es → n ≡ 32 → done ++ from_id n es ≡ es → done ≡ es
all_found done n es S end whole =
    sym (append-nil done) ∙ sym (ap (λ (xs : MemorySlots). done ++ xs) (ap (λ k. from_id k es) end ∙ none_from es S.ids)) ∙ whole

-- ---- each is found at its ID

-- The set has each of these slots at its ID.
abbrev pub AreTheirs : MemorySlots → MemorySlots → Type 0
AreTheirs whole [] = Unit {0}
AreTheirs whole (e ∷ es) = (slot_of_id e.0 whole ≡ Some e.1) × AreTheirs whole es

theirs : (whole es : MemorySlots) → AreRising es → ((id : ℕ) (m : MemorySlot) → slot_of_id id es ≡ Some m → slot_of_id id whole ≡ Some m)
    → AreTheirs whole es
theirs whole [] rising leads = tt
theirs whole (e ∷ es) rising leads = (leads e.0 e.1 (first_there e es), theirs whole es (rising_tail e es rising) later)
  where
    later : (id : ℕ) (m : MemorySlot) → slot_of_id id es ≡ Some m → slot_of_id id whole ≡ Some m
    later id m is = by (e.0 == id) refl
      where
        by : (b : Bool) → (e.0 == id) ≡ b → slot_of_id id whole ≡ Some m
        by true here =
            let same : e.0 ≡ id = eqb-true e.0 id here in
            let none = none_above id es (subst (λ k. All (λ j. k < j) (keys_of es)) same (rising_head e es rising)) in
            absurd (cc (is, none))
        by false here = leads id m (ap (λ (b : Bool). cond b (Some e.1) (slot_of_id id es)) here ∙ is)

pub all_theirs : (es : MemorySlots) → IsSlotSet es → AreTheirs es es
all_theirs es S = theirs es es (are_rising es S) (λ id m is. is)

-- ---- their host pages

pub all_fit : (pages : ℕ) (es : MemorySlots) → pages < 2 ^ 64 → AreSlotsOf pages (flat_slots es) → All (FitsIn (2 ^ 64 - 1)) es
all_fit pages [] few all = All-nil (FitsIn (2 ^ 64 - 1))
all_fit pages (e ∷ es) few all =
    let own = (All-head (IsSlotOf pages) e.1.slot (values_of (flat_slots es)) all).host in
    All-cons (FitsIn (2 ^ 64 - 1)) e es (record { fits = omega (arith, own, few) })
    (all_fit pages es few (All-tail (IsSlotOf pages) e.1.slot (values_of (flat_slots es)) all))
