-- The slot of a set that has what is sought: the first live one that does.
use Rattle.std.proofs.Common.{◌≡◌, ◌≢◌, ◌<◌, ◌⊎◌, inl, inr, ℕ, zero, suc, [], ◌∷◌, ◌++◌, refl, ◌∙◌, arith}
use Rattle.std.specs.Prelude.{Bool, true, false, if◌then◌else◌, Some, None}
use Rattle.core_views.specs.declared.trace.Slot.{Slot}
use Rattle.core_views.specs.Slots.{Slots}
use Rattle.part_steps.specs.SlotWords.{live_at, slot_at, slots_below}
use Rattle.mmu_core.proofs.machine.Columns.{same_or}
use Rattle.memslots.specs.Finding.{NoneBefore, first_that}

-- a list of slots after another one
none_then : (test : Slot → Bool) (xs ys : Slots) → first_that test xs ≡ None → first_that test (xs ++ ys) ≡ first_that test ys
none_then test [] ys none = refl
none_then test (x ∷ xs) ys none = by (λ rest. none_then test xs ys rest) (test x.1) refl
  where
    by : (first_that test xs ≡ None → first_that test (xs ++ ys) ≡ first_that test ys) → (b : Bool) → test x.1 ≡ b
        → first_that test ((x ∷ xs) ++ ys) ≡ first_that test ys
    by then_ true e = let here = rw e at none in absurd (cc here)
    by then_ false e = let rest = rw e at none in rw e (then_ rest)

some_then : (test : Slot → Bool) (xs ys : Slots) (s : Slot) → first_that test xs ≡ Some s → first_that test (xs ++ ys) ≡ Some s
some_then test [] ys s some = absurd (cc some)
some_then test (x ∷ xs) ys s some = by (λ rest. some_then test xs ys s rest) (test x.1) refl
  where
    by : (first_that test xs ≡ Some s → first_that test (xs ++ ys) ≡ Some s) → (b : Bool) → test x.1 ≡ b → first_that test ((x ∷ xs) ++ ys) ≡ Some s
    by then_ true e = let here = rw e at some in rw e here
    by then_ false e = let rest = rw e at some in rw e (then_ rest)

-- one slot, where it is live
last_not : (test : Slot → Bool) (n : ℕ) (s : Slot) (b : Bool) → (b ≡ true → test s ≡ false) → first_that test (if b then (n, s) ∷ [] else []) ≡ None
last_not test n s true not_in = let e : test s ≡ false = not_in refl in rw e refl
last_not test n s false not_in = refl

pub none_of : (test : Slot → Bool) (pool : ℕ → ℕ) (set n : ℕ) → NoneBefore test pool set n → first_that test (slots_below pool set n) ≡ None
none_of test pool set zero none = refl
none_of test pool set (suc n) none =
    none_then test (slots_below pool set n) (if live_at pool set n then (n, slot_at pool set n) ∷ [] else [])
    (none_of test pool set n (λ i lt live. none i (omega arith) live))
    ∙ last_not test n (slot_at pool set n) (live_at pool set n) (none n (omega arith))

pub first_of : (test : Slot → Bool) (pool : ℕ → ℕ) (set id n : ℕ) → id < n → live_at pool set id ≡ true → test (slot_at pool set id) ≡ true
    → NoneBefore test pool set id → first_that test (slots_below pool set n) ≡ Some (slot_at pool set id)
first_of test pool set id zero lt live holds none = absurd (omega arith)
first_of test pool set id (suc n) lt live holds none = case (same_or n id) (λ less. first_of test pool set id n less live holds none)
  where
    case : (n ≡ id) ⊎ (n ≢ id) → (id < n → first_that test (slots_below pool set n) ≡ Some (slot_at pool set id))
        → first_that test (slots_below pool set (suc n)) ≡ Some (slot_at pool set id)
    case (inl e) before =
        rw (e) (none_then test (slots_below pool set id) (if live_at pool set id then (id, slot_at pool set id) ∷ [] else [])
        (none_of test pool set id none) ∙ rw (live, holds) refl)
    case (inr apart) before =
        some_then test (slots_below pool set n) (if live_at pool set n then (n, slot_at pool set n) ∷ [] else []) (slot_at pool set id)
        (before (omega arith))
