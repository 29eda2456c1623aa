-- Sums over a column that changes at one place, and the frames of a part.
use Rattle.std.proofs.Common.{◌≡◌, ◌≢◌, ◌⊎◌, inl, inr, ◌+◌, ◌<◌, ◌≤◌, ℕ, zero, suc, refl, sym, subst, ap, ◌∙◌, arith}
use Rattle.std.specs.Prelude.{Bool, true, false}
use Rattle.mmu_core.specs.machine.Sums.{one_if, sum_below}
use Rattle.mmu_core.specs.machine.View.{upd}
use Rattle.mmu_core.proofs.machine.Columns.{at_upd, same_or, upd_other, upd_same}

-- a place from n on is no part of the sum
pub sum_behind : {X : Type 0} (g : X → ℕ) (n : ℕ) (f : ℕ → X) (a : ℕ) (x : X) → n ≤ a → sum_below n (λ i. g (upd f a x i)) ≡ sum_below n (λ i. g (f i))
sum_behind g zero f a x le = refl
sum_behind g (suc n) f a x le =
    let ne : n ≢ a = omega arith in
    let e : g (upd f a x n) ≡ g (f n) = ap g (upd_other f a n x ne) in
    omega (arith, sum_behind g n f a x (omega arith), e)

-- the sum moves by what the one place contributes
pub sum_upd : {X : Type 0} (g : X → ℕ) (n : ℕ) (f : ℕ → X) (a : ℕ) (x : X) → a < n
    → sum_below n (λ i. g (upd f a x i)) + g (f a) ≡ sum_below n (λ i. g (f i)) + g x
sum_upd g zero f a x lt = omega arith
sum_upd {X} g (suc n) f a x lt = here (λ l. sum_upd g n f a x l) (same_or n a)
  where
    here : (a < n → sum_below n (λ i. g (upd f a x i)) + g (f a) ≡ sum_below n (λ i. g (f i)) + g x) → (n ≡ a) ⊎ (n ≢ a)
        → sum_below (suc n) (λ i. g (upd f a x i)) + g (f a) ≡ sum_below (suc n) (λ i. g (f i)) + g x
    here ih (inl e) =
        let d : g (upd f a x n) ≡ g x = ap (λ j. g (upd f a x j)) e ∙ ap g (upd_same f a x) in
        let d2 : g (f n) ≡ g (f a) = ap (λ j. g (f j)) e in
        omega (arith, d, d2, sum_behind g n f a x (omega arith))
    here ih (inr ne) = let d : g (upd f a x n) ≡ g (f n) = ap g (upd_other f a n x ne) in omega (arith, d, ih (omega arith))

-- where no place contributes more than 1, the sum is n at most
pub sum_le : (n : ℕ) (f : ℕ → ℕ) → ((i : ℕ) → f i ≤ 1) → sum_below n f ≤ n
sum_le zero f each = omega arith
sum_le (suc n) f each = omega (arith, sum_le n f each, each n)

-- a place is no more than the whole
pub sum_ge : (n : ℕ) (f : ℕ → ℕ) (i : ℕ) → i < n → f i ≤ sum_below n f
sum_ge zero f i lt = omega arith
sum_ge (suc n) f i lt = here (λ l. sum_ge n f i l) (same_or i n)
  where
    here : (i < n → f i ≤ sum_below n f) → (i ≡ n) ⊎ (i ≢ n) → f i ≤ sum_below (suc n) f
    here ih (inl e) = let d : f i ≡ f n = ap f e in omega (arith, d)
    here ih (inr ne) = omega (arith, ih (omega arith))

-- two places together are no more than the whole
pub sum_two : (n : ℕ) (f : ℕ → ℕ) (i j : ℕ) → i < n → j < n → i ≢ j → f i + f j ≤ sum_below n f
sum_two zero f i j lt lt2 ne = omega arith
sum_two (suc n) f i j lt lt2 ne = here (λ l l2. sum_two n f i j l l2 ne) (same_or i n) (same_or j n)
  where
    here : (i < n → j < n → f i + f j ≤ sum_below n f) → (i ≡ n) ⊎ (i ≢ n) → (j ≡ n) ⊎ (j ≢ n) → f i + f j ≤ sum_below (suc n) f
    here ih (inl e) (inl e2) = absurd (ne (e ∙ sym e2))
    here ih (inl e) (inr ne2) = let d : f i ≡ f n = ap f e in omega (arith, d, sum_ge n f j (omega arith))
    here ih (inr ne2) (inl e) = let d : f j ≡ f n = ap f e in omega (arith, d, sum_ge n f i (omega arith))
    here ih (inr ne2) (inr ne3) = omega (arith, ih (omega arith) (omega arith))

pub sum_mono : (n : ℕ) (f g : ℕ → ℕ) → ((i : ℕ) → f i ≤ g i) → sum_below n f ≤ sum_below n g
sum_mono zero f g each = omega arith
sum_mono (suc n) f g each = omega (arith, sum_mono n f g each, each n)

-- where no place contributes, the sum is 0
pub sum_none : (n : ℕ) (f : ℕ → ℕ) → ((i : ℕ) → i < n → f i ≡ 0) → sum_below n f ≡ 0
sum_none zero f each = refl
sum_none (suc n) f each = omega (arith, sum_none n f (λ i lt. each i (omega arith)), each n (omega arith))

-- where the sum isn't 0, some place contributes
pub record Contributes (n : ℕ) (f : ℕ → ℕ) : Type 0 where
  pub at : ℕ
  pub below : at < n
  pub more : f at ≢ 0

pub sum_some : (n : ℕ) (f : ℕ → ℕ) → sum_below n f ≢ 0 → Contributes n f
sum_some zero f some = absurd (some refl)
sum_some (suc n) f some = here (λ more. sum_some n f more) (same_or (f n) 0)
  where
    here : (sum_below n f ≢ 0 → Contributes n f) → (f n ≡ 0) ⊎ (f n ≢ 0) → Contributes (suc n) f
    here ih (inl none) = let C = ih (λ e. some (omega (arith, e, none))) in let lt = C.below in record { at = C.at; below = omega (arith, lt); more = C.more }
    here ih (inr more) = record { at = n; below = omega arith; more = more }

-- where one place alone contributes, the sum is what it contributes at most
pub sum_only : (n : ℕ) (f : ℕ → ℕ) (m : ℕ) → ((i : ℕ) → i < n → i ≢ m → f i ≡ 0) → sum_below n f ≤ f m
sum_only zero f m none = omega arith
sum_only (suc n) f m none = here (same_or n m) (λ fewer. sum_only n f m (λ i lt ne. none i (omega arith) ne))
  where
    here : (n ≡ m) ⊎ (n ≢ m) → (Unit {0} → sum_below n f ≤ f m) → sum_below (suc n) f ≤ f m
    here (inl e) ih =
        let before = sum_none n f (λ i lt. none i (omega arith) (λ is. omega (arith, lt, is, e))) in
        let d : f n ≡ f m = ap f e in
        omega (arith, before, d)
    here (inr ne) ih = let last = none n (omega arith) ne in omega (arith, last, ih tt)

pub one_small : (b : Bool) → one_if b ≤ 1
one_small true = omega arith
one_small false = omega arith

-- A field that the new hand keeps is kept as a whole column.
pub column : {X Y : Type 0} (g : X → Y) (f : ℕ → X) (a : ℕ) (x : X) → g x ≡ g (f a) → ◌≡◌ {A = ℕ → Y} (λ i. g (upd f a x i)) (λ i. g (f i))
column g f a x e = λ t i. at i t
  where
    at : (i : ℕ) → g (upd f a x i) ≡ g (f i)
    at i = here (same_or i a)
      where
        here : (i ≡ a) ⊎ (i ≢ a) → g (upd f a x i) ≡ g (f i)
        here (inl p) = ap (λ j. g (upd f a x j)) p ∙ ap g (upd_same f a x) ∙ e ∙ ap (λ j. g (f j)) (sym p)
        here (inr p) = ap g (upd_other f a i x p)

-- A field of the new hand is one place of the field's column.
pub column_upd : {X Y : Type 0} (g : X → Y) (f : ℕ → X) (a : ℕ) (x : X) → ◌≡◌ {A = ℕ → Y} (λ i. g (upd f a x i)) (upd (λ i. g (f i)) a (g x))
column_upd g f a x = λ t i. at i t
  where
    at : (i : ℕ) → g (upd f a x i) ≡ upd (λ j. g (f j)) a (g x) i
    at = at_upd (λ i y. g y ≡ upd (λ j. g (f j)) a (g x) i) f a x (sym (upd_same (λ j. g (f j)) a (g x))) (λ i ne. sym (upd_other (λ j. g (f j)) a i (g x) ne))

-- a column whose value at the place is as it was
pub upd_id : {X : Type 0} (f : ℕ → X) (a : ℕ) → ◌≡◌ {A = ℕ → X} (upd f a (f a)) f
upd_id {X} f a = column (λ (y : X). y) f a (f a) refl

-- The frame of any part: the fields that it names, as one value of a hand, are kept by the new hand.
pub framed : {X Y : Type 0} (P : (ℕ → Y) → Type 0) (g : X → Y) (f : ℕ → X) (a : ℕ) (x : X) → g x ≡ g (f a) → P (λ i. g (f i)) → P (λ i. g (upd f a x i))
framed P g f a x e = subst P (sym (column g f a x e))
