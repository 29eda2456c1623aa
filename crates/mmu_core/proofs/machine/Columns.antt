-- A column with another value at one place.
use Rattle.std.proofs.Common.{◌≡◌, ◌≢◌, ◌⊎◌, inl, inr, ℕ, sym, subst, arith, eqb}
use Rattle.std.specs.Prelude.{true, false}
use Rattle.std.proofs.lemmas.Bool.Decides.{nat_tests, eqb_tells}
use Rattle.mmu_core.specs.machine.View.{upd}

pub upd_same : {X : Type 0} (f : ℕ → X) (a : ℕ) (x : X) → upd f a x a ≡ x
upd_same f a x = grind (arith, nat_tests)

pub upd_other : {X : Type 0} (f : ℕ → X) (a i : ℕ) (x : X) → i ≢ a → upd f a x i ≡ f i
upd_other f a i x ne = grind (arith, nat_tests)

pub same_or : (i a : ℕ) → (i ≡ a) ⊎ (i ≢ a)
same_or i a = case (eqb_tells i a)
  where
    case : ((eqb i a ≡ true) × (i ≡ a)) ⊎ ((eqb i a ≡ false) × (i ≢ a)) → (i ≡ a) ⊎ (i ≢ a)
    case (inl p) = inl p.1
    case (inr p) = inr p.1

-- what holds of the new value at its place, and of each old value elsewhere, holds of the column
pub at_upd : {X : Type 0} (P : ℕ → X → Type 0) (f : ℕ → X) (a : ℕ) (x : X) → P a x → ((i : ℕ) → i ≢ a → P i (f i)) → (i : ℕ) → P i (upd f a x i)
at_upd P f a x here there i = case (same_or i a)
  where
    case : (i ≡ a) ⊎ (i ≢ a) → P i (upd f a x i)
    case (inl p) = subst (λ j. P j (upd f a x j)) (sym p) (subst (P a) (sym (upd_same f a x)) here)
    case (inr p) = subst (P i) (sym (upd_other f a i x p)) (there i p)
