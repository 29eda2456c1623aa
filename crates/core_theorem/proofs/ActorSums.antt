-- Sums over the actors, of what their hands come to.
use Rattle.std.proofs.Common.{◌≡◌, ◌≢◌, ◌⊎◌, inl, inr, ◌+◌, ◌<◌, ◌≤◌, ℕ, zero, suc, refl, ap, arith}
use Rattle.core_views.specs.declared.kind.Kind.{Kind}
use Rattle.core_views.specs.declared.sizes.Sizes.{Sizes}
use Rattle.core_views.specs.Held.{Held}
use Rattle.core_views.specs.Sizes.{actors_of}
use Rattle.mmu_core.specs.machine.Enabled.{mmu}
use Rattle.mmu_core.specs.machine.Machine.{Step, World, effect, hand_in}
use Rattle.mmu_core.specs.machine.Sums.{sum_below}
use Rattle.mmu_core.proofs.machine.Columns.{same_or}
use Rattle.mmu_core.proofs.held.ClaimGoes.{others_hand}

pub sum_plus : (n : ℕ) (f g : ℕ → ℕ) → sum_below n (λ i. f i + g i) ≡ sum_below n f + sum_below n g
sum_plus zero f g = refl
sum_plus (suc n) f g = omega (arith, sum_plus n f g)

-- Where two columns differ at one place alone, so do their sums.
pub sum_same : (n : ℕ) (f g : ℕ → ℕ) → ((i : ℕ) → i < n → g i ≡ f i) → sum_below n g ≡ sum_below n f
sum_same zero f g same = refl
sum_same (suc n) f g same = omega (arith, sum_same n f g (λ i lt. same i (omega (arith, lt))), same n (omega arith))

pub sum_one : (n : ℕ) (f g : ℕ → ℕ) (a : ℕ) → a < n → ((i : ℕ) → i ≢ a → g i ≡ f i) → sum_below n g + f a ≡ sum_below n f + g a
sum_one zero f g a lt same = absurd (omega (arith, lt))
sum_one (suc n) f g a lt same = by (same_or n a) (λ below. sum_one n f g a below same)
  where
    by : (n ≡ a) ⊎ (n ≢ a) → (a < n → sum_below n g + f a ≡ sum_below n f + g a) → sum_below (suc n) g + f a ≡ sum_below (suc n) f + g a
    by (inl e) ih =
        let rest = sum_same n f g (λ i below. same i (λ is. omega (arith, below, is, e))) in
        let at_f : f n ≡ f a = ap f e in
        let at_g : g n ≡ g a = ap g e in
        omega (arith, rest, at_f, at_g)
    by (inr ne) ih = let rest = ih (omega (arith, lt, ne)) in let here = same n ne in omega (arith, rest, here)

pub sum_few : (n : ℕ) (f g : ℕ → ℕ) → ((i : ℕ) → i < n → f i ≤ g i) → sum_below n f ≤ sum_below n g
sum_few zero f g each = omega arith
sum_few (suc n) f g each = omega (arith, sum_few n f g (λ i lt. each i (omega (arith, lt))), each n (omega arith))

-- what the hands come to together
abbrev pub sum_of : Sizes → (Held → ℕ) → World Held → ℕ
sum_of z f u = sum_below (actors_of z) (λ i. f (hand_in mmu u i))

-- A step moves the sum by what it makes of its actor's hand.
pub sum_moves : (z : Sizes) (f : Held → ℕ) (u : World Held) (s : Step Kind) → s.actor < actors_of z
    → sum_of z f (effect mmu u s) + f (hand_in mmu u s.actor) ≡ sum_of z f u + f (hand_in mmu (effect mmu u s) s.actor)
sum_moves z f u s there =
    sum_one (actors_of z) (λ i. f (hand_in mmu u i)) (λ i. f (hand_in mmu (effect mmu u s) i)) s.actor there (λ i ne. ap f (others_hand u s i ne))
