-- Sums over the actors, and over any places from 0 on.
use Rattle.std.specs.Prelude.{◌+◌, ℕ, zero, suc, Bool, if◌then◌else◌}

-- what the places below n contribute together
abbrev pub sum_below : ℕ → (ℕ → ℕ) → ℕ
sum_below zero f = 0
sum_below (suc n) f = sum_below n f + f n

-- 1 where it holds
abbrev pub one_if : Bool → ℕ
one_if b = if b then 1 else 0
