-- What is free among frames that were given up, and those that no page has named yet.
use Rattle.std.proofs.Common.{◌≡◌, ◌<◌, ◌==◌, ◌&&◌, ◌||◌, not, nat_le, ℕ, List, [], ◌∷◌, Bool, true, false, cond, arith, suc}
use Rattle.std.proofs.lemmas.Bool.Decides.{nat_tests}
use Rattle.std.specs.BTreeMap.{is_at}
use Rattle.std.specs.List.{list_any}
use Rattle.std.specs.Ordering.{nat_cmp}
use Rattle.std.specs.Prelude.{All}

pub is_at_is : (frame x : ℕ) → is_at (nat_cmp frame) x ≡ (x == frame)
is_at_is frame x = grind (arith, nat_tests)

-- A frame that was given up lies below a bound of them all.
pub given_up_below : (frame bound : ℕ) (frames : List ℕ) → All (λ x. x < bound) frames → list_any (is_at (nat_cmp frame)) frames ≡ true → frame < bound
given_up_below frame bound [] all e = absurd (cc e)
given_up_below frame bound (x ∷ xs) all e =
    by (is_at (nat_cmp frame) x) (is_at_is frame x) e (all 0 x (omega arith)) (λ r. given_up_below frame bound xs (λ k d lt. all (suc k) d (omega arith)) r)
  where
    by : (b : Bool) → b ≡ (x == frame) → (b || list_any (is_at (nat_cmp frame)) xs) ≡ true → x < bound
        → (list_any (is_at (nat_cmp frame)) xs ≡ true → frame < bound) → frame < bound
    by true same e here later = grind (arith, nat_tests, same)
    by false same e here later = later e

-- What is left once a frame was taken from those that were given up.
pub taken_of_given : (frame unused other : ℕ) (was now : Bool) → now ≡ cond (is_at (nat_cmp frame) other) false was → frame < unused
    → (now || nat_le unused other) ≡ (not (other == frame) && (was || nat_le unused other))
taken_of_given frame unused other was now is below = grind (arith, nat_tests, is_at_is frame other, is, below)
