-- What follows where a test or a step of a reading gave this value.
use Rattle.std.proofs.Common.{◌≡◌, ◌⊎◌, ◌&&◌, ◌==◌, inl, inr, ℕ, List, ◌∷◌, Bool, true, false, Result, Ok, Err, cond, refl}
use Rattle.std.specs.Str.{bytes_eq}
use Rattle.std.proofs.lemmas.Bool.{eq-eqb}
use Rattle.std.proofs.lemmas.Slice.Eq.{bytes_eq-Decides}
use Rattle.trace_reader.specs.declared.reason.Reason.{Reason}
use Rattle.trace_reader.specs.Operands.{◌>>=◌}

pub branch : {A : Type 0} (b : Bool) (x y z : A) → cond b x y ≡ z → ((b ≡ true) × (x ≡ z)) ⊎ ((b ≡ false) × (y ≡ z))
branch true x y z e = inl (refl, e)
branch false x y z e = inr (refl, e)

pub bind_ok : {A B : Type 0} (r : Result A Reason) (f : A → Result B Reason) (y : B) → (r >>= f) ≡ Ok y → (x : A) × (r ≡ Ok x) × (f x ≡ Ok y)
bind_ok (Ok x) f y e = (x, refl, e)
bind_ok (Err r) f y e = cc

-- The same, with what follows as a function of what the step gave.
pub then_ok : {A B G : Type 0} (r : Result A Reason) (f : A → Result B Reason) (y : B) → (r >>= f) ≡ Ok y → ((x : A) → r ≡ Ok x → f x ≡ Ok y → G) → G
then_ok (Ok x) f y e more = more x refl e
then_ok (Err r) f y e more = absurd (let no : ⊥ = cc in no)

pub both : (a b : Bool) → (a && b) ≡ true → (a ≡ true) × (b ≡ true)
both true b e = (refl, e)
both false b e = cc

pub word_is : (w v : List ℕ) → bytes_eq w v ≡ true → w ≡ v
word_is w v e = (bytes_eq-Decides w v).0 e

pub is_word : (w v : List ℕ) → w ≡ v → bytes_eq w v ≡ true
is_word w v e = (bytes_eq-Decides w v).1 e

-- Lists with two first elements differ.
pub heads_differ : (a b : ℕ) (xs ys : List ℕ) → (a == b) ≡ false → a ∷ xs ≡ b ∷ ys → ⊥
heads_differ a b xs ys e is =
    let same : a ≡ b = cc in
    let t : (a == b) ≡ true = eq-eqb a b same in
    cc

pub other_word : (w v : List ℕ) → (w ≡ v → ⊥) → bytes_eq w v ≡ false
other_word w v never = by (bytes_eq w v) refl
  where
    by : (b : Bool) → bytes_eq w v ≡ b → b ≡ false
    by true e = absurd (never (word_is w v e))
    by false e = refl

pub differs : (w v : List ℕ) → bytes_eq w v ≡ false → w ≡ v → ⊥
differs w v e same = let t : bytes_eq w v ≡ true = is_word w v same in cc

-- Lists that are the same have the same first two elements, and the same after them.
pub parts_same : {A : Type 0} (a b c d : A) (xs ys : List A) → a ∷ b ∷ xs ≡ c ∷ d ∷ ys → (a ≡ c) × (b ≡ d) × (xs ≡ ys)
parts_same a b c d xs ys e = (cc, cc, cc)
