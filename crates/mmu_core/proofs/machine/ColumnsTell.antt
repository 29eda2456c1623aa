-- What a column of hands or words tells of things: which place has one, and which after one place of the column changes.
use Rattle.std.proofs.Common.{◌≡◌, ◌≢◌, ◌⊎◌, inl, inr, ◌<◌, ◌≤◌, ℕ, refl, sym, subst, ap, ◌∙◌, arith}
use Rattle.std.specs.Prelude.{Bool, true, false, ◌==◌, ◌&&◌, nat_le, nat_lt, if◌then◌else◌, Option, Some, None, is_some}
use Rattle.std.proofs.lemmas.Bool.Decides.{nat_tests}
use Rattle.mmu_core.specs.invariant.AreUsed.{has_at, is_number}
use Rattle.mmu_core.specs.machine.View.{upd}
use Rattle.mmu_core.proofs.machine.Columns.{same_or, upd_other, upd_same}

-- A number is itself, and no other one.
pub itself : (k : ℕ) → (k == k) ≡ true
itself k = grind (arith, nat_tests)

pub other : (k l : ℕ) → k ≢ l → (k == l) ≡ false
other k l apart = grind (arith, nat_tests)

pub tells : (k l : ℕ) → (k == l) ≡ true → k ≡ l
tells k l is = grind (arith, nat_tests)

pub among : (i n : ℕ) → i < n → nat_lt i n ≡ true
among i n lt = grind (arith, nat_tests)

pub among_tells : (i n : ℕ) → nat_lt i n ≡ true → i < n
among_tells i n is = grind (arith, nat_tests)

pub is_outside : (k end_ : ℕ) → end_ ≤ k → nat_le end_ k ≡ true
is_outside k end_ le = grind (arith, nat_tests)

pub outside_tells : (k end_ : ℕ) → nat_le end_ k ≡ true → end_ ≤ k
outside_tells k end_ is = grind (arith, nat_tests)

pub no_outside : (k end_ : ℕ) → k < end_ → nat_le end_ k ≡ false
no_outside k end_ lt = grind (arith, nat_tests)

pub inside_tells : (k end_ : ℕ) → nat_le end_ k ≡ false → k < end_
inside_tells k end_ is = grind (arith, nat_tests)

pub both : (a b : Bool) → (a && b) ≡ true → (a ≡ true) × (b ≡ true)
both true b is = (refl, is)
both false b is = absurd (cc is)

pub some_is : {X : Type 0} (x : Option X) → is_some x ≡ true → (o : X) × (x ≡ Some o)
some_is None some = absurd (cc some)
some_is (Some o) some = (o, refl)

-- ---- which place has a thing

-- A place tells of what is there; and one that hasn't the thing, or is past the last one, doesn't tell it.
pub at_place : {X : Type 0} (has : X → ℕ → Bool) (n : ℕ) (column : ℕ → X) (i k : ℕ) {x : X} → i < n → column i ≡ x → has_at has n column i k ≡ has x k
at_place has n column i k lt is = ap (λ b. b && has (column i) k) (among i n lt) ∙ ap (λ x. has x k) is

pub at_none : {X : Type 0} (has : X → ℕ → Bool) (n : ℕ) (column : ℕ → X) (i k : ℕ) → (i < n → has (column i) k ≡ false) → has_at has n column i k ≡ false
at_none has n column i k none = by (nat_lt i n) refl
  where
    by : (b : Bool) → nat_lt i n ≡ b → (b && has (column i) k) ≡ false
    by false is = refl
    by true is = none (among_tells i n is)

-- And back.
pub at_tells : {X : Type 0} (has : X → ℕ → Bool) (n : ℕ) (column : ℕ → X) (i k : ℕ) → has_at has n column i k ≡ true → (i < n) × (has (column i) k ≡ true)
at_tells has n column i k is = let e = both (nat_lt i n) (has (column i) k) is in (among_tells i n e.0, e.1)

-- What is held at the place that has a thing.
pub record HeldAt (X : Type 0) (number : X → ℕ) (n : ℕ) (column : ℕ → Option X) (i k : ℕ) : Type 0 where
  pub there : i < n
  pub held : X
  pub is : column i ≡ Some held
  pub of_number : number held ≡ k

pub held_at : {X : Type 0} (number : X → ℕ) (n : ℕ) (column : ℕ → Option X) (i k : ℕ) → has_at (is_number number) n column i k ≡ true
    → HeldAt X number n column i k
held_at {X} number n column i k is = let e = at_tells (is_number number) n column i k is in by (column i) refl e.0 e.1
  where
    by : (x : Option X) → column i ≡ x → i < n → is_number number x k ≡ true → HeldAt X number n column i k
    by None at there is = absurd (cc is)
    by (Some x) at there is = record { there = there; held = x; is = at; of_number = tells (number x) k is }

-- ---- one place of the column changes

-- what is told of a use, once a thing has left it, or come to it
abbrev pub row_after : Bool → Bool → ℕ → (ℕ → Bool) → ℕ → Bool
row_after leaves comes k row = if leaves then upd row k false else if comes then upd row k true else row

-- A place that held no thing holds one; one that held it holds none; and one that had one has another.
pub one_more : (k l : ℕ) → (k == l) ≡ upd (λ m. false) k true l
one_more k l = grind (arith, nat_tests)

pub one_less : (k l : ℕ) → false ≡ upd (λ m. k == m) k false l
one_less k l = grind (arith, nat_tests)

pub one_for : (old k l : ℕ) → (k == l) ≡ upd (upd (λ m. old == m) old false) k true l
one_for old k l = grind (arith, nat_tests)

module _ {X : Type 0} (has : X → ℕ → Bool) (n : ℕ) (column : ℕ → X) (a : ℕ) (new_ : X) {x : X} (lt : a < n) (had : column a ≡ x) where
  -- What the place makes of what it tells, it makes of what the column tells at it.
  pub place_turns : (row : Bool → (ℕ → Bool) → ℕ → Bool) → ((k : ℕ) → has new_ k ≡ row true (has x) k) → ((r : ℕ → Bool) (k : ℕ) → row false r k ≡ r k)
      → (i k : ℕ) → has_at has n (upd column a new_) i k ≡ row (i == a) (has_at has n column i) k
  place_turns row here elsewhere i k = by (same_or i a)
    where
      by : (i ≡ a) ⊎ (i ≢ a) → has_at has n (upd column a new_) i k ≡ row (i == a) (has_at has n column i) k
      by (inl e) =
          subst (λ j. has_at has n (upd column a new_) j k ≡ row (j == a) (has_at has n column j) k) (sym e)
          (at_place has n (upd column a new_) a k lt (upd_same column a new_) ∙ here k
          ∙ ap (λ r. row true r k) (λ t l. sym (at_place has n column a l lt had) t) ∙ sym (ap (λ b. row b (has_at has n column a) k) (itself a)))
      by (inr ne) =
          ap (λ v. nat_lt i n && has v k) (upd_other column a i new_ ne)
          ∙ sym (ap (λ b. row b (has_at has n column i) k) (other i a ne) ∙ elsewhere (has_at has n column i) k)

  -- A thing comes to the place; it leaves it; and the place tells what it told.
  pub place_comes : (p : ℕ) → ((k : ℕ) → has new_ k ≡ upd (has x) p true k) → (i k : ℕ)
      → has_at has n (upd column a new_) i k ≡ row_after false (i == a) p (has_at has n column i) k
  place_comes p here = place_turns (λ b. row_after false b p) here (λ r k. refl)

  pub place_leaves : (p : ℕ) → ((k : ℕ) → has new_ k ≡ upd (has x) p false k) → (i k : ℕ)
      → has_at has n (upd column a new_) i k ≡ row_after (i == a) false p (has_at has n column i) k
  place_leaves p here = place_turns (λ b. row_after b false p) here (λ r k. refl)

  pub place_stays : ((k : ℕ) → has new_ k ≡ has x k) → (i k : ℕ) → has_at has n (upd column a new_) i k ≡ has_at has n column i k
  place_stays here = place_turns (λ b r. r) here (λ r k. refl)
