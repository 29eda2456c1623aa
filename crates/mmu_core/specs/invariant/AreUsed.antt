-- What each thing of a kind is used for: a page of the pool, or a frame of the host.
use Rattle.std.specs.Prelude.{◌≡◌, ℕ, Bool, false, ◌==◌, ◌&&◌, nat_lt, Option, Some, None}

-- Of each number `use_of` says what the thing is used for. Words and hands tell of each use which things have it; two uses are one where `is_same` says so. A
-- thing has a use exactly where it is told to have it, so it has exactly one.
abbrev pub AreUsed : (U : Type 0) → (U → U → Bool) → (U → ℕ → Bool) → (ℕ → U) → Type 0
AreUsed U is_same is_told use_of = (use_ : U) (k : ℕ) → is_told use_ k ≡ is_same use_ (use_of k)

-- What a place holds, if it holds one, is thing k.
abbrev pub is_number : {X : Type 0} → (X → ℕ) → Option X → ℕ → Bool
is_number number None k = false
is_number number (Some x) k = number x == k

-- The place i, of n, of a column of hands or words has thing k, which `has` tells of what is at a place.
abbrev pub has_at : {X : Type 0} → (X → ℕ → Bool) → ℕ → (ℕ → X) → ℕ → ℕ → Bool
has_at has n column i k = nat_lt i n && has (column i) k
