-- What each thing is used for, by what is told of it; and where one passes from a use to another.
use Rattle.std.proofs.Common.{◌≡◌, ℕ, refl, sym, ap, ◌∙◌}
use Rattle.std.specs.Prelude.{Bool, true, false}
use Rattle.mmu_core.specs.invariant.AreUsed.{AreUsed}
use Rattle.mmu_core.specs.machine.View.{upd}
use Rattle.mmu_core.proofs.machine.Columns.{at_upd, upd_other, upd_same}
use Rattle.mmu_core.proofs.machine.ColumnsTell.{row_after}

-- what is told of each use, once a thing has passed from one to another
abbrev pub told_after : {U : Type 0} → (U → U → Bool) → (U → ℕ → Bool) → ℕ → U → U → U → ℕ → Bool
told_after is_same is_told k from to use_ = row_after (is_same use_ from) (is_same use_ to) k (is_told use_)

module _ {U : Type 0} {is_same : U → U → Bool} {is_told : U → ℕ → Bool} {use_of : ℕ → U} (same_is : (u w : U) → is_same u w ≡ true → w ≡ u)
    (A : AreUsed U is_same is_told use_of) where
  -- A thing that is told to have a use has it.
  pub has_use : (u : U) (k : ℕ) → is_told u k ≡ true → use_of k ≡ u
  has_use u k is = same_is u (use_of k) (sym (A u k) ∙ is)

  -- What is told of a thing that has a use: this one, and no other.
  pub told_so : (k : ℕ) (w : U) → use_of k ≡ w → (u : U) → is_told u k ≡ is_same u w
  told_so k w is u = A u k ∙ ap (is_same u) is

  -- A thing passes from a use to another.
  pub passes : (k : ℕ) (from to : U) → use_of k ≡ from → is_same from to ≡ false
      → AreUsed U is_same (told_after is_same is_told k from to) (upd use_of k to)
  passes k from to is apart u = by u (is_same u from) (is_same u to) refl refl
    where
      by : (u : U) (leaves comes : Bool) → is_same u from ≡ leaves → is_same u to ≡ comes → (l : ℕ)
          → row_after leaves comes k (is_told u) l ≡ is_same u (upd use_of k to l)
      by u true comes had has =
          at_upd (λ l w. upd (is_told u) k false l ≡ is_same u w) use_of k to
          (upd_same (is_told u) k false ∙ sym (ap (λ v. is_same v to) (sym (same_is u from had)) ∙ apart))
          (λ l ne. upd_other (is_told u) k l false ne ∙ A u l)
      by u false true had has =
          at_upd (λ l w. upd (is_told u) k true l ≡ is_same u w) use_of k to (upd_same (is_told u) k true ∙ sym has)
          (λ l ne. upd_other (is_told u) k l true ne ∙ A u l)
      by u false false had has =
          at_upd (λ l w. is_told u l ≡ is_same u w) use_of k to (told_so k from is u ∙ had ∙ sym has) (λ l ne. A u l)
