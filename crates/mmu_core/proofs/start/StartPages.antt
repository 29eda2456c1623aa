-- What each page of the pool is at the start.
use Rattle.std.proofs.Common.{◌≡◌, ◌<◌, ◌≤◌, ℕ, zero, suc, refl, sym, arith}
use Rattle.std.specs.Prelude.{Bool, true, false, nat_le, if◌then◌else◌, Some, None}
use Rattle.mmu_core.specs.invariant.TreePart.{Position, Use, at, is_table, stands}
use Rattle.mmu_core.specs.invariant.TreePart.Use.{Free, Outside, Root, SlotSet, Under}
use Rattle.mmu_core.proofs.machine.ColumnsTell.{inside_tells, outside_tells}
use Rattle.mmu_core.proofs.pages.Standing.{one_position}

-- Page 0 is the root, page 1 the published slot set, each other one of the pool is free.
abbrev pub start_up : ℕ → ℕ → Use
start_up pages zero = Root
start_up pages (suc zero) = SlotSet
start_up pages (suc (suc k)) = if nat_le pages (suc (suc k)) then Outside else Free

abbrev pub start_spot : ℕ → Position
start_spot k = at 4 0

-- What is so of a use, where it is so of each that a page may have at the start.
pub each_page : (pages k : ℕ) (IsSo : Use → Type 0) → (k ≡ 0 → IsSo Root) → (k ≡ 1 → IsSo SlotSet) → (2 ≤ k → k < pages → IsSo Free)
    → (2 ≤ k → pages ≤ k → IsSo Outside) → IsSo (start_up pages k)
each_page pages zero IsSo root set free outside = root refl
each_page pages (suc zero) IsSo root set free outside = set refl
each_page pages (suc (suc k)) IsSo root set free outside = by (nat_le pages (suc (suc k))) refl
  where
    by : (b : Bool) → nat_le pages (suc (suc k)) ≡ b → IsSo (if b then Outside else Free)
    by true is = outside (omega arith) (outside_tells (suc (suc k)) pages is)
    by false is = free (omega arith) (inside_tells (suc (suc k)) pages is)

-- So the root alone stands as a table, and no page is owned or leaves.
pub root_only : (pages k : ℕ) (p : Position) → stands (start_up pages) start_spot k ≡ Some p → (0 ≡ k) × (at 4 0 ≡ p)
root_only pages k p =
    each_page pages k (λ u. (if is_table u then Some (at 4 0) else None) ≡ Some p → (0 ≡ k) × (at 4 0 ≡ p)) (λ e is. (sym e, one_position is))
    (λ e is. absurd (cc is)) (λ low lt is. absurd (cc is)) (λ low le is. absurd (cc is))

pub only_zero : (pages k : ℕ) → start_up pages k ≡ Root → k ≡ 0
only_zero pages k =
    each_page pages k (λ u. u ≡ Root → k ≡ 0) (λ e is. e) (λ e is. absurd (cc is)) (λ low lt is. absurd (cc is)) (λ low le is. absurd (cc is))

pub none_under : (pages c k j : ℕ) → start_up pages c ≡ Under k j → ⊥
none_under pages c k j =
    each_page pages c (λ u. u ≡ Under k j → ⊥) (λ e is. absurd (cc is)) (λ e is. absurd (cc is)) (λ low lt is. absurd (cc is)) (λ low le is. absurd (cc is))
