-- The manager alone retires a page, so one at most at a time.
use Rattle.std.proofs.Common.{◌≡◌, ◌<◌, ◌≤◌, ℕ, refl, sym, ap, ◌∙◌, arith}
use Rattle.std.specs.Prelude.{Bool, true, false, ◌==◌, Some}
use Rattle.std.proofs.lemmas.Bool.Decides.{Decides-eqb}
use Rattle.core_views.specs.declared.actor.Actor.TheVariants.{Manager}
use Rattle.core_views.specs.declared.sizes.Sizes.{Sizes}
use Rattle.core_views.specs.Held.{Held}
use Rattle.core_views.specs.Sizes.{actors_of, index_of}
use Rattle.mmu_core.specs.machine.Enabled.{mmu}
use Rattle.mmu_core.specs.invariant.Laws.{IsSound}
use Rattle.mmu_core.specs.machine.Machine.{World, hand_in}
use Rattle.mmu_core.specs.machine.Sums.{one_if, sum_below}
use Rattle.mmu_core.specs.invariant.TreePart.{Use}
use Rattle.mmu_core.specs.invariant.TreePart.Use.{OldSet}
use Rattle.mmu_core.proofs.pages.PoolPages.{some_retires}
use Rattle.mmu_laws.proofs.pool.Pigeonhole.{count_le, pigeonhole}
use Rattle.mmu_core.proofs.invariant.Kept.{manager_retires}

-- one place of a column at most is this one
pub one_number : (n it : ℕ) → sum_below n (λ k. one_if (it == k)) ≤ 1
one_number n it =
    omega (
      arith,
      pigeonhole n 1 (λ k. it == k) (λ k. 0) (λ index. true) (λ k lt is. (omega arith, refl))
          (λ k l is be same. sym ((Decides-eqb it k).0 is) ∙ (Decides-eqb it l).0 be),
      count_le 1 (λ index. true),
    )

-- The page is an old slot set.
abbrev pub is_old : Use → Bool
is_old (OldSet i) = true
is_old _ = false

old_of : (u : Use) → is_old u ≡ true → (i : ℕ) × (u ≡ OldSet i)
old_of (OldSet i) is = (i, refl)
old_of _ is = absurd (cc is)

-- One page of the pool is retired at most.
pub one_left : (z : Sizes) (w : World Held) (G : IsSound z w) → sum_below z.pool (λ k. one_if (is_old (G.topics.up k))) ≤ 1
one_left z w G = omega (
  arith,
  pigeonhole z.pool 1 (λ k. is_old (G.topics.up k)) (λ k. 0) (λ index. true) (λ k lt is. (omega arith, refl)) (λ k l is be same. one k l is be),
  count_le 1 (λ index. true),
)
  where
    manager : (i k : ℕ) → i < actors_of z → (hand_in mmu w i).topics.retired ≡ Some k → i ≡ index_of z Manager
    manager i k lt is =
        let O = G.holds.lines i lt in
        sym O.index ∙ ap (index_of z) (manager_retires z i k (hand_in mmu w i) O (G.holds.knows i lt) (G.holds.leaves i lt) is)

    page_of_manager : (k : ℕ) → is_old (G.topics.up k) ≡ true → (hand_in mmu w (index_of z Manager)).topics.retired ≡ Some k
    page_of_manager k is =
        let old = old_of (G.topics.up k) is in
        let leaves = some_retires G.topics.uses old.0 k old.1 in
        ap (λ i. (hand_in mmu w i).topics.retired) (sym (manager old.0 k leaves.0 leaves.1)) ∙ leaves.1

    one : (k l : ℕ) → is_old (G.topics.up k) ≡ true → is_old (G.topics.up l) ≡ true → k ≡ l
    one k l is be = let same = sym (page_of_manager k is) ∙ page_of_manager l be in cc same
