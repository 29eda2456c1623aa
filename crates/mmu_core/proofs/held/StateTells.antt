-- What the state word of an actor tells of where it is, and at which place the actor stands.
use Rattle.std.proofs.Common.{◌≡◌, ◌<◌, ◌%◌, ℕ, length, sym, subst, ap, ◌∙◌, arith}
use Rattle.std.specs.Prelude.{not}
use Rattle.std.proofs.Math.Logic.{∥∥₁_elim}
use Rattle.std.proofs.Props.{props}
use Rattle.std.proofs.lemmas.Bool.Decides.{nat_tests}
use Rattle.core_views.specs.declared.sizes.Sizes.{Sizes}
use Rattle.core_views.specs.declared.topics.Stay.{Stay}
use Rattle.core_views.specs.declared.topics.Stay.TheVariants.{Outside}
use Rattle.core_views.specs.Held.{Held}
use Rattle.core_views.specs.Sizes.{actors_of, index_of}
use Rattle.spte_words.specs.declared.area.Area.TheVariants as area
use Rattle.mmu_core.specs.machine.Enabled.{mmu}
use Rattle.mmu_core.specs.invariant.Laws.{IsSound}
use Rattle.mmu_core.specs.machine.Machine.{World, hand_in}
use Rattle.part_steps.specs.PartTasks.{own_index}
use Rattle.mmu_core.specs.invariant.StatesPart.{stay_bits}
use Rattle.part_steps.specs.StayTopics.{is_outside}
use Rattle.part_steps.specs.ControlBits.{in_section}
use Rattle.mmu_core.specs.machine.View.{word_in}
use Rattle.mmu_core.specs.machine.Worlds.{Reachable}
use Rattle.mmu_core.proofs.start.Starts.{reached_good}

bit_tells : (x : ℕ) (stay : Stay) → x < 8 → x % 4 ≡ stay_bits stay → in_section x ≡ not (is_outside stay)
bit_tells x Outside lt is = grind (arith, nat_tests)
bit_tells x _ lt is = grind (arith, nat_tests)

-- Bit 1 of an actor's state word is clear exactly where the actor is outside.
pub word_tells : (z : Sizes) (w : World Held) (i : ℕ) → IsSound z w → i < actors_of z
    → in_section (word_in z w area.State i) ≡ not (is_outside (hand_in mmu w i).topics.stay)
word_tells z w i G there = let S = G.topics.states_part i there in bit_tells (word_in z w area.State i) (hand_in mmu w i).topics.stay S.0 S.1

-- The same in a reachable world, whose sizes are those of each of its hands.
pub state_tells : (w : World Held) (i : ℕ) → ∥ Reachable w ∥₁ → i < length w.hands
    → in_section (word_in (hand_in mmu w i).state.sizes w area.State i) ≡ not (is_outside (hand_in mmu w i).topics.stay)
state_tells w i reached there = ∥∥₁_elim reached (hlevel props) (λ r.
    let G = reached_good w r in
    let lt = subst (λ n. i < n) G.hands there in
    subst (λ (y : Sizes). in_section (word_in y w area.State i) ≡ not (is_outside (hand_in mmu w i).topics.stay)) (sym (G.holds.lines i lt).sizes)
    (word_tells r.sizes w i G lt))

-- A hand's actor stands at the place of the hand.
pub own_place : (w : World Held) (i : ℕ) → ∥ Reachable w ∥₁ → i < length w.hands → own_index (hand_in mmu w i) ≡ i
own_place w i reached there = ∥∥₁_elim reached (hlevel props) (λ r.
    let G = reached_good w r in
    let O = G.holds.lines i (subst (λ n. i < n) G.hands there) in
    ap (λ (y : Sizes). index_of y (hand_in mmu w i).state.actor) O.sizes ∙ O.index)
