-- The board of a machine, and the pass with all its hands.
use Rattle.std.proofs.Common.{◌≡◌, ◌<◌, ℕ, List, Some, arith, length, map, refl, subst, sym}
use Rattle.core_views.specs.declared.sizes.Sizes.{Sizes}
use Rattle.hands.specs.declared.hand.Closing.{Closing}
use Rattle.core_views.specs.Held.{Handful}
use Rattle.spte_words.specs.Areas.{total}
use Rattle.part_steps.specs.Tasks.{map_of}
use Rattle.mmu_core.specs.machine.Enabled.{mmu}
use Rattle.mmu_core.proofs.machine.Sized.{as_many_as_mapped}
use Rattle.step_seats.specs.Machines.{IsMachine}
use Rattle.step_seats.specs.Moves.{HasItsRoom, no_hand, world_of}
use Rattle.table_seats.specs.Rule.{first_view}
use Rattle.table_seats.specs.Passes.{IsPass}
use Rattle.table_seats.proofs.HandLists.{all_held, at_below}
use Rattle.table_seats.proofs.Runs.{at_or}
use Rattle.table_seats.proofs.Sits.{sits_first}
use Rattle.table_seats.proofs.Places.{cores-all}

-- The root is a word.
some_in_all : (z : Sizes) → 0 < total (map_of z)
unfolding total
some_in_all z = omega arith

-- A machine has words.
pub some_words : (z : Sizes) (words : List ℕ) (hands : List Handful) → IsMachine z words hands → 0 < length words
some_words z words hands m =
    let r = m.reached in
    let n = as_many_as_mapped r.sizes r.lines r.start (world_of words hands) r.is_start r.leads in
    let s = some_in_all r.sizes in omega (arith, n, s)

-- The first pass.
pub first_pass : (z : Sizes) (words : List ℕ) (hands : List Handful) → IsMachine z words hands
    → IsPass (first_view (world_of words hands)) (map Some hands)
first_pass z words hands m = record {
  live = refl;
  cores = cores-all hands;
  sits = sits_first mmu (world_of words hands);
  start = m.reached;
  rooms = λ a h holds.
      let has = all_held hands a h holds in
      subst (λ (x : Handful). HasItsRoom x.core x.room) (at_or hands a h no_hand has) (m.room a (at_below hands a h has));
}

-- The words and hands with which a board begins are the machine's.
pub begins : (z : Sizes) (words : List ℕ) (hands : List Handful) (start : Closing) → IsMachine z words hands → start.words ≡ words → start.hands ≡ hands
    → IsMachine z start.words start.hands
begins z words hands start m a b = subst (λ (x : List ℕ × List Handful). IsMachine z x.0 x.1) (λ i. (sym a i, sym b i)) m
