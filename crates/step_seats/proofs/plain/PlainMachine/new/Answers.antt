use Rattle.step_seats.specs.Moves.{world_of}
use Rattle.core_views.proofs.HeaderSizes.{header_sizes}
use Rattle.mmu_core.specs.machine.Worlds.{IsStart}
use Rattle.core_views.specs.declared.sizes.Sizes.{Sizes}
use Rattle.core_views.specs.Sizes.{AreSizes}
use Rattle.std.proofs.Common.{subst, sym}
use Rattle.step_seats.proofs.Starts.{machine_at_start, start_of}
use Rattle.step_seats.proofs.plain.PlainMachine.new.Goals as goal

pub invariant_of-result : goal.invariant_of-result
invariant_of-result c =
    machine_at_start c.args.trace.now c.of-sizes.result c.in_ok-words.words.items c.in_ok-hands.hands.items c.requires.trace c.of-sizes.ensures
    c.in_ok-words.ensures (rw c.as_slice.ensures at c.in_ok-hands.ensures)

pub start_words-requires : goal.start_words-requires
start_words-requires c = subst AreSizes (sym c.of-sizes.ensures) (header_sizes c.args.trace.now.header c.requires.trace.header)

pub start_hands-requires : goal.start_hands-requires
start_hands-requires c = subst AreSizes (sym c.of-sizes.ensures) (header_sizes c.args.trace.now.header c.requires.trace.header)

pub returns-clause-start : goal.returns-clause-start
returns-clause-start c =
    subst (λ (y : Sizes). IsStart y c.args.trace.now.lines (world_of c.in_ok-words.words.items c.in_ok-hands.hands.items)) c.of-sizes.ensures
    (start_of c.args.trace.now c.of-sizes.result c.in_ok-words.words.items c.in_ok-hands.hands.items c.requires.trace c.of-sizes.ensures c.in_ok-words.ensures
    (rw c.as_slice.ensures at c.in_ok-hands.ensures))
