use Rattle.std.proofs.Common.{subst}
use Rattle.core_views.specs.Held.{Held}
use Rattle.fault_install.specs.Faults.{StandsInLine}
use Rattle.part_tests.proofs.InFault.{in_whole}
use Rattle.part_tests.proofs.turns.whole_turn.Goals as goal

pub turn-requires-clause-stands : goal.turn-requires-clause-stands
turn-requires-clause-stands g c =
    subst (λ (h : Held). StandsInLine c.in-Some.job h) c.hand.ensures.hand (in_whole c.in-Some.job c.hand.result.now.core c.in-Some.ensures)
