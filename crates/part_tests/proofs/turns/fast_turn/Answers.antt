use Rattle.std.proofs.Common.{subst}
use Rattle.core_views.specs.Held.{Held}
use Rattle.fast_fault.specs.Fasts.{StandsInFast}
use Rattle.part_tests.proofs.InFault.{in_fast}
use Rattle.part_tests.proofs.turns.fast_turn.Goals as goal

pub turn-requires-clause-stands : goal.turn-requires-clause-stands
turn-requires-clause-stands g c =
    subst (λ (h : Held). StandsInFast (record { gfn = c.in-Some.field-0.gfn; write = c.in-Some.field-0.write }) h) c.hand.ensures.hand
    (in_fast c.in-Some.field-0 c.hand.result.now.core c.in-Some.ensures)
