use Rattle.std.proofs.Common.{arith}
use Rattle.core_views.specs.Places.{places_back}
use Rattle.hands.proofs.slot_set.SlotSetPartialEq.eq.Goals as goal

pub returns : goal.returns
returns c = grind (arith, places_back)
