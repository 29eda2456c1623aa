use Rattle.std.proofs.Common.{◌≡◌, ◌++◌, Some, map}
use Rattle.table_seats.proofs.pass_hands.deal.Given as goal

abbrev pub invariant-loop-hand : goal.invariant-loop-hand
invariant-loop-hand l = (l.places.items ≡ map Some l.yielded) × (l.yielded ++ l.hand-iterator.rest.items ≡ l.fn.hands.items)
