use Rattle.std.proofs.Common.{◌≡◌, None, replicate}
use Rattle.table_seats.proofs.pass_hands.no_hands.Given as goal

abbrev pub invariant-loop-i : goal.invariant-loop-i
invariant-loop-i l = l.places.items ≡ replicate l._i None
