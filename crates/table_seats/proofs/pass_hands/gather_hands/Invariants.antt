use Rattle.std.proofs.Common.{◌≡◌, map, Some, ◌≤◌, ◌++◌, length, vec_capacity}
use Rattle.table_seats.proofs.pass_hands.gather_hands.Given as goal

abbrev pub invariant-loop-place : goal.invariant-loop-place
invariant-loop-place l =
    (map Some l.hands.items ≡ l.yielded) × (length l.fn.places.items ≤ vec_capacity l.hands) × (l.yielded ++ l.place-iterator.rest.items ≡ l.fn.places.items)
