use Rattle.std.proofs.Common.{◌≡◌, length, ◌+◌, ◌≤◌}
use Rattle.table_seats.specs.Rule.{overlay}
use Rattle.table_seats.proofs.pass_hands.merge.Given as goal

abbrev pub invariant-loop-place : goal.invariant-loop-place
invariant-loop-place l =
    (l.mine.items ≡ overlay l.initial.mine.items l.yielded) × (l.at ≡ length l.yielded) ×
    (length l.yielded + length l.place-iterator.rest.items ≤ length l.initial.mine.items)
