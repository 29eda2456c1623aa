use Rattle.std.proofs.Common.{◌≡◌, take, ◌≤◌, vec_capacity, vec_len}
use Rattle.std.specs.Slots.{slots_items}
use Rattle.table_seats.proofs.pass_hands.gather_words.Given as goal

abbrev pub invariant-loop-i : goal.invariant-loop-i
invariant-loop-i l = (l.words.items ≡ take l.i (slots_items l.closed.words)) × (l.count ≤ vec_capacity l.words) × (vec_len l.words ≡ l.i)
