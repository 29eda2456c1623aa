use Rattle.std.proofs.Common.{◌≡◌, drop}
use Rattle.core_views.specs.Places.{slots_from}
use Rattle.core_views.specs.Migrations.{has_no_slot}
use Rattle.hands.proofs.slot_set.SlotSet.is_empty.Given as goal

abbrev pub invariant-loop-at : goal.invariant-loop-at
invariant-loop-at l = has_no_slot (slots_from l.at (drop l.at l.place-items)) ≡ has_no_slot l.self
