use Rattle.std.proofs.Common.{◌≡◌, drop}
use Rattle.core_views.specs.Places.{slots_from}
use Rattle.core_views.specs.Migrations.{are_logged}
use Rattle.hands.proofs.slot_set.SlotSet.are_logged.Given as goal

abbrev pub invariant-loop-at : goal.invariant-loop-at
invariant-loop-at l = are_logged (slots_from l.at (drop l.at l.place-items)) ≡ are_logged l.self
