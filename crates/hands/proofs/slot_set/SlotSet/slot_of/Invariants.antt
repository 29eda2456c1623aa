use Rattle.std.proofs.Common.{◌≡◌, drop}
use Rattle.core_views.specs.SlotSets.{slot_holding}
use Rattle.core_views.specs.Places.{slots_from}
use Rattle.hands.proofs.slot_set.SlotSet.slot_of.Given as goal

abbrev pub invariant-loop-id : goal.invariant-loop-id
invariant-loop-id l = slot_holding l.gfn (slots_from l.id (drop l.id l.place-items)) ≡ slot_holding l.gfn l.self
