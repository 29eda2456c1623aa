use Rattle.std.proofs.Common.{◌≡◌, drop}
use Rattle.core_views.specs.Places.{slots_from}
use Rattle.core_views.specs.Slots.{meets_guest_frames}
use Rattle.core_views.specs.SlotSets.{flat_slots}
use Rattle.hands.proofs.slot_set.SlotSet.meets_guest_frames.Given as goal

abbrev pub invariant-loop-at : goal.invariant-loop-at
invariant-loop-at l =
    meets_guest_frames l.id l.slot (flat_slots (slots_from l.at (drop l.at l.place-items))) ≡ meets_guest_frames l.id l.slot (flat_slots l.self)
