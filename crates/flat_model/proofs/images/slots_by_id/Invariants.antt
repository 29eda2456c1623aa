use Rattle.std.proofs.Common.{◌≡◌, ◌<◌, ◌++◌}
use Rattle.std.specs.Prelude.{All}
use Rattle.core_views.specs.SlotSets.{IsSlotSet}
use Rattle.flat_model.specs.Copying.{IsBelow}
use Rattle.flat_model.proofs.SlotsById.{from_id}
use Rattle.flat_model.proofs.images.slots_by_id.Given as goal

abbrev pub invariant-loop-id : goal.invariant-loop-id
invariant-loop-id l = (0 < l.id → IsSlotSet l.slots) × All IsBelow l.found.items × (l.found.items ++ from_id l.id l.slots ≡ l.slots)
