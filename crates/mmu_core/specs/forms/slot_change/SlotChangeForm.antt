-- What a line that changes a slot says at its places.
use Rattle.std.specs.Prelude.{◌≡◌, Bool, Some, false, true}
use Rattle.core_views.specs.declared.place.Place.TheVariants as place
use Rattle.core_views.specs.declared.place.SlotChangePlace.{SlotChangePlace}
use Rattle.core_views.specs.declared.place.SlotChangePlace.TheVariants.{AtOnce, Claim}
use Rattle.core_views.specs.SlotCommands.{changes_slot}
use Rattle.part_steps.specs.PartSteps.{PartNeeds}
use Rattle.mmu_core.specs.forms.slot_change.SlotChangeKnows.{RecordAccepts, SlotChangeHolds, SlotChangeKnows, SlotChangeRests}
use Rattle.mmu_core.specs.forms.slot_change.SlotChangeKnows.{slot_change_opens, slot_change_retires}
use Rattle.mmu_core.specs.forms.slot_change.SlotChangeLeft.{slot_change_left}
use Rattle.mmu_core.specs.forms.slot_change.SlotChangeSteps.{slot_change_note, slot_change_outcome, slot_change_part, slot_change_records}
use Rattle.mmu_core.specs.forms.slot_change.SlotChangeTells.{slot_change_tells}
use Rattle.mmu_core.specs.lines.Form.{Form, plain_form}

abbrev pub slot_change_is_first : SlotChangePlace → Bool
slot_change_is_first (AtOnce refusal) = true
slot_change_is_first (Claim false) = true
slot_change_is_first _ = false

abbrev pub slot_change_form : SlotChangePlace → Form
slot_change_form p = record (plain_form (place.SlotChange p)) {
  is_for = λ command. changes_slot command;
  is_first = slot_change_is_first p;
  part = λ command h. Some (slot_change_part p h command);
  note = λ command h. slot_change_note p h;
  outcome = λ command h v. slot_change_outcome p command h v;
  left = λ command z t. slot_change_left p command z t;
  records = λ command slots. slot_change_records p command slots;
  tells = λ command h v. slot_change_tells p h command v;
  Rests = λ command h. (changes_slot command ≡ true) × PartNeeds (slot_change_part p h command) h × SlotChangeRests p command h;
  Accepts = λ command z slots. RecordAccepts p z command slots;
  Knows = λ command h. (changes_slot command ≡ true) × SlotChangeKnows p command h;
  Holds = λ z pool command h. SlotChangeHolds z pool p command h;
  retires = slot_change_retires p;
  opens = slot_change_opens p;
}
