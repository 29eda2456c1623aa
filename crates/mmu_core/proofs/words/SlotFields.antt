-- The words of slots in a slot set.
use Rattle.std.proofs.Common.{◌≡◌, ◌≤◌, arith}
use Rattle.core_views.specs.declared.place.SlotField.{SlotField}
use Rattle.core_views.specs.declared.place.SlotField.TheVariants as field
use Rattle.core_views.specs.declared.trace.Slot.{Slot}
use Rattle.part_steps.specs.SlotWords.{field_number}

-- the fields of a slot tell it
pub same_slot : (x y : Slot) → x.base ≡ y.base → x.pages ≡ y.pages → x.host ≡ y.host → x.read_only ≡ y.read_only → x ≡ y
same_slot x y base pages host read_only = λ t. record { base = base t; pages = pages t; host = host t; read_only = read_only t }

pub is_number : (f : SlotField) → field_number f ≤ 3
is_number field.Base = omega arith
is_number _ = omega arith
