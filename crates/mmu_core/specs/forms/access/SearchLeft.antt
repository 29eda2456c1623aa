-- How many words of a slot a look-up has yet to load.
use Rattle.std.specs.Prelude.{ℕ}
use Rattle.core_views.specs.declared.place.SlotField.{SlotField}
use Rattle.core_views.specs.declared.place.SlotField.TheVariants as field

-- the words of a slot that a look-up has yet to load, from this one on
abbrev pub look_left : SlotField → ℕ
look_left field.Flags = 4
look_left field.Base = 3
look_left field.Pages = 2
look_left field.Host = 1
