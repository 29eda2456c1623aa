-- The dirty log that a line gives a slot stands in the manager's record from the publication on.
use Rattle.std.specs.Prelude.{◌≡◌, ◌<◌, ℕ, true}
use Rattle.core_views.specs.declared.place.Place.{Place}
use Rattle.core_views.specs.declared.place.Place.TheVariants as place
use Rattle.core_views.specs.declared.sizes.Sizes.{Sizes}
use Rattle.core_views.specs.declared.trace.Command.{Command}
use Rattle.core_views.specs.declared.trace.Command.TheVariants.{SetLog}
use Rattle.core_views.specs.Refusals.{is_logged}
use Rattle.core_views.specs.Sizes.{actors_of}
use Rattle.core_views.specs.SlotSets.{MemorySlots}
use Rattle.mmu_core.specs.forms.slot_change.SlotChangeKnows.{slot_change_retires}
use Rattle.mmu_core.specs.machine.View.{View}

-- The record has the slot's log, once the set with it is published.
abbrev pub HasGiven : Command → Place → MemorySlots → Type 0
HasGiven (SetLog id true) (place.SlotChange p) slots = slot_change_retires p ≡ true → is_logged id slots ≡ true
HasGiven _ _ slots = Unit {0}

-- So it is of each hand's line.
abbrev pub LogsGiven : Sizes → View → Type 0
LogsGiven z v = (i : ℕ) → i < actors_of z → HasGiven (v.hand i).state.line.command (v.hand i).state.place (v.hand i).slots
