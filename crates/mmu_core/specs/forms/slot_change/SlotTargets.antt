-- What a line that changes a slot is about: the slot that it moves or deletes, or the one whose dirty log it begins, word by word.
use Rattle.std.specs.Prelude.{ℕ, Bool, true, false, Option, Some, None, ◌+◌, ◌-◌, ◌*◌, ◌^◌, nat_lt, if◌then◌else◌}
use Rattle.core_views.specs.declared.trace.Command.{Command}
use Rattle.core_views.specs.declared.trace.Slot.{Slot}
use Rattle.core_views.specs.declared.sizes.Sizes.{Sizes}
use Rattle.core_views.specs.declared.topics.Topics.{Topics}
use Rattle.core_views.specs.Held.{Held, no_slot}
use Rattle.core_views.specs.LogCommands.{is_all_set}
use Rattle.core_views.specs.SlotCommands.{slot_armed, slot_invalidated}
use Rattle.part_steps.specs.declared.part_step.PartStep.{PartStep}
use Rattle.part_steps.specs.declared.part_step.PartStep.TheVariants as part
use Rattle.part_steps.specs.declared.invalidations.Target.{Target}
use Rattle.part_steps.specs.declared.invalidations.Target.TheVariants as aim
use Rattle.part_steps.specs.LogHoldings.{log_begin}

-- what a line that moves or deletes a slot invalidates: the slot, as it is before; and none has no frames
abbrev pub slot_or_none : Option Slot → Slot
slot_or_none None = no_slot
slot_or_none (Some slot) = slot

abbrev pub slot_target : Held → Command → Target
slot_target h command = aim.Slot (slot_or_none (slot_invalidated h.slots command))

-- the slot whose dirty log begins, or no slot; the word of the log that is set next, and its bits: each page of the slot has one in the last mode
abbrev pub log_target : Held → Command → Slot
log_target h command = slot_or_none (slot_armed h.slots command)

abbrev pub arm_word : Bool → Slot → Topics → ℕ
arm_word begun slot t = if begun then t.next_log_word else log_begin slot

abbrev pub arm_bits : Bool → Slot → ℕ → ℕ
arm_bits false slot word = 0
arm_bits true slot word = if nat_lt (64 * (word - log_begin slot) + 63) slot.pages then 2 ^ 64 - 1 else 2 ^ (slot.pages - 64 * (word - log_begin slot)) - 1

abbrev pub arm_part : Bool → Sizes → Slot → Topics → PartStep
arm_part begun z slot t = part.Arm (arm_word begun slot t) (arm_bits (is_all_set z.mode) slot (arm_word begun slot t))
