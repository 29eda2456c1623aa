-- What a line that begins the dirty log of a slot knows of the slot.
use Rattle.std.specs.Prelude.{◌≡◌, ◌<◌, ◌≤◌, ◌+◌, ◌^◌, ℕ, Some, false, true, is_some}
use Rattle.core_views.specs.declared.actor.Actor.{Actor}
use Rattle.core_views.specs.declared.actor.Actor.TheVariants.{Manager}
use Rattle.core_views.specs.declared.place.FrameRange.{FrameRange}
use Rattle.core_views.specs.declared.sizes.Sizes.{Sizes}
use Rattle.core_views.specs.declared.trace.Command.{Command}
use Rattle.core_views.specs.declared.trace.Slot.{Slot}
use Rattle.core_views.specs.SlotCommands.{arms, slot_armed}
use Rattle.core_views.specs.declared.memory_slot.MemorySlot.{MemorySlot}
use Rattle.core_views.specs.SlotSets.{MemorySlots, slot_of_id}
pub use Rattle.mmu_core.specs.invariant.SlotSetPart.{Fits}
use Rattle.part_steps.specs.LogHoldings.{is_in_log, is_unlogged_word, log_begin, log_end}
use Rattle.mmu_core.specs.forms.slot_change.SlotChangeSteps.{slot_or_none}

-- The word is one of the slot's dirty log, if it has one.
abbrev pub IsInLog : Slot → ℕ → Type 0
IsInLog slot word = (log_begin slot ≤ word) × (word < log_end slot)

-- The manager is to begin the dirty log of a slot that has none; it fits the machine, and has a page at least; and no word of this log is of one that has
-- begun.
pub record ArmsSlot (actor : Actor) (z : Sizes) (command : Command) (slots : MemorySlots) : Type 0 where
  pub manager : actor ≡ Manager
  pub arms : arms command ≡ true
  pub there : is_some (slot_armed slots command) ≡ true
  pub fits : Fits z (slot_or_none (slot_armed slots command))
  pub some : 1 ≤ (slot_or_none (slot_armed slots command)).pages
  pub unlogged : (word : ℕ) → IsInLog (slot_or_none (slot_armed slots command)) word → is_unlogged_word word slots ≡ true
  pub of_no_log : (word : ℕ) → IsInLog (slot_or_none (slot_armed slots command)) word → (id : ℕ) (m : MemorySlot) → slot_of_id id slots ≡ Some m
      → m.logged ≡ true → is_in_log word m.slot ≡ false

-- The slot is there whose dirty log the line begins.
abbrev pub ArmsThere : Command → MemorySlots → Type 0
ArmsThere command slots = arms command ≡ true → is_some (slot_armed slots command) ≡ true

-- It fits the machine.
abbrev pub ArmsFitting : Sizes → Command → MemorySlots → Type 0
ArmsFitting z command slots = (slot : Slot) → slot_armed slots command ≡ Some slot → Fits z slot

-- These are the slot's guest frames.
abbrev pub AreFramesOf : Slot → FrameRange → Type 0
AreFramesOf slot range = (range.start ≡ slot.base) × (range.end ≡ slot.base + slot.pages)

-- There are some of these guest frames, below 2 ^ 36, and no more than the machine has pages.
pub record IsSweepable (z : Sizes) (range : FrameRange) : Type 0 where
  pub some : range.start < range.end
  pub low : range.end ≤ 2 ^ 36
  pub few : range.end ≤ range.start + z.pages
