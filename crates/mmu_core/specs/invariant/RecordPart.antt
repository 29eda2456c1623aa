-- The manager's own record of a slot set.
use Rattle.std.specs.Prelude.{◌≡◌, ℕ}
use Rattle.core_views.specs.SlotSets.{MemorySlots}
use Rattle.part_steps.specs.SlotWords.{memory_slots_below}

-- The record has the slots that are live in the published set, each with its dirty log or without, and no other.
pub record RecordPart (pool : ℕ → ℕ) (set : ℕ) (slots : MemorySlots) : Type 0 where
  pub same : slots ≡ memory_slots_below pool set 32
