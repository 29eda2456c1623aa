-- What the words tell that a line answers which has read a dirty log: a bit for each page, bit 0 of the first word first.
use Rattle.std.specs.Prelude.{◌≡◌, ◌+◌, ◌/◌, ◌^◌, ◌<◌, ◌≤◌, ℕ, All, Bool, List, Some, false, length}
use Rattle.core_views.specs.declared.memory_slot.MemorySlot.{MemorySlot}
use Rattle.core_views.specs.declared.trace.Command.TheVariants.{ClearLog, GetLog}
use Rattle.core_views.specs.LogCommands.{bits_for, has_bit, is_among}

-- The words are just as many as so many bits need, each is below 2 ^ 64, each of the bits is as it is here, and each one past them is clear.
pub record TellBits (words : List ℕ) (count : ℕ) (bits : ℕ → Bool) : Type 0 where
  pub few : length words ≡ (count + 63) / 64
  pub fit : All (λ word. word < 2 ^ 64) words
  pub each : (bit : ℕ) → bit < count → has_bit words bit ≡ bits bit
  pub past : (bit : ℕ) → count ≤ bit → has_bit words bit ≡ false

-- A get answers a bit for each page of the slot, and it is set exactly where the page's guest frame is among those that were read.
abbrev pub GetWordsTellFrames : Type 0
GetWordsTellFrames =
    (id : ℕ) (slot : MemorySlot) (frames : List ℕ)
    → TellBits (bits_for (GetLog id) (Some slot) frames) slot.slot.pages (λ page. is_among (slot.slot.base + page) frames)

-- A clear answers a bit for each of its pages, the first one first, and it is set exactly where the page's guest frame is among those.
abbrev pub ClearWordsTellFrames : Type 0
ClearWordsTellFrames =
    (id first count : ℕ) (asked : List ℕ) (slot : MemorySlot) (frames : List ℕ)
    → TellBits (bits_for (ClearLog id first count asked) (Some slot) frames) count (λ bit. is_among (slot.slot.base + (first + bit)) frames)
