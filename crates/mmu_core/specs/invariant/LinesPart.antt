-- Lines: whose a hand is, and which of its lines is under way.
use Rattle.std.specs.Prelude.{◌≡◌, ◌<◌, ℕ, List, All, length, map, ◌≤◌}
use Rattle.std.specs.List.{Contains}
use Rattle.core_views.specs.declared.place.Place.{Place}
use Rattle.core_views.specs.declared.place.Place.TheVariants as place
use Rattle.core_views.specs.declared.sizes.Sizes.{Sizes}
use Rattle.core_views.specs.declared.memory_slot.MemorySlot.{MemorySlot}
use Rattle.core_views.specs.declared.trace.Command.TheVariants.{SetSlot}
use Rattle.core_views.specs.declared.trace.Line.{Line}
use Rattle.core_views.specs.Held.{Held}
use Rattle.core_views.specs.Sizes.{index_of}
use Rattle.core_views.specs.Traces.{IsCommandFor}
use Rattle.mmu_core.specs.machine.Steps.{next_line}

-- A line is under way: it is the hand's next line, which has no answer yet.
abbrev pub UnderWay : Place → Held → Type 0
UnderWay place.Between h = Unit {0}
UnderWay _ h = (h.state.line ≡ next_line h) × (length h.answers < length h.lines)

-- One of the lines sets this slot at this ID.
abbrev pub IsSetBy : List Line → ℕ × MemorySlot → Type 0
IsSetBy lines entry = Contains (map (λ line. line.command) lines) (SetSlot entry.0 entry.1.slot)

-- Lines: whose the hand is, with room in its cache as the sizes say, and that its lines are its actor's; and each slot of its record was set, as it is, by one
-- of them.
pub record OwnLines (z : Sizes) (i : ℕ) (h : Held) : Type 0 where
  pub sizes : h.state.sizes ≡ z
  pub index : index_of z h.state.actor ≡ i
  pub cache : h.cached.capacity ≡ z.cache
  pub allowed : All (λ line. IsCommandFor z line.actor line.command) h.lines
  pub own : All (λ line. line.actor ≡ h.state.actor) h.lines
  pub under : UnderWay h.state.place h
  pub few : length h.lines ≤ 1000000
  pub set : All (IsSetBy h.lines) h.slots
