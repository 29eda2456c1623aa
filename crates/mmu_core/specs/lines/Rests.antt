-- What a job may rest on, from its hand alone: what its line's next step needs.
use Rattle.core_views.specs.declared.place.Place.{Place}
use Rattle.core_views.specs.declared.place.Place.TheVariants as place
use Rattle.core_views.specs.Held.{Held}
use Rattle.core_views.specs.Traces.{IsCommandFor}
use Rattle.part_steps.specs.PartBounds.{PartRests}
use Rattle.mmu_core.specs.lines.Forms.{AcceptsAt, RestsAt}
use Rattle.mmu_core.specs.machine.Steps.{line_at, place_at}

-- A line stands there that has begun, or begins with the next step.
abbrev pub IsUnderWay : Place → Type 0
IsUnderWay place.Between = ⊥
IsUnderWay _ = Unit {0}

-- What holds of every hand that has a line without an answer.
pub record Rests (h : Held) : Type 0 where
  pub part : PartRests h
  pub line : IsCommandFor h.state.sizes (line_at h.state.place h).actor (line_at h.state.place h).command
  pub at : RestsAt (place_at h.state.place h) (line_at h.state.place h).command h
  pub accepts : AcceptsAt (place_at h.state.place h) (line_at h.state.place h).command h.state.sizes h.slots
