-- What a turn of a split says, and where its line stands that ends with it.
use Rattle.std.specs.Prelude.{◌≡◌, Bool, true, false}
use Rattle.core_views.specs.declared.place.Place.{Place}
use Rattle.core_views.specs.declared.place.Place.TheVariants as place
use Rattle.core_views.specs.declared.place.SplitEnd.{SplitEnd}
use Rattle.core_views.specs.declared.place.SplitPlace.TheVariants.{End}
use Rattle.core_views.specs.declared.trace.Command.{Command}
use Rattle.core_views.specs.declared.trace.Command.TheVariants.{Split}
use Rattle.step_seats.specs.declared.turn.Turn.{Turn}
use Rattle.step_seats.specs.declared.turn.Turn.TheVariants.{More, Wait, Retry, Done}

-- The command splits a large leaf.
abbrev pub splits : Command → Bool
splits (Split gfn) = true
splits _ = false

-- what such a turn says of its line, whatever this came to
abbrev pub line_turned : Turn SplitEnd → Turn (Unit {0})
line_turned More = More
line_turned (Wait seen) = Wait seen
line_turned (Retry cause) = Retry cause
line_turned (Done e) = Done tt

-- The line stands at its last step.
abbrev pub IsEndOf : Place → Type 0
IsEndOf p = (e : SplitEnd) × (p ≡ place.Split (End e))

-- Where the turn ends the line, this stood at its last step, with what the turn says.
abbrev pub EndsAt : Turn SplitEnd → Place → Type 0
EndsAt (Done e) p = p ≡ place.Split (End e)
EndsAt _ p = Unit {0}
