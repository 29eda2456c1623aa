-- The reading of a dirty log that is under way, whatever line makes it (api.rst, KVM_GET_DIRTY_LOG, KVM_CLEAR_DIRTY_LOG).
use Rattle.std.specs.Prelude.{Bool, None, Option, Some, false, true}
use Rattle.core_views.specs.declared.place.LogPlace.{LogPlace}
use Rattle.core_views.specs.declared.place.LogPlace.TheVariants.{AtOnce, Exclude, Peek}
use Rattle.core_views.specs.declared.place.Place.{Place}
use Rattle.core_views.specs.declared.place.Place.TheVariants as place
use Rattle.core_views.specs.declared.trace.Command.{Command}
use Rattle.core_views.specs.Held.{Held}

-- a reading: where it stands in the order of its steps, and the command with which it reads
pub record Reading : Type 0 where
  pub place : LogPlace
  pub command : Command

-- A reading at this place has begun to read.
abbrev pub has_begun : LogPlace → Bool
has_begun (AtOnce refusal) = false
has_begun Exclude = false
has_begun (Peek begun) = begun
has_begun _ = true

-- the reading that is under way at a place of a line with this command: a line that reads a log reads it with its own command; no other line reads one
abbrev pub reading_at : Place → Command → Held → Option Reading
reading_at (place.Log p) command h = Some (record { place = p; command = command })
reading_at _ command h = None

-- the reading that a hand's line has under way
abbrev pub own_reading : Held → Option Reading
own_reading h = reading_at h.state.place h.state.line.command h
