-- The stage in flat memory of a line that reads a dirty log, at each of its places.
use Rattle.std.specs.Prelude.{◌≡◌, ℕ, Some, false}
use Rattle.core_views.specs.declared.place.LogPlace.{LogPlace}
use Rattle.core_views.specs.declared.place.LogPlace.TheVariants as log
use Rattle.core_views.specs.declared.trace.Command.{Command}
use Rattle.core_views.specs.Flat.{LineUnderWay, Fresh, HasTaken}
use Rattle.core_views.specs.LogCommands.{log_read}

-- The line has begun to read the log that its command says.
abbrev pub HasBegunToRead : Command → LineUnderWay → Type 0
HasBegunToRead command u = (id : ℕ) × (u.stage ≡ HasTaken id) × (log_read command ≡ Some id)

-- A line that reads a dirty log has done nothing yet up to where it has the lock, or loads the first word; from then on it has begun to read.
abbrev pub LogUnder : LogPlace → Command → LineUnderWay → Type 0
LogUnder (log.AtOnce refusal) command u = u.stage ≡ Fresh
LogUnder log.Exclude command u = u.stage ≡ Fresh
LogUnder (log.Peek false) command u = u.stage ≡ Fresh
LogUnder _ command u = HasBegunToRead command u
