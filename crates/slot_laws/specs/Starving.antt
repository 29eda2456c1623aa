-- Closed histories of the manager's lines that have nothing to do, and are given up for want of a pool page all the same.
use Rattle.std.specs.Prelude.{[], ◌∷◌}
use Rattle.core_views.specs.declared.answer.Answer.TheVariants.{Starved}
use Rattle.core_views.specs.declared.event.EventKind.TheVariants.{Exited}
use Rattle.flat_laws.specs.SlotLines.{deletion_line}
use Rattle.flat_laws.specs.Unlawful.{IsUnlawful, same_line}

-- A line that sets a slot as it is needs no page, so it can't be given up.
abbrev pub UnchangedCannotStarve : Type 0
UnchangedCannotStarve = IsUnlawful same_line (Exited Starved ∷ []) Starved

-- Nor can a deletion of a slot that isn't there.
abbrev pub MissingCannotStarve : Type 0
MissingCannotStarve = IsUnlawful (deletion_line 3 2) (Exited Starved ∷ []) Starved
