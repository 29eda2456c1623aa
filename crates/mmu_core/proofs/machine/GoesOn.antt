-- Where a line goes on to: never to a moment between lines, and to places of its own form.
use Rattle.std.specs.Prelude.{◌≡◌}
use Rattle.core_views.specs.declared.place.Place.{Place}
use Rattle.core_views.specs.declared.place.Place.TheVariants as place
use Rattle.mmu_core.specs.declared.outcome.Outcome.{Outcome}
use Rattle.mmu_core.specs.declared.outcome.Outcome.TheVariants.{Goes, Ends}
use Rattle.core_views.specs.declared.trace.Command.{Command}
use Rattle.mmu_core.specs.lines.Forms.{is_for}
use Rattle.mmu_core.specs.lines.Rests.{IsUnderWay}

-- A line that has begun goes on to a place where it is under way, or is answered.
abbrev pub GoesUnderWay : Outcome → Type 0
GoesUnderWay (Goes p) = IsUnderWay p
GoesUnderWay (Ends answer) = Unit {0}

-- It goes on to a place of the same form: one of lines with the same commands.
abbrev pub GoesWithin : Place → Outcome → Type 0
GoesWithin p (Goes q) = (c : Command) → is_for q c ≡ is_for p c
GoesWithin p (Ends answer) = Unit {0}

-- So a line of another form than an access goes on to no place of one.
abbrev pub IsNoAccess : Place → Type 0
IsNoAccess (place.Access p) = ⊥
IsNoAccess _ = Unit {0}

abbrev pub GoesToNoAccess : Outcome → Type 0
GoesToNoAccess (Goes p) = IsNoAccess p
GoesToNoAccess (Ends answer) = Unit {0}

-- It is a place of a simple form: one that is neither an access nor changes a host page by itself. Between lines is such a place too.
abbrev pub IsSimple : Place → Type 0
IsSimple (place.Access p) = ⊥
IsSimple (place.Host p) = ⊥
IsSimple _ = Unit {0}

abbrev pub GoesToSimple : Outcome → Type 0
GoesToSimple (Goes p) = IsSimple p
GoesToSimple (Ends answer) = Unit {0}
