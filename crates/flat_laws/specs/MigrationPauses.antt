-- Closed histories of the pause, between its setting and the stop, and after the stop. Guest frame 0 is host page 0, and has a dirty log.
use Rattle.std.specs.Prelude.{◌≡◌, List, [], ◌∷◌, ◌++◌, codes, map}
use Rattle.core_views.specs.declared.answer.Answer.TheVariants.{Paused}
use Rattle.core_views.specs.declared.event.Event.{Event}
use Rattle.core_views.specs.declared.event.EventKind.{EventKind}
use Rattle.core_views.specs.declared.event.EventKind.TheVariants.{Accessed, Answered, Begun, Exited, GuestStopped, LookedAtHost, LookedAtPause, LookedAtSlots}
use Rattle.core_views.specs.declared.event.EventKind.TheVariants.{PauseSet}
use Rattle.core_views.specs.declared.trace.Line.{Line}
use Rattle.core_views.specs.declared.trace.MigrationCall.TheVariants.{Finish}
use Rattle.core_views.specs.declared.trace.Op.TheVariants.{Read}
use Rattle.core_views.specs.Flat.{first_facts, first_flat}
use Rattle.core_views.specs.FlatHistory.{by, one_by_one}
use Rattle.core_views.specs.Lawful.{IsLawful}
use Rattle.core_views.specs.Text.{text}
use Rattle.flat_laws.specs.Laws.{access_line}
use Rattle.flat_laws.specs.Migrations.{call_line, migration_sizes}
use Rattle.flat_laws.specs.UnlawfulMigrations.{started}

-- A migration runs, a line that finishes it does this, and then an access of v0 that.
abbrev pub finish_line : Line
finish_line = call_line 5 Finish

abbrev pub guest_line : Line
guest_line = access_line 6 0 0 0 Read

abbrev pub both_lines : List EventKind → List EventKind → List Event
both_lines finishes accesses = map (by finish_line) (Begun finish_line ∷ finishes) ++ map (by guest_line) (Begun guest_line ∷ accesses)

abbrev pub beside_finish : List EventKind → List EventKind → List Event
beside_finish finishes accesses = one_by_one migration_sizes started first_facts ++ both_lines finishes accesses

-- Once the pause is set a line that looks at it makes no access, though the guest isn't stopped yet.
abbrev pub PausedMakesNone : Type 0
PausedMakesNone =
    IsLawful migration_sizes first_flat
    (beside_finish (PauseSet ∷ []) (LookedAtPause ∷ LookedAtSlots ∷ LookedAtHost 0 ∷ Accessed 0 0 Read 0 0 ∷ [])) → ⊥

-- It is answered that it was paused.
abbrev pub paused_lines : List Event
paused_lines = both_lines (PauseSet ∷ []) (LookedAtPause ∷ Exited Paused ∷ Answered 6 Paused ∷ [])

abbrev pub paused_beside : List Event
paused_beside = one_by_one migration_sizes started first_facts ++ paused_lines

abbrev pub PausedIsAnswered : Type 0
PausedIsAnswered =
    IsLawful migration_sizes first_flat paused_beside × (text paused_beside ≡ codes "2 vm done\n3 vm done\n4 vm done\n6 v0 paused\n")

-- One that hasn't looked at the pause isn't, even when the guest is stopped.
abbrev pub PausedLooksAtPause : Type 0
PausedLooksAtPause = IsLawful migration_sizes first_flat (beside_finish (PauseSet ∷ GuestStopped ∷ []) (Exited Paused ∷ [])) → ⊥
