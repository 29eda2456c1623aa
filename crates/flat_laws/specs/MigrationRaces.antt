-- Runs of a migration beside writes, as lawful histories, and the bytes that they print. Guest frames 0 to 15 are host pages 0 to 15, and have a dirty log.
use Rattle.std.specs.Prelude.{◌≡◌, List, [], ◌∷◌, ◌++◌, true, codes, map}
use Rattle.core_views.specs.declared.answer.Answer.TheVariants.{Copied, Image, Paused, Reached}
use Rattle.core_views.specs.declared.event.Event.{Event}
use Rattle.core_views.specs.declared.event.EventKind.{EventKind}
use Rattle.core_views.specs.declared.event.EventKind.TheVariants.{Accessed, Answered, Begun, Exited, GuestStopped, Harvested, LookedAtHost, LookedAtPause}
use Rattle.core_views.specs.declared.event.EventKind.TheVariants.{LookedAtSlots, PauseSet, Taken, WordCopied}
use Rattle.core_views.specs.declared.migration.ImageWord.{ImageWord}
use Rattle.core_views.specs.declared.trace.Command.TheVariants.{SetLog, SetSlot}
use Rattle.core_views.specs.declared.trace.Line.{Line}
use Rattle.core_views.specs.declared.trace.MigrationCall.TheVariants.{Start, Round, Finish}
use Rattle.core_views.specs.declared.trace.Op.TheVariants.{Read, Write}
use Rattle.core_views.specs.Flat.{first_facts, first_flat}
use Rattle.core_views.specs.FlatHistory.{by, one_by_one}
use Rattle.core_views.specs.Lawful.{IsLawful}
use Rattle.core_views.specs.Sizes.{sizes_of}
use Rattle.core_views.specs.Text.{text}
use Rattle.flat_laws.specs.Laws.{access_line, manage}
use Rattle.flat_laws.specs.MigrationTraces.{wide_header}
use Rattle.flat_laws.specs.Migrations.{call_line, migration_sizes}
use Rattle.flat_laws.specs.SlotLines.{open_slot}
use Rattle.flat_laws.specs.UnlawfulMigrations.{started, write_reaches, written}

-- A round has copied each page, and nothing was written yet.
abbrev pub copied_once : List Line
copied_once =
    manage 2 (SetSlot 0 (open_slot 0 16 0))
    ∷ manage 3 (SetLog 0 true)
    ∷ call_line 4 Start
    ∷ access_line 5 0 3 0 Read
    ∷ call_line 6 Round
    ∷ []

-- v0 and v1 write one guest frame, and the migration is finished.
abbrev pub v0_writes : Line
v0_writes = access_line 8 0 3 0 (Write 5)

abbrev pub v1_writes : Line
v1_writes = access_line 9 1 3 0 (Write 9)

abbrev pub finishes : Line
finishes = call_line 10 Finish

-- what a line does next
abbrev pub does : Line → List EventKind → List Event
does line kinds = map (by line) kinds

-- Both look at the pause before it is set. v1's write reaches memory before the guest is stopped, and v0's doesn't: it looks at the pause again.
abbrev pub before_the_stop : List Event
before_the_stop =
    does v0_writes (Begun v0_writes ∷ LookedAtPause ∷ [])
    ++ (does v1_writes (Begun v1_writes ∷ LookedAtPause ∷ [])
    ++ (does finishes (Begun finishes ∷ PauseSet ∷ [])
    ++ (does v0_writes (LookedAtSlots ∷ [])
    ++ does v1_writes (Accessed 3 0 (Write 9) 3 0 ∷ Answered 9 (Reached 3 0) ∷ []))))

abbrev pub stop : List Event
stop = does finishes (GuestStopped ∷ []) ++ does v0_writes (LookedAtPause ∷ Exited Paused ∷ Answered 8 Paused ∷ [])

-- the image with v1's word
abbrev pub image_of_v1 : List ImageWord
image_of_v1 = record { id = 0; page = 3; word = 0; value = 9 } ∷ []

-- What was written is read of the log, and copied again.
abbrev pub copied_again : List Event
copied_again =
    does finishes
    (Taken 0 ∷ Harvested 0 (3 ∷ []) ∷ LookedAtHost 3 ∷ WordCopied 3 3 0 9 true ∷ Answered 10 (Image image_of_v1) ∷ [])

abbrev pub late_write : List Event
late_write = one_by_one (sizes_of wide_header) copied_once first_facts ++ (before_the_stop ++ (stop ++ copied_again))

abbrev pub LateWriteIsCopied : Type 0
LateWriteIsCopied =
    IsLawful (sizes_of wide_header) first_flat late_write
    × (text late_write
    ≡ codes "2 vm done\n3 vm done\n4 vm done\n5 v0 frame 3 value 0\n6 vm copied 16\n9 v1 frame 3 value 0\n8 v0 paused\n10 vm image 0:3:0=9\n")

-- The line that finishes may not leave it out, though v0's line is still under way as it begins to read the log.
abbrev pub LateWriteIsNotLeftOut : Type 0
LateWriteIsNotLeftOut =
    IsLawful (sizes_of wide_header) first_flat
    (one_by_one (sizes_of wide_header) copied_once first_facts
    ++ (before_the_stop ++ does finishes (GuestStopped ∷ Taken 0 ∷ Harvested 0 [] ∷ Answered 10 (Image []) ∷ []))) → ⊥

-- A round may leave out a dirty page whose writer's line is still under way. It copies what the page holds.
abbrev pub leaving_out : List Event
leaving_out =
    does (call_line 6 Round) (Begun (call_line 6 Round) ∷ Taken 0 ∷ Harvested 0 [] ∷ WordCopied 0 0 0 7 true ∷ Answered 6 (Copied 1) ∷ [])
    ++ does written (Answered 5 (Reached 0 0) ∷ [])

abbrev pub left_to_the_next : List Event
left_to_the_next = one_by_one migration_sizes started first_facts ++ (write_reaches ++ leaving_out)

abbrev pub RoundMayLeaveOut : Type 0
RoundMayLeaveOut =
    IsLawful migration_sizes first_flat left_to_the_next
    × (text left_to_the_next ≡ codes "2 vm done\n3 vm done\n4 vm done\n6 vm copied 1\n5 v0 frame 0 value 0\n")
