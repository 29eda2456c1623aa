-- Closed histories of migrations that flat guest memory doesn't allow: each ends with the event that isn't allowed.
use Rattle.std.specs.Prelude.{List, [], ◌∷◌, ◌++◌, false, true, map}
use Rattle.core_views.specs.declared.answer.Answer.TheVariants.{Copied}
use Rattle.core_views.specs.declared.event.Event.{Event}
use Rattle.core_views.specs.declared.event.EventKind.{EventKind}
use Rattle.core_views.specs.declared.event.EventKind.TheVariants.{Accessed, Answered, Begun, GuestStopped, Harvested, LookedAtHost, LookedAtPause}
use Rattle.core_views.specs.declared.event.EventKind.TheVariants.{LookedAtSlots, PauseSet, Taken, WordCopied}
use Rattle.core_views.specs.declared.sizes.LogMode.TheVariants.{Automatic}
use Rattle.core_views.specs.declared.sizes.Sizes.{Sizes}
use Rattle.core_views.specs.declared.trace.Command.TheVariants.{SetLog, SetSlot}
use Rattle.core_views.specs.declared.trace.Line.{Line}
use Rattle.core_views.specs.declared.trace.MigrationCall.TheVariants.{Start, Round, Finish}
use Rattle.core_views.specs.declared.trace.Op.TheVariants.{Read, Write}
use Rattle.core_views.specs.Flat.{first_facts, first_flat}
use Rattle.core_views.specs.FlatHistory.{by, one_by_one}
use Rattle.core_views.specs.Lawful.{IsLawful}
use Rattle.flat_laws.specs.Laws.{access_line, manage}
use Rattle.flat_laws.specs.Migrations.{call_line, migration_sizes, paged_sizes, two_slots}
use Rattle.flat_laws.specs.SlotLines.{open_slot}

-- These lines run alone; then this one begins, and does this. That is not allowed.
abbrev pub IsUnlawfulThen : Sizes → List Line → Line → List EventKind → Type 0
IsUnlawfulThen z lines line kinds =
    IsLawful z first_flat (one_by_one z lines first_facts ++ (by line (Begun line) ∷ map (by line) kinds)) → ⊥

-- Guest frame 0 is host page 0 of one word, has a dirty log, and the migration has started.
abbrev pub started : List Line
started = manage 2 (SetSlot 0 (open_slot 0 1 0)) ∷ manage 3 (SetLog 0 true) ∷ call_line 4 Start ∷ []

-- A round copies before it has read the log.
abbrev pub CopyFollowsHarvest : Type 0
CopyFollowsHarvest = IsUnlawfulThen migration_sizes started (call_line 5 Round) (WordCopied 0 0 0 0 true ∷ [])

-- It is done before the page is copied.
abbrev pub NoneIsLeft : Type 0
NoneIsLeft = IsUnlawfulThen migration_sizes started (call_line 5 Round) (Taken 0 ∷ Harvested 0 [] ∷ Answered 5 (Copied 0) ∷ [])

-- It copies another value than the page has.
abbrev pub CopyIsMemory : Type 0
CopyIsMemory = IsUnlawfulThen migration_sizes started (call_line 5 Round) (Taken 0 ∷ Harvested 0 [] ∷ WordCopied 0 0 0 1 true ∷ [])

-- One that finishes reads the log before the guest is stopped.
abbrev pub FinishStops : Type 0
FinishStops = IsUnlawfulThen migration_sizes started (call_line 5 Finish) (PauseSet ∷ Taken 0 ∷ [])

-- Slots 1 and 5 have five pages of two words each.
abbrev pub two_started : List Line
two_started = two_slots ++ (call_line 6 Start ∷ [])

abbrev pub IsNoRound : List EventKind → Type 0
IsNoRound kinds = IsUnlawfulThen (paged_sizes Automatic) two_started (call_line 7 Round) kinds

-- A round reads the log of the slot with the higher ID first.
abbrev pub LogsInOrder : Type 0
LogsInOrder = IsNoRound (Taken 5 ∷ [])

-- It copies a page before it has read the log of the other slot.
abbrev pub CopiesFollowAllLogs : Type 0
CopiesFollowAllLogs = IsNoRound (Taken 1 ∷ Harvested 1 [] ∷ WordCopied 32 64 0 0 false ∷ [])

-- It copies the second page of a slot before the first.
abbrev pub PagesInOrder : Type 0
PagesInOrder = IsNoRound (Taken 1 ∷ Harvested 1 [] ∷ Taken 5 ∷ Harvested 5 [] ∷ WordCopied 33 65 0 0 false ∷ [])

-- It copies the pages of the slot with the higher ID first.
abbrev pub SlotsInOrder : Type 0
SlotsInOrder = IsNoRound (Taken 1 ∷ Harvested 1 [] ∷ Taken 5 ∷ Harvested 5 [] ∷ WordCopied 8 0 0 0 false ∷ [])

-- It copies the second word of a page before the first.
abbrev pub WordsInOrder : Type 0
WordsInOrder = IsNoRound (Taken 1 ∷ Harvested 1 [] ∷ Taken 5 ∷ Harvested 5 [] ∷ WordCopied 32 64 1 0 true ∷ [])

-- An access is made once the guest is stopped, by a line that looked at the pause before it was set.
abbrev pub late_access : Line
late_access = access_line 6 0 0 0 Read

abbrev pub StoppedMakesNone : Type 0
StoppedMakesNone =
    IsLawful migration_sizes first_flat
    (one_by_one migration_sizes started first_facts
    ++ (map (by late_access) (Begun late_access ∷ LookedAtPause ∷ LookedAtSlots ∷ LookedAtHost 0 ∷ [])
    ++ (map (by (call_line 5 Finish)) (Begun (call_line 5 Finish) ∷ PauseSet ∷ GuestStopped ∷ [])
    ++ (by late_access (Accessed 0 0 Read 0 0) ∷ [])))) → ⊥

-- A finish leaves out a page that is dirty, whose writer's line is still under way.
abbrev pub written : Line
written = access_line 5 0 0 0 (Write 7)

abbrev pub write_reaches : List Event
write_reaches = map (by written) (Begun written ∷ LookedAtPause ∷ LookedAtSlots ∷ LookedAtHost 0 ∷ Accessed 0 0 (Write 7) 0 0 ∷ [])

abbrev pub FinishTakesAll : Type 0
FinishTakesAll =
    IsLawful migration_sizes first_flat
    (one_by_one migration_sizes started first_facts
    ++ (write_reaches ++ map (by (call_line 6 Finish)) (Begun (call_line 6 Finish) ∷ PauseSet ∷ GuestStopped ∷ Taken 0 ∷ Harvested 0 [] ∷ []))) → ⊥
