-- Closed histories of dirty logs that flat guest memory doesn't allow: readings that leave out a frame, or hold one too many, or take the frames out where they
-- are to stay, and logs that don't begin as they must. And one race, in which a reading leaves out a frame that another line still writes.
use Rattle.std.specs.Prelude.{ℕ, List, [], ◌∷◌, ◌++◌, true, false, map, Some}
use Rattle.core_views.specs.declared.answer.Answer.{Answer}
use Rattle.core_views.specs.declared.answer.Answer.TheVariants.{Bits, Done, Reached}
use Rattle.core_views.specs.declared.event.Event.{Event}
use Rattle.core_views.specs.declared.event.EventKind.{EventKind}
use Rattle.core_views.specs.declared.event.EventKind.TheVariants.{Accessed, Answered, Armed, Begun, Harvested, LookedAtHost, LookedAtPause, LookedAtSlots}
use Rattle.core_views.specs.declared.event.EventKind.TheVariants.{Shown, SlotChanged, Taken}
use Rattle.core_views.specs.declared.sizes.LogMode.{LogMode}
use Rattle.core_views.specs.declared.sizes.LogMode.TheVariants.{Automatic, Manual, ManualAllSet}
use Rattle.core_views.specs.declared.trace.Command.TheVariants.{GetLog, SetLog}
use Rattle.core_views.specs.declared.trace.Line.{Line}
use Rattle.core_views.specs.declared.trace.Op.TheVariants.{Write}
use Rattle.core_views.specs.Flat.{first_facts, first_flat}
use Rattle.core_views.specs.FlatHistory.{answers, by, one_by_one}
use Rattle.flat_laws.specs.Laws.{access_line, manage}
use Rattle.core_views.specs.Lawful.{IsLawful}
use Rattle.flat_laws.specs.SlotLines.{open_slot}
use Rattle.log_laws.specs.LogTraces.{log_sizes, slot_of_pages, with_log}

-- The line begins, does these, and is answered so.
abbrev pub whole_line : Line → List EventKind → Answer → List Event
whole_line line kinds answer = by line (Begun line) ∷ (map (by line) kinds ++ answers line answer)

-- These lines run alone, one after another, and then this one does so. That isn't allowed.
abbrev pub IsUnlawfulIn : LogMode → List Line → Line → List EventKind → Answer → Type 0
IsUnlawfulIn mode lines line kinds answer =
    IsLawful (log_sizes mode) first_flat (one_by_one (log_sizes mode) lines first_facts ++ whole_line line kinds answer) → ⊥

-- a write of guest frame 1, which is host page 1
abbrev pub write_line : Line
write_line = access_line 4 0 1 0 (Write 7)

-- The write was answered before the get began, which leaves its frame out.
abbrev pub WrittenIsNotLeftOut : Type 0
WrittenIsNotLeftOut =
    IsUnlawfulIn Automatic (with_log 16 (write_line ∷ [])) (manage 5 (GetLog 0)) (Taken 0 ∷ Harvested 0 [] ∷ []) (Bits (0 ∷ []))

-- Nobody wrote the frame that the get reads.
abbrev pub UnwrittenIsNotRead : Type 0
UnwrittenIsNotRead = IsUnlawfulIn Automatic (with_log 16 []) (manage 4 (GetLog 0)) (Taken 0 ∷ Harvested 0 (1 ∷ []) ∷ []) (Bits (2 ∷ []))

-- The get before it took the frame out of the log, and nobody wrote it since.
abbrev pub TakenIsNotReadAgain : Type 0
TakenIsNotReadAgain =
    IsUnlawfulIn Automatic (with_log 16 (write_line ∷ manage 5 (GetLog 0) ∷ [])) (manage 6 (GetLog 0)) (Taken 0 ∷ Harvested 0 (1 ∷ []) ∷ [])
    (Bits (2 ∷ []))

-- A get of a manual log takes no frame out of it, and one of an automatic log leaves none there.
abbrev pub ManualGetTakesNone : Type 0
ManualGetTakesNone =
    IsUnlawfulIn Manual (with_log 16 (write_line ∷ [])) (manage 5 (GetLog 0)) (Taken 0 ∷ Harvested 0 (1 ∷ []) ∷ []) (Bits (2 ∷ []))

abbrev pub AutomaticGetTakesAll : Type 0
AutomaticGetTakesAll =
    IsUnlawfulIn Automatic (with_log 16 (write_line ∷ [])) (manage 5 (GetLog 0)) (Taken 0 ∷ Shown 0 (1 ∷ []) ∷ []) (Bits (2 ∷ []))

-- the change of the slot of 16 pages that gives it a dirty log
abbrev pub gets_log : EventKind
gets_log = SlotChanged 0 (Some (record { slot = open_slot 0 16 0; logged = true }))

-- The line that begins a log is done before writes are logged.
abbrev pub LogBeginsArmed : Type 0
LogBeginsArmed = IsUnlawfulIn Automatic (slot_of_pages 16 ∷ []) (manage 3 (SetLog 0 true)) (gets_log ∷ []) Done

-- A log begins with no page dirty where each is to be, and with each page dirty where none is to be.
abbrev pub LogBeginsAllSet : Type 0
LogBeginsAllSet = IsUnlawfulIn ManualAllSet (slot_of_pages 16 ∷ []) (manage 3 (SetLog 0 true)) (gets_log ∷ Armed 0 false ∷ []) Done

abbrev pub LogBeginsClean : Type 0
LogBeginsClean = IsUnlawfulIn Automatic (slot_of_pages 16 ∷ []) (manage 3 (SetLog 0 true)) (gets_log ∷ Armed 0 true ∷ []) Done

-- v1 writes the frame that v0 writes.
abbrev pub other_line : Line
other_line = access_line 5 1 1 0 (Write 8)

-- a get that reads these frames, and answers these words
abbrev pub get_of : Line → List ℕ → List ℕ → List Event
get_of line frames words = whole_line line (Taken 0 ∷ Harvested 0 frames ∷ []) (Bits words)

-- v0's write is under way while v1's write of the same frame is made and answered. A get leaves the frame out. Then v0's write is made and answered.
abbrev pub race : List Event
race =
    one_by_one (log_sizes Automatic) (with_log 16 []) first_facts
    ++ (map (by write_line) (Begun write_line ∷ LookedAtPause ∷ LookedAtSlots ∷ LookedAtHost 1 ∷ [])
    ++ (whole_line other_line (LookedAtPause ∷ LookedAtSlots ∷ LookedAtHost 1 ∷ Accessed 1 0 (Write 8) 1 0 ∷ []) (Reached 1 0)
    ++ (get_of (manage 6 (GetLog 0)) [] (0 ∷ [])
    ++ map (by write_line) (Accessed 1 0 (Write 7) 1 8 ∷ Answered 4 (Reached 1 8) ∷ []))))

-- The race is lawful, and so is it with a get after it that reads the frame.
abbrev pub RaceIsLawful : Type 0
RaceIsLawful = IsLawful (log_sizes Automatic) first_flat (race ++ get_of (manage 7 (GetLog 0)) (1 ∷ []) (2 ∷ []))

-- With a get after it that leaves the frame out too it is not.
abbrev pub NextGetReadsIt : Type 0
NextGetReadsIt = IsLawful (log_sizes Automatic) first_flat (race ++ get_of (manage 7 (GetLog 0)) [] (0 ∷ [])) → ⊥
