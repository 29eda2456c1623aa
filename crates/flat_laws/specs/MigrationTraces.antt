-- More closed traces of migrations: rounds, and lines that are refused.
use Rattle.std.specs.Prelude.{ℕ, ◌+◌, ◌≡◌, List, [], ◌∷◌, ◌++◌, true, false, codes}
use Rattle.core_views.specs.declared.trace.Command.TheVariants.{ClearLog, DeleteSlot, GetLog, SetLog, SetSlot}
use Rattle.core_views.specs.declared.trace.Header.{Header}
use Rattle.core_views.specs.declared.trace.Line.{Line}
use Rattle.core_views.specs.declared.trace.MigrationCall.TheVariants.{Start, Round, Finish, Resume}
use Rattle.core_views.specs.declared.trace.Op.TheVariants.{Add, Read, Write}
use Rattle.core_views.specs.Flat.{first_facts}
use Rattle.core_views.specs.FlatHistory.{one_by_one}
use Rattle.core_views.specs.Sizes.{sizes_of}
use Rattle.core_views.specs.Text.{text}
use Rattle.flat_laws.specs.Laws.{access_line, manage}
use Rattle.flat_laws.specs.Migrations.{call_line, migration_sizes}
use Rattle.flat_laws.specs.SlotLines.{open_slot}

-- 1024 host pages: tdp 1 vcpus 2 workers 1 pages 1024 frames 1040 words 1 pool 64 cache 64 manual 0 hosts 0
abbrev pub wide_header : Header
wide_header = record { version = 1; vcpus = 2; workers = 1; pages = 1024; frames = 1040; words = 1; pool = 64; cache = 64; manual = 0; hosts = 0 ∷ [] }

-- These lines, one after another, print these bytes.
abbrev pub WidePrint : List Line → List ℕ → Type 0
WidePrint lines bytes = text (one_by_one (sizes_of wide_header) lines first_facts) ≡ bytes

-- Guest frames 0 to 15 are host pages 0 to 15, and have a dirty log. The first round copies all of them, and the next one the page that was written since.
abbrev pub rounds : List Line
rounds =
    manage 2 (SetSlot 0 (open_slot 0 16 0))
    ∷ manage 3 (SetLog 0 true)
    ∷ access_line 4 0 2 0 (Write 7)
    ∷ call_line 5 Start
    ∷ call_line 6 Round
    ∷ access_line 7 0 2 0 (Add 5)
    ∷ call_line 8 Round
    ∷ call_line 9 Finish
    ∷ access_line 10 0 2 0 Read
    ∷ call_line 11 Resume
    ∷ access_line 12 0 2 0 Read
    ∷ []

abbrev pub RoundsPrint : Type 0
RoundsPrint =
    WidePrint rounds
    (codes "2 vm done\n3 vm done\n4 v0 frame 2 value 0\n5 vm done\n6 vm copied 16\n7 v0 frame 2 value 7\n8 vm copied 1\n"
    ++ codes "9 vm image 0:2:0=12\n10 v0 paused\n11 vm done\n12 v0 frame 2 value 12\n")

-- Each line is refused for the first reason that holds: before its slot has a log, with a log that stays, in a migration, and after it.
abbrev pub first_refusals : List Line
first_refusals =
    manage 2 (SetSlot 0 (open_slot 0 16 0))
    ∷ manage 3 (GetLog 0)
    ∷ call_line 4 Round
    ∷ call_line 5 Start
    ∷ manage 6 (GetLog 5)
    ∷ manage 7 (SetLog 0 true)
    ∷ manage 8 (SetLog 0 true)
    ∷ manage 9 (SetSlot 0 (open_slot 32 16 0))
    ∷ call_line 10 Start
    ∷ manage 11 (GetLog 0)
    ∷ call_line 12 Finish
    ∷ call_line 13 Resume
    ∷ manage 14 (SetLog 0 false)
    ∷ manage 15 (ClearLog 0 0 16 (1 ∷ []))
    ∷ []

abbrev pub FirstRefusalsPrint : Type 0
FirstRefusalsPrint =
    WidePrint first_refusals
    (codes "2 vm done\n3 vm refused no-log\n4 vm refused not-started\n5 vm refused not-logged\n6 vm refused missing\n7 vm done\n"
    ++ codes "8 vm refused logged\n9 vm refused logged\n10 vm done\n11 vm refused migrating\n12 vm image\n13 vm done\n14 vm done\n"
    ++ codes "15 vm refused no-log\n")

-- Nine lines that are refused while a migration goes on, whatever else they would be answered.
abbrev pub barred_lines : ℕ → List Line
barred_lines n =
    call_line n Start
    ∷ manage (n + 1) (GetLog 0)
    ∷ manage (n + 2) (ClearLog 0 0 4 (1 ∷ []))
    ∷ manage (n + 3) (SetLog 0 false)
    ∷ manage (n + 4) (SetLog 0 true)
    ∷ manage (n + 5) (SetLog 5 false)
    ∷ manage (n + 6) (DeleteSlot 0)
    ∷ manage (n + 7) (DeleteSlot 40)
    ∷ manage (n + 8) (SetSlot 40 (open_slot 8 4 0))
    ∷ []

-- Why lines are refused before a migration, in one that runs, and in one that has stopped the guest.
abbrev pub refusals : List Line
refusals =
    manage 2 (SetSlot 0 (open_slot 0 4 0))
    ∷ call_line 3 Round
    ∷ call_line 4 Finish
    ∷ call_line 5 Resume
    ∷ call_line 6 Start
    ∷ manage 7 (SetLog 0 true)
    ∷ call_line 8 Start
    ∷ (barred_lines 9
    ++ (call_line 18 Resume
    ∷ call_line 19 Finish
    ∷ call_line 20 Round
    ∷ call_line 21 Finish
    ∷ (barred_lines 22 ++ (call_line 31 Resume ∷ manage 32 (SetLog 0 false) ∷ []))))

abbrev pub RefusalsPrint : Type 0
RefusalsPrint = text (one_by_one migration_sizes refusals first_facts)
    ≡ codes "2 vm done\n3 vm refused not-started\n4 vm refused not-started\n5 vm refused not-started\n6 vm refused not-logged\n7 vm done\n"
    ++ codes "8 vm done\n9 vm refused migrating\n10 vm refused migrating\n11 vm refused migrating\n12 vm refused migrating\n"
    ++ codes "13 vm refused migrating\n14 vm refused migrating\n15 vm refused migrating\n16 vm refused migrating\n17 vm refused migrating\n"
    ++ codes "18 vm refused not-started\n19 vm image\n20 vm refused not-started\n21 vm refused not-started\n22 vm refused migrating\n"
    ++ codes "23 vm refused migrating\n24 vm refused migrating\n25 vm refused migrating\n26 vm refused migrating\n27 vm refused migrating\n"
    ++ codes "28 vm refused migrating\n29 vm refused migrating\n30 vm refused migrating\n31 vm done\n32 vm done\n"
