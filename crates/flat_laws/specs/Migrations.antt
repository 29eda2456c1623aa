-- Closed traces of migrations, and the bytes that they print.
use Rattle.std.specs.Prelude.{ℕ, ◌≡◌, List, [], ◌∷◌, ◌++◌, true, codes}
use Rattle.core_views.specs.declared.sizes.LogMode.{LogMode}
use Rattle.core_views.specs.declared.sizes.LogMode.TheVariants.{Automatic, ManualAllSet}
use Rattle.core_views.specs.declared.sizes.Sizes.{Sizes}
use Rattle.core_views.specs.declared.trace.Command.TheVariants.{GetLog, Migrate, SetLog, SetSlot}
use Rattle.core_views.specs.declared.trace.Line.{Line}
use Rattle.core_views.specs.declared.trace.MigrationCall.{MigrationCall}
use Rattle.core_views.specs.declared.trace.MigrationCall.TheVariants.{Start, Round, Finish, Resume}
use Rattle.core_views.specs.declared.trace.Op.TheVariants.{Add, Read, Write}
use Rattle.core_views.specs.Flat.{first_facts}
use Rattle.core_views.specs.FlatHistory.{one_by_one}
use Rattle.core_views.specs.Text.{text}
use Rattle.flat_laws.specs.Laws.{access_line, example_sizes, manage}
use Rattle.flat_laws.specs.SlotLines.{open_slot}

-- 64 host pages of one word each.
abbrev pub migration_sizes : Sizes
migration_sizes = record {
  pages = 64;
  frames = 64;
  words = 1;
  pool = 4;
  cache = 64;
  vcpus = 2;
  hosts = 1;
  workers = 0;
  mode = Automatic;
  first_pages = 0 ∷ 64 ∷ 64 ∷ 64 ∷ [];
}

abbrev pub call_line : ℕ → MigrationCall → Line
call_line number call = manage number (Migrate call)

-- 128 host pages of two words each, in this mode of the log.
abbrev pub paged_sizes : LogMode → Sizes
paged_sizes mode = record example_sizes { mode = mode }

-- Slot 5 has guest frames 8 and 9, which are host pages 0 and 1; slot 1 has guest frames 32 to 34, which are host pages 64 to 66. Both have a dirty log.
abbrev pub two_slots : List Line
two_slots =
    manage 2 (SetSlot 5 (open_slot 8 2 0))
    ∷ manage 3 (SetSlot 1 (open_slot 32 3 64))
    ∷ manage 4 (SetLog 5 true)
    ∷ manage 5 (SetLog 1 true)
    ∷ []

-- A round copies each page, the next one those that were written since, of both slots, and the line that finishes the rest. The image is the guest's memory
-- by rising ID, page and word. In the pause no access is made.
abbrev pub migration : List Line
migration =
    access_line 6 0 32 1 (Write 7)
    ∷ call_line 7 Start
    ∷ call_line 8 Round
    ∷ access_line 9 1 34 0 (Write 3)
    ∷ access_line 10 0 8 1 (Write 9)
    ∷ call_line 11 Round
    ∷ access_line 12 0 9 0 (Add 4)
    ∷ access_line 13 1 9 1 (Write 5)
    ∷ call_line 14 Finish
    ∷ access_line 15 0 33 0 Read
    ∷ call_line 16 Resume
    ∷ []

-- After it writes are logged as before. Another one copies each page again, and has no word of the first.
abbrev pub next_migration : List Line
next_migration =
    access_line 17 1 33 1 (Write 6)
    ∷ manage 18 (GetLog 1)
    ∷ manage 19 (GetLog 5)
    ∷ call_line 20 Start
    ∷ access_line 21 0 8 1 (Write 0)
    ∷ call_line 22 Round
    ∷ call_line 23 Finish
    ∷ call_line 24 Resume
    ∷ access_line 25 0 34 0 Read
    ∷ []

abbrev pub MigrationPrints : LogMode → Type 0
MigrationPrints mode = text (one_by_one (paged_sizes mode) (two_slots ++ (migration ++ next_migration)) first_facts)
    ≡ codes "2 vm done\n3 vm done\n4 vm done\n5 vm done\n6 v0 frame 64 value 0\n7 vm done\n8 vm copied 5\n"
    ++ codes "9 v1 frame 66 value 0\n10 v0 frame 0 value 0\n11 vm copied 2\n12 v0 frame 1 value 0\n13 v1 frame 1 value 0\n"
    ++ codes "14 vm image 1:0:1=7 1:2:0=3 5:0:1=9 5:1:0=4 5:1:1=5\n15 v0 paused\n16 vm done\n"
    ++ codes "17 v1 frame 65 value 0\n18 vm bits 0x2\n19 vm bits 0x0\n20 vm done\n21 v0 frame 0 value 9\n22 vm copied 5\n"
    ++ codes "23 vm image 1:0:1=7 1:1:1=6 1:2:0=3 5:1:0=4 5:1:1=5\n24 vm done\n25 v0 frame 66 value 3\n"

-- The same in a log that a get clears, and in one in which each page is dirty as it begins.
abbrev pub MigrationsPrint : Type 0
MigrationsPrint = MigrationPrints Automatic × MigrationPrints ManualAllSet

-- With no slot there is nothing to copy.
abbrev pub empty_migration : List Line
empty_migration = call_line 2 Start ∷ call_line 3 Round ∷ call_line 4 Finish ∷ call_line 5 Resume ∷ []

abbrev pub EmptyPrints : Type 0
EmptyPrints = text (one_by_one migration_sizes empty_migration first_facts) ≡ codes "2 vm done\n3 vm copied 0\n4 vm image\n5 vm done\n"
