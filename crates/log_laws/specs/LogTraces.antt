-- Closed traces of lines that begin, read, clear and end dirty logs, and the bytes that they print, by the rules of docs/TRACE.md.
use Rattle.std.specs.Prelude.{◌≡◌, ◌+◌, ◌^◌, ◌++◌, ℕ, List, [], ◌∷◌, true, false, codes}
use Rattle.core_views.specs.declared.sizes.LogMode.{LogMode}
use Rattle.core_views.specs.declared.sizes.LogMode.TheVariants.{Automatic, Manual, ManualAllSet}
use Rattle.core_views.specs.declared.sizes.Sizes.{Sizes}
use Rattle.core_views.specs.declared.trace.Command.TheVariants.{ClearLog, GetLog, SetLog}
use Rattle.core_views.specs.declared.trace.Line.{Line}
use Rattle.core_views.specs.declared.trace.Op.TheVariants.{Read, Write}
use Rattle.core_views.specs.Flat.{first_facts}
use Rattle.core_views.specs.FlatHistory.{one_by_one}
use Rattle.flat_laws.specs.Laws.{access_line, manage, manager_line}
use Rattle.flat_laws.specs.SlotLines.{deletion_line, open_slot}
use Rattle.core_views.specs.Text.{text}

-- a machine of 128 host pages, whose dirty logs are taken so
abbrev pub log_sizes : LogMode → Sizes
log_sizes mode = record {
  pages = 128;
  frames = 129;
  words = 1;
  pool = 64;
  cache = 64;
  vcpus = 2;
  hosts = 1;
  workers = 1;
  mode = mode;
  first_pages = 0 ∷ 128 ∷ 128 ∷ 128 ∷ [];
}

-- Guest frames from 0 on, so many, are the host pages from 0 on.
abbrev pub slot_of_pages : ℕ → Line
slot_of_pages pages = manager_line 2 0 (open_slot 0 pages 0)

-- the slot of so many pages, its log, and these lines
abbrev pub with_log : ℕ → List Line → List Line
with_log pages lines = slot_of_pages pages ∷ manage 3 (SetLog 0 true) ∷ lines

-- The lines, one after another, print these bytes.
abbrev pub Print : LogMode → List Line → List ℕ → Type 0
Print mode lines bytes = text (one_by_one (log_sizes mode) lines first_facts) ≡ bytes

-- Two frames are written, and a get reads them; the next get reads none.
abbrev pub GetPrints : Type 0
GetPrints =
    Print Automatic
    (with_log 16
    (access_line 4 0 1 0 (Write 7) ∷ access_line 5 1 9 0 (Write 8) ∷ manage 6 (GetLog 0) ∷ manage 7 (GetLog 0) ∷ []))
    (codes "2 vm done\n3 vm done\n4 v0 frame 1 value 0\n5 v1 frame 9 value 0\n6 vm bits 0x202\n7 vm bits 0x0\n")

-- A read makes no frame dirty.
abbrev pub ReadPrints : Type 0
ReadPrints =
    Print Automatic (with_log 16 (access_line 4 0 1 0 Read ∷ manage 5 (GetLog 0) ∷ []))
    (codes "2 vm done\n3 vm done\n4 v0 frame 1 value 0\n5 vm bits 0x0\n")

-- The last bit of the first word, and the first one of the next.
abbrev pub WordsPrint : Type 0
WordsPrint =
    Print Automatic (with_log 100 (access_line 4 0 63 0 (Write 7) ∷ access_line 5 0 64 0 (Write 8) ∷ manage 6 (GetLog 0) ∷ []))
    (codes "2 vm done\n3 vm done\n4 v0 frame 63 value 0\n5 v0 frame 64 value 0\n6 vm bits 0x8000000000000000 0x1\n")

-- Pages that begin within a word of the log, pages that end within one, before the slot's end, and pages up to that end.
abbrev pub RangesPrint : Type 0
RangesPrint =
    Print Automatic
    (with_log 100
    (access_line 4 0 64 0 (Write 7)
    ∷ manage 5 (ClearLog 0 32 64 (0 ∷ []))
    ∷ manage 6 (ClearLog 0 64 30 (1 ∷ []))
    ∷ manage 7 (ClearLog 0 64 36 (1 ∷ []))
    ∷ []))
    (codes "2 vm done\n3 vm done\n4 v0 frame 64 value 0\n5 vm refused bad-range\n6 vm refused bad-range\n7 vm bits 0x1\n")

-- The slot's last page, with a bit that is of no page; no pages at all, within the slot and past it.
abbrev pub EndsPrint : Type 0
EndsPrint =
    Print Automatic
    (with_log 100
    (access_line 4 0 99 0 (Write 7)
    ∷ manage 5 (ClearLog 0 64 36 ((2 ^ 35 + 2 ^ 36) ∷ []))
    ∷ manage 6 (GetLog 0)
    ∷ manage 7 (ClearLog 0 64 0 [])
    ∷ manage 8 (ClearLog 0 128 0 [])
    ∷ []))
    (codes "2 vm done\n3 vm done\n4 v0 frame 99 value 0\n5 vm bits 0x800000000\n6 vm bits 0x0 0x0\n7 vm bits\n8 vm refused bad-range\n")

-- A get of a manual log only looks, and a clear takes the frame out. A write after that makes it dirty again.
abbrev pub ManualPrints : Type 0
ManualPrints =
    Print Manual
    (with_log 16
    (access_line 4 0 1 0 (Write 1)
    ∷ manage 5 (GetLog 0)
    ∷ access_line 6 0 1 0 (Write 2)
    ∷ manage 7 (ClearLog 0 0 16 (2 ∷ []))
    ∷ manage 8 (GetLog 0)
    ∷ access_line 9 0 1 0 (Write 3)
    ∷ manage 10 (GetLog 0)
    ∷ []))
    (codes "2 vm done\n3 vm done\n4 v0 frame 1 value 0\n5 vm bits 0x2\n6 v0 frame 1 value 1\n7 vm bits 0x2\n8 vm bits 0x0\n"
    ++ codes "9 v0 frame 1 value 2\n10 vm bits 0x2\n")

-- Each page is dirty as the log begins, and a clear takes one out.
abbrev pub AllSetPrints : Type 0
AllSetPrints =
    Print ManualAllSet (with_log 16 (manage 4 (GetLog 0) ∷ manage 5 (ClearLog 0 0 16 (1 ∷ [])) ∷ manage 6 (GetLog 0) ∷ []))
    (codes "2 vm done\n3 vm done\n4 vm bits 0xffff\n5 vm bits 0x1\n6 vm bits 0xfffe\n")

-- A log that isn't there is neither read nor ended, and one that is there doesn't begin again. Its slot is neither moved nor deleted, but may be set as it is.
abbrev pub RefusalsPrint : Type 0
RefusalsPrint =
    Print Automatic
    (slot_of_pages 16
    ∷ manage 3 (GetLog 0)
    ∷ manage 4 (GetLog 5)
    ∷ manage 5 (SetLog 0 true)
    ∷ manage 6 (SetLog 0 true)
    ∷ manager_line 7 0 (open_slot 32 16 0)
    ∷ deletion_line 8 0
    ∷ manager_line 9 0 (open_slot 0 16 0)
    ∷ manage 10 (SetLog 0 false)
    ∷ manage 11 (SetLog 0 false)
    ∷ manage 12 (ClearLog 0 0 16 (1 ∷ []))
    ∷ manage 13 (SetLog 5 true)
    ∷ [])
    (codes "2 vm done\n3 vm refused no-log\n4 vm refused missing\n5 vm done\n6 vm refused logged\n7 vm refused logged\n8 vm refused logged\n"
    ++ codes "9 vm done\n10 vm done\n11 vm refused no-log\n12 vm refused no-log\n13 vm refused missing\n")
