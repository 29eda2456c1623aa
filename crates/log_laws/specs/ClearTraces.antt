-- More closed traces of dirty logs, and the bytes that they print, by the rules of docs/TRACE.md: clears over two words, which of a clear's refusals comes
-- first, and logs of a slot that isn't the first.
use Rattle.std.specs.Prelude.{◌≡◌, [], ◌∷◌, true, false, codes}
use Rattle.core_views.specs.declared.sizes.LogMode.TheVariants.{Automatic, Manual, ManualAllSet}
use Rattle.core_views.specs.declared.trace.Command.TheVariants.{ClearLog, GetLog, SetLog}
use Rattle.core_views.specs.declared.trace.Op.TheVariants.{Write}
use Rattle.flat_laws.specs.Laws.{access_line, manage, manager_line}
use Rattle.core_views.specs.Sizes.{mode_of}
use Rattle.flat_laws.specs.SlotLines.{open_slot}
use Rattle.log_laws.specs.LogTraces.{Print, slot_of_pages, with_log}

-- Of two dirty frames a clear names the one of its second word, and the other one stays dirty.
abbrev pub SecondWordPrints : Type 0
SecondWordPrints =
    Print Automatic
    (with_log 100
    (access_line 4 0 1 0 (Write 7)
    ∷ access_line 5 1 64 0 (Write 8)
    ∷ manage 6 (ClearLog 0 0 100 (0 ∷ 1 ∷ []))
    ∷ manage 7 (GetLog 0)
    ∷ []))
    (codes "2 vm done\n3 vm done\n4 v0 frame 1 value 0\n5 v1 frame 64 value 0\n6 vm bits 0x0 0x1\n7 vm bits 0x2 0x0\n")

-- Of 100 pages 64 from page 64 on reach past the slot, and 36 from page 0 on end within a word; 64 and all 100 from page 0 on are whole words.
abbrev pub WholeWordsPrint : Type 0
WholeWordsPrint =
    Print Automatic
    (with_log 100
    (manage 4 (ClearLog 0 64 64 (0 ∷ []))
    ∷ manage 5 (ClearLog 0 0 36 (1 ∷ []))
    ∷ manage 6 (ClearLog 0 0 64 (1 ∷ []))
    ∷ manage 7 (ClearLog 0 0 100 (0 ∷ 0 ∷ []))
    ∷ []))
    (codes "2 vm done\n3 vm done\n4 vm refused bad-range\n5 vm refused bad-range\n6 vm bits 0x0\n7 vm bits 0x0 0x0\n")

-- A clear of a slot that isn't there, or has no log, is refused for that, whatever its pages are; so is a log that is to end.
abbrev pub FirstRefusalPrints : Type 0
FirstRefusalPrints =
    Print Manual
    (slot_of_pages 16
    ∷ manage 3 (ClearLog 0 32 64 (0 ∷ []))
    ∷ manage 4 (ClearLog 5 32 64 (0 ∷ []))
    ∷ manage 5 (SetLog 5 false)
    ∷ [])
    (codes "2 vm done\n3 vm refused no-log\n4 vm refused missing\n5 vm refused missing\n")

-- Slot 3, whose first guest frame is 32: a get reads what was written of it.
abbrev pub OtherSlotPrints : Type 0
OtherSlotPrints =
    Print Automatic
    (manager_line 2 3 (open_slot 32 16 0) ∷ manage 3 (SetLog 3 true) ∷ access_line 4 0 33 0 (Write 7) ∷ manage 5 (GetLog 3) ∷ [])
    (codes "2 vm done\n3 vm done\n4 v0 frame 1 value 0\n5 vm bits 0x2\n")

-- Where each page is dirty as a log begins, these are all pages of the slot.
abbrev pub EachPagePrints : Type 0
EachPagePrints =
    Print ManualAllSet (manager_line 2 3 (open_slot 32 100 0) ∷ manage 3 (SetLog 3 true) ∷ manage 4 (GetLog 3) ∷ [])
    (codes "2 vm done\n3 vm done\n4 vm bits 0xffffffffffffffff 0xfffffffff\n")

-- The modes by the header's number.
abbrev pub ModesTell : Type 0
ModesTell = (mode_of 0 ≡ Automatic) × (mode_of 1 ≡ Manual) × (mode_of 2 ≡ ManualAllSet)
