-- A closed weave with lines above `go`: the trace of examples/lost-write.trace, its turns, and its text (docs/LOST-WRITE.md tells it).
use Rattle.std.specs.Prelude.{ℕ, List, [], ◌∷◌, ◌++◌, replicate, codes, Some, false, true}
use Rattle.core_views.specs.declared.actor.Actor.TheVariants.{Manager, Vcpu}
use Rattle.core_views.specs.declared.trace.Command.TheVariants.{GetLog, SetLog, SetSlot}
use Rattle.core_views.specs.declared.trace.Header.{Header}
use Rattle.core_views.specs.declared.trace.Line.{Line}
use Rattle.core_views.specs.declared.trace.Op.TheVariants.{Read, Write}
use Rattle.core_views.specs.declared.trace.Slot.{Slot}
use Rattle.core_views.specs.declared.trace.Trace.{Trace}
use Rattle.core_views.specs.declared.trace.Until.TheVariants.{Answered, Made}
use Rattle.core_views.specs.Traces.{IsTrace}
use Rattle.flat_laws.specs.Laws.{access_line, manage}
use Rattle.weave_laws.specs.ExampleWeave.{WeavesInOrder}

-- A machine of two virtual processors and a host thread, whose pool has eight pages.
abbrev pub lost_write_header : Header
lost_write_header = record {
  version = 1;
  vcpus = 2;
  workers = 0;
  pages = 64;
  frames = 64;
  words = 1;
  pool = 8;
  cache = 4;
  manual = 0;
  hosts = 0 ∷ [];
}

-- guest frames 0 to 15 are the host pages 0 to 15
abbrev pub lost_write_slot : Slot
lost_write_slot = record { base = 0; pages = 16; host = 0; read_only = false }

-- A slot is set, its log begins, and a processor reads guest frame 3.
abbrev pub slot_line : Line
slot_line = manage 5 (SetSlot 0 lost_write_slot)

abbrev pub log_line : Line
log_line = manage 6 (SetLog 0 true)

abbrev pub read_line : Line
read_line = access_line 7 0 3 0 Read

-- Line 8 is `go`. Then both processors write there, and the manager gets the log twice.
abbrev pub write_line : Line
write_line = access_line 9 0 3 0 (Write 5)

abbrev pub other_line : Line
other_line = access_line 10 1 3 0 (Write 9)

abbrev pub get_line : Line
get_line = manage 11 (GetLog 0)

abbrev pub again_line : Line
again_line = manage 12 (GetLog 0)

-- The items are `> v0 swap` (the kind with number 13), `> v1 end`, `> vm end`, `> v0 end` and `> vm end`.
abbrev pub lost_write_trace : Trace
lost_write_trace = record {
  header = lost_write_header;
  lines = slot_line ∷ log_line ∷ read_line ∷ write_line ∷ other_line ∷ get_line ∷ again_line ∷ [];
  go = Some 3;
  items =
      record { actor = Vcpu 0; until = Made 13 }
      ∷ record { actor = Vcpu 1; until = Answered }
      ∷ record { actor = Manager; until = Answered }
      ∷ record { actor = Vcpu 0; until = Answered }
      ∷ record { actor = Manager; until = Answered }
      ∷ [];
}

-- Its numbers are in the ranges of a trace.
abbrev pub LostWriteIsTrace : Type 0
LostWriteIsTrace = IsTrace lost_write_trace

-- Above `go` the slot line makes 524 turns, the log 533, and the read, for which three tables are missing, 1,581. The first write meets the leaf, which
-- forbids it, leaves the guest (8), and comes to the exchange of its fast fault (12). The other write goes by this leaf (9). A get that finds no bit makes 8
-- turns. The first write marks, ends its fast fault, and goes by the leaf (11). The second get forbids writes in the leaf, too (13). No line is left for
-- the rounds.
abbrev pub lost_write_order : List ℕ
lost_write_order =
    replicate 524 3
    ++ (replicate 533 3 ++ (replicate 1581 0 ++ (replicate 20 0 ++ (replicate 9 1 ++ (replicate 8 3 ++ (replicate 11 0 ++ replicate 13 3))))))

-- The turns in this order are those of the one weave of this race, which prints this text. The write of 9 finds 0, and is answered before the first get, which
-- has no page; the write of 5 finds 9; and the second get has the page of both.
abbrev pub LostWriteWeaves : Type 0
LostWriteWeaves =
    (limit : ℕ) → WeavesInOrder lost_write_trace limit lost_write_order
    (codes "5 vm done\n6 vm done\n7 v0 frame 3 value 0\n10 v1 frame 3 value 0\n11 vm bits 0x0\n9 v0 frame 3 value 9\n12 vm bits 0x8\n")
