-- A history of two virtual processors that access one word in turn, while the lines of both are under way. What it shows is computed.
use Rattle.std.specs.Prelude.{◌≡◌, List, [], ◌∷◌, ◌++◌, Some, false}
use Rattle.core_views.specs.declared.actor.Actor.TheVariants.{Manager, Vcpu}
use Rattle.core_views.specs.declared.answer.Answer.TheVariants.{Done, Reached}
use Rattle.core_views.specs.declared.event.Event.{Event}
use Rattle.core_views.specs.declared.event.EventKind.TheVariants.{Accessed, Answered, Begun, LookedAtPause, SlotChanged}
use Rattle.core_views.specs.declared.sizes.LogMode.TheVariants.{Automatic}
use Rattle.core_views.specs.declared.sizes.Sizes.{Sizes}
use Rattle.core_views.specs.declared.trace.Command.TheVariants.{Access, SetSlot}
use Rattle.core_views.specs.declared.trace.Line.{Line}
use Rattle.core_views.specs.declared.trace.Op.TheVariants.{Add, Read, Write}
use Rattle.core_views.specs.declared.trace.Slot.{Slot}
use Rattle.core_views.specs.Events.{after_all}
use Rattle.core_views.specs.Flat.{first_flat}
use Rattle.core_views.specs.FlatHistory.{by}
use Rattle.core_views.specs.Lawful.{IsLawful}
use Rattle.core_views.specs.Whole.{lines_begun, lines_of}
use Rattle.word_laws.specs.Accesses.{accesses_by, answers_by, open_access, told_in}
use Rattle.word_laws.specs.Words.{HasNext}

abbrev pub example_sizes : Sizes
example_sizes = record {
  pages = 128;
  frames = 128;
  words = 2;
  pool = 4;
  cache = 64;
  vcpus = 2;
  hosts = 1;
  workers = 0;
  mode = Automatic;
  first_pages = 0 ∷ 128 ∷ 128 ∷ 128 ∷ [];
}

-- The slot gives guest frames 0 to 7 the host pages from 64 on.
abbrev pub example_slot : Slot
example_slot = record { base = 0; pages = 8; host = 64; read_only = false }

abbrev pub setting : Line
setting = record { number = 1; actor = Manager; command = SetSlot 0 example_slot }

-- Both virtual processors access word 1 of guest frame 3, which is host page 67: the first one writes 5 there, and reads it later.
abbrev pub writing : Line
writing = record { number = 2; actor = Vcpu 0; command = Access 3 1 (Write 5) }

abbrev pub adding : Line
adding = record { number = 3; actor = Vcpu 1; command = Access 3 1 (Add 7) }

abbrev pub reading : Line
reading = record { number = 4; actor = Vcpu 0; command = Access 3 1 Read }

-- up to the write, between the write and the read, and after the read
abbrev pub before_write : List Event
before_write =
    by setting (Begun setting) ∷ by setting (SlotChanged 0 (Some (record { slot = example_slot; logged = false }))) ∷ by setting (Answered 1 Done)
    ∷ by writing (Begun writing) ∷ by adding (Begun adding) ∷ by adding LookedAtPause ∷ by writing LookedAtPause ∷ []

abbrev pub before_read : List Event
before_read =
    by adding (Accessed 3 1 (Add 7) 67 5) ∷ by writing (Answered 2 (Reached 67 0)) ∷ by reading (Begun reading) ∷ by reading LookedAtPause ∷ []

abbrev pub after_read : List Event
after_read = by adding (Answered 3 (Reached 67 5)) ∷ by reading (Answered 4 (Reached 67 12)) ∷ []

abbrev pub example_history : List Event
example_history = before_write ++ (by writing (Accessed 3 1 (Write 5) 67 0) ∷ (before_read ++ (by reading (Accessed 3 1 Read 67 12) ∷ after_read)))

-- the same, but for what comes after the read
abbrev pub up_to_read : List Event
up_to_read = before_write ++ (by writing (Accessed 3 1 (Write 5) 67 0) ∷ (before_read ++ (by reading (Accessed 3 1 Read 67 12) ∷ [])))

-- The history is lawful. The read finds 12 where its own actor has written 5, since the other one has added 7 between.
abbrev pub AnAddComesBetween : Type 0
AnAddComesBetween =
    IsLawful example_sizes first_flat example_history × HasNext 67 1 first_flat example_history (Write 5) 0 (Add 7 ∷ []) Read 12

-- The first virtual processor begins two lines, makes the access of each, and is answered with what each found. Before the last answers the access of the
-- second one is open.
pub record TwoAccessesAreTold : Type 0 where
  pub begun : lines_of (Vcpu 0) (lines_begun example_history) ≡ writing ∷ reading ∷ []
  pub made : accesses_by (Vcpu 0) example_history first_flat
      ≡ record { line = writing; gfn = 3; word = 1; op = Write 5; frame = 67; value = 0 }
      ∷ record { line = reading; gfn = 3; word = 1; op = Read; frame = 67; value = 12 } ∷ []
  pub told : told_in (answers_by (Vcpu 0) example_history) ≡ record { number = 2; frame = 67; value = 0 } ∷ record { number = 4; frame = 67; value = 12 } ∷ []
  pub still_open : open_access ((after_all up_to_read first_flat).under (Vcpu 0)) ≡ record { number = 4; frame = 67; value = 12 } ∷ []
