-- What holds of the definitions alone.
use Rattle.std.specs.Prelude.{◌≡◌, ◌-◌, ◌^◌, ℕ, List, [], ◌∷◌, Bool, true, false, codes, ◌++◌}
use Rattle.core_views.specs.declared.actor.Actor.TheVariants.{Vcpu, Manager}
use Rattle.core_views.specs.declared.event.Event.{Event}
use Rattle.core_views.specs.declared.trace.Command.{Command}
use Rattle.core_views.specs.declared.trace.Command.TheVariants.{Access, SetSlot}
use Rattle.core_views.specs.declared.sizes.LogMode.TheVariants.{Automatic}
use Rattle.core_views.specs.declared.sizes.Sizes.{Sizes}
use Rattle.core_views.specs.declared.trace.Line.{Line}
use Rattle.core_views.specs.declared.trace.Op.{Op}
use Rattle.core_views.specs.declared.trace.Op.TheVariants.{Read, Write, Add}
use Rattle.core_views.specs.declared.trace.Slot.{Slot}
use Rattle.core_views.specs.Flat.{first_facts, first_flat}
use Rattle.core_views.specs.Lawful.{IsLawful}
use Rattle.core_views.specs.Whole.{IsWhole}
use Rattle.core_views.specs.FlatHistory.{one_by_one}
use Rattle.core_views.specs.Alone.{FallAsFlat, StandsAlone, without_looks}
use Rattle.core_views.specs.Text.{text, answers_of}

-- Lines that run alone, one after another, are lawful.
abbrev pub FlatIsLawful : Type 0
FlatIsLawful = (z : Sizes) (lines : List Line) → IsLawful z first_flat (one_by_one z lines first_facts)

-- They are begun and answered, each once, in the order of each actor.
abbrev pub FlatIsWhole : Type 0
FlatIsWhole = (z : Sizes) (lines : List Line) → IsWhole (one_by_one z lines first_facts) lines

-- Each of them stands alone, in their order.
abbrev pub FlatStandsAlone : Type 0
FlatStandsAlone = (z : Sizes) (lines : List Line) → StandsAlone (one_by_one z lines first_facts) lines

-- A lawful history in which each line stands alone, and the open choices fall as the flat history's do, is the flat history, but for what the lines looked at.
abbrev pub AloneIsFlat : Type 0
AloneIsFlat = (z : Sizes) (lines : List Line) (h : List Event) → IsLawful z first_flat h → StandsAlone h lines → FallAsFlat z first_flat h
    → without_looks h ≡ without_looks (one_by_one z lines first_facts)

-- So it answers and prints the same.
abbrev pub AloneAnswersAsFlat : Type 0
AloneAnswersAsFlat = (z : Sizes) (lines : List Line) (h : List Event) → IsLawful z first_flat h → StandsAlone h lines → FallAsFlat z first_flat h
    → (answers_of h ≡ answers_of (one_by_one z lines first_facts)) × (text h ≡ text (one_by_one z lines first_facts))

-- Where each line stands alone, each is begun and answered, once, in the order of its actor, however the choices fall.
abbrev pub AloneIsWhole : Type 0
AloneIsWhole = (lines : List Line) (h : List Event) → StandsAlone h lines → IsWhole h lines

abbrev pub example_sizes : Sizes
example_sizes = record {
  pages = 128;
  frames = 128;
  words = 2;
  pool = 4;
  cache = 64;
  vcpus = 2;
  hosts = 1;
  workers = 0;
  mode = Automatic;
  first_pages = 0 ∷ 128 ∷ 128 ∷ 128 ∷ [];
}

abbrev pub example_slot : ℕ → ℕ → Bool → Slot
example_slot base host read_only = record { base = base; pages = 3; host = host; read_only = read_only }

abbrev pub manage : ℕ → Command → Line
manage number command = record { number = number; actor = Manager; command = command }

abbrev pub manager_line : ℕ → ℕ → Slot → Line
manager_line number id slot = manage number (SetSlot id slot)

abbrev pub access_line : ℕ → ℕ → ℕ → ℕ → Op → Line
access_line number vcpu gfn word op = record { number = number; actor = Vcpu vcpu; command = Access gfn word op }

-- slots that are refused, a read-only slot and one after it, and accesses on both sides of the ends of both, to both words of a page
abbrev pub example : List Line
example =
    manager_line 2 0 (example_slot (2 ^ 36 - 2) 64 false)
    ∷ manager_line 3 32 (example_slot 5 64 false)
    ∷ manager_line 4 1 (example_slot 5 64 true)
    ∷ access_line 5 0 6 0 (Write 7)
    ∷ access_line 6 0 6 0 Read
    ∷ manager_line 7 2 (example_slot 7 0 false)
    ∷ manager_line 8 3 (example_slot 8 64 false)
    ∷ manager_line 9 4 (example_slot 8 0 false)
    ∷ access_line 10 0 9 0 (Write 7)
    ∷ access_line 11 1 9 1 (Write 8)
    ∷ access_line 12 1 9 0 (Add (2 ^ 64 - 1))
    ∷ access_line 13 0 9 0 Read
    ∷ access_line 14 0 9 1 Read
    ∷ access_line 15 0 8 1 Read
    ∷ access_line 16 0 10 1 Read
    ∷ access_line 17 0 7 1 Read
    ∷ access_line 18 0 4 1 Read
    ∷ access_line 19 0 11 1 Read
    ∷ []

abbrev pub FlatPrints : Type 0
FlatPrints = text (one_by_one example_sizes example first_facts)
    ≡ codes "2 vm refused too-large\n3 vm refused bad-id\n4 vm done\n5 v0 mmio\n6 v0 frame 65 value 0\n"
    ++ codes "7 vm refused overlap\n8 vm refused host-overlap\n9 vm done\n10 v0 frame 1 value 0\n11 v1 frame 1 value 0\n"
    ++ codes "12 v1 frame 1 value 7\n13 v0 frame 1 value 6\n14 v0 frame 1 value 8\n15 v0 frame 0 value 0\n"
    ++ codes "16 v0 frame 2 value 0\n17 v0 frame 66 value 0\n18 v0 mmio\n19 v0 mmio\n"
