-- Closed histories with lines of host threads: what such lines print alone, and what they may not do.
use Rattle.std.specs.Prelude.{◌≡◌, ℕ, List, [], ◌∷◌, ◌++◌, true, false, map, codes}
use Rattle.core_views.specs.declared.actor.Actor.TheVariants.{Host}
use Rattle.core_views.specs.declared.answer.Answer.{Answer}
use Rattle.core_views.specs.declared.answer.Answer.TheVariants.{Done, Moved, Reached}
use Rattle.core_views.specs.declared.event.EventKind.{EventKind}
use Rattle.core_views.specs.declared.event.EventKind.TheVariants.{Begun, LookedAtPause, LookedAtSlots, LookedAtHost, BroughtIn, Accessed, HostChanged}
use Rattle.core_views.specs.declared.sizes.LogMode.TheVariants.{Automatic}
use Rattle.core_views.specs.declared.sizes.Sizes.{Sizes}
use Rattle.core_views.specs.declared.trace.Command.TheVariants.{ChangeHost}
use Rattle.core_views.specs.declared.trace.HostChange.{HostChange}
use Rattle.core_views.specs.declared.trace.HostChange.TheVariants.{Move, Evict, Protect, Allow}
use Rattle.core_views.specs.declared.trace.Line.{Line}
use Rattle.core_views.specs.declared.trace.Op.TheVariants.{Read, Write, Add}
use Rattle.core_views.specs.Flat.{first_facts, first_flat}
use Rattle.core_views.specs.FlatHistory.{answers, by, one_by_one}
use Rattle.flat_laws.specs.Laws.{access_line, example_slot, manager_line}
use Rattle.core_views.specs.Lawful.{IsLawful}
use Rattle.core_views.specs.Text.{text}

-- Four host pages, of which h0 owns the first two and h1 the others, and one frame more.
abbrev pub host_sizes : Sizes
host_sizes = record {
  pages = 4;
  frames = 5;
  words = 1;
  pool = 4;
  cache = 64;
  vcpus = 1;
  hosts = 2;
  workers = 0;
  mode = Automatic;
  first_pages = 0 ∷ 2 ∷ 4 ∷ 4 ∷ [];
}

abbrev pub host_line : ℕ → ℕ → ℕ → HostChange → Line
host_line number host page change = record { number = number; actor = Host host; command = ChangeHost page change }

-- Guest frames 5 to 7 are host pages 0 to 2.
abbrev pub first_slot : Line
first_slot = manager_line 2 0 (example_slot 5 0 false)

-- Content stays where a page is moved and evicted; a write that the host forbids brings nothing in; a page is its owner's alone.
abbrev pub host_example : List Line
host_example =
    first_slot
    ∷ access_line 3 0 6 0 (Write 7)
    ∷ host_line 4 0 1 Move
    ∷ access_line 5 0 6 0 Read
    ∷ host_line 6 0 1 Evict
    ∷ host_line 7 0 1 Protect
    ∷ access_line 8 0 6 0 (Write 9)
    ∷ access_line 9 0 6 0 Read
    ∷ host_line 10 0 1 Allow
    ∷ access_line 11 0 6 0 (Add 3)
    ∷ host_line 12 0 1 Move
    ∷ access_line 13 0 6 0 Read
    ∷ host_line 14 0 2 Move
    ∷ host_line 15 1 2 Move
    ∷ host_line 16 1 4 Evict
    ∷ access_line 17 0 7 0 Read
    ∷ host_line 18 1 2 Evict
    ∷ host_line 19 1 2 Allow
    ∷ access_line 20 0 7 0 (Write 5)
    ∷ access_line 21 0 7 0 Read
    ∷ []

abbrev pub HostPrints : Type 0
HostPrints = text (one_by_one host_sizes host_example first_facts)
    ≡ codes "2 vm done\n3 v0 frame 1 value 0\n4 h0 frame 4\n5 v0 frame 4 value 7\n6 h0 done\n7 h0 done\n8 v0 hostfault\n"
    ++ codes "9 v0 frame 4 value 7\n10 h0 done\n11 v0 frame 4 value 7\n12 h0 frame 1\n13 v0 frame 1 value 10\n"
    ++ codes "14 h0 refused out-of-range\n15 h1 frame 4\n16 h1 refused out-of-range\n17 v0 frame 4 value 0\n18 h1 done\n"
    ++ codes "19 h1 done\n20 v0 frame 4 value 0\n21 v0 frame 4 value 5\n"

-- Where there are as many pages as frames none can be moved. A page that is not present still names its frame.
abbrev pub full_example : List Line
full_example = host_line 2 0 1 Move ∷ host_line 3 0 1 Evict ∷ host_line 4 0 1 Move ∷ []

abbrev pub FullPrints : Type 0
FullPrints = text (one_by_one (record host_sizes { frames = 4 }) full_example first_facts) ≡ codes "2 h0 refused no-frame\n3 h0 done\n4 h0 refused no-frame\n"

-- These lines run alone; then a line begins, does this, and is answered so. That is not allowed.
abbrev pub IsUnlawfulAfter : List Line → Line → List EventKind → Answer → Type 0
IsUnlawfulAfter lines line kinds answer =
    IsLawful host_sizes first_flat (one_by_one host_sizes lines first_facts ++ (by line (Begun line) ∷ (map (by line) kinds ++ answers line answer))) → ⊥

-- a read of guest frame 6, which is host page 1
abbrev pub read_line : Line
read_line = access_line 5 0 6 0 Read

-- It brings in a page that is present.
abbrev pub PresentIsNotBroughtIn : Type 0
PresentIsNotBroughtIn =
    IsUnlawfulAfter (first_slot ∷ []) read_line (LookedAtPause ∷ LookedAtSlots ∷ LookedAtHost 1 ∷ BroughtIn 1 ∷ Accessed 6 0 Read 1 0 ∷ []) (Reached 1 0)

-- It reaches a page that is not present.
abbrev pub AbsentIsNotReached : Type 0
AbsentIsNotReached =
    IsUnlawfulAfter (first_slot ∷ host_line 3 0 1 Evict ∷ []) read_line
    (LookedAtPause ∷ LookedAtSlots ∷ LookedAtHost 1 ∷ Accessed 6 0 Read 1 0 ∷ []) (Reached 1 0)

-- A write brings in a page to which the host forbids writes.
abbrev pub DeniedIsNotBroughtIn : Type 0
DeniedIsNotBroughtIn =
    IsUnlawfulAfter (first_slot ∷ host_line 3 0 1 Evict ∷ host_line 4 0 1 Protect ∷ []) (access_line 5 0 6 0 (Write 9))
    (LookedAtPause ∷ LookedAtSlots ∷ LookedAtHost 1 ∷ BroughtIn 1 ∷ Accessed 6 0 (Write 9) 1 0 ∷ []) (Reached 1 0)

-- A page is moved to a frame that another one names.
abbrev pub NamedIsNotTaken : Type 0
NamedIsNotTaken =
    IsUnlawfulAfter [] (host_line 2 0 1 Move)
    (LookedAtHost 1 ∷ HostChanged 1 (record { frame = 2; present = true; writable = true; level = 1 }) ∷ []) (Moved 2)

-- A host thread changes a page of another one.
abbrev pub OthersAreNotChanged : Type 0
OthersAreNotChanged =
    IsUnlawfulAfter [] (host_line 2 1 1 Allow) (LookedAtHost 1 ∷ HostChanged 1 (record { frame = 1; present = true; writable = true; level = 1 }) ∷ []) Done

-- It looks at another page than it changes.
abbrev pub UnseenIsNotChanged : Type 0
UnseenIsNotChanged =
    IsUnlawfulAfter [] (host_line 2 0 1 Allow) (LookedAtHost 0 ∷ HostChanged 1 (record { frame = 1; present = true; writable = true; level = 1 }) ∷ []) Done
