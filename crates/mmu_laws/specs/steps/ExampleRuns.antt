-- A run in which two slots are set, and guest frames are accessed: one that no slot has, one whose fault fills and links three tables, and others by
-- what is cached and what stands.
use Rattle.std.specs.Prelude.{◌≡◌, ℕ, List, [], ◌∷◌, ◌++◌, replicate, codes, true, false}
use Rattle.core_views.specs.declared.answer.Answer.TheVariants.{Done, Mmio, Reached}
use Rattle.core_views.specs.declared.event.Event.{Event}
use Rattle.core_views.specs.declared.event.EventKind.TheVariants.{Accessed, Answered, Begun, Exited, LookedAtHost, LookedAtPause, LookedAtSlots, SlotChanged}
use Rattle.core_views.specs.declared.trace.Line.{Line}
use Rattle.core_views.specs.declared.trace.Op.TheVariants.{Add, Read, Write}
use Rattle.core_views.specs.FlatHistory.{by}
use Rattle.flat_laws.specs.Laws.{access_line, example_slot}
use Rattle.core_views.specs.Text.{text}
use Rattle.mmu_laws.specs.steps.ExampleSteps.{RunTells, run_sizes, set_line, set_read_only_line, unlogged}

-- One processor accesses a guest frame that no slot has, and another one writes to a frame of the first slot.
abbrev pub outsider_line : Line
outsider_line = access_line 4 0 9 0 (Write 7)

abbrev pub write_line : Line
write_line = access_line 5 1 6 0 (Write 7)

-- The first one reads what was written, and adds to it, and the other one reads the sum.
abbrev pub reader_line : Line
reader_line = access_line 6 0 6 0 Read

abbrev pub add_line : Line
add_line = access_line 7 0 6 0 (Add 2)

abbrev pub sum_line : Line
sum_line = access_line 8 1 6 0 Read

-- The first one reads a frame of the read-only slot, and then writes to it.
abbrev pub other_slot_line : Line
other_slot_line = access_line 9 0 17 0 Read

abbrev pub forbidden_line : Line
forbidden_line = access_line 10 0 17 0 (Write 7)

abbrev pub run_lines : List Line
run_lines = set_line ∷ set_read_only_line ∷ outsider_line ∷ write_line ∷ reader_line ∷ add_line ∷ sum_line ∷ other_slot_line ∷ forbidden_line ∷ []

-- A slot line loads the word of the pool's map and claims a page, fills its 512 words and its role, takes the lock, finds no invalidation
-- open, publishes the page, gives the lock back, looks at each of the three other actors, and takes the role from the old page and gives
-- it back: 524 steps, for each of both slots.
-- Then an access finds no entry, leaves, and its fault loads the words of all slots, up to its answer.
-- The write finds no entry either. Its fault claims a page for a table of each level below the root, fills its 512 entries and its role,
-- and links it; it puts the leaf; and in another stay in the guest the processor walks to this leaf, touches, and leaves.
-- The read walks to the same leaf: 9 steps. The addition and the second read go by what is cached: 4 steps each.
-- The read of the other slot finds the tables, and its fault puts a leaf alone. It is cached, but doesn't allow the write after it, which
-- walks and leaves: 8 steps. Its fast fault finds the slot and walks to the leaf, in which writes can't be allowed: 16 steps. Its whole fault
-- finds that the slot is read-only: 12 steps.
abbrev pub run_order : List ℕ
run_order = replicate 1048 3 ++ (replicate 47 0 ++ (replicate 1581 1 ++ (replicate 13 0 ++ (replicate 4 1 ++ (replicate 40 0 ++ replicate 36 0)))))

-- what they tell
abbrev pub run_events : List Event
run_events =
    by set_line (Begun set_line)
    ∷ by set_line (SlotChanged 0 (unlogged (example_slot 5 64 false)))
    ∷ by set_line (Answered 2 Done)
    ∷ by set_read_only_line (Begun set_read_only_line)
    ∷ by set_read_only_line (SlotChanged 1 (unlogged (example_slot 16 0 true)))
    ∷ by set_read_only_line (Answered 3 Done)
    ∷ by outsider_line (Begun outsider_line)
    ∷ by outsider_line LookedAtPause
    ∷ by outsider_line LookedAtSlots
    ∷ by outsider_line (Exited Mmio)
    ∷ by outsider_line (Answered 4 Mmio)
    ∷ by write_line (Begun write_line)
    ∷ by write_line LookedAtPause
    ∷ by write_line LookedAtSlots
    ∷ by write_line (LookedAtHost 65)
    ∷ by write_line LookedAtPause
    ∷ by write_line (Accessed 6 0 (Write 7) 65 0)
    ∷ by write_line (Answered 5 (Reached 65 0))
    ∷ by reader_line (Begun reader_line)
    ∷ by reader_line LookedAtPause
    ∷ by reader_line (Accessed 6 0 Read 65 7)
    ∷ by reader_line (Answered 6 (Reached 65 7))
    ∷ by add_line (Begun add_line)
    ∷ by add_line LookedAtPause
    ∷ by add_line (Accessed 6 0 (Add 2) 65 7)
    ∷ by add_line (Answered 7 (Reached 65 7))
    ∷ by sum_line (Begun sum_line)
    ∷ by sum_line LookedAtPause
    ∷ by sum_line (Accessed 6 0 Read 65 9)
    ∷ by sum_line (Answered 8 (Reached 65 9))
    ∷ by other_slot_line (Begun other_slot_line)
    ∷ by other_slot_line LookedAtPause
    ∷ by other_slot_line LookedAtSlots
    ∷ by other_slot_line (LookedAtHost 1)
    ∷ by other_slot_line LookedAtPause
    ∷ by other_slot_line (Accessed 17 0 Read 1 0)
    ∷ by other_slot_line (Answered 9 (Reached 1 0))
    ∷ by forbidden_line (Begun forbidden_line)
    ∷ by forbidden_line LookedAtPause
    ∷ by forbidden_line LookedAtSlots
    ∷ by forbidden_line LookedAtSlots
    ∷ by forbidden_line (Exited Mmio)
    ∷ by forbidden_line (Answered 10 Mmio)
    ∷ []

abbrev pub ExampleRuns : Type 0
ExampleRuns = RunTells run_sizes run_lines run_order run_events

-- So it prints this.
abbrev pub ExamplePrints : Type 0
ExamplePrints = text run_events
    ≡ codes "2 vm done\n3 vm done\n4 v0 mmio\n5 v1 frame 65 value 0\n6 v0 frame 65 value 7\n7 v0 frame 65 value 7\n"
    ++ codes "8 v1 frame 65 value 9\n9 v0 frame 1 value 0\n10 v0 mmio\n"
