-- A run in which a slot is moved beside a fault, is set again as it is, and is deleted beside an access in the guest.
use Rattle.std.specs.Prelude.{◌≡◌, List, [], ◌∷◌, ◌++◌, replicate, codes, ℕ, false, true, None}
use Rattle.core_views.specs.declared.answer.Answer.TheVariants.{Done, Mmio, Reached}
use Rattle.core_views.specs.declared.event.Event.{Event}
use Rattle.core_views.specs.declared.event.EventKind.TheVariants.{Accessed, Answered, Begun, Exited, LookedAtHost, LookedAtPause, LookedAtSlots, SlotChanged}
use Rattle.core_views.specs.declared.trace.Line.{Line}
use Rattle.core_views.specs.declared.trace.Op.TheVariants.{Read, Write}
use Rattle.core_views.specs.FlatHistory.{by}
use Rattle.flat_laws.specs.Laws.{access_line, example_slot, manager_line}
use Rattle.flat_laws.specs.SlotLines.{deletion_line}
use Rattle.core_views.specs.Text.{text}
use Rattle.spte_words.specs.declared.area.Area.TheVariants as area
use Rattle.spte_words.specs.Areas.{pool_index}
use Rattle.spte_words.specs.Entries.{leaf_word}
use Rattle.mmu_laws.specs.steps.ExampleHost.{write_first}
use Rattle.mmu_laws.specs.steps.ExampleSteps.{RunDelays, RunLeaves, run_sizes, set_line, unlogged}

-- The slot of guest frames 5 to 7 is moved by one frame; then it is set as it is; and it is deleted.
abbrev pub move_line : Line
move_line = manager_line 4 0 (example_slot 6 64 false)

abbrev pub read_beside : Line
read_beside = access_line 5 1 7 0 Read

abbrev pub same_line : Line
same_line = manager_line 6 0 (example_slot 6 64 false)

abbrev pub delete_line : Line
delete_line = deletion_line 7 0

abbrev pub read_inside : Line
read_inside = access_line 8 0 7 0 Read

abbrev pub read_gone : Line
read_gone = access_line 9 1 7 0 Read

abbrev pub slots_lines : List Line
slots_lines = set_line ∷ write_first ∷ move_line ∷ read_beside ∷ same_line ∷ delete_line ∷ read_inside ∷ read_gone ∷ []

-- The first processor's write has put the leaf of guest frame 6. The second one's fault of guest frame 7 has looked at host page 66, which the slot gives it.
abbrev pub order_to_look : List ℕ
order_to_look = replicate 524 3 ++ replicate 1581 0 ++ replicate 16 1

-- The manager makes so many steps of the move.
abbrev pub order_to_move : ℕ → List ℕ
order_to_move steps = order_to_look ++ replicate steps 3

-- With these it waits for the fault's section. The fault finds that an invalidation has ended, begins anew, and finds guest frame 7 at host page 65.
abbrev pub order_to_read : List ℕ
order_to_read = order_to_move 581 ++ replicate 41 1

-- The move is answered, and the slot set as it is with one step. Another read of guest frame 7 is in the guest, with its leaf cached.
abbrev pub order_to_cache : List ℕ
order_to_cache = order_to_read ++ replicate 5 3 ++ replicate 7 0

-- The deletion zaps the leaf, asks both processors for a flush, and waits for the first one, which reads and leaves.
abbrev pub order_to_wait : List ℕ
order_to_wait = order_to_cache ++ replicate 567 3

-- The deletion is answered; and the next read finds no slot.
abbrev pub slots_order : List ℕ
slots_order = order_to_wait ++ replicate 2 0 ++ replicate 18 3 ++ replicate 44 1

abbrev pub events_to_read : List Event
events_to_read =
    by set_line (Begun set_line)
    ∷ by set_line (SlotChanged 0 (unlogged (example_slot 5 64 false)))
    ∷ by set_line (Answered 2 Done)
    ∷ by write_first (Begun write_first)
    ∷ by write_first LookedAtPause
    ∷ by write_first LookedAtSlots
    ∷ by write_first (LookedAtHost 65)
    ∷ by write_first LookedAtPause
    ∷ by write_first (Accessed 6 0 (Write 7) 65 0)
    ∷ by write_first (Answered 3 (Reached 65 0))
    ∷ by read_beside (Begun read_beside)
    ∷ by read_beside LookedAtPause
    ∷ by read_beside LookedAtSlots
    ∷ by read_beside (LookedAtHost 66)
    ∷ by move_line (Begun move_line)
    ∷ by move_line (SlotChanged 0 (unlogged (example_slot 6 64 false)))
    ∷ by read_beside LookedAtPause
    ∷ by read_beside LookedAtSlots
    ∷ by read_beside (LookedAtHost 65)
    ∷ by read_beside LookedAtPause
    ∷ by read_beside (Accessed 7 0 Read 65 7)
    ∷ by read_beside (Answered 5 (Reached 65 7))
    ∷ []

abbrev pub slots_events : List Event
slots_events =
    events_to_read
    ++ (by move_line (Answered 4 Done)
    ∷ by same_line (Begun same_line)
    ∷ by same_line (Answered 6 Done)
    ∷ by read_inside (Begun read_inside)
    ∷ by read_inside LookedAtPause
    ∷ by delete_line (Begun delete_line)
    ∷ by read_inside (Accessed 7 0 Read 65 7)
    ∷ by read_inside (Answered 8 (Reached 65 7))
    ∷ by delete_line (SlotChanged 0 None)
    ∷ by delete_line (Answered 7 Done)
    ∷ by read_gone (Begun read_gone)
    ∷ by read_gone LookedAtPause
    ∷ by read_gone LookedAtSlots
    ∷ by read_gone (Exited Mmio)
    ∷ by read_gone (Answered 9 Mmio)
    ∷ [])

-- The fault beside the move is delayed once, and the deletion is, by the processor in the guest. The move zaps the leaf where the slot was, while the range of
-- open invalidations is the old guest frames, and before its set is published in pool page 5; the number of invalidations is raised after the publication. The
-- deletion zaps the leaf where the slot is, before its set is published in pool page 2, which the move had given back. In the end none is open.
abbrev pub ExampleSlots : Type 0
ExampleSlots =
    RunDelays run_sizes slots_lines order_to_read events_to_read 1 1
    × RunDelays run_sizes slots_lines slots_order slots_events 3 1
    × RunLeaves run_sizes slots_lines (order_to_move 562) area.Pool (pool_index 4 6) (leaf_word 1 65 true true true)
    × RunLeaves run_sizes slots_lines (order_to_move 563) area.Pool (pool_index 4 6) 0
    × RunLeaves run_sizes slots_lines (order_to_move 563) area.RangeStart 0 5
    × RunLeaves run_sizes slots_lines (order_to_move 563) area.RangeEnd 0 8
    × RunLeaves run_sizes slots_lines (order_to_move 571) area.Slots 0 2
    × RunLeaves run_sizes slots_lines (order_to_move 572) area.Slots 0 5
    × RunLeaves run_sizes slots_lines (order_to_move 572) area.Count 0 1
    × RunLeaves run_sizes slots_lines (order_to_move 572) area.Seq 0 0
    × RunLeaves run_sizes slots_lines order_to_cache area.Seq 0 1
    × RunLeaves run_sizes slots_lines order_to_wait area.Pool (pool_index 4 7) 0
    × RunLeaves run_sizes slots_lines order_to_wait area.Slots 0 5
    × RunLeaves run_sizes slots_lines slots_order area.Slots 0 2
    × RunLeaves run_sizes slots_lines slots_order area.Seq 0 2
    × RunLeaves run_sizes slots_lines slots_order area.Count 0 0
    × (text slots_events
    ≡ codes "2 vm done\n3 v0 frame 65 value 0\n5 v1 frame 65 value 7\n4 vm done\n6 vm done\n"
    ++ codes "8 v0 frame 65 value 7\n7 vm done\n9 v1 mmio\n")
