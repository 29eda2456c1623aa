-- A run in which a host thread moves a page while a fault has looked at it, and then another one, whose content stays; and one in which no frame is free.
use Rattle.std.specs.Prelude.{◌≡◌, List, [], ◌∷◌, ◌++◌, replicate, codes, ℕ, true, false}
use Rattle.core_views.specs.declared.actor.Actor.TheVariants.{Host}
use Rattle.core_views.specs.declared.answer.Answer.TheVariants.{Done, Moved, Reached, Refused}
use Rattle.core_views.specs.declared.answer.Refusal.TheVariants.{NoFrame}
use Rattle.core_views.specs.declared.event.Event.{Event}
use Rattle.core_views.specs.declared.event.EventKind.TheVariants.{Accessed, Answered, Begun, Exited, HostChanged, LookedAtHost, LookedAtPause}
use Rattle.core_views.specs.declared.event.EventKind.TheVariants.{LookedAtSlots, SlotChanged}
use Rattle.core_views.specs.declared.sizes.Sizes.{Sizes}
use Rattle.core_views.specs.declared.trace.Command.TheVariants.{ChangeHost}
use Rattle.core_views.specs.declared.trace.HostChange.TheVariants.{Move}
use Rattle.core_views.specs.declared.trace.Line.{Line}
use Rattle.core_views.specs.declared.trace.Op.TheVariants.{Read, Write}
use Rattle.core_views.specs.FlatHistory.{by}
use Rattle.flat_laws.specs.Laws.{access_line, example_slot}
use Rattle.core_views.specs.Text.{text}
use Rattle.spte_words.specs.declared.area.Area.TheVariants as area
use Rattle.spte_words.specs.Areas.{content_index, pool_index}
use Rattle.spte_words.specs.Entries.{leaf_word}
use Rattle.spte_words.specs.HostWords.{host_word}
use Rattle.part_steps.specs.Tasks.{map_of}
use Rattle.mmu_laws.specs.steps.ExampleHost.{write_first}
use Rattle.mmu_laws.specs.steps.ExampleSteps.{RunDelays, RunLeaves, RunTells, run_sizes, set_line, unlogged}

-- a machine with one frame to spare
abbrev pub move_sizes : Sizes
move_sizes = record run_sizes { frames = 129 }

abbrev pub read_seven : Line
read_seven = access_line 4 1 7 1 Read

abbrev pub move_seven : Line
move_seven = record { number = 5; actor = Host 0; command = ChangeHost 66 Move }

abbrev pub move_six : Line
move_six = record { number = 6; actor = Host 0; command = ChangeHost 65 Move }

abbrev pub read_six : Line
read_six = access_line 7 0 6 0 Read

abbrev pub move_lines : List Line
move_lines = set_line ∷ write_first ∷ read_seven ∷ move_seven ∷ move_six ∷ read_six ∷ []

-- The first processor's write has put the leaf of guest frame 6. A fault of the second one looks at the host word of page 66, which has no leaf yet. Then the
-- host thread moves this page to the frame to spare, and waits for the fault's section.
abbrev pub order_to_watch : List ℕ
order_to_watch = replicate 524 3 ++ replicate 1581 0 ++ replicate 16 1 ++ replicate 38 2

-- The fault begins anew, since the sequence number is another one; the host thread gives the page's old frame back; and the access finds the page at its new
-- one.
abbrev pub order_after_move : List ℕ
order_after_move = order_to_watch ++ replicate 5 1 ++ replicate 3 2 ++ replicate 36 1

-- Now the host thread moves page 65, which has a leaf, to the frame that it has given back, and makes these steps.
abbrev pub order_to_move : ℕ → List ℕ
order_to_move steps = order_after_move ++ replicate steps 2

abbrev pub move_order : List ℕ
move_order = order_to_move 40 ++ replicate 36 0

abbrev pub move_events : List Event
move_events =
    by set_line (Begun set_line)
    ∷ by set_line (SlotChanged 0 (unlogged (example_slot 5 64 false)))
    ∷ by set_line (Answered 2 Done)
    ∷ by write_first (Begun write_first)
    ∷ by write_first LookedAtPause
    ∷ by write_first LookedAtSlots
    ∷ by write_first (LookedAtHost 65)
    ∷ by write_first LookedAtPause
    ∷ by write_first (Accessed 6 0 (Write 7) 65 0)
    ∷ by write_first (Answered 3 (Reached 65 0))
    ∷ by read_seven (Begun read_seven)
    ∷ by read_seven LookedAtPause
    ∷ by read_seven LookedAtSlots
    ∷ by read_seven (LookedAtHost 66)
    ∷ by move_seven (Begun move_seven)
    ∷ by move_seven (LookedAtHost 66)
    ∷ by move_seven (HostChanged 66 (record { frame = 128; present = true; writable = true; level = 1 }))
    ∷ by move_seven (Answered 5 (Moved 128))
    ∷ by read_seven LookedAtPause
    ∷ by read_seven LookedAtSlots
    ∷ by read_seven (LookedAtHost 66)
    ∷ by read_seven LookedAtPause
    ∷ by read_seven (Accessed 7 1 Read 128 0)
    ∷ by read_seven (Answered 4 (Reached 128 0))
    ∷ by move_six (Begun move_six)
    ∷ by move_six (LookedAtHost 65)
    ∷ by move_six (HostChanged 65 (record { frame = 66; present = true; writable = true; level = 1 }))
    ∷ by move_six (Answered 6 (Moved 66))
    ∷ by read_six (Begun read_six)
    ∷ by read_six LookedAtPause
    ∷ by read_six LookedAtSlots
    ∷ by read_six (LookedAtHost 65)
    ∷ by read_six LookedAtPause
    ∷ by read_six (Accessed 6 0 Read 66 7)
    ∷ by read_six (Answered 7 (Reached 66 7))
    ∷ []

-- In a machine with no frame to spare a move is refused.
abbrev pub move_none : Line
move_none = record { number = 2; actor = Host 0; command = ChangeHost 65 Move }

abbrev pub none_events : List Event
none_events =
    by move_none (Begun move_none)
    ∷ by move_none (LookedAtHost 65)
    ∷ by move_none (Exited (Refused NoFrame))
    ∷ by move_none (Answered 2 (Refused NoFrame))
    ∷ []

-- The fault that looked before the move is delayed once, and so is the move, which waits for its section. The content of page 65 is in the frame before the
-- page is: after 29 steps of its move it is copied, and the page is at its old frame; the next step puts it at the new one. Then the leaf is of this frame, two
-- invalidations have ended, none is open, and the one free frame is the page's old one.
abbrev pub ExampleMove : Type 0
ExampleMove =
    RunDelays move_sizes move_lines move_order move_events 1 1
    × RunDelays move_sizes move_lines move_order move_events 0 0
    × RunLeaves move_sizes move_lines order_to_watch area.Host 66 (host_word 128 true true 1)
    × RunLeaves move_sizes move_lines order_to_watch area.Seq 0 1
    × RunLeaves move_sizes move_lines order_to_watch area.FrameMap 2 0
    × RunLeaves move_sizes move_lines (order_to_move 29) area.Content (content_index (map_of move_sizes) 66 0) 7
    × RunLeaves move_sizes move_lines (order_to_move 29) area.Host 65 (host_word 65 true true 1)
    × RunLeaves move_sizes move_lines (order_to_move 30) area.Host 65 (host_word 66 true true 1)
    × RunLeaves move_sizes move_lines move_order area.Pool (pool_index 4 6) (leaf_word 1 66 true true true)
    × RunLeaves move_sizes move_lines move_order area.Seq 0 2
    × RunLeaves move_sizes move_lines move_order area.Count 0 0
    × RunLeaves move_sizes move_lines move_order area.FrameMap 1 2
    × (text move_events
    ≡ codes "2 vm done\n3 v0 frame 65 value 0\n5 h0 frame 128\n4 v1 frame 128 value 0\n6 h0 frame 66\n7 v0 frame 66 value 7\n")
    × RunTells run_sizes (move_none ∷ []) (replicate 3 2) none_events
    × (text none_events ≡ codes "2 h0 refused no-frame\n")
