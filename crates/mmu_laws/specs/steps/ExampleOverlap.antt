-- A run in which the invalidations of two host threads are open at a time, beside a processor that faults between their guest frames, and a slot line.
use Rattle.std.specs.Prelude.{◌≡◌, List, [], ◌∷◌, ◌++◌, replicate, codes, ℕ, false, true}
use Rattle.core_views.specs.declared.actor.Actor.TheVariants.{Host}
use Rattle.core_views.specs.declared.answer.Answer.TheVariants.{Done, Reached}
use Rattle.core_views.specs.declared.event.Event.{Event}
use Rattle.core_views.specs.declared.event.EventKind.TheVariants.{Accessed, Answered, Begun, HostChanged, LookedAtHost, LookedAtPause, LookedAtSlots}
use Rattle.core_views.specs.declared.event.EventKind.TheVariants.{SlotChanged}
use Rattle.core_views.specs.declared.sizes.Sizes.{Sizes}
use Rattle.core_views.specs.declared.trace.Command.TheVariants.{ChangeHost}
use Rattle.core_views.specs.declared.trace.HostChange.TheVariants.{Evict, Protect}
use Rattle.core_views.specs.declared.trace.Line.{Line}
use Rattle.core_views.specs.declared.trace.Op.TheVariants.{Read}
use Rattle.core_views.specs.FlatHistory.{by}
use Rattle.flat_laws.specs.Laws.{access_line, example_slot}
use Rattle.core_views.specs.Text.{text}
use Rattle.spte_words.specs.declared.area.Area.TheVariants as area
use Rattle.spte_words.specs.Areas.{pool_index}
use Rattle.spte_words.specs.Entries.{leaf_word}
use Rattle.mmu_laws.specs.steps.ExampleSteps.{RunDelays, RunLeaves, run_sizes, set_line, set_read_only_line, unlogged}

-- The first host thread has the pages up to page 65, and the second one those from page 66 on: so the slot of guest frames 5 to 7 has pages of both.
abbrev pub overlap_sizes : Sizes
overlap_sizes = record run_sizes { hosts = 2; first_pages = 0 ∷ 66 ∷ 128 ∷ 128 ∷ [] }

-- the first one's line, of the page of guest frame 5, and the second one's, of that of guest frame 7
abbrev pub protect_below : Line
protect_below = record { number = 4; actor = Host 0; command = ChangeHost 64 Protect }

abbrev pub evict_above : Line
evict_above = record { number = 5; actor = Host 1; command = ChangeHost 66 Evict }

abbrev pub read_inside : Line
read_inside = access_line 6 0 6 0 Read

abbrev pub overlap_lines : List Line
overlap_lines = set_line ∷ set_read_only_line ∷ protect_below ∷ evict_above ∷ read_inside ∷ []

-- The processors stand at places 0 and 1, the host threads at places 2 and 3, and the manager at place 4. The slot is set, and the first thread begins its
-- invalidation. Meanwhile the second thread looks at its page, and waits for the lock, which the first one has.
abbrev pub order_to_first : List ℕ
order_to_first = replicate 525 4 ++ replicate 10 2 ++ replicate 2 3 ++ replicate 8 2

-- The second thread begins its own: the range now covers guest frame 6 too, which is of neither. The processor's fault of this frame finds two open, and
-- begins anew. The manager's second slot line fills its page, takes the lock, finds two open, and gives the lock back.
abbrev pub order_to_both : List ℕ
order_to_both = order_to_first ++ replicate 19 3 ++ replicate 19 0 ++ replicate 518 4

-- The first thread ends its invalidation. The range stays while the other one is open: the next fault finds this one open and begins anew, and the manager
-- gives the lock back once more.
abbrev pub order_to_one : List ℕ
order_to_one = order_to_both ++ replicate 7 2 ++ replicate 19 0 ++ replicate 3 4

-- The third fault has its snapshot and looks at the host word; then the second thread ends its invalidation. Now the fault finds none open, but another
-- sequence number than its snapshot: it begins anew.
abbrev pub order_to_none : List ℕ
order_to_none = order_to_one ++ replicate 13 0 ++ replicate 7 3 ++ replicate 5 0

-- The fourth fault fills and links three tables and puts the leaf, by which the access goes through; and the manager publishes its page and is answered.
abbrev pub overlap_order : List ℕ
overlap_order = order_to_none ++ replicate 1581 0 ++ replicate 10 4

abbrev pub events_to_both : List Event
events_to_both =
    by set_line (Begun set_line)
    ∷ by set_line (SlotChanged 0 (unlogged (example_slot 5 64 false)))
    ∷ by set_line (Answered 2 Done)
    ∷ by protect_below (Begun protect_below)
    ∷ by protect_below (LookedAtHost 64)
    ∷ by evict_above (Begun evict_above)
    ∷ by evict_above (LookedAtHost 66)
    ∷ by read_inside (Begun read_inside)
    ∷ by read_inside LookedAtPause
    ∷ by read_inside LookedAtSlots
    ∷ by read_inside (LookedAtHost 65)
    ∷ by set_read_only_line (Begun set_read_only_line)
    ∷ []

abbrev pub events_to_one : List Event
events_to_one =
    events_to_both
    ++ (by protect_below (HostChanged 64 (record { frame = 64; present = true; writable = false; level = 1 }))
    ∷ by protect_below (Answered 4 Done)
    ∷ by read_inside LookedAtPause
    ∷ by read_inside LookedAtSlots
    ∷ by read_inside (LookedAtHost 65)
    ∷ [])

abbrev pub events_to_none : List Event
events_to_none =
    events_to_one
    ++ (by read_inside LookedAtPause
    ∷ by read_inside LookedAtSlots
    ∷ by read_inside (LookedAtHost 65)
    ∷ by evict_above (HostChanged 66 (record { frame = 66; present = false; writable = true; level = 1 }))
    ∷ by evict_above (Answered 5 Done)
    ∷ [])

abbrev pub overlap_events : List Event
overlap_events =
    events_to_none
    ++ (by read_inside LookedAtPause
    ∷ by read_inside LookedAtSlots
    ∷ by read_inside (LookedAtHost 65)
    ∷ by read_inside LookedAtPause
    ∷ by read_inside (Accessed 6 0 Read 65 0)
    ∷ by read_inside (Answered 6 (Reached 65 0))
    ∷ by set_read_only_line (SlotChanged 1 (unlogged (example_slot 16 0 true)))
    ∷ by set_read_only_line (Answered 3 Done)
    ∷ [])

-- The read is delayed once while both are open, once while one is, and once where none is any more; the slot line once while both are open, and once while one
-- is; and of the host threads only the second one, once. The first one's range is guest frame 5; with the second one's it is guest frames 5 to 7, and stays so
-- after the first one's end. After both ends the sequence number is 2, none is open, and the set in page 2 is still published; and in the end the leaf stands,
-- and the set in page 1 is published.
abbrev pub ExampleOverlap : Type 0
ExampleOverlap =
    RunDelays overlap_sizes overlap_lines order_to_both events_to_both 0 1
    × RunDelays overlap_sizes overlap_lines order_to_both events_to_both 4 1
    × RunDelays overlap_sizes overlap_lines order_to_one events_to_one 0 2
    × RunDelays overlap_sizes overlap_lines order_to_one events_to_one 4 2
    × RunDelays overlap_sizes overlap_lines order_to_none events_to_none 0 3
    × RunDelays overlap_sizes overlap_lines overlap_order overlap_events 0 3
    × RunDelays overlap_sizes overlap_lines overlap_order overlap_events 2 0
    × RunDelays overlap_sizes overlap_lines overlap_order overlap_events 3 1
    × RunDelays overlap_sizes overlap_lines overlap_order overlap_events 4 2
    × RunLeaves overlap_sizes overlap_lines order_to_first area.Count 0 1
    × RunLeaves overlap_sizes overlap_lines order_to_first area.RangeStart 0 5
    × RunLeaves overlap_sizes overlap_lines order_to_first area.RangeEnd 0 6
    × RunLeaves overlap_sizes overlap_lines order_to_both area.Count 0 2
    × RunLeaves overlap_sizes overlap_lines order_to_both area.RangeStart 0 5
    × RunLeaves overlap_sizes overlap_lines order_to_both area.RangeEnd 0 8
    × RunLeaves overlap_sizes overlap_lines order_to_one area.Seq 0 1
    × RunLeaves overlap_sizes overlap_lines order_to_one area.Count 0 1
    × RunLeaves overlap_sizes overlap_lines order_to_one area.RangeStart 0 5
    × RunLeaves overlap_sizes overlap_lines order_to_one area.RangeEnd 0 8
    × RunLeaves overlap_sizes overlap_lines order_to_none area.Seq 0 2
    × RunLeaves overlap_sizes overlap_lines order_to_none area.Count 0 0
    × RunLeaves overlap_sizes overlap_lines order_to_none area.Slots 0 2
    × RunLeaves overlap_sizes overlap_lines overlap_order area.Slots 0 1
    × RunLeaves overlap_sizes overlap_lines overlap_order area.Pool (pool_index 5 6) (leaf_word 1 65 true true true)
    × (text overlap_events ≡ codes "2 vm done\n4 h0 done\n5 h1 done\n6 v0 frame 65 value 0\n3 vm done\n")
