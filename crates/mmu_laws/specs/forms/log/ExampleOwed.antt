-- A run in which two processors come to one leaf with fast faults: one allows writes in it, and the other one writes by it before the page is marked. A get
-- between this write and the mark waits for the second one and leaves the page out, and the next get reads it.
use Rattle.std.specs.Prelude.{◌≡◌, List, [], ◌∷◌, ◌++◌, replicate, codes, ℕ, Some, false, true}
use Rattle.core_views.specs.declared.answer.Answer.TheVariants.{Bits, Done, Reached}
use Rattle.core_views.specs.declared.event.Event.{Event}
use Rattle.core_views.specs.declared.event.EventKind.TheVariants.{Accessed, Answered, Armed, Begun, Harvested, LookedAtHost, LookedAtPause, LookedAtSlots}
use Rattle.core_views.specs.declared.event.EventKind.TheVariants.{SlotChanged, Taken}
use Rattle.core_views.specs.declared.place.AccessPlace.TheVariants.{Fault}
use Rattle.core_views.specs.declared.place.FaultPlace.TheVariants.{Fix, Mark}
use Rattle.core_views.specs.declared.place.LogPlace.TheVariants.{Await}
use Rattle.core_views.specs.declared.place.Place.TheVariants.{Access, Log}
use Rattle.core_views.specs.declared.trace.Command.TheVariants.{GetLog}
use Rattle.core_views.specs.declared.trace.Line.{Line}
use Rattle.core_views.specs.declared.trace.Op.TheVariants.{Write}
use Rattle.core_views.specs.FlatHistory.{by}
use Rattle.core_views.specs.Text.{text}
use Rattle.flat_laws.specs.Laws.{access_line, example_slot, manage}
use Rattle.spte_words.specs.declared.area.Area.TheVariants as area
use Rattle.spte_words.specs.Areas.{pool_index}
use Rattle.spte_words.specs.Entries.{leaf_word}
use Rattle.mmu_laws.specs.steps.ExampleLog.{log_line}
use Rattle.mmu_laws.specs.steps.ExampleSteps.{RunDelays, RunLeaves, RunStands, run_sizes, set_line, unlogged}

-- The slot has a dirty log before any table stands; a write to guest frame 6 puts its leaf and marks its page; and a get takes the mark.
abbrev pub log_early : Line
log_early = log_line 3 true

abbrev pub put_logged : Line
put_logged = access_line 4 0 6 0 (Write 7)

abbrev pub get_put : Line
get_put = manage 5 (GetLog 0)

-- Both processors write there, and the second one once more; and two gets read the log.
abbrev pub owing_line : Line
owing_line = access_line 6 0 6 0 (Write 9)

abbrev pub answered_line : Line
answered_line = access_line 7 1 6 0 (Write 5)

abbrev pub cached_line : Line
cached_line = access_line 8 1 6 0 (Write 6)

abbrev pub get_beside : Line
get_beside = manage 9 (GetLog 0)

abbrev pub get_next : Line
get_next = manage 10 (GetLog 0)

abbrev pub owed_lines : List Line
owed_lines = set_line ∷ log_early ∷ put_logged ∷ get_put ∷ owing_line ∷ answered_line ∷ cached_line ∷ get_beside ∷ get_next ∷ []

-- The leaf is put, and the first get makes these steps.
abbrev pub order_to_take : ℕ → List ℕ
order_to_take steps = replicate 524 3 ++ replicate 533 3 ++ replicate 1582 0 ++ replicate steps 3

-- The second processor's fast fault loads the leaf, and the first one's allows writes in it. Then the second processor makes these steps.
abbrev pub order_to_meet : ℕ → List ℕ
order_to_meet steps = order_to_take 13 ++ replicate 19 1 ++ replicate 20 0 ++ replicate steps 1

-- Its first line is answered, and it is in the guest with its next one. Then the second get makes these steps.
abbrev pub order_to_await : ℕ → List ℕ
order_to_await steps = order_to_meet 13 ++ replicate steps 3

-- It writes by what it has cached, and is answered; with its next step so is the get. Then the first processor makes these steps.
abbrev pub order_to_mark : ℕ → List ℕ
order_to_mark steps = order_to_await 8 ++ replicate 2 1 ++ replicate 1 3 ++ replicate steps 0

-- Once its line is answered, the last get reads the log.
abbrev pub owed_order : List ℕ
owed_order = order_to_mark 11 ++ replicate 13 3

abbrev pub events_to_mark : List Event
events_to_mark =
    by set_line (Begun set_line)
    ∷ by set_line (SlotChanged 0 (unlogged (example_slot 5 64 false)))
    ∷ by set_line (Answered 2 Done)
    ∷ by log_early (Begun log_early)
    ∷ by log_early (SlotChanged 0 (Some (record { slot = example_slot 5 64 false; logged = true })))
    ∷ by log_early (Armed 0 false)
    ∷ by log_early (Answered 3 Done)
    ∷ by put_logged (Begun put_logged)
    ∷ by put_logged LookedAtPause
    ∷ by put_logged LookedAtSlots
    ∷ by put_logged (LookedAtHost 65)
    ∷ by put_logged LookedAtPause
    ∷ by put_logged (Accessed 6 0 (Write 7) 65 0)
    ∷ by put_logged (Answered 4 (Reached 65 0))
    ∷ by get_put (Begun get_put)
    ∷ by get_put (Taken 0)
    ∷ by get_put (Harvested 0 (6 ∷ []))
    ∷ by get_put (Answered 5 (Bits (2 ∷ [])))
    ∷ by answered_line (Begun answered_line)
    ∷ by answered_line LookedAtPause
    ∷ by answered_line LookedAtSlots
    ∷ by owing_line (Begun owing_line)
    ∷ by owing_line LookedAtPause
    ∷ by owing_line LookedAtSlots
    ∷ by answered_line LookedAtPause
    ∷ by answered_line (Accessed 6 0 (Write 5) 65 7)
    ∷ by answered_line (Answered 7 (Reached 65 7))
    ∷ by cached_line (Begun cached_line)
    ∷ by cached_line LookedAtPause
    ∷ by get_beside (Begun get_beside)
    ∷ by get_beside (Taken 0)
    ∷ by cached_line (Accessed 6 0 (Write 6) 65 5)
    ∷ by cached_line (Answered 8 (Reached 65 5))
    ∷ by get_beside (Harvested 0 [])
    ∷ by get_beside (Answered 9 (Bits (0 ∷ [])))
    ∷ []

abbrev pub owed_events : List Event
owed_events =
    events_to_mark
    ++ by owing_line LookedAtPause
    ∷ by owing_line (Accessed 6 0 (Write 9) 65 6)
    ∷ by owing_line (Answered 6 (Reached 65 6))
    ∷ by get_next (Begun get_next)
    ∷ by get_next (Taken 0)
    ∷ by get_next (Harvested 0 (6 ∷ []))
    ∷ by get_next (Answered 10 (Bits (2 ∷ [])))
    ∷ []

-- The second get waits once, and reads nothing, though the frame was written before it began: the mark of its page is owed. The first get has forbidden writes
-- in the leaf. The first processor allows them while the second one stands before its own exchange, and stands before its mark until the second get is
-- answered. This get waits for the second processor, which is in the guest, while the first one is in a section; and it leaves the leaf as it is. After it the
-- first processor marks page 65, the second one of the log's second word; and the last get takes this mark.
abbrev pub ExampleOwed : Type 0
ExampleOwed =
    RunLeaves run_sizes owed_lines (order_to_take 8) area.Pool (pool_index 4 6) (leaf_word 1 65 false true true)
    × RunStands run_sizes owed_lines (order_to_meet 0) 0 (Access (Fault (Mark true)))
    × RunStands run_sizes owed_lines (order_to_meet 0) 1 (Access (Fault Fix))
    × RunLeaves run_sizes owed_lines (order_to_meet 0) area.Pool (pool_index 4 6) (leaf_word 1 65 true true true)
    × RunStands run_sizes owed_lines (order_to_await 8) 3 (Log Await)
    × RunLeaves run_sizes owed_lines (order_to_await 8) area.State 0 6
    × RunLeaves run_sizes owed_lines (order_to_await 8) area.State 1 7
    × RunDelays run_sizes owed_lines (order_to_mark 0) events_to_mark 3 1
    × RunStands run_sizes owed_lines (order_to_mark 0) 0 (Access (Fault (Mark true)))
    × RunLeaves run_sizes owed_lines (order_to_mark 0) area.Log 1 0
    × RunLeaves run_sizes owed_lines (order_to_mark 0) area.Pool (pool_index 4 6) (leaf_word 1 65 true true true)
    × RunLeaves run_sizes owed_lines (order_to_mark 1) area.Log 1 2
    × RunDelays run_sizes owed_lines owed_order owed_events 3 0
    × RunLeaves run_sizes owed_lines owed_order area.Log 1 0
    × RunLeaves run_sizes owed_lines owed_order area.Pool (pool_index 4 6) (leaf_word 1 65 false true true)
    × (text owed_events
    ≡ codes "2 vm done\n3 vm done\n4 v0 frame 65 value 0\n5 vm bits 0x2\n7 v1 frame 65 value 7\n8 v1 frame 65 value 5\n"
    ++ codes "9 vm bits 0x0\n6 v0 frame 65 value 6\n10 vm bits 0x2\n")
