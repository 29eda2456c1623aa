-- A run in which a slot gets a dirty log while a fault is under way that has found none, and writes are logged.
use Rattle.std.specs.Prelude.{◌≡◌, List, [], ◌∷◌, ◌++◌, replicate, codes, ℕ, Bool, Some, false, true}
use Rattle.core_views.specs.declared.answer.Answer.TheVariants.{Done, Reached}
use Rattle.core_views.specs.declared.event.Event.{Event}
use Rattle.core_views.specs.declared.event.EventKind.TheVariants.{Accessed, Answered, Armed, Begun, LookedAtHost, LookedAtPause, LookedAtSlots, SlotChanged}
use Rattle.core_views.specs.declared.trace.Command.TheVariants.{SetLog}
use Rattle.core_views.specs.declared.trace.Line.{Line}
use Rattle.core_views.specs.declared.trace.Op.TheVariants.{Write}
use Rattle.core_views.specs.FlatHistory.{by}
use Rattle.core_views.specs.Text.{text}
use Rattle.flat_laws.specs.Laws.{access_line, example_slot, manage}
use Rattle.spte_words.specs.declared.area.Area.TheVariants as area
use Rattle.spte_words.specs.Areas.{pool_index}
use Rattle.spte_words.specs.Entries.{leaf_word}
use Rattle.mmu_laws.specs.steps.ExampleHost.{write_first}
use Rattle.mmu_laws.specs.steps.ExampleSteps.{RunDelays, RunLeaves, run_sizes, set_line, unlogged}

-- The second processor writes to guest frame 7; the dirty log of the slot begins; the first processor writes to guest frame 6 once more; and the log ends,
-- and begins again.
abbrev pub write_beside : Line
write_beside = access_line 4 1 7 1 (Write 5)

abbrev pub log_line : ℕ → Bool → Line
log_line number on = manage number (SetLog 0 on)

abbrev pub log_on : Line
log_on = log_line 5 true

abbrev pub write_logged : Line
write_logged = access_line 6 0 6 0 (Write 9)

abbrev pub log_off : Line
log_off = log_line 7 false

abbrev pub log_again : Line
log_again = log_line 8 true

abbrev pub log_lines : List Line
log_lines = set_line ∷ write_first ∷ write_beside ∷ log_on ∷ write_logged ∷ log_off ∷ log_again ∷ []

-- The leaf of guest frame 6 is there. The second processor's fault has found the slot without a log as the set with the log is published, and the manager
-- waits for its section.
abbrev pub order_to_watch : List ℕ
order_to_watch = replicate 524 3 ++ replicate 1581 0 ++ replicate 16 1 ++ replicate 522 3

-- So the fault puts a leaf that allows writes, and its processor writes. Then the manager goes on with so many steps of its line.
abbrev pub order_to_log : ℕ → List ℕ
order_to_log steps = order_to_watch ++ replicate 20 1 ++ replicate steps 3

-- Once its line is answered, the first processor makes so many steps of its own.
abbrev pub order_to_write : ℕ → List ℕ
order_to_write steps = order_to_log 19 ++ replicate steps 0

abbrev pub log_order : List ℕ
log_order = order_to_write 31 ++ replicate 524 3

-- The log begins again, up to a step of its line.
abbrev pub order_again : ℕ → List ℕ
order_again steps = log_order ++ replicate steps 3

abbrev pub events_to_log : List Event
events_to_log =
    by set_line (Begun set_line)
    ∷ by set_line (SlotChanged 0 (unlogged (example_slot 5 64 false)))
    ∷ by set_line (Answered 2 Done)
    ∷ by write_first (Begun write_first)
    ∷ by write_first LookedAtPause
    ∷ by write_first LookedAtSlots
    ∷ by write_first (LookedAtHost 65)
    ∷ by write_first LookedAtPause
    ∷ by write_first (Accessed 6 0 (Write 7) 65 0)
    ∷ by write_first (Answered 3 (Reached 65 0))
    ∷ by write_beside (Begun write_beside)
    ∷ by write_beside LookedAtPause
    ∷ by write_beside LookedAtSlots
    ∷ by write_beside (LookedAtHost 66)
    ∷ by log_on (Begun log_on)
    ∷ by log_on (SlotChanged 0 (Some (record { slot = example_slot 5 64 false; logged = true })))
    ∷ by write_beside LookedAtPause
    ∷ by write_beside (Accessed 7 1 (Write 5) 66 0)
    ∷ by write_beside (Answered 4 (Reached 66 0))
    ∷ by log_on (Armed 0 false)
    ∷ by log_on (Answered 5 Done)
    ∷ []

abbrev pub log_events : List Event
log_events =
    events_to_log
    ++ by write_logged (Begun write_logged)
    ∷ by write_logged LookedAtPause
    ∷ by write_logged LookedAtSlots
    ∷ by write_logged LookedAtPause
    ∷ by write_logged (Accessed 6 0 (Write 9) 65 7)
    ∷ by write_logged (Answered 6 (Reached 65 7))
    ∷ by log_off (Begun log_off)
    ∷ by log_off (SlotChanged 0 (unlogged (example_slot 5 64 false)))
    ∷ by log_off (Answered 7 Done)
    ∷ []

-- The manager is delayed once, by the fault. The leaf that this put allows writes, and the sweep forbids them in both leaves, with the tenth and the twelfth
-- step after the wait. With its twentieth step the write that is logged allows writes again in its leaf, and with the next one it marks page 65, the second
-- one of the log's second word. The mark stays as the log ends, and goes as it begins again, with the 516th step of that line.
abbrev pub ExampleLog : Type 0
ExampleLog =
    RunDelays run_sizes log_lines (order_to_log 19) events_to_log 3 1
    × RunDelays run_sizes log_lines log_order log_events 3 0
    × RunLeaves run_sizes log_lines (order_to_log 9) area.Pool (pool_index 4 6) (leaf_word 1 65 true true true)
    × RunLeaves run_sizes log_lines (order_to_log 10) area.Pool (pool_index 4 6) (leaf_word 1 65 false true true)
    × RunLeaves run_sizes log_lines (order_to_log 11) area.Pool (pool_index 4 7) (leaf_word 1 66 true true true)
    × RunLeaves run_sizes log_lines (order_to_log 12) area.Pool (pool_index 4 7) (leaf_word 1 66 false true true)
    × RunLeaves run_sizes log_lines (order_to_write 20) area.Pool (pool_index 4 6) (leaf_word 1 65 true true true)
    × RunLeaves run_sizes log_lines (order_to_write 20) area.Log 1 0
    × RunLeaves run_sizes log_lines (order_to_write 21) area.Log 1 2
    × RunLeaves run_sizes log_lines log_order area.Pool (pool_index 4 7) (leaf_word 1 66 false true true)
    × RunLeaves run_sizes log_lines (order_again 515) area.Log 1 2
    × RunLeaves run_sizes log_lines (order_again 516) area.Log 1 0
    × (text log_events
    ≡ codes "2 vm done\n3 v0 frame 65 value 0\n4 v1 frame 66 value 0\n5 vm done\n6 v0 frame 65 value 7\n7 vm done\n")
