-- Runs in which a dirty log is read while its slot is written, and in which one is shown and cleared by hand.
use Rattle.std.specs.Prelude.{◌≡◌, List, [], ◌∷◌, ◌++◌, replicate, codes, ℕ, Some, false, true}
use Rattle.core_views.specs.declared.answer.Answer.TheVariants.{Bits, Done, Reached}
use Rattle.core_views.specs.declared.event.Event.{Event}
use Rattle.core_views.specs.declared.event.EventKind.TheVariants.{Accessed, Answered, Armed, Begun, Harvested, LookedAtHost, LookedAtPause, LookedAtSlots}
use Rattle.core_views.specs.declared.event.EventKind.TheVariants.{Shown, SlotChanged, Taken}
use Rattle.core_views.specs.declared.trace.Command.TheVariants.{ClearLog, GetLog}
use Rattle.core_views.specs.declared.trace.Line.{Line}
use Rattle.core_views.specs.declared.trace.Op.TheVariants.{Write}
use Rattle.core_views.specs.FlatHistory.{by}
use Rattle.core_views.specs.Text.{text}
use Rattle.flat_laws.specs.Laws.{access_line, example_slot, manage}
use Rattle.spte_words.specs.declared.area.Area.TheVariants as area
use Rattle.spte_words.specs.Areas.{pool_index}
use Rattle.spte_words.specs.Entries.{leaf_word}
use Rattle.mmu_laws.specs.steps.ExampleHost.{write_first}
use Rattle.mmu_laws.specs.steps.ExampleLog.{log_line}
use Rattle.mmu_laws.specs.steps.ExampleLogAll.{all_set_sizes}
use Rattle.mmu_laws.specs.steps.ExampleSteps.{RunDelays, RunLeaves, run_sizes, set_line, unlogged}

-- ---- read while it is written

-- The log of the slot begins, the first processor writes to guest frame 6 once more, and the log is read twice.
abbrev pub log_begun : Line
log_begun = log_line 4 true

abbrev pub write_read : Line
write_read = access_line 5 0 6 0 (Write 9)

abbrev pub get_before : Line
get_before = manage 6 (GetLog 0)

abbrev pub get_after : Line
get_after = manage 7 (GetLog 0)

abbrev pub read_lines : List Line
read_lines = set_line ∷ write_first ∷ log_begun ∷ write_read ∷ get_before ∷ get_after ∷ []

-- With its twentieth step the write has allowed writes in its leaf, and owes the mark over the whole first get, of 8 steps. Then it marks its page, and
-- writes; and the second get makes so many steps.
abbrev pub order_to_read : ℕ → List ℕ
order_to_read steps =
    replicate 524 3 ++ replicate 1581 0 ++ replicate 539 3 ++ replicate 20 0 ++ replicate 8 3 ++ replicate 11 0 ++ replicate steps 3

abbrev pub read_events : List Event
read_events =
    by set_line (Begun set_line)
    ∷ by set_line (SlotChanged 0 (unlogged (example_slot 5 64 false)))
    ∷ by set_line (Answered 2 Done)
    ∷ by write_first (Begun write_first)
    ∷ by write_first LookedAtPause
    ∷ by write_first LookedAtSlots
    ∷ by write_first (LookedAtHost 65)
    ∷ by write_first LookedAtPause
    ∷ by write_first (Accessed 6 0 (Write 7) 65 0)
    ∷ by write_first (Answered 3 (Reached 65 0))
    ∷ by log_begun (Begun log_begun)
    ∷ by log_begun (SlotChanged 0 (Some (record { slot = example_slot 5 64 false; logged = true })))
    ∷ by log_begun (Armed 0 false)
    ∷ by log_begun (Answered 4 Done)
    ∷ by write_read (Begun write_read)
    ∷ by write_read LookedAtPause
    ∷ by write_read LookedAtSlots
    ∷ by get_before (Begun get_before)
    ∷ by get_before (Taken 0)
    ∷ by get_before (Harvested 0 [])
    ∷ by get_before (Answered 6 (Bits (0 ∷ [])))
    ∷ by write_read LookedAtPause
    ∷ by write_read (Accessed 6 0 (Write 9) 65 7)
    ∷ by write_read (Answered 5 (Reached 65 7))
    ∷ by get_after (Begun get_after)
    ∷ by get_after (Taken 0)
    ∷ by get_after (Harvested 0 (6 ∷ []))
    ∷ by get_after (Answered 7 (Bits (2 ∷ [])))
    ∷ []

-- ---- shown, and cleared by hand

-- Each of the three pages is dirty as the log begins; a get shows them, a clear takes the second one, and a get shows the others.
abbrev pub show_all : Line
show_all = manage 4 (GetLog 0)

abbrev pub clear_second : Line
clear_second = manage 5 (ClearLog 0 0 3 (2 ∷ []))

abbrev pub show_others : Line
show_others = manage 6 (GetLog 0)

abbrev pub log_shown : Line
log_shown = log_line 3 true

abbrev pub show_lines : List Line
show_lines = set_line ∷ log_shown ∷ show_all ∷ clear_second ∷ show_others ∷ []

abbrev pub show_order : List ℕ
show_order = replicate 524 3 ++ replicate 525 3 ++ replicate 1 3 ++ replicate 9 3 ++ replicate 1 3

abbrev pub show_events : List Event
show_events =
    by set_line (Begun set_line)
    ∷ by set_line (SlotChanged 0 (unlogged (example_slot 5 64 false)))
    ∷ by set_line (Answered 2 Done)
    ∷ by log_shown (Begun log_shown)
    ∷ by log_shown (SlotChanged 0 (Some (record { slot = example_slot 5 64 false; logged = true })))
    ∷ by log_shown (Armed 0 true)
    ∷ by log_shown (Answered 3 Done)
    ∷ by show_all (Begun show_all)
    ∷ by show_all (Taken 0)
    ∷ by show_all (Shown 0 (5 ∷ 6 ∷ 7 ∷ []))
    ∷ by show_all (Answered 4 (Bits (7 ∷ [])))
    ∷ by clear_second (Begun clear_second)
    ∷ by clear_second (Taken 0)
    ∷ by clear_second (Harvested 0 (6 ∷ []))
    ∷ by clear_second (Answered 5 (Bits (2 ∷ [])))
    ∷ by show_others (Begun show_others)
    ∷ by show_others (Taken 0)
    ∷ by show_others (Shown 0 (5 ∷ 7 ∷ []))
    ∷ by show_others (Answered 6 (Bits (5 ∷ [])))
    ∷ []

-- The second get takes the mark with its second step, and forbids writes in the leaf with its eighth one. Nobody is delayed.
abbrev pub ExampleReads : Type 0
ExampleReads =
    RunDelays run_sizes read_lines (order_to_read 13) read_events 3 0
    × RunLeaves run_sizes read_lines (order_to_read 1) area.Log 1 2
    × RunLeaves run_sizes read_lines (order_to_read 2) area.Log 1 0
    × RunLeaves run_sizes read_lines (order_to_read 7) area.Pool (pool_index 4 6) (leaf_word 1 65 true true true)
    × RunLeaves run_sizes read_lines (order_to_read 8) area.Pool (pool_index 4 6) (leaf_word 1 65 false true true)
    × RunDelays all_set_sizes show_lines show_order show_events 3 0
    × RunLeaves all_set_sizes show_lines show_order area.Log 1 5
    × (text show_events ≡ codes "2 vm done\n3 vm done\n4 vm bits 0x7\n5 vm bits 0x2\n6 vm bits 0x5\n")
