-- A run in which a log of the manual mode is shown, cleared and ended, and a write after that meets the leaf in which the clear has forbidden writes.
use Rattle.std.specs.Prelude.{◌≡◌, List, [], ◌∷◌, ◌++◌, replicate, codes, ℕ, Some, false, true}
use Rattle.core_views.specs.declared.answer.Answer.TheVariants.{Bits, Done, Reached, Refused}
use Rattle.core_views.specs.declared.answer.Refusal.TheVariants.{NoLog}
use Rattle.core_views.specs.declared.event.Event.{Event}
use Rattle.core_views.specs.declared.event.EventKind.TheVariants.{Accessed, Answered, Armed, Begun, Harvested, LookedAtHost, LookedAtPause, LookedAtSlots}
use Rattle.core_views.specs.declared.event.EventKind.TheVariants.{Shown, SlotChanged, Taken}
use Rattle.core_views.specs.declared.place.AccessPlace.TheVariants.{Fault}
use Rattle.core_views.specs.declared.place.FaultEnd.TheVariants.{Fixed}
use Rattle.core_views.specs.declared.place.FaultPlace.TheVariants.{End, Fix}
use Rattle.core_views.specs.declared.place.Place.TheVariants.{Access}
use Rattle.core_views.specs.declared.sizes.LogMode.TheVariants.{Manual}
use Rattle.core_views.specs.declared.sizes.Sizes.{Sizes}
use Rattle.core_views.specs.declared.trace.Command.TheVariants.{ClearLog, GetLog}
use Rattle.core_views.specs.declared.trace.Line.{Line}
use Rattle.core_views.specs.declared.trace.Op.TheVariants.{Write}
use Rattle.core_views.specs.FlatHistory.{by}
use Rattle.core_views.specs.Text.{text}
use Rattle.flat_laws.specs.Laws.{access_line, example_slot, manage}
use Rattle.spte_words.specs.declared.area.Area.TheVariants as area
use Rattle.spte_words.specs.Areas.{pool_index}
use Rattle.spte_words.specs.Entries.{leaf_word}
use Rattle.mmu_laws.specs.steps.ExampleLog.{log_line}
use Rattle.mmu_laws.specs.forms.log.ExampleOwed.{log_early, put_logged}
use Rattle.mmu_laws.specs.steps.ExampleSteps.{RunDelays, RunLeaves, RunStands, run_sizes, set_line, unlogged}

-- The mode in which a get takes nothing out of a log, which begins with no page dirty.
abbrev pub manual_sizes : Sizes
manual_sizes = record run_sizes { mode = Manual }

-- After a write that is logged the log is shown, cleared and ended. Then comes a write to the same guest frame, and a get.
abbrev pub show_write : Line
show_write = manage 5 (GetLog 0)

abbrev pub clear_write : Line
clear_write = manage 6 (ClearLog 0 0 3 (2 ∷ []))

abbrev pub end_log : Line
end_log = log_line 7 false

abbrev pub write_after : Line
write_after = access_line 8 0 6 0 (Write 9)

abbrev pub show_none : Line
show_none = manage 9 (GetLog 0)

abbrev pub manual_lines : List Line
manual_lines = set_line ∷ log_early ∷ put_logged ∷ show_write ∷ clear_write ∷ end_log ∷ write_after ∷ show_none ∷ []

-- The log is shown, and the clear makes these steps.
abbrev pub order_to_clear : ℕ → List ℕ
order_to_clear steps = replicate 524 3 ++ replicate 533 3 ++ replicate 1582 0 ++ replicate 1 3 ++ replicate steps 3

-- The log has ended, and the write after it makes these steps.
abbrev pub order_to_fix : ℕ → List ℕ
order_to_fix steps = order_to_clear 13 ++ replicate 524 3 ++ replicate steps 0

abbrev pub manual_order : List ℕ
manual_order = order_to_fix 30 ++ replicate 1 3

abbrev pub manual_events : List Event
manual_events =
    by set_line (Begun set_line)
    ∷ by set_line (SlotChanged 0 (unlogged (example_slot 5 64 false)))
    ∷ by set_line (Answered 2 Done)
    ∷ by log_early (Begun log_early)
    ∷ by log_early (SlotChanged 0 (Some (record { slot = example_slot 5 64 false; logged = true })))
    ∷ by log_early (Armed 0 false)
    ∷ by log_early (Answered 3 Done)
    ∷ by put_logged (Begun put_logged)
    ∷ by put_logged LookedAtPause
    ∷ by put_logged LookedAtSlots
    ∷ by put_logged (LookedAtHost 65)
    ∷ by put_logged LookedAtPause
    ∷ by put_logged (Accessed 6 0 (Write 7) 65 0)
    ∷ by put_logged (Answered 4 (Reached 65 0))
    ∷ by show_write (Begun show_write)
    ∷ by show_write (Taken 0)
    ∷ by show_write (Shown 0 (6 ∷ []))
    ∷ by show_write (Answered 5 (Bits (2 ∷ [])))
    ∷ by clear_write (Begun clear_write)
    ∷ by clear_write (Taken 0)
    ∷ by clear_write (Harvested 0 (6 ∷ []))
    ∷ by clear_write (Answered 6 (Bits (2 ∷ [])))
    ∷ by end_log (Begun end_log)
    ∷ by end_log (SlotChanged 0 (unlogged (example_slot 5 64 false)))
    ∷ by end_log (Answered 7 Done)
    ∷ by write_after (Begun write_after)
    ∷ by write_after LookedAtPause
    ∷ by write_after LookedAtSlots
    ∷ by write_after LookedAtPause
    ∷ by write_after (Accessed 6 0 (Write 9) 65 7)
    ∷ by write_after (Answered 8 (Reached 65 7))
    ∷ by show_none (Begun show_none)
    ∷ by show_none (Answered 9 (Refused NoLog))
    ∷ []

-- Once the log has ended, a fast fault allows writes in the leaf in which the clear has forbidden them, and ends without a mark. Before that the get leaves the
-- mark and the leaf as they are, and the clear takes the mark out. So no page of the log is dirty in the end, and a get is refused.
abbrev pub ExampleManual : Type 0
ExampleManual =
    RunLeaves manual_sizes manual_lines (order_to_clear 0) area.Log 1 2
    × RunLeaves manual_sizes manual_lines (order_to_clear 0) area.Pool (pool_index 4 6) (leaf_word 1 65 true true true)
    × RunLeaves manual_sizes manual_lines (order_to_clear 13) area.Log 1 0
    × RunLeaves manual_sizes manual_lines (order_to_clear 13) area.Pool (pool_index 4 6) (leaf_word 1 65 false true true)
    × RunStands manual_sizes manual_lines (order_to_fix 19) 0 (Access (Fault Fix))
    × RunLeaves manual_sizes manual_lines (order_to_fix 19) area.Pool (pool_index 4 6) (leaf_word 1 65 false true true)
    × RunStands manual_sizes manual_lines (order_to_fix 20) 0 (Access (Fault (End (Fixed false))))
    × RunLeaves manual_sizes manual_lines (order_to_fix 20) area.Pool (pool_index 4 6) (leaf_word 1 65 true true true)
    × RunDelays manual_sizes manual_lines manual_order manual_events 0 0
    × RunLeaves manual_sizes manual_lines manual_order area.Log 1 0
    × (text manual_events
    ≡ codes "2 vm done\n3 vm done\n4 v0 frame 65 value 0\n5 vm bits 0x2\n6 vm bits 0x2\n7 vm done\n8 v0 frame 65 value 7\n"
    ++ codes "9 vm refused no-log\n")
