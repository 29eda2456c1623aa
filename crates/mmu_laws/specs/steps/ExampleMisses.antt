-- A run in which the stay after a fault misses, since writes were forbidden in the leaf that this found, and then the exchange of a fast fault is lost.
use Rattle.std.specs.Prelude.{◌≡◌, List, [], ◌∷◌, ◌++◌, replicate, codes, ℕ, Some, false, true}
use Rattle.core_views.specs.declared.answer.Answer.TheVariants.{Done, Reached}
use Rattle.core_views.specs.declared.event.Event.{Event}
use Rattle.core_views.specs.declared.event.EventKind.TheVariants.{Accessed, Answered, Armed, Begun, LookedAtHost, LookedAtPause, LookedAtSlots, SlotChanged}
use Rattle.core_views.specs.declared.place.AccessPlace.TheVariants.{Fault, Leave, Walk}
use Rattle.core_views.specs.declared.place.Cause.TheVariants.{Entry}
use Rattle.core_views.specs.declared.place.FaultEnd.{FaultEnd}
use Rattle.core_views.specs.declared.place.FaultEnd.TheVariants.{Retry}
use Rattle.core_views.specs.declared.place.FaultPlace.TheVariants.{End, Fix}
use Rattle.core_views.specs.declared.place.Leaving.TheVariants.{Faults}
use Rattle.core_views.specs.declared.place.Place.TheVariants.{Access}
use Rattle.core_views.specs.declared.trace.Line.{Line}
use Rattle.core_views.specs.declared.trace.Op.TheVariants.{Write}
use Rattle.core_views.specs.FlatHistory.{by}
use Rattle.core_views.specs.Text.{text}
use Rattle.flat_laws.specs.Laws.{access_line, example_slot}
use Rattle.spte_words.specs.declared.area.Area.TheVariants as area
use Rattle.spte_words.specs.Areas.{place, pool_index}
use Rattle.spte_words.specs.Entries.{leaf_word}
use Rattle.part_steps.specs.Tasks.{map_of}
use Rattle.mmu_laws.specs.steps.ExampleHost.{write_first}
use Rattle.mmu_laws.specs.steps.ExampleLog.{log_on, write_logged}
use Rattle.mmu_laws.specs.steps.ExampleSteps.{RunDelays, RunLeaves, RunStands, run_sizes, set_line, unlogged}

-- The second processor writes to guest frame 6, beside the first one's two writes to it, between which the slot gets a dirty log.
abbrev pub missing_line : Line
missing_line = access_line 4 1 6 0 (Write 5)

abbrev pub miss_lines : List Line
miss_lines = set_line ∷ write_first ∷ missing_line ∷ log_on ∷ write_logged ∷ []

-- The second processor finds no leaf, and its fault looks up slot and host. Then the first one's write puts the leaf, and the manager publishes a slot set in
-- which the slot has a log, and waits for the fault's section. The fault finds the leaf, which allows writes, and ends. Then the manager makes these steps.
abbrev pub order_to_forbid : ℕ → List ℕ
order_to_forbid steps = replicate 524 3 ++ replicate 13 1 ++ replicate 1581 0 ++ replicate 522 3 ++ replicate 10 1 ++ replicate steps 3

-- Once its line is answered, the second processor makes these steps.
abbrev pub order_to_miss : ℕ → List ℕ
order_to_miss steps = order_to_forbid 18 ++ replicate steps 1

-- It has loaded the leaf, in its fast fault, and the first one allows writes in this leaf, without a mark yet. Then the second processor makes these steps.
abbrev pub order_to_lose : ℕ → List ℕ
order_to_lose steps = order_to_miss 19 ++ replicate 20 0 ++ replicate steps 1

-- The end of the fast fault, which has loaded the leaf as one that forbids writes, and found it as one that allows them.
abbrev pub lost_end : FaultEnd
lost_end = Retry true (Entry (place (map_of run_sizes) area.Pool (pool_index 4 6)) (leaf_word 1 65 false true true) (leaf_word 1 65 true true true))

-- Once its line is answered, the first processor marks the page, and writes.
abbrev pub miss_order : List ℕ
miss_order = order_to_lose 11 ++ replicate 11 0

abbrev pub miss_events : List Event
miss_events =
    by set_line (Begun set_line)
    ∷ by set_line (SlotChanged 0 (unlogged (example_slot 5 64 false)))
    ∷ by set_line (Answered 2 Done)
    ∷ by missing_line (Begun missing_line)
    ∷ by missing_line LookedAtPause
    ∷ by missing_line LookedAtSlots
    ∷ by missing_line (LookedAtHost 65)
    ∷ by write_first (Begun write_first)
    ∷ by write_first LookedAtPause
    ∷ by write_first LookedAtSlots
    ∷ by write_first (LookedAtHost 65)
    ∷ by write_first LookedAtPause
    ∷ by write_first (Accessed 6 0 (Write 7) 65 0)
    ∷ by write_first (Answered 3 (Reached 65 0))
    ∷ by log_on (Begun log_on)
    ∷ by log_on (SlotChanged 0 (Some (record { slot = example_slot 5 64 false; logged = true })))
    ∷ by log_on (Armed 0 false)
    ∷ by log_on (Answered 5 Done)
    ∷ by missing_line LookedAtPause
    ∷ by missing_line LookedAtSlots
    ∷ by write_logged (Begun write_logged)
    ∷ by write_logged LookedAtPause
    ∷ by write_logged LookedAtSlots
    ∷ by missing_line LookedAtPause
    ∷ by missing_line (Accessed 6 0 (Write 5) 65 7)
    ∷ by missing_line (Answered 4 (Reached 65 7))
    ∷ by write_logged LookedAtPause
    ∷ by write_logged (Accessed 6 0 (Write 9) 65 5)
    ∷ by write_logged (Answered 6 (Reached 65 5))
    ∷ []

-- With the tenth step after the fault the manager forbids writes in the leaf. With its seventh step after that the second processor comes to this leaf in the
-- stay after its fault, and leaves, which is its first delay. Its fast fault's exchange finds the leaf with writes allowed where it had loaded one that forbids
-- them, and is lost: it is to begin anew, its second delay. So it finds the leaf in its next stay, and writes, and no page is marked yet; the first
-- processor's mark comes after that, of page 65, the second one of the log's second word.
abbrev pub ExampleMisses : Type 0
ExampleMisses =
    RunLeaves run_sizes miss_lines (order_to_forbid 9) area.Pool (pool_index 4 6) (leaf_word 1 65 true true true)
    × RunLeaves run_sizes miss_lines (order_to_forbid 10) area.Pool (pool_index 4 6) (leaf_word 1 65 false true true)
    × RunStands run_sizes miss_lines (order_to_miss 6) 1 (Access (Walk true))
    × RunStands run_sizes miss_lines (order_to_miss 7) 1 (Access (Leave (Faults true)))
    × RunStands run_sizes miss_lines (order_to_lose 0) 1 (Access (Fault Fix))
    × RunStands run_sizes miss_lines (order_to_lose 1) 1 (Access (Fault (End lost_end)))
    × RunLeaves run_sizes miss_lines (order_to_lose 11) area.Log 1 0
    × RunLeaves run_sizes miss_lines miss_order area.Log 1 2
    × RunDelays run_sizes miss_lines miss_order miss_events 1 2
    × (text miss_events ≡ codes "2 vm done\n3 v0 frame 65 value 0\n5 vm done\n4 v1 frame 65 value 7\n6 v0 frame 65 value 5\n")
