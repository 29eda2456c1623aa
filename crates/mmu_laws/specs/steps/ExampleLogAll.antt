-- Runs in which a slot gets a dirty log, with each page dirty at once.
use Rattle.std.specs.Prelude.{◌-◌, ◌^◌, List, [], ◌∷◌, ◌++◌, replicate, ℕ, Some, false, true}
use Rattle.core_views.specs.declared.answer.Answer.TheVariants.{Done, Reached}
use Rattle.core_views.specs.declared.event.Event.{Event}
use Rattle.core_views.specs.declared.sizes.LogMode.TheVariants.{ManualAllSet}
use Rattle.core_views.specs.declared.sizes.Sizes.{Sizes}
use Rattle.core_views.specs.declared.event.EventKind.TheVariants.{Accessed, Answered, Armed, Begun, LookedAtHost, LookedAtPause, LookedAtSlots, SlotChanged}
use Rattle.core_views.specs.declared.trace.Line.{Line}
use Rattle.core_views.specs.declared.trace.Op.TheVariants.{Write}
use Rattle.core_views.specs.FlatHistory.{by}
use Rattle.flat_laws.specs.Laws.{example_slot, manager_line}
use Rattle.spte_words.specs.declared.area.Area.TheVariants as area
use Rattle.spte_words.specs.Areas.{pool_index}
use Rattle.spte_words.specs.Entries.{leaf_word}
use Rattle.mmu_laws.specs.steps.ExampleHost.{write_first}
use Rattle.mmu_laws.specs.steps.ExampleLog.{log_line}
use Rattle.mmu_laws.specs.steps.ExampleSteps.{RunDelays, RunLeaves, run_sizes, set_line, unlogged}

-- The mode in which each page is dirty as its log begins.
abbrev pub all_set_sizes : Sizes
all_set_sizes = record run_sizes { mode = ManualAllSet }

abbrev pub log_all : Line
log_all = log_line 4 true

abbrev pub all_set_lines : List Line
all_set_lines = set_line ∷ write_first ∷ log_all ∷ []

-- a slot whose log has two words
abbrev pub set_wide : Line
set_wide = manager_line 2 0 (record { base = 5; pages = 100; host = 0; read_only = false })

abbrev pub wide_lines : List Line
wide_lines = set_wide ∷ log_all ∷ []

abbrev pub all_set_order : ℕ → List ℕ
all_set_order steps = replicate 524 3 ++ replicate 1581 0 ++ replicate steps 3

abbrev pub all_set_events : List Event
all_set_events =
    by set_line (Begun set_line)
    ∷ by set_line (SlotChanged 0 (unlogged (example_slot 5 64 false)))
    ∷ by set_line (Answered 2 Done)
    ∷ by write_first (Begun write_first)
    ∷ by write_first LookedAtPause
    ∷ by write_first LookedAtSlots
    ∷ by write_first (LookedAtHost 65)
    ∷ by write_first LookedAtPause
    ∷ by write_first (Accessed 6 0 (Write 7) 65 0)
    ∷ by write_first (Answered 3 (Reached 65 0))
    ∷ by log_all (Begun log_all)
    ∷ by log_all (SlotChanged 0 (Some (record { slot = example_slot 5 64 false; logged = true })))
    ∷ by log_all (Armed 0 true)
    ∷ by log_all (Answered 4 Done)
    ∷ []

-- The log's word has a bit for each of the three pages, and no write is forbidden: the leaf is as it was. A log of 100 pages has 64 bits in its first word,
-- and 36 in its second one.
abbrev pub ExampleLogAll : Type 0
ExampleLogAll =
    RunDelays all_set_sizes all_set_lines (all_set_order 525) all_set_events 3 0
    × RunLeaves all_set_sizes all_set_lines (all_set_order 516) area.Log 1 7
    × RunLeaves all_set_sizes wide_lines (replicate 1041 3) area.Log 0 (2 ^ 64 - 1)
    × RunLeaves all_set_sizes wide_lines (replicate 1041 3) area.Log 1 (2 ^ 36 - 1)
    × RunLeaves all_set_sizes all_set_lines (all_set_order 525) area.Pool (pool_index 4 6) (leaf_word 1 65 true true true)
