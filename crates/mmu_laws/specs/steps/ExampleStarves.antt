-- A run in a pool that is too small.
use Rattle.std.specs.Prelude.{◌≡◌, ℕ, List, [], ◌∷◌, ◌++◌, replicate, codes, true, false}
use Rattle.core_views.specs.declared.answer.Answer.TheVariants.{Done, Starved}
use Rattle.core_views.specs.declared.event.Event.{Event}
use Rattle.core_views.specs.declared.event.EventKind.TheVariants.{Answered, Begun, Exited, LookedAtHost, LookedAtPause, LookedAtSlots, SlotChanged}
use Rattle.core_views.specs.declared.sizes.Sizes.{Sizes}
use Rattle.core_views.specs.declared.trace.Line.{Line}
use Rattle.core_views.specs.declared.trace.Op.TheVariants.{Write}
use Rattle.core_views.specs.FlatHistory.{by}
use Rattle.flat_laws.specs.Laws.{access_line, example_sizes, example_slot, manager_line}
use Rattle.core_views.specs.Text.{text}
use Rattle.mmu_laws.specs.steps.ExampleSteps.{RunTells, set_line, unlogged}

-- The same machine with a pool of four pages: the root, the slot set, and two more. A write's fault fills and links two tables, and finds no
-- page for the third one; nor does a slot line after it find one for its set.
abbrev pub small_sizes : Sizes
small_sizes = example_sizes

abbrev pub starved_line : Line
starved_line = access_line 3 0 6 0 (Write 7)

abbrev pub starved_set_line : Line
starved_set_line = manager_line 4 1 (example_slot 16 0 true)

abbrev pub small_lines : List Line
small_lines = set_line ∷ starved_line ∷ starved_set_line ∷ []

abbrev pub small_order : List ℕ
small_order = replicate 524 3 ++ (replicate 1055 0 ++ replicate 1 3)

abbrev pub small_events : List Event
small_events =
    by set_line (Begun set_line)
    ∷ by set_line (SlotChanged 0 (unlogged (example_slot 5 64 false)))
    ∷ by set_line (Answered 2 Done)
    ∷ by starved_line (Begun starved_line)
    ∷ by starved_line LookedAtPause
    ∷ by starved_line LookedAtSlots
    ∷ by starved_line (LookedAtHost 65)
    ∷ by starved_line (Exited Starved)
    ∷ by starved_line (Answered 3 Starved)
    ∷ by starved_set_line (Begun starved_set_line)
    ∷ by starved_set_line (Exited Starved)
    ∷ by starved_set_line (Answered 4 Starved)
    ∷ []

abbrev pub ExampleStarves : Type 0
ExampleStarves = RunTells small_sizes small_lines small_order small_events × (text small_events ≡ codes "2 vm done\n3 v0 starved\n4 vm starved\n")
