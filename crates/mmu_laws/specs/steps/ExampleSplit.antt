-- A run in which a worker is to split a guest frame's large leaf, and finds none: the frame has no table, and then a leaf of the lowest level.
use Rattle.std.specs.Prelude.{◌≡◌, List, [], ◌∷◌, ◌++◌, replicate, codes, ℕ, false, true}
use Rattle.core_views.specs.declared.actor.Actor.TheVariants.{Worker}
use Rattle.core_views.specs.declared.answer.Answer.TheVariants.{Done, Reached}
use Rattle.core_views.specs.declared.event.Event.{Event}
use Rattle.core_views.specs.declared.event.EventKind.TheVariants.{Accessed, Answered, Begun, LookedAtHost, LookedAtPause, LookedAtSlots, SlotChanged}
use Rattle.core_views.specs.declared.place.Place.TheVariants as at
use Rattle.core_views.specs.declared.place.SplitEnd.TheVariants.{Nothing}
use Rattle.core_views.specs.declared.place.SplitPlace.TheVariants.{Unshare}
use Rattle.core_views.specs.declared.sizes.Sizes.{Sizes}
use Rattle.core_views.specs.declared.trace.Command.TheVariants.{Split}
use Rattle.core_views.specs.declared.trace.Line.{Line}
use Rattle.core_views.specs.declared.trace.Op.TheVariants.{Write}
use Rattle.core_views.specs.FlatHistory.{by}
use Rattle.core_views.specs.Text.{text}
use Rattle.flat_laws.specs.Laws.{access_line, example_slot}
use Rattle.spte_words.specs.declared.area.Area.TheVariants as area
use Rattle.spte_words.specs.Entries.{absent_word, leaf_word}
use Rattle.mmu_laws.specs.steps.ExampleSteps.{RunLeaves, RunStands, RunTells, run_sizes, set_line, unlogged}

-- the machine of the examples, with a worker
abbrev pub split_sizes : Sizes
split_sizes = record run_sizes { workers = 1 }

abbrev pub early_split : Line
early_split = record { number = 3; actor = Worker 0; command = Split 6 }

abbrev pub table_line : Line
table_line = access_line 4 0 6 0 (Write 7)

abbrev pub late_split : Line
late_split = record { number = 5; actor = Worker 0; command = Split 6 }

abbrev pub split_lines : List Line
split_lines = set_line ∷ early_split ∷ table_line ∷ late_split ∷ []

-- The slot is set, and the worker makes these steps of its first line; the frame's tables and leaf are put, and the worker makes these of its second one.
abbrev pub order_to_absent : ℕ → List ℕ
order_to_absent steps = replicate 525 3 ++ replicate steps 4

abbrev pub order_to_leaf : ℕ → List ℕ
order_to_leaf steps = replicate 525 3 ++ replicate 6 4 ++ replicate 1581 0 ++ replicate steps 4

abbrev pub split_events : List Event
split_events =
    by set_line (Begun set_line)
    ∷ by set_line (SlotChanged 0 (unlogged (example_slot 5 64 false)))
    ∷ by set_line (Answered 2 Done)
    ∷ by early_split (Begun early_split)
    ∷ by early_split (Answered 3 Done)
    ∷ by table_line (Begun table_line)
    ∷ by table_line LookedAtPause
    ∷ by table_line LookedAtSlots
    ∷ by table_line (LookedAtHost 65)
    ∷ by table_line LookedAtPause
    ∷ by table_line (Accessed 6 0 (Write 7) 65 0)
    ∷ by table_line (Answered 4 (Reached 65 0))
    ∷ by late_split (Begun late_split)
    ∷ by late_split (Answered 5 Done)
    ∷ []

-- The first line begins its section, shares the lock, loads the root and the root's entry, which is absent: it gives the lock back, and ends. So does the
-- second one once it has walked down four levels, to the frame's small leaf.
abbrev pub ExampleSplit : Type 0
ExampleSplit =
    RunLeaves split_sizes split_lines (order_to_absent 4) area.Lock 0 1
    × RunStands split_sizes split_lines (order_to_absent 4) 4 (at.Split (Unshare (Nothing absent_word)))
    × RunLeaves split_sizes split_lines (order_to_leaf 7) area.Lock 0 1
    × RunStands split_sizes split_lines (order_to_leaf 7) 4 (at.Split (Unshare (Nothing (leaf_word 1 65 true true true))))
    × RunTells split_sizes split_lines (order_to_leaf 9) split_events
    × RunLeaves split_sizes split_lines (order_to_leaf 9) area.Lock 0 0
    × (text split_events ≡ codes "2 vm done\n3 w0 done\n4 v0 frame 65 value 0\n5 w0 done\n")
