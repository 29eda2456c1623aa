-- A run in which two faults come to one absent leaf, and one puts it.
use Rattle.std.specs.Prelude.{◌≡◌, List, [], ◌∷◌, ◌++◌, replicate, codes, ℕ, false, true}
use Rattle.core_views.specs.declared.answer.Answer.TheVariants.{Done, Reached}
use Rattle.core_views.specs.declared.event.Event.{Event}
use Rattle.core_views.specs.declared.event.EventKind.TheVariants.{Accessed, Answered, Begun, LookedAtHost, LookedAtPause, LookedAtSlots, SlotChanged}
use Rattle.core_views.specs.declared.place.AccessPlace.TheVariants.{Fault}
use Rattle.core_views.specs.declared.place.Cause.TheVariants.{Entry}
use Rattle.core_views.specs.declared.place.FaultEnd.{FaultEnd}
use Rattle.core_views.specs.declared.place.FaultEnd.TheVariants.{Retry}
use Rattle.core_views.specs.declared.place.FaultPlace.TheVariants.{Leaf, Unshare}
use Rattle.core_views.specs.declared.place.Place.TheVariants.{Access}
use Rattle.core_views.specs.declared.trace.Line.{Line}
use Rattle.core_views.specs.declared.trace.Op.TheVariants.{Write}
use Rattle.core_views.specs.FlatHistory.{by}
use Rattle.core_views.specs.Text.{text}
use Rattle.flat_laws.specs.Laws.{access_line, example_slot}
use Rattle.spte_words.specs.declared.area.Area.TheVariants as area
use Rattle.spte_words.specs.Areas.{place, pool_index}
use Rattle.spte_words.specs.Entries.{absent_word, leaf_word}
use Rattle.part_steps.specs.Tasks.{map_of}
use Rattle.mmu_laws.specs.steps.ExampleSteps.{RunDelays, RunLeaves, RunStands, run_sizes, set_line, unlogged}

-- The first processor writes to guest frame 7, and then both write to guest frame 6, whose leaf is of the same table.
abbrev pub table_line : Line
table_line = access_line 3 0 7 0 (Write 5)

abbrev pub late_line : Line
late_line = access_line 4 1 6 0 (Write 8)

abbrev pub early_line : Line
early_line = access_line 5 0 6 0 (Write 9)

abbrev pub leaf_lines : List Line
leaf_lines = set_line ∷ table_line ∷ late_line ∷ early_line ∷ []

-- The tables are linked. The second processor's fault loads the absent leaf, and so does the first one's.
abbrev pub order_to_share : List ℕ
order_to_share = replicate 524 3 ++ replicate 1581 0 ++ replicate 24 1 ++ replicate 24 0

-- The first one puts the leaf, and writes. Then the second processor makes these steps.
abbrev pub order_to_find : ℕ → List ℕ
order_to_find steps = order_to_share ++ replicate 12 0 ++ replicate steps 1

abbrev pub leaf_events : List Event
leaf_events =
    by set_line (Begun set_line)
    ∷ by set_line (SlotChanged 0 (unlogged (example_slot 5 64 false)))
    ∷ by set_line (Answered 2 Done)
    ∷ by table_line (Begun table_line)
    ∷ by table_line LookedAtPause
    ∷ by table_line LookedAtSlots
    ∷ by table_line (LookedAtHost 66)
    ∷ by table_line LookedAtPause
    ∷ by table_line (Accessed 7 0 (Write 5) 66 0)
    ∷ by table_line (Answered 3 (Reached 66 0))
    ∷ by late_line (Begun late_line)
    ∷ by late_line LookedAtPause
    ∷ by late_line LookedAtSlots
    ∷ by late_line (LookedAtHost 65)
    ∷ by early_line (Begun early_line)
    ∷ by early_line LookedAtPause
    ∷ by early_line LookedAtSlots
    ∷ by early_line (LookedAtHost 65)
    ∷ by early_line LookedAtPause
    ∷ by early_line (Accessed 6 0 (Write 9) 65 0)
    ∷ by early_line (Answered 5 (Reached 65 0))
    ∷ by late_line LookedAtPause
    ∷ by late_line (Accessed 6 0 (Write 8) 65 9)
    ∷ by late_line (Answered 4 (Reached 65 9))
    ∷ []

-- The end of the second fault, which has loaded the leaf as absent, and found the other one's.
abbrev pub late_end : FaultEnd
late_end = Retry false (Entry (place (map_of run_sizes) area.Pool (pool_index 4 6)) absent_word (leaf_word 1 65 true true true))

-- Both share the lock, and stand before the exchange that puts the leaf. The second one's is lost: it begins anew, finds the leaf in its next stay in the
-- guest, and reaches what the first one wrote.
abbrev pub ExampleLeaf : Type 0
ExampleLeaf =
    RunLeaves run_sizes leaf_lines order_to_share area.Lock 0 2
    × RunStands run_sizes leaf_lines order_to_share 0 (Access (Fault (Leaf true)))
    × RunStands run_sizes leaf_lines order_to_share 1 (Access (Fault (Leaf true)))
    × RunStands run_sizes leaf_lines (order_to_find 1) 1 (Access (Fault (Unshare late_end)))
    × RunDelays run_sizes leaf_lines (order_to_find 12) leaf_events 1 1
    × (text leaf_events ≡ codes "2 vm done\n3 v0 frame 66 value 0\n5 v0 frame 65 value 0\n4 v1 frame 65 value 9\n")
