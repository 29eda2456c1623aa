-- A run in which a fault finds the lock held, and then goes through while an invalidation of another guest frame is open.
use Rattle.std.specs.Prelude.{◌≡◌, ◌+◌, ◌^◌, List, [], ◌∷◌, ◌++◌, replicate, codes, ℕ, false, true}
use Rattle.core_views.specs.declared.actor.Actor.TheVariants.{Host}
use Rattle.core_views.specs.declared.answer.Answer.TheVariants.{Done, Reached}
use Rattle.core_views.specs.declared.event.Event.{Event}
use Rattle.core_views.specs.declared.event.EventKind.TheVariants.{Accessed, Answered, Begun, HostChanged, LookedAtHost, LookedAtPause, LookedAtSlots}
use Rattle.core_views.specs.declared.event.EventKind.TheVariants.{SlotChanged}
use Rattle.core_views.specs.declared.place.AccessPlace.TheVariants.{Fault}
use Rattle.core_views.specs.declared.place.FaultPlace.TheVariants.{Leaf}
use Rattle.core_views.specs.declared.place.Place.TheVariants.{Access}
use Rattle.core_views.specs.declared.trace.Command.TheVariants.{ChangeHost}
use Rattle.core_views.specs.declared.trace.HostChange.TheVariants.{Allow}
use Rattle.core_views.specs.declared.trace.Line.{Line}
use Rattle.core_views.specs.declared.trace.Op.TheVariants.{Write}
use Rattle.core_views.specs.FlatHistory.{by}
use Rattle.core_views.specs.Host.{own_frames}
use Rattle.core_views.specs.Text.{text}
use Rattle.flat_laws.specs.Laws.{example_slot}
use Rattle.spte_words.specs.declared.area.Area.TheVariants as area
use Rattle.mmu_laws.specs.steps.ExampleHost.{write_first}
use Rattle.mmu_laws.specs.steps.ExampleSteps.{RunDelays, RunLeaves, RunStands, run_sizes, set_line, unlogged}

-- A host thread allows writes to page 66, which is guest frame 7's, beside a write to guest frame 6.
abbrev pub beside_allow : Line
beside_allow = record { number = 4; actor = Host 0; command = ChangeHost 66 Allow }

abbrev pub apart_lines : List Line
apart_lines = set_line ∷ write_first ∷ beside_allow ∷ []

-- The write's fault looks up slot and host, and the host thread takes the lock. Then the processor makes these steps: it counts itself among the lock's
-- readers, finds the writer, and takes itself out again.
abbrev pub order_to_try : ℕ → List ℕ
order_to_try steps = replicate 524 3 ++ replicate 13 0 ++ replicate 2 2 ++ replicate steps 0

-- The host thread opens its invalidation and gives the lock back. Then the processor makes these steps.
abbrev pub order_to_put : ℕ → List ℕ
order_to_put steps = order_to_try 2 ++ replicate 16 2 ++ replicate steps 0

-- Once its line is answered, the host thread changes the host word and ends its invalidation.
abbrev pub apart_order : List ℕ
apart_order = order_to_put 1570 ++ replicate 7 2

abbrev pub apart_events : List Event
apart_events =
    by set_line (Begun set_line)
    ∷ by set_line (SlotChanged 0 (unlogged (example_slot 5 64 false)))
    ∷ by set_line (Answered 2 Done)
    ∷ by write_first (Begun write_first)
    ∷ by write_first LookedAtPause
    ∷ by write_first LookedAtSlots
    ∷ by write_first (LookedAtHost 65)
    ∷ by beside_allow (Begun beside_allow)
    ∷ by beside_allow (LookedAtHost 66)
    ∷ by write_first LookedAtPause
    ∷ by write_first (Accessed 6 0 (Write 7) 65 0)
    ∷ by write_first (Answered 3 (Reached 65 0))
    ∷ by beside_allow (HostChanged 66 (own_frames 66))
    ∷ by beside_allow (Answered 4 Done)
    ∷ []

-- The fault waits for the lock once. Its check finds one invalidation open, over guest frame 7 alone, and the sequence number as it was, so it goes on, and
-- comes to the exchange of its leaf. The write reaches its frame while the invalidation is open still.
abbrev pub ExampleApart : Type 0
ExampleApart =
    RunLeaves run_sizes apart_lines (order_to_try 1) area.Lock 0 (2 ^ 63 + 1)
    × RunLeaves run_sizes apart_lines (order_to_try 2) area.Lock 0 (2 ^ 63)
    × RunStands run_sizes apart_lines (order_to_put 1558) 0 (Access (Fault (Leaf true)))
    × RunLeaves run_sizes apart_lines (order_to_put 1558) area.Count 0 1
    × RunLeaves run_sizes apart_lines (order_to_put 1558) area.RangeStart 0 7
    × RunLeaves run_sizes apart_lines (order_to_put 1558) area.RangeEnd 0 8
    × RunLeaves run_sizes apart_lines (order_to_put 1570) area.Count 0 1
    × RunDelays run_sizes apart_lines apart_order apart_events 0 1
    × (text apart_events ≡ codes "2 vm done\n3 v0 frame 65 value 0\n4 h0 done\n")
