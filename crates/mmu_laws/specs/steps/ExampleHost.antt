-- A run in which a host thread invalidates a guest frame while two processors access it.
use Rattle.std.specs.Prelude.{◌≡◌, List, [], ◌∷◌, ◌++◌, replicate, codes, ℕ, false, true}
use Rattle.core_views.specs.declared.actor.Actor.TheVariants.{Host}
use Rattle.core_views.specs.declared.answer.Answer.TheVariants.{Done, Reached}
use Rattle.core_views.specs.declared.event.Event.{Event}
use Rattle.core_views.specs.declared.event.EventKind.TheVariants.{Accessed, Answered, Begun, HostChanged, LookedAtHost, LookedAtPause, LookedAtSlots}
use Rattle.core_views.specs.declared.event.EventKind.TheVariants.{SlotChanged}
use Rattle.core_views.specs.declared.trace.Command.TheVariants.{ChangeHost}
use Rattle.core_views.specs.declared.trace.HostChange.TheVariants.{Allow}
use Rattle.core_views.specs.declared.trace.Line.{Line}
use Rattle.core_views.specs.declared.trace.Op.TheVariants.{Read, Write}
use Rattle.core_views.specs.FlatHistory.{by}
use Rattle.core_views.specs.Host.{own_frames}
use Rattle.flat_laws.specs.Laws.{access_line, example_slot}
use Rattle.core_views.specs.Text.{text}
use Rattle.spte_words.specs.declared.area.Area.TheVariants as area
use Rattle.spte_words.specs.Areas.{pool_index}
use Rattle.spte_words.specs.Entries.{leaf_word}
use Rattle.mmu_laws.specs.steps.ExampleSteps.{RunDelays, RunLeaves, run_sizes, set_line, unlogged}

abbrev pub write_first : Line
write_first = access_line 3 0 6 0 (Write 7)

abbrev pub read_cached : Line
read_cached = access_line 4 0 6 0 Read

abbrev pub allow_line : Line
allow_line = record { number = 5; actor = Host 0; command = ChangeHost 65 Allow }

abbrev pub read_again : Line
read_again = access_line 6 1 6 0 Read

abbrev pub host_lines : List Line
host_lines = set_line ∷ write_first ∷ read_cached ∷ allow_line ∷ read_again ∷ []

-- The first processor's write has put the leaf, and its read is in the guest with what it has cached. The host thread zaps the leaf, asks both processors for
-- a flush, and waits for the first one, until it has left the guest. While the invalidation is open the other processor's fault begins anew; after the
-- invalidation has ended it puts the leaf again.
abbrev pub order_to_zap : ℕ → List ℕ
order_to_zap steps = replicate 524 3 ++ replicate 1581 0 ++ replicate 2 0 ++ replicate steps 2

abbrev pub host_order : List ℕ
host_order =
    replicate 524 3 ++ replicate 1581 0 ++ replicate 2 0 ++ replicate 20 2 ++ replicate 2 0 ++ replicate 3 2 ++ replicate 21 1 ++ replicate 7 2
    ++ replicate 37 1

abbrev pub host_events : List Event
host_events =
    by set_line (Begun set_line)
    ∷ by set_line (SlotChanged 0 (unlogged (example_slot 5 64 false)))
    ∷ by set_line (Answered 2 Done)
    ∷ by write_first (Begun write_first)
    ∷ by write_first LookedAtPause
    ∷ by write_first LookedAtSlots
    ∷ by write_first (LookedAtHost 65)
    ∷ by write_first LookedAtPause
    ∷ by write_first (Accessed 6 0 (Write 7) 65 0)
    ∷ by write_first (Answered 3 (Reached 65 0))
    ∷ by read_cached (Begun read_cached)
    ∷ by read_cached LookedAtPause
    ∷ by allow_line (Begun allow_line)
    ∷ by allow_line (LookedAtHost 65)
    ∷ by read_cached (Accessed 6 0 Read 65 7)
    ∷ by read_cached (Answered 4 (Reached 65 7))
    ∷ by read_again (Begun read_again)
    ∷ by read_again LookedAtPause
    ∷ by read_again LookedAtSlots
    ∷ by read_again (LookedAtHost 65)
    ∷ by allow_line (HostChanged 65 (own_frames 65))
    ∷ by allow_line (Answered 5 Done)
    ∷ by read_again LookedAtPause
    ∷ by read_again LookedAtSlots
    ∷ by read_again (LookedAtHost 65)
    ∷ by read_again LookedAtPause
    ∷ by read_again (Accessed 6 0 Read 65 7)
    ∷ by read_again (Answered 6 (Reached 65 7))
    ∷ []

-- The host thread has waited once. With its seventeenth step the leaf is gone, whose table is page 4, while the invalidation is open over guest frame 6; with
-- the next one the first processor, which is in the guest, is asked for a flush; and in the end one invalidation has ended, and none is open.
abbrev pub ExampleHost : Type 0
ExampleHost =
    RunDelays run_sizes host_lines host_order host_events 2 1
    × RunLeaves run_sizes host_lines (order_to_zap 16) area.Pool (pool_index 4 6) (leaf_word 1 65 true true true)
    × RunLeaves run_sizes host_lines (order_to_zap 17) area.Pool (pool_index 4 6) 0
    × RunLeaves run_sizes host_lines (order_to_zap 17) area.Count 0 1
    × RunLeaves run_sizes host_lines (order_to_zap 17) area.RangeStart 0 6
    × RunLeaves run_sizes host_lines (order_to_zap 17) area.RangeEnd 0 7
    × RunLeaves run_sizes host_lines (order_to_zap 18) area.State 0 7
    × RunLeaves run_sizes host_lines host_order area.Seq 0 1
    × RunLeaves run_sizes host_lines host_order area.Count 0 0
    × (text host_events ≡ codes "2 vm done\n3 v0 frame 65 value 0\n4 v0 frame 65 value 7\n5 h0 done\n6 v1 frame 65 value 7\n")
