-- A run in which a host thread forbids writes to a page while the fault of a write is under way, and allows them again.
use Rattle.std.specs.Prelude.{◌≡◌, List, [], ◌∷◌, ◌++◌, replicate, codes, ℕ, false, true}
use Rattle.core_views.specs.declared.actor.Actor.TheVariants.{Host}
use Rattle.core_views.specs.declared.answer.Answer.TheVariants.{Done, HostFault, Reached}
use Rattle.core_views.specs.declared.event.Event.{Event}
use Rattle.core_views.specs.declared.event.EventKind.TheVariants.{Accessed, Answered, Begun, Exited, HostChanged}
use Rattle.core_views.specs.declared.event.EventKind.TheVariants.{LookedAtHost, LookedAtPause, LookedAtSlots, SlotChanged}
use Rattle.core_views.specs.declared.trace.Command.TheVariants.{ChangeHost}
use Rattle.core_views.specs.declared.trace.HostChange.TheVariants.{Allow, Protect}
use Rattle.core_views.specs.declared.trace.Line.{Line}
use Rattle.core_views.specs.declared.trace.Op.TheVariants.{Write}
use Rattle.core_views.specs.FlatHistory.{by}
use Rattle.core_views.specs.Host.{own_frames}
use Rattle.flat_laws.specs.Laws.{access_line, example_slot}
use Rattle.core_views.specs.Text.{text}
use Rattle.spte_words.specs.declared.area.Area.TheVariants as area
use Rattle.spte_words.specs.Areas.{pool_index}
use Rattle.spte_words.specs.Entries.{leaf_word}
use Rattle.spte_words.specs.HostWords.{host_word}
use Rattle.mmu_laws.specs.steps.ExampleHost.{write_first}
use Rattle.mmu_laws.specs.steps.ExampleSteps.{RunDelays, RunLeaves, run_sizes, set_line, unlogged}

abbrev pub denied_line : Line
denied_line = access_line 4 1 6 0 (Write 9)

abbrev pub protect_line : Line
protect_line = record { number = 5; actor = Host 0; command = ChangeHost 65 Protect }

abbrev pub allow_again : Line
allow_again = record { number = 6; actor = Host 0; command = ChangeHost 65 Allow }

abbrev pub write_again : Line
write_again = access_line 7 1 6 0 (Write 9)

abbrev pub protect_lines : List Line
protect_lines = set_line ∷ write_first ∷ denied_line ∷ protect_line ∷ allow_again ∷ write_again ∷ []

-- The second processor finds no leaf, and its fault looks at the host word, which allows writes. Then the first processor's write puts the leaf, and the
-- host thread makes these steps of its line that forbids writes.
abbrev pub order_to_protect : ℕ → List ℕ
order_to_protect steps = replicate 524 3 ++ replicate 13 1 ++ replicate 1581 0 ++ replicate steps 2

-- Once that line has ended, the second processor's fault shares the lock, finds another sequence number than its snapshot, and begins anew: it finds no
-- leaf, and its second look at the host word ends it.
abbrev pub order_to_fault : List ℕ
order_to_fault = order_to_protect 29 ++ replicate 22 1

-- The host thread allows writes again: it finds no leaf to zap, and so makes a step less than the line before it.
abbrev pub order_to_allow : List ℕ
order_to_allow = order_to_fault ++ replicate 28 2

-- The second processor writes once more: its fault puts the leaf, by which it reaches what the first one wrote.
abbrev pub protect_order : List ℕ
protect_order = order_to_allow ++ replicate 36 1

abbrev pub events_to_fault : List Event
events_to_fault =
    by set_line (Begun set_line)
    ∷ by set_line (SlotChanged 0 (unlogged (example_slot 5 64 false)))
    ∷ by set_line (Answered 2 Done)
    ∷ by denied_line (Begun denied_line)
    ∷ by denied_line LookedAtPause
    ∷ by denied_line LookedAtSlots
    ∷ by denied_line (LookedAtHost 65)
    ∷ by write_first (Begun write_first)
    ∷ by write_first LookedAtPause
    ∷ by write_first LookedAtSlots
    ∷ by write_first (LookedAtHost 65)
    ∷ by write_first LookedAtPause
    ∷ by write_first (Accessed 6 0 (Write 7) 65 0)
    ∷ by write_first (Answered 3 (Reached 65 0))
    ∷ by protect_line (Begun protect_line)
    ∷ by protect_line (LookedAtHost 65)
    ∷ by protect_line (HostChanged 65 (record { frame = 65; present = true; writable = false; level = 1 }))
    ∷ by protect_line (Answered 5 Done)
    ∷ by denied_line LookedAtPause
    ∷ by denied_line LookedAtSlots
    ∷ by denied_line (LookedAtHost 65)
    ∷ by denied_line (Exited HostFault)
    ∷ by denied_line (Answered 4 HostFault)
    ∷ []

abbrev pub events_behind : List Event
events_behind =
    by allow_again (Begun allow_again)
    ∷ by allow_again (LookedAtHost 65)
    ∷ by allow_again (HostChanged 65 (own_frames 65))
    ∷ by allow_again (Answered 6 Done)
    ∷ by write_again (Begun write_again)
    ∷ by write_again LookedAtPause
    ∷ by write_again LookedAtSlots
    ∷ by write_again (LookedAtHost 65)
    ∷ by write_again LookedAtPause
    ∷ by write_again (Accessed 6 0 (Write 9) 65 7)
    ∷ by write_again (Answered 7 (Reached 65 7))
    ∷ []

abbrev pub protect_events : List Event
protect_events = events_to_fault ++ events_behind

-- The write that is denied has been delayed once, and the one after it isn't. With its seventeenth step the line that forbids writes zaps the leaf, whose
-- table is page 4; at its end the host word forbids writes, and allows them again at the end of the other line. In the end the leaf is there again, two
-- invalidations have ended, and none is open.
abbrev pub ExampleProtect : Type 0
ExampleProtect =
    RunDelays run_sizes protect_lines order_to_fault events_to_fault 1 1
    × RunDelays run_sizes protect_lines protect_order protect_events 1 0
    × RunLeaves run_sizes protect_lines (order_to_protect 16) area.Pool (pool_index 4 6) (leaf_word 1 65 true true true)
    × RunLeaves run_sizes protect_lines (order_to_protect 17) area.Pool (pool_index 4 6) 0
    × RunLeaves run_sizes protect_lines (order_to_protect 29) area.Host 65 (host_word 65 true false 1)
    × RunLeaves run_sizes protect_lines order_to_allow area.Host 65 (host_word 65 true true 1)
    × RunLeaves run_sizes protect_lines protect_order area.Pool (pool_index 4 6) (leaf_word 1 65 true true true)
    × RunLeaves run_sizes protect_lines protect_order area.Seq 0 2
    × RunLeaves run_sizes protect_lines protect_order area.Count 0 0
    × (text protect_events ≡ codes "2 vm done\n3 v0 frame 65 value 0\n5 h0 done\n4 v1 hostfault\n6 h0 done\n7 v1 frame 65 value 7\n")
