-- A run in which a host thread takes a page away, which two processors then bring in, and forbids writes to it while it is brought in once more.
use Rattle.std.specs.Prelude.{◌≡◌, List, [], ◌∷◌, ◌++◌, replicate, codes, ℕ, false, true}
use Rattle.core_views.specs.declared.actor.Actor.TheVariants.{Host}
use Rattle.core_views.specs.declared.answer.Answer.TheVariants.{Done, Reached}
use Rattle.core_views.specs.declared.event.Event.{Event}
use Rattle.core_views.specs.declared.event.EventKind.TheVariants.{Accessed, Answered, Begun, BroughtIn, HostChanged, LookedAtHost, LookedAtPause}
use Rattle.core_views.specs.declared.event.EventKind.TheVariants.{LookedAtSlots, SlotChanged}
use Rattle.core_views.specs.declared.trace.Command.TheVariants.{ChangeHost}
use Rattle.core_views.specs.declared.trace.HostChange.TheVariants.{Evict, Protect}
use Rattle.core_views.specs.declared.trace.Line.{Line}
use Rattle.core_views.specs.declared.trace.Op.TheVariants.{Read, Write}
use Rattle.core_views.specs.FlatHistory.{by}
use Rattle.flat_laws.specs.Laws.{access_line, example_slot}
use Rattle.core_views.specs.Text.{text}
use Rattle.part_steps.specs.Tasks.{map_of}
use Rattle.spte_words.specs.declared.area.Area.TheVariants as area
use Rattle.spte_words.specs.Areas.{content_index, pool_index}
use Rattle.spte_words.specs.Entries.{leaf_word}
use Rattle.spte_words.specs.HostWords.{host_word}
use Rattle.mmu_laws.specs.steps.ExampleHost.{write_first}
use Rattle.mmu_laws.specs.steps.ExampleSteps.{RunDelays, RunLeaves, run_sizes, set_line, unlogged}

abbrev pub evict_line : Line
evict_line = record { number = 4; actor = Host 0; command = ChangeHost 65 Evict }

abbrev pub bring_line : Line
bring_line = access_line 5 0 6 0 (Write 9)

abbrev pub late_line : Line
late_line = access_line 6 1 6 0 Read

abbrev pub evict_again : Line
evict_again = record { number = 7; actor = Host 0; command = ChangeHost 65 Evict }

abbrev pub forbid_line : Line
forbid_line = record { number = 8; actor = Host 0; command = ChangeHost 65 Protect }

abbrev pub read_between : Line
read_between = access_line 9 1 6 0 Read

abbrev pub evict_lines : List Line
evict_lines = set_line ∷ write_first ∷ evict_line ∷ bring_line ∷ late_line ∷ evict_again ∷ forbid_line ∷ read_between ∷ []

-- The first processor's write has put the leaf; then the host thread takes the page away.
abbrev pub order_to_evict : List ℕ
order_to_evict = replicate 524 3 ++ replicate 1581 0 ++ replicate 29 2

-- The faults of both processors look at the host word, which is of an absent page; and the first processor brings the page in.
abbrev pub order_to_bring : List ℕ
order_to_bring = order_to_evict ++ replicate 16 0 ++ replicate 16 1 ++ replicate 1 0

-- The second processor's exchange finds another word than its look, so that its fault begins anew: the page is there now, and it puts the leaf.
abbrev pub order_to_read : List ℕ
order_to_read = order_to_bring ++ replicate 38 1

-- The first processor goes on, and finds this leaf.
abbrev pub order_to_write : List ℕ
order_to_write = order_to_read ++ replicate 19 0

-- The host thread takes the page away once more. Then its line that forbids writes looks at the host word, which is of an absent page, and comes to its
-- exchange of this word; a fault of the second processor brings the page in; and the host thread makes these steps.
abbrev pub order_to_forbid : ℕ → List ℕ
order_to_forbid steps = order_to_write ++ replicate 50 2 ++ replicate 17 1 ++ replicate steps 2

-- With the first of them it loses its exchange, with the next one it changes the word that it found. Then the fault begins anew: its leaf forbids writes.
abbrev pub evict_order : List ℕ
evict_order = order_to_forbid 8 ++ replicate 41 1

abbrev pub events_to_write : List Event
events_to_write =
    by set_line (Begun set_line)
    ∷ by set_line (SlotChanged 0 (unlogged (example_slot 5 64 false)))
    ∷ by set_line (Answered 2 Done)
    ∷ by write_first (Begun write_first)
    ∷ by write_first LookedAtPause
    ∷ by write_first LookedAtSlots
    ∷ by write_first (LookedAtHost 65)
    ∷ by write_first LookedAtPause
    ∷ by write_first (Accessed 6 0 (Write 7) 65 0)
    ∷ by write_first (Answered 3 (Reached 65 0))
    ∷ by evict_line (Begun evict_line)
    ∷ by evict_line (LookedAtHost 65)
    ∷ by evict_line (HostChanged 65 (record { frame = 65; present = false; writable = true; level = 1 }))
    ∷ by evict_line (Answered 4 Done)
    ∷ by bring_line (Begun bring_line)
    ∷ by bring_line LookedAtPause
    ∷ by bring_line LookedAtSlots
    ∷ by bring_line (LookedAtHost 65)
    ∷ by late_line (Begun late_line)
    ∷ by late_line LookedAtPause
    ∷ by late_line LookedAtSlots
    ∷ by late_line (LookedAtHost 65)
    ∷ by bring_line (BroughtIn 65)
    ∷ by late_line LookedAtPause
    ∷ by late_line LookedAtSlots
    ∷ by late_line (LookedAtHost 65)
    ∷ by late_line LookedAtPause
    ∷ by late_line (Accessed 6 0 Read 65 7)
    ∷ by late_line (Answered 6 (Reached 65 7))
    ∷ by bring_line LookedAtPause
    ∷ by bring_line (Accessed 6 0 (Write 9) 65 7)
    ∷ by bring_line (Answered 5 (Reached 65 7))
    ∷ []

abbrev pub evict_events : List Event
evict_events =
    events_to_write
    ++ (by evict_again (Begun evict_again)
    ∷ by evict_again (LookedAtHost 65)
    ∷ by evict_again (HostChanged 65 (record { frame = 65; present = false; writable = true; level = 1 }))
    ∷ by evict_again (Answered 7 Done)
    ∷ by forbid_line (Begun forbid_line)
    ∷ by forbid_line (LookedAtHost 65)
    ∷ by read_between (Begun read_between)
    ∷ by read_between LookedAtPause
    ∷ by read_between LookedAtSlots
    ∷ by read_between (LookedAtHost 65)
    ∷ by read_between (BroughtIn 65)
    ∷ by forbid_line (HostChanged 65 (record { frame = 65; present = true; writable = false; level = 1 }))
    ∷ by forbid_line (Answered 8 Done)
    ∷ by read_between LookedAtPause
    ∷ by read_between LookedAtSlots
    ∷ by read_between (LookedAtHost 65)
    ∷ by read_between LookedAtPause
    ∷ by read_between (Accessed 6 0 Read 65 9)
    ∷ by read_between (Answered 9 (Reached 65 9))
    ∷ [])

-- Each line of the second processor is delayed once, and the host thread's, whose exchange is lost, isn't. The page that was taken away is absent, no leaf maps
-- it, and its frame holds what was written there. It is brought in, and the leaf is there again. After the exchange that is lost the host word allows writes,
-- and after the next one it forbids them, as does the leaf in the end, when three invalidations have ended and none is open.
abbrev pub ExampleEvict : Type 0
ExampleEvict =
    RunDelays run_sizes evict_lines order_to_write events_to_write 1 1
    × RunDelays run_sizes evict_lines evict_order evict_events 1 1
    × RunDelays run_sizes evict_lines evict_order evict_events 2 0
    × RunLeaves run_sizes evict_lines order_to_evict area.Host 65 (host_word 65 false true 1)
    × RunLeaves run_sizes evict_lines order_to_evict area.Pool (pool_index 4 6) 0
    × RunLeaves run_sizes evict_lines order_to_evict area.Content (content_index (map_of run_sizes) 65 0) 7
    × RunLeaves run_sizes evict_lines order_to_bring area.Host 65 (host_word 65 true true 1)
    × RunLeaves run_sizes evict_lines order_to_read area.Pool (pool_index 4 6) (leaf_word 1 65 true true true)
    × RunLeaves run_sizes evict_lines (order_to_forbid 1) area.Host 65 (host_word 65 true true 1)
    × RunLeaves run_sizes evict_lines (order_to_forbid 2) area.Host 65 (host_word 65 true false 1)
    × RunLeaves run_sizes evict_lines evict_order area.Pool (pool_index 4 6) (leaf_word 1 65 false false false)
    × RunLeaves run_sizes evict_lines evict_order area.Seq 0 3
    × RunLeaves run_sizes evict_lines evict_order area.Count 0 0
    × (text evict_events
    ≡ codes "2 vm done\n3 v0 frame 65 value 0\n4 h0 done\n6 v1 frame 65 value 7\n5 v0 frame 65 value 7\n"
    ++ codes "7 h0 done\n8 h0 done\n9 v1 frame 65 value 9\n")
