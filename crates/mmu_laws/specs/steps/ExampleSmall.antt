-- A run in which a host thread maps a small page by itself, which it is already, and is refused a run of pages that aren't all its own.
use Rattle.std.specs.Prelude.{◌≡◌, ℕ, List, [], ◌∷◌, ◌++◌, replicate, codes, false, true}
use Rattle.core_views.specs.declared.actor.Actor.TheVariants.{Host}
use Rattle.core_views.specs.declared.answer.Answer.TheVariants.{Done, Reached, Refused}
use Rattle.core_views.specs.declared.answer.Refusal.TheVariants.{OutOfRange}
use Rattle.core_views.specs.declared.event.Event.{Event}
use Rattle.core_views.specs.declared.event.EventKind.TheVariants.{Accessed, Answered, Begun, HostChanged, LookedAtHost, LookedAtPause, LookedAtSlots}
use Rattle.core_views.specs.declared.event.EventKind.TheVariants.{SlotChanged}
use Rattle.core_views.specs.declared.trace.Command.TheVariants.{ChangeRun}
use Rattle.core_views.specs.declared.trace.Line.{Line}
use Rattle.core_views.specs.declared.trace.Op.TheVariants.{Write}
use Rattle.core_views.specs.declared.trace.RunChange.TheVariants.{Huge, Small}
use Rattle.core_views.specs.FlatHistory.{by}
use Rattle.core_views.specs.Host.{own_frames}
use Rattle.core_views.specs.Text.{text}
use Rattle.flat_laws.specs.Laws.{example_slot}
use Rattle.spte_words.specs.declared.area.Area.TheVariants as area
use Rattle.spte_words.specs.Areas.{pool_index}
use Rattle.spte_words.specs.Entries.{leaf_word}
use Rattle.spte_words.specs.HostWords.{host_word}
use Rattle.mmu_laws.specs.steps.ExampleHost.{write_first}
use Rattle.mmu_laws.specs.steps.ExampleSteps.{RunLeaves, RunTells, run_sizes, set_line, unlogged}

abbrev pub small_line : Line
small_line = record { number = 4; actor = Host 0; command = ChangeRun 65 Small }

abbrev pub beyond_line : Line
beyond_line = record { number = 5; actor = Host 0; command = ChangeRun 64 (Huge 2) }

abbrev pub small_lines : List Line
small_lines = set_line ∷ write_first ∷ small_line ∷ beyond_line ∷ []

-- The processor's write has put the leaf. The host thread looks at page 65, zaps the leaf, asks both processors for a flush, exchanges the host word for the
-- same one, and ends its invalidation: 29 steps. Its next line is refused with its only step, since the machine has no more than 128 pages.
abbrev pub order_of_small : ℕ → List ℕ
order_of_small steps = replicate 524 3 ++ replicate 1581 0 ++ replicate steps 2

abbrev pub small_events : List Event
small_events =
    by set_line (Begun set_line)
    ∷ by set_line (SlotChanged 0 (unlogged (example_slot 5 64 false)))
    ∷ by set_line (Answered 2 Done)
    ∷ by write_first (Begun write_first)
    ∷ by write_first LookedAtPause
    ∷ by write_first LookedAtSlots
    ∷ by write_first (LookedAtHost 65)
    ∷ by write_first LookedAtPause
    ∷ by write_first (Accessed 6 0 (Write 7) 65 0)
    ∷ by write_first (Answered 3 (Reached 65 0))
    ∷ by small_line (Begun small_line)
    ∷ by small_line (LookedAtHost 65)
    ∷ by small_line (HostChanged 65 (own_frames 65))
    ∷ by small_line (Answered 4 Done)
    ∷ by beyond_line (Begun beyond_line)
    ∷ by beyond_line (Answered 5 (Refused OutOfRange))
    ∷ []

-- With its seventeenth step the leaf is gone, whose table is page 4; with the twenty-third the host word is exchanged, while the invalidation is open; and in
-- the end one invalidation has ended, and none is open.
abbrev pub ExampleSmall : Type 0
ExampleSmall =
    RunTells run_sizes small_lines (order_of_small 30) small_events
    × RunLeaves run_sizes small_lines (order_of_small 16) area.Pool (pool_index 4 6) (leaf_word 1 65 true true true)
    × RunLeaves run_sizes small_lines (order_of_small 17) area.Pool (pool_index 4 6) 0
    × RunLeaves run_sizes small_lines (order_of_small 23) area.Host 65 (host_word 65 true true 1)
    × RunLeaves run_sizes small_lines (order_of_small 23) area.Count 0 1
    × RunLeaves run_sizes small_lines (order_of_small 30) area.Seq 0 1
    × RunLeaves run_sizes small_lines (order_of_small 30) area.Count 0 0
    × (text small_events ≡ codes "2 vm done\n3 v0 frame 65 value 0\n4 h0 done\n5 h0 refused out-of-range\n")
