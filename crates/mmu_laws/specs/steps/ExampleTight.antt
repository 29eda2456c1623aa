-- A run in a pool of one page less than its lines need, and one in a pool of as many.
use Rattle.std.specs.Prelude.{◌≡◌, ◌+◌, ◌^◌, ℕ, List, [], ◌∷◌, ◌++◌, replicate, codes, false}
use Rattle.core_views.specs.declared.answer.Answer.TheVariants.{Done, Reached, Starved}
use Rattle.core_views.specs.declared.event.Event.{Event}
use Rattle.core_views.specs.declared.event.EventKind.TheVariants.{Accessed, Answered, Begun, Exited, LookedAtHost, LookedAtPause, LookedAtSlots, SlotChanged}
use Rattle.core_views.specs.declared.sizes.Sizes.{Sizes}
use Rattle.core_views.specs.declared.trace.Header.{Header}
use Rattle.core_views.specs.declared.trace.Op.TheVariants.{Write}
use Rattle.core_views.specs.FlatHistory.{by}
use Rattle.core_views.specs.Need.{need}
use Rattle.core_views.specs.Sizes.{sizes_of}
use Rattle.core_views.specs.Text.{text}
use Rattle.flat_laws.specs.Laws.{example_slot}
use Rattle.spte_words.specs.declared.area.Area.TheVariants as area
use Rattle.mmu_laws.specs.steps.ExampleRaces.{first_line, race_lines, second_line}
use Rattle.mmu_laws.specs.steps.ExampleSteps.{RunDelays, RunLeaves, RunTells, run_sizes, set_line, unlogged}

-- A slot is set, and two processors write to one guest frame of it, in a pool of six pages: one less than these lines need.
abbrev pub tight_sizes : Sizes
tight_sizes = record run_sizes { pool = 6 }

abbrev pub tight_header : Header
tight_header = record {
  version = 1;
  vcpus = 2;
  workers = 0;
  pages = 128;
  frames = 128;
  words = 2;
  pool = 6;
  cache = 64;
  manual = 0;
  hosts = 0 ∷ [];
}

-- The slot line publishes its slot set and gives the lock back, and has the old set still. The first write's fault links two tables, and claims a page for the
-- third one.
abbrev pub order_to_claim : List ℕ
order_to_claim = replicate 519 3 ++ replicate 1054 0

-- With six pages the root, both slot sets, two tables and this page are all of them. The second write's fault walks to the same absent entry, finds no page
-- free, and is starved, though the table that it wants is the one that the first write is about to link. Then the first write goes through, and the slot line
-- gives the old set back.
abbrev pub tight_order : List ℕ
tight_order = order_to_claim ++ replicate 25 1 ++ replicate 527 0 ++ replicate 5 3

-- With a seventh page the second write's fault claims it, and links its table, and the write goes through. The first one loses its link, gives its page back,
-- begins anew, and finds the leaf.
abbrev pub enough_order : List ℕ
enough_order = order_to_claim ++ replicate 551 1 ++ replicate 526 0 ++ replicate 5 3

-- what both runs tell first
abbrev pub events_first : List Event
events_first =
    by set_line (Begun set_line)
    ∷ by set_line (SlotChanged 0 (unlogged (example_slot 5 64 false)))
    ∷ by first_line (Begun first_line)
    ∷ by first_line LookedAtPause
    ∷ by first_line LookedAtSlots
    ∷ by first_line (LookedAtHost 65)
    ∷ by second_line (Begun second_line)
    ∷ by second_line LookedAtPause
    ∷ by second_line LookedAtSlots
    ∷ by second_line (LookedAtHost 65)
    ∷ []

abbrev pub tight_events : List Event
tight_events =
    events_first
    ++ by second_line (Exited Starved)
    ∷ by second_line (Answered 4 Starved)
    ∷ by first_line LookedAtPause
    ∷ by first_line (Accessed 6 0 (Write 7) 65 0)
    ∷ by first_line (Answered 3 (Reached 65 0))
    ∷ by set_line (Answered 2 Done)
    ∷ []

abbrev pub enough_events : List Event
enough_events =
    events_first
    ++ by second_line LookedAtPause
    ∷ by second_line (Accessed 6 0 (Write 8) 65 0)
    ∷ by second_line (Answered 4 (Reached 65 0))
    ∷ by first_line LookedAtPause
    ∷ by first_line (Accessed 6 0 (Write 7) 65 8)
    ∷ by first_line (Answered 3 (Reached 65 8))
    ∷ by set_line (Answered 2 Done)
    ∷ []

-- The lines need seven pages. With six the pool's map is 0 before the second write, which is starved; with seven its bit 6 is set, and both writes reach their
-- frame, the first one with one delay.
abbrev pub ExampleTight : Type 0
ExampleTight =
    (sizes_of tight_header ≡ tight_sizes) × (need tight_header race_lines ≡ tight_sizes.pool + 1)
    × RunLeaves tight_sizes race_lines order_to_claim area.PoolMap 0 0
    × RunTells tight_sizes race_lines tight_order tight_events
    × (text tight_events ≡ codes "4 v1 starved\n3 v0 frame 65 value 0\n2 vm done\n")
    × RunLeaves run_sizes race_lines order_to_claim area.PoolMap 0 (2 ^ 6)
    × RunDelays run_sizes race_lines enough_order enough_events 0 1
    × (text enough_events ≡ codes "4 v1 frame 65 value 0\n3 v0 frame 65 value 8\n2 vm done\n")
