-- A run in which two processors write to one guest frame at a time.
use Rattle.std.specs.Prelude.{◌≡◌, ℕ, zero, suc, List, [], ◌∷◌, ◌++◌, replicate, codes, false}
use Rattle.core_views.specs.declared.answer.Answer.TheVariants.{Done, Reached}
use Rattle.core_views.specs.declared.event.Event.{Event}
use Rattle.core_views.specs.declared.event.EventKind.TheVariants.{Accessed, Answered, Begun, LookedAtHost, LookedAtPause, LookedAtSlots, SlotChanged}
use Rattle.core_views.specs.declared.trace.Line.{Line}
use Rattle.core_views.specs.declared.trace.Op.TheVariants.{Write}
use Rattle.core_views.specs.FlatHistory.{by}
use Rattle.flat_laws.specs.Laws.{access_line, example_slot}
use Rattle.core_views.specs.Text.{text}
use Rattle.mmu_laws.specs.steps.ExampleSteps.{RunTells, run_sizes, set_line, unlogged}

-- Two processors write to one guest frame, a step each in turn. Both see the same free pages: the second one loses its first try to the first
-- one, waits, and takes the next page. It then loses the link of each level to the first one, gives its page back, and begins anew after it:
-- three times, until it walks to the leaf that the first one has put, in its fourth stay in the guest.
abbrev pub first_line : Line
first_line = access_line 3 0 6 0 (Write 7)

abbrev pub second_line : Line
second_line = access_line 4 1 6 0 (Write 8)

abbrev pub race_lines : List Line
race_lines = set_line ∷ first_line ∷ second_line ∷ []

-- these actors in turn, so many times
abbrev pub in_turn : ℕ → List ℕ → List ℕ
in_turn zero actors = []
in_turn (suc n) actors = actors ++ in_turn n actors

abbrev pub race_order : List ℕ
race_order = replicate 524 3 ++ (in_turn 1581 (0 ∷ 1 ∷ []) ++ replicate 46 1)

abbrev pub race_events : List Event
race_events =
    by set_line (Begun set_line)
    ∷ by set_line (SlotChanged 0 (unlogged (example_slot 5 64 false)))
    ∷ by set_line (Answered 2 Done)
    ∷ by first_line (Begun first_line)
    ∷ by second_line (Begun second_line)
    ∷ by first_line LookedAtPause
    ∷ by second_line LookedAtPause
    ∷ by first_line LookedAtSlots
    ∷ by second_line LookedAtSlots
    ∷ by first_line (LookedAtHost 65)
    ∷ by second_line (LookedAtHost 65)
    ∷ by second_line LookedAtPause
    ∷ by second_line LookedAtSlots
    ∷ by second_line (LookedAtHost 65)
    ∷ by second_line LookedAtPause
    ∷ by second_line LookedAtSlots
    ∷ by second_line (LookedAtHost 65)
    ∷ by first_line LookedAtPause
    ∷ by first_line (Accessed 6 0 (Write 7) 65 0)
    ∷ by first_line (Answered 3 (Reached 65 0))
    ∷ by second_line LookedAtPause
    ∷ by second_line (Accessed 6 0 (Write 8) 65 7)
    ∷ by second_line (Answered 4 (Reached 65 7))
    ∷ []

abbrev pub ExampleRaces : Type 0
ExampleRaces = RunTells run_sizes race_lines race_order race_events × (text race_events ≡ codes "2 vm done\n3 v0 frame 65 value 0\n4 v1 frame 65 value 7\n")
