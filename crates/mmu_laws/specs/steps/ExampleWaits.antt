-- A run in which a slot line waits beside a write.
use Rattle.std.specs.Prelude.{ℕ, List, [], ◌∷◌, ◌++◌, replicate, true, false}
use Rattle.core_views.specs.declared.answer.Answer.TheVariants.{Done, Reached}
use Rattle.core_views.specs.declared.event.Event.{Event}
use Rattle.core_views.specs.declared.event.EventKind.TheVariants.{Accessed, Answered, Begun, LookedAtHost, LookedAtPause, LookedAtSlots, SlotChanged}
use Rattle.core_views.specs.declared.trace.Line.{Line}
use Rattle.core_views.specs.declared.trace.Op.TheVariants.{Write}
use Rattle.core_views.specs.FlatHistory.{by}
use Rattle.flat_laws.specs.Laws.{access_line, example_slot}
use Rattle.mmu_laws.specs.steps.ExampleSteps.{RunDelays, run_sizes, set_line, set_read_only_line, unlogged}

-- A slot line beside a write, which both claim a page from the same word of the map. The processor takes the page that the slot line is about to
-- try: it waits, and takes the next one. With its page filled it finds the lock shared by the processor's fault, and waits. Behind its publication
-- its watch finds the processor in the guest, where it touches, and waits. So it makes three steps more than the slot line before it, which nobody was
-- beside: 527.
abbrev pub beside_line : Line
beside_line = access_line 4 1 6 0 (Write 7)

abbrev pub wait_lines : List Line
wait_lines = set_line ∷ set_read_only_line ∷ beside_line ∷ []

abbrev pub wait_order : List ℕ
wait_order = replicate 524 3 ++ (replicate 19 1 ++ (3 ∷ 1 ∷ replicate 516 3 ++ (replicate 1553 1 ++ (replicate 6 3 ++ (replicate 8 1 ++ replicate 4 3)))))

abbrev pub wait_events : List Event
wait_events =
    by set_line (Begun set_line)
    ∷ by set_line (SlotChanged 0 (unlogged (example_slot 5 64 false)))
    ∷ by set_line (Answered 2 Done)
    ∷ by beside_line (Begun beside_line)
    ∷ by beside_line LookedAtPause
    ∷ by beside_line LookedAtSlots
    ∷ by beside_line (LookedAtHost 65)
    ∷ by set_read_only_line (Begun set_read_only_line)
    ∷ by set_read_only_line (SlotChanged 1 (unlogged (example_slot 16 0 true)))
    ∷ by beside_line LookedAtPause
    ∷ by beside_line (Accessed 6 0 (Write 7) 65 0)
    ∷ by beside_line (Answered 4 (Reached 65 0))
    ∷ by set_read_only_line (Answered 3 Done)
    ∷ []

abbrev pub ExampleWaits : Type 0
ExampleWaits = RunDelays run_sizes wait_lines wait_order wait_events 3 3
