-- A run in which a host thread maps the first pages of a machine, which a slot gives to the guest, as one large page, is refused to do it again, maps them by
-- themselves again, and is refused a run that begins one page further.
use Rattle.std.specs.Prelude.{◌≡◌, ◌+◌, ℕ, zero, suc, List, [], ◌∷◌, ◌++◌, replicate, codes, true, false}
use Rattle.core_views.specs.declared.actor.Actor.TheVariants.{Host}
use Rattle.core_views.specs.declared.answer.Answer.TheVariants.{Done, Refused}
use Rattle.core_views.specs.declared.answer.Refusal.TheVariants.{IsHuge, NotAligned}
use Rattle.core_views.specs.declared.event.Event.{Event}
use Rattle.core_views.specs.declared.event.EventKind.TheVariants.{Answered, Begun, Exited, HostChanged, LookedAtHost, SlotChanged}
use Rattle.core_views.specs.declared.sizes.Sizes.{Sizes}
use Rattle.core_views.specs.declared.trace.Command.TheVariants.{ChangeRun}
use Rattle.core_views.specs.declared.trace.Line.{Line}
use Rattle.core_views.specs.declared.trace.RunChange.TheVariants.{Huge, Small}
use Rattle.core_views.specs.declared.trace.Slot.{Slot}
use Rattle.core_views.specs.FlatHistory.{by}
use Rattle.core_views.specs.Text.{text}
use Rattle.flat_laws.specs.Laws.{example_sizes, manager_line}
use Rattle.spte_words.specs.declared.area.Area.TheVariants as area
use Rattle.spte_words.specs.HostWords.{host_word}
use Rattle.mmu_laws.specs.steps.ExampleSteps.{RunLeaves, RunTells, unlogged}

-- a machine with the pages of one run of level 2, and one page more
abbrev pub huge_sizes : Sizes
huge_sizes = record example_sizes { pages = 513; frames = 513; first_pages = 0 ∷ 513 ∷ 513 ∷ 513 ∷ [] }

-- The manager sets a slot, of guest frames 1024 to 1535, which are the pages of the run.
abbrev pub run_slot : Slot
run_slot = record { base = 1024; pages = 512; host = 0; read_only = false }

abbrev pub slot_line : Line
slot_line = manager_line 2 0 run_slot

abbrev pub huge_line : Line
huge_line = record { number = 3; actor = Host 0; command = ChangeRun 0 (Huge 2) }

abbrev pub again_line : Line
again_line = record { number = 4; actor = Host 0; command = ChangeRun 0 (Huge 2) }

abbrev pub split_line : Line
split_line = record { number = 5; actor = Host 0; command = ChangeRun 5 Small }

abbrev pub aside_line : Line
aside_line = record { number = 6; actor = Host 0; command = ChangeRun 1 (Huge 2) }

abbrev pub huge_lines : List Line
huge_lines = slot_line ∷ huge_line ∷ again_line ∷ split_line ∷ aside_line ∷ []

-- The host thread's first line looks at each page, 512 steps; begins its invalidation with 48 steps, 35 of them for the slots, of which the first one is set,
-- and one for its sweep, since no table is linked; changes each page, 512 steps; and ends the invalidation with six. Its second line makes one step. Its third
-- line makes as many as the first one. Its fourth line looks at each page of its run, and is refused with the last look.
abbrev pub order_of_huge : ℕ → List ℕ
order_of_huge steps = replicate 524 3 ++ replicate steps 2

-- what a line tells that looks at n pages from this one on, and that changes them to small pages, or to a large one
abbrev pub looks : Line → ℕ → ℕ → List Event
looks line page zero = []
looks line page (suc n) = by line (LookedAtHost page) ∷ looks line (page + 1) n

abbrev pub changes : Line → ℕ → ℕ → ℕ → List Event
changes line level page zero = []
changes line level page (suc n) =
    by line (HostChanged page (record { frame = page; present = true; writable = true; level = level })) ∷ changes line level (page + 1) n

-- The thread's third line looks at its own page first, and then at the others.
abbrev pub huge_events : List Event
huge_events =
    (by slot_line (Begun slot_line)
    ∷ by slot_line (SlotChanged 0 (unlogged run_slot))
    ∷ by slot_line (Answered 2 Done)
    ∷ by huge_line (Begun huge_line)
    ∷ looks huge_line 0 512)
    ++ (changes huge_line 2 0 512
    ++ (by huge_line (Answered 3 Done)
    ∷ by again_line (Begun again_line)
    ∷ by again_line (LookedAtHost 0)
    ∷ by again_line (Exited (Refused IsHuge))
    ∷ by again_line (Answered 4 (Refused IsHuge))
    ∷ by split_line (Begun split_line)
    ∷ by split_line (LookedAtHost 5)
    ∷ (looks split_line 0 5
    ++ (looks split_line 6 506
    ++ (changes split_line 1 0 512
    ++ (by split_line (Answered 5 Done)
    ∷ by aside_line (Begun aside_line)
    ∷ (looks aside_line 1 512
    ++ (by aside_line (Exited (Refused NotAligned)) ∷ by aside_line (Answered 6 (Refused NotAligned)) ∷ []))))))))

-- After a hundred changes of the thread's first line the first hundred pages are of the large page, and the next one isn't yet, while the invalidation of
-- the slot's guest frames is open; after all of them the last page is. In the end this one is a small page again, and two invalidations have ended: the
-- refused line begins none.
abbrev pub ExampleHuge : Type 0
ExampleHuge =
    RunTells huge_sizes huge_lines (order_of_huge 2669) huge_events
    × RunLeaves huge_sizes huge_lines (order_of_huge 660) area.Host 99 (host_word 99 true true 2)
    × RunLeaves huge_sizes huge_lines (order_of_huge 660) area.Host 100 (host_word 100 true true 1)
    × RunLeaves huge_sizes huge_lines (order_of_huge 660) area.Count 0 1
    × RunLeaves huge_sizes huge_lines (order_of_huge 660) area.RangeStart 0 1024
    × RunLeaves huge_sizes huge_lines (order_of_huge 660) area.RangeEnd 0 1536
    × RunLeaves huge_sizes huge_lines (order_of_huge 1078) area.Host 511 (host_word 511 true true 2)
    × RunLeaves huge_sizes huge_lines (order_of_huge 1078) area.Seq 0 1
    × RunLeaves huge_sizes huge_lines (order_of_huge 2669) area.Host 511 (host_word 511 true true 1)
    × RunLeaves huge_sizes huge_lines (order_of_huge 2669) area.Seq 0 2
    × RunLeaves huge_sizes huge_lines (order_of_huge 2669) area.Count 0 0
    × (text huge_events ≡ codes "2 vm done\n3 h0 done\n4 h0 refused is-huge\n5 h0 done\n6 h0 refused not-aligned\n")
