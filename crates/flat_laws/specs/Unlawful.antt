-- Histories that flat guest memory doesn't allow. Each begins with the whole of one slot line, which is as it must be.
use Rattle.std.specs.Prelude.{List, [], ◌∷◌, ◌++◌, false, map, Some}
use Rattle.core_views.specs.declared.answer.Answer.{Answer}
use Rattle.core_views.specs.declared.answer.Answer.TheVariants.{Done, Mmio, Reached, Starved}
use Rattle.core_views.specs.declared.event.Event.{Event}
use Rattle.core_views.specs.declared.event.EventKind.{EventKind}
use Rattle.core_views.specs.declared.event.EventKind.TheVariants.{Begun, LookedAtPause, LookedAtSlots, LookedAtHost, Accessed, Exited, SlotChanged}
use Rattle.core_views.specs.declared.trace.Line.{Line}
use Rattle.core_views.specs.declared.trace.Op.TheVariants.{Read}
use Rattle.core_views.specs.Flat.{first_facts, first_flat}
use Rattle.core_views.specs.FlatHistory.{alone, answers, by}
use Rattle.flat_laws.specs.Laws.{access_line, example_sizes, example_slot, manager_line}
use Rattle.core_views.specs.Lawful.{IsLawful}

-- Guest frames 5 to 7 are host pages 64 to 66.
abbrev pub slot_line : Line
slot_line = manager_line 2 1 (example_slot 5 64 false)

-- this slot is set; then a line begins, does these, and is answered so
abbrev pub once_set : Line → List EventKind → Answer → List Event
once_set line kinds answer = alone example_sizes slot_line first_facts ++ (by line (Begun line) ∷ (map (by line) kinds ++ answers line answer))

-- What the line does, and its answer, are not allowed.
abbrev pub IsUnlawful : Line → List EventKind → Answer → Type 0
IsUnlawful line kinds answer = IsLawful example_sizes first_flat (once_set line kinds answer) → ⊥

-- A slot that has guest frame 7 too is to be refused. It can't be given up for want of a pool page.
abbrev pub overlap_line : Line
overlap_line = manager_line 3 2 (example_slot 7 0 false)

abbrev pub OverlapCannotStarve : Type 0
OverlapCannotStarve = IsUnlawful overlap_line (Exited Starved ∷ []) Starved

-- The slot is set again as it is. It isn't changed.
abbrev pub same_line : Line
same_line = manager_line 3 1 (example_slot 5 64 false)

abbrev pub UnchangedChangesNone : Type 0
UnchangedChangesNone = IsUnlawful same_line (SlotChanged 1 (Some (record { slot = example_slot 5 64 false; logged = false })) ∷ []) Done

-- A read of guest frame 6, which is host page 65, at frame 65.
abbrev pub inside_line : Line
inside_line = access_line 3 0 6 0 Read

-- It looks at the slots and at the host, and not at the pause.
abbrev pub AccessLooksAtPause : Type 0
AccessLooksAtPause = IsUnlawful inside_line (LookedAtSlots ∷ LookedAtHost 65 ∷ Accessed 6 0 Read 65 0 ∷ []) (Reached 65 0)

-- It looks at all that it must, and reaches another frame.
abbrev pub AccessReachesItsFrame : Type 0
AccessReachesItsFrame = IsUnlawful inside_line (LookedAtPause ∷ LookedAtSlots ∷ LookedAtHost 65 ∷ Accessed 6 0 Read 66 0 ∷ []) (Reached 66 0)

-- A read of guest frame 4 is outside every slot, and reaches no frame.
abbrev pub outside_line : Line
outside_line = access_line 3 0 4 0 Read

abbrev pub OutsideReachesNone : Type 0
OutsideReachesNone = IsUnlawful outside_line (LookedAtPause ∷ LookedAtSlots ∷ Accessed 4 0 Read 4 0 ∷ []) (Reached 4 0)

-- The slots give it no page, and so it can't be given up for want of a pool page, whatever it has looked at.
abbrev pub OutsideCannotStarve : Type 0
OutsideCannotStarve = IsUnlawful outside_line (LookedAtPause ∷ LookedAtSlots ∷ LookedAtHost 4 ∷ Exited Starved ∷ []) Starved

-- Inside a slot it can't before it has looked at the pause, nor before it has looked at its page of the host.
abbrev pub StarvedLooksAtPause : Type 0
StarvedLooksAtPause = IsUnlawful inside_line (LookedAtSlots ∷ LookedAtHost 65 ∷ Exited Starved ∷ []) Starved

abbrev pub StarvedLooksAtHost : Type 0
StarvedLooksAtHost = IsUnlawful inside_line (LookedAtPause ∷ LookedAtSlots ∷ Exited Starved ∷ []) Starved

-- Nor does it leave the guest before it has looked at the pause.
abbrev pub ExitLooksAtPause : Type 0
ExitLooksAtPause = IsUnlawful outside_line (LookedAtSlots ∷ Exited Mmio ∷ []) Mmio
