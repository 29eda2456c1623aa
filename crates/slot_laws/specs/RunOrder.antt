-- Closed histories of a line that makes the pages of a large one small, from a state in which it has two of them left to set.
use Rattle.std.specs.Prelude.{[], ◌∷◌, ℕ, if◌then◌else◌, nat_lt}
use Rattle.core_views.specs.declared.actor.Actor.TheVariants.{Host}
use Rattle.core_views.specs.declared.answer.Answer.TheVariants.{Done}
use Rattle.core_views.specs.declared.event.Event.{Event}
use Rattle.core_views.specs.declared.event.EventKind.TheVariants.{Answered, HostChanged}
use Rattle.core_views.specs.declared.trace.Command.TheVariants.{ChangeRun}
use Rattle.core_views.specs.declared.trace.Line.{Line}
use Rattle.core_views.specs.declared.trace.RunChange.TheVariants.{Small}
use Rattle.core_views.specs.Flat.{Flat, HasToSet, first_facts, first_flat, no_notes}
use Rattle.core_views.specs.Host.{own_frames}
use Rattle.core_views.specs.Lawful.{IsLawful}
use Rattle.flat_laws.specs.Laws.{example_sizes}
use Rattle.slot_laws.specs.DoneLines.{by}

abbrev pub small_line : Line
small_line = record { number = 2; actor = Host 0; command = ChangeRun 0 Small }

-- Host pages 0 to 511 were one large page, and the line has made all of them small but for 510 and 511.
abbrev pub two_left : Flat
two_left = record first_flat {
  facts = record first_facts { host = λ page. record (own_frames page) { level = if nat_lt page 510 then 1 else 2 } };
  under = λ actor. record { line = small_line; stage = HasToSet 510 2 1; notes = no_notes };
}

abbrev pub makes_small : ℕ → Event
makes_small page = by small_line (HostChanged page (own_frames page))

abbrev pub is_done : Event
is_done = by small_line (Answered 2 Done)

-- It makes the two small, in their order, and is done.
abbrev pub SetsTheLastTwo : Type 0
SetsTheLastTwo = IsLawful example_sizes two_left (makes_small 510 ∷ makes_small 511 ∷ is_done ∷ [])

-- It isn't done while a page is left.
abbrev pub LeavesNone : Type 0
LeavesNone = IsLawful example_sizes two_left (makes_small 510 ∷ is_done ∷ []) → ⊥

-- It can't make the two small in the other order.
abbrev pub SetsInOrder : Type 0
SetsInOrder = IsLawful example_sizes two_left (makes_small 511 ∷ makes_small 510 ∷ is_done ∷ []) → ⊥
