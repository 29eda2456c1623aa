-- One step, from any sound world, whether or not steps lead there from a start. In such a world the host may map pages at any level.
use Rattle.std.specs.Prelude.{List, [], ◌++◌}
use Rattle.core_views.specs.declared.event.Event.{Event}
use Rattle.core_views.specs.declared.kind.Kind.{Kind}
use Rattle.core_views.specs.declared.sizes.Sizes.{Sizes}
use Rattle.core_views.specs.declared.trace.Line.{Line}
use Rattle.core_views.specs.Events.{after_all}
use Rattle.core_views.specs.Flat.{first_flat}
use Rattle.core_views.specs.Held.{Held}
use Rattle.core_views.specs.Lawful.{IsLawful}
use Rattle.mmu_core.specs.invariant.Laws.{IsSound}
use Rattle.mmu_core.specs.machine.Enabled.{mmu}
use Rattle.mmu_core.specs.machine.Machine.{May, Step, World, answered, effect, hand_in}
use Rattle.mmu_core.specs.machine.Steps.{events_of}
use Rattle.mmu_core.specs.machine.View.{view}
use Rattle.mmu_core.specs.machine.Worlds.{IsStart}
use Rattle.log_invariant.specs.LogInvariant.{LogInvariant}
use Rattle.mmu_laws.specs.flat.FlatInvariant.{FlatInvariant}
use Rattle.mmu_laws.specs.flat.FlatLogs.{FlatLogs}
use Rattle.mmu_laws.specs.forms.log.ReadSoFar.{Readings}
use Rattle.mmu_laws.specs.forms.slot_change.GivenLogs.{LogsGiven}

-- The world after a step that may be made in a sound one is sound.
abbrev pub EachStepStaysSound : Type 0
EachStepStaysSound = (z : Sizes) (w : World Held) (s : Step Kind) → IsSound z w → May mmu w s → IsSound z (effect mmu w s)

-- Where writes to slots with dirty logs are covered or excused, they are so after it.
abbrev pub EachStepCoversWrites : Type 0
EachStepCoversWrites =
    (z : Sizes) (w : World Held) (s : Step Kind) → IsSound z w → LogInvariant z (view z w) → May mmu w s → LogInvariant z (view z (effect mmu w s))

-- The world is sound, with its writes covered or excused. The history is lawful, and words and hands stand for the flat state that it leaves: slots, host
-- pages, contents and lines under way, dirty logs, and what lines have read of these so far. And a log that a line gives a slot stands in its actor's record
-- from the publication on.
pub record StandsFor (z : Sizes) (w : World Held) (es : List Event) : Type 0 where
  pub sound : IsSound z w
  pub covered : LogInvariant z (view z w)
  pub lawful : IsLawful z first_flat es
  pub flat : FlatInvariant z (view z w) (after_all es first_flat)
  pub logs : FlatLogs z (view z w) (after_all es first_flat)
  pub reads : Readings z (view z w) (after_all es first_flat)
  pub given : LogsGiven z (view z w)

-- what the step tells, made in this world
abbrev pub told_in : World Held → Step Kind → List Event
told_in w s = events_of (hand_in mmu w s.actor) (answered mmu w s.kind)

-- What a step tells in such a world is what the flat state allows that the history leaves.
abbrev pub EachStepTellsLawfully : Type 0
EachStepTellsLawfully =
    (z : Sizes) (w : World Held) (es : List Event) (s : Step Kind) → StandsFor z w es → May mmu w s → IsLawful z (after_all es first_flat) (told_in w s)

-- And the world after it stands for the history with these events.
abbrev pub EachStepStandsOn : Type 0
EachStepStandsOn =
    (z : Sizes) (w : World Held) (es : List Event) (s : Step Kind) → StandsFor z w es → May mmu w s → StandsFor z (effect mmu w s) (es ++ told_in w s)

-- The start stands for the empty history.
abbrev pub StartsStand : Type 0
StartsStand = (z : Sizes) (lines : List Line) (w : World Held) → IsStart z lines w → StandsFor z w []
