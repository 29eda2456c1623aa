use Rattle.std.proofs.Common.{refl}
use Rattle.core_views.specs.declared.trace.Command.TheVariants.{GetLog}
use Rattle.core_views.proofs.AskedFrames.{asked_rise}
use Rattle.flat_laws.proofs.SlotsCopied.{copied_are_held, frames_have_slots, slots_are_copied}
use Rattle.flat_laws.proofs.StoppedStands.{stopped_stands}
use Rattle.flat_laws.proofs.laws.migrations_keep_the_guest.Goals as goal

pub returns-clause-frames : goal.returns-clause-frames
returns-clause-frames c frames slots gfn = (
  λ is. (copied_are_held frames slots gfn is, frames_have_slots frames slots gfn is),
  λ both. slots_are_copied frames slots gfn both.0 both.1,
)

pub returns-clause-rising : goal.returns-clause-rising
returns-clause-rising c frames slot = asked_rise frames (GetLog 0) slot

pub returns-clause-pauses : goal.returns-clause-pauses
returns-clause-pauses c f = (refl, refl, refl)

pub returns-clause-start : goal.returns-clause-start
returns-clause-start c f = refl

pub returns-clause-copy : goal.returns-clause-copy
returns-clause-copy c f gfn page word value whole = refl

pub returns-clause-stands : goal.returns-clause-stands
returns-clause-stands c = stopped_stands
