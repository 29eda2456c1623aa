-- One step from any sound world that stands for a lawful history.
use Rattle.std.proofs.Common.{List, subst, sym}
use Rattle.core_views.specs.declared.event.Event.{Event}
use Rattle.core_views.specs.declared.kind.Kind.{Kind}
use Rattle.core_views.specs.declared.sizes.Sizes.{Sizes}
use Rattle.core_views.specs.Events.{after_all}
use Rattle.core_views.specs.Flat.{first_flat}
use Rattle.core_views.specs.Held.{Held}
use Rattle.flat_laws.proofs.AloneIsLawful.{lawful_append}
use Rattle.flat_laws.proofs.Caused.{all_caused, first_caused}
use Rattle.flat_laws.proofs.Writes.{all_of_lines, first_of_lines}
use Rattle.mmu_core.specs.machine.Enabled.{mmu}
use Rattle.mmu_core.specs.machine.Machine.{May, Step, World, effect}
use Rattle.mmu_core.specs.machine.View.{view}
use Rattle.mmu_laws.specs.flat.EachStep.{EachStepStandsOn, EachStepTellsLawfully, StandsFor, StartsStand, told_in}
use Rattle.mmu_laws.specs.flat.FlatInvariant.{FlatInvariant}
use Rattle.mmu_laws.specs.flat.FlatLogs.{FlatLogs}
use Rattle.mmu_laws.specs.forms.log.ReadSoFar.{Readings}
use Rattle.mmu_laws.proofs.flat.EveryLog.{LeavesLogs, LogsHold, logs_step, start_hold}
use Rattle.mmu_laws.proofs.flat.FlatRuns.{after_append}

-- What is so of writes and of causes in the flat state, its lawful history says.
holds : (z : Sizes) (w : World Held) (es : List Event) → StandsFor z w es → LogsHold z w (after_all es first_flat)
holds z w es S = record {
  sound = S.sound;
  covered = S.covered;
  given = S.given;
  flat = S.flat;
  lines = all_of_lines z es first_flat S.lawful first_of_lines;
  caused = all_caused z es first_flat S.lawful first_of_lines first_caused;
  logs = S.logs;
  reads = S.reads;
}

step_leaves : (z : Sizes) (w : World Held) (es : List Event) (s : Step Kind) → StandsFor z w es → May mmu w s
    → LeavesLogs z (effect mmu w s) (after_all es first_flat) (told_in w s)
step_leaves z w es s S may = logs_step z w (after_all es first_flat) s (holds z w es S) may

pub each_step_tells_lawfully : EachStepTellsLawfully
each_step_tells_lawfully z w es s S may = (step_leaves z w es s S may).0

pub each_step_stands_on : EachStepStandsOn
each_step_stands_on z w es s S may =
    let more : List Event = told_in w s in
    let K = step_leaves z w es s S may in
    let same = sym (after_append es more first_flat) in record {
      sound = K.1.sound;
      covered = K.1.covered;
      lawful = lawful_append z es more first_flat S.lawful K.0;
      flat = subst (FlatInvariant z (view z (effect mmu w s))) same K.1.flat;
      logs = subst (FlatLogs z (view z (effect mmu w s))) same K.1.logs;
      reads = subst (Readings z (view z (effect mmu w s))) same K.1.reads;
      given = K.1.given;
    }

pub starts_stand : StartsStand
starts_stand z lines w start =
    let H = start_hold z lines w start in
    record { sound = H.sound; covered = H.covered; lawful = tt; flat = H.flat; logs = H.logs; reads = H.reads; given = H.given }
