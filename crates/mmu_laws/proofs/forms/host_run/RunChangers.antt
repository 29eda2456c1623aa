-- Who changes the next page of a run of host pages is a host thread, whose line sets the run.
use Rattle.std.proofs.Common.{◌≡◌, ℕ, refl, ap, ◌∙◌, sym}
use Rattle.std.specs.Prelude.{true, false, Some}
use Rattle.core_views.specs.declared.actor.Actor.{Actor}
use Rattle.core_views.specs.declared.actor.Actor.TheVariants.{Host}
use Rattle.core_views.specs.declared.place.AccessPlace.{AccessPlace}
use Rattle.core_views.specs.declared.place.AccessPlace.TheVariants.{Fault}
use Rattle.core_views.specs.declared.place.FaultPlace.TheVariants as fault
use Rattle.core_views.specs.declared.place.HostPlace.{HostPlace}
use Rattle.core_views.specs.declared.place.HostPlace.TheVariants as host_at
use Rattle.core_views.specs.declared.place.SlotChangePlace.{SlotChangePlace}
use Rattle.core_views.specs.declared.place.SlotChangePlace.TheVariants as change_at
use Rattle.core_views.specs.declared.sizes.Sizes.{Sizes}
use Rattle.core_views.specs.declared.topics.Topics.{Topics}
use Rattle.core_views.specs.declared.trace.Command.{Command}
use Rattle.core_views.specs.declared.trace.Command.TheVariants.{ChangeRun}
use Rattle.core_views.specs.declared.trace.HostChange.{HostChange}
use Rattle.core_views.specs.Held.{Held}
use Rattle.core_views.specs.HostRuns.{sets_run}
use Rattle.core_views.specs.Traces.{IsCommandFor}
use Rattle.part_steps.specs.declared.part_step.PartStep.{PartStep}
use Rattle.part_steps.specs.declared.part_step.PartStep.TheVariants as part
use Rattle.mmu_core.specs.forms.access.AccessSteps.{access_part}
use Rattle.mmu_core.specs.forms.host.HostSteps.{host_part}
use Rattle.mmu_core.specs.forms.slot_change.SlotChangeSteps.{slot_change_part}
use Rattle.mmu_core.proofs.forms.host.HostKept.{host_quiet}
use Rattle.mmu_core.proofs.forms.slot_change.SlotChangePlaces.{change_quiet}
use Rattle.mmu_core.proofs.machine.PartStepping.{changes_word}
use Rattle.mmu_core.proofs.slots.LiveStays.{access_quiet}

-- Such a step changes a host word.
not_quiet : changes_word part.ChangeNext ≡ false → ⊥
not_quiet quiet = cc quiet

pub quiet_next : (step : PartStep) → changes_word step ≡ false → Some step ≡ Some part.ChangeNext → ⊥
quiet_next step quiet is = let same : step ≡ part.ChangeNext = cc is in not_quiet (ap changes_word (sym same) ∙ quiet)

pub no_access : (p : AccessPlace) (gfn : ℕ) (t : Topics) → access_part p gfn t ≡ Some part.ChangeNext → ⊥
no_access (Fault fault.Bring) gfn t is = cc is
no_access p gfn t is = not_quiet (access_quiet p gfn t part.ChangeNext is refl)

pub no_host : (p : HostPlace) (page : ℕ) (change : HostChange) (h : Held) → host_part p page change h ≡ part.ChangeNext → ⊥
no_host host_at.Change page change h is = cc is
no_host p page change h is = not_quiet (ap changes_word (sym is) ∙ host_quiet p page change h refl)

pub no_slot_change : (p : SlotChangePlace) (h : Held) (command : Command) → slot_change_part p h command ≡ part.ChangeNext → ⊥
no_slot_change change_at.Publish h command is = cc is
no_slot_change p h command is = not_quiet (ap changes_word (sym is) ∙ change_quiet p h command refl)

-- The actor of a line that sets a run is a host thread.
pub setter_is_host : (z : Sizes) (actor : Actor) (command : Command) → IsCommandFor z actor command → sets_run command ≡ true
    → (thread : ℕ) × (actor ≡ Host thread)
setter_is_host z (Host n) (ChangeRun page change) may sets = (n, refl)
setter_is_host z _ (ChangeRun page change) may sets = absurd may
setter_is_host z _ _ may sets = absurd (cc sets)
