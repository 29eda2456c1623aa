-- What a line says at its places that maps a run of host pages as one, or its pages by themselves.
use Rattle.std.specs.Prelude.{Bool, [], Some, false, true}
use Rattle.core_views.specs.declared.place.HostRunPlace.{HostRunPlace}
use Rattle.core_views.specs.declared.place.HostRunPlace.TheVariants.{Look}
use Rattle.core_views.specs.declared.place.Place.TheVariants as place
use Rattle.part_steps.specs.declared.part_step.PartStep.TheVariants as part
use Rattle.part_steps.specs.PartSteps.{PartNeeds}
use Rattle.mmu_core.specs.declared.outcome.Outcome.TheVariants.{Goes}
use Rattle.mmu_core.specs.forms.host_run.HostRunKnows.{HostRunKnows, HostRunRests, host_run_opens}
use Rattle.mmu_core.specs.forms.host_run.HostRunLeft.{host_run_left}
use Rattle.mmu_core.specs.forms.host_run.HostRunSteps.{host_run_note, host_run_outcome, host_run_part, host_run_tells}
use Rattle.mmu_core.specs.lines.Form.{Form, of_run, plain_form}

abbrev pub host_run_is_first : HostRunPlace → Bool
host_run_is_first Look = true
host_run_is_first _ = false

abbrev pub host_run_form : HostRunPlace → Form
host_run_form p = record (plain_form (place.HostRun p)) {
  is_for = λ command. of_run command (λ page change. true) false;
  is_first = host_run_is_first p;
  part = λ command h. of_run command (λ page change. Some (host_run_part p page change h)) (Some part.Seq);
  note = λ command h. of_run command (λ page change. host_run_note p change) 0;
  outcome = λ command h v. of_run command (λ page change. host_run_outcome p page change h v) (Goes (place.HostRun p));
  left = λ command z t. host_run_left p z t;
  tells = λ command h v. of_run command (λ page change. host_run_tells p page change h v) [];
  Rests = λ command h. of_run command (λ page change. PartNeeds (host_run_part p page change h) h × HostRunRests p h) ⊥;
  Knows = λ command h. of_run command (λ page change. HostRunKnows p page change h) ⊥;
  Holds = λ z pool command h. of_run command (λ page change. Unit {0}) ⊥;
  opens = host_run_opens p;
}
