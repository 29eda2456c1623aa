-- What a line that changes a host page says at its places.
use Rattle.std.specs.Prelude.{Bool, [], Some, false, true}
use Rattle.core_views.specs.declared.place.HostPlace.{HostPlace}
use Rattle.core_views.specs.declared.place.HostPlace.TheVariants.{Look}
use Rattle.core_views.specs.declared.place.Place.TheVariants as place
use Rattle.part_steps.specs.declared.part_step.PartStep.TheVariants as part
use Rattle.part_steps.specs.PartSteps.{PartNeeds}
use Rattle.mmu_core.specs.declared.outcome.Outcome.TheVariants.{Goes}
use Rattle.mmu_core.specs.forms.host.HostKnows.{HostKnows, HostRests, host_opens, host_owns_frame}
use Rattle.mmu_core.specs.forms.host.HostSteps.{host_note, host_outcome, host_part, host_tells}
use Rattle.mmu_core.specs.forms.host.HostLeft.{host_left}
use Rattle.mmu_core.specs.lines.Form.{Form, of_change, plain_form}

abbrev pub host_is_first : HostPlace → Bool
host_is_first (Look moves) = true
host_is_first _ = false

abbrev pub host_form : HostPlace → Form
host_form p = record (plain_form (place.Host p)) {
  is_for = λ command. of_change command (λ page change. true) false;
  is_first = host_is_first p;
  part = λ command h. of_change command (λ page change. Some (host_part p page change h)) (Some part.Seq);
  note = λ command h. of_change command (λ page change. host_note p page h) 0;
  outcome = λ command h v. of_change command (λ page change. host_outcome p page h v) (Goes (place.Host p));
  left = λ command z t. host_left p z t;
  tells = λ command h v. of_change command (λ page change. host_tells p page change h v) [];
  Rests = λ command h. of_change command (λ page change. PartNeeds (host_part p page change h) h × HostRests p h) ⊥;
  Knows = λ command h. of_change command (λ page change. HostKnows p page change h) ⊥;
  Holds = λ z pool command h. of_change command (λ page change. Unit {0}) ⊥;
  opens = host_opens p;
  owns_frame = host_owns_frame p;
}
