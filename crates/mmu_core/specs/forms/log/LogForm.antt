-- What a line that reads a dirty log says at its places.
use Rattle.std.specs.Prelude.{◌≡◌, Bool, Some, false, is_some, true}
use Rattle.core_views.specs.declared.place.LogPlace.{LogPlace}
use Rattle.core_views.specs.declared.place.LogPlace.TheVariants.{AtOnce, Exclude, Peek}
use Rattle.core_views.specs.declared.place.Place.TheVariants as place
use Rattle.core_views.specs.LogCommands.{log_read}
use Rattle.part_steps.specs.PartSteps.{PartNeeds}
use Rattle.mmu_core.specs.forms.log.LogKnows.{LogKnows, LogRests}
use Rattle.mmu_core.specs.forms.log.LogLeft.{log_left}
use Rattle.mmu_core.specs.forms.log.LogOutcomes.{after_log, harvest_after}
use Rattle.mmu_core.specs.forms.log.LogSteps.{log_next, log_note, log_part, log_reads}
use Rattle.mmu_core.specs.forms.log.LogTells.{log_tells}
use Rattle.mmu_core.specs.lines.Form.{Form, plain_form}

abbrev pub log_is_first : LogPlace → Bool
log_is_first (AtOnce refusal) = true
log_is_first Exclude = true
log_is_first (Peek false) = true
log_is_first _ = false

abbrev pub log_form : LogPlace → Form
log_form p = record (plain_form (place.Log p)) {
  is_for = λ command. is_some (log_read command);
  is_first = log_is_first p;
  part = λ command h. Some (log_part p h command);
  note = λ command h. log_note p h command;
  outcome = λ command h v. after_log (log_next p command h v) (log_reads p command h v);
  left = λ command z t. log_left p z t;
  reads = λ command h v. harvest_after (log_next p command h v) (log_reads p command h v);
  tells = λ command h v. log_tells p command h v;
  Rests = λ command h. (is_some (log_read command) ≡ true) × PartNeeds (log_part p h command) h × LogRests p command h;
  Knows = λ command h. LogKnows p command h;
  Holds = λ z pool command h. Unit {0};
}
