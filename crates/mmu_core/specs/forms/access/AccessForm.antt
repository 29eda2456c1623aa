-- What an access says at its places.
use Rattle.std.specs.Prelude.{Bool, [], Some, false, true}
use Rattle.core_views.specs.declared.place.AccessPlace.{AccessPlace}
use Rattle.core_views.specs.declared.place.AccessPlace.TheVariants.{Enter}
use Rattle.core_views.specs.declared.place.Place.TheVariants as place
use Rattle.core_views.specs.Slots.{is_write}
use Rattle.part_steps.specs.declared.part_step.PartStep.TheVariants as part
use Rattle.mmu_core.specs.declared.outcome.Outcome.TheVariants.{Goes}
use Rattle.mmu_core.specs.forms.access.AccessKnows.{AccessKnows, RestsOn}
use Rattle.mmu_core.specs.forms.access.AccessSteps.{access_caches, access_loads, access_note, access_outcome, access_part, access_tells}
use Rattle.mmu_core.specs.lines.Bounds.{access_left}
use Rattle.mmu_core.specs.lines.Form.{Form, of_access, plain_form}

abbrev pub access_is_first : AccessPlace → Bool
access_is_first (Enter false) = true
access_is_first _ = false

abbrev pub access_form : AccessPlace → Form
access_form p = record (plain_form (place.Access p)) {
  is_for = λ command. of_access command (λ gfn word op. true) false;
  is_first = access_is_first p;
  part = λ command h. of_access command (λ gfn word op. access_part p gfn h.topics) (Some part.Seq);
  note = λ command h. of_access command (λ gfn word op. access_note p) 0;
  outcome = λ command h v. of_access command (λ gfn word op. access_outcome p h gfn op v) (Goes (place.Access p));
  left = λ command z t. access_left p z t;
  loads = λ command h v. of_access command (λ gfn word op. access_loads p h gfn op v) h.state;
  caches = λ command h v. of_access command (λ gfn word op. access_caches p h gfn op v) h.cached;
  tells = λ command h v. of_access command (λ gfn word op. access_tells p h gfn word op v) [];
  Rests = λ command h. of_access command (λ gfn word op. RestsOn (access_part p gfn h.topics) gfn (is_write op) h) ⊥;
  Knows = λ command h. of_access command (λ gfn word op. AccessKnows p gfn (is_write op) h) ⊥;
  Holds = λ z pool command h. of_access command (λ gfn word op. Unit {0}) ⊥;
}
