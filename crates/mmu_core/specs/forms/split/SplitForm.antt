-- What a line that splits a large leaf says at its places.
use Rattle.std.specs.Prelude.{Bool, [], Some, false, true}
use Rattle.core_views.specs.declared.place.Place.TheVariants as place
use Rattle.core_views.specs.declared.place.SplitPlace.{SplitPlace}
use Rattle.core_views.specs.declared.place.SplitPlace.TheVariants.{Begin}
use Rattle.part_steps.specs.declared.part_step.PartStep.TheVariants as part
use Rattle.part_steps.specs.PartSteps.{PartNeeds}
use Rattle.mmu_core.specs.declared.outcome.Outcome.TheVariants.{Goes}
use Rattle.mmu_core.specs.forms.split.SplitKnows.{SplitKnows}
use Rattle.mmu_core.specs.forms.split.SplitLeft.{split_left}
use Rattle.mmu_core.specs.forms.split.SplitSteps.{split_note, split_outcome, split_part, split_tells}
use Rattle.mmu_core.specs.lines.Form.{Form, of_split, plain_form}

abbrev pub split_is_first : SplitPlace → Bool
split_is_first Begin = true
split_is_first _ = false

abbrev pub split_form : SplitPlace → Form
split_form p = record (plain_form (place.Split p)) {
  is_for = λ command. of_split command (λ gfn. true) false;
  is_first = split_is_first p;
  part = λ command h. of_split command (λ gfn. Some (split_part p gfn h.topics)) (Some part.Seq);
  note = λ command h. of_split command (λ gfn. split_note p) 0;
  outcome = λ command h v. of_split command (λ gfn. split_outcome p h.state.sizes h.topics v) (Goes (place.Split p));
  left = λ command z t. split_left p z t;
  tells = λ command h v. of_split command (λ gfn. split_tells p) [];
  Rests = λ command h. of_split command (λ gfn. PartNeeds (split_part p gfn h.topics) h) ⊥;
  Knows = λ command h. of_split command (λ gfn. SplitKnows p h.state.sizes gfn h.topics) ⊥;
  Holds = λ z pool command h. of_split command (λ gfn. Unit {0}) ⊥;
}
