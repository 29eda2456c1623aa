-- Where the steps of the parts are.
use Rattle.std.proofs.Common.{◌≡◌, ℕ, refl}
use Rattle.core_views.specs.declared.topics.Topics.{Topics}
use Rattle.part_steps.specs.declared.part_step.PartStep.{PartStep}
use Rattle.part_steps.specs.declared.part_step.PartStep.TheVariants as part
use Rattle.part_steps.specs.PartTasks.{part_task}

-- The index doesn't hang on the note, nor does what is written.
pub index_same : (step : PartStep) (own_place : ℕ) (t : Topics) (note : ℕ) → ((part_task step own_place t note).index
    ≡ (part_task step own_place t 0).index) × ((part_task step own_place t note).area ≡ (part_task step own_place t 0).area)
index_same part.Enter own_place t note = (refl, refl)
index_same _ own_place t note = (refl, refl)

pub written_same : (step : PartStep) (own_place : ℕ) (t : Topics) (note : ℕ)
    → (part_task step own_place t note).written ≡ (part_task step own_place t 0).written
written_same part.Enter own_place t note = refl
written_same _ own_place t note = refl
