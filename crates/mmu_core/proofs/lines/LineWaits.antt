-- A step of a line that waits is a step of a part that waits.
use Rattle.std.proofs.Common.{◌≡◌, ◌<◌, ℕ, refl, sym, subst, ap}
use Rattle.std.specs.Prelude.{true, Option, Some, None}
use Rattle.core_views.specs.declared.kind.Kind.{Kind}
use Rattle.core_views.specs.declared.place.Place.{Place}
use Rattle.core_views.specs.declared.trace.Command.{Command}
use Rattle.core_views.specs.Held.{Held}
use Rattle.part_steps.specs.declared.part_step.PartStep.{PartStep}
use Rattle.part_steps.specs.declared.part_step.PartStep.TheVariants as part
use Rattle.part_steps.specs.PartTasks.{part_kind}
use Rattle.part_steps.specs.PartSteps.{PartNeeds}
use Rattle.part_steps.specs.Tasks.{kind_of_task}
use Rattle.mmu_core.specs.forms.access.AccessSteps.{task_by}
use Rattle.mmu_core.specs.orders.ClaimSteps.{FreeMap, Pages, Frames, claim_over, try_part}
use Rattle.mmu_core.specs.lines.Delays.{line_waits, waits_by}
use Rattle.mmu_core.specs.machine.Enabled.{IsNext}
use Rattle.mmu_core.specs.lines.Forms.{note_at, part_at, RestsAt}
use Rattle.mmu_core.specs.lines.PartAt.{touch_at}
use Rattle.mmu_core.specs.lines.PartWaits.{part_waits}
use Rattle.mmu_core.specs.machine.Steps.{line_at, place_at, task_at}
use Rattle.mmu_core.proofs.lines.ByStep.{step_needs}

-- The step is this one of a part, which waits.
pub record WaitsAs (h : Held) (k : Kind) (v : ℕ) : Type 0 where
  pub step : PartStep
  pub note : ℕ
  pub is : k ≡ part_kind h step note
  pub needs : PartNeeds step h
  pub waits_ : part_waits step h.topics v ≡ true

waits_as : (p : Place) (command : Command) (h : Held) (v : ℕ) → RestsAt p command h → line_waits p command h v ≡ true
    → WaitsAs h (kind_of_task h.state.sizes (task_at p command h)) v
waits_as p command h v R is = by (part_at p command h) refl is
  where
    by : (s : Option PartStep) → part_at p command h ≡ s → waits_by s h.topics v ≡ true → WaitsAs h (kind_of_task h.state.sizes (task_at p command h)) v
    by None at waits = absurd (cc waits)
    by (Some step) at waits = record {
      step = step;
      note = note_at p command h;
      is = ap (λ (s : Option PartStep). kind_of_task h.state.sizes (task_by s h (note_at p command h) (touch_at command h))) at;
      needs = step_needs p command h step R at;
      waits_ = waits;
    }

-- A line that tries a page or a frame has seen it.
pub claims_seen : (p : Place) (command : Command) (h : Held) → RestsAt p command h → (map : FreeMap) → part_at p command h ≡ Some (try_part map)
    → 0 < (claim_over map h.topics).seen
claims_seen p command h R Pages is = (step_needs p command h part.Claim R is).1
claims_seen p command h R Frames is = (step_needs p command h part.Frame R is).1

-- The line stands where it has begun, or at its first place.
pub line_waits_as : (h : Held) (k : Kind) (v : ℕ) → IsNext h k → line_waits (place_at h.state.place h) (line_at h.state.place h).command h v ≡ true
    → WaitsAs h k v
line_waits_as h k v N is =
    subst (λ (x : Kind). WaitsAs h x v) (sym N.is) (waits_as (place_at h.state.place h) (line_at h.state.place h).command h v N.rests.at is)
