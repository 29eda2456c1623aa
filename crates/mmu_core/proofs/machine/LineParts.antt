-- A step of a hand is a step of a part, or touches content and changes nothing that is held.
use Rattle.std.proofs.Common.{◌≡◌, ◌≢◌, ◌≤◌, ◌⊎◌, inl, inr, ℕ, refl, sym, subst, arith}
use Rattle.core_views.specs.declared.kind.Kind.{Kind}
use Rattle.core_views.specs.declared.kind.StepKind.TheVariants as kind
use Rattle.core_views.specs.declared.place.Place.{Place}
use Rattle.core_views.specs.declared.sizes.Sizes.{Sizes}
use Rattle.core_views.specs.declared.topics.Topics.{Topics}
use Rattle.core_views.specs.declared.trace.Command.{Command}
use Rattle.core_views.specs.declared.trace.Op.{Op}
use Rattle.core_views.specs.declared.trace.Op.TheVariants.{Read}
use Rattle.core_views.specs.Held.{Held}
use Rattle.core_views.specs.Kinds.{code_of}
use Rattle.spte_words.specs.declared.area.Area.TheVariants as area
use Rattle.spte_words.specs.Areas.{place}
use Rattle.part_steps.specs.declared.task.Task.{Task}
use Rattle.part_steps.specs.declared.part_step.PartStep.{PartStep}
use Rattle.mmu_core.specs.forms.access.AccessSteps.{touch_of}
use Rattle.mmu_core.specs.machine.Enabled.{Enabled}
use Rattle.part_steps.specs.PartTasks.{part_kind}
use Rattle.part_steps.specs.PartSteps.{PartNeeds}
use Rattle.mmu_core.specs.lines.Forms.{RestsAt}
use Rattle.mmu_core.specs.machine.Steps.{line_at, place_at, task_at}
use Rattle.part_steps.specs.Tasks.{kind_of_task, map_of}
use Rattle.part_steps.specs.TopicSteps.{topics_after}
use Rattle.mmu_core.proofs.lines.ByStep.{StepAt, step_at, Makes, Touches}

-- the step of a part, whose needs the hand holds
pub record IsPartKind (h : Held) (k : Kind) : Type 0 where
  pub step : PartStep
  pub note : ℕ
  pub is : k ≡ part_kind h step note
  pub needs : PartNeeds step h

-- It is on a word of content, and changes nothing that the actor holds.
pub record IsQuiet (z : Sizes) (t : Topics) (k : Kind) : Type 0 where
  pub code : k.code ≢ code_of kind.Watch
  pub content : place (map_of z) area.Content 0 ≤ k.word
  pub topics : (v : ℕ) → topics_after z k t v ≡ t

abbrev PartOrQuiet : Held → Task → Type 0
PartOrQuiet h t = IsPartKind h (kind_of_task h.state.sizes t) ⊎ IsQuiet h.state.sizes h.topics (kind_of_task h.state.sizes t)

touch_quiet : (op : Op) (z : Sizes) (t : Topics) (index : ℕ) → IsQuiet z t (kind_of_task z (touch_of op index))
unfolding topics_after place
touch_quiet Read z t index = record { code = λ e. absurd (omega (arith, e)); content = omega arith; topics = λ v. refl }
touch_quiet _ z t index = record { code = λ e. absurd (omega (arith, e)); content = omega arith; topics = λ v. refl }

part_or_quiet : (command : Command) (h : Held) (t : Task) → StepAt command h t → PartOrQuiet h t
part_or_quiet command h _ (Makes step note N) = inl (record { step = step; note = note; is = refl; needs = N })
part_or_quiet command h _ (Touches gfn word op is R) = inr (touch_quiet op h.state.sizes h.topics _)

line_kind : (p : Place) (command : Command) (h : Held) → RestsAt p command h → PartOrQuiet h (task_at p command h)
line_kind p command h R = part_or_quiet command h (task_at p command h) (step_at p command h R)

pub step_kind : (h : Held) (k : Kind) → Enabled h k → IsPartKind h k ⊎ IsQuiet h.state.sizes h.topics k
unfolding Enabled
step_kind h k (inl e) =
    subst (λ (x : Kind). IsPartKind h x ⊎ IsQuiet h.state.sizes h.topics x) (sym e.is)
    (line_kind (place_at h.state.place h) (line_at h.state.place h).command h e.rests.at)
step_kind h k (inr e) = inl (record { step = e.step; note = e.note; is = e.is; needs = e.needs })
