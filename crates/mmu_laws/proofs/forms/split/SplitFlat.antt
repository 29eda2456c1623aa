-- What the steps of a line that splits a large leaf owe flat memory: it changes nothing there, and is done at once, or starved.
use Rattle.std.proofs.Common.{◌≡◌, ℕ, [], refl, sym, subst, ap, ◌∙◌}
use Rattle.core_views.specs.declared.answer.Answer.TheVariants.{Done, Starved}
use Rattle.core_views.specs.declared.place.Place.TheVariants as place
use Rattle.core_views.specs.declared.place.SplitEnd.TheVariants as end_of
use Rattle.core_views.specs.declared.place.SplitPlace.{SplitPlace}
use Rattle.core_views.specs.declared.place.SplitPlace.TheVariants.{End}
use Rattle.core_views.specs.declared.sizes.Sizes.{Sizes}
use Rattle.core_views.specs.declared.trace.Command.{Command}
use Rattle.core_views.specs.declared.trace.Command.TheVariants as command
use Rattle.core_views.specs.declared.trace.Line.{Line}
use Rattle.core_views.specs.Flat.{Facts, LineUnderWay}
use Rattle.core_views.specs.Held.{Held}
use Rattle.core_views.specs.Lawful.{MayLeave, Tells}
use Rattle.core_views.specs.Past.{Past}
use Rattle.part_steps.specs.declared.task.Task.{Task}
use Rattle.part_steps.specs.PartTasks.{own_index, part_task}
use Rattle.mmu_core.specs.forms.split.SplitSteps.{split_note, split_part}
use Rattle.mmu_core.specs.invariant.TopicsInvariant.{TopicsInvariant}
use Rattle.mmu_core.specs.machine.View.{View}
use Rattle.mmu_core.proofs.forms.split.SplitPlaces.{split_quiet, split_untold}
use Rattle.mmu_core.proofs.machine.PartStepping.{IsPart, never_told}
use Rattle.mmu_core.proofs.machine.Stepping.{IsStep}
use Rattle.mmu_laws.proofs.flat.FlatSteps.{GoesBy, Ready, RefinesBy, StepGoes, answers_by, goes_by, leaves_by, part_refines}

module _ (z : Sizes) (v : View) (a : ℕ) (line : Line) (gfn : ℕ) (facts : Facts) (past : Past) (u : LineUnderWay) where
  abbrev h : Held
  h = v.hand a

  abbrev task : SplitPlace → Task
  task p = part_task (split_part p gfn h.topics) (own_index h) h.topics (split_note p)

  abbrev ReadyAt : SplitPlace → Type 0
  ReadyAt p = Ready z v line (command.Split gfn) (place.Split p) h.topics facts u

  abbrev Makes : SplitPlace → Type 0
  Makes p = IsPart z v a (split_part p gfn h.topics)

  abbrev IsStepAt : SplitPlace → Type 0
  IsStepAt p = IsStep z v a line (command.Split gfn) (place.Split p)

  -- After each of its steps the words stand for the same facts.
  still : (p : SplitPlace) → Makes p → TopicsInvariant z v → ReadyAt p → RefinesBy z v (task p) facts
  still p S P R =
      part_refines z v a (split_part p gfn h.topics) (split_note p) facts S P (never_told (split_part p gfn h.topics) (split_untold p gfn h.topics))
      (split_quiet p gfn h.topics) R.refines

  -- It tells nothing where it goes on.
  goes_on : (p next : SplitPlace) → Makes p → TopicsInvariant z v → ReadyAt p
      → GoesBy z v a line (command.Split gfn) (task p) (place.Split next) [] facts past u
  goes_on p next S P R = goes_by z v a line (command.Split gfn) (task p) facts past u (still p S P R) (place.Split next) R.under

  -- Flat memory has the line with its command, and answers it at once.
  same : (p : SplitPlace) → IsStepAt p → ReadyAt p → u.line.command ≡ command.Split gfn
  same p S R = ap (λ (l : Line). l.command) R.under.0 ∙ S.command_is

  done : (p : SplitPlace) → IsStepAt p → ReadyAt p → Tells z facts h.state.actor u.line.command u.stage Done
  done p S R = rw (R.under.1, same p S R) refl

  starves : (p : SplitPlace) → IsStepAt p → ReadyAt p → MayLeave z facts h.state.actor u.line.command u.notes Starved
  starves p S R = subst (λ (c : Command). MayLeave z facts h.state.actor c u.notes Starved) (sym (same p S R)) tt

  pub split_goes_on : (p : SplitPlace) → IsStepAt p → Makes p → TopicsInvariant z v → ReadyAt p
      → StepGoes z v a line (command.Split gfn) (place.Split p) facts past u
  split_goes_on (End end_of.Starved) S M P R =
      leaves_by z v a line (command.Split gfn) (task (End end_of.Starved)) facts past u (still (End end_of.Starved) M P R) Starved R.under.0 R.under.1
      (starves (End end_of.Starved) S R)
  split_goes_on (End end_of.Split) S M P R =
      answers_by z v a line (command.Split gfn) (task (End end_of.Split)) facts past u (still (End end_of.Split) M P R) Done R.under.0
      (done (End end_of.Split) S R)
  split_goes_on (End (end_of.Nothing word)) S M P R =
      answers_by z v a line (command.Split gfn) (task (End (end_of.Nothing word))) facts past u (still (End (end_of.Nothing word)) M P R) Done R.under.0
      (done (End (end_of.Nothing word)) S R)
  split_goes_on (End (end_of.Changed seen)) S M P R =
      answers_by z v a line (command.Split gfn) (task (End (end_of.Changed seen))) facts past u (still (End (end_of.Changed seen)) M P R) Done R.under.0
      (done (End (end_of.Changed seen)) S R)
  split_goes_on p S M P R = goes_on p _ M P R
