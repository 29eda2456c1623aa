-- The hand that a step of a line makes which changes a host page.
use Rattle.std.specs.Prelude.{Bool, true, false, ◌||◌, ◌&&◌}
use Rattle.std.proofs.Common.{◌≡◌, ℕ, List, length, refl, sym, subst, ap, ◌∙◌}
use Rattle.core_views.specs.declared.answer.AnsweredLine.{AnsweredLine}
use Rattle.core_views.specs.declared.cache.Translation.{Translation}
use Rattle.core_views.specs.declared.place.HostPlace.{HostPlace}
use Rattle.core_views.specs.declared.place.Place.{Place}
use Rattle.core_views.specs.declared.place.Place.TheVariants as place
use Rattle.core_views.specs.declared.trace.Command.TheVariants.{ChangeHost}
use Rattle.core_views.specs.declared.trace.HostChange.{HostChange}
use Rattle.core_views.specs.declared.trace.Line.{Line}
use Rattle.core_views.specs.Held.{Held, line_under, next_line, progress_of}
use Rattle.mmu_core.specs.declared.outcome.Outcome.{Outcome}
use Rattle.mmu_core.specs.declared.outcome.Outcome.TheVariants.{Goes}
use Rattle.mmu_core.specs.forms.host.HostSteps.{host_outcome}
use Rattle.mmu_core.specs.lines.Delays.{counted, delays_counted, line_waits, steps_counted}
use Rattle.mmu_core.specs.lines.Forms.{outcome_at}
use Rattle.mmu_core.specs.machine.Outcomes.{answers_after, place_after}
use Rattle.mmu_core.specs.machine.Steps.{line_after}
use Rattle.mmu_core.proofs.lines.Forms.{outcome_goes}
use Rattle.mmu_core.proofs.machine.GoesOn.{GoesUnderWay}
use Rattle.mmu_steps.proofs.LineMade.{delay_is, line_goes, line_made, placed}

or_none : (b : Bool) → b ≡ (b || (false || (false && false)))
or_none true = refl
or_none false = refl

module _ (h : Held) (line : Line) (p : HostPlace) (page : ℕ) (change : HostChange) (v : ℕ) (o : Outcome) (delay : Bool) (steps delays : ℕ)
    (used : Translation) (line_is : line ≡ next_line h) (command_is : line.command ≡ ChangeHost page change) (outcome_is : o ≡ host_outcome p page h v)
    (waits_is : delay ≡ line_waits (place.Host p) (next_line h).command h v)
    (steps_is : steps ≡ steps_counted delay (counted h.state.place h.state.steps))
    (delays_is : delays ≡ delays_counted delay (counted h.state.place h.state.delays)) (used_is : used ≡ h.state.used) where
  outcome_here : o ≡ outcome_at (place.Host p) line.command h v
  outcome_here = outcome_is ∙ ap (λ c. outcome_at (place.Host p) c h v) (sym command_is)

  -- It stands at the place, and has the answers, that its outcome says.
  pub host_made : (q : Place) (l : Line) (answers : List AnsweredLine) → q ≡ place_after o → answers ≡ answers_after o line h.answers → l ≡ line
      → placed (progress_of h.state) q l used steps delays h answers ≡ line_after (next_line h) (place.Host p) h v
  host_made q l answers q_is answers_is l_is =
      line_made h h line (place.Host p) q l v used h.slots o delay steps delays answers outcome_here used_is
      (delay_is (place.Host p) line.command (next_line h).command h o v delay delay (ap (λ (x : Line). x.command) line_is) waits_is (or_none delay))
      steps_is delays_is refl refl q_is answers_is l_is refl
      ∙ ap (λ (x : Line). line_after x (place.Host p) h v) line_is

  -- A line that goes on is the one that is under way.
  pub host_goes : (q : Place) → o ≡ Goes q → line_under q h.lines (length h.answers) ≡ line
  host_goes q is =
      line_goes q h (subst GoesUnderWay (sym outcome_here ∙ is) (outcome_goes (place.Host p) line.command h v tt)) ∙ sym line_is
