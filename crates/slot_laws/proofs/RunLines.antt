-- A line that sets a run of host pages sets each of them once, in rising order, and is answered done; or it is refused, and sets none.
use Rattle.std.proofs.Common.{◌≡◌, ◌⊎◌, inl, inr, ℕ, false, true, List, [], ◌∷◌, ◌++◌, refl, sym, ap, ◌∙◌, subst}
use Rattle.core_views.specs.declared.actor.Actor.{Actor}
use Rattle.core_views.specs.declared.answer.Answer.{Answer}
use Rattle.core_views.specs.declared.answer.Answer.TheVariants.{Done}
use Rattle.core_views.specs.declared.event.Event.{Event}
use Rattle.core_views.specs.declared.event.EventKind.TheVariants.{Answered, Begun}
use Rattle.core_views.specs.declared.sizes.Sizes.{Sizes}
use Rattle.core_views.specs.declared.trace.Command.{Command}
use Rattle.core_views.specs.declared.trace.Command.TheVariants.{ChangeRun}
use Rattle.core_views.specs.declared.trace.Line.{Line}
use Rattle.core_views.specs.declared.trace.RunChange.{RunChange}
use Rattle.core_views.specs.Events.{after_all}
use Rattle.core_views.specs.Flat.{Facts, Flat, Fresh, HasChangedHost, HasLeft, HasToSet, Stage, first_flat}
use Rattle.core_views.specs.HostRuns.{is_of_host, run_at_once, sets_run}
use Rattle.core_views.specs.Lawful.{IsLawful, Tells}
use Rattle.flat_laws.specs.Writes.{StaysWithin}
use Rattle.slot_laws.specs.DoneLines.{begins_after, by}
use Rattle.slot_laws.specs.OneChange.{TellsNoChange, is_refused}
use Rattle.slot_laws.specs.RunLines.{RunLineTells, RunLinesTell, SetsItsRun}
use Rattle.slot_laws.proofs.ChangesAnswered.{begun_line, begun_stage, host_fits, parts, refused_at_once, tells}
use Rattle.slot_laws.proofs.HostLineStages.{FitsHost}
use Rattle.slot_laws.proofs.RunEvents.{IsAllSet, IsUnset, sets_both, sets_none}

-- ---- what it is answered

-- It has set none and is refused, or has set each and is done.
abbrev Ended : Stage → Answer → Type 0
Ended s answer = (IsUnset s × (is_refused answer ≡ true)) ⊎ (IsAllSet s × (answer ≡ Done))

ends_so : (z : Sizes) (f : Facts) (actor : Actor) (at : ℕ) (change : RunChange) (s : Stage) (answer : Answer) → FitsHost (ChangeRun at change) s
    → Tells z f actor (ChangeRun at change) s answer → Ended s answer
ends_so z f actor at change Fresh answer fits told = inl (tt, refused_at_once (run_at_once z actor at change) answer told)
ends_so z f actor at change (HasLeft how) answer fits told = inl (tt, ap is_refused told ∙ fits)
ends_so z f actor at change (HasToSet page left level) answer fits told = inr (told.0, told.1)
ends_so z f actor at change (HasChangedHost entry) answer fits told = absurd (cc fits)
ends_so z f actor at change _ answer fits told = absurd fits

-- ---- from its begin to its answer

module _ (z : Sizes) (before between : List Event) (line : Line) (answer : Answer)
    (lawful : IsLawful z first_flat (before ++ (by line (Begun line) ∷ (between ++ (by line (Answered line.number answer) ∷ [])))))
    (within : StaysWithin line.actor between) (at : ℕ) (change : RunChange) (asked : line.command ≡ ChangeRun at change) where
  abbrev f : Flat
  f = begins_after line before

  abbrev end_stage : Stage
  end_stage = ((after_all between f).under line.actor).stage

  fresh : IsUnset (f.under line.actor).stage
  fresh = subst IsUnset (sym (begun_stage z before between line answer lawful within)) tt

  fits : FitsHost line.command (f.under line.actor).stage
  fits = subst (FitsHost line.command) (sym (begun_stage z before between line answer lawful within)) tt

  ended : Ended end_stage answer
  ended =
      ends_so z (after_all between f).facts line.actor at change end_stage answer
      (subst (λ (c : Command). FitsHost c end_stage) asked (host_fits z before between line answer lawful within (ap is_of_host asked)))
      (subst (λ (c : Command). Tells z (after_all between f).facts line.actor c end_stage answer) asked (tells z before between line answer lawful within))

  run_line_tells : RunLineTells z line answer f between
  run_line_tells = record { done = λ e. done e ended; refused = λ e. none e ended }
    where
      lawful_between : IsLawful z f between
      lawful_between = (parts z before between line answer lawful within).0

      line_is : (f.under line.actor).line ≡ line
      line_is = begun_line z before between line answer lawful within

      done : is_refused answer ≡ false → Ended end_stage answer → (answer ≡ Done) × SetsItsRun line f between
      done e (inl refused) = absurd (let is = refused.1 in cc (e, is))
      done e (inr all) = (all.1, (sets_both z line at change asked between f lawful_between within line_is fits).1 fresh all.0)

      none : is_refused answer ≡ true → Ended end_stage answer → TellsNoChange line.actor between
      none e (inl refused) = (sets_none z line at change asked between f lawful_between within line_is fits refused.0).1
      none e (inr all) = absurd (let not_ : is_refused answer ≡ false = ap is_refused all.1 in cc (e, not_))

-- Such a command names its page and its change.
run_of : (c : Command) → sets_run c ≡ true → (at : ℕ) × (change : RunChange) × (c ≡ ChangeRun at change)
run_of (ChangeRun at change) is = (at, change, refl)
run_of _ is = absurd (cc is)

pub run_lines_tell : RunLinesTell
run_lines_tell z before between line answer is lawful within =
    let C = run_of line.command is in run_line_tells z before between line answer lawful within C.0 C.1 C.2
