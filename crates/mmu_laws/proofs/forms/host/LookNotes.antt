-- The note of the look at a host page that is to be changed: it tells whether the line is answered with this look.
use Rattle.std.proofs.Common.{◌≡◌, inl, inr, ℕ, refl, sym, ap, subst}
use Rattle.std.specs.Prelude.{Bool, true, false, if◌then◌else◌, None, is_some}
use Rattle.core_views.specs.declared.answer.Answer.TheVariants.{Refused}
use Rattle.core_views.specs.declared.answer.Refusal.TheVariants.{IsHuge, OutOfRange}
use Rattle.core_views.specs.declared.place.BeginPlace.TheVariants as begins
use Rattle.core_views.specs.declared.place.HostPlace.TheVariants.{Begin, Claim, Look}
use Rattle.core_views.specs.declared.trace.Command.TheVariants.{ChangeHost}
use Rattle.core_views.specs.HostChanges.{is_own}
use Rattle.part_steps.specs.declared.part_step.PartStep.TheVariants as part
use Rattle.mmu_core.specs.declared.outcome.Outcome.TheVariants.{Ends, Goes}
use Rattle.mmu_core.specs.forms.host.HostSteps.{after_look, maps_large}
use Rattle.core_views.specs.declared.place.Place.{Place}
use Rattle.core_views.specs.declared.place.Place.TheVariants as place
use Rattle.core_views.specs.declared.trace.Command.{Command}
use Rattle.core_views.specs.Held.{Held}
use Rattle.part_steps.specs.PartTasks.{own_index, part_task}
use Rattle.part_steps.specs.Tasks.{kind_of_task}
use Rattle.mmu_core.specs.forms.access.AccessSteps.{ends_with}
use Rattle.mmu_core.specs.declared.claim.FreeMap.{FreeMap}
use Rattle.mmu_core.specs.declared.claim.FreeMap.TheVariants.{Frames, Pages}
use Rattle.mmu_core.specs.lines.Forms.{RestsAt, outcome_at}
use Rattle.mmu_core.specs.lines.ScanPlaces.{claim_at, ends_with_claim}
use Rattle.mmu_core.specs.machine.Steps.{task_at}
use Rattle.mmu_laws.specs.steps.NoteLaws.{NoteTells}

-- A line that looks at its host page claims nothing.
pub looks_without : (moves : Bool) (map : FreeMap) → claim_at map (place.Host (Look moves)) ≡ None
looks_without moves Pages = refl
looks_without moves Frames = refl

looks_end_none : (moves : Bool) (map : FreeMap) → ends_with_claim map (place.Host (Look moves)) ≡ false
looks_end_none moves map = ap is_some (looks_without moves map)

-- The look at a host page: its line is answered with it where the page is another actor's, or part of a large one.
own_look_tells : (moves own_ : Bool) (page : ℕ) (h : Held) (v : ℕ)
    → NoteTells (place.Host (Look moves)) h.state.sizes
    (kind_of_task h.state.sizes (part_task (if own_ then part.Host page else part.Seq) (own_index h) h.topics 1))
    (if own_ then after_look moves v else Ends (Refused OutOfRange)) v
own_look_tells moves true page h v = record {
  tells = inr (inr (inr (inl (record { moves = moves; at = refl; looks = refl }))));
  last = λ L. let some = L.ends in let none = looks_end_none moves L.map in absurd (cc (some, none));
  awaits = λ A. let at = A.at in absurd (cc at);
  looks = λ L. (refl, sizes (maps_large v));
}
  where
    sizes : (large : Bool) → ends_with (if large then Ends (Refused IsHuge) else Goes (place.Host (if moves then Claim false else Begin begins.Exclude)))
        ≡ (if large then 1 else 0)
    sizes true = refl
    sizes false = refl
own_look_tells moves false page h v = record {
  tells = inl refl;
  last = λ L. let some = L.ends in let none = looks_end_none moves L.map in absurd (cc (some, none));
  awaits = λ A. let at = A.at in absurd (cc at);
  looks = λ L. let host = L.looks in absurd (cc host);
}

pub look_tells : (p : Place) (moves : Bool) → p ≡ place.Host (Look moves) → (command : Command) (h : Held) (v : ℕ) → RestsAt p command h
    → NoteTells p h.state.sizes (kind_of_task h.state.sizes (task_at p command h)) (outcome_at p command h v) v
look_tells p moves is command h v R =
    subst (λ q. RestsAt q command h → NoteTells q h.state.sizes (kind_of_task h.state.sizes (task_at q command h)) (outcome_at q command h v) v) (sym is)
    (by command) R
  where
    by : (c : Command) → RestsAt (place.Host (Look moves)) c h
        → NoteTells (place.Host (Look moves)) h.state.sizes (kind_of_task h.state.sizes (task_at (place.Host (Look moves)) c h))
        (outcome_at (place.Host (Look moves)) c h v) v
    by (ChangeHost page change) N = own_look_tells moves (is_own h.state.sizes h.state.actor page) page h v
    by _ N = absurd N
