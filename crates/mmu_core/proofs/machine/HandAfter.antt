-- What one step makes of its actor's hand.
use Rattle.std.proofs.Common.{◌≡◌, ◌<◌, ℕ, length, refl, sym, subst}
use Rattle.std.specs.Prelude.{Bool, true, false}
use Rattle.core_views.specs.declared.kind.Kind.{Kind}
use Rattle.core_views.specs.declared.place.AccessPlace.{AccessPlace}
use Rattle.core_views.specs.declared.place.AccessPlace.TheVariants.{Enter}
use Rattle.core_views.specs.declared.place.Place.{Place}
use Rattle.core_views.specs.declared.place.Place.TheVariants as place
use Rattle.core_views.specs.declared.trace.Command.{Command}
use Rattle.core_views.specs.declared.trace.Command.TheVariants.{Access}
use Rattle.core_views.specs.declared.trace.Line.{Line}
use Rattle.core_views.specs.declared.trace.Op.{Op}
use Rattle.core_views.specs.Held.{Held, State}
use Rattle.mmu_core.specs.declared.outcome.Outcome.{Outcome}
use Rattle.mmu_core.specs.declared.outcome.Outcome.TheVariants.{Goes, Ends}
use Rattle.mmu_core.specs.forms.access.AccessSteps.{access_loads}
use Rattle.mmu_core.specs.machine.Steps.{has_line, held_after, line_at, next, next_by, place_at}
use Rattle.mmu_core.specs.lines.Forms.{loads_at}
use Rattle.mmu_core.proofs.lines.Forms.{outcome_goes}
use Rattle.mmu_core.proofs.machine.GoesOn.{GoesUnderWay}
use Rattle.mmu_core.proofs.machine.Stepping.{is_begun}
use Rattle.mmu_core.proofs.machine.Which.{has_line_is, next_of_line}
use Rattle.mmu_core.specs.machine.Outcomes.{answers_after, place_after}
use Rattle.mmu_core.specs.machine.Turns.{Comes, IsSameHand, line_of, outcome_of}

-- What a step loads is of no other actor and of no other machine.
pub record IsSameState (before after : State) : Type 0 where
  pub actor : after.actor ≡ before.actor
  pub sizes : after.sizes ≡ before.sizes

access_same : (p : AccessPlace) (h : Held) (gfn : ℕ) (op : Op) (v : ℕ) → IsSameState h.state (access_loads p h gfn op v)
access_same (Enter again) h gfn op v = record { actor = refl; sizes = refl }
access_same _ h gfn op v = record { actor = refl; sizes = refl }

pub loads_same : (p : Place) (command : Command) (h : Held) (v : ℕ) → IsSameState h.state (loads_at p command h v)
loads_same (place.Access p) (Access gfn word op) h v = access_same p h gfn op v
loads_same _ _ h v = record { actor = refl; sizes = refl }

pub next_same : (h : Held) (k : Kind) (v : ℕ) → IsSameHand h (next h k v)
unfolding next
next_same h k v = by (has_line h)
  where
    by : (b : Bool) → IsSameHand h (next_by b h k v)
    by true = let same = loads_same (place_at h.state.place h) (line_of h).command h v in record { actor = same.actor; sizes = same.sizes; lines = refl }
    by false = record { actor = refl; sizes = refl; lines = refl }

comes : (o : Outcome) (line : Line) (h g : Held) → GoesUnderWay o → g.state.place ≡ place_after o → g.state.line ≡ line
    → g.answers ≡ answers_after o line h.answers → Comes o line h g
comes (Goes p) line h g goes stands line_is answers = record { under_way = rw stands goes; line_is = line_is; answers = answers }
comes (Ends answer) line h g goes stands line_is answers = record { between = stands; answers = answers }

pub next_comes : (h : Held) (k : Kind) (v : ℕ) → length h.answers < length h.lines → Comes (outcome_of h v) (line_of h) h (next h k v)
next_comes h k v left =
    let has = has_line_is h left in
    subst (Comes (outcome_of h v) (line_of h) h) (sym (next_of_line h k v has))
    (comes (outcome_of h v) (line_of h) h (held_after (line_at h.state.place h) (place_at h.state.place h) h k v)
    (outcome_goes (place_at h.state.place h) (line_of h).command h v (is_begun h.state.place h.state.sizes h.slots (line_of h).command)) refl refl refl)
