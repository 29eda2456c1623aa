-- What an actor has under way after its own event, and after another's.
use Rattle.std.proofs.Common.{◌≡◌, Bool, true, false, refl, sym, ap, ◌∙◌}
use Rattle.std.specs.Prelude.{if◌then◌else◌}
use Rattle.core_views.specs.declared.actor.Actor.{Actor}
use Rattle.core_views.specs.declared.event.Event.{Event}
use Rattle.core_views.specs.Actors.{is_same}
use Rattle.core_views.specs.Events.{after, under_after}
use Rattle.core_views.specs.Flat.{Flat}
use Rattle.core_views.proofs.SameActor.{is_same_self, same_is}

pub own_under : (actor : Actor) (e : Event) (f : Flat) → actor ≡ e.actor → (after e f).under actor ≡ under_after e.kind f.facts (f.under actor)
own_under actor e f same =
    ap (λ (b : Bool). if b then under_after e.kind f.facts (f.under e.actor) else f.under actor)
    (ap (is_same e.actor) same ∙ is_same_self e.actor)
    ∙ ap (λ (x : Actor). under_after e.kind f.facts (f.under x)) (sym same)

pub other_under : (actor : Actor) (e : Event) (f : Flat) → is_same actor e.actor ≡ false → (after e f).under actor ≡ f.under actor
other_under actor e f apart = by (is_same e.actor actor) refl
  where
    by : (b : Bool) → is_same e.actor actor ≡ b → (if b then under_after e.kind f.facts (f.under e.actor) else f.under actor) ≡ f.under actor
    by false is = refl
    by true is =
        let same : e.actor ≡ actor = same_is e.actor actor is in
        absurd (cc (sym apart ∙ ap (is_same actor) same ∙ is_same_self actor))
