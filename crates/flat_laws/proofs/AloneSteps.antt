-- The events of a line that runs alone: each is allowed, leads on, and its answer leaves no line under way.
use Rattle.std.proofs.Common.{◌≡◌, List, ◌∷◌, Bool, true, false, cond, refl, sym, ap, ◌∙◌}
use Rattle.core_views.specs.declared.actor.Actor.{Actor}
use Rattle.core_views.specs.declared.answer.Answer.{Answer}
use Rattle.core_views.specs.declared.event.Event.{Event}
use Rattle.core_views.specs.declared.event.EventKind.{EventKind}
use Rattle.core_views.specs.declared.event.EventKind.TheVariants.{Answered}
use Rattle.core_views.specs.declared.sizes.Sizes.{Sizes}
use Rattle.core_views.specs.declared.trace.Line.{Line}
use Rattle.core_views.specs.Actors.{is_same}
use Rattle.core_views.specs.Flat.{Facts, LineUnderWay, Flat, Idle}
use Rattle.core_views.specs.Events.{after, after_all, facts_after, facts_after_all, under_after}
use Rattle.core_views.specs.Lawful.{IsLawful, IsAllowed, Tells}
use Rattle.core_views.specs.FlatHistory.{answers}
use Rattle.core_views.proofs.SameActor.{changed_here}

-- No line of another actor is under way.
abbrev pub OthersIdle : Actor → Flat → Type 0
OthersIdle actor f = (i : Actor) → is_same actor i ≡ false → (f.under i).stage ≡ Idle

-- No line is under way.
abbrev pub AllIdle : Flat → Type 0
AllIdle f = (i : Actor) → (f.under i).stage ≡ Idle

-- the facts, the actor and its line under way, and that no other line is
pub record IsAt (actor : Actor) (facts : Facts) (u : LineUnderWay) (f : Flat) : Type 0 where
  pub facts_are : f.facts ≡ facts
  pub line_is : f.under actor ≡ u
  pub others : OthersIdle actor f

unchanged : (b : Bool) (x y : LineUnderWay) → b ≡ false → y.stage ≡ Idle → (cond b x y).stage ≡ Idle
unchanged true x y e idle = cc
unchanged false x y e idle = idle

-- An event of the actor leads on to what it makes of the line.
pub step : (actor : Actor) (kind : EventKind) (facts : Facts) (u : LineUnderWay) (f : Flat) → IsAt actor facts u f
    → IsAt actor (facts_after kind facts) (under_after kind facts u) (after (record { actor = actor; kind = kind }) f)
step actor kind facts u f at = record {
  facts_are = ap (facts_after kind) at.facts_are;
  line_is = changed_here actor (under_after kind f.facts (f.under actor)) f.under ∙ rw (at.facts_are, at.line_is) refl;
  others = λ i apart. unchanged (is_same actor i) (under_after kind f.facts (f.under actor)) (f.under i) apart (at.others i apart);
}

pub allowed : (z : Sizes) (actor : Actor) (kind : EventKind) (facts : Facts) (u : LineUnderWay) (f : Flat) → IsAt actor facts u f
    → IsAllowed z facts f.past actor u kind → IsAllowed z f.facts f.past actor (f.under actor) kind
allowed z actor kind facts u f at may = rw (at.facts_are, at.line_is) may

pub at_end : (b : Bool) (x y : LineUnderWay) → x.stage ≡ Idle → (b ≡ false → y.stage ≡ Idle) → (cond b x y).stage ≡ Idle
at_end true x y here there = here
at_end false x y here there = there refl

-- the answer of a line, where its own events tell it: the rest of the line is lawful, and no line is under way after it
pub record Closes (z : Sizes) (es : List Event) (f : Flat) : Type 0 where
  pub lawful : IsLawful z f es
  pub idle : AllIdle (after_all es f)
  pub facts_are : (after_all es f).facts ≡ facts_after_all es f.facts

pub answered : (z : Sizes) (line : Line) (answer : Answer) (facts : Facts) (u : LineUnderWay) (f : Flat) → IsAt line.actor facts u f → u.line ≡ line
    → Tells z facts line.actor u.line.command u.stage answer → Closes z (answers line answer) f
answered z line answer facts u f at is tells = record {
  lawful = (allowed z line.actor (Answered line.number answer) facts u f at (ap (λ (l : Line). l.number) (sym is), tells), tt);
  idle = λ i. at_end (is_same line.actor i) (under_after (Answered line.number answer) f.facts (f.under line.actor)) (f.under i) refl (at.others i);
  facts_are = refl;
}

pub more : (z : Sizes) (e : Event) (es : List Event) (f : Flat) → IsAllowed z f.facts f.past e.actor (f.under e.actor) e.kind → Closes z es (after e f)
    → Closes z (e ∷ es) f
more z e es f may rest = record { lawful = (may, rest.lawful); idle = rest.idle; facts_are = rest.facts_are }
