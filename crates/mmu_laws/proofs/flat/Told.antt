-- Events of one actor, told together: what they make of the facts and of its line, and that the lines of other actors stay.
use Rattle.std.proofs.Common.{◌≡◌, List, [], ◌∷◌, refl, sym, subst, ap, ◌∙◌}
use Rattle.std.specs.Prelude.{map, false}
use Rattle.core_views.specs.declared.actor.Actor.{Actor}
use Rattle.core_views.specs.declared.event.Event.{Event}
use Rattle.core_views.specs.declared.event.EventKind.{EventKind}
use Rattle.core_views.specs.declared.sizes.Sizes.{Sizes}
use Rattle.core_views.specs.Actors.{is_same}
use Rattle.core_views.specs.Events.{after, after_all, facts_after, under_after, past_after}
use Rattle.core_views.specs.Flat.{Facts, Flat, LineUnderWay}
use Rattle.core_views.specs.Lawful.{IsAllowed, IsLawful}
use Rattle.core_views.specs.Past.{Past}
use Rattle.core_views.proofs.SameActor.{changed_here}

-- the actor tells these
abbrev pub told : Actor → List EventKind → List Event
told actor kinds = map (λ kind. record { actor = actor; kind = kind }) kinds

-- the facts, and the actor's line, after what it tells
abbrev pub facts_behind : List EventKind → Facts → Facts
facts_behind [] facts = facts
facts_behind (kind ∷ kinds) facts = facts_behind kinds (facts_after kind facts)

abbrev pub line_behind : List EventKind → Facts → LineUnderWay → LineUnderWay
line_behind [] facts u = u
line_behind (kind ∷ kinds) facts u = line_behind kinds (facts_after kind facts) (under_after kind facts u)

-- Each of these is allowed when its turn comes.
abbrev pub AreAllowed : Sizes → Actor → List EventKind → Facts → Past → LineUnderWay → Type 0
AreAllowed z actor [] facts past u = Unit {0}
AreAllowed z actor (kind ∷ kinds) facts past u =
    IsAllowed z facts past actor u kind × AreAllowed z actor kinds (facts_after kind facts) (past_after actor kind facts past) (under_after kind facts u)

pub told_lawful : (z : Sizes) (actor : Actor) (kinds : List EventKind) (f : Flat) → AreAllowed z actor kinds f.facts f.past (f.under actor)
    → IsLawful z f (told actor kinds)
told_lawful z actor [] f may = tt
told_lawful z actor (kind ∷ kinds) f may = (
  may.0,
  told_lawful z actor kinds (after (record { actor = actor; kind = kind }) f)
      (subst (AreAllowed z actor kinds (facts_after kind f.facts) (past_after actor kind f.facts f.past))
      (sym (changed_here actor (under_after kind f.facts (f.under actor)) f.under)) may.1),
)

pub told_facts : (actor : Actor) (kinds : List EventKind) (f : Flat) → (after_all (told actor kinds) f).facts ≡ facts_behind kinds f.facts
told_facts actor [] f = refl
told_facts actor (kind ∷ kinds) f = told_facts actor kinds (after (record { actor = actor; kind = kind }) f)

pub told_line : (actor : Actor) (kinds : List EventKind) (f : Flat) → (after_all (told actor kinds) f).under actor ≡ line_behind kinds f.facts (f.under actor)
told_line actor [] f = refl
told_line actor (kind ∷ kinds) f =
    told_line actor kinds (after (record { actor = actor; kind = kind }) f)
    ∙ ap (line_behind kinds (facts_after kind f.facts)) (changed_here actor (under_after kind f.facts (f.under actor)) f.under)

pub told_others : (actor other : Actor) (kinds : List EventKind) (f : Flat) → is_same actor other ≡ false
    → (after_all (told actor kinds) f).under other ≡ f.under other
told_others actor other [] f apart = refl
told_others actor other (kind ∷ kinds) f apart = told_others actor other kinds (after (record { actor = actor; kind = kind }) f) apart ∙ rw apart refl
