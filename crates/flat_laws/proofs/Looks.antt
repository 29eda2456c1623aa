-- What a line looks at changes no fact and answers no line.
use Rattle.std.proofs.Common.{◌≡◌, List, [], ◌∷◌, ◌++◌, Bool, true, false, cond, refl, ap, ◌∙◌}
use Rattle.core_views.specs.declared.actor.Actor.{Actor}
use Rattle.core_views.specs.declared.answer.AnsweredLine.{AnsweredLine}
use Rattle.core_views.specs.declared.event.Event.{Event}
use Rattle.core_views.specs.declared.event.EventKind.{EventKind}
use Rattle.core_views.specs.declared.event.EventKind.TheVariants.{LookedAtPause, LookedAtSlots, LookedAtHost}
use Rattle.core_views.specs.Flat.{Facts, Flat}
use Rattle.core_views.specs.Events.{after, after_all, facts_after, facts_after_all}
use Rattle.core_views.specs.Text.{answers_of, or_answered}
use Rattle.core_views.specs.Alone.{is_look, without_looks}

record IsSilent (kind : EventKind) : Type 0 where
  facts : (f : Facts) → facts_after kind f ≡ f
  answers : (actor : Actor) (xs : List AnsweredLine) → or_answered actor kind xs ≡ xs

-- a clause for each look
looks_are_silent : (kind : EventKind) → is_look kind ≡ true → IsSilent kind
looks_are_silent LookedAtPause is = record { facts = λ f. refl; answers = λ actor xs. refl }
looks_are_silent LookedAtSlots is = record { facts = λ f. refl; answers = λ actor xs. refl }
looks_are_silent (LookedAtHost page) is = record { facts = λ f. refl; answers = λ actor xs. refl }
looks_are_silent _ is = absurd (cc is)

one_more : (b : Bool) (x : Event) (xs ys zs : List Event) → zs ≡ xs ++ ys → cond b zs (x ∷ zs) ≡ cond b xs (x ∷ xs) ++ ys
one_more true x xs ys zs is = is
one_more false x xs ys zs is = ap (λ (es : List Event). x ∷ es) is

pub without_looks_append : (xs ys : List Event) → without_looks (xs ++ ys) ≡ without_looks xs ++ without_looks ys
without_looks_append [] ys = refl
without_looks_append (x ∷ xs) ys = one_more (is_look x.kind) x (without_looks xs) (without_looks ys) (without_looks (xs ++ ys)) (without_looks_append xs ys)

same_facts : (b : Bool) (e : Event) (es : List Event) (f g : Facts) → (b ≡ true → facts_after e.kind f ≡ f)
    → g ≡ facts_after_all es (facts_after e.kind f) → g ≡ facts_after_all (cond b es (e ∷ es)) f
same_facts true e es f g silent is = is ∙ ap (facts_after_all es) (silent refl)
same_facts false e es f g silent is = is

pub facts_without_looks : (es : List Event) (f : Facts) → facts_after_all es f ≡ facts_after_all (without_looks es) f
facts_without_looks [] f = refl
facts_without_looks (e ∷ es) f =
    same_facts (is_look e.kind) e (without_looks es) f (facts_after_all es (facts_after e.kind f)) (λ is. (looks_are_silent e.kind is).facts f)
    (facts_without_looks es (facts_after e.kind f))

same_answers : (b : Bool) (e : Event) (es : List Event) (xs : List AnsweredLine) → (b ≡ true → or_answered e.actor e.kind xs ≡ xs)
    → xs ≡ answers_of es → or_answered e.actor e.kind xs ≡ answers_of (cond b es (e ∷ es))
same_answers true e es xs silent is = silent refl ∙ is
same_answers false e es xs silent is = ap (or_answered e.actor e.kind) is

pub answers_without_looks : (es : List Event) → answers_of es ≡ answers_of (without_looks es)
answers_without_looks [] = refl
answers_without_looks (e ∷ es) =
    same_answers (is_look e.kind) e (without_looks es) (answers_of es) (λ is. (looks_are_silent e.kind is).answers e.actor (answers_of es))
    (answers_without_looks es)

-- The facts after a history hang on facts alone.
pub facts_behind : (es : List Event) (f : Flat) → (after_all es f).facts ≡ facts_after_all es f.facts
facts_behind [] f = refl
facts_behind (e ∷ es) f = facts_behind es (after e f)
