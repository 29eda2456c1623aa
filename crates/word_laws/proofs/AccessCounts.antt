-- The accesses of an actor in a lawful history are those that its answers tell.
use Rattle.std.proofs.Common.{◌≡◌, Bool, true, false, List, [], ◌∷◌, ◌++◌, refl, sym, ap, ◌∙◌, subst, append_assoc}
use Rattle.std.specs.Prelude.{filter, map, if◌then◌else◌}
use Rattle.std.proofs.lemmas.List.{append-nil, map-append}
use Rattle.core_views.specs.declared.actor.Actor.{Actor}
use Rattle.core_views.specs.declared.answer.AnsweredLine.{AnsweredLine}
use Rattle.core_views.specs.declared.event.Event.{Event}
use Rattle.core_views.specs.declared.event.EventKind.{EventKind}
use Rattle.core_views.specs.declared.event.EventKind.TheVariants.{Answered}
use Rattle.core_views.specs.declared.sizes.Sizes.{Sizes}
use Rattle.core_views.specs.Actors.{is_same}
use Rattle.core_views.specs.Events.{after, after_all, under_after}
use Rattle.core_views.specs.Flat.{Flat, LineUnderWay, Stage}
use Rattle.core_views.specs.Lawful.{IsAllowed, IsLawful}
use Rattle.core_views.specs.Text.{answers_of, or_answered}
use Rattle.core_views.proofs.SameActor.{same_is}
use Rattle.word_laws.specs.Accesses.{AccessesAreAnswered, Told, accesses_by, answers_by, made_by, open_access, open_at, told, told_in}
use Rattle.word_laws.proofs.UnderWay.{other_under, own_under}
use Rattle.word_laws.proofs.OwnSteps.{Goes, LeavesWell, own_goes, told_of}

-- ---- one event

-- Its answer, if it is one, is the actor's where the event is.
own_answer : (actor doer : Actor) (kind : EventKind) (more : List AnsweredLine) → is_same actor doer ≡ true
    → told_in (filter (λ x. is_same actor x.actor) (or_answered doer kind more)) ≡ told_of kind ++ told_in (filter (λ x. is_same actor x.actor) more)
own_answer actor doer (Answered line answer) more same = rw same refl
own_answer actor doer _ more same = refl

other_answer : (actor doer : Actor) (kind : EventKind) (more : List AnsweredLine) → is_same actor doer ≡ false
    → filter (λ x. is_same actor x.actor) (or_answered doer kind more) ≡ filter (λ x. is_same actor x.actor) more
other_answer actor doer (Answered line answer) more apart = rw apart refl
other_answer actor doer _ more apart = refl

-- ---- a history

join : (was made rest now then_ more last : List Told) → was ++ made ≡ then_ ++ now → now ++ rest ≡ more ++ last
    → was ++ (made ++ rest) ≡ (then_ ++ more) ++ last
join was made rest now then_ more last first later =
    sym (append_assoc was made rest)
    ∙ ap (λ (xs : List Told). xs ++ rest) first
    ∙ append_assoc then_ now rest
    ∙ ap (λ (xs : List Told). then_ ++ xs) later
    ∙ sym (append_assoc then_ more last)

-- From any state on: what the actor has open, and the accesses that it makes, are what its answers tell, and what it has open at the end.
abbrev Counts : Actor → List Event → Flat → Type 0
Counts actor history f =
    open_access (f.under actor) ++ map told (accesses_by actor history f)
    ≡ told_in (answers_by actor history) ++ open_access ((after_all history f).under actor)

one_more : (z : Sizes) (actor : Actor) (e : Event) (es : List Event) (f : Flat) → IsLawful z f (e ∷ es) → LeavesWell (f.under actor).stage
    → (LeavesWell ((after e f).under actor).stage → Counts actor es (after e f)) → Counts actor (e ∷ es) f
one_more z actor e es f lawful well rest = by (is_same actor e.actor) refl
  where
    by : (b : Bool) → is_same actor e.actor ≡ b
        → open_access (f.under actor) ++ map told ((if b then made_by (f.under actor).line e.kind else []) ++ accesses_by actor es (after e f))
        ≡ told_in (answers_by actor (e ∷ es)) ++ open_access ((after_all es (after e f)).under actor)
    by false apart =
        let under : (after e f).under actor ≡ f.under actor = other_under actor e f apart in
        ap (λ (u : LineUnderWay). open_access u ++ map told (accesses_by actor es (after e f))) (sym under)
        ∙ rest (subst (λ (u : LineUnderWay). LeavesWell u.stage) (sym under) well)
        ∙ ap (λ (xs : List AnsweredLine). told_in xs ++ open_access ((after_all es (after e f)).under actor))
        (sym (other_answer actor e.actor e.kind (answers_of es) apart))
    by true is =
        let same : actor ≡ e.actor = same_is actor e.actor is in
        let may : IsAllowed z f.facts f.past actor (f.under actor) e.kind =
        subst (λ (x : Actor). IsAllowed z f.facts f.past x (f.under x) e.kind) (sym same) lawful.0 in
        let G : Goes (f.under actor) e.kind (under_after e.kind f.facts (f.under actor)) = own_goes z f.facts f.past actor (f.under actor) e.kind may well in
        let under : (after e f).under actor ≡ under_after e.kind f.facts (f.under actor) = own_under actor e f same in
        ap (λ (xs : List Told). open_access (f.under actor) ++ xs)
        (map-append told (made_by (f.under actor).line e.kind) (accesses_by actor es (after e f)))
        ∙ join (open_access (f.under actor)) (map told (made_by (f.under actor).line e.kind)) (map told (accesses_by actor es (after e f)))
        (open_access ((after e f).under actor)) (told_of e.kind) (told_in (answers_by actor es)) (open_access ((after_all es (after e f)).under actor))
        (G.counts ∙ ap (λ (u : LineUnderWay). told_of e.kind ++ open_access u) (sym under))
        (rest (subst (λ (u : LineUnderWay). LeavesWell u.stage) (sym under) G.well))
        ∙ ap (λ (xs : List Told). xs ++ open_access ((after_all es (after e f)).under actor))
        (sym (own_answer actor e.actor e.kind (answers_of es) is))

counted : (z : Sizes) (actor : Actor) (history : List Event) (f : Flat) → IsLawful z f history → LeavesWell (f.under actor).stage → Counts actor history f
counted z actor [] f lawful well = append-nil (open_access (f.under actor))
counted z actor (e ∷ es) f lawful well = one_more z actor e es f lawful well (λ now. counted z actor es (after e f) lawful.1 now)

pub accesses_are_answered : AccessesAreAnswered
accesses_are_answered z f history actor lawful idle =
    ap (λ (s : Stage). open_at (f.under actor).line.number s ++ map told (accesses_by actor history f)) (sym idle)
    ∙ counted z actor history f lawful (subst LeavesWell (sym idle) tt)
