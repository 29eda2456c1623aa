-- Which lines a step begins and answers, and which of a history are an actor's.
use Rattle.std.proofs.Common.{◌≡◌, List, [], ◌∷◌, ◌++◌, refl, ap, ◌∙◌}
use Rattle.std.specs.Prelude.{false, filter}
use Rattle.std.proofs.lemmas.List.Elements.{filter-append}
use Rattle.core_views.specs.declared.actor.Actor.{Actor}
use Rattle.core_views.specs.declared.answer.AnsweredLine.{AnsweredLine}
use Rattle.core_views.specs.declared.event.Event.{Event}
use Rattle.core_views.specs.declared.event.EventKind.{EventKind}
use Rattle.core_views.specs.declared.event.EventKind.TheVariants.{Begun, Answered}
use Rattle.core_views.specs.declared.place.Place.{Place}
use Rattle.core_views.specs.declared.place.Place.TheVariants as place
use Rattle.core_views.specs.declared.trace.Line.{Line}
use Rattle.core_views.specs.Actors.{is_same}
use Rattle.core_views.specs.Alone.{IsInside}
use Rattle.core_views.specs.Text.{answers_of, or_answered}
use Rattle.core_views.specs.Whole.{lines_begun, lines_of, or_begun}
use Rattle.core_views.proofs.SameActor.{is_same_self}
use Rattle.core_views.proofs.Texts.{answers_append}
use Rattle.mmu_core.specs.declared.outcome.Outcome.{Outcome}
use Rattle.mmu_core.specs.declared.outcome.Outcome.TheVariants.{Goes, Ends}
use Rattle.mmu_laws.specs.flat.Histories.{answers_by}
use Rattle.mmu_core.specs.machine.Steps.{beginning}
use Rattle.mmu_core.specs.machine.Outcomes.{answering}
use Rattle.mmu_laws.proofs.flat.LineEvents.{AllWithin}
use Rattle.mmu_laws.proofs.flat.Told.{told}

begun_by_more : (kind : EventKind) (xs ys : List Line) → or_begun kind (xs ++ ys) ≡ or_begun kind xs ++ ys
begun_by_more (Begun line) xs ys = refl
begun_by_more _ xs ys = refl

begun_more : (xs ys : List Event) → lines_begun (xs ++ ys) ≡ lines_begun xs ++ lines_begun ys
begun_more [] ys = refl
begun_more (x ∷ xs) ys = ap (or_begun x.kind) (begun_more xs ys) ∙ begun_by_more x.kind (lines_begun xs) (lines_begun ys)

-- the lines of the actor that the history begins, in its order
abbrev pub begun_by : Actor → List Event → List Line
begun_by actor h = lines_of actor (lines_begun h)

pub answers_by_more : (actor : Actor) (xs ys : List Event) → answers_by actor (xs ++ ys) ≡ answers_by actor xs ++ answers_by actor ys
answers_by_more actor xs ys =
    ap (filter (λ (x : AnsweredLine). is_same actor x.actor)) (answers_append xs ys)
    ∙ filter-append (λ (x : AnsweredLine). is_same actor x.actor) (answers_of xs) (answers_of ys)

pub begun_by_append : (actor : Actor) (xs ys : List Event) → begun_by actor (xs ++ ys) ≡ begun_by actor xs ++ begun_by actor ys
begun_by_append actor xs ys =
    ap (lines_of actor) (begun_more xs ys) ∙ filter-append (λ (line : Line). is_same actor line.actor) (lines_begun xs) (lines_begun ys)

-- An event that stands within a line neither begins nor answers one.
answers_none : (actor : Actor) (kind : EventKind) (rest : List AnsweredLine) → IsInside kind → or_answered actor kind rest ≡ rest
answers_none actor (Answered line answer) rest within = absurd within
answers_none actor _ rest within = refl

begins_none : (kind : EventKind) (rest : List Line) → IsInside kind → or_begun kind rest ≡ rest
begins_none (Begun line) rest within = absurd within
begins_none _ rest within = refl

within_then_answers : (actor : Actor) (kinds more : List EventKind) → AllWithin kinds → answers_of (told actor (kinds ++ more)) ≡ answers_of (told actor more)
within_then_answers actor [] more all = refl
within_then_answers actor (kind ∷ kinds) more all =
    answers_none actor kind (answers_of (told actor (kinds ++ more))) all.0 ∙ within_then_answers actor kinds more all.1

within_then_begins : (actor : Actor) (kinds more : List EventKind) → AllWithin kinds → lines_begun (told actor (kinds ++ more)) ≡ lines_begun (told actor more)
within_then_begins actor [] more all = refl
within_then_begins actor (kind ∷ kinds) more all = begins_none kind (lines_begun (told actor (kinds ++ more))) all.0 ∙ within_then_begins actor kinds more all.1

-- the line that a step answers, and the line that it begins
abbrev pub answered_with : Actor → Line → Outcome → List AnsweredLine
answered_with actor line (Goes p) = []
answered_with actor line (Ends answer) = record { number = line.number; actor = actor; answer = answer } ∷ []

abbrev pub begun_from : Place → Line → List Line
begun_from place.Between line = line ∷ []
begun_from _ line = []

answer_told : (actor : Actor) (line : Line) (o : Outcome) → answers_of (told actor (answering o line)) ≡ answered_with actor line o
answer_told actor line (Goes p) = refl
answer_told actor line (Ends answer) = refl

no_begin_told : (actor : Actor) (line : Line) (o : Outcome) → lines_begun (told actor (answering o line)) ≡ []
no_begin_told actor line (Goes p) = refl
no_begin_told actor line (Ends answer) = refl

-- what a step tells, with its begin
pub answers_told : (actor : Actor) (stood : Place) (line : Line) (kinds : List EventKind) (o : Outcome) → AllWithin kinds
    → answers_of (told actor (beginning stood line ++ (kinds ++ answering o line))) ≡ answered_with actor line o
answers_told actor place.Between line kinds o all = within_then_answers actor kinds (answering o line) all ∙ answer_told actor line o
answers_told actor _ line kinds o all = within_then_answers actor kinds (answering o line) all ∙ answer_told actor line o

pub begins_told : (actor : Actor) (stood : Place) (line : Line) (kinds : List EventKind) (o : Outcome) → AllWithin kinds
    → lines_begun (told actor (beginning stood line ++ (kinds ++ answering o line))) ≡ begun_from stood line
begins_told actor place.Between line kinds o all =
    ap (λ (lines : List Line). line ∷ lines) (within_then_begins actor kinds (answering o line) all ∙ no_begin_told actor line o)
begins_told actor _ line kinds o all = within_then_begins actor kinds (answering o line) all ∙ no_begin_told actor line o

-- Of another actor it answers and begins none, and of its own what it answers and begins.
pub other_answers : (actor other : Actor) (line : Line) (o : Outcome) → is_same other actor ≡ false
    → filter (λ x. is_same other x.actor) (answered_with actor line o) ≡ []
other_answers actor other line (Goes p) apart = refl
other_answers actor other line (Ends answer) apart = rw apart refl

pub other_begins : (other : Actor) (stood : Place) (line : Line) → is_same other line.actor ≡ false → lines_of other (begun_from stood line) ≡ []
other_begins other place.Between line apart = rw apart refl
other_begins other _ line apart = refl

pub own_answers : (actor : Actor) (line : Line) (o : Outcome) → filter (λ x. is_same actor x.actor) (answered_with actor line o) ≡ answered_with actor line o
own_answers actor line (Goes p) = refl
own_answers actor line (Ends answer) = rw (is_same_self actor) refl

pub own_begins : (actor : Actor) (stood : Place) (line : Line) → line.actor ≡ actor → lines_of actor (begun_from stood line) ≡ begun_from stood line
own_begins actor place.Between line own = rw (own, is_same_self actor) refl
own_begins actor _ line own = refl
