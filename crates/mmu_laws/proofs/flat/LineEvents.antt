-- What the steps of one line tell, one after the other: its begin, events of its own, its answer.
use Rattle.std.proofs.Common.{◌≡◌, ℕ, List, [], ◌∷◌, ◌++◌, map, refl, sym, ap, ◌∙◌, subst, append_assoc}
use Rattle.std.specs.Prelude.{true}
use Rattle.std.proofs.lemmas.List.{append-nil, map-append}
use Rattle.core_views.specs.declared.actor.Actor.{Actor}
use Rattle.core_views.specs.declared.answer.Answer.{Answer}
use Rattle.core_views.specs.declared.answer.AnsweredLine.{AnsweredLine}
use Rattle.core_views.specs.declared.event.Event.{Event}
use Rattle.core_views.specs.declared.event.EventKind.{EventKind}
use Rattle.core_views.specs.declared.event.EventKind.TheVariants.{Begun, Answered}
use Rattle.core_views.specs.declared.place.Place.{Place}
use Rattle.core_views.specs.declared.place.Place.TheVariants as place
use Rattle.core_views.specs.declared.trace.Line.{Line}
use Rattle.core_views.specs.Alone.{AreWithin, IsInside, StandsAlone}
use Rattle.core_views.specs.FlatHistory.{answers, by}
use Rattle.core_views.specs.Held.{Held}
use Rattle.core_views.specs.Text.{answers_of, or_answered}
use Rattle.flat_laws.proofs.StandsAlone.{one_stands, within_append}
use Rattle.core_views.proofs.Texts.{answers_append}
use Rattle.mmu_core.specs.declared.outcome.Outcome.{Outcome}
use Rattle.mmu_core.specs.declared.outcome.Outcome.TheVariants.{Goes, Ends}
use Rattle.mmu_core.proofs.machine.Which.{events_of_line}
pub use Rattle.mmu_laws.proofs.flat.Within.{AllWithin, tells_within}
use Rattle.mmu_core.specs.machine.Steps.{beginning, event_kinds, events_of, has_line, line_at, place_at}
use Rattle.mmu_core.specs.lines.Forms.{outcome_at, tells_at}
use Rattle.mmu_core.specs.machine.Outcomes.{answering}

abbrev told_by : Line → List EventKind → List Event
told_by line kinds = map (λ kind. by line kind) kinds

are_within : (line : Line) (kinds : List EventKind) → AllWithin kinds → AreWithin line (told_by line kinds)
are_within line [] all = tt
are_within line (k ∷ ks) all = (refl, all.0, are_within line ks all.1)

-- The history is what a line under way has told: its begin, and events of its own.
pub record IsOpen (line : Line) (h : List Event) : Type 0 where
  pub within : List Event
  pub are_within : AreWithin line within
  pub history_is : h ≡ by line (Begun line) ∷ within

-- what a line that stands at this place has told: nothing, where it hasn't begun
abbrev pub SoFar : Place → Line → List Event → Type 0
SoFar place.Between line h = h ≡ []
SoFar _ line h = IsOpen line h

-- further events of its own after it
opens : (line : Line) (h : List Event) (kinds : List EventKind) → AllWithin kinds → IsOpen line h → IsOpen line (h ++ told_by line kinds)
opens line h kinds all is = record {
  within = is.within ++ told_by line kinds;
  are_within = within_append line is.within (told_by line kinds) is.are_within (are_within line kinds all);
  history_is = ap (λ (es : List Event). es ++ told_by line kinds) is.history_is;
}

begins : (line : Line) (h : List Event) (kinds : List EventKind) → AllWithin kinds → h ≡ [] → IsOpen line (h ++ told_by line (Begun line ∷ kinds))
begins line h kinds all none = record {
  within = told_by line kinds;
  are_within = are_within line kinds all;
  history_is = ap (λ (es : List Event). es ++ told_by line (Begun line ∷ kinds)) none;
}

tells_more : (stood : Place) (line : Line) (h : List Event) (kinds : List EventKind) → AllWithin kinds → SoFar stood line h
    → IsOpen line (h ++ told_by line (beginning stood line ++ kinds))
tells_more place.Between line h kinds all so_far = begins line h kinds all so_far
tells_more _ line h kinds all so_far = opens line h kinds all so_far

-- The line tells nothing besides its begin, its own events and its answer.

kind_answers : (actor : Actor) (kind : EventKind) (rest : List AnsweredLine) → IsInside kind → or_answered actor kind rest ≡ rest
kind_answers actor (Answered number answer) rest within = absurd within
kind_answers actor _ rest within = refl

within_answers : (line : Line) (es : List Event) → AreWithin line es → answers_of es ≡ []
within_answers line [] are = refl
within_answers line (e ∷ es) are = kind_answers e.actor e.kind (answers_of es) are.1 ∙ within_answers line es are.2

open_answers : (line : Line) (h : List Event) → IsOpen line h → answers_of h ≡ []
open_answers line h is = ap answers_of is.history_is ∙ within_answers line is.within is.are_within

-- The history is the whole of one line, with this answer.
pub record IsClosed (line : Line) (answer : Answer) (h : List Event) : Type 0 where
  pub alone : StandsAlone h (line ∷ [])
  pub answers : answers_of h ≡ record { number = line.number; actor = line.actor; answer = answer } ∷ []

closes : (line : Line) (answer : Answer) (h : List Event) → IsOpen line h → IsClosed line answer (h ++ answers line answer)
closes line answer h is = record {
  alone = subst (λ (es : List Event). StandsAlone (es ++ answers line answer) (line ∷ [])) (sym is.history_is) (one_stands line is.within answer is.are_within);
  answers = answers_append h (answers line answer) ∙ ap (λ (xs : List AnsweredLine). xs ++ answers_of (answers line answer)) (open_answers line h is);
}

-- what a step tells, in its three parts
regroup : (line : Line) (h : List Event) (front kinds back : List EventKind)
    → h ++ told_by line (front ++ (kinds ++ back)) ≡ (h ++ told_by line (front ++ kinds)) ++ told_by line back
regroup line h front kinds back =
    ap (λ (ks : List EventKind). h ++ told_by line ks) (sym (append_assoc front kinds back))
    ∙ ap (λ (es : List Event). h ++ es) (map-append (λ kind. by line kind) (front ++ kinds) back)
    ∙ sym (append_assoc h (told_by line (front ++ kinds)) (told_by line back))

-- what a line has told after a step with this outcome
abbrev pub Tells : Outcome → Line → List Event → Type 0
Tells (Goes p) line h = IsOpen line h
Tells (Ends answer) line h = IsClosed line answer h

tells_by : (o : Outcome) (stood : Place) (line : Line) (h : List Event) (kinds : List EventKind) → AllWithin kinds → SoFar stood line h
    → Tells o line (h ++ told_by line (beginning stood line ++ (kinds ++ answering o line)))
tells_by (Goes p) stood line h kinds all so_far =
    subst (λ (ks : List EventKind). IsOpen line (h ++ told_by line (beginning stood line ++ ks))) (sym (append-nil kinds))
    (tells_more stood line h kinds all so_far)
tells_by (Ends answer) stood line h kinds all so_far =
    subst (λ (es : List Event). IsClosed line answer es) (sym (regroup line h (beginning stood line) kinds (Answered line.number answer ∷ [])))
    (closes line answer (h ++ told_by line (beginning stood line ++ kinds)) (tells_more stood line h kinds all so_far))

-- what a step of this line at this place tells, where it is this actor's
abbrev told_as : Actor → Place → Line → Place → Held → ℕ → List Event
told_as actor stood line p hand v = map (λ kind. record { actor = actor; kind = kind }) (event_kinds stood line p hand v)

step_tells_at : (stood : Place) (line other : Line) (actor : Actor) (p : Place) (hand : Held) (v : ℕ) (told : List Event) → other ≡ line
    → actor ≡ line.actor → SoFar stood line told
    → Tells (outcome_at p other.command hand v) line (told ++ told_as actor stood other p hand v)
step_tells_at stood line other actor p hand v told is own so_far =
    subst (λ (l : Line). Tells (outcome_at p l.command hand v) line (told ++ told_as actor stood l p hand v)) (sym is)
    (subst (λ (a : Actor). Tells (outcome_at p line.command hand v) line (told ++ told_as a stood line p hand v)) (sym own)
    (tells_by (outcome_at p line.command hand v) stood line told (tells_at p line.command hand v) (tells_within p line.command hand v) so_far))

-- A step of a hand's line: from its begin on the line tells events of its own, and with the step that ends it, its answer.
pub step_tells : (hand : Held) (line : Line) (v : ℕ) (told : List Event) → has_line hand ≡ true → line_at hand.state.place hand ≡ line
    → hand.state.actor ≡ line.actor → SoFar hand.state.place line told
    → Tells (outcome_at (place_at hand.state.place hand) (line_at hand.state.place hand).command hand v) line (told ++ events_of hand v)
step_tells hand line v told has is own so_far =
    subst (λ (es : List Event). Tells (outcome_at (place_at hand.state.place hand) (line_at hand.state.place hand).command hand v) line (told ++ es))
    (sym (events_of_line hand v has))
    (step_tells_at hand.state.place line (line_at hand.state.place hand) hand.state.actor (place_at hand.state.place hand) hand v told is own so_far)
