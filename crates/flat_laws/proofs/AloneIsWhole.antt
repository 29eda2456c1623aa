-- Lines that stand alone are begun and answered, each once, in their order.
use Rattle.std.proofs.Common.{◌≡◌, ℕ, List, [], ◌∷◌, ◌++◌, Bool, true, false, cond, refl, ap, ◌∙◌, map, filter}
use Rattle.core_views.specs.declared.actor.Actor.{Actor}
use Rattle.core_views.specs.declared.answer.Answer.{Answer}
use Rattle.core_views.specs.declared.answer.AnsweredLine.{AnsweredLine}
use Rattle.core_views.specs.declared.event.Event.{Event}
use Rattle.core_views.specs.declared.event.EventKind.{EventKind}
use Rattle.core_views.specs.declared.event.EventKind.TheVariants.{Begun, Answered}
use Rattle.core_views.specs.declared.trace.Line.{Line}
use Rattle.core_views.specs.Actors.{is_same}
use Rattle.core_views.specs.Alone.{AreWithin, IsInside, StandsAlone, StandsFirst}
use Rattle.core_views.specs.Text.{answers_of, or_answered}
use Rattle.core_views.specs.Whole.{IsWhole, lines_begun, or_begun, lines_of}

-- What stands within a line begins no line, and answers none.
begins_none : (kind : EventKind) (lines : List Line) → IsInside kind → or_begun kind lines ≡ lines
begins_none (Begun line) lines within = absurd within
begins_none _ lines within = refl

answers_none : (actor : Actor) (kind : EventKind) (xs : List AnsweredLine) → IsInside kind → or_answered actor kind xs ≡ xs
answers_none actor (Answered line answer) xs within = absurd within
answers_none actor _ xs within = refl

begun_behind : (line : Line) (within es : List Event) → AreWithin line within → lines_begun (within ++ es) ≡ lines_begun es
begun_behind line [] es are = refl
begun_behind line (x ∷ xs) es are = begins_none x.kind (lines_begun (xs ++ es)) are.1 ∙ begun_behind line xs es are.2

answers_behind : (line : Line) (within es : List Event) → AreWithin line within → answers_of (within ++ es) ≡ answers_of es
answers_behind line [] es are = refl
answers_behind line (x ∷ xs) es are = answers_none x.actor x.kind (answers_of (xs ++ es)) are.1 ∙ answers_behind line xs es are.2

abbrev with_answer : Line → Answer → AnsweredLine
with_answer line answer = record { number = line.number; actor = line.actor; answer = answer }

first_begun : (line : Line) (h rest : List Event) → StandsFirst line h rest → lines_begun h ≡ line ∷ lines_begun rest
first_begun line h rest first =
    ap lines_begun first.history_is
    ∙ ap (λ (lines : List Line). line ∷ lines) (begun_behind line first.within _ first.are_within)

first_answered : (line : Line) (h rest : List Event) (first : StandsFirst line h rest) → answers_of h ≡ with_answer line first.answer ∷ answers_of rest
first_answered line h rest first = ap answers_of first.history_is ∙ answers_behind line first.within _ first.are_within

pub all_begun : (lines : List Line) (h : List Event) → StandsAlone h lines → lines_begun h ≡ lines
all_begun [] h stands = ap lines_begun stands
all_begun (line ∷ lines) h stands = first_begun line h stands.0 stands.1 ∙ ap (λ (ls : List Line). line ∷ ls) (all_begun lines stands.0 stands.2)

abbrev numbers_of : Actor → List AnsweredLine → List ℕ
numbers_of actor xs = map (λ x. x.number) (filter (λ x. is_same actor x.actor) xs)

one_more : (b : Bool) (x : AnsweredLine) (line : Line) (xs : List AnsweredLine) (lines : List Line) → x.number ≡ line.number
    → map (λ (y : AnsweredLine). y.number) xs ≡ map (λ (l : Line). l.number) lines
    → map (λ (y : AnsweredLine). y.number) (cond b (x ∷ xs) xs) ≡ map (λ (l : Line). l.number) (cond b (line ∷ lines) lines)
one_more true x line xs lines same rest = rw (same, rest) refl
one_more false x line xs lines same rest = rest

all_answered : (actor : Actor) (lines : List Line) (h : List Event) → StandsAlone h lines
    → numbers_of actor (answers_of h) ≡ map (λ line. line.number) (lines_of actor lines)
all_answered actor [] h stands = ap (λ (es : List Event). numbers_of actor (answers_of es)) stands
all_answered actor (line ∷ lines) h stands =
    let rest : List Event = stands.0 in
    ap (numbers_of actor) (first_answered line h rest stands.1)
    ∙ one_more (is_same actor line.actor) (with_answer line stands.1.answer) line (filter (λ x. is_same actor x.actor) (answers_of rest))
    (lines_of actor lines) refl (all_answered actor lines rest stands.2)

pub stands_whole : (lines : List Line) (h : List Event) → StandsAlone h lines → IsWhole h lines
stands_whole lines h stands = record {
  begun = λ actor. ap (lines_of actor) (all_begun lines h stands);
  answered = λ actor. all_answered actor lines h stands;
}
