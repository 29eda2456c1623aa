-- A hand goes on as the history tells: what it has answered and begun, step by step.
use Rattle.std.proofs.Common.{◌≡◌, ◌<◌, ℕ, zero, suc, List, [], ◌∷◌, ◌++◌, append_assoc, append-nil, length, take, refl, sym, ap, ◌∙◌, arith, length-append}
use Rattle.std.specs.Prelude.{false, filter, map, slice_get, unwrap_or}
use Rattle.std.proofs.lemmas.List.{map-append}
use Rattle.core_views.specs.declared.actor.Actor.{Actor}
use Rattle.core_views.specs.declared.answer.AnsweredLine.{AnsweredLine}
use Rattle.core_views.specs.declared.event.Event.{Event}
use Rattle.core_views.specs.declared.place.Place.{Place}
use Rattle.core_views.specs.declared.place.Place.TheVariants as place
use Rattle.core_views.specs.declared.sizes.Sizes.{Sizes}
use Rattle.core_views.specs.declared.trace.Line.{Line}
use Rattle.core_views.specs.Actors.{is_same}
use Rattle.core_views.specs.Flat.{no_line}
use Rattle.core_views.specs.Held.{Held}
use Rattle.core_views.specs.Sizes.{actors_of}
use Rattle.core_views.specs.Text.{answers_of}
use Rattle.core_views.specs.Whole.{lines_begun, lines_of}
use Rattle.mmu_core.specs.declared.outcome.Outcome.{Outcome}
use Rattle.mmu_core.specs.declared.outcome.Outcome.TheVariants.{Goes, Ends}
pub use Rattle.mmu_laws.specs.flat.Histories.{answers_by, begun_count, begun_lines}
use Rattle.mmu_core.specs.invariant.Invariant.{Invariant}
use Rattle.mmu_core.specs.lines.Forms.{outcome_at, tells_at}
use Rattle.mmu_core.specs.machine.Steps.{task_at}
use Rattle.mmu_core.specs.machine.Outcomes.{answers_after, place_after}
use Rattle.mmu_core.specs.machine.View.{View, answer_in, hand_after, upd}
use Rattle.mmu_core.proofs.machine.Columns.{at_upd}
use Rattle.mmu_laws.proofs.flat.FlatKept.{other_actor, same_actor, told_events}
use Rattle.mmu_core.proofs.lines.Forms.{outcome_goes}
use Rattle.mmu_core.proofs.machine.GoesOn.{GoesUnderWay}
use Rattle.mmu_laws.proofs.flat.LineEvents.{tells_within}
use Rattle.mmu_core.proofs.machine.Stepping.{IsStep}
use Rattle.mmu_laws.proofs.flat.ToldOf.{answered_with, answers_by_more, answers_told, begins_told, begun_by, begun_by_append, begun_from}
use Rattle.mmu_laws.proofs.flat.ToldOf.{other_answers, other_begins, own_answers, own_begins}

-- The answers are those of the first lines.
abbrev pub Numbered : List AnsweredLine → List Line → Type 0
Numbered answers lines = map (λ (x : AnsweredLine). x.number) answers ≡ map (λ (l : Line). l.number) (take (length answers) lines)

-- The hand came from the other while these events were told: it has answered and begun what they say of its actor.
pub record Follows (h g : Held) (es : List Event) : Type 0 where
  pub actor : g.state.actor ≡ h.state.actor
  pub lines : g.lines ≡ h.lines
  pub answers : g.answers ≡ h.answers ++ answers_by h.state.actor es
  pub begun : take (begun_lines g) h.lines ≡ take (begun_lines h) h.lines ++ begun_by h.state.actor es
  pub numbers : Numbered h.answers h.lines → Numbered g.answers g.lines

pub follows_still : (h : Held) (es : List Event) → answers_by h.state.actor es ≡ [] → begun_by h.state.actor es ≡ [] → Follows h h es
follows_still h es none no_line_ = record {
  actor = refl;
  lines = refl;
  answers = sym (ap (λ (xs : List AnsweredLine). h.answers ++ xs) none ∙ append-nil h.answers);
  begun = sym (ap (λ (xs : List Line). take (begun_lines h) h.lines ++ xs) no_line_ ∙ append-nil (take (begun_lines h) h.lines));
  numbers = λ n. n;
}

pub follows_more : (h g k : Held) (es fs : List Event) → Follows h g es → Follows g k fs → Follows h k (es ++ fs)
follows_more h g k es fs F G = record {
  actor = G.actor ∙ F.actor;
  lines = G.lines ∙ F.lines;
  answers = G.answers ∙ ap (λ (xs : List AnsweredLine). xs ++ answers_by g.state.actor fs) F.answers
      ∙ ap (λ actor. (h.answers ++ answers_by h.state.actor es) ++ answers_by actor fs) F.actor
      ∙ append_assoc h.answers (answers_by h.state.actor es) (answers_by h.state.actor fs)
      ∙ ap (λ (xs : List AnsweredLine). h.answers ++ xs) (sym (answers_by_more h.state.actor es fs));
  begun = ap (take (begun_lines k)) (sym F.lines) ∙ G.begun
      ∙ ap (λ (xs : List Line). take (begun_lines g) xs ++ begun_by g.state.actor fs) F.lines
      ∙ ap (λ (xs : List Line). xs ++ begun_by g.state.actor fs) F.begun
      ∙ ap (λ actor. (take (begun_lines h) h.lines ++ begun_by h.state.actor es) ++ begun_by actor fs) F.actor
      ∙ append_assoc (take (begun_lines h) h.lines) (begun_by h.state.actor es) (begun_by h.state.actor fs)
      ∙ ap (λ (xs : List Line). take (begun_lines h) h.lines ++ xs) (sym (begun_by_append h.state.actor es fs));
  numbers = λ n. G.numbers (F.numbers n);
}

-- the step of the hand's own line
count_push : (answers : List AnsweredLine) (x : AnsweredLine) → length (answers ++ x ∷ []) ≡ suc (length answers)
count_push answers x = length-append answers (x ∷ []) ∙ omega arith

answers_behind : (o : Outcome) (line : Line) (actor : Actor) (answers : List AnsweredLine) → line.actor ≡ actor
    → answers_after o line answers ≡ answers ++ answered_with actor line o
answers_behind (Goes p) line actor answers own = sym (append-nil answers)
answers_behind (Ends answer) line actor answers own = rw own refl

begun_behind : (o : Outcome) (line : Line) (answers : List AnsweredLine) → GoesUnderWay o
    → begun_count (place_after o) (length (answers_after o line answers)) ≡ suc (length answers)
begun_behind (Goes place.Between) line answers under = absurd under
begun_behind (Goes _) line answers under = refl
begun_behind (Ends answer) line answers under = count_push answers (record { number = line.number; actor = line.actor; answer = answer })

take_next : (lines : List Line) (n : ℕ) → n < length lines → take (suc n) lines ≡ take n lines ++ unwrap_or (slice_get lines n) no_line ∷ []
take_next [] n lt = absurd (omega arith)
take_next (line ∷ lines) zero lt = refl
take_next (line ∷ lines) (suc n) lt = ap (λ (xs : List Line). line ∷ xs) (take_next lines n (omega arith))

take_begun : (stood : Place) (line : Line) (lines : List Line) (n : ℕ) → n < length lines → line ≡ unwrap_or (slice_get lines n) no_line
    → take (suc n) lines ≡ take (begun_count stood n) lines ++ begun_from stood line
take_begun place.Between line lines n lt is = take_next lines n lt ∙ ap (λ (l : Line). take n lines ++ l ∷ []) (sym is)
take_begun _ line lines n lt is = sym (append-nil (take (suc n) lines))

numbers_behind : (o : Outcome) (line : Line) (lines : List Line) (answers : List AnsweredLine) → length answers < length lines
    → line ≡ unwrap_or (slice_get lines (length answers)) no_line → Numbered answers lines → Numbered (answers_after o line answers) lines
numbers_behind (Goes p) line lines answers lt is numbers = numbers
numbers_behind (Ends answer) line lines answers lt is numbers =
    let x : AnsweredLine = record { number = line.number; actor = line.actor; answer = answer } in
    map-append (λ (y : AnsweredLine). y.number) answers (x ∷ [])
    ∙ ap (λ (ns : List ℕ). ns ++ line.number ∷ []) numbers
    ∙ sym (map-append (λ (l : Line). l.number) (take (length answers) lines) (line ∷ []))
    ∙ ap (map (λ (l : Line). l.number)) (ap (λ (l : Line). take (length answers) lines ++ l ∷ []) is ∙ sym (take_next lines (length answers) lt)
    ∙ ap (λ n. take n lines) (sym (count_push answers x)))

-- each hand after a step of an actor
module _ (z : Sizes) (v : View) (a : ℕ) (line : Line) (p : Place) where
  abbrev found : ℕ
  found = answer_in (task_at p line.command (v.hand a)) v.words

  abbrev outcome : Outcome
  outcome = outcome_at p line.command (v.hand a) found

  step_answers : answers_of (told_events v a line line.command p) ≡ answered_with (v.hand a).state.actor line outcome
  step_answers =
      answers_told (v.hand a).state.actor (v.hand a).state.place line (tells_at p line.command (v.hand a) found) outcome
      (tells_within p line.command (v.hand a) found)

  step_begins : lines_begun (told_events v a line line.command p) ≡ begun_from (v.hand a).state.place line
  step_begins =
      begins_told (v.hand a).state.actor (v.hand a).state.place line (tells_at p line.command (v.hand a) found) outcome
      (tells_within p line.command (v.hand a) found)

  own_follows : IsStep z v a line line.command p → Follows (v.hand a) (hand_after line line.command p (v.hand a) found) (told_events v a line line.command p)
  own_follows S = record {
    actor = same_actor p line.command (v.hand a) found;
    lines = refl;
    answers = answers_behind outcome line (v.hand a).state.actor (v.hand a).answers S.own
        ∙ ap (λ (xs : List AnsweredLine). (v.hand a).answers ++ xs) (sym
        (ap (filter (λ (x : AnsweredLine). is_same (v.hand a).state.actor x.actor)) step_answers ∙ own_answers (v.hand a).state.actor line outcome));
    begun = ap (λ m. take m (v.hand a).lines) (begun_behind outcome line (v.hand a).answers (outcome_goes p line.command (v.hand a) found S.begun))
        ∙ take_begun (v.hand a).state.place line (v.hand a).lines (length (v.hand a).answers) S.left S.next
        ∙ ap (λ (xs : List Line). take (begun_lines (v.hand a)) (v.hand a).lines ++ xs)
        (sym (ap (lines_of (v.hand a).state.actor) step_begins ∙ own_begins (v.hand a).state.actor (v.hand a).state.place line S.own));
    numbers = numbers_behind outcome line (v.hand a).lines (v.hand a).answers S.left S.next;
  }

  pub silent_answers : (other : Actor) → is_same other (v.hand a).state.actor ≡ false → answers_by other (told_events v a line line.command p) ≡ []
  silent_answers other apart =
      ap (filter (λ (x : AnsweredLine). is_same other x.actor)) step_answers ∙ other_answers (v.hand a).state.actor other line outcome apart

  pub silent_begins : (other : Actor) → line.actor ≡ (v.hand a).state.actor → is_same other (v.hand a).state.actor ≡ false
      → begun_by other (told_events v a line line.command p) ≡ []
  silent_begins other own apart = ap (lines_of other) step_begins ∙ other_begins other (v.hand a).state.place line (ap (is_same other) own ∙ apart)

  pub view_follows : (i : ℕ) → IsStep z v a line line.command p → Invariant z v → i < actors_of z
      → Follows (v.hand i) (upd v.hand a (hand_after line line.command p (v.hand a) found) i) (told_events v a line line.command p)
  view_follows i S I i_in =
      at_upd (λ i (g : Held). i < actors_of z → Follows (v.hand i) g (told_events v a line line.command p)) v.hand a
      (hand_after line line.command p (v.hand a) found)
      (λ _. own_follows S)
      (λ i apart i_in. let other : is_same (v.hand i).state.actor (v.hand a).state.actor ≡ false = other_actor z v i a I i_in S.there (λ e. apart (sym e)) in
      follows_still (v.hand i) (told_events v a line line.command p) (silent_answers (v.hand i).state.actor other)
      (silent_begins (v.hand i).state.actor S.own other))
      i i_in
