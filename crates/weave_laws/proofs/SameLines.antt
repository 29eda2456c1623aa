-- Lines that run one after another, each alone: from one world on their steps are one list, since each ends with the one step that answers it.
use Rattle.std.proofs.Common.{◌≡◌, ◌⊎◌, inl, inr, ◌≤◌, ◌+◌, ℕ, List, [], ◌∷◌, ◌++◌, length, length-append, refl, sym, subst, ap, ◌∙◌, arith}
use Rattle.std.proofs.lemmas.Bool.{cases_Bool}
use Rattle.std.proofs.lemmas.List.Elements.{All-head, All-tail}
use Rattle.std.specs.Prelude.{All, map, true, false}
use Rattle.core_views.specs.declared.actor.Actor.{Actor}
use Rattle.core_views.specs.declared.answer.Answer.{Answer}
use Rattle.core_views.specs.declared.answer.AnsweredLine.{AnsweredLine}
use Rattle.core_views.specs.declared.event.Event.{Event}
use Rattle.core_views.specs.declared.event.EventKind.{EventKind}
use Rattle.core_views.specs.declared.event.EventKind.TheVariants.{Answered}
use Rattle.core_views.specs.declared.kind.Kind.{Kind}
use Rattle.core_views.specs.declared.sizes.Sizes.{Sizes}
use Rattle.core_views.specs.declared.trace.Line.{Line}
use Rattle.core_views.specs.Held.{Held}
use Rattle.core_views.specs.Sizes.{index_of}
use Rattle.core_views.specs.Text.{answers_of, or_answered}
use Rattle.core_views.proofs.Texts.{answers_append}
use Rattle.mmu_core.specs.declared.outcome.Outcome.{Outcome}
use Rattle.mmu_core.specs.declared.outcome.Outcome.TheVariants.{Ends, Goes}
use Rattle.mmu_core.specs.machine.Enabled.{mmu}
use Rattle.mmu_core.specs.machine.Machine.{Legal, May, Step, World, answered, effect, hand_in, run}
use Rattle.mmu_core.specs.lines.Forms.{tells_at}
use Rattle.mmu_core.specs.machine.Outcomes.{answering}
use Rattle.mmu_core.specs.machine.Steps.{beginning, events_of, has_line, place_at}
use Rattle.mmu_core.specs.machine.Turns.{line_of, outcome_of}
use Rattle.mmu_core.specs.machine.Worlds.{history}
use Rattle.mmu_core.proofs.machine.LineRuns.{own_hand}
use Rattle.mmu_core.proofs.machine.Which.{events_of_line, next_of_part}
use Rattle.turn_loops.specs.Replays.{EachRunsAlone, RunsAlone}
use Rattle.turn_loops.specs.Turning.{AnswersLine, EndsWithAnswer, HasLineLeft, HasNoLineLeft, is_ended}
use Rattle.weave_laws.proofs.SameSteps.{absurd_left, one_step, same_cons}

-- ---- how many lines are answered

-- how many lines these steps answer
abbrev pub answers_in : World Held → List (Step Kind) → ℕ
answers_in w ss = length (answers_of (history w ss))

-- how many lines this step answers
abbrev answers_by : World Held → Step Kind → ℕ
answers_by w s = length (answers_of (events_of (hand_in mmu w s.actor) (answered mmu w s.kind)))

counted_both : (xs ys : List Event) → length (answers_of (xs ++ ys)) ≡ length (answers_of xs) + length (answers_of ys)
counted_both xs ys = ap (λ (l : List AnsweredLine). length l) (answers_append xs ys) ∙ length-append (answers_of xs) (answers_of ys)

one_more : (w : World Held) (s : Step Kind) (ss : List (Step Kind)) → answers_in w (s ∷ ss) ≡ answers_by w s + answers_in (effect mmu w s) ss
one_more w s ss = counted_both (events_of (hand_in mmu w s.actor) (answered mmu w s.kind)) (history (effect mmu w s) ss)

-- the events of these kinds, of an actor
abbrev events : Actor → List EventKind → List Event
events actor kinds = map (λ kind. record { actor = actor; kind = kind }) kinds

no_fewer : (actor : Actor) (xs ys : List EventKind) → length (answers_of (events actor ys)) ≤ length (answers_of (events actor (xs ++ ys)))
no_fewer actor [] ys = omega arith
no_fewer actor (x ∷ xs) ys = by x (no_fewer actor xs ys)
  where
    by : (kind : EventKind) → length (answers_of (events actor ys)) ≤ length (answers_of (events actor (xs ++ ys)))
        → length (answers_of (events actor ys)) ≤ length (or_answered actor kind (answers_of (events actor (xs ++ ys))))
    by (Answered line answer) le = omega (arith, le)
    by _ le = le

ended_one : (actor : Actor) (line : Line) (o : Outcome) → is_ended o ≡ true → 1 ≤ length (answers_of (events actor (answering o line)))
ended_one actor line (Goes p) ended = absurd (cc ended)
ended_one actor line (Ends answer) ended = omega arith

-- A step that answers its line answers one at least.
answers_one : (w : World Held) (s : Step Kind) → AnswersLine w s → 1 ≤ answers_by w s
answers_one w s A =
    let told : answers_by w s ≡ length (answers_of (events h.state.actor (beginning h.state.place (line_of h) ++ (tells_at (place_at h.state.place h)
    (line_of h).command h v ++ answering (outcome_of h v) (line_of h))))) = ap (λ (es : List Event). length (answers_of es)) (events_of_line h v A.left) in
    let one = ended_one h.state.actor (line_of h) (outcome_of h v) A.ends in
    let first = no_fewer h.state.actor (tells_at (place_at h.state.place h) (line_of h).command h v) (answering (outcome_of h v) (line_of h)) in
    let more =
    no_fewer h.state.actor (beginning h.state.place (line_of h))
    (tells_at (place_at h.state.place h) (line_of h).command h v ++ answering (outcome_of h v) (line_of h)) in
    omega (arith, told, one, first, more)
  where
    h : Held
    h = hand_in mmu w s.actor

    v : ℕ
    v = answered mmu w s.kind

-- ---- the last step answers its line

abbrev pub LastAnswers : World Held → List (Step Kind) → Type 0
LastAnswers w [] = ⊥
LastAnswers w (s ∷ []) = AnswersLine w s
LastAnswers w (s ∷ t ∷ ss) = LastAnswers (effect mmu w s) (t ∷ ss)

later_answers : (w : World Held) (s : Step Kind) (ss : List (Step Kind)) → LastAnswers (effect mmu w s) ss → LastAnswers w (s ∷ ss)
later_answers w s [] none = absurd none
later_answers w s (t ∷ ss) last = last

pub last_of : (w : World Held) (front : List (Step Kind)) (last : Step Kind) → AnswersLine (run mmu w front) last → LastAnswers w (front ++ last ∷ [])
last_of w [] last A = A
last_of w (s ∷ front) last A = later_answers w s (front ++ last ∷ []) (last_of (effect mmu w s) front last A)

last_answers : (w : World Held) (ss : List (Step Kind)) → EndsWithAnswer w ss → LastAnswers w ss
last_answers w ss E = subst (LastAnswers w) (sym E.are) (last_of w E.before E.last E.answers)

some_answered : (w : World Held) (ss : List (Step Kind)) → LastAnswers w ss → 1 ≤ answers_in w ss
some_answered w [] none = absurd none
some_answered w (s ∷ []) A = let one = answers_one w s A in let more = one_more w s [] in omega (arith, one, more)
some_answered w (s ∷ t ∷ ss) last =
    let rest = some_answered (effect mmu w s) (t ∷ ss) last in let more = one_more w s (t ∷ ss) in omega (arith, rest, more)

-- ---- a line alone

-- The steps of one actor may be made, the last one answers its line, and they answer no more lines than one.
pub record AreOneLine (actor : ℕ) (w : World Held) (ss : List (Step Kind)) : Type 0 where
  pub own : All (λ s. s.actor ≡ actor) ss
  pub legal : Legal mmu w ss
  pub last : LastAnswers w ss
  pub few : answers_in w ss ≤ 1

later_line : (actor : ℕ) (w : World Held) (s t : Step Kind) (ss : List (Step Kind)) → AreOneLine actor w (s ∷ t ∷ ss)
    → AreOneLine actor (effect mmu w s) (t ∷ ss)
later_line actor w s t ss A = record {
  own = All-tail (λ (x : Step Kind). x.actor ≡ actor) s (t ∷ ss) A.own;
  legal = A.legal.1;
  last = A.last;
  few = let few = A.few in let more = one_more w s (t ∷ ss) in omega (arith, few, more);
}

-- A hand with no line left gets none.
no_line_stays : (w : World Held) (s : Step Kind) → May mmu w s → HasNoLineLeft s.actor w → HasNoLineLeft s.actor (effect mmu w s)
no_line_stays w s may none =
    let h : Held = hand_in mmu w s.actor in
    ap (λ (g : Held). has_line g) (own_hand w s may.there ∙ next_of_part h s.kind (answered mmu w s.kind) none) ∙ none

left_first : (actor : ℕ) (w : World Held) (s : Step Kind) (ss : List (Step Kind)) → AreOneLine actor w (s ∷ ss) → HasLineLeft actor w
left_first actor w s [] A = subst (λ n. HasLineLeft n w) (All-head (λ (x : Step Kind). x.actor ≡ actor) s [] A.own) A.last.left
left_first actor w s (t ∷ ss) A =
    by (left_first actor (effect mmu w s) t ss (later_line actor w s t ss A)) (cases_Bool (has_line (hand_in mmu w actor)))
  where
    own : s.actor ≡ actor
    own = All-head (λ (x : Step Kind). x.actor ≡ actor) s (t ∷ ss) A.own

    by : HasLineLeft actor (effect mmu w s) → (has_line (hand_in mmu w actor) ≡ true) ⊎ (has_line (hand_in mmu w actor) ≡ false) → HasLineLeft actor w
    by left (inl has) = has
    by left (inr none) =
        absurd (absurd_left (effect mmu w s) actor left (subst (λ n. HasNoLineLeft n (effect mmu w s)) own (no_line_stays w s A.legal.0
        (subst (λ n. HasNoLineLeft n w) (sym own) none))))

-- After the step that answers its line none is made.
none_after : (actor : ℕ) (w : World Held) (s t : Step Kind) (ss : List (Step Kind)) → AnswersLine w s → AreOneLine actor w (s ∷ t ∷ ss) → ⊥
none_after actor w s t ss answers A =
    let one = answers_one w s answers in
    let rest = some_answered (effect mmu w s) (t ∷ ss) A.last in
    let more = one_more w s (t ∷ ss) in
    let few = A.few in
    omega (arith, one, rest, more, few)

pub same_line : (actor : ℕ) (w : World Held) (ss ts : List (Step Kind)) → AreOneLine actor w ss → AreOneLine actor w ts → ss ≡ ts
same_line actor w [] ts A B = absurd A.last
same_line actor w (s ∷ ss) [] A B = absurd B.last
same_line actor w (s ∷ ss) (t ∷ ts) A B = same_cons s t ss ts e (by ss ts (same_line actor (effect mmu w s) ss ts) A B)
  where
    e : s ≡ t
    e =
        one_step w actor s t (All-head (λ (x : Step Kind). x.actor ≡ actor) s ss A.own) (All-head (λ (x : Step Kind). x.actor ≡ actor) t ts B.own)
        (left_first actor w s ss A) A.legal.0 B.legal.0

    by : (xs ys : List (Step Kind)) → (AreOneLine actor (effect mmu w s) xs → AreOneLine actor (effect mmu w s) ys → xs ≡ ys)
        → AreOneLine actor w (s ∷ xs) → AreOneLine actor w (t ∷ ys) → xs ≡ ys
    by [] [] later A B = refl
    by [] (y ∷ ys) later A B = absurd (none_after actor w t y ys (subst (AnswersLine w) e A.last) B)
    by (x ∷ xs) [] later A B = absurd (none_after actor w s x xs (subst (AnswersLine w) (sym e) B.last) A)
    by (x ∷ xs) (y ∷ ys) later A B =
        later (later_line actor w s x xs A)
        (subst (λ (u : World Held). AreOneLine actor u (y ∷ ys)) (ap (effect mmu w) (sym e)) (later_line actor w t y ys B))

pub one_line : (z : Sizes) (actor : ℕ) (line : Line) (answer : Answer) (ss : List (Step Kind)) (w : World Held) → RunsAlone z actor line answer ss w
    → AreOneLine actor w ss
one_line z actor line answer ss w ran = record {
  own = ran.own;
  legal = ran.runs.legal;
  last = last_answers w ss ran.last;
  few = let count = ap (λ (l : List AnsweredLine). length l) ran.runs.answers in omega (arith, count);
}

-- ---- lines one after another

pub same_lines : (z : Sizes) (lines : List Line) (w : World Held) (ss ts : List (Step Kind)) → EachRunsAlone z w lines ss → EachRunsAlone z w lines ts
    → ss ≡ ts
same_lines z [] w ss ts none other = none ∙ sym other
same_lines z (line ∷ lines) w ss ts (own, rest, answer, are, ran, each) (mine, left, given, is, made, all) =
    are ∙ (λ i. same i ++ same_rest (same_lines z lines (run mmu w own) rest left) i) ∙ sym is
  where
    actor : ℕ
    actor = index_of z line.actor

    same : own ≡ mine
    same = same_line actor w own mine (one_line z actor line answer own w ran) (one_line z actor line given mine w made)

    same_rest : (EachRunsAlone z (run mmu w own) lines rest → EachRunsAlone z (run mmu w own) lines left → rest ≡ left) → rest ≡ left
    same_rest by = by each (subst (λ (x : World Held). EachRunsAlone z x lines left) (ap (run mmu w) (sym same)) all)
