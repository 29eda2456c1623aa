-- What a turn answers, by the answers in the hand before and after its step.
use Rattle.std.proofs.Common.{◌≡◌, ◌≤◌, ◌<◌, ℕ, List, [], ◌∷◌, length, get_or, refl, ap, ◌∙◌, arith, length-append}
use Rattle.std.proofs.Math.Seq.{get_or-append_seam}
use Rattle.core_views.specs.declared.answer.AnsweredLine.{AnsweredLine}
use Rattle.core_views.specs.declared.kind.Kind.{Kind}
use Rattle.core_views.specs.declared.trace.Line.{Line}
use Rattle.core_views.specs.Held.{Held}
use Rattle.mmu_core.specs.declared.outcome.Outcome.{Outcome}
use Rattle.mmu_core.specs.declared.outcome.Outcome.TheVariants.{Goes, Ends}
use Rattle.mmu_core.specs.machine.Steps.{next}
use Rattle.mmu_core.specs.machine.Outcomes.{answers_after}
use Rattle.mmu_core.specs.machine.Turns.{line_of, outcome_of, with_answer}
use Rattle.mmu_core.proofs.machine.Which.{has_line_is, next_of_line}
use Rattle.step_seats.specs.declared.turn.Turn.TheVariants.{More, Done}
use Rattle.step_seats.specs.LineTurns.{turn_of}

next_answers : (h : Held) (k : Kind) (v : ℕ) → length h.answers < length h.lines → (next h k v).answers ≡ answers_after (outcome_of h v) (line_of h) h.answers
next_answers h k v left = ap (λ (g : Held). g.answers) (next_of_line h k v (has_line_is h left))

-- one answer more stands there
answered_by : (o : Outcome) (line : Line) (xs ys : List AnsweredLine) (x : AnsweredLine) → ys ≡ answers_after o line xs → length xs < length ys
    → x ≡ get_or ys (length xs) x → Done x.answer ≡ turn_of o
answered_by (Goes p) line xs ys x is more seen = absurd (omega (arith, ap length is))
answered_by (Ends answer) line xs ys x is more seen =
    ap (λ (y : AnsweredLine). Done y.answer)
    (seen ∙ ap (λ (zs : List AnsweredLine). get_or zs (length xs) x) is ∙ get_or-append_seam xs (with_answer line answer) [] x)

-- no answer more stands there
unanswered_by : (o : Outcome) (line : Line) (xs ys : List AnsweredLine) → ys ≡ answers_after o line xs → length ys ≤ length xs → More ≡ turn_of o
unanswered_by (Goes p) line xs ys is few = refl
unanswered_by (Ends answer) line xs ys is few = absurd (omega (arith, ap length is, length-append xs (with_answer line answer ∷ [])))

pub turn_is_done : (h g : Held) (k : Kind) (v i : ℕ) (seen : List AnsweredLine) (x : AnsweredLine) → length h.answers < length h.lines
    → g ≡ next h k v → seen ≡ g.answers → i ≡ length h.answers → i < length seen → x ≡ get_or seen i x → Done x.answer ≡ turn_of (outcome_of h v)
turn_is_done h g k v i seen x left hand answers at below is =
    answered_by (outcome_of h v) (line_of h) h.answers seen x (answers ∙ ap (λ (e : Held). e.answers) hand ∙ next_answers h k v left) (omega arith)
    (is ∙ ap (λ (j : ℕ). get_or seen j x) at)

pub turn_is_more : (h g : Held) (k : Kind) (v i : ℕ) (seen : List AnsweredLine) → length h.answers < length h.lines → g ≡ next h k v
    → seen ≡ g.answers → i ≡ length h.answers → length seen ≤ i → More ≡ turn_of (outcome_of h v)
turn_is_more h g k v i seen left hand answers at few =
    unanswered_by (outcome_of h v) (line_of h) h.answers seen (answers ∙ ap (λ (e : Held). e.answers) hand ∙ next_answers h k v left) (omega arith)
