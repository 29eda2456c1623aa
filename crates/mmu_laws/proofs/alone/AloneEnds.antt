-- A line that runs while all other actors rest can be run to its answer, in no more steps than it has left.
use Rattle.std.proofs.Common.{◌≡◌, ◌+◌, ◌<◌, ◌≤◌, ℕ, zero, suc, List, [], ◌∷◌, length, refl, ap, ◌∙◌, arith, length-append}
use Rattle.std.proofs.lemmas.List.Elements.{All-cons, All-nil}
use Rattle.core_views.specs.declared.answer.AnsweredLine.{AnsweredLine}
use Rattle.core_views.specs.declared.kind.Kind.{Kind}
use Rattle.core_views.specs.declared.sizes.Sizes.{Sizes}
use Rattle.core_views.specs.Held.{Held}
use Rattle.mmu_core.specs.declared.outcome.Outcome.{Outcome}
use Rattle.mmu_core.specs.declared.outcome.Outcome.TheVariants.{Goes, Ends}
use Rattle.mmu_core.specs.machine.Enabled.{mmu}
use Rattle.mmu_core.specs.machine.NextSteps.{next_step}
use Rattle.mmu_core.specs.alone.LineAlone.{ComesNearer, EndsAlone, LineAlone, hand_left}
use Rattle.mmu_core.specs.machine.Machine.{May, Step, World, answered, effect, hand_in}
use Rattle.mmu_core.specs.machine.Steps.{held_after, line_at, place_at}
use Rattle.mmu_core.specs.machine.Outcomes.{answers_after}
use Rattle.mmu_core.specs.machine.Turns.{line_of, outcome_of, with_answer}
use Rattle.mmu_core.proofs.invariant.HandLeft.{hand_some}
use Rattle.mmu_laws.proofs.alone.AloneRuns.{steps_alone}
use Rattle.mmu_laws.proofs.steps.CanStep.{may_step}
use Rattle.mmu_core.proofs.machine.LineRuns.{own_hand}
use Rattle.mmu_core.proofs.machine.Which.{has_line_is, next_of_line}

module _ (z : Sizes) (w : World Held) (a : ℕ) (L : LineAlone z w a) where
  abbrev h : Held
  h = hand_in mmu w a

  abbrev step : Step Kind
  step = next_step z w a

  abbrev after : World Held
  after = effect mmu w step

  abbrev v : ℕ
  v = answered mmu w step.kind

  may : May mmu w step
  may = may_step z w a L.sound L.there L.left

  hand_is : hand_in mmu after a ≡ held_after (line_at h.state.place h) (place_at h.state.place h) h step.kind v
  hand_is = own_hand w step may.there ∙ next_of_line h step.kind v (has_line_is h L.left)

  answers_are : (o : Outcome) → outcome_of h v ≡ o → (hand_in mmu after a).answers ≡ answers_after o (line_of h) h.answers
  answers_are o is = ap (λ (g : Held). g.answers) hand_is ∙ ap (λ (p : Outcome). answers_after p (line_of h) h.answers) is

  ends_on : (o : Outcome) → outcome_of h v ≡ o → ComesNearer o z a w after
      → ((u : World Held) → hand_left (hand_in mmu u a) < hand_left h → LineAlone z u a → EndsAlone z u a) → EndsAlone z w a
  ends_on (Goes p) is N further =
      let same : (hand_in mmu after a).answers ≡ h.answers = answers_are (Goes p) is in
      let E : EndsAlone z after a = further after N.1 N.0 in
      record {
        steps = step ∷ E.steps;
        own = All-cons (λ s. s.actor ≡ a) step E.steps refl E.own;
        few = let few = E.few in let less = N.1 in omega (arith, few, less);
        legal = (may, E.legal);
        answered = E.answered ∙ ap (λ (xs : List AnsweredLine). length xs + 1) same;
        sound = E.sound;
        rest = E.rest;
      }
  ends_on (Ends answer) is N further = record {
    steps = step ∷ [];
    own = All-cons (λ s. s.actor ≡ a) step [] refl (All-nil (λ s. s.actor ≡ a));
    few = let some = hand_some h in omega (arith, some);
    legal = (may, tt);
    answered = ap (λ (xs : List AnsweredLine). length xs) (answers_are (Ends answer) is) ∙ length-append h.answers (with_answer (line_of h) answer ∷ []);
    sound = N.0;
    rest = N.1;
  }

ends_by : (n : ℕ) (z : Sizes) (w : World Held) (a : ℕ) → hand_left (hand_in mmu w a) ≤ n → LineAlone z w a → EndsAlone z w a
ends_by zero z w a le L = let some = hand_some (hand_in mmu w a) in absurd (omega (arith, le, some))
ends_by (suc n) z w a le L =
    ends_on z w a L (outcome_of (hand_in mmu w a) (answered mmu w (next_step z w a).kind)) refl
    (steps_alone z w (next_step z w a) L (may z w a L)).nearer (λ u less M. ends_by n z u a (omega (arith, le, less)) M)

pub ends_alone : (z : Sizes) (w : World Held) (a : ℕ) → LineAlone z w a → EndsAlone z w a
ends_alone z w a L = ends_by (hand_left (hand_in mmu w a)) z w a (omega arith) L
