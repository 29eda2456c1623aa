-- The turns of one line, by computation: so many, and the one that answers it.
use Rattle.std.proofs.Common.{◌≡◌, ◌≤◌, ℕ, zero, suc, List, [], ◌∷◌, ◌++◌, length, refl, sym, subst, ap, ◌∙◌, arith}
use Rattle.std.proofs.lemmas.Bool.Decides.{nat_tests}
use Rattle.std.proofs.lemmas.List.Elements.{All-cons, All-nil}
use Rattle.std.specs.Prelude.{All, Bool, true, ◌&&◌, nat_le}
use Rattle.core_views.specs.declared.event.Event.{Event}
use Rattle.core_views.specs.declared.kind.Kind.{Kind}
use Rattle.core_views.specs.declared.sizes.Sizes.{Sizes}
use Rattle.core_views.specs.Held.{Held}
use Rattle.core_views.specs.Text.{answers_of}
use Rattle.mmu_core.specs.invariant.Laws.{IsSound}
use Rattle.mmu_core.specs.machine.Enabled.{mmu}
use Rattle.mmu_core.specs.machine.Machine.{Legal, Step, World, effect, hand_in, run}
use Rattle.mmu_core.specs.machine.NextSteps.{next_step}
use Rattle.mmu_core.specs.machine.Steps.{task_of}
use Rattle.mmu_core.specs.machine.Turns.{outcome_of}
use Rattle.mmu_core.specs.machine.View.{View, answer_in, view}
use Rattle.mmu_core.specs.machine.Worlds.{history}
use Rattle.mmu_laws.specs.steps.ExampleRaces.{in_turn}
use Rattle.mmu_laws.specs.steps.ExampleSteps.{turns_of}
use Rattle.mmu_laws.proofs.steps.FoldedRuns.{all_fold, fits_all, leads_all, steps_of, tells_all, turns}
use Rattle.mmu_laws.proofs.steps.ViewRuns.{HaveLines, Runs, both, have_lines, have_lines_by, run_on, tale, turned, turns_are, turns_lead}
use Rattle.turn_loops.specs.Turning.{AnswersLine, is_ended}
use Rattle.weave_laws.proofs.OrderRuns.{have_parts, one_turn, turns_both}
use Rattle.weave_laws.proofs.SameLines.{AreOneLine, LastAnswers, last_of}

-- ---- turns of one actor

-- Each of them is of this actor.
abbrev pub AreOnly : ℕ → List ℕ → Type 0
AreOnly a [] = Unit {0}
AreOnly a (b ∷ bs) = (b ≡ a) × AreOnly a bs

pub only_turns : (a n : ℕ) → AreOnly a (in_turn n (a ∷ []))
only_turns a zero = tt
only_turns a (suc n) = (refl, only_turns a n)

pub only_both : (a : ℕ) (xs ys : List ℕ) → AreOnly a xs → AreOnly a ys → AreOnly a (xs ++ ys)
only_both a [] ys first more = more
only_both a (x ∷ xs) ys first more = (first.0, only_both a xs ys first.1 more)

own_steps : (z : Sizes) (w : World Held) (a : ℕ) (actors : List ℕ) → AreOnly a actors → All (λ s. s.actor ≡ a) (turns_of z w actors)
own_steps z w a [] only = All-nil (λ (s : Step Kind). s.actor ≡ a)
own_steps z w a (b ∷ bs) only =
    let s : Step Kind = next_step z w b in
    All-cons (λ (s : Step Kind). s.actor ≡ a) s (turns_of z (effect mmu w s) bs) only.0 (own_steps z (effect mmu w s) a bs only.1)

-- ---- a line

-- the turns of a line, so many and the one that answers it
abbrev pub line_order : ℕ → ℕ → List ℕ
line_order a n = turns (steps_of n a ∷ []) ++ a ∷ []

-- the words and hands before that turn, and after it; and what the turns tell
abbrev before_last : ℕ → ℕ → View → View
before_last a n v = leads_all (steps_of n a ∷ []) v

abbrev pub line_lead : ℕ → ℕ → View → View
line_lead a n v = turned (before_last a n v) a

abbrev pub line_tale : ℕ → ℕ → View → List Event
line_tale a n v = tells_all (steps_of n a ∷ []) v ++ tale (before_last a n v) (a ∷ [])

-- The actor's next turn answers its line.
abbrev turn_answers : View → ℕ → Bool
turn_answers v a = is_ended (outcome_of (v.hand a) (answer_in (task_of (v.hand a)) v.words))

-- The turns can be made, and the last one answers the line, and it alone.
abbrev pub line_fits : Sizes → ℕ → ℕ → View → Bool
line_fits z a n v =
    (fits_all z (steps_of n a ∷ []) v && have_lines z (before_last a n v) (a ∷ []))
    && (turn_answers (before_last a n v) a && nat_le (length (answers_of (line_tale a n v))) 1)

pub record LineMade (z : Sizes) (w : World Held) (a n : ℕ) : Type 0 where
  pub have : HaveLines z (view z w) (line_order a n)
  pub leads : ◌≡◌ {A = View} (view z (run mmu w (turns_of z w (line_order a n)))) (line_lead a n (view z w))
  pub told : history w (turns_of z w (line_order a n)) ≡ line_tale a n (view z w)
  pub one : AreOneLine a w (turns_of z w (line_order a n))

within : (m n : ℕ) → nat_le m n ≡ true → m ≤ n
within m n e = grind (arith, nat_tests)

pub line_made : (z : Sizes) (w : World Held) (a n : ℕ) → IsSound z w → line_fits z a n (view z w) ≡ true → LineMade z w a n
line_made z w a n G fits = record {
  have = R.have;
  leads = turns_lead z w order G R.have ∙ R.leads;
  told = made.1 ∙ R.tells_them;
  one = record {
    own = own_steps z w a order (only_both a front (a ∷ []) only (refl, tt));
    legal = made.0;
    last = subst (LastAnswers w) (sym (turns_both z w front (a ∷ []))) (last_of w (turns_of z w front) (next_step z t a) answers);
    few = subst (λ (es : List Event). length (answers_of es) ≤ 1) (sym (made.1 ∙ R.tells_them))
        (within (length (answers_of (line_tale a n v))) 1 last.1);
  };
}
  where
    v : View
    v = view z w

    front : List ℕ
    front = turns (steps_of n a ∷ [])

    order : List ℕ
    order = line_order a n

    halves : ((fits_all z (steps_of n a ∷ []) v && have_lines z (before_last a n v) (a ∷ [])) ≡ true)
        × ((turn_answers (before_last a n v) a && nat_le (length (answers_of (line_tale a n v))) 1) ≡ true)
    halves =
        both (fits_all z (steps_of n a ∷ []) v && have_lines z (before_last a n v) (a ∷ []))
        (turn_answers (before_last a n v) a && nat_le (length (answers_of (line_tale a n v))) 1) fits

    first : (fits_all z (steps_of n a ∷ []) v ≡ true) × (have_lines z (before_last a n v) (a ∷ []) ≡ true)
    first = both (fits_all z (steps_of n a ∷ []) v) (have_lines z (before_last a n v) (a ∷ [])) halves.0

    last : (turn_answers (before_last a n v) a ≡ true) × (nat_le (length (answers_of (line_tale a n v))) 1 ≡ true)
    last = both (turn_answers (before_last a n v) a) (nat_le (length (answers_of (line_tale a n v))) 1) halves.1

    F : Runs z v front (before_last a n v) (tells_all (steps_of n a ∷ []) v)
    F = all_fold z (steps_of n a ∷ []) v first.0

    L : Runs z (before_last a n v) (a ∷ []) (line_lead a n v) (tale (before_last a n v) (a ∷ []))
    L = record { have = have_lines_by z (before_last a n v) (a ∷ []) first.1; leads = refl; tells_them = refl }

    R : Runs z v order (line_lead a n v) (line_tale a n v)
    R =
        run_on z v (before_last a n v) (line_lead a n v) front (a ∷ []) (tells_all (steps_of n a ∷ []) v) (tale (before_last a n v) (a ∷ [])) F L

    made : Legal mmu w (turns_of z w order) × (history w (turns_of z w order) ≡ tale v order)
    made = turns_are z w order G R.have

    only : AreOnly a front
    only = only_both a (in_turn n (a ∷ [])) [] (only_turns a n) tt

    t : World Held
    t = run mmu w (turns_of z w front)

    parts : HaveLines z v front × IsSound z t × HaveLines z (view z t) (a ∷ [])
    parts = have_parts z w front (a ∷ []) G R.have

    there : ◌≡◌ {A = View} (view z t) (before_last a n v)
    there = turns_lead z w front G parts.0 ∙ F.leads

    answers : AnswersLine t (next_step z t a)
    answers =
        let T = one_turn z t a [] parts.1 parts.2 in
        record {
          left = T.takes.has;
          ends = ap (λ k. is_ended (outcome_of (hand_in mmu t a) k)) T.takes.answers
              ∙ subst (λ (x : View). turn_answers x a ≡ true) (sym there) last.0;
        }
