-- A line whose turn it is, while all actors rest, goes through to its answer.
use Rattle.std.proofs.Common.{◌≡◌, ◌⊎◌, inl, inr, ◌<◌, ◌≤◌, ℕ, zero, suc, List, [], ◌∷◌, length, refl, sym, subst, arith}
use Rattle.std.proofs.lemmas.Bool.{cases_Bool}
use Rattle.std.specs.Prelude.{Some, true, false}
use Rattle.core_views.specs.declared.answer.Answer.{Answer}
use Rattle.core_views.specs.declared.sizes.Sizes.{Sizes}
use Rattle.core_views.specs.declared.trace.Line.{Line}
use Rattle.core_views.specs.Held.{Held, line_of as line_in, next_line}
use Rattle.core_views.specs.Text.{text}
use Rattle.mmu_core.specs.alone.LineAlone.{hand_left}
use Rattle.mmu_core.specs.invariant.Laws.{IsSound}
use Rattle.mmu_core.specs.machine.Enabled.{mmu}
use Rattle.mmu_core.specs.machine.Machine.{World, effect, hand_in, run}
use Rattle.mmu_core.specs.machine.NextSteps.{next_step}
use Rattle.mmu_core.specs.machine.Worlds.{history}
use Rattle.mmu_core.proofs.machine.Which.{has_line_is}
use Rattle.mmu_laws.proofs.steps.CanStep.{may_step}
use Rattle.turn_loops.specs.Marks.{Mark}
use Rattle.turn_loops.specs.Replays.{RanOn}
use Rattle.turn_loops.specs.Turned.{MakesTurn}
use Rattle.turn_loops.specs.Turning.{stops}
use Rattle.turn_loops.proofs.TurnsAlone.{ComesAlone, NextAlone, RanAll, comes_none, ends_alone, goes_alone, line_left}

-- nothing is asked of the marks of its turns
abbrev Any : List Mark → Type 0
Any marks = Unit {0}

module _ (z : Sizes) (line : Line) (actor : ℕ) (w : World Held) (N : NextAlone z line actor w) where
  sound_at : (t : World Held) → ComesAlone Any line actor w t → IsSound z t
  sound_at t F =
      let here : run mmu F.part.before F.part.steps ≡ t =
      (let e : Some t ≡ Some (run mmu F.part.before F.part.steps) = F.part.ends in sym (cc e)) in
      subst (IsSound z) here
      (subst (λ (y : Sizes). IsSound y (run mmu F.part.before F.part.steps)) ((N.alone.sound.holds.lines actor N.alone.there).sizes) F.part.alone.sound)

  makes : (t : World Held) → ComesAlone Any line actor w t
      → MakesTurn actor t (effect mmu t (next_step z t actor)) (stops t (next_step z t actor)) (text (history t (next_step z t actor ∷ [])))
  makes t F = record {
    step = next_step z t actor;
    turn = record { own = refl; left = has_line_is (hand_in mmu t actor) (line_left Any line actor w t F) };
    stops_ = refl;
    comes = record { legal = (may_step z t actor (sound_at t F) N.alone.there (line_left Any line actor w t F), tt); ends = refl; prints = refl };
  }

  -- It has run to an answer.
  abbrev pub Ran : Type 0
  Ran = (answer : Answer) × (u : World Held) × RanOn z line answer actor w u

  -- One step more answers it, or leaves fewer.
  ends_or : (t : World Held) → ComesAlone Any line actor w t → (ComesAlone Any line actor w (effect mmu t (next_step z t actor))
      → hand_left (hand_in mmu (effect mmu t (next_step z t actor)) actor) < hand_left (hand_in mmu t actor) → Ran) → Ran
  ends_or t F on = by (cases_Bool (stops t (next_step z t actor)))
    where
      u : World Held
      u = effect mmu t (next_step z t actor)

      bytes : List ℕ
      bytes = text (history t (next_step z t actor ∷ []))

      by : (stops t (next_step z t actor) ≡ true) ⊎ (stops t (next_step z t actor) ≡ false) → Ran
      by (inl ended) =
          let R : RanAll Any z line actor w u =
          ends_alone Any Any z line actor w t u N F (stops t (next_step z t actor)) bytes (makes t F) (λ marks so. tt) ended in
          (R.0, u, R.1)
      by (inr goes) =
          let G = goes_alone Any Any z line actor w t u N F (stops t (next_step z t actor)) bytes (makes t F) (λ marks so. tt) goes in on G.0 G.2

  runs_on : (fuel : ℕ) (t : World Held) → ComesAlone Any line actor w t → hand_left (hand_in mmu t actor) ≤ fuel → Ran
  runs_on zero t F le = ends_or t F (λ G few. absurd (omega (arith, few, le)))
  runs_on (suc fuel) t F le = ends_or t F (λ G few. runs_on fuel (effect mmu t (next_step z t actor)) G (omega (arith, few, le)))

  pub goes_through : Ran
  goes_through = runs_on (hand_left (hand_in mmu w actor)) w (comes_none Any z line actor w N tt).0 (omega arith)
