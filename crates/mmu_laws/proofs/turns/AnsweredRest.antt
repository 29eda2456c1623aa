-- Where a step answers its line, its actor is at rest.
use Rattle.std.proofs.Common.{◌≡◌, ◌<◌, ℕ, refl, sym, subst, ap, ◌∙◌, arith}
use Rattle.std.specs.Prelude.{true}
use Rattle.core_views.specs.declared.answer.Answer.{Answer}
use Rattle.core_views.specs.declared.kind.Kind.{Kind}
use Rattle.core_views.specs.declared.place.Place.{Place}
use Rattle.core_views.specs.declared.place.Place.TheVariants as place
use Rattle.core_views.specs.declared.sizes.Sizes.{Sizes}
use Rattle.core_views.specs.declared.trace.Line.{Line}
use Rattle.core_views.specs.Held.{Held}
use Rattle.core_views.specs.Sizes.{actors_of}
use Rattle.part_steps.specs.PartSteps.{IsAtRest}
use Rattle.mmu_core.specs.declared.outcome.Outcome.{Outcome}
use Rattle.mmu_core.specs.declared.outcome.Outcome.TheVariants.{Ends}
use Rattle.mmu_core.specs.machine.Enabled.{mmu}
use Rattle.mmu_core.specs.lines.Forms.{may_retire, may_open, may_own_frame, outcome_at}
use Rattle.mmu_core.specs.invariant.Laws.{IsSound}
use Rattle.mmu_core.specs.machine.Machine.{May, Step, World, answered, effect, hand_in}
use Rattle.mmu_core.specs.alone.OthersRest.{HoldsNothing}
use Rattle.mmu_core.specs.machine.Outcomes.{place_after}
use Rattle.mmu_core.specs.machine.Steps.{has_line, line_at, place_at, task_at}
use Rattle.mmu_core.specs.machine.Turns.{outcome_of}
use Rattle.mmu_core.specs.machine.View.{View, answer_in, hand_after, view, word_in}
use Rattle.mmu_core.proofs.machine.Columns.{upd_same}
use Rattle.mmu_core.proofs.lines.KnowsKept.{KnowsBehind}
use Rattle.mmu_core.proofs.invariant.Kept.{line_knows}
use Rattle.mmu_core.proofs.machine.Which.{is_next}
use Rattle.mmu_core.proofs.machine.Worlds.{Takes, good_step, takes_line}

module _ (z : Sizes) (w : World Held) (s : Step Kind) (G : IsSound z w) (may : May mmu w s) (left : has_line (hand_in mmu w s.actor) ≡ true) where
  abbrev h : Held
  h = hand_in mmu w s.actor

  abbrev line : Line
  line = line_at h.state.place h

  abbrev stood : Place
  stood = place_at h.state.place h

  abbrev x : ℕ
  x = answer_in (task_at stood line.command h) (word_in z w)

  abbrev behind : Held
  behind = hand_after line line.command stood h x

  there : s.actor < actors_of z
  there = let few = may.there in let count = G.hands in omega (arith, few, count)

  taken : Takes z w s h
  taken = takes_line z w s G may (is_next h s.kind may.enabled left)

  hand_is : hand_in mmu (effect mmu w s) s.actor ≡ behind
  hand_is = ap (λ (v : View). v.hand s.actor) taken.leads ∙ upd_same (hand_in mmu w) s.actor behind

  -- the topics rest, and no page is retired where no line is under way
  rests_where : (o : Outcome) (answer : Answer) → outcome_at stood line.command h x ≡ o → o ≡ Ends answer → KnowsBehind o line.command behind
      → HoldsNothing (hand_in mmu (effect mmu w s) s.actor).topics
  rests_where o answer is ends knows =
      let stands : behind.state.place ≡ place.Between = ap place_after (is ∙ ends) in
      let L = (good_step z w s G may).holds.leaves s.actor there in
      record {
        rests = subst (λ (g : Held). IsAtRest g.topics) (sym hand_is) (subst (λ (p : Outcome). KnowsBehind p line.command behind) ends knows);
        retires_none = L.leaves (ap may_retire (ap (λ (g : Held). g.state.place) hand_is ∙ stands));
        opens_none = L.opens (ap may_open (ap (λ (g : Held). g.state.place) hand_is ∙ stands));
        owns_no_frame = L.frames (ap may_own_frame (ap (λ (g : Held). g.state.place) hand_is ∙ stands));
      }

  pub answered_rests : (answer : Answer) → outcome_of h (answered mmu w s.kind) ≡ Ends answer → HoldsNothing (hand_in mmu (effect mmu w s) s.actor).topics
  answered_rests answer ends =
      rests_where (outcome_at stood line.command h x) answer refl (ap (λ (n : ℕ). outcome_at stood line.command h n) (sym taken.answers) ∙ ends)
      (line_knows z (view z w) s.actor line line.command stood taken.is_step G.holds G.topics there)
