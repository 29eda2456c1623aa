-- The turn that ends an invalidation comes after its number was raised once, and the count lowered once.
use Rattle.std.proofs.Common.{◌≡◌, ◌<◌, ◌+◌, ℕ, false, List, length, refl, sym, ap, ◌∙◌, subst}
use Rattle.std.proofs.Math.Logic.{∥∥₁_elim}
use Rattle.std.proofs.Props.{props}
use Rattle.std.specs.Prelude.{Some}
use Rattle.core_views.specs.declared.kind.Kind.{Kind}
use Rattle.core_views.specs.declared.place.EndPlace.{EndPlace}
use Rattle.core_views.specs.declared.place.EndPlace.TheVariants as ends
use Rattle.core_views.specs.declared.sizes.Sizes.{Sizes}
use Rattle.core_views.specs.declared.topics.Topics.{Topics}
use Rattle.core_views.specs.Held.{Held}
use Rattle.core_views.specs.Sizes.{actors_of}
use Rattle.spte_words.specs.declared.area.Area.TheVariants as area
use Rattle.part_steps.specs.declared.part_step.PartStep.TheVariants as part
use Rattle.part_steps.specs.PartTasks.{part_kind}
use Rattle.mmu_core.specs.invariant.Laws.{IsSound}
use Rattle.mmu_core.specs.machine.Enabled.{mmu}
use Rattle.mmu_core.specs.machine.Machine.{Legal, May, Step, World, effect, hand_in, run}
use Rattle.mmu_core.specs.machine.View.{word_in}
use Rattle.mmu_core.specs.machine.Worlds.{Reachable}
use Rattle.mmu_core.proofs.machine.Worlds.{good_run}
use Rattle.mmu_core.proofs.start.Starts.{reached_good}
use Rattle.step_seats.specs.Moves.{step_by}
use Rattle.step_seats.specs.PartTurns.{MadePart}
use Rattle.step_seats.specs.Seats.{Seat}
use Rattle.step_seats.specs.declared.turn.Turn.TheVariants.{Done}
use Rattle.range_notifier.specs.Notifying.{EndsAt, EndsNext, IsInEnd, TurnsEnd, end_at}
use Rattle.job_laws.specs.Ended.{EndsRaiseOnce, GotLockToEnd, HasEnded, HoldsOn}
use Rattle.job_laws.proofs.Told.{IsToldPart, told_part}
use Rattle.job_laws.proofs.EndSteps.{At, Closed_, Open_, Raised_, comes_run, own_on}

-- ---- the turn that is done

record IsDone (note : ℕ) (before after : Seat) (t : World Held) : Type 0 where
  found : ℕ
  made : MadePart part.Release note found before after
  told : IsToldPart part.Release note found before after t
  closed : before.hand.topics.invalidations.opened ≡ false

is_done : (note : ℕ) (before after : Seat) (t : World Held) → EndsNext note before.hand → TurnsEnd (Done tt) note before after
    → after.tells.world ≡ Some t → IsDone note before after t
is_done note before after t N T told = by N.at N.stands N.is_in (T N.at N.stands)
  where
    by : (p : EndPlace) → end_at before.hand.state.place ≡ Some p → IsInEnd p note before.hand → EndsAt p (Done tt) note before after
        → IsDone note before after t
    by ends.Release stands I E = record {
      found = E.step.found;
      made = E.step.made;
      told = told_part part.Release note E.step.found before after t E.step.made told;
      closed = I.knows.0.is;
    }
    by _ stands I E = absurd E.answers

module _ (note : ℕ) (before after : Seat) (w t : World Held) (ss : List (Step Kind)) (D : IsDone note before after t) (lt : before.actor < length w.hands)
    (legal : Legal mmu w ss) (world : before.tells.world ≡ Some (run mmu w ss)) (got : GotLockToEnd (hand_in mmu w before.actor).topics)
    (holds : HoldsOn w ss before.actor) where
  abbrev s : Step Kind
  s = step_by before.actor (part_kind before.hand part.Release note)

  same_world : D.told.world ≡ run mmu w ss
  same_world = let told = D.told.told in cc (told, world)

  closed : after.hand.topics.invalidations.opened ≡ false
  closed = ap (λ (x : Topics). x.invalidations.opened) D.made.topics ∙ D.closed

  record Ended (z : Sizes) : Type 0 where
    sizes : before.hand.state.sizes ≡ z
    raised : word_in z t area.Seq 0 ≡ word_in z w area.Seq 0 + 1
    lowered : word_in z t area.Count 0 + 1 ≡ word_in z w area.Count 0

  ended : (r : Reachable w) → Ended r.sizes
  ended r = record { sizes = sizes; raised = R.0; lowered = R.1 }
    where
      z : Sizes
      z = r.sizes

      u : World Held
      u = run mmu w ss

      G : IsSound z w
      G = reached_good w r

      there_ : before.actor < actors_of z
      there_ = subst (λ n. before.actor < n) G.hands lt

      U : IsSound z u
      U = good_run z w ss G legal

      hand_is : hand_in mmu u before.actor ≡ before.hand
      hand_is = ap (λ (x : World Held). hand_in mmu x before.actor) (sym same_world) ∙ D.told.step_is.has.is

      sizes : before.hand.state.sizes ≡ z
      sizes = ap (λ (x : Held). x.state.sizes) (sym hand_is) ∙ (U.holds.lines before.actor there_).sizes

      may : May mmu u s
      may = subst (λ (x : World Held). May mmu x s) same_world D.told.step_is.may

      is_after : t ≡ effect mmu u s
      is_after = D.told.step_is.is ∙ ap (λ (x : World Held). effect mmu x s) same_world

      after_is : hand_in mmu (effect mmu u s) before.actor ≡ after.hand
      after_is = ap (λ (x : World Held). hand_in mmu x before.actor) (sym is_after) ∙ D.told.step_is.then.is

      at : At (word_in z w area.Seq 0) (word_in z w area.Count 0) after.hand.topics (word_in z t)
      at =
          subst (λ (x : World Held). At (word_in z w area.Seq 0) (word_in z w area.Count 0) after.hand.topics (word_in z x)) (sym is_after)
          (subst (λ (x : Held). At (word_in z w area.Seq 0) (word_in z w area.Count 0) x.topics (word_in z (effect mmu u s))) after_is
          (own_on (word_in z w area.Seq 0) (word_in z w area.Count 0) z u s U may
          (λ was. ap (λ (x : Held). x.topics.invalidations.opened) after_is ∙ closed)
          (comes_run (word_in z w area.Seq 0) (word_in z w area.Count 0) z w ss before.actor G legal there_ got.alone holds
          (Open_ got.opened got.unraised refl refl))))

      R : (word_in z t area.Seq 0 ≡ word_in z w area.Seq 0 + 1) × (word_in z t area.Count 0 + 1 ≡ word_in z w area.Count 0)
      R = by at
        where
          by : At (word_in z w area.Seq 0) (word_in z w area.Count 0) after.hand.topics (word_in z t)
              → (word_in z t area.Seq 0 ≡ word_in z w area.Seq 0 + 1) × (word_in z t area.Count 0 + 1 ≡ word_in z w area.Count 0)
          by (Open_ opened raised seq count) = absurd (cc (opened, closed))
          by (Raised_ opened raised seq count) = absurd (cc (opened, closed))
          by (Closed_ none seq count) = (seq, count)

  has_ended : ∥ Reachable w ∥₁ → HasEnded before.hand.state.sizes after.hand w t
  has_ended reached = record {
    closed = closed;
    loose = ap (λ (x : Topics). x.hold) D.made.topics;
    raised = ∥∥₁_elim reached (hlevel props) (λ r. let E = ended r in
        subst (λ (z : Sizes). word_in z t area.Seq 0 ≡ word_in z w area.Seq 0 + 1) (sym E.sizes) E.raised);
    lowered = ∥∥₁_elim reached (hlevel props) (λ r. let E = ended r in
        subst (λ (z : Sizes). word_in z t area.Count 0 + 1 ≡ word_in z w area.Count 0) (sym E.sizes) E.lowered);
  }

pub ends_raise_once : EndsRaiseOnce
ends_raise_once note before after w t ss N T reached lt legal world told got holds =
    has_ended note before after w t ss (is_done note before after t N T told) lt legal world got holds reached
