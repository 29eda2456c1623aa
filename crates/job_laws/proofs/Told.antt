-- The worlds that seats tell are reached, and so are those that further steps lead to; and what is so of each reached world.
use Rattle.std.proofs.Common.{◌≡◌, ℕ, refl, sym, ap, ◌∙◌, subst}
use Rattle.std.specs.Prelude.{Option, Some, None, IfSome}
use Rattle.core_views.specs.declared.kind.Kind.{Kind}
use Rattle.core_views.specs.Held.{Held}
use Rattle.part_steps.specs.declared.part_step.PartStep.{PartStep}
use Rattle.part_steps.specs.PartTasks.{part_kind}
use Rattle.mmu_core.specs.machine.Enabled.{mmu}
use Rattle.mmu_core.specs.machine.Machine.{May, World, answered, effect}
use Rattle.mmu_core.specs.machine.Steps.{next}
use Rattle.step_seats.specs.Moves.{ToldBy, step_by}
use Rattle.step_seats.specs.PartTurns.{MadePart}
use Rattle.step_seats.specs.Seats.{Seat}
use Rattle.step_seats.specs.Where.{HasHand}
use Rattle.step_seats.proofs.Where.{has_after}

-- The world that is told after a step of a kind is what the step leads to from the one that is told before it.
pub record IsToldStep (kind : Kind) (found actor : ℕ) (before after : Held) (u w : World Held) : Type 0 where
  pub has : HasHand actor before u
  pub may : May mmu u (step_by actor kind)
  pub answer : answered mmu u kind ≡ found
  pub is : w ≡ effect mmu u (step_by actor kind)
  pub then : HasHand actor after w

pub told_step : (kind : Kind) (found actor : ℕ) (before after : Held) (u w : World Held) → HasHand actor before u
    → ToldBy (Some u) actor kind found (Some w) → after ≡ next before kind found → IsToldStep kind found actor before after u w
told_step kind found actor before after u w has T hand = record {
  has = has;
  may = T.0;
  answer = T.1;
  is = is;
  then = subst (HasHand actor after) (sym is)
      (has_after kind actor before after u (record { has = has; may = T.0; hand = hand ∙ ap (λ v. next before kind v) (sym T.1) }));
}
  where
    is : w ≡ effect mmu u (step_by actor kind)
    is = cc T.2

-- Where the world after the step of a part is told, so is the one before it.
pub record IsToldPart (step : PartStep) (note found : ℕ) (before after : Seat) (w : World Held) : Type 0 where
  pub world : World Held
  pub told : before.tells.world ≡ Some world
  pub step_is : IsToldStep (part_kind before.hand step note) found before.actor before.hand after.hand world w

pub told_part : (step : PartStep) (note found : ℕ) (before after : Seat) (w : World Held) → MadePart step note found before after
    → after.tells.world ≡ Some w → IsToldPart step note found before after w
told_part step note found before after w M told = by before.tells.world refl M.has M.world
  where
    by : (o : Option (World Held)) → before.tells.world ≡ o → IfSome o (HasHand before.actor before.hand)
        → ToldBy o before.actor (part_kind before.hand step note) found after.tells.world → IsToldPart step note found before after w
    by None is has T = absurd (cc (T, told))
    by (Some u) is has T = record {
      world = u;
      told = is;
      step_is = told_step (part_kind before.hand step note) found before.actor before.hand after.hand u w has
          (subst (λ x. ToldBy (Some u) before.actor (part_kind before.hand step note) found x) told T) M.hand;
    }
