-- What a step of a part makes, from what an act says of it.
use Rattle.std.proofs.Common.{◌≡◌, ℕ, subst, ap, ◌∙◌}
use Rattle.std.specs.Prelude.{IfSome}
use Rattle.core_views.specs.declared.kind.Kind.{Kind}
use Rattle.core_views.specs.Held.{Held}
use Rattle.part_steps.specs.declared.part_step.PartStep.{PartStep}
use Rattle.mmu_core.specs.machine.MayMake.{MayMake}
use Rattle.part_steps.specs.PartTasks.{part_kind}
use Rattle.mmu_core.proofs.machine.NextTopics.{topics_behind}
use Rattle.step_seats.specs.Acts.{Acts}
use Rattle.step_seats.specs.PartTurns.{MadePart}
use Rattle.step_seats.specs.Seats.{Seat}
use Rattle.step_seats.specs.Where.{HasHand}

pub made_part : (step : PartStep) (note found : ℕ) (before after : Seat) (k : Kind) → k ≡ part_kind before.hand step note → MayMake step note before.hand
    → IfSome before.tells.world (HasHand before.actor before.hand) → Acts k found before after → MadePart step note found before after
made_part step note found before after k is may has acts =
    let A : Acts (part_kind before.hand step note) found before after = subst (λ (x : Kind). Acts x found before after) is acts in
    record {
      hand = A.hand;
      topics = ap (λ (h : Held). h.topics) A.hand ∙ topics_behind before.hand step note found may.needs;
      has = has;
      world = A.world;
      steps = A.steps;
      answers = A.answers;
    }
