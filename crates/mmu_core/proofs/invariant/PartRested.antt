-- What the steps of the parts rest on holds of every hand that some world has; with it, a hand with no line left may make each step that it holds the
-- needs of and that isn't one of lines alone.
use Rattle.std.proofs.Common.{◌≡◌, inr, ◌<◌, ℕ, refl, subst}
use Rattle.std.specs.Prelude.{false}
use Rattle.std.proofs.Math.Logic.{∥∥₁_elim}
use Rattle.core_views.specs.declared.sizes.Sizes.{Sizes}
use Rattle.core_views.specs.Held.{Held}
use Rattle.core_views.specs.Sizes.{actors_of}
use Rattle.part_steps.specs.declared.part_step.PartStep.{PartStep}
use Rattle.mmu_core.specs.machine.Enabled.{Enabled, IsPartStep, mmu}
use Rattle.mmu_core.specs.invariant.Laws.{IsSound}
use Rattle.mmu_core.specs.machine.Machine.{World, hand_in}
use Rattle.mmu_core.specs.machine.MayMake.{MayMake}
use Rattle.part_steps.specs.PartBounds.{PartRests}
use Rattle.part_steps.specs.PartTasks.{part_kind}
use Rattle.part_steps.specs.PartSteps.{PartNeeds, needs_line}
use Rattle.mmu_core.specs.machine.Steps.{has_line}
use Rattle.mmu_core.specs.machine.View.{view}
use Rattle.mmu_core.specs.machine.Worlds.{HandReached}
use Rattle.mmu_core.proofs.invariant.PartBounded.{part_rests_at}
use Rattle.mmu_core.proofs.words.PartFits.{part_small}
pub use Rattle.mmu_core.proofs.words.PartFits.{part_within}
use Rattle.mmu_core.proofs.invariant.RestsKept.{part_rests_prop}
use Rattle.mmu_core.proofs.start.Starts.{reached_good}

pub rests_in : (z : Sizes) (w : World Held) (i : ℕ) → IsSound z w → i < actors_of z → PartRests (hand_in mmu w i)
rests_in z w i G there = part_rests_at z (view z w) i G.holds G.topics there

pub reached_part_rests : (h : Held) → ∥ HandReached h ∥₁ → PartRests h
reached_part_rests h reached =
    ∥∥₁_elim reached (part_rests_prop h) (λ x. let G = reached_good x.world x.reached in
    subst PartRests x.has (rests_in x.reached.sizes x.world x.actor G (subst (λ n. x.actor < n) G.hands x.there)))

enabled_part : (h : Held) (step : PartStep) (note : ℕ) → IsPartStep h (part_kind h step note) → Enabled h (part_kind h step note)
unfolding Enabled
enabled_part h step note e = inr e

pub may_make : (h : Held) (step : PartStep) (note : ℕ) → PartRests h → has_line h ≡ false → needs_line step ≡ false → PartNeeds step h → MayMake step note h
may_make h step note R none free N = record {
  needs = N;
  enabled = enabled_part h step note (record {
    none_left = none;
    sizes = R.sizes;
    counters = R.counters.frames;
    step = step;
    free = free;
    note = note;
    is = refl;
    needs = N;
    within = part_within step h N R;
    small = part_small step h note N R;
  });
}
