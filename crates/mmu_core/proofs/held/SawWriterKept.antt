-- Who has yet to take itself out of the readers saw a writer: each step keeps it.
use Rattle.std.proofs.Common.{◌≡◌, ◌<◌, ℕ, refl}
use Rattle.std.specs.Prelude.{Bool, true, false, ◌==◌, if◌then◌else◌}
use Rattle.core_views.specs.declared.sizes.Sizes.{Sizes}
use Rattle.core_views.specs.declared.topics.Hold.TheVariants.{Shared, Owing, Exclusive}
use Rattle.core_views.specs.declared.topics.Topics.{Topics}
use Rattle.core_views.specs.Held.{Held}
use Rattle.core_views.specs.Sizes.{actors_of}
use Rattle.part_steps.specs.declared.part_step.PartStep.{PartStep}
use Rattle.part_steps.specs.declared.part_step.PartStep.TheVariants as part
use Rattle.mmu_core.specs.invariant.LockPart.{SawWriter}
use Rattle.part_steps.specs.PartTopics.{part_topics}
use Rattle.mmu_core.specs.invariant.TopicsInvariant.{TopicsInvariant}
use Rattle.part_steps.specs.ControlBits.{has_writer}
use Rattle.mmu_core.specs.machine.View.{View, part_stepped}
use Rattle.mmu_core.proofs.machine.Columns.{at_upd}
use Rattle.mmu_core.proofs.machine.PartStepping.{IsPart}
use Rattle.mmu_core.proofs.words.PartTopics.{behind_step}

saw_behind : (step : PartStep) (t : Topics) (v : ℕ) → SawWriter t.hold → SawWriter (part_topics step t v).hold
saw_behind part.Share t v saw = by (has_writer v) refl
  where
    by : (b : Bool) → has_writer v ≡ b → SawWriter (if b then Owing v else Shared)
    by true is = is
    by false is = tt
saw_behind part.Exclude t v saw = by (v == 0)
  where
    by : (b : Bool) → SawWriter (if b then Exclusive else t.hold)
    by true = tt
    by false = saw
saw_behind part.Unshare t v saw = tt
saw_behind part.Release t v saw = tt
saw_behind _ t v saw = saw

abbrev pub SawAt : Sizes → View → Type 0
SawAt z v = (i : ℕ) → i < actors_of z → SawWriter (v.hand i).topics.hold

pub saw_kept : (z : Sizes) (v : View) (a : ℕ) (step : PartStep) (note : ℕ) → IsPart z v a step → TopicsInvariant z v → SawAt z (part_stepped a step note v)
saw_kept z v a step note S I =
    behind_step (SawAt z) z v a step note S
    (at_upd (λ i (h : Held). i < actors_of z → SawWriter h.topics.hold) v.hand a _ (λ lt. saw_behind step (v.hand a).topics _ (I.saw_writer a lt))
    (λ i ne lt. I.saw_writer i lt))
