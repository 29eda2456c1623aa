-- The step of a part that an access makes at its place is one that its actor may make.
use Rattle.std.proofs.Common.{◌+◌, ◌^◌, ◌<◌, ℕ, subst, ap, ◌∙◌}
use Rattle.std.specs.Prelude.{Option, ◌≡◌}
use Rattle.core_views.specs.declared.place.AccessPlace.{AccessPlace}
use Rattle.core_views.specs.declared.place.Place.TheVariants as place
use Rattle.core_views.specs.declared.sizes.Sizes.{Sizes}
use Rattle.core_views.specs.declared.trace.Command.TheVariants.{Access}
use Rattle.core_views.specs.declared.trace.Line.{Line}
use Rattle.core_views.specs.declared.trace.Op.{Op}
use Rattle.core_views.specs.Sizes.{actors_of, index_of}
use Rattle.core_views.specs.Slots.{is_write}
use Rattle.core_views.specs.Traces.{IsCommandFor}
use Rattle.spte_words.specs.declared.area.Area.{Area}
use Rattle.spte_words.specs.declared.area.Area.TheVariants as area
use Rattle.part_steps.specs.declared.part_step.PartStep.{PartStep}
use Rattle.mmu_core.specs.forms.access.AccessSteps.{access_part}
use Rattle.mmu_core.specs.invariant.Invariant.{Invariant, OwnLines}
use Rattle.part_steps.specs.PartSteps.{IsVcpu, PartNeeds}
use Rattle.mmu_core.specs.invariant.TopicsInvariant.{TopicsInvariant}
use Rattle.mmu_core.specs.machine.View.{View}
use Rattle.mmu_core.proofs.lines.KnowsKept.{NeedsOf, access_needs, access_vcpu, step_knows}
use Rattle.mmu_core.proofs.slots.LiveStays.{MakesParts, access_untold}
use Rattle.mmu_core.proofs.invariant.PartBounded.{part_rests_at}
use Rattle.mmu_core.proofs.words.PartFits.{part_within, part_small}
use Rattle.mmu_core.proofs.machine.PartStepping.{IsPart, Replaces, replaces_none}
use Rattle.mmu_core.proofs.machine.Stepping.{IsStep}
use Rattle.part_steps.specs.PartTasks.{part_task, own_index}

-- Each word has 64 bits, and the next sequence number stays far below.
pub record AreSmall (v : View) : Type 0 where
  pub each : (b : Area) (i : ℕ) → v.words b i < 2 ^ 64
  pub next_seq : v.words area.Seq 0 + 1 < 2 ^ 40

-- What an actor holds the needs of, in a view where the invariant holds, it may make.
pub may_make : (z : Sizes) (v : View) (a : ℕ) (step : PartStep) → AreSmall v → Invariant z v → TopicsInvariant z v → a < actors_of z
    → PartNeeds step (v.hand a) → Replaces z step (v.words area.Pool) (v.words area.Slots 0) (v.hand a).topics → IsPart z v a step
may_make z v a step small I P there needs replaces = record {
  is_sizes = I.sizes;
  slots = I.set_part.slots;
  there = there;
  sizes = O.sizes;
  own_place = own_place;
  needs = needs;
  replaces = replaces;
  within = part_within step (v.hand a) needs (part_rests_at z v a I P there);
  small = small.each;
  written =
      subst (λ n. (part_task step n (v.hand a).topics 0).written < 2 ^ 64) own_place (part_small step (v.hand a) 0 needs (part_rests_at z v a I P there));
}
  where
    O : OwnLines z a (v.hand a)
    O = I.lines a there

    own_place : own_index (v.hand a) ≡ a
    own_place = ap (λ y. index_of y (v.hand a).state.actor) O.sizes ∙ O.index

pub makes_parts : (z : Sizes) (v : View) (a : ℕ) (line : Line) (p : AccessPlace) (gfn word : ℕ) (op : Op) → AreSmall v
    → IsStep z v a line (Access gfn word op) (place.Access p) → Invariant z v → TopicsInvariant z v → MakesParts z v a p gfn
makes_parts z v a line p gfn word op small S I P step is =
    may_make z v a step small I P S.there (subst (λ (o : Option PartStep). NeedsOf o (v.hand a)) is needs)
    (replaces_none z step (v.words area.Pool) (v.words area.Slots 0) (v.hand a).topics (access_untold p gfn (v.hand a).topics step is))
  where
    may : IsVcpu (v.hand a).state.actor × (gfn < 2 ^ 36)
    may = access_vcpu z (v.hand a).state.actor gfn word op (subst (λ x. IsCommandFor z x (Access gfn word op)) S.own S.allowed)

    needs : NeedsOf (access_part p gfn (v.hand a).topics) (v.hand a)
    needs =
        access_needs p (v.hand a) gfn (is_write op) may.0 may.1 (part_rests_at z v a I P S.there)
        (step_knows z v a line (Access gfn word op) (place.Access p) S I)
