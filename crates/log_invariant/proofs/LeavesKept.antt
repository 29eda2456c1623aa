-- Each linked leaf that allows writes in a slot with a dirty log is guarded after each step.
use Rattle.core_views.specs.Sizes.{actors_of}
use Rattle.core_views.specs.declared.place.Place.TheVariants as place
use Rattle.core_views.specs.declared.place.Place.{Place}
use Rattle.core_views.specs.declared.sizes.Sizes.{Sizes}
use Rattle.core_views.specs.declared.topics.Topics.{Topics}
use Rattle.core_views.specs.declared.trace.Command.{Command}
use Rattle.core_views.specs.declared.trace.Line.{Line}
use Rattle.log_invariant.proofs.CoveredKept.{AllGuarded, IsGuardedNow, idle_guarded_kept}
use Rattle.log_invariant.proofs.LeafClaims.{OfNewWrites, leaves_weaker, part_leaves}
use Rattle.log_invariant.proofs.LeafGuards.{ExcusedOrPassed, LeavesNow, guarded_or_passed}
use Rattle.log_invariant.proofs.LinePlaces.{idle_says}
use Rattle.log_invariant.proofs.LogsBegun.{AllSetNow}
use Rattle.log_invariant.proofs.OwnExcuse.{AllowsAt}
use Rattle.log_invariant.proofs.forms.log.PassedFrames.{none_passed}
use Rattle.log_invariant.specs.Excuses.{ExcusesLeaf}
use Rattle.log_invariant.specs.LogInvariant.{LogInvariant}
use Rattle.mmu_core.proofs.forms.access.AccessParts.{AreSmall}
use Rattle.mmu_core.proofs.machine.PartStepping.{IsPart}
use Rattle.mmu_core.proofs.machine.Stepping.{IsStep}
use Rattle.mmu_core.specs.invariant.Invariant.{Invariant}
use Rattle.mmu_core.specs.invariant.TopicsInvariant.{TopicsInvariant}
use Rattle.mmu_core.specs.lines.PartAt.{task_at}
use Rattle.mmu_core.specs.machine.Steps.{has_line}
use Rattle.mmu_core.specs.machine.View.{View, answer_in, hand_after, part_stepped, stepped}
use Rattle.part_steps.specs.PartSteps.{needs_line}
use Rattle.part_steps.specs.declared.part_step.PartStep.TheVariants as part
use Rattle.part_steps.specs.declared.part_step.PartStep.{PartStep}
use Rattle.std.proofs.Common.{◌<◌, ◌≡◌, inl, inr, ℕ}
use Rattle.std.specs.Prelude.{false}

-- ---- an idle step

-- Whose line isn't under way excuses nothing.
idle_excuses : (z : Sizes) (v : View) (a gfn : ℕ) → Invariant z v → a < actors_of z → has_line (v.hand a) ≡ false → ExcusesLeaf (v.hand a) gfn → ⊥
idle_excuses z v a gfn I lt none =
    idle_says (λ q. AllowsAt q (v.hand a).state.line.command (v.hand a) gfn → ⊥) (v.hand a) none (I.lines a lt).under by
  where
    by : AllowsAt place.Between (v.hand a).state.line.command (v.hand a) gfn → ⊥
    by (inl opens) = opens.0
    by (inr sweeps) = sweeps.0

-- It puts no leaf.
pub idle_new : (step : PartStep) (t : Topics) (v : View) (IsSo : ℕ → Type 0) → needs_line step ≡ false → OfNewWrites step t v IsSo
idle_new (part.Leaf gfn write) t v IsSo free = absurd (cc free)
idle_new (part.Fix gfn) t v IsSo free = absurd (cc free)
idle_new _ t v IsSo free = tt

-- Each step of a part keeps it that an actor makes with no line left.
pub part_leaves_kept : (z : Sizes) (v : View) (a : ℕ) (step : PartStep) (note : ℕ) → IsPart z v a step → needs_line step ≡ false
    → has_line (v.hand a) ≡ false → Invariant z v → TopicsInvariant z v → LogInvariant z v → LeavesNow z (part_stepped a step note v)
part_leaves_kept z v a step note S free none I P G =
    part_leaves z v a step note S P (AllGuarded z w ExcusesLeaf) (idle_new step (v.hand a).topics v (AllGuarded z w ExcusesLeaf) free)
    (leaves_weaker z v.words (AllGuarded z v ExcusesLeaf) (AllGuarded z w ExcusesLeaf) kept G.leaves)
  where
    w : View
    w = part_stepped a step note v

    kept : (gfn : ℕ) → AllGuarded z v ExcusesLeaf gfn → AllGuarded z w ExcusesLeaf gfn
    kept gfn =
        idle_guarded_kept z v a step note S free P gfn ExcusesLeaf ExcusesLeaf (record {
          others = λ j lt ne excuse. excuse;
          own = λ id slot logged holds excuse. absurd (idle_excuses z v a gfn I S.there none excuse);
        })

-- ---- a step of a line

-- Each step of a line keeps it, where each page is dirty after it of a slot whose log begins so.
pub line_leaves_kept : (z : Sizes) (v : View) (a : ℕ) (line : Line) (command : Command) (p : Place) → AreSmall v → IsStep z v a line command p
    → Invariant z v → TopicsInvariant z v → LogInvariant z v → AllSetNow z (stepped a line command p v) → LeavesNow z (stepped a line command p v)
line_leaves_kept z v a line command p small S I P G all_marked up spot T table entry gfn R O leaf writes id slot logged holds =
    by (guarded_or_passed z v a line command p small S I P G all_marked up spot T table entry gfn R O leaf writes id slot logged holds)
  where
    w : View
    w = stepped a line command p v

    by : IsGuardedNow z w (ExcusedOrPassed p command (v.hand a)
        (hand_after line command p (v.hand a) (answer_in (task_at p command (v.hand a)) v.words)).topics.walk) slot gfn → IsGuardedNow z w ExcusesLeaf slot gfn
    by (inl covered) = inl covered
    by (inr (j, lt, inl excuse)) = inr (j, lt, excuse)
    by (inr (j, lt, inr passes)) = absurd (none_passed z v a line command small I P p S up spot T table entry gfn R O passes leaf writes)
