-- An actor that has a line left may make a step.
use Rattle.std.proofs.Common.{◌≡◌, ◌^◌, ◌<◌, ℕ, length, sym, subst, ap, arith}
use Rattle.core_views.specs.declared.actor.Actor.{Actor}
use Rattle.core_views.specs.declared.actor.Actor.TheVariants.{Vcpu}
use Rattle.core_views.specs.declared.place.Place.{Place}
use Rattle.core_views.specs.declared.sizes.Sizes.{Sizes}
use Rattle.core_views.specs.declared.trace.Command.{Command}
use Rattle.core_views.specs.declared.trace.Command.TheVariants.{Access}
use Rattle.core_views.specs.declared.trace.Op.{Op}
use Rattle.core_views.specs.declared.trace.Op.TheVariants.{Read}
use Rattle.core_views.specs.Held.{Held}
use Rattle.core_views.specs.Sizes.{actors_of}
use Rattle.core_views.specs.Traces.{IsCommandFor, WritesOneWord}
use Rattle.spte_words.specs.Areas.{place as word_place, size_of, total}
use Rattle.spte_words.proofs.Places.{place_below}
use Rattle.mmu_core.specs.forms.access.AccessSteps.{touch_of}
use Rattle.mmu_core.specs.machine.Enabled.{mmu}
use Rattle.mmu_core.specs.machine.NextSteps.{next_step}
use Rattle.mmu_core.specs.invariant.Laws.{IsSound}
use Rattle.part_steps.specs.PartBounds.{PartRests}
use Rattle.mmu_core.proofs.words.PartFits.{part_small}
use Rattle.mmu_core.specs.machine.Machine.{May, World, hand_in}
use Rattle.mmu_core.specs.lines.Rests.{Rests}
use Rattle.mmu_core.specs.lines.Forms.{RestsAt}
use Rattle.mmu_core.specs.machine.Steps.{line_at, place_at, task_at, task_of}
use Rattle.part_steps.specs.Tasks.{kind_of_task, map_of}
use Rattle.mmu_core.specs.machine.View.{view}
use Rattle.part_steps.specs.declared.task.Task.{Task}
use Rattle.mmu_core.proofs.lines.ByStep.{StepAt, step_at, Makes, Touches}
use Rattle.mmu_core.proofs.invariant.RestsKept.{hand_rests, task_within}
use Rattle.mmu_core.proofs.machine.Which.{enabled_is}

-- What a step writes has 64 bits.
touch_small : (op : Op) (index : ℕ) → WritesOneWord op → (touch_of op index).written < 2 ^ 64
touch_small Read index fits = omega arith
touch_small _ index fits = fits

op_fits : (z : Sizes) (actor : Actor) (gfn word : ℕ) (op : Op) → IsCommandFor z actor (Access gfn word op) → WritesOneWord op
op_fits z (Vcpu n) gfn word op may = may.3
op_fits z _ gfn word op may = absurd may

small_by : (z : Sizes) (actor : Actor) (command : Command) (h : Held) (t : Task) → PartRests h → IsCommandFor z actor command → StepAt command h t
    → t.written < 2 ^ 64
small_by z actor command h _ R may (Makes step note N) = part_small step h note N R
small_by z actor command h _ R may (Touches gfn word op is N) =
    touch_small op _ (op_fits z actor gfn word op (subst (IsCommandFor z actor) is may))

written_small : (p : Place) (z : Sizes) (actor : Actor) (command : Command) (h : Held) → PartRests h → RestsAt p command h → IsCommandFor z actor command
    → (task_at p command h).written < 2 ^ 64
written_small p z actor command h R rests may = small_by z actor command h (task_at p command h) R may (step_at p command h rests)

pub may_step : (z : Sizes) (w : World Held) (a : ℕ) → IsSound z w → a < actors_of z → length (hand_in mmu w a).answers < length (hand_in mmu w a).lines
    → May mmu w (next_step z w a)
may_step z w a G there left = record {
  there = omega (arith, there, G.hands);
  enabled = enabled_is h (next_step z w a).kind (record {
    left = left;
    rests = R;
    is = ap (λ y. kind_of_task y (task_of h)) (sym same);
    inside = subst (λ y. word_place (map_of z) (task_of h).area (task_of h).index < total (map_of y)) (sym same) below;
    small = written_small (place_at h.state.place h) h.state.sizes (line_at h.state.place h).actor (line_at h.state.place h).command h R.part R.at R.line;
  });
  inside = omega (arith, below, G.words);
}
  where
    h : Held
    h = hand_in mmu w a

    same : h.state.sizes ≡ z
    same = (G.holds.lines a there).sizes

    R : Rests h
    R = hand_rests z (view z w) a G.holds G.topics there left

    below : word_place (map_of z) (task_of h).area (task_of h).index < total (map_of z)
    below =
        place_below (map_of z) (task_of h).area (task_of h).index (subst (λ y. (task_of h).index < size_of (map_of y) (task_of h).area) same (task_within h R))
