-- The pause, a word that no step stores in yet.
use Rattle.std.proofs.Common.{◌≡◌, ℕ, refl, ap}
use Rattle.core_views.specs.declared.place.Place.{Place}
use Rattle.core_views.specs.declared.sizes.Sizes.{Sizes}
use Rattle.core_views.specs.declared.trace.Command.{Command}
use Rattle.core_views.specs.declared.trace.Line.{Line}
use Rattle.core_views.specs.declared.trace.Op.{Op}
use Rattle.core_views.specs.declared.trace.Op.TheVariants.{Read}
use Rattle.spte_words.specs.declared.area.Area.{Area}
use Rattle.spte_words.specs.declared.area.Area.TheVariants as area
use Rattle.part_steps.specs.declared.task.Task.{Task}
use Rattle.mmu_core.specs.forms.access.AccessSteps.{touch_of}
use Rattle.mmu_core.specs.invariant.Invariant.{Invariant}
use Rattle.mmu_core.specs.lines.PartAt.{task_at}
use Rattle.mmu_core.specs.invariant.TopicsInvariant.{TopicsInvariant}
use Rattle.mmu_core.specs.machine.View.{View, stepped, words_after}
use Rattle.mmu_core.proofs.forms.access.AccessParts.{AreSmall}
use Rattle.mmu_core.proofs.words.PartWords.{areas_stay}
use Rattle.mmu_core.proofs.lines.StepIn.{StepIn, step_in, Makes, Touches}
use Rattle.mmu_core.proofs.machine.Stepping.{IsStep}

pause_touched : (op : Op) (index : ℕ) (words : Area → ℕ → ℕ) → words_after (touch_of op index) words area.Pause 0 ≡ words area.Pause 0
pause_touched Read index words = refl
pause_touched _ index words = refl

pause_by : (z : Sizes) (v : View) (a : ℕ) (task : Task) → StepIn z v a task → words_after task v.words area.Pause 0 ≡ v.words area.Pause 0
pause_by z v a _ (Makes step note S) = ap (λ (f : ℕ → ℕ). f 0) (areas_stay v a step note area.Pause refl)
pause_by z v a _ (Touches op index) = pause_touched op index v.words

-- Each step leaves the pause.
pub pause_stays : (z : Sizes) (v : View) (a : ℕ) (line : Line) (command : Command) (p : Place) → AreSmall v → IsStep z v a line command p
    → Invariant z v → TopicsInvariant z v → (stepped a line command p v).words area.Pause 0 ≡ v.words area.Pause 0
pause_stays z v a line command p small S I P = pause_by z v a (task_at p command (v.hand a)) (step_in z v a line command p small S I P)
