-- What the lines under way have noted stays after the step of another actor: the slot set that a search holds keeps its words.
use Rattle.std.proofs.Common.{◌≡◌, ◌≢◌, ◌<◌, ℕ, refl, sym, subst, ap, ◌∙◌, arith}
use Rattle.std.specs.Prelude.{All, true, false, Option, Some, None}
use Rattle.core_views.specs.declared.place.AccessPlace.{AccessPlace}
use Rattle.core_views.specs.declared.place.AccessPlace.TheVariants as access
use Rattle.core_views.specs.declared.place.FaultPlace.{FaultPlace}
use Rattle.core_views.specs.declared.place.FaultPlace.TheVariants as fault
use Rattle.core_views.specs.declared.place.Leaving.TheVariants as leaving
use Rattle.core_views.specs.declared.place.Place.{Place}
use Rattle.core_views.specs.declared.place.Place.TheVariants as place
use Rattle.core_views.specs.declared.sizes.Sizes.{Sizes}
use Rattle.core_views.specs.declared.topics.SlotSearch.{SlotSearch}
use Rattle.core_views.specs.declared.topics.Topics.{Topics}
use Rattle.core_views.specs.declared.trace.Command.{Command}
use Rattle.core_views.specs.declared.trace.Command.TheVariants.{Access}
use Rattle.core_views.specs.declared.trace.Op.{Op}
use Rattle.core_views.specs.declared.trace.Slot.{Slot as SlotOf}
use Rattle.core_views.specs.Flat.{LineUnderWay, Notes}
use Rattle.core_views.specs.Held.{Held}
use Rattle.core_views.specs.Sizes.{actors_of}
use Rattle.core_views.specs.Slots.{Slots, contains}
use Rattle.spte_words.specs.declared.area.Area.TheVariants as area
use Rattle.spte_words.specs.Areas.{pool_index}
use Rattle.part_steps.specs.declared.part_step.PartStep.{PartStep}
use Rattle.mmu_laws.specs.flat.FlatInvariant.{AccessUnder, NotedAt, NotedSlots, UnderIs}
use Rattle.part_steps.specs.SlotWords.{slots_below}
use Rattle.mmu_core.specs.machine.Steps.{task_at}
use Rattle.part_steps.specs.declared.task.Task.{Task}
use Rattle.mmu_core.specs.invariant.TopicsInvariant.{TopicsInvariant}
use Rattle.mmu_core.specs.machine.View.{View, part_stepped, words_after}
use Rattle.mmu_laws.proofs.forms.access.AccessFlat.{IsPartOr}
use Rattle.mmu_core.proofs.machine.Columns.{upd_other}
use Rattle.mmu_core.proofs.slots.LiveStays.{SetStays, touch_leaves_pool}
use Rattle.mmu_core.proofs.machine.PartStepping.{IsPart}
use Rattle.mmu_core.proofs.invariant.Kept.{MakesAt}
use Rattle.mmu_core.proofs.lines.StepIn.{StepIn, Makes, Touches, step_of}
use Rattle.mmu_core.proofs.held.OldSets.{held_words_stay}
use Rattle.mmu_core.proofs.slots.SlotsStay.{below_stay}

-- The words of the slot set that the search holds stay.
abbrev pub HeldStays : (ℕ → ℕ) → (ℕ → ℕ) → SlotSearch → Type 0
HeldStays pool other search = (k : ℕ) → search.set ≡ Some k → SetStays k pool other

noted_still : (pool other : ℕ → ℕ) (notes : Notes) (s : SlotSearch) (gfn : ℕ) → HeldStays pool other s → NotedSlots pool notes s gfn
    → NotedSlots other notes s gfn
noted_still pool other notes s gfn still N = record {
  set = N.set;
  held = N.held;
  noted = N.noted ∙ ap (λ (xs : Slots). Some xs) (sym same);
  passed = subst (λ (xs : Slots). All (λ (e : ℕ × SlotOf). e.0 < s.id → contains gfn e.1 ≡ false) xs) (sym same) N.passed;
}
  where
    same : slots_below other N.set 32 ≡ slots_below pool N.set 32
    same = below_stay N.set pool other (still N.set N.held) 32 (omega arith)

noted_at_still : (pool other : ℕ → ℕ) (p : FaultPlace) (gfn : ℕ) (op : Op) (t : Topics) (notes : Notes) → HeldStays pool other t.search
    → NotedAt pool p gfn op t notes → NotedAt other p gfn op t notes
noted_at_still pool other (fault.Find true) gfn op t notes still N = noted_still pool other notes t.search gfn still N
noted_at_still pool other _ gfn op t notes still N = N

access_still : (pool other : ℕ → ℕ) (p : AccessPlace) (gfn : ℕ) (op : Op) (t : Topics) (u : LineUnderWay) → HeldStays pool other t.search
    → AccessUnder pool p gfn op t u → AccessUnder other p gfn op t u
access_still pool other (access.Fault p) gfn op t u still under = (under.0, noted_at_still pool other p gfn op t u.notes still under.1)
access_still pool other (access.Enter again) gfn op t u still under = under
access_still pool other (access.Pause again) gfn op t u still under = under
access_still pool other (access.Leave (leaving.Reached frame value)) gfn op t u still under = under
access_still pool other _ gfn op t u still under = under

-- A line under way is flat's still.
pub under_still : (z : Sizes) (pool other : ℕ → ℕ) (p : Place) (command : Command) (h : Held) (u : LineUnderWay) → HeldStays pool other h.topics.search
    → UnderIs z pool p command h u → UnderIs z other p command h u
under_still z pool other (place.Access p) (Access gfn word op) h u still under = (under.0, access_still pool other p gfn op h.topics u still under.1)
under_still z pool other _ (Access gfn word op) h u still under = under
under_still z pool other _ _ h u still under = under

-- ---- Each step leaves the slot sets that other actors hold.

pub others_held : (z : Sizes) (v : View) (a : ℕ) (step : PartStep) (note : ℕ) → IsPart z v a step → TopicsInvariant z v → (i k : ℕ) → i < actors_of z
    → i ≢ a → (v.hand i).topics.search.set ≡ Some k → SetStays k (v.words area.Pool) ((part_stepped a step note v).words area.Pool)
others_held z v a step note S P i k lt ne held =
    held_words_stay z v a step note S P i k lt (ap (λ (g : Held). g.topics.search.set) (upd_other v.hand a i _ ne) ∙ held)

-- A step of a line is one of a part that its actor may make, or none.
pub part_or : (z : Sizes) (v : View) (a : ℕ) (o : Option PartStep) → ((step : PartStep) → o ≡ Some step → IsPart z v a step) → IsPartOr z v a o
part_or z v a None makes = tt
part_or z v a (Some step) makes = makes step refl

held_by : (z : Sizes) (v : View) (a : ℕ) (task : Task) → StepIn z v a task → TopicsInvariant z v → (i k : ℕ) → i < actors_of z → i ≢ a
    → (v.hand i).topics.search.set ≡ Some k → SetStays k (v.words area.Pool) (words_after task v.words area.Pool)
held_by z v a _ (Makes step note M) P i k lt ne held = others_held z v a step note M P i k lt ne held
held_by z v a _ (Touches op index) P i k lt ne held = λ j low. ap (λ (pool : ℕ → ℕ). pool (pool_index k j)) (touch_leaves_pool v.words op index)

pub line_held : (z : Sizes) (v : View) (a : ℕ) (command : Command) (p : Place) → TopicsInvariant z v → MakesAt z v a p command → (i k : ℕ) → i < actors_of z
    → i ≢ a → (v.hand i).topics.search.set ≡ Some k
    → SetStays k (v.words area.Pool) (words_after (task_at p command (v.hand a)) v.words area.Pool)
line_held z v a command p P makes i k lt ne held = held_by z v a (task_at p command (v.hand a)) (step_of z v a command p makes) P i k lt ne held
