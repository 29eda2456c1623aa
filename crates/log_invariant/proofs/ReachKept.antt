-- Each leaf that allows writes in a slot with a dirty log, and to which a virtual processor can come in the guest, is guarded after each step.
use Rattle.std.proofs.Common.{ap, arith, inl, inr, refl, subst, sym, ℕ, ◌<◌, ◌≡◌, ◌∙◌}
use Rattle.std.specs.Prelude.{Option, Some, false, true}
use Rattle.core_views.specs.declared.place.LogPlace.TheVariants as log
use Rattle.core_views.specs.declared.place.Place.TheVariants as place
use Rattle.core_views.specs.declared.place.Place.{Place}
use Rattle.core_views.specs.declared.place.SlotChangePlace.TheVariants as change
use Rattle.core_views.specs.declared.sizes.Sizes.{Sizes}
use Rattle.core_views.specs.declared.topics.TableWalk.{TableWalk}
use Rattle.core_views.specs.declared.topics.Topics.{Topics}
use Rattle.core_views.specs.declared.trace.Command.{Command}
use Rattle.core_views.specs.declared.trace.Line.{Line}
use Rattle.core_views.specs.Held.{Held}
use Rattle.spte_words.specs.declared.area.Area.TheVariants as area
use Rattle.part_steps.specs.declared.part_step.PartStep.TheVariants as part
use Rattle.part_steps.specs.declared.part_step.PartStep.{PartStep}
use Rattle.part_steps.specs.PartSteps.{needs_line}
use Rattle.part_steps.specs.PartTasks.{own_index, part_task}
use Rattle.mmu_core.specs.invariant.AllOver.{AllOver}
use Rattle.mmu_core.specs.invariant.HeldPart.{table_at}
use Rattle.mmu_core.specs.invariant.Invariant.{Invariant}
use Rattle.mmu_core.specs.invariant.InvalidatedPart.{may_use}
use Rattle.mmu_core.specs.invariant.ReachPart.{InReach}
use Rattle.mmu_core.specs.invariant.TopicsInvariant.{TopicsInvariant}
use Rattle.mmu_core.specs.lines.Forms.{part_at}
use Rattle.mmu_core.specs.lines.PartAt.{task_at}
use Rattle.mmu_core.specs.machine.Steps.{has_line}
use Rattle.mmu_core.specs.machine.View.{View, answer_in, hand_after, part_stepped, stepped}
use Rattle.mmu_core.proofs.forms.access.AccessParts.{AreSmall}
use Rattle.mmu_core.proofs.machine.PartStepping.{IsPart}
use Rattle.mmu_core.proofs.machine.Stepping.{IsStep}
use Rattle.mmu_core.proofs.machine.SumsBelow.{column_upd}
use Rattle.mmu_core.proofs.pages.AllOver.{over_weaker}
use Rattle.log_invariant.specs.Excuses.{ExcusesCached, ExcusesLeaf}
use Rattle.log_invariant.specs.LogInvariant.{LeafIsGuarded, LogInvariant}
use Rattle.log_invariant.proofs.CachedKept.{Carries, line_carries, part_carries}
use Rattle.log_invariant.proofs.CoveredKept.{AllGuarded}
use Rattle.log_invariant.proofs.LeafClaims.{OfNewWrites}
use Rattle.log_invariant.proofs.LeafGuards.{ExcusedOrPassed, new_writes}
use Rattle.log_invariant.proofs.LeavesKept.{idle_new}
use Rattle.log_invariant.proofs.LogsBegun.{AllSetNow}
use Rattle.log_invariant.proofs.OwnExcuse.{PassesAt}
use Rattle.log_invariant.proofs.ReachClaims.{GoesOnInReach, ReachIs, WasThere, task_reach}
use Rattle.log_invariant.proofs.StepPlaces.{Makes, step_at}
use Rattle.log_invariant.proofs.TranslationsKept.{guarded_by}
use Rattle.log_invariant.proofs.UsualSteps.{is_special, is_usual, special_by, usual_by}
use Rattle.log_invariant.proofs.forms.slot_change.UsesExcused.{allowed_used}

-- A leaf in reach is guarded as what the virtual processor has cached is.
abbrev pub ReachGuarded : Sizes → View → ℕ → ℕ → Type 0
ReachGuarded z v k = AllGuarded z v (ExcusesCached k (v.words area.State k))

-- So is each, of a view.
abbrev pub ReachNow : Sizes → View → Type 0
ReachNow z v = ReachIs z v.words (λ i. (v.hand i).topics) (ReachGuarded z v)

-- ---- what was in reach, and what is below the root

module _ (z : Sizes) (v w : View) (a : ℕ) (P : TopicsInvariant z v) (G : LogInvariant z v) (carries : Carries z v w) where
  -- What guards the use of a leaf in the guest guards it after the step.
  carried : (k : ℕ) → k < z.vcpus → WasThere v (w.words area.State) k → (gfn : ℕ) → ReachGuarded z v k gfn → ReachGuarded z w k gfn
  carried k low was = carries k was.1 low (ap (may_use (v.words area.State k)) was.0)

  -- So what guarded the leaves in reach guards them after it.
  reach_carried : (k : ℕ) → k < z.vcpus → WasThere v (w.words area.State) k
      → InReach P.up P.spot (v.words area.Pool) (v.hand k).topics (LeafIsGuarded (ReachGuarded z w k))
  reach_carried k low was guest level from down most =
      over_weaker P.up P.spot (v.words area.Pool) (table_at level (v.hand k).topics.walk) (LeafIsGuarded (ReachGuarded z v k))
      (LeafIsGuarded (ReachGuarded z w k)) (λ l gfn word so leaf writes. carried k low was gfn (so leaf writes))
      (G.reach P.up P.spot P.tree k low (P.held k (omega (arith, low))) (P.paths k (omega (arith, low))) guest level from down most)

  -- What excuses a leaf below the root excuses the use of it.
  root_carried : a < z.vcpus → WasThere v (w.words area.State) a
      → AllOver P.up P.spot (v.words area.Pool) (v.words area.Root 0) (LeafIsGuarded (ReachGuarded z w a))
  root_carried low was =
      over_weaker P.up P.spot (v.words area.Pool) (v.words area.Root 0) (LeafIsGuarded (AllGuarded z v ExcusesLeaf)) (LeafIsGuarded (ReachGuarded z w a))
      (λ l gfn word so leaf writes. carried a low was gfn (guarded_by z v ExcusesLeaf (ExcusesCached a (v.words area.State a)) gfn
      (λ g. allowed_used g.state.place a (v.words area.State a) g.state.line.command g gfn) (so leaf writes)))
      (G.leaves P.up P.spot P.tree)

  -- That is all that is owed, but for the new leaf.
  goes_on : (named : Option PartStep) → ((step : PartStep) → named ≡ Some step → (k : ℕ) → OfNewWrites step (v.hand a).topics v (ReachGuarded z w k))
      → GoesOnInReach z v a P named (w.words area.State) (ReachGuarded z w)
  goes_on named new_ = record { new_ = λ step is k low was. new_ step is k; below_root = root_carried; before = reach_carried }

-- ---- a step of a line

-- No line passes a guest frame with a step that puts or fixes a leaf.
passes_usual : (p : Place) (command : Command) (h : Held) (after : TableWalk) (gfn : ℕ) → PassesAt p command h after gfn → is_usual p ≡ true
passes_usual (place.SlotChange (change.WriteProtect range q)) command h after gfn passes = refl
passes_usual (place.Log (log.Walk page)) command h after gfn passes = refl
passes_usual (place.Log (log.Protect page)) command h after gfn passes = refl
passes_usual _ command h after gfn passes = absurd passes

module _ (z : Sizes) (v : View) (a : ℕ) (line : Line) (command : Command) (p : Place) (small : AreSmall v) (S : IsStep z v a line command p)
    (I : Invariant z v) (P : TopicsInvariant z v) (G : LogInvariant z v) (set : AllSetNow z (stepped a line command p v)) where
  abbrev h : Held
  h = v.hand a

  abbrev g : Held
  g = hand_after line command p h (answer_in (task_at p command h) v.words)

  abbrev w : View
  w = stepped a line command p v

  -- So what guards such a leaf guards the use of it.
  used : (step : PartStep) → part_at p command h ≡ Some step → is_special step ≡ true → (k gfn : ℕ)
      → AllGuarded z w (ExcusedOrPassed p command h g.topics.walk) gfn → ReachGuarded z w k gfn
  used step is special k gfn =
      guarded_by z w (ExcusedOrPassed p command h g.topics.walk) (ExcusesCached k (w.words area.State k)) gfn by
    where
      by : (x : Held) → ExcusedOrPassed p command h g.topics.walk x gfn → ExcusesCached k (w.words area.State k) x gfn
      by x (inl excuse) = allowed_used x.state.place k (w.words area.State k) x.state.line.command x gfn excuse
      by x (inr passes) =
          let usual : is_special step ≡ false = sym (ap special_by is) ∙ usual_by p command h (passes_usual p command h g.topics.walk gfn passes) in
          absurd (cc (usual, special))

  new_uses : (step : PartStep) → part_at p command h ≡ Some step → (k : ℕ) → OfNewWrites step h.topics v (ReachGuarded z w k)
  new_uses (part.Leaf gfn write) is k = λ won writes other in_run.
      used (part.Leaf gfn write) is refl k other (new_writes z v a line command p small S I P G set (part.Leaf gfn write) is won writes other in_run)
  new_uses (part.Fix gfn) is k = λ won writes other in_run given.
      used (part.Fix gfn) is refl k other (new_writes z v a line command p small S I P G set (part.Fix gfn) is won writes other in_run given)
  new_uses _ is k = tt

  -- Each step of a line keeps it, where each page is dirty after it of a slot whose log begins so.
  pub line_reach_kept : ReachNow z (stepped a line command p v)
  line_reach_kept =
      subst (λ (topics : ℕ → Topics). ReachIs z w.words topics (ReachGuarded z w)) (sym (column_upd (λ (x : Held). x.topics) v.hand a g))
      (task_reach z v a P (part_at p command h) (task_at p command h) (step_at z v a line command p small S I P) (ReachGuarded z w)
      (goes_on z v w a P G (line_carries z v a line command p small S I P G set) (part_at p command h) new_uses))

-- ---- a step of an actor with no line left

-- So does each step of a part that an actor makes with no line left.
pub part_reach_kept : (z : Sizes) (v : View) (a : ℕ) (step : PartStep) (note : ℕ) → IsPart z v a step → needs_line step ≡ false
    → has_line (v.hand a) ≡ false → Invariant z v → TopicsInvariant z v → LogInvariant z v → ReachNow z (part_stepped a step note v)
part_reach_kept z v a step note S free none I P G =
    subst (λ (topics : ℕ → Topics). ReachIs z w.words topics (ReachGuarded z w)) (sym (column_upd (λ (x : Held). x.topics) v.hand a _))
    (task_reach z v a P (Some step) (part_task step (own_index (v.hand a)) (v.hand a).topics note) (Makes step note refl S) (ReachGuarded z w)
    (goes_on z v w a P G (part_carries z v a step note S free none I P) (Some step)
    (λ s is k. let same : step ≡ s = cc is in
    subst (λ s. OfNewWrites s (v.hand a).topics v (ReachGuarded z w k)) same (idle_new step (v.hand a).topics v (ReachGuarded z w k) free))))
  where
    w : View
    w = part_stepped a step note v
