-- A line that reads a dirty log has what each of its steps needs, which is one of a part that its actor, the manager, may make.
use Rattle.std.proofs.Common.{◌≡◌, ℕ, refl, sym, subst, ◌∙◌, arith}
use Rattle.std.specs.Prelude.{Option, Some, None, is_some, option_map, true}
use Rattle.core_views.specs.declared.actor.Actor.{Actor}
use Rattle.core_views.specs.declared.actor.Actor.TheVariants.{Manager}
use Rattle.core_views.specs.declared.place.LogPlace.{LogPlace}
use Rattle.core_views.specs.declared.place.LogPlace.TheVariants.{Walk}
use Rattle.core_views.specs.declared.place.Place.TheVariants as place
use Rattle.core_views.specs.declared.sizes.Sizes.{Sizes}
use Rattle.core_views.specs.declared.memory_slot.MemorySlot.{MemorySlot}
use Rattle.core_views.specs.declared.trace.Command.{Command}
use Rattle.core_views.specs.declared.trace.Command.TheVariants.{Access, ChangeHost, ChangeRun, Split}
use Rattle.core_views.specs.declared.trace.Line.{Line}
use Rattle.core_views.specs.Harvests.{slot_at}
use Rattle.core_views.specs.LogCommands.{log_read}
use Rattle.core_views.specs.SlotSets.{slot_of_id}
use Rattle.core_views.specs.Traces.{IsCommandFor}
use Rattle.spte_words.specs.declared.area.Area.TheVariants as area
use Rattle.part_steps.specs.declared.part_step.PartStep.{PartStep}
use Rattle.part_steps.specs.declared.part_step.PartStep.TheVariants as part
use Rattle.part_steps.specs.SweepTopics.{has_entry}
use Rattle.mmu_core.specs.invariant.Invariant.{Invariant, RecordPart}
use Rattle.mmu_core.specs.invariant.SlotSetPart.{Fits}
use Rattle.mmu_core.specs.invariant.TopicsInvariant.{TopicsInvariant}
use Rattle.mmu_core.specs.lines.Forms.{RestsAt}
use Rattle.mmu_core.specs.forms.log.LogSteps.{log_part, slot_asked}
use Rattle.mmu_core.specs.forms.slot_change.SlotTargets.{slot_or_none}
use Rattle.mmu_core.specs.machine.View.{View}
use Rattle.mmu_core.proofs.forms.access.AccessParts.{AreSmall, may_make}
use Rattle.mmu_core.proofs.lines.EitherPlace.{either_place}
use Rattle.mmu_core.proofs.lines.KnowsKept.{step_knows, step_leaves}
use Rattle.mmu_core.proofs.forms.log.LogNeeds.{log_needs}
use Rattle.mmu_core.proofs.forms.log.LogTold.{log_knows_reads}
use Rattle.mmu_core.proofs.machine.PartStepping.{IsPart, Replaces}
use Rattle.mmu_core.proofs.machine.Stepping.{IsStep}
use Rattle.mmu_core.proofs.slots.Changes.{recorded_fits}

-- The manager alone reads logs.
pub log_is_managers : (z : Sizes) (actor : Actor) (command : Command) → is_some (log_read command) ≡ true → IsCommandFor z actor command → actor ≡ Manager
log_is_managers z Manager command is may = refl
log_is_managers z _ (Access gfn word op) is may = absurd (cc is)
log_is_managers z _ (ChangeHost page change) is may = absurd (cc is)
log_is_managers z _ (ChangeRun page change) is may = absurd (cc is)
log_is_managers z _ (Split gfn) is may = absurd (cc is)
log_is_managers z _ _ is may = absurd may

module _ (z : Sizes) (v : View) (a : ℕ) (line : Line) (p : LogPlace) (command : Command) (S : IsStep z v a line command (place.Log p)) (I : Invariant z v) where
  reads : is_some (log_read command) ≡ true
  reads = log_knows_reads p command (v.hand a) (step_knows z v a line command (place.Log p) S I)

  manager : (v.hand a).state.actor ≡ Manager
  manager = sym S.own ∙ log_is_managers z line.actor command reads S.allowed

  -- The slot that it reads is one of its actor's record, and so it fits the machine; and so does none.
  pub log_fits : Fits (v.hand a).state.sizes (slot_asked (v.hand a) command)
  log_fits = by (log_read command)
    where
      R : RecordPart (v.words area.Pool) (v.words area.Slots 0) (v.hand a).slots
      R = I.recorded a S.there manager

      FitsAsked : Option MemorySlot → Type 0
      FitsAsked o = Fits (v.hand a).state.sizes (slot_or_none (option_map (λ m. m.slot) o))

      at_id : (id : ℕ) (m : Option MemorySlot) → slot_of_id id (v.hand a).slots ≡ m → FitsAsked m
      at_id id None is = record { pages = omega arith; frames = omega arith }
      at_id id (Some was) is =
          subst (λ (y : Sizes). Fits y was.slot) (sym (I.lines a S.there).sizes)
          (recorded_fits z (v.words area.Pool) (v.words area.Slots 0) id (v.hand a).slots was R I.set_part.slots is)

      by : (o : Option ℕ) → FitsAsked (slot_at (v.hand a).slots o)
      by None = record { pages = omega arith; frames = omega arith }
      by (Some id) = at_id id (slot_of_id id (v.hand a).slots) refl

  pub log_rests : RestsAt (place.Log p) command (v.hand a)
  log_rests =
      let K = step_knows z v a line command (place.Log p) S I in
      let L = step_leaves z v a line command (place.Log p) S I in
      let N = log_needs p (v.hand a) command manager (L.leaves refl) (L.opens refl) log_fits K in
      (reads, N.0, N.1)

  log_says : Replaces z (log_part p (v.hand a) command) (v.words area.Pool) (v.words area.Slots 0) (v.hand a).topics
  log_says = by p
    where
      by : (q : LogPlace) → Replaces z (log_part q (v.hand a) command) (v.words area.Pool) (v.words area.Slots 0) (v.hand a).topics
      by (Walk page) =
          either_place (λ (step : PartStep). Replaces z step (v.words area.Pool) (v.words area.Slots 0) (v.hand a).topics) (has_entry (v.hand a).topics.walk)
          (part.WalkAnew _) (part.Walk _) tt tt
      by _ = tt

  pub makes_log : AreSmall v → TopicsInvariant z v → IsPart z v a (log_part p (v.hand a) command)
  makes_log small P = may_make z v a (log_part p (v.hand a) command) small I P S.there log_rests.1 log_says
