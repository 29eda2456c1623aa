-- The words of the log that begins with a publication, as this finds them: they are set.
use Rattle.core_views.specs.Held.{Held}
use Rattle.core_views.specs.LogCommands.{is_all_set}
use Rattle.core_views.specs.SlotCommands.{arms, slot_armed}
use Rattle.core_views.specs.declared.actor.Actor.TheVariants.{Manager}
use Rattle.core_views.specs.declared.place.Place.TheVariants as place
use Rattle.core_views.specs.declared.place.SlotChangePlace.TheVariants as change
use Rattle.core_views.specs.declared.sizes.Sizes.{Sizes}
use Rattle.core_views.specs.declared.trace.Command.{Command}
use Rattle.core_views.specs.declared.trace.Line.{Line}
use Rattle.core_views.specs.declared.trace.Slot.{Slot as SlotOf}
use Rattle.log_invariant.proofs.LogRecords.{ArmedAt, armed_at}
use Rattle.log_invariant.proofs.SetWordsKept.{sets_at_step}
use Rattle.log_invariant.proofs.WordsApart.{live_aligned}
use Rattle.log_invariant.specs.LogInvariant.{LogInvariant}
use Rattle.mmu_core.proofs.lines.KnowsKept.{step_knows}
use Rattle.mmu_core.proofs.machine.Stepping.{IsStep}
use Rattle.mmu_core.proofs.slots.Changes.{change_is_managers}
use Rattle.mmu_core.proofs.slots.SlotChangeArms.{armed_is}
use Rattle.mmu_core.specs.invariant.Invariant.{Invariant}
use Rattle.mmu_core.specs.forms.slot_change.ArmKnows.{IsInLog}
use Rattle.mmu_core.specs.forms.slot_change.SlotChangeSteps.{log_target, slot_or_none}
use Rattle.mmu_core.specs.forms.slot_change.SlotTargets.{arm_bits}
use Rattle.mmu_core.specs.machine.View.{View}
use Rattle.part_steps.specs.LogHoldings.{log_end}
use Rattle.spte_words.specs.declared.area.Area.TheVariants as area
use Rattle.std.proofs.Common.{ap, subst, sym, ℕ, ◌%◌, ◌<◌, ◌∙◌, ◌≡◌}
use Rattle.std.specs.Prelude.{Some, true}

-- The slot's host pages begin with a word of the logs, and each word of its log has its bits.
pub record IsArmedNow (z : Sizes) (log : ℕ → ℕ) (slot : SlotOf) : Type 0 where
  pub even : slot.host % 64 ≡ 0
  pub words : (word : ℕ) → IsInLog slot word → log word ≡ arm_bits (is_all_set z.mode) slot word

-- So it is of the slot whose log the publication begins.
pub armed_now : (z : Sizes) (v : View) (a : ℕ) (line : Line) (command : Command) (slot : SlotOf)
    → IsStep z v a line command (place.SlotChange change.Publish) → Invariant z v → LogInvariant z v → slot_armed (v.hand a).slots command ≡ Some slot
    → IsArmedNow z (v.words area.Log) slot
armed_now z v a line command slot S I G is = record {
  even = subst (λ (s : SlotOf). s.host % 64 ≡ 0) (same_slot (sym A.is ∙ is)) (live_aligned z v a I S.there manager A.id A.slot A.live);
  words = λ word in_log.
      sets_at_step z v a line command (place.SlotChange change.Publish) S G on word (subst (λ s. IsInLog s word) (sym target) in_log)
      (subst (λ s. word < log_end s) (sym target) in_log.1)
      ∙ ap (λ s. arm_bits (is_all_set h.state.sizes.mode) s word) target
      ∙ ap (λ (y : Sizes). arm_bits (is_all_set y.mode) slot word) (I.lines a S.there).sizes;
}
  where
    h : Held
    h = v.hand a

    on : arms command ≡ true
    on = armed_is h.slots command slot is

    manager : h.state.actor ≡ Manager
    manager = sym S.own ∙ change_is_managers z line.actor command (step_knows z v a line command (place.SlotChange change.Publish) S I).0 S.allowed

    A : ArmedAt (v.words area.Pool) (v.words area.Slots 0) command h.slots
    A = armed_at z (v.words area.Pool) (v.words area.Slots 0) command h.slots (I.recorded a S.there manager) on S.holds.works

    same_slot : {s t : SlotOf} → Some s ≡ Some t → s ≡ t
    same_slot e = cc e

    target : log_target h command ≡ slot
    target = ap slot_or_none is
