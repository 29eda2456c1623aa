-- What a step of a line that reads a dirty log has to go on with, and what flat memory has then.
use Rattle.core_views.specs.Events.{logs_left, stage_taken}
use Rattle.mmu_laws.proofs.flat.Told.{line_behind}
use Rattle.std.proofs.Common.{◌≡◌, ℕ, List, [], ◌∷◌, sym, subst, ap, ◌∙◌, length}
use Rattle.std.specs.Option.{option_map}
use Rattle.std.specs.Prelude.{Bool, Option, Some}
use Rattle.core_views.specs.declared.actor.Actor.TheVariants.{Manager}
use Rattle.core_views.specs.declared.answer.Answer.TheVariants.{Refused}
use Rattle.core_views.specs.declared.answer.Refusal.{Refusal}
use Rattle.core_views.specs.declared.event.EventKind.{EventKind}
use Rattle.core_views.specs.declared.event.EventKind.TheVariants.{Taken}
use Rattle.core_views.specs.declared.place.LogPlace.{LogPlace}
use Rattle.core_views.specs.declared.place.Place.{Place}
use Rattle.core_views.specs.declared.place.Place.TheVariants as place
use Rattle.core_views.specs.declared.sizes.Sizes.{Sizes}
use Rattle.core_views.specs.declared.trace.Command.{Command}
use Rattle.core_views.specs.declared.trace.Line.{Line}
use Rattle.core_views.specs.declared.trace.Slot.{Slot}
use Rattle.core_views.specs.declared.migration.Migration.{Migration}
use Rattle.core_views.specs.Flat.{Facts, HasTaken, LineUnderWay, Stage}
use Rattle.core_views.specs.Harvests.{IsHarvest, MayRead, slot_read}
use Rattle.core_views.specs.Held.{Held}
use Rattle.core_views.specs.Lawful.{answer_at_once}
use Rattle.core_views.specs.LogCommands.{bits_for, log_read, read_refusal, takes_out, words_asked}
use Rattle.core_views.specs.Past.{Past}
use Rattle.core_views.specs.SlotSets.{MemorySlots}
use Rattle.part_steps.specs.declared.task.Task.{Task}
use Rattle.mmu_core.specs.invariant.Invariant.{Invariant}
use Rattle.mmu_core.specs.invariant.TopicsInvariant.{TopicsInvariant}
use Rattle.mmu_core.specs.forms.log.LogKnows.{AreAsked, LogKnows, Reads}
use Rattle.mmu_core.specs.forms.log.LogSteps.{frames_read, log_note, log_part}
use Rattle.mmu_core.specs.forms.log.LogSteps.{slot_asked}
use Rattle.mmu_core.specs.machine.Steps.{task_at}
use Rattle.mmu_core.specs.machine.View.{View, answer_in}
use Rattle.mmu_core.proofs.forms.log.LogMakes.{log_is_managers}
use Rattle.mmu_core.proofs.forms.log.LogPlaces.{log_plain}
use Rattle.mmu_core.proofs.forms.log.LogTold.{log_knows_reads}
use Rattle.mmu_core.proofs.machine.PartStepping.{IsPart}
use Rattle.mmu_core.proofs.machine.Stepping.{IsStep}
use Rattle.mmu_laws.specs.flat.FlatInvariant.{LogUnder}
use Rattle.mmu_laws.proofs.flat.FlatSteps.{GoesBy, Ready, RefinesBy, goes_by, part_refines}
use Rattle.mmu_laws.proofs.forms.log.LogAnswers.{reads_at_once, words_told}

module _ (z : Sizes) (v : View) (a : ℕ) (line : Line) (command : Command) (facts : Facts) (past : Past) (u : LineUnderWay) where
  abbrev h : Held
  h = v.hand a

  abbrev slot : Slot
  slot = slot_asked h command

  abbrev pub task : LogPlace → Task
  task p = task_at (place.Log p) command h

  abbrev pub x : LogPlace → ℕ
  x p = answer_in (task p) v.words

  abbrev pub ReadyAt : LogPlace → Type 0
  ReadyAt p = Ready z v line command (place.Log p) h.topics facts u

  abbrev pub Goes : LogPlace → Place → List EventKind → Type 0
  Goes p next kinds = GoesBy z v a line command (task p) next kinds facts past u

  -- what the step of a place is to go on with
  pub record Makes (p : LogPlace) : Type 0 where
    pub step : IsStep z v a line command (place.Log p)
    pub is : Invariant z v
    pub topics : TopicsInvariant z v
    pub part : IsPart z v a (log_part p h command)
    pub knows : LogKnows p command h
    pub ready : ReadyAt p

  -- Flat memory has the slots of the manager's record, and so answers at once as it does.
  pub same_slots : (p : LogPlace) → Makes p → facts.slots ≡ h.slots
  same_slots p M =
      let manager : h.state.actor ≡ Manager =
      sym M.step.own ∙ log_is_managers z line.actor command (log_knows_reads p command h M.knows) M.step.allowed in
      M.ready.refines.slots ∙ sym (M.is.recorded a M.step.there manager).same

  pub said : (p : LogPlace) → Makes p → u.line.command ≡ command
  said p M = ap (λ (l : Line). l.command) M.ready.under.0 ∙ M.step.command_is

  pub at_once : (p : LogPlace) → Makes p → (r : Option Refusal) → read_refusal command h.slots ≡ r
      → answer_at_once z facts.slots facts.migration h.state.actor u.line.command ≡ option_map (λ refusal. Refused refusal) r
  at_once p M r is =
      ap (answer_at_once z facts.slots facts.migration h.state.actor) (said p M)
      ∙ ap (λ (slots : MemorySlots). answer_at_once z slots facts.migration h.state.actor command) (same_slots p M)
      ∙ ap (λ (m : Migration). answer_at_once z h.slots m h.state.actor command) M.ready.refines.idle
      ∙ reads_at_once z h.slots h.state.actor command (log_knows_reads p command h M.knows) ∙ ap (option_map (λ refusal. Refused refusal)) is

  pub still : (p : LogPlace) → Makes p → RefinesBy z v (task p) facts
  still p M =
      let plain = log_plain p h command in
      part_refines z v a (log_part p h command) (log_note p h command) facts M.part M.topics plain.never plain.quiet M.ready.refines

  -- It tells nothing, where it goes on at this place.
  pub quiet : (p next : LogPlace) → Makes p → LogUnder next command u → Goes p (place.Log next) []
  quiet p next M under = goes_by z v a line command (task p) facts past u (still p M) (place.Log next) (M.ready.under.0, under)

  -- These frames are read in the end: they are what the line's words say.
  pub told_words : (p : LogPlace) (words : List ℕ) → Makes p → Reads command h → length words ≡ words_asked command slot → AreAsked slot command words
      → bits_for u.line.command (slot_read facts.slots u.line.command) (frames_read slot command words) ≡ words
  told_words p words M K long asked =
      ap (λ c. bits_for c (slot_read facts.slots c) (frames_read slot command words)) (said p M)
      ∙ ap (λ (slots : MemorySlots). bits_for command (slot_read slots command) (frames_read slot command words)) (same_slots p M)
      ∙ words_told command h words K long asked

  pub may_read : (p : LogPlace) (stage : Stage) (after : Past) (id : ℕ) (frames : List ℕ) (out : Bool) → Makes p → stage ≡ HasTaken id
      → log_read command ≡ Some id → takes_out h.state.sizes.mode command ≡ out → IsHarvest facts after command id frames
      → MayRead z facts after u.line.command stage id frames out
  may_read p stage after id frames out M begun reads takes harvest = record {
    begun = begun;
    reads = ap log_read (said p M) ∙ reads;
    takes = ap (takes_out z.mode) (said p M) ∙ ap (λ (y : Sizes). takes_out y.mode command) (sym (M.is.lines a M.step.there).sizes) ∙ takes;
    harvest = subst (λ c. IsHarvest facts after c id frames) (sym (said p M)) harvest;
  }

  -- the line under way once it has begun to read the log of the slot
  abbrev pub begun_by : ℕ → LineUnderWay
  begun_by id = line_behind (Taken id ∷ []) facts u

  pub begun_stage : (p : LogPlace) → Makes p → (id : ℕ) → log_read command ≡ Some id → (begun_by id).stage ≡ HasTaken id
  begun_stage p M id reads = ap (λ o. stage_taken o (logs_left facts.slots u.line.command u.stage) id) (ap log_read (said p M) ∙ reads)
