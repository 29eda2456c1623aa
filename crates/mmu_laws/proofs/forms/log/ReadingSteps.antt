-- What a reading of a dirty log has read after each of its steps, whatever the form of its line; and what it has read in the end it may read.
use Rattle.core_views.specs.Migrations.{is_stopped}
use Rattle.std.proofs.Common.{◌≡◌, ◌≤◌, ◌+◌, ◌++◌, List, [], ◌∷◌, ℕ, arith, refl, sym, subst, ap, ◌∙◌}
use Rattle.std.proofs.lemmas.Bool.Decides.{nat_tests}
use Rattle.std.proofs.lemmas.Option.{same_Some}
use Rattle.std.specs.Prelude.{Bool, true, false, if◌then◌else◌, Option, Some}
use Rattle.core_views.specs.declared.actor.Actor.{Actor}
use Rattle.core_views.specs.declared.actor.Actor.TheVariants.{Manager}
use Rattle.core_views.specs.declared.event.EventKind.{EventKind}
use Rattle.core_views.specs.declared.event.EventKind.TheVariants.{Taken}
use Rattle.core_views.specs.declared.place.LogPlace.{LogPlace}
use Rattle.core_views.specs.declared.place.LogPlace.TheVariants.{Peek}
use Rattle.core_views.specs.declared.place.Place.{Place}
use Rattle.core_views.specs.declared.sizes.Sizes.{Sizes}
use Rattle.core_views.specs.declared.trace.Command.{Command}
use Rattle.core_views.specs.declared.trace.Line.{Line}
use Rattle.core_views.specs.declared.trace.Slot.{Slot as SlotOf}
use Rattle.core_views.specs.Events.{after_all, past_after}
use Rattle.core_views.specs.Flat.{Facts, Flat}
use Rattle.core_views.specs.Harvests.{IsHarvest}
use Rattle.core_views.specs.Held.{Held}
use Rattle.core_views.specs.LogCommands.{log_read}
use Rattle.core_views.specs.Past.{Past}
use Rattle.core_views.specs.SlotSets.{slot_of_id}
use Rattle.core_views.specs.Slots.{contains}
use Rattle.spte_words.specs.declared.area.Area.TheVariants as area
use Rattle.part_steps.specs.PartTopics.{part_topics}
use Rattle.part_steps.specs.SlotWords.{page_of}
use Rattle.mmu_core.specs.forms.log.LogKnows.{AreAsked, IsReading, LogKnows, Reads}
use Rattle.mmu_core.specs.forms.log.LogSteps.{first_word, frames_read, log_part, read_more, reads_last}
use Rattle.mmu_core.specs.forms.log.LogSteps.{slot_asked, word_end, word_read}
use Rattle.mmu_core.specs.machine.Steps.{task_at}
use Rattle.mmu_core.specs.machine.View.{View, answer_in, hand_after, stepped}
use Rattle.mmu_core.proofs.lines.KnowsKept.{step_knows}
use Rattle.mmu_core.proofs.forms.log.LogKnownWords.{reads_all}
use Rattle.mmu_core.proofs.forms.log.ReadingPlaces.{IsOfReading, reading_is}
use Rattle.mmu_core.proofs.machine.PartStepping.{behind_part}
use Rattle.mmu_core.specs.forms.access.AccessSteps.{task_by}
use Rattle.mmu_core.specs.lines.Forms.{note_at, part_at}
use Rattle.mmu_core.specs.lines.PartAt.{touch_at}
use Rattle.mmu_core.specs.forms.log.Readings.{Reading, reading_at}
use Rattle.part_steps.specs.PartTasks.{own_index, part_task}
use Rattle.part_steps.specs.declared.part_step.PartStep.{PartStep}
use Rattle.part_steps.specs.declared.task.Task.{Task}
use Rattle.mmu_core.proofs.machine.Stepping.{IsStep}
use Rattle.log_invariant.specs.Covered.{is_marked}
use Rattle.log_invariant.specs.forms.log.LogReads.{has_taken, taken_of}
use Rattle.log_invariant.proofs.StepPlaces.{step_at, topics_named}
use Rattle.mmu_laws.specs.flat.FlatLogs.{FlatLogs}
use Rattle.mmu_laws.proofs.forms.log.HarvestLogs.{read_here}
use Rattle.mmu_laws.proofs.flat.LogsKept.{ReadyLogs}
use Rattle.mmu_laws.proofs.forms.log.OwnReadings.{peek_reads, reads_more}
use Rattle.mmu_laws.proofs.flat.QuietKinds.{quiet_told}
use Rattle.mmu_laws.proofs.forms.log.ReadingBegins.{are_written, begins_reading, begun_facts, begun_flat, begun_logs}
use Rattle.mmu_laws.specs.forms.log.ReadSoFar.{HasReadTo, ReadSoFar}
use Rattle.mmu_laws.proofs.forms.log.Readings.{may_harvest}
use Rattle.mmu_laws.proofs.forms.log.ReadSlots.{ReadsOf, reads_of}
use Rattle.mmu_laws.proofs.forms.log.TakenStays.{taken_here}
use Rattle.mmu_laws.proofs.flat.Told.{told}

-- What is told in two parts.
pub told_after : (actor : Actor) (kinds more : List EventKind) (f : Flat)
    → ◌≡◌ {A = Flat} (after_all (told actor (kinds ++ more)) f) (after_all (told actor more) (after_all (told actor kinds) f))
told_after actor [] more f = refl
told_after actor (kind ∷ kinds) more f = told_after actor kinds more _

module _ (z : Sizes) (v : View) (f : Flat) (a : ℕ) (line : Line) (own_command : Command) (p : Place) (command : Command) (ready : ReadyLogs z v f)
    (S : IsStep z v a line own_command p) where
  abbrev h : Held
  h = v.hand a

  abbrev slot : SlotOf
  slot = slot_asked h command

  abbrev log : ℕ → ℕ
  log = v.words area.Log

  -- what the step finds, and the hand and the log after it
  abbrev pub x : ℕ
  x = answer_in (task_at p own_command h) v.words

  abbrev pub then_ : Held
  then_ = hand_after line own_command p h x

  abbrev pub after : ℕ → ℕ
  after = (stepped a line own_command p v).words area.Log

  -- The reading with this command is under way, and stands at this place of its order.
  abbrev pub At : LogPlace → Type 0
  At q = reading_at p own_command h ≡ Some (record { place = q; command = command })

  -- the flat state once the line has begun
  abbrev pub begun : Flat
  begun = begun_flat h.state.actor h.state.place line f

  there : (q : LogPlace) → At q → IsOfReading p own_command h (record { place = q; command = command })
  there q at = reading_is p own_command h _ at

  pub task_is : (q : LogPlace) → At q → task_at p own_command h ≡ part_task (log_part q h command) (own_index h) h.topics (note_at p own_command h)
  task_is q at = ap (λ (s : Option PartStep). task_by s h (note_at p own_command h) (touch_at own_command h)) (there q at).part

  pub found_is : (q : LogPlace) → At q
      → x ≡ answer_in (part_task (log_part q h command) (own_index h) h.topics (note_at p own_command h)) v.words
  found_is q at = ap (λ (task : Task). answer_in task v.words) (task_is q at)

  pub knows : (q : LogPlace) → At q → LogKnows q command h
  knows q at = (there q at).knows (step_knows z v a line own_command p S ready.holds)

  manager : (q : LogPlace) → At q → h.state.actor ≡ Manager
  manager q at = sym S.own ∙ (there q at).managers z line.actor (step_knows z v a line own_command p S ready.holds) S.allowed

  pub named : (q : LogPlace) → At q → Reads command h → ReadsOf v h command
  named q at K = reads_of z v a command ready.holds S.there (manager q at) K

  pub had : (q : LogPlace) → At q → ReadSoFar (Some (record { place = q; command = command })) h log f.past
  had q at = subst (λ (o : Option Reading). ReadSoFar o h log f.past) at (read_here z v a line own_command p f S ready.reads)

  pub topics : (q : LogPlace) → At q → then_.topics ≡ part_topics (log_part q h command) h.topics x
  topics q at =
      topics_named z v a (part_at p own_command h) (task_at p own_command h) x
      (step_at z v a line own_command p ready.small S ready.holds ready.topics)
      ∙ ap (λ (s : Option PartStep). behind_part s h.topics x) (there q at).part

  -- A bit of the slot's log that is set has a cause, of a flat state with these logs.
  pub causes : (q : LogPlace) (at : At q) (K : Reads command h) (g : Flat) → FlatLogs z v g → (gfn : ℕ) → contains gfn slot ≡ true
      → is_marked log (page_of slot gfn) ≡ true → g.past.causes gfn ≡ true
  causes q at K g L gfn has marked = let N = named q at K in L.caused gfn N.id slot N.logged has marked

  -- ---- the log begins to be read

  pub begins : (q : LogPlace) (at : At q) (K : Reads command h) → has_taken q ≡ false → (out : Bool)
      → HasReadTo log slot command out [] (first_word slot command) (past_after h.state.actor (Taken (named q at K).id) begun.facts begun.past)
  begins q at K none out =
      begins_reading z v a command ready.holds S.there (manager q at)
      (λ gfn T. let is = (subst (λ (o : Option Reading). (taken_of o h).Has gfn) at (taken_here z v a line own_command p S gfn T)).0 in cc (none, is))
      (named q at K) begun
      (begun_logs z v h.state.actor h.state.place line f ready.logs)
      (are_written z v a line own_command p f S ready.holds ready.covered ready.flat ready.lines) h.state.actor (named q at K).id out
      (ap (λ (facts : Facts). is_stopped facts.migration) (begun_facts h.state.actor h.state.place line f) ∙ ap is_stopped ready.flat.refines.idle)

  -- Of the words that it has read by loads the next one is read.
  peeks : (begun_ : Bool) (at : At (Peek begun_)) (g : Flat) → FlatLogs z v g
      → HasReadTo log slot command false (if begun_ then h.harvest else []) (word_read begun_ slot command h.topics) g.past
      → HasReadTo log slot command false (read_more begun_ slot command h x) (word_read begun_ slot command h.topics + 1) g.past
  peeks begun_ at g L H =
      let K = knows (Peek begun_) at in
      let W = (named (Peek begun_) at K.1).whole in
      subst (λ y. HasReadTo log slot command false (read_more begun_ slot command h y) (word_read begun_ slot command h.topics + 1) g.past)
      (sym (found_is (Peek begun_) at))
      (reads_more begun_ slot command W h log log false g.past K.3 (peek_reads slot command W log (word_read begun_ slot command h.topics))
      (causes (Peek begun_) at K.1 g L) H)

  -- the flat state as the line goes on with its loads: the log has begun to be read, with this load or before
  abbrev pub taken_flat : (q : LogPlace) (at : At q) (K : Reads command h) → Flat
  taken_flat q at K = after_all (told h.state.actor (Taken (named q at K).id ∷ [])) begun

  pub first_peek : (at : At (Peek false))
      → HasReadTo log slot command false (read_more false slot command h x) (first_word slot command + 1)
      (taken_flat (Peek false) at (knows (Peek false) at).1).past
  first_peek at =
      let K = (knows (Peek false) at).1 in
      peeks false at (taken_flat (Peek false) at K)
      (quiet_told _ log (v.words area.Pool) (v.words area.Slots 0) v.hand h.state.actor (Taken (named (Peek false) at K).id ∷ []) begun (tt, tt)
      (begun_logs z v h.state.actor h.state.place line f ready.logs)) (begins (Peek false) at K refl false)

  pub next_peek : (at : At (Peek true))
      → HasReadTo log slot command false (read_more true slot command h x) (h.topics.next_log_word + 1) f.past
  next_peek at = peeks true at f ready.logs (had (Peek true) at refl)

  -- The word that it loads is the last one.
  pub last_word : (begun_ : Bool) → IsReading begun_ slot command h → reads_last begun_ slot command h.topics ≡ true
      → word_read begun_ slot command h.topics + 1 ≡ word_end slot command
  last_word begun_ K last =
      let left = K.left in
      let end : word_end slot command ≤ word_read begun_ slot command h.topics + 1 = grind (arith, nat_tests) in
      omega (arith, left, end)

  -- ---- what it may read in the end

  record_slots : (q : LogPlace) → At q → begun.facts.slots ≡ h.slots
  record_slots q at =
      ap (λ (facts : Facts). facts.slots) (begun_facts h.state.actor h.state.place line f)
      ∙ ready.flat.refines.slots ∙ sym (ready.holds.recorded a S.there (manager q at)).same

  pub may_read : (q : LogPlace) (at : At q) (K : Reads command h) (out : Bool) (words : List ℕ) (past : Past) (id : ℕ) → log_read command ≡ Some id
      → AreAsked slot command words → HasReadTo log slot command out words (word_end slot command) past
      → IsHarvest begun.facts past command id (frames_read slot command words)
  may_read q at K out words past id reads asked H =
      let N = named q at K in
      let one : N.id ≡ id = same_Some N.id id (sym N.reads ∙ reads) in
      may_harvest slot command N.whole log out words past begun.facts id N.slot N.same
      (ap (slot_of_id id) (record_slots q at) ∙ ap (λ k. slot_of_id k h.slots) (sym one) ∙ N.there) asked H

  pub all_asked : (begun_ : Bool) (at : At (Peek begun_)) → reads_last begun_ slot command h.topics ≡ true
      → AreAsked slot command (read_more begun_ slot command h x)
  all_asked begun_ at last =
      (reads_all begun_ slot command h (record h { harvest = read_more begun_ slot command h x }) x (knows (Peek begun_) at).3 refl last).asked
