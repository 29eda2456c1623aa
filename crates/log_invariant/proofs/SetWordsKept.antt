-- Each step keeps it that the words of a log that is to begin are set, from the store on up to the publication.
use Rattle.core_views.specs.Held.{Held}
use Rattle.core_views.specs.LogCommands.{is_all_set}
use Rattle.core_views.specs.Sizes.{actors_of}
use Rattle.core_views.specs.SlotCommands.{arms, change_at_once, slot_armed, slot_invalidated}
use Rattle.core_views.specs.SlotSets.{MemorySlots}
use Rattle.core_views.specs.declared.answer.Answer.TheVariants.{Starved}
use Rattle.core_views.specs.declared.answer.Refusal.{Refusal}
use Rattle.core_views.specs.declared.place.EndPlace.TheVariants as ends
use Rattle.core_views.specs.declared.place.Place.TheVariants as place
use Rattle.core_views.specs.declared.place.Place.{Place}
use Rattle.core_views.specs.declared.place.SlotChangePlace.TheVariants as change
use Rattle.core_views.specs.declared.place.SlotChangePlace.{SlotChangePlace}
use Rattle.core_views.specs.declared.place.WriteProtectPlace.TheVariants as protect
use Rattle.core_views.specs.declared.sizes.Sizes.{Sizes}
use Rattle.core_views.specs.declared.topics.Topics.{Topics}
use Rattle.core_views.specs.declared.trace.Command.TheVariants.{Access, ChangeHost}
use Rattle.core_views.specs.declared.trace.Command.{Command}
use Rattle.core_views.specs.declared.trace.Line.{Line}
use Rattle.core_views.specs.declared.trace.Slot.{Slot as SlotOf}
use Rattle.log_invariant.proofs.ArmingHands.{sets_none}
use Rattle.log_invariant.proofs.LinePlaces.{changes_none, idle_says}
use Rattle.log_invariant.proofs.LogRecords.{armed_at}
use Rattle.log_invariant.proofs.LogWords.{idle_off_log, log_same}
use Rattle.log_invariant.proofs.OtherSetWords.{task_sets}
use Rattle.log_invariant.proofs.StepPlaces.{of_hand}
use Rattle.log_invariant.specs.LogInvariant.{LogInvariant, HasArmedWordsAt}
use Rattle.mmu_core.proofs.invariant.Kept.{line_knows}
use Rattle.mmu_core.proofs.forms.access.AccessParts.{AreSmall}
use Rattle.mmu_core.proofs.lines.EitherPlace.{each_claim, each_watch, either_place}
use Rattle.mmu_core.proofs.lines.KnowsKept.{knows_after, step_knows}
use Rattle.mmu_core.proofs.lines.StepIn.{step_in}
use Rattle.mmu_core.proofs.machine.Columns.{at_upd, same_or, upd_other, upd_same}
use Rattle.mmu_core.proofs.machine.PartStepping.{IsPart}
use Rattle.mmu_core.proofs.machine.Stepping.{IsStep}
use Rattle.mmu_core.proofs.slots.SlotChangeArms.{none_moved}
use Rattle.mmu_core.proofs.forms.slot_change.SlotChangeKept.{record_of}
use Rattle.mmu_core.proofs.forms.slot_change.SlotChangeMakes.{change_needs}
use Rattle.mmu_core.proofs.words.PartTopics.{is_there, part_topics_is}
use Rattle.mmu_core.specs.declared.claim.FreeMap.TheVariants.{Pages}
use Rattle.mmu_core.specs.declared.invalidate.BeginNext.TheVariants as begins_next
use Rattle.mmu_core.specs.declared.invalidate.BeginNext.{BeginNext}
use Rattle.mmu_core.specs.declared.invalidate.EndNext.TheVariants as ends_next
use Rattle.mmu_core.specs.declared.invalidate.EndNext.{EndNext}
use Rattle.mmu_core.specs.declared.write_protect.WriteProtectNext.TheVariants as protects_next
use Rattle.mmu_core.specs.declared.write_protect.WriteProtectNext.{WriteProtectNext}
use Rattle.mmu_core.specs.invariant.Invariant.{Invariant}
use Rattle.mmu_core.specs.invariant.TopicsInvariant.{TopicsInvariant}
use Rattle.mmu_core.specs.forms.slot_change.ArmKnows.{IsInLog}
use Rattle.mmu_core.specs.orders.ClaimSteps.{claim_next}
use Rattle.mmu_core.specs.lines.Forms.{first_place, outcome_at}
use Rattle.mmu_core.specs.orders.InvalidateSteps.{begin_next, end_next}
use Rattle.mmu_core.specs.lines.PartAt.{task_at}
use Rattle.mmu_core.specs.forms.slot_change.SlotChangeSteps.{after_grace, after_protect, after_role, after_set_begin, after_set_end, arm_word, frames_of}
use Rattle.mmu_core.specs.forms.slot_change.SlotChangeSteps.{slot_change_first, slot_change_outcome, slot_change_part, slot_change_task, slot_target}
use Rattle.mmu_core.specs.forms.slot_change.SlotTargets.{arm_bits, log_target}
use Rattle.mmu_core.specs.orders.WatchSteps.{watch_next}
use Rattle.mmu_core.specs.orders.WriteProtectSteps.{protect_next}
use Rattle.mmu_core.specs.machine.Outcomes.{place_after}
use Rattle.mmu_core.specs.machine.Steps.{has_line, idle_after}
use Rattle.mmu_core.specs.machine.View.{View, answer_in, hand_after, part_stepped, stepped, upd, words_after}
use Rattle.part_steps.specs.LogHoldings.{log_begin, log_end}
use Rattle.part_steps.specs.SetHoldings.{own_open}
use Rattle.part_steps.specs.PartSteps.{needs_line}
use Rattle.part_steps.specs.PartTasks.{own_index, part_task, words_filled}
use Rattle.part_steps.specs.Tasks.{kind_of_task}
use Rattle.part_steps.specs.declared.part_step.PartStep.{PartStep}
use Rattle.part_steps.specs.declared.task.Task.{Task}
use Rattle.spte_words.specs.declared.area.Area.TheVariants as area
use Rattle.std.proofs.Common.{ap, arith, inl, inr, refl, subst, sym, ℕ, ◌+◌, ◌<◌, ◌∙◌, ◌≡◌, ◌≢◌, ◌≤◌, ◌⊎◌}
use Rattle.std.proofs.lemmas.Bool.Decides.{nat_tests}
use Rattle.std.specs.Prelude.{Bool, None, Option, Some, false, if◌then◌else◌, nat_lt, true, ◌==◌}

-- ---- the own hand

-- Nothing is set where a line begins.
first_sets : (z : Sizes) (slots : MemorySlots) (h : Held) (log : ℕ → ℕ) (c : Command) → HasArmedWordsAt (first_place z slots c) c h log
first_sets z slots h log (Access gfn word op) = tt
first_sets z slots h log (ChangeHost page change) = tt
first_sets z slots h log c = by (change_at_once z c slots)
  where
    by : (r : Option (Option Refusal)) → HasArmedWordsAt (place.SlotChange (slot_change_first r)) c h log
    by None = tt
    by (Some refusal) = tt

-- What is set where the line stands that makes a step.
pub sets_at_step : (z : Sizes) (v : View) (a : ℕ) (line : Line) (command : Command) (p : Place) → IsStep z v a line command p → LogInvariant z v
    → HasArmedWordsAt p command (v.hand a) (v.words area.Log)
sets_at_step z v a line command p S G =
    of_hand z v a line command p S (λ q c. HasArmedWordsAt q c (v.hand a) (v.words area.Log))
    (λ sizes slots c so. first_sets sizes slots (v.hand a) (v.words area.Log) c) (G.armed_words a S.there)

-- A word is set, and those before it are.
set_to : (log : ℕ → ℕ) (bits : ℕ → ℕ) (word w : ℕ) → w < word + 1 → (w < word → log w ≡ bits w) → upd log word (bits word) w ≡ bits w
set_to log bits word w lt before = by (same_or w word)
  where
    by : (w ≡ word) ⊎ (w ≢ word) → upd log word (bits word) w ≡ bits w
    by (inl e) = subst (λ k. upd log word (bits word) k ≡ bits k) (sym e) (upd_same log word (bits word))
    by (inr ne) = upd_other log word w (bits word) ne ∙ before (omega (arith, lt, ne))

module _ (z : Sizes) (v : View) (a : ℕ) (line : Line) (command : Command) (I : Invariant z v) (P : TopicsInvariant z v) (G : LogInvariant z v) where
  abbrev g : Held
  g = v.hand a

  abbrev slot : SlotOf
  slot = log_target g command

  -- the hand and the log after the step
  abbrev x : SlotChangePlace → ℕ
  x p = answer_in (slot_change_task p g command) v.words

  abbrev after : SlotChangePlace → Held
  after p = hand_after line command (place.SlotChange p) g (x p)

  abbrev log : SlotChangePlace → ℕ → ℕ
  log p = words_after (slot_change_task p g command) v.words area.Log

  stands : (p : Place) → IsStep z v a line command p → HasArmedWordsAt p command g (v.words area.Log)
  stands p S = sets_at_step z v a line command p S G

  -- The line begins no log where none is to begin.
  not_armed : (p : SlotChangePlace) → IsStep z v a line command (place.SlotChange p) → change_at_once z command g.slots ≡ None
      → slot_armed g.slots command ≡ None → arms command ≡ true → ⊥
  not_armed p S works none on =
      let some = (armed_at z (v.words area.Pool) (v.words area.Slots 0) command g.slots (record_of z v a line command p S I) on works).is in
      absurd (cc (none, some))

  -- The word of the log that was next is set.
  armed : (begun : Bool) → HasArmedWordsAt (place.SlotChange (change.Arm begun)) command g (v.words area.Log) → (w : ℕ) → IsInLog slot w
      → w < arm_word begun slot g.topics + 1 → log (change.Arm begun) w ≡ arm_bits (is_all_set g.state.sizes.mode) slot w
  armed true W w in_log lt = set_to (v.words area.Log) (arm_bits (is_all_set g.state.sizes.mode) slot) g.topics.next_log_word w lt (W w in_log)
  armed false W w in_log lt =
      let from = in_log.0 in
      set_to (v.words area.Log) (arm_bits (is_all_set g.state.sizes.mode) slot) (log_begin slot) w lt (λ less. absurd (omega (arith, from, less)))

  own_sets : (p : SlotChangePlace) → IsStep z v a line command (place.SlotChange p)
      → HasArmedWordsAt (place_after (slot_change_outcome p command g (x p))) command (after p) (log p)
  own_sets (change.AtOnce refusal) S = tt
  own_sets (change.Claim begun) S =
      each_claim (λ o. HasArmedWordsAt (place_after o) command (after (change.Claim begun)) (log (change.Claim begun)))
      (claim_next Pages begun g.state.sizes g.topics.claim (x (change.Claim begun)))
      (place.SlotChange (change.Claim true)) (place.SlotChange change.Fill) Starved tt tt tt
  own_sets change.Fill S =
      either_place (λ q. HasArmedWordsAt (place.SlotChange q) command (after change.Fill) (log change.Fill))
      (nat_lt (words_filled g.topics.owned + 1) 512) change.Fill change.Role tt tt
  own_sets change.Role S = by (slot_invalidated g.slots command) (slot_armed g.slots command) refl
    where
      by : (old_ new_ : Option SlotOf) → slot_armed g.slots command ≡ new_
          → HasArmedWordsAt (place.SlotChange (after_role old_ new_)) command (after change.Role) (log change.Role)
      by (Some s) new_ is = tt
      by None (Some s) is = tt
      by None None is = λ on. absurd (not_armed change.Role S S.holds.works is on)
  own_sets (change.Arm begun) S = by (nat_lt (word + 1) (log_end slot)) refl
    where
      word : ℕ
      word = arm_word begun slot g.topics

      W : HasArmedWordsAt (place.SlotChange (change.Arm begun)) command g (v.words area.Log)
      W = stands (place.SlotChange (change.Arm begun)) S

      next : (after (change.Arm begun)).topics.next_log_word ≡ word + 1
      next =
          ap (λ (t : Topics). t.next_log_word)
          (part_topics_is g.state.sizes (slot_change_part (change.Arm begun) g command) (own_index g) g.topics 0 (x (change.Arm begun))
          (is_there (slot_change_part (change.Arm begun) g command) g (change_needs z v a line (change.Arm begun) command S I P)))

      by : (b : Bool) → nat_lt (word + 1) (log_end slot) ≡ b
          → HasArmedWordsAt (place.SlotChange (if b then change.Arm true else change.Exclude)) command (after (change.Arm begun)) (log (change.Arm begun))
      by true is = λ w in_log lt. armed begun W w in_log (subst (λ n. w < n) next lt)
      by false is = λ on w in_log lt.
          let last : log_end slot ≤ word + 1 = grind (arith, nat_tests) in armed begun W w in_log (omega (arith, lt, last))
  own_sets (change.Begin p) S = by (begin_next p g.state.sizes (slot_target g command) g.topics (x (change.Begin p)))
    where
      by : (n : BeginNext) → HasArmedWordsAt (place.SlotChange (after_set_begin n)) command (after (change.Begin p)) (log (change.Begin p))
      by (begins_next.Goes q) = tt
      by begins_next.Begun = λ on.
          let moves = (step_knows z v a line command (place.SlotChange (change.Begin p)) S I).1.2 in
          let none = none_moved g.slots command on in absurd (cc (moves, none))
  own_sets change.Exclude S =
      either_place (λ q. HasArmedWordsAt (place.SlotChange q) command (after change.Exclude) (log change.Exclude)) (x change.Exclude == 0)
      change.Count change.Exclude (stands (place.SlotChange change.Exclude) S) (stands (place.SlotChange change.Exclude) S)
  own_sets change.Count S =
      either_place (λ q. HasArmedWordsAt (place.SlotChange q) command (after change.Count) (log change.Count))
      (x change.Count == own_open g.topics.invalidations)
      change.Publish change.Close (stands (place.SlotChange change.Count) S) (stands (place.SlotChange change.Count) S)
  own_sets change.Close S = stands (place.SlotChange change.Close) S
  own_sets change.Publish S = tt
  own_sets change.Release S =
      either_place (λ q. HasArmedWordsAt (place.SlotChange q) command (after change.Release) (log change.Release)) g.topics.invalidations.opened
      (change.End ends.Exclude) change.Watch tt tt
  own_sets (change.End p) S = by (end_next p (x (change.End p)))
    where
      by : (n : EndNext) → HasArmedWordsAt (place.SlotChange (after_set_end n)) command (after (change.End p)) (log (change.End p))
      by (ends_next.Goes q) = tt
      by ends_next.Ended = tt
  own_sets change.Watch S =
      each_watch (λ q. HasArmedWordsAt (place.SlotChange q) command (after change.Watch) (log change.Watch)) (watch_next g (x change.Watch))
      change.Watch (after_grace g.state.sizes (slot_armed g.slots command)) tt (by (slot_armed g.slots command))
    where
      by : (begun : Option SlotOf) → HasArmedWordsAt (place.SlotChange (after_grace g.state.sizes begun)) command (after change.Watch) (log change.Watch)
      by None = tt
      by (Some s) =
          either_place (λ q. HasArmedWordsAt (place.SlotChange q) command (after change.Watch) (log change.Watch)) (is_all_set g.state.sizes.mode)
          change.Clear (change.WriteProtect (frames_of s) protect.Exclude) tt tt
  own_sets (change.WriteProtect range p) S = by (protect_next p g.state.sizes range g.topics (x (change.WriteProtect range p)))
    where
      by : (n : WriteProtectNext) → HasArmedWordsAt (place.SlotChange (after_protect range n)) command (after (change.WriteProtect range p))
          (log (change.WriteProtect range p))
      by (protects_next.Goes q) = tt
      by protects_next.Over = tt
  own_sets change.Clear S = tt
  own_sets change.Give S = tt

  -- Other lines set none.
  line_sets : (p : Place) → IsStep z v a line command p
      → HasArmedWordsAt (place_after (outcome_at p command g (answer_in (task_at p command g) v.words))) command
      (hand_after line command p g (answer_in (task_at p command g) v.words)) (words_after (task_at p command g) v.words area.Log)
  line_sets (place.SlotChange p) S = own_sets p S
  line_sets p S =
      let found : ℕ = answer_in (task_at p command g) v.words in
      sets_none (place_after (outcome_at p command g found)) command (hand_after line command p g found) (words_after (task_at p command g) v.words area.Log)
      (knows_after (outcome_at p command g found) command (hand_after line command p g found) (line_knows z v a line command p S I P S.there))
      (changes_none z (v.words area.Pool) (v.words area.Slots 0) p command g refl S.begun S.holds (step_knows z v a line command p S I))

-- ---- each step

-- By a line.
pub set_words_kept : (z : Sizes) (v : View) (a : ℕ) (line : Line) (command : Command) (p : Place) → AreSmall v → IsStep z v a line command p
    → Invariant z v → TopicsInvariant z v → LogInvariant z v → (j : ℕ) → j < actors_of z
    → HasArmedWordsAt ((stepped a line command p v).hand j).state.place ((stepped a line command p v).hand j).state.line.command
    ((stepped a line command p v).hand j) ((stepped a line command p v).words area.Log)
set_words_kept z v a line command p small S I P G =
    at_upd (λ j (h : Held). j < actors_of z → HasArmedWordsAt h.state.place h.state.line.command h (words_after task v.words area.Log)) v.hand a _
    (λ there. subst (λ c. HasArmedWordsAt (place_after (outcome_at p command (v.hand a) x)) c (hand_after line command p (v.hand a) x)
    (words_after task v.words area.Log)) (sym S.command_is) (line_sets z v a line command I P G p S))
    (λ j ne there. task_sets z v a j there ne I P G task (step_in z v a line command p small S I P))
  where
    task : Task
    task = task_at p command (v.hand a)

    x : ℕ
    x = answer_in task v.words

-- By an actor with no line left.
pub idle_set_words_kept : (z : Sizes) (v : View) (a : ℕ) (step : PartStep) (note : ℕ) → IsPart z v a step → needs_line step ≡ false
    → has_line (v.hand a) ≡ false → Invariant z v → LogInvariant z v → (j : ℕ) → j < actors_of z
    → HasArmedWordsAt ((part_stepped a step note v).hand j).state.place ((part_stepped a step note v).hand j).state.line.command
    ((part_stepped a step note v).hand j) ((part_stepped a step note v).words area.Log)
idle_set_words_kept z v a step note S free none I G =
    at_upd (λ j (h : Held). j < actors_of z → HasArmedWordsAt h.state.place h.state.line.command h log) v.hand a after
    (λ there. idle_says (λ q. HasArmedWordsAt q (v.hand a).state.line.command after log) (v.hand a) none (I.lines a there).under tt)
    (λ j ne there. subst (HasArmedWordsAt (v.hand j).state.place (v.hand j).state.line.command (v.hand j)) (sym same) (G.armed_words j there))
  where
    task : Task
    task = part_task step (own_index (v.hand a)) (v.hand a).topics note

    after : Held
    after = idle_after (v.hand a) (kind_of_task (v.hand a).state.sizes task) (answer_in task v.words)

    log : ℕ → ℕ
    log = words_after task v.words area.Log

    same : log ≡ v.words area.Log
    same = log_same step (own_index (v.hand a)) (v.hand a).topics note v.words (idle_off_log step free)
