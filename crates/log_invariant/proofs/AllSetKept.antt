-- Each step keeps it that all pages of a slot are marked whose log begins with each page dirty, from the publication on up to the end of the watch.
use Rattle.core_views.specs.Held.{Held}
use Rattle.core_views.specs.LogCommands.{is_all_set}
use Rattle.core_views.specs.Sizes.{actors_of}
use Rattle.core_views.specs.SlotCommands.{change_at_once, changes_slot, slot_armed}
use Rattle.core_views.specs.SlotSets.{MemorySlots}
use Rattle.core_views.specs.Slots.{contains}
use Rattle.core_views.specs.declared.actor.Actor.TheVariants.{Manager}
use Rattle.core_views.specs.declared.answer.Refusal.{Refusal}
use Rattle.core_views.specs.declared.place.EndPlace.TheVariants as ends
use Rattle.core_views.specs.declared.place.EndPlace.{EndPlace}
use Rattle.core_views.specs.declared.place.Place.TheVariants as place
use Rattle.core_views.specs.declared.place.Place.{Place}
use Rattle.core_views.specs.declared.place.SlotChangePlace.TheVariants as change
use Rattle.core_views.specs.declared.place.SlotChangePlace.{SlotChangePlace}
use Rattle.core_views.specs.declared.place.WriteProtectPlace.TheVariants as protect
use Rattle.core_views.specs.declared.sizes.Sizes.{Sizes}
use Rattle.core_views.specs.declared.topics.Topics.{Topics}
use Rattle.core_views.specs.declared.trace.Command.TheVariants.{Access, ChangeHost, ChangeRun, ClearLog, GetLog, Split}
use Rattle.core_views.specs.declared.trace.Command.{Command}
use Rattle.core_views.specs.declared.trace.Line.{Line}
use Rattle.core_views.specs.declared.trace.Slot.{Slot as SlotOf}
use Rattle.log_invariant.proofs.ArmBits.{all_bits, word_of_page}
use Rattle.log_invariant.proofs.ArmedWords.{armed_now}
use Rattle.log_invariant.proofs.LinePlaces.{changes_none, idle_says}
use Rattle.log_invariant.proofs.LogWords.{idle_off_log, is_on_log, log_same, marked_still, touch_leaves_log}
use Rattle.log_invariant.proofs.PublishedLogs.{armed_stays}
use Rattle.log_invariant.proofs.StepPlaces.{of_hand}
use Rattle.log_invariant.specs.Covered.{is_marked}
use Rattle.log_invariant.specs.forms.slot_change.LogBegins.{LogIsUnwatched, LogIsUnwatchedAt, is_unwatched}
use Rattle.log_invariant.specs.LogInvariant.{LogInvariant}
use Rattle.mmu_core.proofs.held.FreshFrames.{behind_it}
use Rattle.mmu_core.proofs.held.OthersStay.{retires_none}
use Rattle.mmu_core.proofs.invariant.Kept.{line_knows}
use Rattle.mmu_core.proofs.forms.access.AccessParts.{AreSmall}
use Rattle.mmu_core.proofs.lines.EitherPlace.{each_watch, either_place}
use Rattle.mmu_core.proofs.lines.KnowsKept.{knows_after, step_knows, step_leaves}
use Rattle.mmu_core.proofs.lines.LinesKept.{one_manager}
use Rattle.mmu_core.proofs.lines.StepIn.{Makes, StepIn, Touches, step_in}
use Rattle.mmu_core.proofs.machine.Columns.{at_upd}
use Rattle.mmu_core.proofs.machine.PartStepping.{IsPart}
use Rattle.mmu_core.proofs.machine.Stepping.{IsStep}
use Rattle.mmu_core.proofs.forms.slot_change.SlotChangeKept.{change_hand}
use Rattle.mmu_core.proofs.forms.slot_change.SlotChangePlaces.{change_never, is_publication}
use Rattle.mmu_core.specs.declared.invalidate.EndNext.TheVariants as ends_next
use Rattle.mmu_core.specs.declared.invalidate.EndNext.{EndNext}
use Rattle.mmu_core.specs.declared.write_protect.WriteProtectNext.TheVariants as protects_next
use Rattle.mmu_core.specs.declared.write_protect.WriteProtectNext.{WriteProtectNext}
use Rattle.mmu_core.specs.invariant.Invariant.{Invariant, OwnLines}
use Rattle.mmu_core.specs.invariant.TopicsInvariant.{TopicsInvariant}
use Rattle.mmu_core.specs.lines.Forms.{KnowsPart, first_place, outcome_at}
use Rattle.mmu_core.specs.orders.InvalidateSteps.{end_next, end_part}
use Rattle.mmu_core.specs.forms.slot_change.SlotChangeKnows.{slot_change_retires}
use Rattle.mmu_core.specs.forms.slot_change.SlotChangeSteps.{after_grace, after_protect, after_set_end, frames_of, slot_change_first, slot_change_note}
use Rattle.mmu_core.specs.forms.slot_change.SlotChangeSteps.{slot_change_outcome, slot_change_part, slot_change_task}
use Rattle.mmu_core.specs.forms.slot_change.SlotTargets.{arm_bits}
use Rattle.mmu_core.specs.orders.WatchSteps.{watch_next}
use Rattle.mmu_core.specs.orders.WriteProtectSteps.{protect_next}
use Rattle.mmu_core.specs.machine.Outcomes.{place_after}
use Rattle.mmu_core.specs.machine.Steps.{has_line, idle_after, task_at}
use Rattle.mmu_core.specs.machine.View.{View, answer_in, hand_after, part_stepped, stepped, words_after}
use Rattle.part_steps.specs.PartSteps.{needs_line}
use Rattle.part_steps.specs.PartTasks.{own_index, page_owed, part_task}
use Rattle.part_steps.specs.SlotWords.{page_of}
use Rattle.part_steps.specs.Tasks.{kind_of_task}
use Rattle.part_steps.specs.declared.part_step.PartStep.TheVariants as part
use Rattle.part_steps.specs.declared.part_step.PartStep.{PartStep}
use Rattle.part_steps.specs.declared.task.Task.{Task}
use Rattle.spte_words.specs.Bits.{has_bit}
use Rattle.spte_words.specs.declared.area.Area.TheVariants as area
use Rattle.std.proofs.Common.{ap, refl, subst, sym, ℕ, ◌%◌, ◌/◌, ◌<◌, ◌∙◌, ◌≡◌, ◌≢◌}
use Rattle.std.specs.Prelude.{None, Option, Some, false, is_some, true}

-- What is so of a hand at a place of a line.
abbrev IsAllSetAt : Sizes → Place → Command → Held → (ℕ → ℕ) → Type 0
IsAllSetAt z p command h log =
    (gfn : ℕ) (slot : SlotOf) → is_all_set z.mode ≡ true → LogIsUnwatchedAt p command h gfn → slot_armed h.slots command ≡ Some slot
    → is_marked log (page_of slot gfn) ≡ true

-- Only a line that changes a slot stands there, and its hand has retired a page.
opens_changes : (p : Place) (command : Command) (h : Held) (gfn : ℕ) → LogIsUnwatchedAt p command h gfn → KnowsPart p command h → changes_slot command ≡ true
opens_changes (place.SlotChange p) command h gfn O K = K.0
opens_changes _ command h gfn O K = absurd O

opens_manager : (z : Sizes) (i : ℕ) (h : Held) (p : Place) (command : Command) (gfn : ℕ) → OwnLines z i h → h.state.place ≡ p → h.state.line.command ≡ command
    → LogIsUnwatchedAt p command h gfn → KnowsPart p command h → h.state.actor ≡ Manager
opens_manager z i h (place.SlotChange p) command gfn O at said opens K = change_hand z i h p command O at said K.0
opens_manager z i h _ command gfn O at said opens K = absurd opens

opens_retired : (p : Place) (command : Command) (h : Held) (gfn : ℕ) → LogIsUnwatchedAt p command h gfn → KnowsPart p command h
    → is_some h.topics.retired ≡ true
opens_retired (place.SlotChange change.Release) command h gfn O K = K.1.1.leaves
opens_retired (place.SlotChange (change.End p)) command h gfn O K = K.1.1.leaves
opens_retired (place.SlotChange change.Watch) command h gfn O K = K.1.1.leaves
opens_retired (place.SlotChange _) command h gfn O K = let none = O.0 in absurd (cc none)
opens_retired _ command h gfn O K = absurd O

-- ---- other hands

module _ (z : Sizes) (v : View) (a j : ℕ) (there : j < actors_of z) (ne : j ≢ a) (I : Invariant z v) (G : LogInvariant z v) where
  abbrev h : Held
  h = v.hand j

  abbrev AllSet : (ℕ → ℕ) → Type 0
  AllSet log = IsAllSetAt z h.state.place h.state.line.command h log

  was : AllSet (v.words area.Log)
  was gfn slot mode opens is = G.all_marked j gfn slot there mode opens is

  not_manager : (gfn : ℕ) → LogIsUnwatched h gfn → a < actors_of z → (v.hand a).state.actor ≡ Manager → ⊥
  not_manager gfn opens lt manager =
      let own_ = opens_manager z j h h.state.place h.state.line.command gfn (I.lines j there) refl refl opens (I.knows j there) in
      ne (one_manager z j a h (v.hand a) (I.lines j there) (I.lines a lt) own_ manager)

  part_all_set : (step : PartStep) (note : ℕ) → IsPart z v a step
      → AllSet (words_after (part_task step (own_index (v.hand a)) (v.hand a).topics note) v.words area.Log)
  part_all_set part.Mark note S = λ gfn slot mode opens is.
      marked_still (v.words area.Log) (page_owed (v.hand a).topics) (page_of slot gfn) (was gfn slot mode opens is)
  part_all_set (part.Take word mask) note S = λ gfn slot mode opens is. absurd (not_manager gfn opens S.there S.needs.reads.manager)
  part_all_set (part.Arm word bits) note S = λ gfn slot mode opens is. absurd (not_manager gfn opens S.there S.needs.reads.manager)
  part_all_set _ note S = was

  task_all_set : (task : Task) → StepIn z v a task → AllSet (words_after task v.words area.Log)
  task_all_set _ (Makes step note S) = part_all_set step note S
  task_all_set _ (Touches op index) = subst AllSet (sym (touch_leaves_log v.words op index)) was

-- ---- the own hand

end_off_log : (p : EndPlace) (t : Topics) → is_on_log (end_part p t) ≡ false
end_off_log ends.Exclude t = refl
end_off_log ends.Seq t = refl
end_off_log ends.SetSeq t = refl
end_off_log ends.Count t = refl
end_off_log ends.SetCount t = refl
end_off_log ends.Release t = refl

-- No line opens a log where it begins.
first_all_set : (z y : Sizes) (slots : MemorySlots) (h : Held) (log : ℕ → ℕ) (c : Command) → IsAllSetAt z (first_place y slots c) c h log
first_all_set z y slots h log (Access gfn word op) = λ gfn slot mode O is. absurd O
first_all_set z y slots h log (ChangeHost page change) = λ gfn slot mode O is. absurd O
first_all_set z y slots h log (ChangeRun page change) = λ gfn slot mode O is. absurd O
first_all_set z y slots h log (GetLog id) = λ gfn slot mode O is. absurd O
first_all_set z y slots h log (ClearLog id first count words) = λ gfn slot mode O is. absurd O
first_all_set z y slots h log (Split gfn) = λ gfn slot mode O is. absurd O
first_all_set z y slots h log c = by (change_at_once y c slots)
  where
    by : (r : Option (Option Refusal)) → IsAllSetAt z (place.SlotChange (slot_change_first r)) c h log
    by None = λ gfn slot mode O is. let none = O.0 in absurd (cc none)
    by (Some refusal) = λ gfn slot mode O is. let none = O.0 in absurd (cc none)

module _ (z : Sizes) (v : View) (a : ℕ) (line : Line) (command : Command) (I : Invariant z v) (P : TopicsInvariant z v) (G : LogInvariant z v) where
  abbrev g : Held
  g = v.hand a

  -- the hand and the log after the step
  abbrev x : SlotChangePlace → ℕ
  x p = answer_in (slot_change_task p g command) v.words

  abbrev after : SlotChangePlace → Held
  after p = hand_after line command (place.SlotChange p) g (x p)

  abbrev log : SlotChangePlace → ℕ → ℕ
  log p = words_after (slot_change_task p g command) v.words area.Log

  stands : (p : Place) → IsStep z v a line command p → IsAllSetAt z p command g (v.words area.Log)
  stands p S =
      of_hand z v a line command p S (λ q c. IsAllSetAt z q c g (v.words area.Log)) (λ y slots c so. first_all_set z y slots g (v.words area.Log) c)
      (λ gfn slot mode O is. G.all_marked a gfn slot S.there mode O is)

  closed : (p : SlotChangePlace) → (q : SlotChangePlace) → is_unwatched q ≡ false → IsAllSetAt z (place.SlotChange q) command (after p) (log p)
  closed p q none = λ gfn slot mode O is. let some = O.0 in absurd (cc (some, none))

  -- With the publication the bit of each page is set: those of the words were.
  published : IsStep z v a line command (place.SlotChange change.Publish) → (gfn : ℕ) (slot : SlotOf) → is_all_set z.mode ≡ true
      → slot_armed g.slots command ≡ Some slot → contains gfn slot ≡ true → is_marked (v.words area.Log) (page_of slot gfn) ≡ true
  published S gfn slot mode is holds =
      let A = armed_now z v a line command slot S I G is in
      let has = (behind_it slot gfn holds).0 in
      ap (has_bit (page_of slot gfn % 64))
      (A.words (page_of slot gfn / 64) (word_of_page (page_of slot gfn) slot A.even has) ∙ ap (λ b. arm_bits b slot (page_of slot gfn / 64)) mode)
      ∙ all_bits (page_of slot gfn) slot A.even has

  -- Before it no page is retired, and so no log opens.
  none_opens : (p : SlotChangePlace) → IsStep z v a line command (place.SlotChange p) → slot_change_retires p ≡ false → is_publication p ≡ false
      → IsAllSetAt z (place_after (slot_change_outcome p command g (x p))) command (after p) (log p)
  none_opens p S may never gfn slot mode O is =
      let K = knows_after (slot_change_outcome p command g (x p)) command (after p) (line_knows z v a line command (place.SlotChange p) S I P S.there) in
      let some = opens_retired (place_after (slot_change_outcome p command g (x p))) command (after p) gfn O K in
      let none : (after p).topics.retired ≡ None =
      retires_none (slot_change_part p g command) g.state.sizes (own_index g) g.topics (slot_change_note p g) (x p) (change_never p g command never)
      ((step_leaves z v a line command (place.SlotChange p) S I).leaves may) in
      let nothing : is_some (after p).topics.retired ≡ false = ap is_some none in
      absurd (cc (some, nothing))

  own_all_set : (p : SlotChangePlace) → IsStep z v a line command (place.SlotChange p)
      → IsAllSetAt z (place_after (slot_change_outcome p command g (x p))) command (after p) (log p)
  own_all_set change.Publish S = λ gfn slot mode O is.
      let begun : slot_armed g.slots command ≡ Some slot = sym (armed_stays g.slots command) ∙ is in
      published S gfn slot mode begun (subst (λ s. contains gfn s ≡ true) (same_slot (sym O.2 ∙ is)) O.3)
    where
      same_slot : {s t : SlotOf} → Some s ≡ Some t → s ≡ t
      same_slot e = cc e
  own_all_set change.Release S =
      either_place (λ q. IsAllSetAt z (place.SlotChange q) command (after change.Release) (log change.Release)) g.topics.invalidations.opened
      (change.End ends.Exclude) change.Watch (stands (place.SlotChange change.Release) S) (stands (place.SlotChange change.Release) S)
  own_all_set (change.End p) S = by (end_next p (x (change.End p)))
    where
      W : IsAllSetAt z (place.SlotChange (change.End p)) command g (log (change.End p))
      W = subst (IsAllSetAt z (place.SlotChange (change.End p)) command g)
          (sym (log_same (end_part p g.topics) (own_index g) g.topics 0 v.words (end_off_log p g.topics))) (stands (place.SlotChange (change.End p)) S)

      by : (n : EndNext) → IsAllSetAt z (place.SlotChange (after_set_end n)) command (after (change.End p)) (log (change.End p))
      by (ends_next.Goes q) = W
      by ends_next.Ended = W
  own_all_set change.Watch S =
      each_watch (λ q. IsAllSetAt z (place.SlotChange q) command (after change.Watch) (log change.Watch)) (watch_next g (x change.Watch))
      change.Watch (after_grace g.state.sizes (slot_armed g.slots command)) (stands (place.SlotChange change.Watch) S) (by (slot_armed g.slots command))
    where
      by : (begun : Option SlotOf) → IsAllSetAt z (place.SlotChange (after_grace g.state.sizes begun)) command (after change.Watch) (log change.Watch)
      by None = closed change.Watch change.Clear refl
      by (Some s) =
          either_place (λ q. IsAllSetAt z (place.SlotChange q) command (after change.Watch) (log change.Watch)) (is_all_set g.state.sizes.mode)
          change.Clear (change.WriteProtect (frames_of s) protect.Exclude) (closed change.Watch change.Clear refl)
          (closed change.Watch (change.WriteProtect (frames_of s) protect.Exclude) refl)
  own_all_set (change.WriteProtect range p) S = by (protect_next p g.state.sizes range g.topics (x (change.WriteProtect range p)))
    where
      by : (n : WriteProtectNext) → IsAllSetAt z (place.SlotChange (after_protect range n)) command (after (change.WriteProtect range p))
          (log (change.WriteProtect range p))
      by (protects_next.Goes q) = closed (change.WriteProtect range p) (change.WriteProtect range q) refl
      by protects_next.Over = closed (change.WriteProtect range p) change.Clear refl
  own_all_set change.Clear S = closed change.Clear change.Give refl
  own_all_set change.Give S = λ gfn slot mode O is. absurd O
  own_all_set p S = none_opens p S refl refl

  line_all_set : (p : Place) → IsStep z v a line command p
      → IsAllSetAt z (place_after (outcome_at p command g (answer_in (task_at p command g) v.words))) command
      (hand_after line command p g (answer_in (task_at p command g) v.words)) (words_after (task_at p command g) v.words area.Log)
  line_all_set (place.SlotChange p) S = own_all_set p S
  line_all_set p S = λ gfn slot mode O is.
      let found : ℕ = answer_in (task_at p command g) v.words in
      let some = opens_changes (place_after (outcome_at p command g found)) command (hand_after line command p g found) gfn O
      (knows_after (outcome_at p command g found) command (hand_after line command p g found) (line_knows z v a line command p S I P S.there)) in
      let none = changes_none z (v.words area.Pool) (v.words area.Slots 0) p command g refl S.begun S.holds (step_knows z v a line command p S I) in
      absurd (cc (some, none))

-- ---- each step

-- By a line.
pub all_set_kept : (z : Sizes) (v : View) (a : ℕ) (line : Line) (command : Command) (p : Place) → AreSmall v → IsStep z v a line command p
    → Invariant z v → TopicsInvariant z v → LogInvariant z v → (j gfn : ℕ) (slot : SlotOf) → j < actors_of z → is_all_set z.mode ≡ true
    → LogIsUnwatched ((stepped a line command p v).hand j) gfn
    → slot_armed ((stepped a line command p v).hand j).slots ((stepped a line command p v).hand j).state.line.command ≡ Some slot
    → is_marked ((stepped a line command p v).words area.Log) (page_of slot gfn) ≡ true
all_set_kept z v a line command p small S I P G j gfn slot there mode opens is =
    at_upd (λ j (h : Held). j < actors_of z → IsAllSetAt z h.state.place h.state.line.command h (words_after task v.words area.Log)) v.hand a
    (hand_after line command p (v.hand a) x)
    (λ there. subst (λ c. IsAllSetAt z (place_after (outcome_at p command (v.hand a) x)) c (hand_after line command p (v.hand a) x)
    (words_after task v.words area.Log)) (sym S.command_is) (line_all_set z v a line command I P G p S))
    (λ j ne there. task_all_set z v a j there ne I G task (step_in z v a line command p small S I P)) j there gfn slot mode opens is
  where
    task : Task
    task = task_at p command (v.hand a)

    x : ℕ
    x = answer_in task v.words

-- By an actor with no line left.
pub idle_all_set_kept : (z : Sizes) (v : View) (a : ℕ) (step : PartStep) (note : ℕ) → needs_line step ≡ false → has_line (v.hand a) ≡ false
    → Invariant z v → LogInvariant z v → (j gfn : ℕ) (slot : SlotOf) → j < actors_of z → is_all_set z.mode ≡ true
    → LogIsUnwatched ((part_stepped a step note v).hand j) gfn
    → slot_armed ((part_stepped a step note v).hand j).slots ((part_stepped a step note v).hand j).state.line.command ≡ Some slot
    → is_marked ((part_stepped a step note v).words area.Log) (page_of slot gfn) ≡ true
idle_all_set_kept z v a step note free none I G j gfn slot there mode opens is =
    at_upd (λ j (h : Held). j < actors_of z → IsAllSetAt z h.state.place h.state.line.command h log) v.hand a after
    (λ there. idle_says (λ q. IsAllSetAt z q (v.hand a).state.line.command after log) (v.hand a) none (I.lines a there).under
    (λ gfn slot mode O is. absurd O))
    (λ j ne there. subst (IsAllSetAt z (v.hand j).state.place (v.hand j).state.line.command (v.hand j)) (sym same)
    (λ gfn slot mode O is. G.all_marked j gfn slot there mode O is)) j there gfn slot mode opens is
  where
    task : Task
    task = part_task step (own_index (v.hand a)) (v.hand a).topics note

    after : Held
    after = idle_after (v.hand a) (kind_of_task (v.hand a).state.sizes task) (answer_in task v.words)

    log : ℕ → ℕ
    log = words_after task v.words area.Log

    same : log ≡ v.words area.Log
    same = log_same step (own_index (v.hand a)) (v.hand a).topics note v.words (idle_off_log step free)
