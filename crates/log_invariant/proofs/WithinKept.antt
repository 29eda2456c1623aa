-- Each step keeps it that in the words of a published slot's log only bits of the slot's pages are set; and that the hand after those of virtual processors and
-- hosts is the manager's.
use Rattle.core_views.specs.Held.{Held}
use Rattle.core_views.specs.LogCommands.{is_all_set}
use Rattle.core_views.specs.Sizes.{actors_of}
use Rattle.core_views.specs.Slots.{has_host_page}
use Rattle.core_views.specs.declared.actor.Actor.TheVariants.{Manager}
use Rattle.core_views.specs.declared.place.Place.{Place}
use Rattle.core_views.specs.declared.sizes.Sizes.{Sizes}
use Rattle.core_views.specs.declared.trace.Command.{Command}
use Rattle.core_views.specs.declared.trace.Line.{Line}
use Rattle.core_views.specs.declared.trace.Slot.{Slot as SlotOf}
use Rattle.log_invariant.proofs.ArmBits.{bits_within, word_of_page, word_within}
use Rattle.log_invariant.proofs.ArmedWords.{armed_now}
use Rattle.log_invariant.proofs.CoveredKept.{PublishesLog, idle_logged_before, logged_before}
use Rattle.log_invariant.proofs.HeldLogs.{FoundLive, IsLoggedNow, marked_is_live}
use Rattle.log_invariant.proofs.LogBits.{was_marked, was_there}
use Rattle.log_invariant.proofs.LogWords.{idle_off_log, log_same, touch_leaves_log}
use Rattle.log_invariant.proofs.MarkedSlots.{MarksIn, marks_in}
use Rattle.log_invariant.proofs.PublishedLogs.{logged_recorded}
use Rattle.log_invariant.proofs.WordsApart.{live_aligned, words_apart}
use Rattle.log_invariant.specs.Covered.{is_marked}
use Rattle.log_invariant.specs.LogInvariant.{LogInvariant}
use Rattle.mmu_core.proofs.forms.access.AccessParts.{AreSmall}
use Rattle.mmu_core.proofs.lines.StepIn.{Makes, StepIn, Touches, step_in}
use Rattle.mmu_core.proofs.machine.Columns.{at_upd, same_or, upd_other}
use Rattle.mmu_core.proofs.machine.HandAfter.{loads_same}
use Rattle.mmu_core.proofs.machine.PartStepping.{IsPart}
use Rattle.mmu_core.proofs.machine.Stepping.{IsStep}
use Rattle.mmu_core.specs.invariant.Invariant.{Invariant}
use Rattle.mmu_core.specs.invariant.TopicsInvariant.{TopicsInvariant}
use Rattle.mmu_core.specs.forms.slot_change.ArmKnows.{IsInLog}
use Rattle.mmu_core.specs.machine.Steps.{task_at}
use Rattle.mmu_core.specs.machine.View.{View, answer_in, part_stepped, stepped, words_after}
use Rattle.part_steps.specs.LogHoldings.{is_in_log}
use Rattle.part_steps.specs.PartSteps.{needs_line}
use Rattle.part_steps.specs.PartTasks.{own_index, page_owed, part_task}
use Rattle.part_steps.specs.SlotWords.{slot_at}
use Rattle.part_steps.specs.declared.part_step.PartStep.TheVariants as part
use Rattle.part_steps.specs.declared.part_step.PartStep.{PartStep}
use Rattle.part_steps.specs.declared.task.Task.{Task}
use Rattle.spte_words.specs.Bits.{has_bit}
use Rattle.spte_words.specs.declared.area.Area.TheVariants as area
use Rattle.std.proofs.Common.{ap, arith, inl, inr, refl, subst, sym, ℕ, ◌%◌, ◌+◌, ◌/◌, ◌<◌, ◌∙◌, ◌≡◌, ◌≢◌, ◌⊎◌}
use Rattle.std.specs.Prelude.{false, true}

-- ---- the manager's hand

-- It is among the hands.
pub manager_there : (z : Sizes) → z.vcpus + z.hosts < actors_of z
manager_there z = omega arith

-- It stays the manager's with a step of a line, and of an actor with no line left.
pub manager_kept : (z : Sizes) (v : View) (a : ℕ) (line : Line) (command : Command) (p : Place) → LogInvariant z v
    → ((stepped a line command p v).hand (z.vcpus + z.hosts)).state.actor ≡ Manager
manager_kept z v a line command p G =
    at_upd (λ i (h : Held). h.state.actor ≡ (v.hand i).state.actor) v.hand a _
    (loads_same p command (v.hand a) (answer_in (task_at p command (v.hand a)) v.words)).actor (λ i ne. refl) (z.vcpus + z.hosts)
    ∙ G.manager

pub idle_manager_kept : (z : Sizes) (v : View) (a : ℕ) (step : PartStep) (note : ℕ) → LogInvariant z v
    → ((part_stepped a step note v).hand (z.vcpus + z.hosts)).state.actor ≡ Manager
idle_manager_kept z v a step note G =
    at_upd (λ i (h : Held). h.state.actor ≡ (v.hand i).state.actor) v.hand a _ refl (λ i ne. refl) (z.vcpus + z.hosts) ∙ G.manager

-- ---- a slot that had a log before the step

module _ (z : Sizes) (v : View) (a id page : ℕ) (slot : SlotOf) (I : Invariant z v) (P : TopicsInvariant z v) (G : LogInvariant z v)
    (logged : IsLoggedNow v id slot) (in_log : is_in_log (page / 64) slot ≡ true) where
  abbrev h : Held
  h = v.hand a

  abbrev IsWithinNow : (ℕ → ℕ) → Type 0
  IsWithinNow log = is_marked log page ≡ true → has_host_page page slot ≡ true

  was : IsWithinNow (v.words area.Log)
  was = G.within id page slot logged in_log

  -- The page of a mark is one of the slot's, where its word is one of the slot's log.
  of_mark : IsPart z v a part.Mark → page ≡ page_owed h.topics → has_host_page page slot ≡ true
  of_mark S e = by (same_or L.id id)
    where
      M : MarksIn v h
      M = marks_in z v a S I P G

      L : FoundLive v a M.gfn
      L = marked_is_live z v a M.gfn S.there I P G M.owed

      found : SlotOf
      found = h.topics.search.slot

      even : found.host % 64 ≡ 0
      even = live_aligned z v (z.vcpus + z.hosts) I (manager_there z) G.manager L.id found L.live

      marked : IsInLog found (page / 64)
      marked = subst (λ k. IsInLog found (k / 64)) (sym e) (word_of_page (page_owed h.topics) found even M.has)

      by : (L.id ≡ id) ⊎ (L.id ≢ id) → has_host_page page slot ≡ true
      by (inl same) =
          let one : found ≡ slot = sym L.live.is ∙ ap (slot_at (v.words area.Pool) (v.words area.Slots 0)) same ∙ logged.live.is in
          ap (λ k. has_host_page k slot) e ∙ ap (has_host_page (page_owed h.topics)) (sym one) ∙ M.has
      by (inr apart) =
          absurd (words_apart z v (z.vcpus + z.hosts) I (manager_there z) G.manager L.id id found slot apart L.live logged.live (page / 64) marked
          (word_within (page / 64) slot in_log))

  part_within : (step : PartStep) (note : ℕ) → IsPart z v a step → IsWithinNow (words_after (part_task step (own_index h) h.topics note) v.words area.Log)
  part_within part.Mark note S marked = by (was_marked (own_index h) h.topics note v.words page marked)
    where
      by : (page ≡ page_owed h.topics) ⊎ (is_marked (v.words area.Log) page ≡ true) → has_host_page page slot ≡ true
      by (inl e) = of_mark S e
      by (inr before) = was before
  part_within (part.Take word mask) note S marked = was (was_there (own_index h) h.topics note v.words word mask page marked)
  part_within (part.Arm word bits) note S marked =
      was (ap (has_bit (page % 64)) (sym (upd_other (v.words area.Log) word (page / 64) bits elsewhere)) ∙ marked)
    where
      elsewhere : page / 64 ≢ word
      elsewhere e =
          let recorded = logged_recorded (v.words area.Pool) (v.words area.Slots 0) id h.slots slot (I.recorded a S.there S.needs.reads.manager) logged in
          let out : is_in_log word slot ≡ false = S.needs.of_no_log id _ recorded refl in
          let is_in : is_in_log word slot ≡ true = ap (λ k. is_in_log k slot) (sym e) ∙ in_log in
          absurd (cc (out, is_in))
  part_within _ note S marked = was marked

  task_within : (task : Task) → StepIn z v a task → IsWithinNow (words_after task v.words area.Log)
  task_within _ (Makes step note S) = part_within step note S
  task_within _ (Touches op index) = subst IsWithinNow (sym (touch_leaves_log v.words op index)) was

-- ---- each step

-- By a line.
pub within_kept : (z : Sizes) (v : View) (a : ℕ) (line : Line) (command : Command) (p : Place) → AreSmall v → IsStep z v a line command p
    → Invariant z v → TopicsInvariant z v → LogInvariant z v → (id page : ℕ) (slot : SlotOf) → IsLoggedNow (stepped a line command p v) id slot
    → is_in_log (page / 64) slot ≡ true → is_marked ((stepped a line command p v).words area.Log) page ≡ true → has_host_page page slot ≡ true
within_kept z v a line command p small S I P G id page slot logged in_log marked = by (logged_before z v a line command p small S I P id slot logged)
  where
    by : IsLoggedNow v id slot ⊎ PublishesLog v a command p slot → has_host_page page slot ≡ true
    by (inl before) = task_within z v a id page slot I P G before in_log (task_at p command (v.hand a)) (step_in z v a line command p small S I P) marked
    by (inr B) =
        let A = armed_now z v a line command slot (subst (IsStep z v a line command) B.at S) I G B.begins in
        let set : is_marked (v.words area.Log) page ≡ true =
        subst (λ q. is_marked (words_after (task_at q command (v.hand a)) v.words area.Log) page ≡ true) B.at marked in
        bits_within (is_all_set z.mode) page slot A.even in_log
        (ap (has_bit (page % 64)) (sym (A.words (page / 64) (word_within (page / 64) slot in_log))) ∙ set)

-- By an actor with no line left.
pub idle_within_kept : (z : Sizes) (v : View) (a : ℕ) (step : PartStep) (note : ℕ) → IsPart z v a step → needs_line step ≡ false
    → TopicsInvariant z v → LogInvariant z v → (id page : ℕ) (slot : SlotOf) → IsLoggedNow (part_stepped a step note v) id slot
    → is_in_log (page / 64) slot ≡ true → is_marked ((part_stepped a step note v).words area.Log) page ≡ true → has_host_page page slot ≡ true
idle_within_kept z v a step note S free P G id page slot logged in_log marked =
    G.within id page slot (idle_logged_before z v a step note S free P id slot logged) in_log
    (subst (λ log. is_marked log page ≡ true)
    (log_same step (own_index (v.hand a)) (v.hand a).topics note v.words (idle_off_log step free)) marked)
