-- The words of a log that another hand is to begin stay set with each step: no mark is in them, and the manager alone takes bits and sets words.
use Rattle.core_views.specs.Held.{Held}
use Rattle.core_views.specs.Sizes.{actors_of}
use Rattle.core_views.specs.SlotCommands.{arms}
use Rattle.core_views.specs.declared.actor.Actor.TheVariants.{Manager}
use Rattle.core_views.specs.declared.sizes.Sizes.{Sizes}
use Rattle.core_views.specs.declared.topics.Topics.{Topics}
use Rattle.log_invariant.proofs.ArmBits.{word_of_page}
use Rattle.log_invariant.proofs.ArmingHands.{arming_apart, arming_manager, is_arming, none_retired, sets_same}
use Rattle.log_invariant.proofs.LogWords.{touch_leaves_log}
use Rattle.log_invariant.proofs.MarkedSlots.{marks_in, marks_published}
use Rattle.log_invariant.proofs.WordsApart.{live_aligned}
use Rattle.log_invariant.specs.LogInvariant.{LogInvariant, HasArmedWordsAt}
use Rattle.mmu_core.proofs.lines.LinesKept.{one_manager}
use Rattle.mmu_core.proofs.lines.StepIn.{Makes, StepIn, Touches}
use Rattle.mmu_core.proofs.machine.Columns.{upd_other}
use Rattle.mmu_core.proofs.machine.PartStepping.{IsPart}
use Rattle.mmu_core.specs.invariant.Invariant.{Invariant}
use Rattle.mmu_core.specs.invariant.TopicsInvariant.{TopicsInvariant}
use Rattle.mmu_core.specs.forms.slot_change.ArmKnows.{IsInLog}
use Rattle.mmu_core.specs.forms.slot_change.SlotTargets.{log_target}
use Rattle.mmu_core.specs.machine.View.{View, words_after}
use Rattle.part_steps.specs.PartTasks.{own_index, page_owed, part_task}
use Rattle.part_steps.specs.declared.part_step.PartStep.TheVariants as part
use Rattle.part_steps.specs.declared.part_step.PartStep.{PartStep}
use Rattle.part_steps.specs.declared.task.Task.{Task}
use Rattle.spte_words.specs.declared.area.Area.TheVariants as area
use Rattle.std.proofs.Common.{subst, sym, ℕ, ◌/◌, ◌<◌, ◌≡◌, ◌≢◌}
use Rattle.std.specs.Prelude.{true}

module _ (z : Sizes) (v : View) (a j : ℕ) (there : j < actors_of z) (ne : j ≢ a) (I : Invariant z v) (P : TopicsInvariant z v) (G : LogInvariant z v) where
  abbrev h : Held
  h = v.hand j

  abbrev Sets : (ℕ → ℕ) → Type 0
  Sets log = HasArmedWordsAt h.state.place h.state.line.command h log

  -- The manager makes no step of another actor.
  not_manager : is_arming h.state.place ≡ true → a < actors_of z → (v.hand a).state.actor ≡ Manager → ⊥
  not_manager is lt manager = ne (one_manager z j a h (v.hand a) (I.lines j there) (I.lines a lt) (arming_manager z v j there I is) manager)

  part_sets : (step : PartStep) (note : ℕ) → IsPart z v a step
      → Sets (words_after (part_task step (own_index (v.hand a)) (v.hand a).topics note) v.words area.Log)
  part_sets part.Mark note S =
      sets_same h.state.place h.state.line.command h (v.words area.Log) _ elsewhere (I.knows j there) (G.armed_words j there)
    where
      t : Topics
      t = (v.hand a).topics

      elsewhere : is_arming h.state.place ≡ true → arms h.state.line.command ≡ true → (word : ℕ) → IsInLog (log_target h h.state.line.command) word
          → words_after (part_task part.Mark (own_index (v.hand a)) t note) v.words area.Log word ≡ v.words area.Log word
      elsewhere is on word in_log =
          upd_other (v.words area.Log) (page_owed t / 64) word _
          (λ e.
          let logged = marks_published z v a S I P G (none_retired z v j there I is) in
          let even = live_aligned z v j I there (arming_manager z v j there I is) _ t.search.slot logged.live in
          let marked = word_of_page (page_owed t) t.search.slot even (marks_in z v a S I P G).has in
          arming_apart z v j there I is on _ t.search.slot logged word in_log (subst (IsInLog t.search.slot) (sym e) marked))
  part_sets (part.Take word mask) note S =
      sets_same h.state.place h.state.line.command h (v.words area.Log) _ (λ is. absurd (not_manager is S.there S.needs.reads.manager)) (I.knows j there)
      (G.armed_words j there)
  part_sets (part.Arm word bits) note S =
      sets_same h.state.place h.state.line.command h (v.words area.Log) _ (λ is. absurd (not_manager is S.there S.needs.reads.manager)) (I.knows j there)
      (G.armed_words j there)
  part_sets _ note S = G.armed_words j there

  -- So they stay set with each step of another actor.
  pub task_sets : (task : Task) → StepIn z v a task → Sets (words_after task v.words area.Log)
  task_sets _ (Makes step note S) = part_sets step note S
  task_sets _ (Touches op index) = subst Sets (sym (touch_leaves_log v.words op index)) (G.armed_words j there)
