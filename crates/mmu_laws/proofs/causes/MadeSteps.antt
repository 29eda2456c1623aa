-- A step of an actor that is this one of a part: its word, what it finds and what it leaves.
use Rattle.std.proofs.Common.{◌≡◌, ◌<◌, ℕ, sym, subst, ap, ◌∙◌}
use Rattle.core_views.specs.declared.kind.Kind.{Kind}
use Rattle.core_views.specs.Held.{Held}
use Rattle.core_views.specs.Kinds.{after, answer}
use Rattle.core_views.specs.Sizes.{actors_of}
use Rattle.core_views.specs.declared.sizes.Sizes.{Sizes}
use Rattle.spte_words.specs.Areas.{place as place_of}
use Rattle.part_steps.specs.declared.part_step.PartStep.{PartStep}
use Rattle.mmu_laws.specs.causes.Causes.{StaysInSection}
use Rattle.mmu_core.specs.machine.Enabled.{mmu}
use Rattle.mmu_core.specs.invariant.Laws.{IsSound}
use Rattle.mmu_core.specs.machine.Machine.{May, Step, World, answered, found, hand_in}
use Rattle.part_steps.specs.PartBounds.{PartRests}
use Rattle.part_steps.specs.PartTasks.{own_index, part_kind, part_task}
use Rattle.part_steps.specs.PartSteps.{PartNeeds}
use Rattle.part_steps.specs.PartTopics.{part_topics}
use Rattle.part_steps.specs.Tasks.{map_of}
use Rattle.part_steps.specs.TopicSteps.{topics_after}
use Rattle.mmu_laws.proofs.causes.CauseSteps.{IsAmid, IsExchange, IsLoad, amid, exchange_answers, load_leaves}
use Rattle.mmu_core.proofs.invariant.PartRested.{rests_in}
use Rattle.mmu_core.proofs.words.PartTopics.{is_there, part_topics_is}

-- The step is this one of a part, whose needs the hand holds.
pub record Makes (h : Held) (s : Step Kind) (step : PartStep) : Type 0 where
  pub note : ℕ
  pub is : s.kind ≡ part_kind h step note
  pub needs : PartNeeds step h

-- what is held after it
pub made_topics : (h : Held) (s : Step Kind) (v : ℕ) (step : PartStep) → Makes h s step
    → topics_after h.state.sizes s.kind h.topics v ≡ part_topics step h.topics v
made_topics h s v step M =
    ap (λ k. topics_after h.state.sizes k h.topics v) M.is
    ∙ part_topics_is h.state.sizes step (own_index h) h.topics M.note v (is_there step h M.needs)

module _ (z : Sizes) (u : World Held) (s : Step Kind) (G : IsSound z u) (may : May mmu u s) where
  abbrev h : Held
  h = hand_in mmu u s.actor

  abbrev n : ℕ
  n = found mmu u s.kind

  abbrev v : ℕ
  v = answered mmu u s.kind

  pub in_machine : s.actor < actors_of z
  in_machine = subst (λ m. s.actor < m) G.hands may.there

  pub own_sizes : h.state.sizes ≡ z
  own_sizes = (G.holds.lines s.actor in_machine).sizes

  pub own_rests : PartRests h
  own_rests = rests_in z u s.actor G in_machine

  pub stays_in : (step : PartStep) → Makes h s step → IsAmid step → StaysInSection s.actor s
  stays_in step M is mine =
      let A = amid step (own_index h) h.topics M.note is in
      let code = ap (λ (k : Kind). k.code) M.is in
      (λ e. A.0 (sym code ∙ e), λ e. A.1 (sym code ∙ e))

  pub word_on : (step : PartStep) (M : Makes h s step)
      → s.kind.word ≡ place_of (map_of z) (part_task step (own_index h) h.topics M.note).area (part_task step (own_index h) h.topics M.note).index
  word_on step M =
      ap (λ (k : Kind). k.word) M.is
      ∙ ap (λ y. place_of (map_of y) (part_task step (own_index h) h.topics M.note).area (part_task step (own_index h) h.topics M.note).index) own_sizes

  pub load_finds : (step : PartStep) → Makes h s step → IsLoad step → n ≡ v
  load_finds step M is = sym (ap (λ k. answer k n) M.is ∙ (load_leaves step h M.note n is).1)

  pub load_keeps : (step : PartStep) → Makes h s step → IsLoad step → after s.kind n ≡ v
  load_keeps step M is = ap (λ k. after k n) M.is ∙ (load_leaves step h M.note n is).0 ∙ load_finds step M is

  pub exchange_finds : (step : PartStep) → Makes h s step → IsExchange step → n ≡ v
  exchange_finds step M is = sym (ap (λ k. answer k n) M.is ∙ exchange_answers step h M.note n is)
