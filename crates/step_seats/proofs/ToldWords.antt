-- What a step of a part answers, and what it leaves in the words, of a world that a seat tells.
use Rattle.std.proofs.Common.{◌≡◌, ◌<◌, ℕ, Option, Some, None, length, refl, sym, subst, ap, ◌∙◌}
use Rattle.std.proofs.Math.Logic.{∥∥₁_elim}
use Rattle.std.proofs.Props.{props}
use Rattle.std.specs.Prelude.{IfSome}
use Rattle.core_views.specs.declared.sizes.Sizes.{Sizes}
use Rattle.core_views.specs.Held.{Held}
use Rattle.spte_words.specs.declared.area.Area.{Area}
use Rattle.spte_words.specs.Areas.{size_of}
use Rattle.part_steps.specs.declared.task.Task.{Task}
use Rattle.part_steps.specs.declared.part_step.PartStep.{PartStep}
use Rattle.mmu_core.specs.machine.Enabled.{mmu}
use Rattle.mmu_core.specs.machine.Machine.{World, answered, effect, hand_in}
use Rattle.part_steps.specs.PartTasks.{own_index, part_kind, part_task}
use Rattle.part_steps.specs.PartSteps.{PartNeeds}
use Rattle.part_steps.specs.Tasks.{kind_of_task, map_of}
use Rattle.mmu_core.specs.machine.View.{View, answer_in, word_in, words_after}
use Rattle.mmu_core.specs.machine.Worlds.{Reachable}
use Rattle.mmu_core.proofs.words.PartIndex.{index_same}
use Rattle.mmu_core.proofs.invariant.PartRested.{part_within, rests_in}
use Rattle.mmu_core.proofs.start.Starts.{reached_good}
use Rattle.mmu_core.proofs.machine.Views.{view_behind}
use Rattle.step_seats.specs.Moves.{ToldBy, step_by}
use Rattle.step_seats.specs.Where.{HasHand}
use Rattle.step_seats.proofs.Found.{answers}
use Rattle.step_seats.proofs.Where.{ToldBoth}

module _ (w : World Held) (a note : ℕ) (step : PartStep) where
  -- what the step does for a hand
  abbrev pub task_for : Held → Task
  task_for h = part_task step (own_index h) h.topics note

  -- What the step answers follows from the words.
  pub found_in : (h : Held) → HasHand a h w → PartNeeds step h → answered mmu w (part_kind h step note) ≡ answer_in (task_for h) (word_in h.state.sizes w)
  found_in h H N = answers w a note (answered mmu w (part_kind h step note)) step h H N refl

  words_of : (r : Reachable w) → a < length w.hands → PartNeeds step (hand_in mmu w a) → (b : Area) (i : ℕ)
      → word_in (hand_in mmu w a).state.sizes (effect mmu w (step_by a (part_kind (hand_in mmu w a) step note))) b i
      ≡ words_after (task_for (hand_in mmu w a)) (word_in (hand_in mmu w a).state.sizes w) b i
  words_of r there N b i =
      let h : Held = hand_in mmu w a in
      let z : Sizes = r.sizes in
      let G = reached_good w r in
      let lt = subst (λ n. a < n) G.hands there in
      let same : h.state.sizes ≡ z = (G.holds.lines a lt).sizes in
      let t : Task = task_for h in
      let at = index_same step (own_index h) h.topics note in
      let inside = part_within step h N (rests_in z w a G lt) in
      let within : t.index < size_of (map_of z) t.area =
      subst (λ y. t.index < size_of (map_of y) t.area) same (subst (λ (c : Area). t.index < size_of (map_of h.state.sizes) c) (sym at.1)
      (subst (λ k. k < size_of (map_of h.state.sizes) (part_task step (own_index h) h.topics 0).area) (sym at.0) inside)) in
      subst (λ (y : Sizes). word_in y (effect mmu w (step_by a (kind_of_task y t))) b i ≡ words_after t (word_in y w) b i) (sym same)
      (ap (λ (v : View). v.words b i) (view_behind z w a t within G.words there))

  -- What the step leaves in the words.
  pub words_in : (h : Held) → HasHand a h w → PartNeeds step h → (b : Area) (i : ℕ)
      → word_in h.state.sizes (effect mmu w (step_by a (part_kind h step note))) b i ≡ words_after (task_for h) (word_in h.state.sizes w) b i
  words_in h H N b i =
      subst (λ (x : Held). word_in x.state.sizes (effect mmu w (step_by a (part_kind x step note))) b i
      ≡ words_after (task_for x) (word_in x.state.sizes w) b i) H.is
      (∥∥₁_elim H.reached (hlevel props) (λ r. words_of r H.there (subst (PartNeeds step) (sym H.is) N) b i))

-- What a told world has of a step that was made: what it found, and the words after it.
pub record StepsTo (z : Sizes) (t : Task) (found : ℕ) (w u : World Held) : Type 0 where
  pub finds : found ≡ answer_in t (word_in z w)
  pub leaves : (b : Area) (i : ℕ) → word_in z u b i ≡ words_after t (word_in z w) b i

-- A fact of the step is a fact of what is told before it and after it.
pub told_both : (told tells : Option (World Held)) (a note found : ℕ) (step : PartStep) (h : Held) (P : World Held → World Held → Type 0)
    → PartNeeds step h → IfSome told (HasHand a h) → ToldBy told a (part_kind h step note) found tells
    → ((w u : World Held) → StepsTo h.state.sizes (part_task step (own_index h) h.topics note) found w u → P w u) → ToldBoth told tells P
told_both None tells a note found step h P N has made each = tt
told_both (Some w) tells a note found step h P N has made each =
    let u : World Held = effect mmu w (step_by a (part_kind h step note)) in
    let moved : StepsTo h.state.sizes (part_task step (own_index h) h.topics note) found w u =
    record { finds = sym made.1 ∙ found_in w a note step h has N; leaves = words_in w a note step h has N } in
    subst (λ x. IfSome x (P w)) (sym made.2) (each w u moved)

-- A fact of what was found is a fact of the world that was told before.
pub told_before : (told tells : Option (World Held)) (a note found : ℕ) (step : PartStep) (h : Held) (P : World Held → Type 0) → PartNeeds step h
    → IfSome told (HasHand a h) → ToldBy told a (part_kind h step note) found tells
    → ((w : World Held) → found ≡ answer_in (part_task step (own_index h) h.topics note) (word_in h.state.sizes w) → P w) → IfSome told P
told_before None tells a note found step h P N has made each = tt
told_before (Some w) tells a note found step h P N has made each = each w (sym made.1 ∙ found_in w a note step h has N)
