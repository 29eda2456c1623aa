-- What each step of a part keeps of tables, host words, the published slot set and what actors hold, each list of steps keeps: a touch leaves all of these.
use Rattle.std.proofs.Common.{◌≡◌, ◌⊎◌, inl, inr, ◌<◌, ℕ, List, [], ◌∷◌, refl, sym, subst}
use Rattle.std.specs.Prelude.{Bool, true, false, ◌==◌, if◌then◌else◌}
use Rattle.core_views.specs.declared.kind.Kind.{Kind}
use Rattle.core_views.specs.declared.place.Place.{Place}
use Rattle.core_views.specs.declared.sizes.Sizes.{Sizes}
use Rattle.core_views.specs.declared.topics.Topics.{Topics}
use Rattle.core_views.specs.declared.trace.Command.{Command}
use Rattle.core_views.specs.declared.trace.Line.{Line}
use Rattle.core_views.specs.declared.trace.Op.{Op}
use Rattle.core_views.specs.declared.trace.Op.TheVariants.{Read}
use Rattle.core_views.specs.Held.{Held}
use Rattle.core_views.specs.Sizes.{actors_of}
use Rattle.spte_words.specs.declared.area.Area.TheVariants as area
use Rattle.part_steps.specs.declared.part_step.PartStep.{PartStep}
use Rattle.part_steps.specs.declared.task.Task.{Task}
use Rattle.part_steps.specs.Tasks.{kind_of_task}
use Rattle.part_steps.specs.TopicSteps.{topics_after}
use Rattle.mmu_core.specs.invariant.Invariant.{Invariant}
use Rattle.mmu_core.specs.invariant.Laws.{IsSound}
use Rattle.mmu_core.specs.invariant.TopicsInvariant.{TopicsInvariant}
use Rattle.mmu_core.specs.forms.access.AccessSteps.{touch_of}
use Rattle.mmu_core.specs.machine.Enabled.{mmu}
use Rattle.mmu_core.specs.machine.Machine.{Legal, May, Step, World, effect, hand_in, run}
use Rattle.mmu_core.specs.machine.Steps.{idle_after, line_at, place_at, task_at}
use Rattle.mmu_core.specs.machine.View.{View, answer_in, hand_after, part_stepped, stepped, upd, view, words_after}
use Rattle.mmu_core.proofs.lines.StepIn.{Makes, StepIn, Touches, step_in}
use Rattle.mmu_core.proofs.machine.PartStepping.{IsPart}
use Rattle.mmu_core.proofs.machine.SumsBelow.{column}
use Rattle.mmu_core.proofs.machine.Worlds.{Takes, TakesPart, are_small, good_step, takes}

-- What is said of tables, host words, the page of the published slot set, and what actors hold.
abbrev pub Said : Type 1
Said = (ℕ → ℕ) → (ℕ → ℕ) → ℕ → (ℕ → Topics) → Type 0

-- in a view
abbrev pub SaidOf : Said → View → Type 0
SaidOf Q v = Q (v.words area.Pool) (v.words area.Host) (v.words area.Slots 0) (λ i. (v.hand i).topics)

-- The words after a task of a line, and the hands with what its actor holds then.
abbrev behind : View → ℕ → Task → View
behind v a task = record {
  words = words_after task v.words;
  hand = upd v.hand a (idle_after (v.hand a) (kind_of_task (v.hand a).state.sizes task) (answer_in task v.words));
}

-- A touch stores in content alone, and leaves what actors hold.
touched : (Q : Said) (v : View) (a : ℕ) (op : Op) (index : ℕ) → SaidOf Q v → SaidOf Q (behind v a (touch_of op index))
unfolding topics_after
touched Q v a Read index is =
    subst (Q (v.words area.Pool) (v.words area.Host) (v.words area.Slots 0)) (sym (column (λ (h : Held). h.topics) v.hand a _ refl)) is
touched Q v a op index is =
    subst (Q (v.words area.Pool) (v.words area.Host) (v.words area.Slots 0)) (sym (column (λ (h : Held). h.topics) v.hand a _ refl)) is

-- A step of a line leaves the same of these as its task.
same_topics : (v : View) (a : ℕ) (line : Line) (command : Command) (p : Place)
    → ◌≡◌ {A = ℕ → Topics} (λ i. ((behind v a (task_at p command (v.hand a))).hand i).topics) (λ i. ((stepped a line command p v).hand i).topics)
same_topics v a line command p = λ t i. same i t
  where
    h : Held
    h = v.hand a

    task : Task
    task = task_at p command h

    after : Held
    after = hand_after line command p h (answer_in task v.words)

    idle : Held
    idle = idle_after h (kind_of_task h.state.sizes task) (answer_in task v.words)

    same : (i : ℕ) → (upd v.hand a idle i).topics ≡ (upd v.hand a after i).topics
    same i = either (i == a)
      where
        either : (b : Bool) → (if b then idle else v.hand i).topics ≡ (if b then after else v.hand i).topics
        either true = refl
        either false = refl

-- `Q` is kept by each step of a part after which it is so of its actor (`Own`), as it is in every sound world.
module _ (z : Sizes) (Q : Said) (Own : ℕ → Said)
    (own : (u : World Held) (a : ℕ) → IsSound z u → a < actors_of z → SaidOf (Own a) (view z u))
    (kept : (v : View) (a note : ℕ) (step : PartStep) → IsPart z v a step → Invariant z v → TopicsInvariant z v → SaidOf (Own a) (part_stepped a step note v)
    → SaidOf Q v → SaidOf Q (part_stepped a step note v)) where
  by_task : (v : View) (a : ℕ) (task : Task) → StepIn z v a task → Invariant z v → TopicsInvariant z v → SaidOf (Own a) (behind v a task) → SaidOf Q v
      → SaidOf Q (behind v a task)
  by_task v a _ (Makes step note S) I P mine is = kept v a note step S I P mine is
  by_task v a _ (Touches op index) I P mine is = touched Q v a op index is

  by_line : (v : View) (a : ℕ) (line : Line) (command : Command) (p : Place) → StepIn z v a (task_at p command (v.hand a)) → Invariant z v
      → TopicsInvariant z v → SaidOf (Own a) (stepped a line command p v) → SaidOf Q v → SaidOf Q (stepped a line command p v)
  by_line v a line command p S I P mine is =
      let task : Task = task_at p command (v.hand a) in
      let same = same_topics v a line command p in
      subst (Q (words_after task v.words area.Pool) (words_after task v.words area.Host) (words_after task v.words area.Slots 0)) same
      (by_task v a task S I P
      (subst (Own a (words_after task v.words area.Pool) (words_after task v.words area.Host) (words_after task v.words area.Slots 0)) (sym same) mine) is)

  by_step : (w : World Held) (s : Step Kind) → IsSound z w → May mmu w s → SaidOf Q (view z w) → SaidOf Q (view z (effect mmu w s))
  by_step w s G may is = by (takes z w s G may)
    where
      h : Held
      h = hand_in mmu w s.actor

      mine : SaidOf (Own s.actor) (view z (effect mmu w s))
      mine = own (effect mmu w s) s.actor (good_step z w s G may) (subst (λ n. s.actor < n) G.hands may.there)

      by : Takes z w s h ⊎ TakesPart z w s h → SaidOf Q (view z (effect mmu w s))
      by (inl T) =
          let line : Line = line_at h.state.place h in
          let p : Place = place_at h.state.place h in
          subst (SaidOf Q) (sym T.leads)
          (by_line (view z w) s.actor line line.command p
          (step_in z (view z w) s.actor line line.command p (are_small z w G) T.is_step G.holds G.topics) G.holds G.topics
          (subst (SaidOf (Own s.actor)) T.leads mine) is)
      by (inr T) =
          subst (SaidOf Q) (sym T.leads)
          (kept (view z w) s.actor T.note T.step T.is_part G.holds G.topics (subst (SaidOf (Own s.actor)) T.leads mine) is)

  pub said_after : (w : World Held) (ss : List (Step Kind)) → IsSound z w → Legal mmu w ss → SaidOf Q (view z w) → SaidOf Q (view z (run mmu w ss))
  said_after w [] G legal is = is
  said_after w (s ∷ ss) G legal is = said_after (effect mmu w s) ss (good_step z w s G legal.0) legal.1 (by_step w s G legal.0 is)
