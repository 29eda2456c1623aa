-- What is so of all that a virtual processor has cached, where it may use it, is so after each step.
use Rattle.std.proofs.Common.{subst, sym, ℕ, ◌≡◌, ◌⊎◌, inl, inr}
use Rattle.std.specs.Prelude.{All, true, ◌≢◌}
use Rattle.circular_buffer.specs.Buffer.{Buffer}
use Rattle.core_views.specs.declared.cache.Translation.{Translation}
use Rattle.core_views.specs.declared.kind.Kind.{Kind}
use Rattle.core_views.specs.declared.sizes.Sizes.{Sizes}
use Rattle.core_views.specs.declared.topics.Topics.{Topics}
use Rattle.core_views.specs.declared.trace.Op.TheVariants.{Read}
use Rattle.core_views.specs.declared.trace.Op.{Op}
use Rattle.core_views.specs.Held.{Held}
use Rattle.spte_words.specs.declared.area.Area.TheVariants as area
use Rattle.part_steps.specs.declared.task.Task.{Task}
use Rattle.part_steps.specs.PartTasks.{own_index, part_task}
use Rattle.part_steps.specs.PartTopics.{part_topics}
use Rattle.part_steps.specs.Tasks.{kind_of_task}
use Rattle.part_steps.specs.TopicSteps.{topics_after}
use Rattle.mmu_core.specs.invariant.InvalidatedPart.{may_use}
use Rattle.mmu_core.specs.forms.access.AccessSteps.{touch_of}
use Rattle.mmu_core.specs.forms.access.Cached.{asks_flush, flushed}
use Rattle.mmu_core.specs.machine.View.{View, answer_in, upd, words_after}
use Rattle.mmu_core.proofs.held.UsableSteps.{other_asks, other_used, own_used}
use Rattle.mmu_core.proofs.lines.StepIn.{Makes, StepIn, Touches}
use Rattle.mmu_core.proofs.machine.Columns.{same_or, upd_other, upd_same}
use Rattle.mmu_core.proofs.words.PartTopics.{is_there, part_topics_is}

-- A state word asks for a flush now, if it did before.
abbrev pub AsksStill : ℕ → ℕ → Type 0
AsksStill state now_ = asks_flush state ≡ true → asks_flush now_ ≡ true

-- What virtual processor k may use after a step, where actor a had this cached before a flush, and has this hand now: where this is so of all that k had
-- cached, if it might use it and is asked for a flush still where it was, it is so of all that k has cached.
abbrev CarriedTo : View → (ℕ → ℕ) → ℕ → Buffer Translation → Held → (Translation → Type 0) → ℕ → Type 0
CarriedTo v states a c g P k =
    (AsksStill (v.words area.State k) (states k) → may_use (v.words area.State k) (v.hand k).topics.stay ≡ true
    → All P (upd (λ i. (v.hand i).cached) a c k).items)
    → may_use (states k) (upd v.hand a g k).topics.stay ≡ true → All P (upd v.hand a g k).cached.items

-- The same, where the task is a step's.
abbrev CarriedBehind : View → ℕ → Buffer Translation → Held → Task → (Translation → Type 0) → ℕ → Type 0
CarriedBehind v a c g task P k =
    let n : Kind = kind_of_task (v.hand a).state.sizes task in
    let x : ℕ = answer_in task v.words in
    CarriedTo v (words_after task v.words area.State) a c
    (record g { topics = topics_after (v.hand a).state.sizes n (v.hand a).topics x; cached = flushed n c x }) P k

-- Of the actor itself, and of each other one.
each_carried : (v : View) (states : ℕ → ℕ) (a : ℕ) (c : Buffer Translation) (g : Held) (P : Translation → Type 0) (k : ℕ)
    → ((AsksStill (v.words area.State a) (states a) → may_use (v.words area.State a) (v.hand a).topics.stay ≡ true
    → All P c.items) → may_use (states a) g.topics.stay ≡ true → All P g.cached.items)
    → (k ≢ a → AsksStill (v.words area.State k) (states k)
    × (may_use (states k) (v.hand k).topics.stay ≡ true → may_use (v.words area.State k) (v.hand k).topics.stay ≡ true))
    → CarriedTo v states a c g P k
each_carried v states a c g P k own other = by (same_or k a)
  where
    caches : ℕ → Buffer Translation
    caches i = (v.hand i).cached

    by : (k ≡ a) ⊎ (k ≢ a) → CarriedTo v states a c g P k
    by (inl e) = subst (λ i. CarriedTo v states a c g P i) (sym e) (λ all may.
        subst (λ (h : Held). All P h.cached.items) (sym (upd_same v.hand a g))
        (own (λ still was. subst (λ (b : Buffer Translation). All P b.items) (upd_same caches a c) (all still was))
        (subst (λ (h : Held). may_use (states a) h.topics.stay ≡ true) (upd_same v.hand a g) may)))
    by (inr ne) = λ all may.
        let O = other ne in
        subst (λ (h : Held). All P h.cached.items) (sym (upd_other v.hand a k g ne))
        (subst (λ (b : Buffer Translation). All P b.items) (upd_other caches a k c ne)
        (all O.0 (O.1 (subst (λ (h : Held). may_use (states k) h.topics.stay ≡ true) (upd_other v.hand a k g ne) may))))

-- After a touch.
touched_carried : (v : View) (a : ℕ) (c : Buffer Translation) (g : Held) (op : Op) (index : ℕ) (P : Translation → Type 0) (k : ℕ)
    → CarriedBehind v a c g (touch_of op index) P k
unfolding topics_after flushed
touched_carried v a c g Read index P k =
    each_carried v (v.words area.State) a c (record g { topics = (v.hand a).topics; cached = c }) P k (λ all. all (λ asks. asks))
    (λ ne. (λ asks. asks, λ may. may))
touched_carried v a c g _ index P k =
    each_carried v (v.words area.State) a c (record g { topics = (v.hand a).topics; cached = c }) P k (λ all. all (λ asks. asks))
    (λ ne. (λ asks. asks, λ may. may))

-- After each task of a step.
pub task_carried : (z : Sizes) (v : View) (a : ℕ) (c : Buffer Translation) (g : Held) (task : Task) (P : Translation → Type 0) (k : ℕ) → StepIn z v a task
    → CarriedBehind v a c g task P k
task_carried z v a c g _ P k (Touches op index) = touched_carried v a c g op index P k
task_carried z v a c g _ P k (Makes step note S) =
    subst (λ (t : Topics). CarriedTo v (words_after task v.words area.State) a c (record g { topics = t; cached = flushed n c x }) P k)
    (sym (part_topics_is h.state.sizes step (own_index h) h.topics note x (is_there step h S.needs)))
    (subst (λ i. CarriedTo v (words_after (of_place i) v.words area.State) a c (behind i) P k) (sym S.own_place)
    (each_carried v (words_after (of_place a) v.words area.State) a c (behind a) P k (own_used z v a note c h P step S)
    (λ ne. (other_asks z v a note c h step k ne, other_used z v a note c h step (v.hand k).topics.stay k ne))))
  where
    h : Held
    h = v.hand a

    of_place : ℕ → Task
    of_place i = part_task step i h.topics note

    behind : ℕ → Held
    behind i = record g {
      topics = part_topics step h.topics (answer_in (of_place i) v.words);
      cached = flushed (kind_of_task h.state.sizes (of_place i)) c (answer_in (of_place i) v.words);
    }

    task : Task
    task = of_place (own_index h)

    x : ℕ
    x = answer_in task v.words

    n : Kind
    n = kind_of_task h.state.sizes task
