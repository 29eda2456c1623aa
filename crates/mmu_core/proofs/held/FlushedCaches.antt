-- Each step keeps what is said of the flush of what a virtual processor has cached, for each open invalidation.
use Rattle.std.proofs.Common.{◌<◌, ◌≡◌, ℕ, [], subst, sym}
use Rattle.std.specs.Prelude.{Bool, true, if◌then◌else◌}
use Rattle.std.proofs.lemmas.List.Elements.{All-nil}
use Rattle.circular_buffer.specs.Buffer.{Buffer, buffer}
use Rattle.core_views.specs.declared.cache.Translation.{Translation}
use Rattle.core_views.specs.declared.sizes.Sizes.{Sizes}
use Rattle.core_views.specs.declared.topics.Invalidated.{Invalidated}
use Rattle.core_views.specs.Held.{Held}
use Rattle.core_views.specs.Sizes.{actors_of}
use Rattle.spte_words.specs.declared.area.Area.TheVariants as area
use Rattle.part_steps.specs.declared.part_step.PartStep.{PartStep}
use Rattle.part_steps.specs.declared.part_step.PartStep.TheVariants as part
use Rattle.part_steps.specs.PartTasks.{part_task}
use Rattle.part_steps.specs.PartTopics.{part_topics}
use Rattle.part_steps.specs.Tasks.{kind_of_task}
use Rattle.mmu_core.specs.invariant.InvalidatedPart.{FlushPart, FlushesFor, IsApart, IsClean, IsNoLeafIn, keeps_empty}
use Rattle.mmu_core.specs.invariant.ReachPart.{InReach}
use Rattle.mmu_core.specs.invariant.TopicsInvariant.{TopicsInvariant}
use Rattle.mmu_core.specs.forms.access.Cached.{flushed}
use Rattle.mmu_core.specs.machine.View.{View, answer_in, upd}
use Rattle.mmu_core.proofs.forms.access.CachedKept.{flushed_kept}
use Rattle.mmu_core.proofs.held.FlushChanges.{flushed_both, flushed_more}
use Rattle.mmu_core.proofs.held.FlushSteps.{FlushAt, Flushes, each_flushed, part_flushed, states}
use Rattle.mmu_core.proofs.machine.Columns.{upd_other, upd_same}
use Rattle.mmu_core.proofs.machine.PartStepping.{IsPart}

-- What is so of a virtual processor that has made its flush: it has nothing of these frames cached, and none in reach.
abbrev pub HasNone : (z : Sizes) (v : View) → TopicsInvariant z v → Invalidated → ℕ → Type 0
HasNone z v I own_ k = IsClean own_ (v.hand k).cached.items × InReach I.up I.spot (v.words area.Pool) (v.hand k).topics (IsNoLeafIn own_)

-- Where actor a was asked for the flush of an open invalidation, and has none of its frames cached or in reach, it has nothing of them cached then.
abbrev pub KeepsClean : (z : Sizes) (v : View) → TopicsInvariant z v → ℕ → Buffer Translation → Type 0
KeepsClean z v I a c =
    (i : ℕ) → i < actors_of z → keeps_empty (v.hand i).topics ≡ true → a < (v.hand i).topics.flush.asked
    → HasNone z v I (v.hand i).topics.invalidations.own a → IsClean (v.hand i).topics.invalidations.own c.items

-- Both are so of who has made the flush.
pub both_flushed : (z : Sizes) (v : View) (I : TopicsInvariant z v) → FlushAt z v
    → FlushesFor (HasNone z v I) (actors_of z) z.vcpus (v.words area.State) (λ i. (v.hand i).topics)
both_flushed z v I F i k lt low opened = flushed_both (F i k lt low opened) (I.reach_flushed i k lt low opened)

-- what is cached, where actor a has this hand now
abbrev CachedClean : View → ℕ → Held → Invalidated → ℕ → Type 0
CachedClean v a g own_ k = IsClean own_ (upd v.hand a g k).cached.items

-- The step's actor has this cached, before a flush; and its hand is this one after the step, but for what it holds and has cached.
module _ (z : Sizes) (v : View) (a note : ℕ) (c : Buffer Translation) (g : Held) where
  abbrev cached : PartStep → Buffer Translation
  cached step = flushed (kind_of_task (v.hand a).state.sizes (part_task step a (v.hand a).topics note)) c
      (answer_in (part_task step a (v.hand a).topics note) v.words)

  abbrev behind : PartStep → Held
  behind step = record g {
    topics = part_topics step (v.hand a).topics (answer_in (part_task step a (v.hand a).topics note) v.words);
    cached = cached step;
  }

  -- What is cached after the step is what was to be, or nothing.
  clean_behind : (own_ : Invalidated) (step : PartStep) → IsClean own_ c.items → IsClean own_ (cached step).items
  clean_behind own_ step = flushed_kept (IsApart own_) (kind_of_task (v.hand a).state.sizes (part_task step a (v.hand a).topics note)) c _

  -- Who makes a flush has nothing cached.
  flush_cleans : (own_ : Invalidated) (step : PartStep) → Flushes z v a note step (CachedClean v a (behind step) own_ a)
  unfolding flushed
  flush_cleans own_ part.Enter = λ asks.
      subst (λ (y : Held). IsClean own_ y.cached.items) (sym (upd_same v.hand a (behind part.Enter)))
      (subst (λ (b : Bool). IsClean own_ (if b then buffer [] c.capacity else c).items) (sym asks) (All-nil (IsApart own_)))
  flush_cleans own_ _ = tt

  pub cached_flushed : (step : PartStep) → IsPart z v a step → (I : TopicsInvariant z v) → KeepsClean z v I a c → FlushAt z v
      → FlushPart (actors_of z) z.vcpus (states z v a note step) (upd v.hand a (behind step))
  cached_flushed step S I keeps F =
      part_flushed z v a note (HasNone z v I) (CachedClean v a (behind step)) step (record g { cached = cached step }) S I (λ k clean. clean)
      (λ i lt low opened. (
        flush_cleans (v.hand i).topics.invalidations.own step,
        λ asked none. subst (λ (y : Held). IsClean (v.hand i).topics.invalidations.own y.cached.items) (sym (upd_same v.hand a (behind step)))
            (clean_behind (v.hand i).topics.invalidations.own step (keeps i lt opened asked none)),
      ))
      (λ i k lt low ne opened asked none.
      subst (λ (y : Held). IsClean (v.hand i).topics.invalidations.own y.cached.items) (sym (upd_other v.hand a k (behind step) ne)) none.0)
      (both_flushed z v I F)

-- A touch leaves all but what is cached before it.
pub touch_flushed : (z : Sizes) (v : View) (a : ℕ) (c : Buffer Translation) (g : Held) (I : TopicsInvariant z v) → KeepsClean z v I a c → FlushAt z v
    → FlushPart (actors_of z) z.vcpus (v.words area.State) (upd v.hand a (record g { topics = (v.hand a).topics; cached = c }))
touch_flushed z v a c g I keeps F = each_flushed (CachedClean v a now_) z v a (v.words area.State) now_
    (λ i lt low opened. flushed_more (λ asked none.
    subst (λ (y : Held). IsClean (v.hand i).topics.invalidations.own y.cached.items) (sym (upd_same v.hand a now_)) (keeps i lt opened asked none))
    (both_flushed z v I F i a lt low opened))
    (λ i k lt low ne opened. flushed_more (λ asked clean.
    subst (λ (y : Held). IsClean (v.hand i).topics.invalidations.own y.cached.items) (sym (upd_other v.hand a k now_ ne)) clean) (F i k lt low opened))
    (λ k low G. G)
  where
    now_ : Held
    now_ = record g { topics = (v.hand a).topics; cached = c }
