-- Which invalidations are open that haven't raised the sequence number: each step that doesn't raise it leaves them. And no number that was taken before it was
-- raised is the one after that.
use Rattle.std.proofs.Common.{◌≡◌, ◌≢◌, ◌<◌, ◌≤◌, ℕ, ap, arith}
use Rattle.std.specs.Prelude.{Bool, true, false, Some}
use Rattle.core_views.specs.declared.sizes.Sizes.{Sizes}
use Rattle.core_views.specs.declared.topics.Invalidated.{Invalidated}
use Rattle.core_views.specs.declared.topics.Topics.{Topics}
use Rattle.core_views.specs.Held.{Held}
use Rattle.core_views.specs.Sizes.{actors_of}
use Rattle.spte_words.specs.declared.area.Area.TheVariants as area
use Rattle.part_steps.specs.declared.part_step.PartStep.{PartStep}
use Rattle.part_steps.specs.declared.part_step.PartStep.TheVariants as part
use Rattle.part_steps.specs.PartTasks.{part_task}
use Rattle.part_steps.specs.PartTopics.{part_topics}
use Rattle.part_steps.specs.StayTopics.{has_lock}
use Rattle.mmu_core.specs.invariant.InvalidationsPart.{knows_seq}
use Rattle.mmu_core.specs.invariant.SearchPart.{IsInvalidating}
use Rattle.mmu_core.specs.invariant.TopicsInvariant.{TopicsInvariant}
use Rattle.mmu_core.specs.machine.View.{View, answer_in}
use Rattle.mmu_core.proofs.machine.Columns.{at_upd}
use Rattle.mmu_core.proofs.machine.PartStepping.{IsPart}
use Rattle.mmu_core.proofs.words.PartTopics.{part_behind}
use Rattle.part_steps.specs.PageRuns.{changed_more}

-- the topics after the actor's own step
abbrev pub topics_now : View → ℕ → ℕ → PartStep → Topics
topics_now v a note step = part_topics step (v.hand a).topics (answer_in (part_task step a (v.hand a).topics note) v.words)

-- The step raises the sequence number.
abbrev pub raises_number : PartStep → Bool
raises_number (part.SetSeq seq) = true
raises_number _ = false

-- No actor is invalidating what is meant.
abbrev pub NoneInvalidating : Sizes → View → (Invalidated → Type 0) → Type 0
NoneInvalidating z v IsOf = (j : ℕ) → j < actors_of z → IsInvalidating IsOf (v.hand j).topics → ⊥

-- What is meant holds of an invalidation still once one more page of its run is changed.
abbrev pub StaysOf : (Invalidated → Type 0) → Type 0
StaysOf IsOf = (won : Bool) (own_ : Invalidated) → IsOf own_ → IsOf (record own_ { pages = changed_more won own_.pages })

module _ (z : Sizes) (v : View) (a note : ℕ) (IsOf : Invalidated → Type 0) (stays : StaysOf IsOf) where
  own_invalidating : (step : PartStep) → IsPart z v a step → raises_number step ≡ false → IsInvalidating IsOf (v.hand a).topics
      → IsInvalidating IsOf (topics_now v a note step)
  own_invalidating (part.SetSeq seq) S other U = absurd (cc other)
  own_invalidating (part.SetStart first gfn) S other U = absurd (let closed = S.needs.0.opening.closed in let opened = U.opened in cc (closed, opened))
  own_invalidating (part.SetEnd last gfn) S other U = absurd (let closed = S.needs.0.opening.closed in let opened = U.opened in cc (closed, opened))
  own_invalidating (part.SetCount count) S other U =
      absurd (let raised = S.needs.0.closes U.opened in let unraised = U.unraised in cc (raised, unraised))
  own_invalidating part.ChangeNext S other U =
      record { opened = U.opened; unraised = U.unraised; of_it = stays _ (v.hand a).topics.invalidations.own U.of_it }
  own_invalidating _ S other U = record { opened = U.opened; unraised = U.unraised; of_it = U.of_it }

  -- Whoever is invalidating it does so after a step that raises no number.
  pub invalidating_after : (step : PartStep) → IsPart z v a step → raises_number step ≡ false → (j : ℕ) → IsInvalidating IsOf (v.hand j).topics
      → IsInvalidating IsOf ((part_behind a step note v).hand j).topics
  invalidating_after step S other =
      at_upd (λ j (k : Held). IsInvalidating IsOf (v.hand j).topics → IsInvalidating IsOf k.topics) v.hand a _ (own_invalidating step S other) (λ j ne U. U)

-- No snapshot is the number that was raised.
pub none_is_raised : (z : Sizes) (v : View) (a note seq : ℕ) → IsPart z v a (part.SetSeq seq) → TopicsInvariant z v → (i n : ℕ) → i < actors_of z
    → ((part_behind a (part.SetSeq seq) note v).hand i).topics.invalidations.snapshot ≡ Some n → n ≢ seq
none_is_raised z v a note seq S I i n lt taken same =
    let is = S.needs.1 in
    let loaded = (I.checks a S.there).numbered (ap has_lock S.needs.0.alone) (ap knows_seq S.needs.0.loaded) in
    let early = early_snapshot i lt n taken in
    absurd (omega (arith, early, same, is, loaded))
  where
    early_snapshot : (j : ℕ) → j < actors_of z → (n : ℕ) → ((part_behind a (part.SetSeq seq) note v).hand j).topics.invalidations.snapshot ≡ Some n
        → n ≤ v.words area.Seq 0
    early_snapshot =
        at_upd (λ j (k : Held). j < actors_of z → (n : ℕ) → k.topics.invalidations.snapshot ≡ Some n → n ≤ v.words area.Seq 0) v.hand a _
        (λ there. (I.looks a there).snapshot) (λ j ne there. (I.looks j there).snapshot)
