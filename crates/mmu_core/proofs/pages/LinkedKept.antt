-- Under the lock alone, outside of every section, a walk has come to and gone through tables that hang below the root: each step of a part keeps it.
use Rattle.std.proofs.Common.{arith, inl, inr, refl, sym, subst, ℕ, ◌<◌, ◌≡◌, ◌≤◌, ◌⊎◌}
use Rattle.std.proofs.lemmas.Bool.{cases_lt}
use Rattle.core_views.specs.declared.sizes.Sizes.{Sizes}
use Rattle.core_views.specs.declared.topics.Hold.TheVariants.{Exclusive}
use Rattle.core_views.specs.declared.topics.Stay.TheVariants.{Outside}
use Rattle.core_views.specs.declared.topics.Topics.{Topics}
use Rattle.core_views.specs.Held.{Held}
use Rattle.core_views.specs.Sizes.{actors_of}
use Rattle.spte_words.specs.declared.area.Area.TheVariants as area
use Rattle.part_steps.specs.declared.part_step.PartStep.{PartStep}
use Rattle.part_steps.specs.PartTasks.{part_task, table_page}
use Rattle.part_steps.specs.PartTopics.{part_topics}
use Rattle.mmu_core.specs.invariant.HeldPart.{table_at}
use Rattle.mmu_core.specs.invariant.ReachPart.{LinkedPart}
use Rattle.mmu_core.specs.invariant.TopicsInvariant.{TopicsInvariant}
use Rattle.mmu_core.specs.invariant.TreePart.{HangsBelow, Use}
use Rattle.mmu_core.specs.machine.View.{View, answer_in, part_stepped}
use Rattle.mmu_core.proofs.machine.Columns.{at_upd}
use Rattle.mmu_core.proofs.machine.PartStepping.{IsPart}
use Rattle.mmu_core.proofs.pages.AllOver.{reaches_on}
use Rattle.mmu_core.proofs.pages.Paths.{in_table, part_goes, top_span}
use Rattle.mmu_core.proofs.pages.Standing.{up_after}
use Rattle.mmu_core.proofs.pages.WalksTo.{ComesFrom, alone_before, alone_comes, hangs_still}
use Rattle.mmu_core.proofs.words.PartTopics.{behind_step, stepped_hand}
use Rattle.mmu_core.proofs.words.PartWords.{areas_stay}

module _ (z : Sizes) (v : View) (a note : ℕ) (step : PartStep) (S : IsPart z v a step) (I : TopicsInvariant z v) where
  abbrev t : Topics
  t = (v.hand a).topics

  abbrev root : ℕ
  root = v.words area.Root 0

  abbrev after : Topics
  after = part_topics step t (answer_in (part_task step a t note) v.words)

  -- The table that the walk has come to hangs below the root.
  here_linked : LinkedPart I.up root t → t.hold ≡ Exclusive → t.stay ≡ Outside → ComesFrom z v a note I after.walk
      → HangsBelow I.up root (table_page after.walk)
  here_linked linked alone out (inl e) = subst (HangsBelow I.up root) (sym e) (0, refl)
  here_linked linked alone out (inr D) =
      reaches_on I.up root (table_at D.0 t.walk) (table_page after.walk) (linked alone out D.0 D.1 D.2 D.3) D.4

  -- And each one that it has gone through.
  own_linked : LinkedPart I.up root after
  own_linked alone out level from down most = by (cases_lt after.walk.level level)
    where
      was : (t.hold ≡ Exclusive) × (t.stay ≡ Outside)
      was = alone_before z v a note I step S alone out from

      by : (after.walk.level < level) ⊎ (level ≤ after.walk.level) → HangsBelow I.up root (table_at level after.walk)
      by (inl above) =
          let on = part_goes step t (answer_in (part_task step a t note) v.words)
          (in_table step (v.hand a) S.needs (top_span I.tree t (I.held a S.there) (I.paths a S.there))) level from above most in
          subst (HangsBelow I.up root) (sym on.table) (I.linked a S.there was.0 was.1 level on.from on.down most)
      by (inr not_above) =
          let same : after.walk.level ≡ level = omega (arith, down, not_above) in
          subst (λ l. HangsBelow I.up root (table_at l after.walk)) same
          (here_linked (I.linked a S.there) was.0 was.1 (alone_comes z v a note I step S was.0 was.1 from))

pub linked_kept : (z : Sizes) (v : View) (a : ℕ) (step : PartStep) (note : ℕ) → IsPart z v a step → (I : TopicsInvariant z v) → (i : ℕ) → i < actors_of z
    → LinkedPart (up_after step a (v.hand a).topics v I.up) ((part_stepped a step note v).words area.Root 0) ((part_stepped a step note v).hand i).topics
linked_kept z v a step note S I =
    behind_step (λ (w : View). (i : ℕ) → IsKept i (w.hand i)) z v a step note S
    (at_upd IsKept v.hand a _ (λ lt. still (stepped_hand a step note v).topics (own_linked z v a note step S I))
    (λ i ne lt. still (v.hand i).topics (I.linked i lt)))
  where
    up : ℕ → Use
    up = up_after step a (v.hand a).topics v I.up

    IsKept : ℕ → Held → Type 0
    IsKept i h = i < actors_of z → LinkedPart up ((part_stepped a step note v).words area.Root 0) h.topics

    still : (t : Topics) → LinkedPart I.up (v.words area.Root 0) t → LinkedPart up ((part_stepped a step note v).words area.Root 0) t
    still t linked alone out level from down most =
        subst (λ (r : ℕ → ℕ). HangsBelow up (r 0) (table_at level t.walk)) (sym (areas_stay v a step note area.Root refl))
        (hangs_still z v a step S I (v.words area.Root 0) (table_at level t.walk) (linked alone out level from down most))
