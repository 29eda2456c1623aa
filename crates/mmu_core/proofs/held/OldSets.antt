-- The slot sets that are held, or retired: no step stores in their pages.
use Rattle.std.proofs.Common.{◌≡◌, ◌≢◌, ◌⊎◌, inl, inr, ◌<◌, ◌≤◌, ℕ, refl, sym, subst, ap, ◌∙◌}
use Rattle.std.specs.Prelude.{Bool, true, false, Option, Some, None}
use Rattle.core_views.specs.declared.sizes.Sizes.{Sizes}
use Rattle.core_views.specs.declared.topics.OwnedPage.{OwnedPage}
use Rattle.core_views.specs.declared.topics.Topics.{Topics}
use Rattle.core_views.specs.Held.{Held}
use Rattle.core_views.specs.Sizes.{actors_of}
use Rattle.spte_words.specs.declared.area.Area.TheVariants as area
use Rattle.part_steps.specs.declared.part_step.PartStep.{PartStep}
use Rattle.part_steps.specs.declared.part_step.PartStep.TheVariants as part
use Rattle.mmu_core.specs.invariant.HeldPart.{HasRetired, HoldsOld, OldSetsPart}
use Rattle.part_steps.specs.PartTasks.{own_index, part_task, table_page}
use Rattle.mmu_core.specs.invariant.SlotSetPart.{AreSlots}
use Rattle.mmu_core.specs.invariant.TopicsInvariant.{TopicsInvariant}
use Rattle.part_steps.specs.PageTopics.{still_retired}
use Rattle.mmu_core.specs.invariant.TreePart.{stands}
use Rattle.mmu_core.specs.machine.View.{View, part_stepped, upd, answer_in}
use Rattle.mmu_core.proofs.machine.Columns.{same_or, upd_other, upd_same}
use Rattle.mmu_core.proofs.machine.PartStepping.{IsPart, is_publish}
use Rattle.mmu_core.proofs.slots.LiveStay.{slots_stay}
use Rattle.mmu_core.proofs.slots.LiveStays.{SetStays, live_in_stays, published_stays, words_live}
use Rattle.mmu_core.proofs.words.PartWords.{page_stays, slots_are, slots_same}
use Rattle.mmu_core.proofs.pages.PoolPages.{retired_no_table, retired_not_owned}
use Rattle.mmu_core.proofs.pages.OwnedBehind.{retired_behind, retired_is}
use Rattle.mmu_core.specs.machine.Steps.{idle_after}
use Rattle.part_steps.specs.Tasks.{kind_of_task}
use Rattle.mmu_core.proofs.held.SetsKept.{sets_kept}

-- ---- The page of a slot set that is held, or retired, keeps its words.

-- a page that is retired is no table
retired_no_walk : (z : Sizes) (v : View) (a i k : ℕ) → a < actors_of z → i < actors_of z → TopicsInvariant z v → 1 ≤ (v.hand a).topics.walk.level
    → (v.hand i).topics.retired ≡ Some k → table_page (v.hand a).topics.walk ≢ k
retired_no_walk z v a i k there lt I from is e =
    retired_no_table I.uses I.spot i k _ lt is (sym (ap (stands I.up I.spot) e) ∙ (I.held a there).table from)

-- a page that is retired is none that a step stores words in
pub retired_words_stay : (z : Sizes) (v : View) (a : ℕ) (step : PartStep) (note : ℕ) → IsPart z v a step → TopicsInvariant z v → (i k : ℕ) → i < actors_of z
    → (v.hand i).topics.retired ≡ Some k → SetStays k (v.words area.Pool) ((part_stepped a step note v).words area.Pool)
retired_words_stay z v a (part.Fill value) note S I i k lt is =
    page_stays z v a (part.Fill value) note S k (λ o owned. retired_not_owned I.uses i k lt is a o S.there owned)
retired_words_stay z v a (part.Link gfn) note S I i k lt is =
    page_stays z v a (part.Link gfn) note S k (retired_no_walk z v a i k S.there lt I S.needs.0.saw.over.there is)
retired_words_stay z v a (part.Leaf gfn write) note S I i k lt is =
    page_stays z v a (part.Leaf gfn write) note S k (retired_no_walk z v a i k S.there lt I S.needs.0.saw.over.there is)
retired_words_stay z v a (part.Fix gfn) note S I i k lt is =
    page_stays z v a (part.Fix gfn) note S k (retired_no_walk z v a i k S.there lt I S.needs.saw.over.there is)
retired_words_stay z v a (part.Zap gfn) note S I i k lt is =
    page_stays z v a (part.Zap gfn) note S k (retired_no_walk z v a i k S.there lt I S.needs.saw.over.there is)
retired_words_stay z v a (part.Protect gfn) note S I i k lt is =
    page_stays z v a (part.Protect gfn) note S k (retired_no_walk z v a i k S.there lt I S.needs.saw.over.there is)
retired_words_stay z v a _ note S I i k lt is = λ j low. refl

-- what is retired after a step was retired before it, or is the page that was published
pub was_retired : (step : PartStep) (t : Topics) (v k : ℕ) → is_publish step ≡ false → retired_behind step t v ≡ Some k → t.retired ≡ Some k
was_retired part.Publish t v k never is = absurd (cc never)
was_retired part.Give t v k never is = by t.owned is
  where
    by : (x : Option OwnedPage) → still_retired x t.retired ≡ Some k → t.retired ≡ Some k
    by None e = absurd (cc e)
    by (Some o) e = e
was_retired part.GiveOld t v k never is = by t.owned is
  where
    by : (x : Option OwnedPage) → still_retired x t.retired ≡ Some k → t.retired ≡ Some k
    by None e = absurd (cc e)
    by (Some o) e = e
was_retired _ t v k never is = is

-- what an actor has leave after a step that publishes nothing it had leave before
retired_before : (z : Sizes) (v : View) (a : ℕ) (step : PartStep) (note i k : ℕ) → is_publish step ≡ false
    → ((part_stepped a step note v).hand i).topics.retired ≡ Some k → (v.hand i).topics.retired ≡ Some k
retired_before z v a step note i k never is = by (same_or i a)
  where
    h : Held
    h =
        idle_after (v.hand a) (kind_of_task (v.hand a).state.sizes (part_task step (own_index (v.hand a)) (v.hand a).topics note))
        (answer_in (part_task step (own_index (v.hand a)) (v.hand a).topics note) v.words)

    by : (i ≡ a) ⊎ (i ≢ a) → (v.hand i).topics.retired ≡ Some k
    by (inl e) =
        ap (λ j. (v.hand j).topics.retired) e
        ∙ was_retired step (v.hand a).topics _ k never
        (sym (retired_is step (v.hand a).state.sizes (own_index (v.hand a)) (v.hand a).topics note _)
        ∙ (sym (ap (λ (g : Held). g.topics.retired) (upd_same v.hand a h)) ∙ (ap (λ j. (upd v.hand a h j).topics.retired) (sym e) ∙ is)))
    by (inr ne) = sym (ap (λ (g : Held). g.topics.retired) (upd_other v.hand a i h ne)) ∙ is

-- a publication stores in no page
publish_leaves : (v : View) (a : ℕ) (step : PartStep) (note k : ℕ) → is_publish step ≡ true
    → SetStays k (v.words area.Pool) ((part_stepped a step note v).words area.Pool)
publish_leaves v a part.Publish note k is = λ j low. refl
publish_leaves v a _ note k is = absurd (cc is)

pub held_words_stay : (z : Sizes) (v : View) (a : ℕ) (step : PartStep) (note : ℕ) → IsPart z v a step → TopicsInvariant z v → (i k : ℕ)
    → i < actors_of z → ((part_stepped a step note v).hand i).topics.search.set ≡ Some k
    → SetStays k (v.words area.Pool) ((part_stepped a step note v).words area.Pool)
held_words_stay z v a step note S I i k lt is = by (is_publish step) refl
  where
    from : is_publish step ≡ false → (k ≡ (part_stepped a step note v).words area.Slots 0) ⊎ HoldsOld HasRetired (actors_of z) (λ j.
        ((part_stepped a step note v).hand j).topics) i k → SetStays k (v.words area.Pool) ((part_stepped a step note v).words area.Pool)
    from never (inl e) =
        subst (λ s. SetStays s (v.words area.Pool) ((part_stepped a step note v).words area.Pool))
        (sym (e ∙ (slots_are v a step note ∙ slots_same step (v.hand a).topics (v.words area.Slots 0) never)))
        (published_stays z v a step note S I)
    from never (inr H) = retired_words_stay z v a step note S I H.by k H.there (retired_before z v a step note H.by k never H.leaves)

    by : (b : Bool) → is_publish step ≡ b → SetStays k (v.words area.Pool) ((part_stepped a step note v).words area.Pool)
    by true e = publish_leaves v a step note k e
    by false e = from e (sets_kept z v a step note S I i k lt is)

-- ---- A set that is held, or retired, is a slot set.

pub held_are_slots : (z : Sizes) (v : View) (a k : ℕ) → a < actors_of z → TopicsInvariant z v → AreSlots z (v.words area.Pool) (v.words area.Slots 0)
    → (v.hand a).topics.search.set ≡ Some k → AreSlots z (v.words area.Pool) k
held_are_slots z v a k lt I published held = by (I.sets a k lt held)
  where
    by : (k ≡ v.words area.Slots 0) ⊎ HoldsOld HasRetired (actors_of z) (λ j. (v.hand j).topics) a k → AreSlots z (v.words area.Pool) k
    by (inl e) = subst (AreSlots z (v.words area.Pool)) (sym e) published
    by (inr H) = I.old_sets H.by k H.there H.leaves

old_published : (z : Sizes) (v : View) (a note : ℕ) → IsPart z v a part.Publish → TopicsInvariant z v
    → OldSetsPart z (actors_of z) (v.words area.Pool) (λ i. ((part_stepped a part.Publish note v).hand i).topics.retired)
old_published z v a note S I i k lt is = by (same_or i a)
  where
    h : Held
    h =
        idle_after (v.hand a) (kind_of_task (v.hand a).state.sizes (part_task part.Publish (own_index (v.hand a)) (v.hand a).topics note))
        (v.words area.Slots 0)

    some_page : {x y : ℕ} → Some x ≡ Some y → x ≡ y
    some_page e = cc e

    by : (i ≡ a) ⊎ (i ≢ a) → AreSlots z (v.words area.Pool) k
    by (inl e) =
        let now_leaves : Some (v.words area.Slots 0) ≡ Some k =
        sym (retired_is part.Publish (v.hand a).state.sizes (own_index (v.hand a)) (v.hand a).topics note (v.words area.Slots 0))
        ∙ (sym (ap (λ (g : Held). g.topics.retired) (upd_same v.hand a h)) ∙ (ap (λ j. (upd v.hand a h j).topics.retired) (sym e) ∙ is)) in
        subst (AreSlots z (v.words area.Pool)) (some_page now_leaves) S.replaces.old
    by (inr ne) = I.old_sets i k lt (sym (ap (λ (g : Held). g.topics.retired) (upd_other v.hand a i h ne)) ∙ is)

pub old_sets_kept : (z : Sizes) (v : View) (a : ℕ) (step : PartStep) (note : ℕ) → IsPart z v a step → TopicsInvariant z v
    → OldSetsPart z (actors_of z) ((part_stepped a step note v).words area.Pool) (λ i. ((part_stepped a step note v).hand i).topics.retired)
old_sets_kept z v a part.Publish note S I = old_published z v a note S I
old_sets_kept z v a step note S I = λ i k lt is.
    let left = retired_before z v a step note i k refl is in
    let before : ℕ → ℕ = v.words area.Pool in
    let after : ℕ → ℕ = (part_stepped a step note v).words area.Pool in
    slots_stay z before k after k
    (λ id slot L. live_in_stays k after before id slot (words_live k after before (λ j low. sym (retired_words_stay z v a step note S I i k lt left j low))) L)
    (I.old_sets i k lt left)
