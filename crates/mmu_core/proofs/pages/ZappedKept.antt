-- From the moment at which a first flush is asked for no links lead to a leaf of the frames of an open invalidation: each step of a part keeps it.
use Rattle.std.proofs.Common.{◌≡◌, ◌≢◌, ◌⊎◌, inl, inr, ◌+◌, ◌-◌, ◌<◌, ◌≤◌, ℕ, refl, sym, subst, ap, ◌∙◌, arith}
use Rattle.std.specs.Prelude.{Bool, true, false, nat_lt, if◌then◌else◌}
use Rattle.std.proofs.lemmas.Bool.Decides.{nat_tests}
use Rattle.core_views.specs.declared.sizes.Sizes.{Sizes}
use Rattle.core_views.specs.declared.topics.Flush.{Flush}
use Rattle.core_views.specs.declared.topics.Invalidated.{Invalidated}
use Rattle.core_views.specs.declared.topics.Topics.{Topics}
use Rattle.core_views.specs.Held.{Held}
use Rattle.core_views.specs.Sizes.{actors_of}
use Rattle.spte_words.specs.declared.area.Area.TheVariants as area
use Rattle.spte_words.proofs.ReadsEntries.{kind_of_absent, kind_of_table}
use Rattle.part_steps.specs.declared.part_step.PartStep.{PartStep}
use Rattle.part_steps.specs.declared.part_step.PartStep.TheVariants as part
use Rattle.part_steps.specs.InvalidationHoldings.{MayCount}
use Rattle.part_steps.specs.SweepHoldings.{HasSwept}
use Rattle.part_steps.specs.PartTasks.{part_task}
use Rattle.part_steps.specs.PartTopics.{part_topics}
use Rattle.part_steps.specs.StayTopics.{no_flush}
use Rattle.mmu_core.specs.invariant.AllOver.{AllOver}
use Rattle.mmu_core.specs.invariant.InvalidatedPart.{IsNoLeafIn, ZappedPart, keeps_empty}
use Rattle.mmu_core.proofs.held.KeptEmpty.{empty_open, given_empty, published_none}
use Rattle.mmu_core.specs.invariant.TopicsInvariant.{TopicsInvariant}
use Rattle.mmu_core.specs.invariant.TreePart.{is_table}
use Rattle.mmu_core.specs.machine.View.{View, answer_in, part_stepped}
use Rattle.mmu_core.proofs.machine.Columns.{at_upd, same_or}
use Rattle.mmu_core.proofs.machine.PartStepping.{IsPart}
use Rattle.mmu_core.proofs.pages.AllOver.{IsInherited, IsLight}
use Rattle.mmu_core.proofs.pages.OverSteps.{OfNewLeaf, over_step}
use Rattle.mmu_core.proofs.pages.Standing.{spot_after, up_after}
use Rattle.mmu_core.proofs.words.PartTopics.{behind_step}
use Rattle.mmu_core.proofs.words.PartWords.{areas_stay}
use Rattle.mmu_core.proofs.pages.PutLeaves.{put_meets_none}
use Rattle.mmu_core.proofs.held.KeptEmpty.{changed_empty}

-- It says nothing of what is no leaf.
pub no_leaf_light : (own_ : Invalidated) → IsLight (IsNoLeafIn own_)
no_leaf_light own_ = record {
  absent = λ level gfn is_in leaf. let none = kind_of_absent level in cc (none, leaf);
  link = λ level gfn page upper small is_in leaf. let links = kind_of_table level page upper small in cc (links, leaf);
}

-- Where a leaf is none, its child is none.
pub no_leaf_inherited : (own_ : Invalidated) → IsInherited (IsNoLeafIn own_)
no_leaf_inherited own_ level gfn leaf upper most is so is_in child = so is_in is

-- ---- A new leaf is of none of the frames.

pub new_leaf : (z : Sizes) (v : View) (a i : ℕ) (step : PartStep) → IsPart z v a step → TopicsInvariant z v → i < actors_of z
    → keeps_empty (v.hand i).topics ≡ true → OfNewLeaf step (v.hand a).topics v (IsNoLeafIn (v.hand i).topics.invalidations.own)
new_leaf z v a i (part.Fix gfn) S I lt empty = λ won other over none is_in leaf. none is_in S.needs.leaf
new_leaf z v a i (part.Protect gfn) S I lt empty = λ found other was none is_in leaf. none is_in was
new_leaf z v a i (part.Leaf gfn write) S I lt empty = λ won other over is_in leaf. put_meets_none z v a gfn write other S I i lt over empty is_in
new_leaf z v a i _ S I lt empty = tt

-- ---- The actor's own.

-- of the view before the step
abbrev ZappedIn : (z : Sizes) (v : View) → TopicsInvariant z v → Invalidated → Type 0
ZappedIn z v I own_ = AllOver I.up I.spot (v.words area.Pool) (v.words area.Root 0) (IsNoLeafIn own_)

-- A sweep has left no leaf of its frames.
swept_zapped : (z : Sizes) (v : View) (a index : ℕ) → IsPart z v a (part.Ask index) → (I : TopicsInvariant z v)
    → (v.hand a).topics.invalidations.opened ≡ true → (v.hand a).topics.flush.asked ≡ 0 → ZappedIn z v I (v.hand a).topics.invalidations.own
swept_zapped z v a index S I is_open none l j gfn R O is_in leaf =
    let from = is_in.0 in
    let to = is_in.1 in
    let W : HasSwept t.invalidations.own t.walk = S.needs.swept is_open none (grind (arith, nat_tests)) in
    let all = W.all in
    I.swept a S.there (S.needs.alone is_open) S.needs.outside is_open W.there l j gfn R O is_in (omega (arith, to, all)) leaf
  where
    t : Topics
    t = (v.hand a).topics

-- Who opens one has asked for no flush yet, and who closes its own has none open then.
counted_unasked : (count : ℕ) (t : Topics) → MayCount count t → nat_lt t.invalidations.count count ≡ true → 1 ≤ t.flush.asked → ⊥
counted_unasked count t M more asked = by t.invalidations.opened refl
  where
    by : (b : Bool) → t.invalidations.opened ≡ b → ⊥
    by false closed = let none : t.flush.asked ≡ 0 = ap (λ (f : Flush). f.asked) (M.opens closed).unasked in omega (arith, none, asked)
    by true is_open =
        let less : count ≡ t.invalidations.count - 1 = M.is ∙ ap (λ (b : Bool). if b then t.invalidations.count - 1 else t.invalidations.count + 1) is_open in
        grind (arith, nat_tests)

-- Who wins the lock has asked for no flush under it.
asked_before : (won : Bool) (f : Flush) → 1 ≤ (if won then no_flush else f).asked → 1 ≤ f.asked
asked_before true f asked = absurd (omega (arith, asked))
asked_before false f asked = asked

-- So it is before the step of what is open after it, and of a new leaf.
abbrev OwnZapped : (z : Sizes) (v : View) → ℕ → PartStep → TopicsInvariant z v → Topics → Type 0
OwnZapped z v a step I t =
    keeps_empty t ≡ true → 1 ≤ t.flush.asked → ZappedIn z v I t.invalidations.own × OfNewLeaf step (v.hand a).topics v (IsNoLeafIn t.invalidations.own)

own_zapped : (z : Sizes) (v : View) (a note : ℕ) (step : PartStep) → IsPart z v a step → (I : TopicsInvariant z v)
    → OwnZapped z v a step I (part_topics step (v.hand a).topics (answer_in (part_task step a (v.hand a).topics note) v.words))
own_zapped z v a note (part.Ask index) S I = λ is_open asked. (by is_open (same_or (v.hand a).topics.flush.asked 0), tt)
  where
    by : keeps_empty (v.hand a).topics ≡ true → ((v.hand a).topics.flush.asked ≡ 0) ⊎ ((v.hand a).topics.flush.asked ≢ 0)
        → ZappedIn z v I (v.hand a).topics.invalidations.own
    by is_open (inl none) = swept_zapped z v a index S I (empty_open (v.hand a).topics is_open) none
    by is_open (inr some) = I.zapped a S.there is_open (omega (arith, some))
own_zapped z v a note part.Exclude S I = λ is_open asked. (I.zapped a S.there is_open (asked_before _ (v.hand a).topics.flush asked), tt)
own_zapped z v a note (part.Leaf gfn write) S I = λ is_open asked.
    (I.zapped a S.there is_open asked, new_leaf z v a a (part.Leaf gfn write) S I S.there is_open)
own_zapped z v a note (part.Fix gfn) S I = λ is_open asked.
    (I.zapped a S.there is_open asked, new_leaf z v a a (part.Fix gfn) S I S.there is_open)
own_zapped z v a note (part.Protect gfn) S I = λ is_open.
    absurd (let none = S.needs.none_open in let opened = empty_open (v.hand a).topics is_open in cc (none, opened))
own_zapped z v a note (part.SetEnd last gfn) S I = λ is_open.
    let opened = empty_open (part_topics (part.SetEnd last gfn) (v.hand a).topics 0) is_open in
    absurd (let closed = S.needs.0.opening.closed in cc (closed, opened))
own_zapped z v a note (part.SetStart first gfn) S I = λ is_open.
    let opened = empty_open (part_topics (part.SetStart first gfn) (v.hand a).topics 0) is_open in
    absurd (let closed = S.needs.0.opening.closed in cc (closed, opened))
own_zapped z v a note (part.SetCount count) S I = λ is_open asked.
    absurd (counted_unasked count (v.hand a).topics S.needs.0 (empty_open (part_topics (part.SetCount count) (v.hand a).topics
    (answer_in (part_task (part.SetCount count) a (v.hand a).topics note) v.words)) is_open) asked)
own_zapped z v a note part.Publish S I = λ is_open.
    absurd (published_none (v.hand a).topics.invalidations.opened (v.hand a).topics.invalidations.own.pages S.needs.of_no_page is_open)
own_zapped z v a note part.ChangeNext S I = λ is_open asked. (I.zapped a S.there (changed_empty (v.hand a).topics _ is_open) asked, tt)
own_zapped z v a note part.Give S I = λ is_open asked. (I.zapped a S.there (given_empty (v.hand a).topics S.needs.0 is_open) asked, tt)
own_zapped z v a note part.GiveOld S I = λ is_open.
    absurd (let closed = S.needs.closed in let opened = empty_open (part_topics part.GiveOld (v.hand a).topics 0) is_open in cc (closed, opened))
own_zapped z v a note _ S I = λ is_open asked. (I.zapped a S.there is_open asked, tt)

-- ---- Each step.

pub zapped_kept : (z : Sizes) (v : View) (a : ℕ) (step : PartStep) (note : ℕ) → IsPart z v a step → (I : TopicsInvariant z v)
    → ZappedPart (actors_of z) (up_after step a (v.hand a).topics v I.up) (spot_after step (v.hand a).topics v I.spot)
    ((part_stepped a step note v).words area.Pool) ((part_stepped a step note v).words area.Root 0) (λ i. ((part_stepped a step note v).hand i).topics)
zapped_kept z v a step note S I =
    behind_step (λ (w : View). (i : ℕ) → IsKept i (w.hand i)) z v a step note S
    (at_upd IsKept v.hand a _ (λ lt is_open asked. let own = own_zapped z v a note step S I is_open asked in carried behind.invalidations.own own.0 own.1)
    (λ i ne lt is_open asked. carried (v.hand i).topics.invalidations.own (I.zapped i lt is_open asked)
    (new_leaf z v a i step S I lt is_open)))
  where
    behind : Topics
    behind = part_topics step (v.hand a).topics (answer_in (part_task step a (v.hand a).topics note) v.words)

    IsZapped : (ℕ → ℕ) → Invalidated → Type 0
    IsZapped root own_ =
        AllOver (up_after step a (v.hand a).topics v I.up) (spot_after step (v.hand a).topics v I.spot) ((part_stepped a step note v).words area.Pool) (root 0)
        (IsNoLeafIn own_)

    IsKept : ℕ → Held → Type 0
    IsKept i h =
        i < actors_of z → keeps_empty h.topics ≡ true → 1 ≤ h.topics.flush.asked
        → IsZapped ((part_stepped a step note v).words area.Root) h.topics.invalidations.own

    carried : (own_ : Invalidated) → ZappedIn z v I own_ → OfNewLeaf step (v.hand a).topics v (IsNoLeafIn own_)
        → IsZapped ((part_stepped a step note v).words area.Root) own_
    carried own_ A new_ =
        subst (λ root. IsZapped root own_) (sym (areas_stay v a step note area.Root refl))
        (over_step z v a step note S I (v.words area.Root 0) (IsNoLeafIn own_) (ap is_table I.tree.top) (no_leaf_light own_) (no_leaf_inherited own_) new_ A)
