-- The steps of the machine's parts keep what owners have filled.
use Rattle.std.proofs.Common.{◌≡◌, ◌≢◌, ◌⊎◌, inl, inr, ◌+◌, ◌*◌, ◌^◌, ◌<◌, ℕ, refl, sym, subst, ap, ◌∙◌, arith}
use Rattle.std.specs.Prelude.{Bool, true, false, ◌-◌, ◌==◌, ◌&&◌, ◌||◌, nat_le, if◌then◌else◌, Option, Some, None}
use Rattle.std.proofs.lemmas.Bool.Decides.{nat_tests}
use Rattle.core_views.specs.declared.sizes.Sizes.{Sizes}
use Rattle.core_views.specs.declared.topics.MapClaim.{MapClaim}
use Rattle.core_views.specs.declared.topics.OwnedPage.{OwnedPage}
use Rattle.core_views.specs.declared.topics.TableWalk.{TableWalk}
use Rattle.core_views.specs.declared.topics.Topics.{Topics}
use Rattle.core_views.specs.Held.{Held}
use Rattle.core_views.specs.Sizes.{actors_of}
use Rattle.spte_words.specs.declared.area.Area.TheVariants as area
use Rattle.spte_words.specs.Areas.{pool_index}
use Rattle.spte_words.specs.Entries.{word_below}
use Rattle.part_steps.specs.declared.part_step.PartStep.{PartStep}
use Rattle.part_steps.specs.declared.part_step.PartStep.TheVariants as part
use Rattle.part_steps.specs.PartTasks.{own_index, page_owned, part_task, words_filled}
use Rattle.mmu_core.specs.invariant.PoolPart.{FilledPart, IsFilled}
use Rattle.part_steps.specs.PartTopics.{part_topics}
use Rattle.part_steps.specs.PageTopics.{claimed, filled_more, is_won, tried_bit}
use Rattle.mmu_core.specs.invariant.TopicsInvariant.{TopicsInvariant}
use Rattle.mmu_core.specs.machine.View.{View, answer_in, part_stepped, upd}
use Rattle.mmu_core.proofs.machine.Columns.{at_upd, same_or, upd_same}
use Rattle.mmu_core.proofs.pages.Owned.{OwnsWhole, table_owned}
use Rattle.mmu_core.proofs.pages.NewLeaves.{fixed_is_leaf, leaf_is}
use Rattle.mmu_core.proofs.pages.OwnedBehind.{leaf_stored, link_stored}
use Rattle.mmu_core.proofs.machine.PartStepping.{IsPart}
use Rattle.mmu_core.proofs.words.PartTopics.{is_there, part_topics_is}
use Rattle.mmu_core.proofs.words.PartWords.{HasOtherRole, IsElsewhere, fill_leaves, page_stays, role_stays, walks_unowned, retired_elsewhere}
use Rattle.mmu_core.proofs.pages.PoolPages.{retired_not_owned, one_owner, owned_there}
use Rattle.mmu_core.proofs.pages.Standing.{entry_now}

-- Of a page that was claimed nothing is filled.
claim_filled : (role pool : ℕ → ℕ) (walk : TableWalk) (claim : MapClaim) (v : ℕ) (o : OwnedPage) → claimed walk claim v ≡ Some o → IsFilled role pool o
claim_filled role pool walk claim v o is = by (is_won claim v) is
  where
    by : (won : Bool) → ◌≡◌ {A = Option OwnedPage} (if won
        then Some (record { page = 64 * claim.at + tried_bit claim; filled = 0; entry = walk.entry; level = walk.level; below = true; role = 0 })
        else None) (Some o) → IsFilled role pool o
    by true e =
        let none : 0 ≡ o.filled = ap words_filled e in
        record {
          most = omega (arith, none);
          below = λ is_so j less low. absurd (omega (arith, less, none));
          role_is = λ whole. absurd (omega (arith, whole, none));
        }
    by false e = absurd (cc e)

-- A word that is said to be one below the entry is, besides all before it.
still_below : (so : Bool) (filled v fit : ℕ) → (so && (nat_le 512 filled || v == fit)) ≡ true → (so ≡ true) × (filled < 512 → v ≡ fit)
still_below true filled v fit is = (refl, λ lt. grind (arith, nat_tests, is, lt))
still_below false filled v fit is = absurd (cc is)

-- the page of which one more is filled
abbrev more : OwnedPage → ℕ → OwnedPage
more o value = record {
  page = o.page;
  filled = o.filled + 1;
  entry = o.entry;
  level = o.level;
  below = o.below && (nat_le 512 o.filled || value == word_below o.level o.entry o.filled);
  role = if o.filled == 512 then value else o.role;
}

-- One more word of the page is filled.
word_filled : (role pool : ℕ → ℕ) (o : OwnedPage) (value : ℕ) → o.filled < 512 → IsFilled role pool o
    → IsFilled role (upd pool (pool_index o.page o.filled) value) (more o value)
word_filled role pool o value low F = record {
  most = omega (arith, low);
  below = λ is_so j less in_page. each (still_below o.below o.filled value (fit o.filled) is_so) j less in_page (same_or j o.filled);
  role_is = λ all. absurd (omega (arith, all, low));
}
  where
    fit : ℕ → ℕ
    fit j = word_below o.level o.entry j

    each : (o.below ≡ true) × (o.filled < 512 → value ≡ fit o.filled) → (j : ℕ) → j < o.filled + 1 → j < 512 → (j ≡ o.filled) ⊎ (j ≢ o.filled)
        → upd pool (pool_index o.page o.filled) value (pool_index o.page j) ≡ fit j
    each so j less in_page (inl e) =
        ap (λ i. upd pool (pool_index o.page o.filled) value (pool_index o.page i)) e ∙ upd_same pool (pool_index o.page o.filled) value
        ∙ so.1 low ∙ sym (ap fit e)
    each so j less in_page (inr ne) =
        fill_leaves o.page o.filled value pool o.page j low in_page (λ d e. ne (sym e)) ∙ F.below so.0 j (omega (arith, less, ne)) in_page

-- Its role is stored.
role_stored : (role pool : ℕ → ℕ) (o : OwnedPage) (value : ℕ) → o.filled ≡ 512 → IsFilled role pool o → IsFilled (upd role o.page value) pool (more o value)
role_stored role pool o value full F = record {
  most = omega (arith, full);
  below = λ is_so j less in_page. F.below (still_below o.below o.filled value _ is_so).0 j (omega (arith, full, in_page)) in_page;
  role_is =
      λ all. let last : (o.filled == 512) ≡ true = grind (arith, nat_tests, full) in upd_same role o.page value
      ∙ sym (ap (λ (b : Bool). if b then value else o.role) last);
}

-- what is so of the page of which one more is filled
of_more : (P : OwnedPage → Type 0) (owned : Option OwnedPage) (value : ℕ) → ((o : OwnedPage) → owned ≡ Some o → P (more o value)) → (o : OwnedPage)
    → filled_more owned value ≡ Some o → P o
of_more P None value each o e = absurd (cc e)
of_more P (Some q) value each o e = subst P (some_is e) (each q refl)
  where
    some_is : {a b : OwnedPage} → Some a ≡ Some b → a ≡ b
    some_is e = cc e

-- What is filled of a page that the step doesn't store in stays.
still_filled : (z : Sizes) (v : View) (a : ℕ) (step : PartStep) (note : ℕ) → IsPart z v a step → (o : OwnedPage)
    → IsElsewhere step (v.hand a).topics o.page → HasOtherRole step (v.hand a).topics o.page → IsFilled (v.words area.Role) (v.words area.Pool) o
    → IsFilled ((part_stepped a step note v).words area.Role) ((part_stepped a step note v).words area.Pool) o
still_filled z v a step note S o apart other F = record {
  most = F.most;
  below = λ is_so j less low. page_stays z v a step note S o.page apart j low ∙ F.below is_so j less low;
  role_is = λ whole. role_stays z v a step note S o.page other ∙ F.role_is whole;
}

-- What the actor has filled after its step.
own_filled : (z : Sizes) (v : View) (a : ℕ) (step : PartStep) (note : ℕ) → IsPart z v a step → TopicsInvariant z v
    → (o : OwnedPage) → (part_topics step (v.hand a).topics (answer_in (part_task step (own_index (v.hand a)) (v.hand a).topics note) v.words)).owned
    ≡ Some o → IsFilled ((part_stepped a step note v).words area.Role) ((part_stepped a step note v).words area.Pool) o
own_filled z v a part.Claim note S I o is =
    claim_filled (v.words area.Role) (v.words area.Pool) (v.hand a).topics.walk (v.hand a).topics.claim (v.words area.PoolMap (v.hand a).topics.claim.at) o is
own_filled z v a part.Give note S I o is = absurd (cc is)
own_filled z v a part.GiveOld note S I o is = absurd (cc is)
own_filled z v a part.Publish note S I o is = absurd (cc is)
own_filled z v a part.Clear note S I o is =
    absurd (let none : filled_more (v.hand a).topics.owned 0 ≡ None = ap (λ x. filled_more x 0) S.needs.owns_none in cc (is, none))
own_filled z v a (part.Fill value) note S I o is =
    let t : Topics = (v.hand a).topics in
    of_more (IsFilled (v.words area.Role) (upd (v.words area.Pool) (pool_index (page_owned t.owned) (words_filled t.owned)) value)) t.owned value
    (λ p mine. rw (ap page_owned mine, ap words_filled mine) (word_filled (v.words area.Role) (v.words area.Pool) p value
    (subst (λ n. n < 512) (ap words_filled mine) S.needs.0.1) (I.filled a p S.there mine))) o is
own_filled z v a (part.Role value) note S I o is =
    let t : Topics = (v.hand a).topics in
    of_more (IsFilled (upd (v.words area.Role) (page_owned t.owned) value) (v.words area.Pool)) t.owned value
    (λ p mine. rw (ap page_owned mine)
    (role_stored (v.words area.Role) (v.words area.Pool) p value (sym (ap words_filled mine) ∙ S.needs.0) (I.filled a p S.there mine))) o is
own_filled z v a (part.Link gfn) note S I o is =
    let t : Topics = (v.hand a).topics in
    let owns : OwnsWhole (t.walk.level - 1) t = table_owned t S.needs.1 in
    let small : owns.owned.page < 2 ^ 32 = omega (arith, owned_there I.uses a owns.owned S.there owns.is, S.is_sizes.pool.1) in
    let owned : t.owned ≡ Some o =
    unlinked (entry_now gfn t v == t.walk.entry) owns.owned owns.is
    (sym (link_stored t owns.owned (entry_now gfn t v == t.walk.entry) S.needs.0.upper owns.is small) ∙ is) in
    still_filled z v a (part.Link gfn) note S o (λ e. walks_unowned z v a S.there I S.needs.0.saw.over.there a o S.there owned (sym e)) tt
    (I.filled a o S.there owned)
  where
    unlinked : (won : Bool) (mine : OwnedPage) → (v.hand a).topics.owned ≡ Some mine
        → ◌≡◌ {A = Option OwnedPage} (if won then None else Some mine) (Some o) → (v.hand a).topics.owned ≡ Some o
    unlinked true mine owned e = absurd (cc e)
    unlinked false mine owned e = owned ∙ e
own_filled z v a (part.Leaf gfn write) note S I o is =
    let t : Topics = (v.hand a).topics in
    let owned : t.owned ≡ Some o = sym (leaf_stored t _ (entry_now gfn t v == t.walk.entry)
    (leaf_is gfn write t S.needs.0.saw.over.there S.needs.1.most)) ∙ is in
    still_filled z v a (part.Leaf gfn write) note S o (λ e. walks_unowned z v a S.there I S.needs.0.saw.over.there a o S.there owned (sym e)) tt
    (I.filled a o S.there owned)
own_filled z v a (part.Fix gfn) note S I o is =
    let t : Topics = (v.hand a).topics in
    let owned : t.owned ≡ Some o = sym (leaf_stored t _ (entry_now gfn t v == t.walk.entry) (fixed_is_leaf t S.needs)) ∙ is in
    still_filled z v a (part.Fix gfn) note S o (λ e. walks_unowned z v a S.there I S.needs.saw.over.there a o S.there owned (sym e)) tt
    (I.filled a o S.there owned)
own_filled z v a (part.Zap gfn) note S I o is =
    still_filled z v a (part.Zap gfn) note S o (λ e. walks_unowned z v a S.there I S.needs.saw.over.there a o S.there is (sym e)) tt (I.filled a o S.there is)
own_filled z v a (part.Protect gfn) note S I o is =
    still_filled z v a (part.Protect gfn) note S o (λ e. walks_unowned z v a S.there I S.needs.saw.over.there a o S.there is (sym e)) tt
    (I.filled a o S.there is)
own_filled z v a _ note S I o is = I.filled a o S.there is

-- Another owner's page is none that the step stores in.
pub others_elsewhere : (z : Sizes) (v : View) (a : ℕ) (step : PartStep) → IsPart z v a step → TopicsInvariant z v → (i : ℕ) (o : OwnedPage)
    → i < actors_of z → i ≢ a → (v.hand i).topics.owned ≡ Some o → IsElsewhere step (v.hand a).topics o.page
others_elsewhere z v a (part.Fill value) S I i o lt apart is = λ p mine same. apart (one_owner I.uses i a o p lt S.there is mine same)
others_elsewhere z v a (part.Link gfn) S I i o lt apart is = λ e. walks_unowned z v a S.there I S.needs.0.saw.over.there i o lt is (sym e)
others_elsewhere z v a (part.Leaf gfn write) S I i o lt apart is = λ e. walks_unowned z v a S.there I S.needs.0.saw.over.there i o lt is (sym e)
others_elsewhere z v a (part.Fix gfn) S I i o lt apart is = λ e. walks_unowned z v a S.there I S.needs.saw.over.there i o lt is (sym e)
others_elsewhere z v a (part.Zap gfn) S I i o lt apart is = λ e. walks_unowned z v a S.there I S.needs.saw.over.there i o lt is (sym e)
others_elsewhere z v a (part.Protect gfn) S I i o lt apart is = λ e. walks_unowned z v a S.there I S.needs.saw.over.there i o lt is (sym e)
others_elsewhere z v a _ S I i o lt apart is = tt

-- And its role none.
other_roles : (z : Sizes) (v : View) (a : ℕ) (step : PartStep) → IsPart z v a step → TopicsInvariant z v → (i : ℕ) (o : OwnedPage) → i < actors_of z
    → i ≢ a → (v.hand i).topics.owned ≡ Some o → HasOtherRole step (v.hand a).topics o.page
other_roles z v a (part.Role value) S I i o lt apart is = λ p mine same. apart (one_owner I.uses i a o p lt S.there is mine same)
other_roles z v a part.Clear S I i o lt apart is = retired_elsewhere (v.hand a).topics S.needs.leaves o.page
    (λ k left e. retired_not_owned I.uses a k S.there left i o lt is (sym e))
other_roles z v a _ S I i o lt apart is = tt

-- Each step of a part keeps what the owners have filled.
pub filled_kept : (z : Sizes) (v : View) (a : ℕ) (step : PartStep) (note : ℕ) → IsPart z v a step → TopicsInvariant z v
    → FilledPart (actors_of z) ((part_stepped a step note v).words area.Role) ((part_stepped a step note v).words area.Pool)
    (λ i. ((part_stepped a step note v).hand i).topics.owned)
filled_kept z v a step note S I =
    let w : View = part_stepped a step note v in
    at_upd (λ i (g : Held). (o : OwnedPage) → i < actors_of z → g.topics.owned ≡ Some o → IsFilled (w.words area.Role) (w.words area.Pool) o) v.hand a _
    (λ o lt is. own_filled z v a step note S I o (sym (ap (λ (t : Topics). t.owned)
    (part_topics_is (v.hand a).state.sizes step (own_index (v.hand a)) (v.hand a).topics note _ (is_there step (v.hand a) S.needs))) ∙ is))
    (λ i apart o lt is. still_filled z v a step note S o (others_elsewhere z v a step S I i o lt apart is)
    (other_roles z v a step S I i o lt apart is) (I.filled i o lt is))
