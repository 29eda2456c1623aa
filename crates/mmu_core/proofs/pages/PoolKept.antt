-- The steps of the machine's parts keep what each pool page is.
use Rattle.std.proofs.Common.{◌≡◌, ◌/◌, ◌%◌, ◌^◌, ◌<◌, ℕ, refl, sym, subst, ap, ◌∙◌, arith, w64}
use Rattle.std.specs.Prelude.{Bool, ◌-◌, ◌==◌, Option, Some, None}
use Rattle.std.proofs.lemmas.Nat.Bits.{bit_at-trailing_zeros}
use Rattle.core_views.specs.declared.sizes.Sizes.{Sizes}
use Rattle.core_views.specs.declared.topics.OwnedPage.{OwnedPage}
use Rattle.core_views.specs.declared.topics.Topics.{Topics}
use Rattle.core_views.specs.Held.{Held}
use Rattle.core_views.specs.Sizes.{actors_of}
use Rattle.spte_words.specs.declared.area.Area.TheVariants as area
use Rattle.part_steps.specs.declared.part_step.PartStep.{PartStep}
use Rattle.part_steps.specs.declared.part_step.PartStep.TheVariants as part
use Rattle.part_steps.specs.PartTasks.{page_owned, page_retired, table_page, entry_index}
use Rattle.mmu_core.specs.invariant.PoolPart.{UsePart, is_owned}
use Rattle.part_steps.specs.PageTopics.{filled_more, is_won, tried_bit, still_retired}
use Rattle.mmu_core.specs.invariant.TopicsInvariant.{TopicsInvariant}
use Rattle.mmu_core.specs.invariant.TreePart.{Use}
use Rattle.mmu_core.specs.invariant.TreePart.Use.{Free, OldSet, SlotSet, Under}
use Rattle.mmu_core.specs.machine.View.{View, part_stepped, upd}
use Rattle.mmu_core.proofs.pages.NewLeaves.{fixed_is_leaf, leaf_is}
use Rattle.mmu_core.proofs.pages.OwnedBehind.{leaf_stored, link_stored}
use Rattle.mmu_core.proofs.machine.ColumnsTell.{some_is}
use Rattle.mmu_core.proofs.machine.PartStepping.{IsPart}
use Rattle.mmu_core.proofs.machine.SumsBelow.{column, column_upd}
use Rattle.mmu_core.proofs.words.PartTopics.{behind_step, part_behind, stepped_hand}
use Rattle.mmu_core.proofs.pages.PoolPages.{owned_there}
use Rattle.mmu_core.proofs.pages.Standing.{entry_now, up_after, upd_if}
use Rattle.mmu_core.proofs.pages.UsesTurn.{claim_kept, give_kept, give_old_kept, link_kept, publish_kept, uses_stay}
use Rattle.mmu_core.proofs.pages.Owned.{OwnsWhole, owned_some, set_owned, table_owned}
use Rattle.part_steps.specs.SetWords.{set_role}

-- what the pool pages are, by these words and hands
abbrev pub UsesAt : Sizes → (ℕ → Use) → View → Type 0
UsesAt z up w = UsePart (actors_of z) z.pool (w.words area.Slots 0) (w.words area.PoolMap) (λ i. (w.hand i).topics.owned) (λ i. (w.hand i).topics.retired) up

-- The page of which one word more is filled is the one that was owned.
filled_owned : (owned : Option OwnedPage) (v k : ℕ) → is_owned (filled_more owned v) k ≡ is_owned owned k
filled_owned None v k = refl
filled_owned (Some o) v k = refl

-- By other columns of what hands own, and have leave.
by_columns : (z : Sizes) (w : View) (up : ℕ → Use) {owned : ℕ → Option OwnedPage} {retired : ℕ → Option ℕ}
    → ◌≡◌ {A = ℕ → Option OwnedPage} (λ i. (w.hand i).topics.owned) owned → ◌≡◌ {A = ℕ → Option ℕ} (λ i. (w.hand i).topics.retired) retired
    → UsePart (actors_of z) z.pool (w.words area.Slots 0) (w.words area.PoolMap) owned retired up → UsesAt z up w
by_columns z w up {owned} {retired} mine left U =
    subst (λ (own : ℕ → Option OwnedPage). UsePart (actors_of z) z.pool (w.words area.Slots 0) (w.words area.PoolMap) own (λ i. (w.hand i).topics.retired) up)
    (sym mine)
    (subst (λ (leave : ℕ → Option ℕ). UsePart (actors_of z) z.pool (w.words area.Slots 0) (w.words area.PoolMap) owned leave up) (sym left) U)

-- The step leaves what its actor has retired.
own_alone : (z : Sizes) (v : View) (a : ℕ) (step : PartStep) (note : ℕ) (up : ℕ → Use)
    → (stepped_hand a step note v).topics.retired ≡ (v.hand a).topics.retired
    → UsePart (actors_of z) z.pool ((part_behind a step note v).words area.Slots 0) ((part_behind a step note v).words area.PoolMap)
    (upd (λ i. (v.hand i).topics.owned) a (stepped_hand a step note v).topics.owned) (λ i. (v.hand i).topics.retired) up
    → UsesAt z up (part_behind a step note v)
own_alone z v a step note up stays =
    by_columns z (part_behind a step note v) up (column_upd (λ (g : Held). g.topics.owned) v.hand a (stepped_hand a step note v))
    (column (λ (g : Held). g.topics.retired) v.hand a (stepped_hand a step note v) stays)

-- What the pages are after each step, as it is written out.
uses_after : (z : Sizes) (v : View) (a : ℕ) (step : PartStep) (note : ℕ) → IsPart z v a step → (I : TopicsInvariant z v)
    → UsesAt z (up_after step a (v.hand a).topics v I.up) (part_behind a step note v)
uses_after z v a part.Claim note S I =
    let t : Topics = (v.hand a).topics in
    let low : tried_bit t.claim < 64 = (bit_at-trailing_zeros w64 t.claim.seen S.needs.1 (I.counters a S.there).seen).0 in
    own_alone z v a part.Claim note _ refl
    (claim_kept I.uses a S.there t.walk t.claim.at (tried_bit t.claim) (is_won t.claim (v.words area.PoolMap t.claim.at)) low refl S.needs.0)
uses_after z v a part.Give note S I =
    let t : Topics = (v.hand a).topics in
    let o = owned_some t S.needs.0 in
    let page : page_owned t.owned ≡ o.0.page = ap page_owned o.1 in
    subst (λ p. UsesAt z (upd I.up p Free) (part_behind a part.Give note v)) (sym page)
    (own_alone z v a part.Give note (upd I.up o.0.page Free) (ap (λ x. still_retired x t.retired) o.1)
    (give_kept I.uses a S.there (page_owned t.owned / 64) (page_owned t.owned % 64) o.0 (omega arith) (omega (arith, page)) o.1))
uses_after z v a part.GiveOld note S I =
    let t : Topics = (v.hand a).topics in
    let k = some_is t.retired S.needs.leaves in
    let page : page_retired t.retired ≡ k.0 = ap page_retired k.1 in
    let h : Held = stepped_hand a part.GiveOld note v in
    subst (λ p. UsesAt z (upd I.up p Free) (part_behind a part.GiveOld note v)) (sym page)
    (by_columns z (part_behind a part.GiveOld note v) (upd I.up k.0 Free) (column (λ (g : Held). g.topics.owned) v.hand a h (sym S.needs.owns_none))
    (column_upd (λ (g : Held). g.topics.retired) v.hand a h
    ∙ ap (λ x. upd (λ i. (v.hand i).topics.retired) a (still_retired x t.retired)) S.needs.owns_none)
    (give_old_kept I.uses a S.there (page_retired t.retired / 64) (page_retired t.retired % 64) k.0 (omega arith) (omega (arith, page)) k.1))
uses_after z v a part.Publish note S I =
    let t : Topics = (v.hand a).topics in
    let owns : OwnsWhole set_role t = set_owned t S.needs.owns in
    let h : Held = stepped_hand a part.Publish note v in
    by_columns z (part_behind a part.Publish note v) _ (column_upd (λ (g : Held). g.topics.owned) v.hand a h)
    (column_upd (λ (g : Held). g.topics.retired) v.hand a h)
    (subst (λ p. UsePart (actors_of z) z.pool p (v.words area.PoolMap) (upd (λ i. (v.hand i).topics.owned) a None)
    (upd (λ i. (v.hand i).topics.retired) a (Some (v.words area.Slots 0))) (upd (upd I.up (v.words area.Slots 0) (OldSet a)) p SlotSet))
    (sym (ap page_owned owns.is)) (publish_kept I.uses a S.there owns.owned owns.is S.needs.none_retired))
uses_after z v a (part.Link gfn) note S I =
    let t : Topics = (v.hand a).topics in
    let owns : OwnsWhole (t.walk.level - 1) t = table_owned t S.needs.1 in
    let small : owns.owned.page < 2 ^ 32 = omega (arith, owned_there I.uses a owns.owned S.there owns.is, S.is_sizes.pool.1) in
    let won : Bool = entry_now gfn t v == t.walk.entry in
    let under : Use = Under (table_page t.walk) (entry_index gfn t.walk.level) in
    subst (λ k. UsesAt z (upd_if won I.up k under) (part_behind a (part.Link gfn) note v)) (sym (ap page_owned owns.is))
    (own_alone z v a (part.Link gfn) note (upd_if won I.up owns.owned.page under) refl
    (subst (λ (o : Option OwnedPage). UsePart (actors_of z) z.pool (v.words area.Slots 0) (v.words area.PoolMap) (upd (λ i. (v.hand i).topics.owned) a o)
    (λ i. (v.hand i).topics.retired) (upd_if won I.up owns.owned.page under)) (sym (link_stored t owns.owned won S.needs.0.upper owns.is small))
    (link_kept I.uses a S.there owns.owned won (table_page t.walk) (entry_index gfn t.walk.level) owns.is)))
uses_after z v a (part.Leaf gfn write) note S I =
    own_alone z v a (part.Leaf gfn write) note I.up refl
    (uses_stay I.uses a S.there _ _ (λ k. refl) (λ k. ap (λ o. is_owned o k) (leaf_stored (v.hand a).topics _ _
    (leaf_is gfn write (v.hand a).topics S.needs.0.saw.over.there S.needs.1.most))))
uses_after z v a (part.Fix gfn) note S I =
    own_alone z v a (part.Fix gfn) note I.up refl
    (uses_stay I.uses a S.there _ _ (λ k. refl) (λ k. ap (λ o. is_owned o k) (leaf_stored (v.hand a).topics _ _
    (fixed_is_leaf (v.hand a).topics S.needs))))
uses_after z v a part.Clear note S I =
    own_alone z v a part.Clear note I.up refl (uses_stay I.uses a S.there _ _ (λ k. refl) (filled_owned (v.hand a).topics.owned _))
uses_after z v a (part.Fill value) note S I =
    own_alone z v a (part.Fill value) note I.up refl (uses_stay I.uses a S.there _ _ (λ k. refl) (filled_owned (v.hand a).topics.owned _))
uses_after z v a (part.Role value) note S I =
    own_alone z v a (part.Role value) note I.up refl (uses_stay I.uses a S.there _ _ (λ k. refl) (filled_owned (v.hand a).topics.owned _))
uses_after z v a step note S I = own_alone z v a step note I.up refl (uses_stay I.uses a S.there _ _ (λ k. refl) (λ k. refl))

-- Each step of a part keeps what the pool pages are.
pub uses_kept : (z : Sizes) (v : View) (a : ℕ) (step : PartStep) (note : ℕ) → IsPart z v a step → (I : TopicsInvariant z v)
    → UsesAt z (up_after step a (v.hand a).topics v I.up) (part_stepped a step note v)
uses_kept z v a step note S I = behind_step (UsesAt z (up_after step a (v.hand a).topics v I.up)) z v a step note S (uses_after z v a step note S I)
