-- What a fault knows at a place is what the step of this place needs.
use Rattle.std.proofs.Common.{◌≡◌, ◌+◌, ◌^◌, ◌<◌, ℕ, refl, sym, subst, ap, arith}
use Rattle.std.specs.Prelude.{Bool, true, false, ◌&&◌, Option, Some, None, is_some}
use Rattle.core_views.specs.declared.place.CheckStage.{CheckStage}
use Rattle.core_views.specs.declared.place.CheckStage.TheVariants as stage
use Rattle.core_views.specs.declared.place.FaultPlace.{FaultPlace}
use Rattle.core_views.specs.declared.place.FaultPlace.TheVariants.{Begin, Snapshot, Find, Host, Bring, Share, Check, Walk, Claim, Fill, Role, Link}
use Rattle.core_views.specs.declared.place.FaultPlace.TheVariants.{Give, Leaf, Unshare, End, FastBegin, FastFind, FastWalk, Fix, Mark}
use Rattle.core_views.specs.declared.topics.Hold.{Hold}
use Rattle.core_views.specs.declared.topics.HostLook.{HostLook}
use Rattle.core_views.specs.declared.topics.OwnedPage.{OwnedPage}
use Rattle.core_views.specs.declared.topics.Topics.{Topics}
use Rattle.core_views.specs.Held.{Held}
use Rattle.spte_words.proofs.ChildEntries.{below_fits}
use Rattle.mmu_core.specs.forms.access.FaultKnows.{Entering, FaultKnows, SawUpperEnd}
use Rattle.mmu_core.specs.forms.access.FaultSteps.{Pages, check_part, fault_part}
use Rattle.part_steps.specs.PartBounds.{PartRests}
use Rattle.part_steps.specs.PartHoldings.{FoundSlot, MayEnter, MayLink, SawEntry}
use Rattle.part_steps.specs.PartSteps.{PartNeeds, counts}
use Rattle.part_steps.specs.PartTasks.{page_owned, words_filled, number_or_none}
use Rattle.part_steps.specs.SlotWords.{page_of}
use Rattle.mmu_core.proofs.orders.ClaimMade.{claim_needs}
use Rattle.mmu_core.proofs.forms.access.FaultSame.{over_it}
use Rattle.mmu_core.proofs.orders.ShareMade.{share_needs}
use Rattle.part_steps.specs.StayTopics.{is_alone}
use Rattle.part_steps.specs.InvalidationRange.{has_found_looked}
use Rattle.mmu_core.proofs.words.PartTopics.{no_anew, no_sweep}

page_within : (gfn : ℕ) (h : Held) → PartRests h → FoundSlot gfn h.topics → page_of h.topics.search.slot gfn < h.state.sizes.pages
page_within gfn h R F =
    let B = over_it h.topics.search.slot.base gfn (h.topics.search.slot.base + h.topics.search.slot.pages) F.holds in
    let high = R.found F.whole in
    omega (arith, B.0, B.1, high)

check_needs : (at : CheckStage) (h : Held) → PartNeeds (check_part at) h
check_needs stage.Count h = tt
check_needs _ h = tt

may_enter : (gfn : ℕ) (write : Bool) (t : Topics) → Entering gfn write t → SawEntry gfn t.walk → MayEnter gfn t
may_enter gfn write t E S = record {
  shares = E.sharing.shares;
  section = E.sharing.section;
  fresh = E.fresh;
  looked_up = E.sharing.looked.looked_up;
  present = E.sharing.looked.presence;
  saw = S;
  owes_none = E.sharing.owes_none;
}

-- In the place of an absent entry, or of a large leaf, a table may be linked.
may_link : (gfn : ℕ) (write : Bool) (t : Topics) → Entering gfn write t → SawUpperEnd gfn t → MayLink gfn t
may_link gfn write t E S = record {
  shares = E.sharing.shares;
  section = E.sharing.section;
  saw = S.saw;
  owes_none = E.sharing.owes_none;
  upper = S.upper;
  takes = S.takes;
  enters = λ none. may_enter gfn write t E S.saw;
}

-- A page that is owned is one of the pool; so is one that is filled but for its role.
pub owned_below : (h : Held) → PartRests h → is_some h.topics.owned ≡ true → page_owned h.topics.owned < h.state.sizes.pool
owned_below h R owns = by h.topics.owned refl owns
  where
    by : (o : Option OwnedPage) → h.topics.owned ≡ o → is_some o ≡ true → page_owned o < h.state.sizes.pool
    by None is some = absurd (cc some)
    by (Some o) is some = R.page o is

pub full_owns : (o : Option OwnedPage) → words_filled o ≡ 512 → is_some o ≡ true
full_owns None full = absurd (omega (arith, full))
full_owns (Some o) full = refl

pub fault_needs : (p : FaultPlace) (h : Held) (gfn : ℕ) (write : Bool) → gfn < 2 ^ 36 → PartRests h → FaultKnows p h.state.sizes gfn write h.topics
    → PartNeeds (fault_part p gfn h.topics) h
fault_needs Begin h gfn write small R K = K.outside
fault_needs Snapshot h gfn write small R K = tt
fault_needs (Find true) h gfn write small R K =
    let S = K.1 refl in (S.0, S.1, ap (λ (k : Hold). is_alone k && has_found_looked h.topics) K.0.loose)
fault_needs (Find false) h gfn write small R K = tt
fault_needs Host h gfn write small R K = (page_within gfn h R K.1, ap is_alone K.0.loose)
fault_needs Bring h gfn write small R K =
    record { section = K.0.inside.section; looked = ap (λ (o : Option HostLook). is_some o) K.1.looked_up.host; absent = K.1.presence }
fault_needs Share h gfn write small R K = share_needs h.topics.hold h refl K.1
fault_needs (Check at) h gfn write small R K = check_needs at h
fault_needs (Walk true) h gfn write small R K = (K.2 refl, no_sweep h.topics K.0.sharing.section refl, no_anew h.topics K.0.sharing.section refl)
fault_needs (Walk false) h gfn write small R K = tt
fault_needs (Claim begun) h gfn write small R K = claim_needs Pages begun h R.sizes K.1 K.3
fault_needs Fill h gfn write small R K =
    (K.2, below_fits h.topics.walk.level h.topics.walk.entry (words_filled h.topics.owned) R.level K.2.1, owned_below h R K.2.0)
fault_needs Role h gfn write small R K = (K.2, omega (arith, R.level), owned_below h R (full_owns h.topics.owned K.2))
fault_needs Link h gfn write small R K = (may_link gfn write h.topics K.0 K.1, K.2)
fault_needs (Give e) h gfn write small R K = (K.2, ap is_alone K.1)
fault_needs (Leaf writes) h gfn write small R K = (may_enter gfn write h.topics K.0 K.2, K.3, K.5, K.6)
fault_needs (Unshare e) h gfn write small R K = ap (λ (x : Hold). counts x) K.1
fault_needs (End e) h gfn write small R K = (K.0.section, K.0.owes_none)
fault_needs FastBegin h gfn write small R K = K.outside
fault_needs (FastFind true) h gfn write small R K = let S = K.2 refl in (S.0, S.1, ap (λ (k : Hold). is_alone k && has_found_looked h.topics) K.1)
fault_needs (FastFind false) h gfn write small R K = tt
fault_needs (FastWalk true) h gfn write small R K = (K.1 refl, no_sweep h.topics K.0.inside.section refl, no_anew h.topics K.0.inside.section refl)
fault_needs (FastWalk false) h gfn write small R K = tt
fault_needs Fix h gfn write small R K = K.1
fault_needs (Mark fast) h gfn write small R K = record {
  section = K.section;
  owes = ap (λ (o : Option ℕ). is_some o) K.owes;
  found = subst (λ (o : Option ℕ). FoundSlot (number_or_none o) h.topics) (sym K.owes) K.found;
}
