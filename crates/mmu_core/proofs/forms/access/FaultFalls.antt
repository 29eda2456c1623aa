-- Each step of a fault that doesn't wait for another actor leaves it fewer steps.
use Rattle.std.proofs.Common.{◌≡◌, ◌+◌, ◌-◌, ◌^◌, ◌<◌, ◌≤◌, ℕ, refl, sym, subst, ap, ◌∙◌, arith}
use Rattle.std.specs.Prelude.{Bool, true, false, ◌==◌, ◌&&◌, nat_le, nat_lt, not, if◌then◌else◌, Option, Some, None, is_some}
use Rattle.std.proofs.lemmas.Bool.Decides.{nat_tests}
use Rattle.core_views.specs.declared.place.Cause.TheVariants.{Open, Moved, Entry}
use Rattle.core_views.specs.declared.place.CheckStage.{CheckStage}
use Rattle.core_views.specs.declared.place.CheckStage.TheVariants as stage
use Rattle.core_views.specs.declared.place.FaultEnd.{FaultEnd}
use Rattle.core_views.specs.declared.place.FaultEnd.TheVariants.{Installed, Mmio, HostFault, NotFast, Retry}
use Rattle.core_views.specs.declared.place.FaultPlace.{FaultPlace}
use Rattle.core_views.specs.declared.place.FaultPlace.TheVariants.{Find, Host, Bring, Share, Check, Walk, Claim, Fill, Role, Link, Give}
use Rattle.core_views.specs.declared.place.FaultPlace.TheVariants.{Leaf, Unshare, End, FastBegin, FastFind, FastWalk, Fix, Mark}
use Rattle.core_views.specs.declared.sizes.Sizes.{Sizes}
use Rattle.core_views.specs.declared.topics.Hold.{Hold}
use Rattle.core_views.specs.declared.topics.Hold.TheVariants.{Loose}
use Rattle.core_views.specs.declared.topics.OwnedPage.{OwnedPage}
use Rattle.core_views.specs.declared.topics.TableWalk.{TableWalk}
use Rattle.core_views.specs.declared.topics.Topics.{Topics}
use Rattle.core_views.specs.Held.{Held}
use Rattle.core_views.specs.Sizes.{AreSizes}
use Rattle.spte_words.specs.declared.spte_kind.SpteKind.{SpteKind}
use Rattle.spte_words.specs.declared.spte_kind.SpteKind.TheVariants as entry_kind
use Rattle.spte_words.specs.Entries.{kind_of, table_word}
use Rattle.spte_words.specs.HostWords.{host_allows_write, host_present}
use Rattle.spte_words.proofs.ReadsEntries.{kind_of_table}
use Rattle.part_steps.specs.declared.part_step.PartStep.{PartStep}
use Rattle.mmu_core.specs.declared.claim.ClaimNext.{ClaimNext}
use Rattle.mmu_core.specs.declared.share.ShareNext.{ShareNext}
use Rattle.mmu_core.specs.declared.share.ShareNext.TheVariants as shares
use Rattle.mmu_core.specs.forms.access.FaultKnows.{FaultKnows}
use Rattle.mmu_core.specs.forms.access.FaultLeft.{check_left, end_left, entering_left, fault_left, next_left, table_left, walk_left}
use Rattle.part_steps.specs.RunHoldings.{maps_run}
use Rattle.mmu_core.proofs.forms.access.RunMapped.{maps_upper}
use Rattle.mmu_core.specs.forms.access.FaultSteps.{end_next, after_claim, after_share, allows_access, check_next, exchange_lost}
use Rattle.mmu_core.specs.forms.access.FaultSteps.{fast_walk_next, fault_next, fault_part}
use Rattle.mmu_core.specs.forms.access.FaultSteps.{found_next, over_next, put_next}
use Rattle.mmu_core.specs.forms.access.FaultSteps.{Pages, host_word_at, share_next, share_part, snapshot_taken, walk_next, claim_left, share_left}
use Rattle.mmu_core.specs.lines.PartWaits.{part_waits}
use Rattle.part_steps.specs.PartBounds.{PartRests}
use Rattle.part_steps.specs.PartTasks.{entry_index, link_written, page_owned, word_looked, words_filled}
use Rattle.part_steps.specs.PartHoldings.{HasToFill, is_fixable, one_mark_tells}
use Rattle.part_steps.specs.PartTopics.{exchanged, part_topics}
use Rattle.part_steps.specs.StayTopics.{may_walk}
use Rattle.part_steps.specs.WalkTopics.{gone_down, linked_page}
use Rattle.part_steps.specs.PageTopics.{filled_more, searched}
use Rattle.mmu_core.proofs.orders.ClaimMade.{ClaimMade, claim_falls, claim_made, claim_left_after, word_there}
use Rattle.mmu_core.proofs.orders.ClaimMade as made
use Rattle.mmu_core.proofs.forms.access.WalkKnown.{above_lowest}
use Rattle.mmu_core.proofs.forms.access.SearchFalls.{Leads, slot_falls}
use Rattle.mmu_core.proofs.pages.Owned.{more_filled, table_owned}
use Rattle.mmu_core.proofs.orders.ShareMade.{share_falls, share_made, share_left_after}
use Rattle.core_views.specs.declared.place.FaultNext.TheVariants.{Ends}

-- the search
find_leads : (z : Sizes) (denied : Bool) → Leads z (entering_left z + 8) (if denied then End Mmio else Host) (End Mmio) (Find true)
find_leads z true = record { found = λ u. omega arith; ends = λ u. omega arith; goes_on = λ u. refl }
find_leads z false = record { found = λ u. omega arith; ends = λ u. omega arith; goes_on = λ u. refl }

-- the host word, and the lock
begins_share : (z : Sizes) (u : Topics) → u.hold ≡ Loose → fault_left Share z u < entering_left z + 7
begins_share z u loose = let two : share_left u.hold ≡ 2 = ap (λ (x : Hold). share_left x) loose in omega (arith, two)

host_falls : (b present : Bool) (z : Sizes) (u : Topics) → u.hold ≡ Loose
    → fault_left (if b then End HostFault else if present then Share else Bring) z u < entering_left z + 8
host_falls true present z u loose = omega arith
host_falls false true z u loose = let less = begins_share z u loose in omega (arith, less)
host_falls false false z u loose = omega arith

bring_falls : (b : Bool) (z : Sizes) (word read v : ℕ) (u : Topics) → u.hold ≡ Loose
    → fault_left (if b then Share else End (Retry false (Entry word read v))) z u < entering_left z + 7
bring_falls true z word read v u loose = begins_share z u loose
bring_falls false z word read v u loose = omega arith

shares_fall : (next : ShareNext) (z : Sizes) (u : Topics) (n : ℕ) → share_left_after next u.hold < n
    → fault_left (after_share next) z u < entering_left z + 4 + n
shares_fall shares.Tries z u n less = omega (arith, less)
shares_fall _ z u n less = omega (arith, less)

-- the check
check_falls : (at : CheckStage) (z : Sizes) (gfn : ℕ) (t u : Topics) (v : ℕ) → fault_left (check_next at gfn t v) z u < entering_left z + check_left at
check_falls stage.Count z gfn t u v = by (v == 0)
  where
    by : (b : Bool) → fault_left (if b then Check stage.Seq else Check stage.Start) z u < entering_left z + 4
    by true = omega arith
    by false = omega arith
check_falls stage.Start z gfn t u v = omega arith
check_falls stage.End z gfn t u v = by (nat_le t.invalidations.start gfn && nat_lt gfn v)
  where
    by : (b : Bool) → fault_left (if b then Unshare (Retry false (Open t.invalidations.count t.invalidations.start v gfn)) else Check stage.Seq) z u
        < entering_left z + 2
    by true = omega arith
    by false = omega arith
check_falls stage.Seq z gfn t u v = by (v == snapshot_taken t.invalidations.snapshot)
  where
    by : (b : Bool) → fault_left (if b then Walk false else Unshare (Retry false (Moved (snapshot_taken t.invalidations.snapshot) v))) z u < entering_left z + 1
    by true = omega arith
    by false = omega arith

-- the walk: a table costs what is left above it and not below
table_below : (z : Sizes) (level : ℕ) → 2 ≤ level → level ≤ 4 → walk_left z level ≡ walk_left z (level - 1) + table_left z
table_below z level from to = by (level == 2) (level == 3) refl refl
  where
    by : (two three : Bool) → (level == 2) ≡ two → (level == 3) ≡ three → walk_left z level ≡ walk_left z (level - 1) + table_left z
    by true three is other = let e : level ≡ 2 = grind (arith, nat_tests) in rw e (omega arith)
    by false true is other = let e : level ≡ 3 = grind (arith, nat_tests) in rw e (omega arith)
    by false false is other = let e : level ≡ 4 = grind (arith, nat_tests) in rw e (omega arith)

root_falls : (b : Bool) (z : Sizes) → walk_left z (if b then 4 else 0) < entering_left z
root_falls true z = omega arith
root_falls false z = omega arith

five_left : (z : Sizes) (level : ℕ) → 5 ≤ walk_left z level
five_left z level = omega arith

-- where no link is: a leaf is put, or above the lowest level a table linked
entry_falls : (maps : Bool) (gfn : ℕ) (write : Bool) (z : Sizes) (t u : Topics) → maps_run t.walk.level gfn t ≡ maps → u.walk.level ≡ t.walk.level
    → t.walk.level ≤ 4 → fault_left (if maps then Leaf write else Claim false) z u < walk_left z t.walk.level
entry_falls true gfn write z t u is same most = let five = five_left z t.walk.level in omega (arith, five)
entry_falls false gfn write z t u is same most =
    let upper : 2 ≤ t.walk.level = maps_upper gfn t is in
    let below = table_below z t.walk.level upper most in
    let left = ap (λ level. walk_left z (level - 1)) same in
    omega (arith, below, left)

leaf_falls : (allows : Bool) (gfn : ℕ) (write : Bool) (z : Sizes) (t u : Topics) → u.walk.level ≡ t.walk.level → t.walk.level ≤ 4
    → fault_left (if allows then Unshare Installed else end_next gfn write t) z u < walk_left z t.walk.level
leaf_falls true gfn write z t u same most = let five = five_left z t.walk.level in omega (arith, five)
leaf_falls false gfn write z t u same most = entry_falls (maps_run t.walk.level gfn t) gfn write z t u refl same most

walk_falls : (k : SpteKind) (z : Sizes) (gfn : ℕ) (write : Bool) (t : Topics) (v : ℕ) → kind_of t.walk.level v ≡ k → 1 ≤ t.walk.level → t.walk.level ≤ 4
    → fault_left (walk_next k z gfn write t v) z (record t { walk = gone_down (linked_page k) t.walk (entry_index gfn t.walk.level) v })
    < walk_left z t.walk.level
walk_falls (entry_kind.Table page) z gfn write t v is from most =
    let below = table_below z t.walk.level (above_lowest t.walk.level v page from is) most in omega (arith, below)
walk_falls entry_kind.Leaf z gfn write t v is from most =
    leaf_falls (allows_access write v) gfn write z t (record t { walk = gone_down None t.walk (entry_index gfn t.walk.level) v }) refl most
walk_falls entry_kind.Absent z gfn write t v is from most =
    entry_falls (maps_run t.walk.level gfn t) gfn write z t (record t { walk = gone_down None t.walk (entry_index gfn t.walk.level) v }) refl refl most
walk_falls entry_kind.Frozen z gfn write t v is from most = let five = five_left z t.walk.level in omega (arith, five)

-- the claim
claims_fall : (z : Sizes) (begun : Bool) (t : Topics) (v : ℕ) (step : PartStep) (next : ClaimNext) (u : Topics) → ClaimMade z Pages begun t v step next u
    → claim_left_after Pages next z u.claim < claim_left Pages begun z t.claim
    → fault_left (after_claim next) z u < walk_left z (t.walk.level - 1) + 514 + claim_left Pages begun z t.claim
claims_fall z begun t v _ _ _ (made.Won tries b some is) less = omega (arith, less)
claims_fall z begun t v _ _ _ _ less = omega (arith, less)

-- the page's words, and the link
fill_falls : (more : Bool) (z : Sizes) (t : Topics) (v : ℕ) → HasToFill t → fault_left (if more then Fill
    else Role) z (record t { owned = filled_more t.owned v }) < walk_left z (t.walk.level - 1) + 1 + (513 - words_filled t.owned)
fill_falls true z t v F = omega (arith, F.1, more_filled t.owned v F.0)
fill_falls false z t v F = omega (arith, F.1)

link_falls : (b : Bool) (z : Sizes) (t : Topics) (gfn v : ℕ) (o : OwnedPage) → 2 ≤ t.walk.level → t.owned ≡ Some o → o.page < 2 ^ 32
    → fault_left (if b then Walk true else Give (exchange_lost false z gfn t.walk v)) z
    (exchanged b (entry_index gfn t.walk.level) (link_written t) t v) < walk_left z (t.walk.level - 1) + 1
link_falls true z t gfn v o from is small =
    subst (λ (k : SpteKind). walk_left z (gone_down (linked_page k) t.walk (entry_index gfn t.walk.level) (link_written t)).level
    < walk_left z (t.walk.level - 1) + 1)
    (sym linked) (omega arith)
  where
    linked : kind_of t.walk.level (link_written t) ≡ entry_kind.Table o.page
    linked = ap (λ (x : Option OwnedPage). kind_of t.walk.level (table_word (page_owned x))) is ∙ kind_of_table t.walk.level o.page from small
link_falls false z t gfn v o from is small = let five = five_left z (t.walk.level - 1) in omega (arith, five)

-- the leaf, and the mark
over_left : (fast marked : Bool) (z : Sizes) (u : Topics) → fault_left (over_next fast marked) z u < 3
over_left true marked z u = omega arith
over_left false marked z u = omega arith

put_left : (fast marks : Bool) (z : Sizes) (u : Topics) → fault_left (put_next fast marks) z u < 4
put_left fast true z u = omega arith
put_left fast false z u = let less = over_left fast false z u in omega (arith, less)

leaf_put : (b marks : Bool) (z : Sizes) (gfn : ℕ) (walk : TableWalk) (v : ℕ) (u : Topics)
    → fault_left (if b then put_next false marks else Unshare (exchange_lost false z gfn walk v)) z u < 4
leaf_put true marks z gfn walk v u = put_left false marks z u
leaf_put false marks z gfn walk v u = omega arith

fix_made : (b marks : Bool) (z : Sizes) (gfn : ℕ) (walk : TableWalk) (v : ℕ) (u : Topics)
    → fault_left (if b then put_next true marks else End (exchange_lost true z gfn walk v)) z u < 4
fix_made true marks z gfn walk v u = put_left true marks z u
fix_made false marks z gfn walk v u = omega arith

-- ---- a fast fault

fast_leads : (z : Sizes) → Leads z (entering_left z + 146) (FastWalk false) (End (NotFast 0)) (FastFind true)
fast_leads z = record { found = λ u. omega arith; ends = λ u. omega arith; goes_on = λ u. refl }

fast_root_falls : (b : Bool) (z : Sizes) → (if b then 4 else 0) < 5
fast_root_falls true z = omega arith
fast_root_falls false z = omega arith

fast_leaf_falls : (b : Bool) (z : Sizes) (v level : ℕ) (u : Topics) → 1 ≤ level
    → fault_left (if b then Fix else End (NotFast v)) z u < entering_left z + 140 + level
fast_leaf_falls true z v level u from = omega arith
fast_leaf_falls false z v level u from = omega arith

fast_walk_falls : (k : SpteKind) (z : Sizes) (gfn : ℕ) (t : Topics) (v : ℕ) → kind_of t.walk.level v ≡ k → 1 ≤ t.walk.level
    → fault_left (fast_walk_next k t.walk.level t.search.logged v) z (record t { walk = gone_down (linked_page k) t.walk (entry_index gfn t.walk.level) v })
    < entering_left z + 140 + t.walk.level
fast_walk_falls (entry_kind.Table page) z gfn t v is from = omega arith
fast_walk_falls entry_kind.Leaf z gfn t v is from = fast_leaf_falls (one_mark_tells t.walk.level t.search.logged && is_fixable v) z v t.walk.level _ from
fast_walk_falls entry_kind.Absent z gfn t v is from = omega arith
fast_walk_falls entry_kind.Frozen z gfn t v is from = omega arith

end_falls : (e : FaultEnd) (z : Sizes) (u : Topics) → next_left (Ends e) z u < end_left e z
end_falls (NotFast word) z u = omega arith
end_falls _ z u = omega arith

pub fault_falls : (p : FaultPlace) (h : Held) (gfn v : ℕ) (write : Bool) → gfn < 2 ^ 36 → PartRests h → FaultKnows p h.state.sizes gfn write h.topics
    → part_waits (fault_part p gfn h.topics) h.topics v ≡ false
    → next_left (fault_next p h.state.sizes gfn write h.topics v) h.state.sizes (part_topics (fault_part p gfn h.topics) h.topics v)
    < fault_left p h.state.sizes h.topics
fault_falls (Find true) h gfn v write small R K goes =
    let set = K.1 refl in
    slot_falls (is_some h.topics.search.set) h.state.sizes (entering_left h.state.sizes + 8) (found_next write (searched h.topics.search v)) (End Mmio)
    (Find true) gfn h.topics _ v (find_leads h.state.sizes (write && (searched h.topics.search v).slot.read_only)) set.0 set.1
fault_falls (Find false) h gfn v write small R K goes = omega arith
fault_falls Host h gfn v write small R K goes =
    host_falls (write && not (host_allows_write v)) (host_present v) h.state.sizes (part_topics (fault_part Host gfn h.topics) h.topics v) K.0.loose
fault_falls Bring h gfn v write small R K goes =
    bring_falls (v == word_looked h.topics.host) h.state.sizes (host_word_at h.state.sizes h.topics.host) (word_looked h.topics.host) v
    (part_topics (fault_part Bring gfn h.topics) h.topics v) K.0.loose
fault_falls Share h gfn v write small R K goes =
    shares_fall (share_next h.topics.hold v) h.state.sizes (part_topics (share_part h.topics.hold) h.topics v) (share_left h.topics.hold)
    (share_falls h.topics v _ _ _ (share_made h.topics v K.1) goes)
fault_falls (Check at) h gfn v write small R K goes = check_falls at h.state.sizes gfn h.topics _ v
fault_falls (Walk true) h gfn v write small R K goes =
    let over = K.2 refl in walk_falls (kind_of h.topics.walk.level v) h.state.sizes gfn write h.topics v refl over.there R.level
fault_falls (Walk false) h gfn v write small R K goes = root_falls (may_walk h.topics.stay h.topics.hold) h.state.sizes
fault_falls (Claim begun) h gfn v write small R K goes =
    let M = claim_made h.state.sizes Pages begun h.topics v in
    claims_fall h.state.sizes begun h.topics v _ _ _ M
    (claim_falls h.state.sizes Pages begun h.topics v _ _ _ M goes (word_there Pages begun h.state.sizes h.topics.claim R.sizes K.3))
fault_falls Fill h gfn v write small R K goes = fill_falls (nat_lt (words_filled h.topics.owned + 1) 512) h.state.sizes h.topics v K.2
fault_falls Link h gfn v write small R K goes =
    let O = table_owned h.topics K.2 in
    let low : O.owned.page < 2 ^ 32 = let page = R.page O.owned O.is in let most = R.sizes.pool.1 in omega (arith, page, most) in
    link_falls (v == h.topics.walk.entry) h.state.sizes h.topics gfn v O.owned K.1.upper O.is low
fault_falls (Leaf writes) h gfn v write small R K goes =
    leaf_put (v == h.topics.walk.entry) (writes && h.topics.search.logged) h.state.sizes gfn h.topics.walk v _
fault_falls (End e) h gfn v write small R K goes = end_falls e h.state.sizes _
fault_falls (FastFind true) h gfn v write small R K goes =
    let set = K.2 refl in
    slot_falls (is_some h.topics.search.set) h.state.sizes (entering_left h.state.sizes + 146) (FastWalk false) (End (NotFast 0)) (FastFind true) gfn
    h.topics _ v (fast_leads h.state.sizes) set.0 set.1
fault_falls (FastFind false) h gfn v write small R K goes = omega arith
fault_falls (FastWalk true) h gfn v write small R K goes =
    let over = K.1 refl in fast_walk_falls (kind_of h.topics.walk.level v) h.state.sizes gfn h.topics v refl over.there
fault_falls (FastWalk false) h gfn v write small R K goes =
    let less = fast_root_falls (may_walk h.topics.stay h.topics.hold) h.state.sizes in omega (arith, less)
fault_falls Fix h gfn v write small R K goes = fix_made (v == h.topics.walk.entry) h.topics.search.logged h.state.sizes gfn h.topics.walk v _
fault_falls (Mark fast) h gfn v write small R K goes = over_left fast true h.state.sizes _
fault_falls _ h gfn v write small R K goes = omega arith

pub fault_is_bounded : (z : Sizes) (t : Topics) → AreSizes z → fault_left FastBegin z t ≤ 8192 + z.pool
fault_is_bounded z t S = let most = S.pool.1 in omega (arith, most)
