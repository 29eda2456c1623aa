-- Behind each of its steps a fault knows what its next place asks.
use Rattle.std.proofs.Common.{◌≡◌, inl, inr, ◌+◌, ◌-◌, ◌^◌, ◌<◌, ◌≤◌, ℕ, refl, sym, subst, ap, ◌∙◌, arith}
use Rattle.std.specs.Prelude.{Bool, true, false, ◌==◌, ◌&&◌, nat_lt, not, if◌then◌else◌, Option, Some, None, is_some}
use Rattle.std.proofs.lemmas.Bool.Decides.{nat_tests}
use Rattle.core_views.specs.declared.place.Cause.TheVariants.{Entry}
use Rattle.core_views.specs.declared.place.FaultEnd.TheVariants.{Installed}
use Rattle.core_views.specs.declared.place.FaultPlace.{FaultPlace}
use Rattle.core_views.specs.declared.place.FaultPlace.TheVariants.{Begin, Snapshot, Find, Host, Bring, Share, Check, Walk, Claim, Fill, Role, Link}
use Rattle.core_views.specs.declared.place.FaultPlace.TheVariants.{Give, Leaf, Unshare, End, FastBegin, FastFind, FastWalk, Fix, Mark}
use Rattle.core_views.specs.declared.sizes.Sizes.{Sizes}
use Rattle.core_views.specs.declared.topics.OwnedPage.{OwnedPage}
use Rattle.core_views.specs.declared.topics.Stay.{Stay}
use Rattle.core_views.specs.declared.topics.TableWalk.{TableWalk}
use Rattle.core_views.specs.declared.topics.Topics.{Topics}
use Rattle.core_views.specs.Held.{Held}
use Rattle.spte_words.specs.declared.area.Area.{Area}
use Rattle.spte_words.specs.declared.spte_kind.SpteKind.{SpteKind}
use Rattle.spte_words.specs.declared.spte_kind.SpteKind.TheVariants as entry_kind
use Rattle.spte_words.specs.Areas.{words_of_bits}
use Rattle.spte_words.specs.Entries.{kind_of, table_word, can_write, word_below}
use Rattle.spte_words.specs.HostWords.{host_allows_write, host_present}
use Rattle.spte_words.proofs.ReadsEntries.{kind_of_table}
use Rattle.part_steps.specs.declared.part_step.PartStep.{PartStep}
use Rattle.part_steps.specs.declared.part_step.PartStep.TheVariants as part
use Rattle.mmu_core.specs.forms.access.FaultKnows.{Entering, FaultKnows, KnowsNext, SawUpperEnd}
use Rattle.mmu_core.specs.forms.access.FaultLaws.{CanAnswer}
use Rattle.mmu_core.specs.forms.access.FaultSteps.{Pages, allows_access, end_next, entry_word, exchange_lost, fault_next, fault_part, walk_next, after_claim}
use Rattle.mmu_core.specs.declared.claim.ClaimNext.{ClaimNext}
use Rattle.part_steps.specs.PartBounds.{PartRests}
use Rattle.part_steps.specs.PartTasks.{entry_index, link_written, page_owned, part_task, word_looked, words_filled, is_below}
use Rattle.part_steps.specs.PartHoldings.{IsOver, HasRoleToSet, HasToFill, takes_table}
use Rattle.part_steps.specs.RunHoldings.{maps_run}
use Rattle.mmu_core.proofs.forms.access.RunMapped.{takes_ends, maps_of, maps_upper}
use Rattle.part_steps.specs.PartTopics.{exchanged, part_topics}
use Rattle.part_steps.specs.StayTopics.{may_search, may_walk}
use Rattle.part_steps.specs.WalkTopics.{gone_down, linked_page, owed_after, unless_linked}
use Rattle.part_steps.specs.PageTopics.{filled_more}
use Rattle.part_steps.specs.ControlTopics.{at_root}
use Rattle.mmu_core.specs.machine.View.{answer_in}
use Rattle.mmu_core.proofs.orders.FillMade.{fill_ends, fill_goes, whole_filled}
use Rattle.mmu_core.proofs.pages.Owned.{more_below, more_role, table_owned}
use Rattle.mmu_core.proofs.orders.ClaimMade.{ClaimMade, claim_made}
use Rattle.mmu_core.proofs.orders.ClaimMade as made
use Rattle.mmu_core.proofs.orders.ShareMade.{share_made}
use Rattle.mmu_core.proofs.forms.access.FaultSame.{ends_same, same_entering, same_end, whole_anew}
use Rattle.mmu_core.proofs.forms.access.WalkKnown.{above_lowest, gone_over, root_over, saw_it}
use Rattle.mmu_core.proofs.forms.access.LeafKnown.{fix_known, leaf_known, mark_known}
use Rattle.mmu_core.proofs.forms.access.LeafPut.{upper_owes_none}
use Rattle.mmu_core.proofs.forms.access.FastKnown.{fast_root_known, fast_slot_known, fast_slots_known, fast_walk_known}
use Rattle.mmu_core.proofs.forms.access.LookKnown.{snapshot_known, slots_known, slot_known, bring_known, host_known, share_known, check_known, unshare_known}

root_known : (b : Bool) (z : Sizes) (gfn : ℕ) (write : Bool) (t : Topics) (v : ℕ) → b ≡ true → gfn < 2 ^ 36 → Entering gfn write t → t.owned ≡ None
    → FaultKnows (Walk true) z gfn write (record t { walk = at_root b t.walk v })
root_known true z gfn write t v is small E none = (same_entering gfn write t _ refl refl refl refl refl refl E, none, λ _. root_over gfn v t.walk small)
root_known false z gfn write t v is small E none = absurd (cc is)

-- What doesn't allow the access allows no writes.
denied : (write : Bool) (v : ℕ) → allows_access write v ≡ false → can_write v ≡ false
denied true v is = is
denied false v is = absurd (cc is)

-- Nothing is mapped there, or a leaf that forbids the access: a leaf of this level is put, or a table is to be linked above the lowest level.
end_known : (maps : Bool) (z : Sizes) (gfn : ℕ) (write : Bool) (t : Topics) (v : ℕ) → maps_run t.walk.level gfn t ≡ maps
    → takes_table (kind_of t.walk.level v) ≡ true → (kind_of t.walk.level v ≡ entry_kind.Leaf → can_write v ≡ false)
    → Entering gfn write t → t.owned ≡ None → IsOver gfn t.walk
    → FaultKnows (if maps then Leaf write else Claim false) z gfn write (record t { walk = gone_down None t.walk (entry_index gfn t.walk.level) v })
end_known true z gfn write t v is takes denies E none O =
    let M = maps_of gfn t is in (
      same_entering gfn write t _ refl refl refl refl refl refl E,
      none,
      saw_it gfn v t.walk O,
      record { most = M.most; run = M.run; large = M.large; no_log = M.no_log },
      refl,
      denies,
      takes_ends t.walk.level v takes,
    )
end_known false z gfn write t v is takes denies E none O = (
  same_entering gfn write t _ refl refl refl refl refl refl E,
  none,
  record { saw = saw_it gfn v t.walk O; upper = maps_upper gfn t is; takes = takes },
  λ e. absurd (cc e),
)

leaf_seen : (allows : Bool) (z : Sizes) (gfn : ℕ) (write : Bool) (t : Topics) (v : ℕ) → allows_access write v ≡ allows
    → kind_of t.walk.level v ≡ entry_kind.Leaf → Entering gfn write t → t.owned ≡ None → IsOver gfn t.walk
    → FaultKnows (if allows then Unshare Installed else end_next gfn write t) z gfn write
    (record t { walk = gone_down None t.walk (entry_index gfn t.walk.level) v })
leaf_seen true z gfn write t v may is E none O = (
  record { section = E.sharing.section; owns_none = none; owes_none = E.sharing.owes_none },
  E.sharing.shares,
  record { saw = saw_it gfn v t.walk O; leaf = is; allows = may },
)
leaf_seen false z gfn write t v may is E none O =
    end_known (maps_run t.walk.level gfn t) z gfn write t v refl (ap takes_table is) (λ leaf. denied write v may) E none O

walk_known : (k : SpteKind) (z : Sizes) (gfn : ℕ) (write : Bool) (t : Topics) (v : ℕ) → kind_of t.walk.level v ≡ k → t.walk.level ≤ 4
    → Entering gfn write t → t.owned ≡ None → IsOver gfn t.walk
    → FaultKnows (walk_next k z gfn write t v) z gfn write (record t { walk = gone_down (linked_page k) t.walk (entry_index gfn t.walk.level) v })
walk_known (entry_kind.Table page) z gfn write t v is most E none O =
    (same_entering gfn write t _ refl refl refl refl refl refl E, none, λ _. gone_over gfn page v t.walk (above_lowest t.walk.level v page O.there is) most O)
walk_known entry_kind.Leaf z gfn write t v is most E none O = leaf_seen (allows_access write v) z gfn write t v refl is E none O
walk_known entry_kind.Absent z gfn write t v is most E none O =
    end_known (maps_run t.walk.level gfn t) z gfn write t v refl (ap takes_table is) (λ leaf. absurd (cc (leaf, is))) E none O
walk_known entry_kind.Frozen z gfn write t v is most E none O = (
  record { section = E.sharing.section; owns_none = none; owes_none = E.sharing.owes_none },
  E.sharing.shares,
  whole_anew (Entry (entry_word z gfn t.walk) v v) z gfn _
      (inl (record { saw = saw_it gfn v t.walk O; is_entry = refl; holds = refl; why = inr is })),
)

-- The page that a claim wins is for the entry that the walk has loaded.
pub same_walk : (walk : TableWalk) → (walk.level == walk.level && walk.entry == walk.entry) ≡ true
same_walk walk =
    let level : (walk.level == walk.level) ≡ true = grind (arith, nat_tests) in
    let entry : (walk.entry == walk.entry) ≡ true = grind (arith, nat_tests) in
    ap (λ (b : Bool). b && walk.entry == walk.entry) level ∙ entry

-- the claim
claim_known : (z : Sizes) (gfn : ℕ) (write begun : Bool) (t : Topics) (v : ℕ) (step : PartStep) (next : ClaimNext) (u : Topics)
    → ClaimMade z Pages begun t v step next u → Entering gfn write t → t.owned ≡ None → SawUpperEnd gfn t
    → (begun ≡ true → t.claim.at < words_of_bits z.pool) → FaultKnows (after_claim next) z gfn write u
claim_known z gfn write begun t v _ _ _ (made.Won tries b some is) E none S low =
    (same_entering gfn write t _ refl refl refl refl refl refl E, same_end gfn t _ refl S, (refl, omega arith), same_walk t.walk)
claim_known z gfn write begun t v _ _ _ (made.Lost tries b some is) E none S low =
    (same_entering gfn write t _ refl refl refl refl refl refl E, refl, same_end gfn t _ refl S, λ _. low b)
claim_known z gfn write begun t v _ _ _ (made.Saw not_ lt) E none S low =
    (same_entering gfn write t _ refl refl refl refl refl refl E, none, same_end gfn t _ refl S, λ _. lt)
claim_known z gfn write begun t v _ _ _ (made.SawNone not_ le) E none S low =
    (record { section = E.sharing.section; owns_none = none; owes_none = E.sharing.owes_none }, E.sharing.shares, le)

-- the page's words, and its role
fill_known : (more : Bool) (z : Sizes) (gfn : ℕ) (write : Bool) (t : Topics) (v : ℕ) → nat_lt (words_filled t.owned + 1) 512 ≡ more
    → v ≡ word_below t.walk.level t.walk.entry (words_filled t.owned) → Entering gfn write t → SawUpperEnd gfn t → HasToFill t → is_below t.walk t.owned ≡ true
    → FaultKnows (if more then Fill else Role) z gfn write (record t { owned = filled_more t.owned v })
fill_known true z gfn write t v is word E S F below =
    (same_entering gfn write t _ refl refl refl refl refl refl E, same_end gfn t _ refl S, fill_goes t v F is, more_below t.walk t.owned v below (inl word))
fill_known false z gfn write t v is word E S F below =
    (same_entering gfn write t _ refl refl refl refl refl refl E, same_end gfn t _ refl S, fill_ends t v F is, more_below t.walk t.owned v below (inl word))

role_known : (z : Sizes) (gfn : ℕ) (write : Bool) (t : Topics) (v : ℕ) → v ≡ t.walk.level - 1 → Entering gfn write t → SawUpperEnd gfn t → HasRoleToSet t
    → is_below t.walk t.owned ≡ true
    → FaultKnows Link z gfn write (record t { owned = filled_more t.owned v })
role_known z gfn write t v value E S full below = (
  same_entering gfn write t _ refl refl refl refl refl refl E,
  same_end gfn t _ refl S,
  record {
    whole = whole_filled t v full;
    below = more_below t.walk t.owned v below (inr full);
    role = more_role t.owned v full ∙ value;
  },
)

-- the link
link_won : (z : Sizes) (gfn : ℕ) (write : Bool) (t : Topics) (v : ℕ) → t.walk.level ≤ 4 → Entering gfn write t → SawUpperEnd gfn t → (o : OwnedPage)
    → t.owned ≡ Some o → o.page < 2 ^ 32
    → FaultKnows (Walk true) z gfn write (exchanged true (entry_index gfn t.walk.level) (link_written t) t v)
link_won z gfn write t v most E S o is small =
    subst (λ (k : SpteKind). FaultKnows (Walk true) z gfn write (record t {
      walk = gone_down (linked_page k) t.walk (entry_index gfn t.walk.level) (link_written t);
      owned = unless_linked (linked_page k) t.owned;
      owed = owed_after true t.search.logged t.walk (entry_index gfn t.walk.level) (link_written t) t.owed;
    })) (sym linked) (
      same_entering gfn write t _ refl refl refl refl refl (upper_owes_none true t (entry_index gfn t.walk.level) (link_written t) S.upper) E,
      refl,
      λ _. gone_over gfn o.page (link_written t) t.walk S.upper most S.saw.over,
    )
  where
    linked : kind_of t.walk.level (link_written t) ≡ entry_kind.Table o.page
    linked = ap (λ (x : Option OwnedPage). kind_of t.walk.level (table_word (page_owned x))) is ∙ kind_of_table t.walk.level o.page S.upper small

link_known : (b : Bool) (z : Sizes) (gfn : ℕ) (write : Bool) (t : Topics) (v : ℕ) → (v == t.walk.entry) ≡ b → t.walk.level ≤ 4 → Entering gfn write t
    → SawUpperEnd gfn t → (o : OwnedPage) → t.owned ≡ Some o → o.page < 2 ^ 32
    → FaultKnows (if b then Walk true else Give (exchange_lost false z gfn t.walk v)) z gfn write
    (exchanged b (entry_index gfn t.walk.level) (link_written t) t v)
link_known true z gfn write t v is most E S o owned small = link_won z gfn write t v most E S o owned small
link_known false z gfn write t v is most E S o owned small = (
  E.sharing.section,
  E.sharing.shares,
  ap (λ (x : Option OwnedPage). is_some x) owned,
  E.sharing.owes_none,
  whole_anew (Entry (entry_word z gfn t.walk) t.walk.entry v) z gfn _
      (inl (record { saw = saw_it gfn v t.walk S.saw.over; is_entry = refl; holds = refl; why = inl (grind (arith, nat_tests)) })),
  tt,
)

pub fault_known : (p : FaultPlace) (h : Held) (gfn v : ℕ) (write : Bool) → gfn < 2 ^ 36 → PartRests h → FaultKnows p h.state.sizes gfn write h.topics
    → CanAnswer (fault_part p gfn h.topics) v
    → KnowsNext (fault_next p h.state.sizes gfn write h.topics v) h.state.sizes gfn write (part_topics (fault_part p gfn h.topics) h.topics v)
fault_known Begin h gfn v write small R K A = (record { section = refl; owns_none = K.owns_none; owes_none = K.owes_none }, K.loose)
fault_known Snapshot h gfn v write small R K A = (snapshot_known h.topics v K.0 K.1, λ e. absurd (cc e))
fault_known (Find true) h gfn v write small R K A =
    let set = K.1 refl in slot_known h.state.sizes gfn write (is_some h.topics.search.set) h.topics _ v set.0 set.1 K.0 set.0
fault_known (Find false) h gfn v write small R K A =
    slots_known h.state.sizes gfn write (may_search h.topics.stay h.topics.hold) h.topics _ v
    (ap (λ (s : Stay). may_search s h.topics.hold) K.0.inside.section) K.0
fault_known Host h gfn v write small R K A =
    host_known (write && not (host_allows_write v)) (host_present v) h.state.sizes gfn write h.topics v refl refl K.0 K.1 K.2
fault_known Bring h gfn v write small R K A = bring_known (v == word_looked h.topics.host) h.state.sizes gfn write h.topics v refl K.0 K.1
fault_known Share h gfn v write small R K A = share_known h.state.sizes gfn write h.topics v _ _ _ (share_made h.topics v K.1) K.0 K.2
fault_known (Check at) h gfn v write small R K A = check_known at h.state.sizes gfn write h.topics v K.0 K.1 K.2
fault_known (Walk true) h gfn v write small R K A =
    walk_known (kind_of h.topics.walk.level v) h.state.sizes gfn write h.topics v refl R.level K.0 K.1 (K.2 refl)
fault_known (Walk false) h gfn v write small R K A =
    root_known (may_walk h.topics.stay h.topics.hold) h.state.sizes gfn write h.topics v
    (ap (λ (s : Stay). may_walk s h.topics.hold) K.0.sharing.section) small K.0 K.1
fault_known (Claim begun) h gfn v write small R K A =
    claim_known h.state.sizes gfn write begun h.topics v _ _ _ (claim_made h.state.sizes Pages begun h.topics v) K.0 K.1 K.2 K.3
fault_known Fill h gfn v write small R K A = fill_known (nat_lt (words_filled h.topics.owned + 1) 512) h.state.sizes gfn write h.topics v refl A K.0 K.1 K.2 K.3
fault_known Role h gfn v write small R K A = role_known h.state.sizes gfn write h.topics v A K.0 K.1 K.2 K.3
fault_known Link h gfn v write small R K A =
    let O = table_owned h.topics K.2 in
    let low : O.owned.page < 2 ^ 32 = let page = R.page O.owned O.is in let most = R.sizes.pool.1 in omega (arith, page, most) in
    link_known (v == h.topics.walk.entry) h.state.sizes gfn write h.topics v refl R.level K.0 K.1 O.owned O.is low
fault_known (Give e) h gfn v write small R K A =
    (record { section = K.0; owns_none = refl; owes_none = K.3 }, K.1, ends_same e h.state.sizes gfn write h.topics _ refl refl refl refl refl K.4)
fault_known (Leaf writes) h gfn v write small R K A =
    leaf_known (v == h.topics.walk.entry) writes h.state.sizes gfn write h.topics v refl K.0 K.1 K.2 K.3 K.4
fault_known (Unshare e) h gfn v write small R K A = unshare_known e h.state.sizes gfn write h.topics K.0 K.2
fault_known (End e) h gfn v write small R K A =
    record { outside = refl; loose = K.1; owns_none = K.0.owns_none; owes_none = K.0.owes_none; no_table = refl; no_set = refl }
fault_known FastBegin h gfn v write small R K A =
    (record { section = refl; owns_none = K.owns_none; owes_none = K.owes_none }, K.loose, λ e. absurd (cc e))
fault_known (FastFind true) h gfn v write small R K A =
    let set = K.2 refl in fast_slot_known h.state.sizes gfn write (is_some h.topics.search.set) h.topics _ v set.0 set.1 K.0 K.1 set.0
fault_known (FastFind false) h gfn v write small R K A =
    fast_slots_known h.state.sizes gfn write (may_search h.topics.stay h.topics.hold) h.topics _ v
    (ap (λ (s : Stay). may_search s h.topics.hold) K.0.section) K.0 K.1
fault_known (FastWalk true) h gfn v write small R K A =
    fast_walk_known (kind_of h.topics.walk.level v) h.state.sizes gfn write h.topics v refl R.level K.0 (K.1 refl)
fault_known (FastWalk false) h gfn v write small R K A =
    fast_root_known (may_walk h.topics.stay h.topics.hold) h.state.sizes gfn write h.topics v
    (ap (λ (s : Stay). may_walk s h.topics.hold) K.0.inside.section) small K.0
fault_known Fix h gfn v write small R K A = fix_known (v == h.topics.walk.entry) h.state.sizes gfn write h.topics v refl K.0 K.1
fault_known (Mark fast) h gfn v write small R K A = mark_known fast h.state.sizes gfn write h.topics K

-- A store answers what it stored.
pub parts_answer : (step : PartStep) (own : ℕ) (t : Topics) (note : ℕ) (words : Area → ℕ → ℕ) → CanAnswer step (answer_in (part_task step own t note) words)
parts_answer (part.Fill value) own t note words = refl
parts_answer (part.Role value) own t note words = refl
parts_answer (part.SetStart first value) own t note words = refl
parts_answer (part.SetEnd last value) own t note words = refl
parts_answer (part.SetCount value) own t note words = refl
parts_answer (part.SetSeq value) own t note words = refl
parts_answer _ own t note words = tt
