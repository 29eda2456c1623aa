-- A fault that runs while all other actors rest never waits and never begins anew.
use Rattle.std.proofs.Common.{◌≡◌, ◌≢◌, inr, ◌+◌, ◌/◌, ◌^◌, ◌≤◌, ℕ, refl, sym, subst, ap, ◌∙◌, arith}
use Rattle.std.specs.Prelude.{Bool, true, false, ◌==◌, ◌&&◌, nat_lt, not, if◌then◌else◌, Option, Some, None}
use Rattle.core_views.specs.declared.place.Cause.TheVariants.{Entry, Moved}
use Rattle.core_views.specs.declared.place.CheckStage.TheVariants as stage
use Rattle.core_views.specs.declared.place.FaultEnd.TheVariants.{Retry}
use Rattle.core_views.specs.declared.place.FaultPlace.{FaultPlace}
use Rattle.core_views.specs.declared.place.FaultPlace.TheVariants.{Begin, Snapshot, Find, Host, Bring, Share, Check, Walk, Claim, Fill, Role, Link, Give, Leaf}
use Rattle.core_views.specs.declared.place.FaultPlace.TheVariants.{Unshare, End, FastBegin, FastFind, FastWalk, Fix, Mark}
use Rattle.core_views.specs.declared.sizes.Sizes.{Sizes}
use Rattle.core_views.specs.declared.topics.Topics.{Topics}
use Rattle.core_views.specs.Held.{Held}
use Rattle.spte_words.specs.declared.area.Area.{Area}
use Rattle.spte_words.specs.declared.area.Area.TheVariants as area
use Rattle.spte_words.specs.declared.spte_kind.SpteKind.TheVariants as entry_kind
use Rattle.spte_words.specs.Areas.{pool_index}
use Rattle.spte_words.specs.Entries.{kind_of, level_span}
use Rattle.spte_words.specs.HostWords.{host_allows_write, host_present}
use Rattle.part_steps.specs.declared.task.Task.{Task}
use Rattle.part_steps.specs.declared.part_step.PartStep.{PartStep}
use Rattle.part_steps.specs.declared.part_step.PartStep.TheVariants as part
use Rattle.mmu_core.specs.machine.Enabled.{mmu}
use Rattle.mmu_core.specs.alone.FaultAlone.{AloneNext, EntryStands, GoesThrough, LeadsTo, LeadsToLeaf, FaultRunsAlone}
use Rattle.mmu_core.specs.forms.access.FaultKnows.{FaultKnows}
use Rattle.mmu_core.specs.declared.claim.FreeMap.TheVariants.{Pages}
use Rattle.mmu_core.specs.orders.ClaimSteps.{claim_next, claim_part}
use Rattle.mmu_core.specs.forms.access.FaultSteps.{allows_access, fault_next, fault_part, host_word_at, share_next, share_part, snapshot_taken, exchange_lost}
use Rattle.mmu_core.specs.forms.access.FaultSteps.{is_last_word}
use Rattle.mmu_core.specs.machine.Machine.{World, hand_in}
use Rattle.part_steps.specs.PartTasks.{entry_index, leaf_written, page_looked, page_owned, part_task, table_page, word_looked, words_filled, leaf_fixed}
use Rattle.part_steps.specs.PartHoldings.{IsOver, HasToFill}
use Rattle.part_steps.specs.PartTopics.{part_topics}
use Rattle.part_steps.specs.SlotWords.{page_of}
use Rattle.part_steps.specs.StayTopics.{may_search}
use Rattle.mmu_core.specs.invariant.TreePart.{TreePart, at, stands}
use Rattle.mmu_core.specs.machine.View.{answer_in, upd, view, word_in, words_after}
use Rattle.mmu_core.proofs.invariant.AloneLaws.{lock_free}
use Rattle.core_views.specs.declared.topics.Hold.{Hold}
use Rattle.core_views.specs.declared.topics.Hold.TheVariants.{Loose}
use Rattle.mmu_core.proofs.invariant.PartRested.{rests_in}
use Rattle.mmu_core.proofs.forms.access.FaultNeeds.{fault_needs}
use Rattle.mmu_core.specs.lines.ScanPlaces.{BegunNext, HasBegun, OfPages}
use Rattle.part_steps.specs.PartSteps.{PartNeeds}
use Rattle.mmu_laws.proofs.alone.OthersOpen.{none_alone}
use Rattle.mmu_laws.proofs.alone.PartAlone.{part_goes_alone, seen_on}
use Rattle.mmu_core.proofs.orders.ClaimMade.{claim_made}
use Rattle.mmu_core.proofs.machine.Columns.{upd_same}
use Rattle.mmu_core.proofs.forms.access.LeafKnown.{fix_put, leaf_put}
use Rattle.mmu_core.proofs.forms.access.LeafPut.{IsPut}
use Rattle.mmu_laws.proofs.forms.access.FindAlone.{find_goes}
use Rattle.mmu_laws.proofs.forms.access.HostAlone.{host_forbids}
use Rattle.mmu_laws.proofs.leaves.LeadsDown.{leads_same}
use Rattle.mmu_core.proofs.pages.Owned.{owned_some}
use Rattle.mmu_core.proofs.words.PartWords.{fill_leaves, walks_unowned}
use Rattle.mmu_core.proofs.orders.ShareMade.{share_comes, share_made}
use Rattle.mmu_core.proofs.pages.TreeStored.{entry_stored}
use Rattle.core_views.specs.declared.topics.Stay.{Stay}
use Rattle.mmu_laws.proofs.forms.access.FaultComes.{bring_alone, host_alone, share_alone, count_alone, seq_alone, installed, walk_alone, claim_alone}
use Rattle.mmu_laws.proofs.forms.access.FaultComes.{fill_alone}
use Rattle.mmu_laws.proofs.forms.access.FaultComes.{keeps_pages, link_alone, leaf_alone, is_it, tries_pages, trying_loose, fast_find_alone, fast_walk_alone}
use Rattle.mmu_laws.proofs.forms.access.FaultComes.{over_alone}
use Rattle.mmu_laws.proofs.forms.access.FaultComes.{entry_still}
use Rattle.mmu_laws.proofs.causes.CauseSteps.{entry_unfrozen}
use Rattle.core_views.specs.declared.topics.SlotSearch.{SlotSearch}
use Rattle.core_views.specs.Slots.{contains}
use Rattle.part_steps.specs.PageTopics.{searched}
use Rattle.mmu_core.proofs.pages.NoneBelow.{leaf_ends}
use Rattle.part_steps.specs.PartHoldings.{IsEnd}
use Rattle.spte_words.specs.Entries.{word_below}
use Rattle.mmu_core.proofs.pages.Linked.{walk_linked}

module _ (z : Sizes) (w : World Held) (a gfn note : ℕ) (write : Bool) (p : FaultPlace) (R : FaultRunsAlone z w a p gfn write) where
  abbrev t : Topics
  t = (hand_in mmu w a).topics

  abbrev words : Area → ℕ → ℕ
  words = word_in z w

  abbrev page : ℕ
  page = table_page t.walk

  abbrev index : ℕ
  index = entry_index gfn t.walk.level

  few : z.pool ≤ 2 ^ 32
  few = let most = R.sound.holds.sizes.pool.1 in omega (arith, most)

  -- The entry that is next isn't frozen.
  unfrozen : 1 ≤ t.walk.level → kind_of t.walk.level (words area.Pool (pool_index page index)) ≢ entry_kind.Frozen
  unfrozen from =
      let at_page = (R.sound.topics.held a R.there).table from in
      entry_unfrozen R.sound.topics.tree page (at t.walk.level t.walk.prefix) index (words area.Pool (pool_index page index)) few at_page
      (R.sound.topics.tree.entries page (at t.walk.level t.walk.prefix) at_page index (omega arith))

  -- where the walk's table stands
  stands_over : IsOver gfn t.walk → stands R.sound.topics.up R.sound.topics.spot page ≡ Some (at t.walk.level (gfn / level_span t.walk.level / 512))
  stands_over over = (R.sound.topics.held a R.there).table over.there ∙ ap (λ n. Some (at t.walk.level n)) (sym over.span)

  -- Links lead from the root through it.
  above_now : IsOver gfn t.walk → (e : ℕ) → LeadsTo (words area.Pool) t.walk.level page gfn t.walk.level e
      → LeadsTo (words area.Pool) 4 (words area.Root 0) gfn t.walk.level e
  above_now over e =
      (leads_same R.sound.topics.tree few gfn t.walk.level e t.walk.level page (walk_linked z (view z w) R.sound.topics a R.there over.there)
      (stands_over over)).above

  -- a fill leaves the entry
  fill_leaves_entry : (value : ℕ) → 1 ≤ t.walk.level → HasToFill t
      → words_after (part_task (part.Fill value) a t note) words area.Pool (pool_index page index) ≡ words area.Pool (pool_index page index)
  fill_leaves_entry value from F =
      let o = owned_some t F.0 in
      fill_leaves (page_owned t.owned) (words_filled t.owned) value (words area.Pool) page index F.1 (omega arith)
      (λ e d. walks_unowned z (view z w) a R.there R.sound.topics from a o.0 R.there o.1 (sym (ap page_owned o.1) ∙ e))

  -- after an exchange of the entry for a leaf
  abbrev leafed : ℕ → ℕ → ℕ
  leafed new_ = upd (words area.Pool) (pool_index page index) (if words area.Pool (pool_index page index) == t.walk.entry then new_
      else words area.Pool (pool_index page index))

  module _ (new_ : ℕ) (over : IsOver gfn t.walk) (ends : IsEnd t.walk.level t.walk.entry) (is_leaf : kind_of t.walk.level new_ ≡ entry_kind.Leaf)
      (allows : allows_access write new_ ≡ true) (stands : EntryStands (words area.Pool) gfn t) where
    stored : leafed new_ ≡ upd (words area.Pool) (pool_index page index) new_
    stored =
        ap (λ (b : Bool). upd (words area.Pool) (pool_index page index) (if b then new_ else words area.Pool (pool_index page index)))
        (is_it (words area.Pool (pool_index page index)) t.walk.entry stands)

    tree_leafed : TreePart z.pool (words area.Root 0) (words area.Role) (leafed new_) R.sound.topics.up R.sound.topics.spot
    tree_leafed =
        subst (λ (pool : ℕ → ℕ). TreePart z.pool (words area.Root 0) (words area.Role) pool R.sound.topics.up R.sound.topics.spot) (sym stored)
        (entry_stored R.sound.topics.tree page (at t.walk.level t.walk.prefix) index new_
        ((R.sound.topics.held a R.there).table over.there) (omega arith)
        (record { entry = inr (inr is_leaf); no_link = subst (IsEnd t.walk.level) (sym stands) ends }))

    leaf_leads : LeadsToLeaf (leafed new_) 4 (words area.Root 0) gfn write
    leaf_leads =
        installed (words area.Root 0) (words area.Slots 0) (leafed new_) (words area.Host) gfn write page t.walk.level new_ over.there
        (leads_same tree_leafed few gfn t.walk.level new_ t.walk.level page (walk_linked z (view z w) R.sound.topics a R.there over.there)
        (stands_over over)).above
        (ap (λ (pool : ℕ → ℕ). pool (pool_index page index)) stored ∙ upd_same (words area.Pool) (pool_index page index) new_) is_leaf allows

-- ---- each place

-- what the fault knows after the step of its place
abbrev KnowsNext : Sizes → World Held → ℕ → ℕ → ℕ → Bool → FaultPlace → Type 0
KnowsNext z w a gfn note write p =
    let t : Topics = (hand_in mmu w a).topics in
    let task : Task = part_task (fault_part p gfn t) a t note in
    let found : ℕ = answer_in task (word_in z w) in
    let after : Area → ℕ → ℕ = words_after task (word_in z w) in
    AloneNext (fault_next p z gfn write t found) (after area.Root 0) (after area.Slots 0) (after area.Pool) (after area.Host) gfn write
    (part_topics (fault_part p gfn t) t found)

next_alone : (z : Sizes) (w : World Held) (a gfn note : ℕ) (write : Bool) (p : FaultPlace) → FaultRunsAlone z w a p gfn write → KnowsNext z w a gfn note write p
next_alone z w a gfn note write Begin R = tt
next_alone z w a gfn note write Snapshot R = λ b. absurd (cc b)
next_alone z w a gfn note write (Find true) R = find_goes z w a gfn note write R
next_alone z w a gfn note write (Find false) R =
    let hold : Hold = (hand_in mmu w a).topics.hold in
    λ b. (ap (λ (x : Stay). if may_search x hold then Some (word_in z w area.Slots 0) else None) R.knows.0.inside.section, λ i lt. absurd (omega (arith, lt)))
next_alone z w a gfn note write Host R =
    let t : Topics = (hand_in mmu w a).topics in
    let step : PartStep = part.Host (page_of t.search.slot gfn) in
    let v : ℕ = answer_in (part_task step a t note) (word_in z w) in
    host_alone (word_in z w area.Root 0) (word_in z w area.Slots 0) (word_in z w area.Pool) (word_in z w area.Host) gfn write
    (write && not (host_allows_write v)) (host_present v) (part_topics step t v) (host_forbids z w a gfn write R) refl
next_alone z w a gfn note write Bring R =
    let t : Topics = (hand_in mmu w a).topics in
    let v : ℕ = word_in z w area.Host (page_looked t.host) in
    let after : Area → ℕ → ℕ = words_after (part_task part.Bring a t note) (word_in z w) in
    bring_alone (after area.Root 0) (after area.Slots 0) (after area.Pool) (after area.Host) gfn write (v == word_looked t.host)
    (End (Retry false (Entry (host_word_at z t.host) (word_looked t.host) v))) (part_topics part.Bring t v) (is_it v (word_looked t.host) (sym R.alone))
next_alone z w a gfn note write Share R =
    let t : Topics = (hand_in mmu w a).topics in
    let task : Task = part_task (share_part t.hold) a t note in
    let v : ℕ = answer_in task (word_in z w) in
    let after : Area → ℕ → ℕ = words_after task (word_in z w) in
    let loose : t.hold ≡ Loose = trying_loose t.hold R.knows.1 R.seen.owes_none in
    share_alone (after area.Root 0) (after area.Slots 0) (after area.Pool) (after area.Host) gfn write (share_next t.hold v)
    (part_topics (share_part t.hold) t v)
    (share_comes t (word_in z w) a note _ _ _ (share_made t v R.knows.1) loose (lock_free z w a R.sound R.there R.others loose))
next_alone z w a gfn note write (Check stage.Count) R =
    let t : Topics = (hand_in mmu w a).topics in
    let v : ℕ = word_in z w area.Count 0 in
    count_alone (word_in z w area.Root 0) (word_in z w area.Slots 0) (word_in z w area.Pool) (word_in z w area.Host) gfn write v (part_topics part.Count t v)
    (none_alone z w a R.sound R.others R.opens_none)
next_alone z w a gfn note write (Check stage.Start) R = absurd R.alone
next_alone z w a gfn note write (Check stage.End) R = absurd R.alone
next_alone z w a gfn note write (Check stage.Seq) R =
    let t : Topics = (hand_in mmu w a).topics in
    let v : ℕ = word_in z w area.Seq 0 in
    let snapshot : Option ℕ = t.invalidations.snapshot in
    seq_alone (word_in z w area.Root 0) (word_in z w area.Slots 0) (word_in z w area.Pool) (word_in z w area.Host) gfn write snapshot v
    (Unshare (Retry false (Moved (snapshot_taken snapshot) v))) (part_topics part.Seq t v)
    R.knows.0.looked.snapshot (R.seen.snapshot R.knows.0.section)
next_alone z w a gfn note write (Walk false) R = tt
next_alone z w a gfn note write (Walk true) R =
    let t : Topics = (hand_in mmu w a).topics in
    let over : IsOver gfn t.walk = R.knows.2 refl in
    let v : ℕ = word_in z w area.Pool (pool_index (table_page t.walk) (entry_index gfn t.walk.level)) in
    walk_alone (word_in z w area.Root 0) (word_in z w area.Slots 0) (word_in z w area.Pool) (word_in z w area.Host) gfn write (kind_of t.walk.level v)
    z t v over.there refl refl (above_now z w a gfn note write (Walk true) R over v)
    (unfrozen z w a gfn note write (Walk true) R over.there)
next_alone z w a gfn note write (Claim begun) R =
    let t : Topics = (hand_in mmu w a).topics in
    let step : PartStep = claim_part Pages begun t.claim in
    let task : Task = part_task step a t note in
    let v : ℕ = answer_in task (word_in z w) in
    let after : Area → ℕ → ℕ = words_after task (word_in z w) in
    claim_alone (after area.Root 0) (after area.Slots 0) (after area.Pool) (after area.Host) gfn write (claim_next Pages begun z t.claim v)
    (part_topics step t v)
    (entry_still z gfn begun t v (word_in z w) a note _ _ _ (claim_made z Pages begun t v) R.alone)
next_alone z w a gfn note write Fill R =
    let t : Topics = (hand_in mmu w a).topics in
    let value : ℕ = word_below t.walk.level t.walk.entry (words_filled t.owned) in
    let step : PartStep = part.Fill value in
    let task : Task = part_task step a t note in
    let after : Area → ℕ → ℕ = words_after task (word_in z w) in
    fill_alone (after area.Root 0) (after area.Slots 0) (after area.Pool) (after area.Host) gfn write (nat_lt (words_filled t.owned + 1) 512)
    (part_topics step t (answer_in task (word_in z w)))
    (fill_leaves_entry z w a gfn note write Fill R value R.knows.1.saw.over.there R.knows.2 ∙ R.alone)
next_alone z w a gfn note write Role R = R.alone
next_alone z w a gfn note write Link R =
    let t : Topics = (hand_in mmu w a).topics in
    let v : ℕ = word_in z w area.Pool (pool_index (table_page t.walk) (entry_index gfn t.walk.level)) in
    let after : Area → ℕ → ℕ = words_after (part_task (part.Link gfn) a t note) (word_in z w) in
    link_alone (after area.Root 0) (after area.Slots 0) (after area.Pool) (after area.Host) gfn write (v == t.walk.entry)
    (Give (exchange_lost false z gfn t.walk v)) (part_topics (part.Link gfn) t v)
    (is_it v t.walk.entry R.alone)
next_alone z w a gfn note write (Give e) R = absurd R.alone
next_alone z w a gfn note write (Leaf writes) R =
    let t : Topics = (hand_in mmu w a).topics in
    let v : ℕ = word_in z w area.Pool (pool_index (table_page t.walk) (entry_index gfn t.walk.level)) in
    let after : Area → ℕ → ℕ = words_after (part_task (part.Leaf gfn writes) a t note) (word_in z w) in
    let P : IsPut gfn write t (leaf_written gfn writes t) =
    subst (λ (b : Bool). IsPut gfn write t (leaf_written gfn b t)) (sym R.knows.4) (leaf_put gfn write t R.knows.0 R.knows.2 R.knows.3) in
    leaf_alone (after area.Root 0) (after area.Slots 0) (after area.Pool) (after area.Host) gfn write (v == t.walk.entry) false
    (writes && t.search.logged) (Unshare (exchange_lost false z gfn t.walk v)) (part_topics (part.Leaf gfn writes) t v) (is_it v t.walk.entry R.alone)
    (leaf_leads z w a gfn note write (Leaf writes) R (leaf_written gfn writes t) P.over R.knows.6 P.leaf P.allows R.alone)
next_alone z w a gfn note write Fix R =
    let t : Topics = (hand_in mmu w a).topics in
    let v : ℕ = word_in z w area.Pool (pool_index (table_page t.walk) (entry_index gfn t.walk.level)) in
    let after : Area → ℕ → ℕ = words_after (part_task (part.Fix gfn) a t note) (word_in z w) in
    let P : IsPut gfn write t (leaf_fixed t) = fix_put gfn write t R.knows.1 in
    leaf_alone (after area.Root 0) (after area.Slots 0) (after area.Pool) (after area.Host) gfn write (v == t.walk.entry) true t.search.logged
    (End (exchange_lost true z gfn t.walk v)) (part_topics (part.Fix gfn) t v) (is_it v t.walk.entry R.alone)
    (leaf_leads z w a gfn note write Fix R (leaf_fixed t) P.over (leaf_ends t.walk.level t.walk.entry R.knows.1.leaf) P.leaf P.allows R.alone)
next_alone z w a gfn note write (Mark fast) R =
    let t : Topics = (hand_in mmu w a).topics in
    over_alone (word_in z w area.Root 0) (word_in z w area.Slots 0) (word_in z w area.Pool) (word_in z w area.Host) gfn write fast true
    (record t { owed = None }) R.alone
next_alone z w a gfn note write FastBegin R = tt
next_alone z w a gfn note write (FastFind true) R =
    let t : Topics = (hand_in mmu w a).topics in
    let v : ℕ = answer_in (part_task part.Slot a t note) (word_in z w) in
    let s : SlotSearch = searched t.search v in
    fast_find_alone (word_in z w area.Root 0) (word_in z w area.Slots 0) (word_in z w area.Pool) (word_in z w area.Host) gfn write
    (is_last_word t.search.next && contains gfn s.slot) (s.id == 32) (part_topics part.Slot t v)
next_alone z w a gfn note write (FastFind false) R = tt
next_alone z w a gfn note write (FastWalk true) R =
    let t : Topics = (hand_in mmu w a).topics in
    let v : ℕ = word_in z w area.Pool (pool_index (table_page t.walk) (entry_index gfn t.walk.level)) in
    fast_walk_alone (word_in z w area.Root 0) (word_in z w area.Slots 0) (word_in z w area.Pool) (word_in z w area.Host) gfn write
    (kind_of t.walk.level v) t v refl
next_alone z w a gfn note write (FastWalk false) R = tt
next_alone z w a gfn note write _ R = R.alone

pub goes_through : (z : Sizes) (w : World Held) (a gfn note : ℕ) (write : Bool) (p : FaultPlace) → FaultRunsAlone z w a p gfn write
    → GoesThrough z (word_in z w) a (hand_in mmu w a).topics note p gfn write
goes_through z w a gfn note write p R = record {
  goes = part_goes_alone z w a note R.sound R.others R.there (OfPages (HasBegun p)) R.seen step needs (tries_pages p gfn t);
  next = next_alone z w a gfn note write p R;
  seen =
      seen_on z w a note R.sound R.others R.there (OfPages (HasBegun p)) R.seen (OfPages (BegunNext (fault_next p z gfn write t v))) step needs
      (tries_pages p gfn t) (keeps_pages p z gfn write t v R.knows);
}
  where
    h : Held
    h = hand_in mmu w a

    t : Topics
    t = h.topics

    step : PartStep
    step = fault_part p gfn t

    v : ℕ
    v = answer_in (part_task step a t note) (word_in z w)

    needs : PartNeeds step h
    needs =
        fault_needs p h gfn write R.small (rests_in z w a R.sound R.there)
        (subst (λ (y : Sizes). FaultKnows p y gfn write t) (sym (R.sound.holds.lines a R.there).sizes) R.knows)
