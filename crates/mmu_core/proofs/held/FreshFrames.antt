-- What was checked under the lock, of open invalidations: none is of the guest frame, so none is of its page. And which leaves a change of a host word leaves.
use Rattle.std.proofs.Common.{◌≡◌, ◌≢◌, ◌⊎◌, inl, inr, ◌+◌, ◌-◌, ◌<◌, ◌≤◌, ◌^◌, ℕ, refl, sym, subst, ap, ◌∙◌, arith}
use Rattle.std.specs.Prelude.{Bool, true, false, nat_le, ◌&&◌, nat_lt, ◌==◌, if◌then◌else◌, Some}
use Rattle.std.proofs.lemmas.Bool.Decides.{nat_tests}
use Rattle.core_views.specs.declared.sizes.Sizes.{Sizes}
use Rattle.core_views.specs.declared.topics.Invalidations.{Invalidations}
use Rattle.core_views.specs.declared.topics.Topics.{Topics}
use Rattle.core_views.specs.declared.trace.Slot.{Slot as SlotOf}
use Rattle.core_views.specs.Sizes.{actors_of}
use Rattle.core_views.specs.Slots.{contains, has_host_page}
use Rattle.spte_words.specs.declared.area.Area.TheVariants as area
use Rattle.spte_words.specs.HostWords.{host_present, with_presence, host_frame}
use Rattle.part_steps.specs.InvalidationHoldings.{knows_count}
use Rattle.core_views.specs.declared.topics.Invalidated.{Invalidated}
use Rattle.part_steps.specs.InvalidationRange.{IsOnRun, gfn_behind}
use Rattle.part_steps.specs.PartHoldings.{IsFresh, MayEnter}
use Rattle.part_steps.specs.PartTasks.{word_looked}
use Rattle.part_steps.specs.SlotWords.{leaf_at, page_of}
use Rattle.part_steps.specs.StayTopics.{has_lock}
use Rattle.mmu_core.specs.invariant.InvalidatedPart.{SlotGives, IsIn, IsOfPages}
use Rattle.mmu_core.specs.invariant.InvalidationsPart.{knows_seq}
use Rattle.mmu_core.specs.invariant.SearchPart.{IsInvalidating, IsOnPage}
use Rattle.mmu_core.specs.invariant.SlotSetPart.{IsLiveIn}
use Rattle.mmu_core.specs.invariant.TopicsInvariant.{TopicsInvariant}
use Rattle.mmu_core.specs.machine.View.{View, upd}
use Rattle.mmu_core.specs.invariant.CachedPart.{IsLeafFor}
use Rattle.mmu_core.proofs.machine.Columns.{same_or, upd_other, upd_same}
use Rattle.mmu_core.proofs.held.OpenFrames.{none_opened}
use Rattle.mmu_core.proofs.words.HostStays.{still_present}
use Rattle.mmu_core.proofs.held.PageRuns.{some_run}

-- A guest frame that was checked under the lock is in no open invalidation.
pub fresh_in_none : (z : Sizes) (v : View) (a i gfn : ℕ) → TopicsInvariant z v → a < actors_of z → i < actors_of z
    → has_lock (v.hand a).topics.hold ≡ true → IsFresh gfn (v.hand a).topics.invalidations
    → (v.hand i).topics.invalidations.opened ≡ true → IsIn (v.hand i).topics.invalidations.own gfn → ⊥
fresh_in_none z v a i gfn I there lt lock fresh is_open is_in = by fresh.none_over
  where
    n : Invalidations
    n = (v.hand a).topics.invalidations

    counted : n.count ≡ v.words area.Count 0
    counted = (I.checks a there).counted lock (ap knows_count fresh.checked_all)

    some : n.count ≢ 0
    some none =
        none_opened (actors_of z) (v.words area.Count 0) (λ j. (v.hand j).topics.invalidations.opened) i lt I.counts (sym counted ∙ none) is_open

    known : (n.start ≡ v.words area.RangeStart 0) × (n.end ≡ v.words area.RangeEnd 0)
    known = I.known a there lock fresh.checked_all (omega (arith, some))

    range : (v.words area.RangeStart 0 ≤ gfn) × (gfn < v.words area.RangeEnd 0) × (gfn < 2 ^ 36)
    range = I.ranges i gfn lt is_open is_in

    by : (n.count ≡ 0) ⊎ (gfn < n.start) ⊎ (n.end ≤ gfn) → ⊥
    by (inl none) = absurd (some none)
    by (inr (inl before)) = let start = known.0 in let from = range.0 in omega (arith, before, start, from)
    by (inr (inr behind)) = let end_ = known.1 in let to = range.1 in omega (arith, behind, end_, to)

-- No actor is invalidating it, so the slot that the fault has found for it is live in the published set.
pub found_live : (z : Sizes) (v : View) (a gfn : ℕ) → a < actors_of z → TopicsInvariant z v → MayEnter gfn (v.hand a).topics
    → IsLiveIn (v.words area.Pool) (v.words area.Slots 0) ((v.hand a).topics.search.id - 1) (v.hand a).topics.search.slot
found_live z v a gfn lt I M =
    let t : Topics = (v.hand a).topics in
    let held = (I.searches a lt).held M.looked_up.found.whole in
    let lock : has_lock t.hold ≡ true = ap has_lock M.shares in
    I.held_slots a held.0 gfn (t.search.id - 1) t.search.slot lt held.1
    (M.fresh.still ∙ ap Some ((I.checks a lt).numbered lock (ap knows_seq M.fresh.checked_all)))
    (λ j low U. fresh_in_none z v a j gfn I lt low lock M.fresh U.opened U.of_it)
    ((I.searches a lt).whole held.0 held.1 M.looked_up.found.whole).1 M.looked_up.found.holds

-- A slot that has the guest frame gives it to the page behind it.
pub behind_it : (slot : SlotOf) (gfn : ℕ) → contains gfn slot ≡ true
    → (has_host_page (page_of slot gfn) slot ≡ true) × (gfn ≡ gfn_behind (page_of slot gfn) slot)
behind_it slot gfn holds = by slot.base slot.pages slot.host holds
  where
    by : (base pages host : ℕ) → (nat_le base gfn && nat_lt gfn (base + pages)) ≡ true
        → ((nat_le host (host + (gfn - base)) && nat_lt (host + (gfn - base)) (host + pages)) ≡ true) × (gfn ≡ base + (host + (gfn - base) - host))
    by base pages host is = let bounds = within base pages is in (grind (arith, nat_tests, bounds.0, bounds.1), omega (arith, bounds.0))
      where
        within : (b p : ℕ) → (nat_le b gfn && nat_lt gfn (b + p)) ≡ true → (b ≤ gfn) × (gfn < b + p)
        within b p e = (grind (arith, nat_tests), grind (arith, nat_tests))

-- The word that was looked up is the host word of the page behind the guest frame, where a fault may store an entry of it.
pub looked_word : (z : Sizes) (v : View) (a gfn : ℕ) → a < actors_of z → TopicsInvariant z v → MayEnter gfn (v.hand a).topics
    → word_looked (v.hand a).topics.host ≡ v.words area.Host (page_of (v.hand a).topics.search.slot gfn)
looked_word z v a gfn there I M =
    ap word_looked M.looked_up.host
    ∙ still_present M.looked_up.word (v.words area.Host (page_of slot gfn))
    ((I.looks a there).still (record { page = page_of slot gfn; word = M.looked_up.word }) t.invalidations.seq M.looked_up.host M.fresh.still
    ((I.checks a there).numbered lock (ap knows_seq M.fresh.checked_all)) none)
    (sym (ap (λ o. host_present (word_looked o)) M.looked_up.host) ∙ M.present)
  where
    t : Topics
    t = (v.hand a).topics

    slot : SlotOf
    slot = t.search.slot

    lock : has_lock t.hold ≡ true
    lock = ap has_lock M.shares

    none : (j : ℕ) → j < actors_of z → IsInvalidating (IsOnPage (page_of slot gfn)) (v.hand j).topics → ⊥
    none j lt U =
        let B = behind_it slot gfn M.looked_up.found.holds in
        let given : SlotGives (v.words area.Pool) (v.words area.Slots 0) (page_of slot gfn) gfn =
        record { id = t.search.id - 1; slot = slot; live = found_live z v a gfn there I M; has = B.0; is = B.1 } in
        fresh_in_none z v a j gfn I there lt lock M.fresh U.opened
        ((I.scopes j lt U.opened (some_run (page_of slot gfn) (v.hand j).topics.invalidations.own.pages U.of_it)).covers (page_of slot gfn) gfn U.of_it given)

-- A leaf agrees still where its page's host word stays.
pub leaf_same : (pool host : ℕ → ℕ) (set page word level gfn leaf : ℕ) → (L : IsLeafFor pool host set level gfn leaf)
    → (page_of L.slot gfn ≡ page → word ≡ host page) → IsLeafFor pool (upd host page word) set level gfn leaf
leaf_same pool host set page word level gfn leaf L same = record {
  id = L.id;
  slot = L.slot;
  live = L.live;
  holds = L.holds;
  run = L.run;
  writes = L.writes;
  first = L.first;
  is = L.is ∙ ap (leaf_at level L.first L.writes L.slot) (sym stays);
  frame = ap host_frame stays ∙ L.frame;
  in_place = L.in_place;
  present = ap host_present stays ∙ L.present;
  small = subst (λ w. host_frame w < 2 ^ 40) (sym stays) L.small;
}
  where
    stays : upd host page word (page_of L.slot gfn) ≡ host (page_of L.slot gfn)
    stays = by (same_or (page_of L.slot gfn) page)
      where
        by : (page_of L.slot gfn ≡ page) ⊎ (page_of L.slot gfn ≢ page) → upd host page word (page_of L.slot gfn) ≡ host (page_of L.slot gfn)
        by (inl e) = ap (upd host page word) e ∙ (upd_same host page word ∙ (same e ∙ ap host (sym e)))
        by (inr ne) = upd_other host page (page_of L.slot gfn) word ne

-- So it does where a page is brought in: of one that isn't present there is no leaf.
pub leaf_brought : (pool host : ℕ → ℕ) (set page old_ level gfn leaf : ℕ) → host_present old_ ≡ false → IsLeafFor pool host set level gfn leaf
    → IsLeafFor pool (upd host page (if host page == old_ then with_presence true old_ else host page)) set level gfn leaf
leaf_brought pool host set page old_ level gfn leaf absent L =
    leaf_same pool host set page _ level gfn leaf L
    (λ e. lost (host page == old_) (λ won. grind (arith, nat_tests)) (ap (λ p. host_present (host p)) (sym e) ∙ L.present))
  where
    lost : (won : Bool) → (won ≡ true → host page ≡ old_) → host_present (host page) ≡ true → (if won then with_presence true old_ else host page) ≡ host page
    lost false same there = refl
    lost true same there = absurd (let gone : host_present (host page) ≡ false = ap host_present (same refl) ∙ absent in cc (gone, there))

-- An invalidation is of a page, and not of this guest frame: where the page's host word changes, the leaf of the guest frame is the same.
pub leaf_elsewhere : (pool host : ℕ → ℕ) (set page x : ℕ) (own_ : Invalidated) (level gfn leaf : ℕ) → IsOfPages pool set own_ → IsOnRun page own_.pages
    → (IsIn own_ gfn → ⊥) → IsLeafFor pool host set level gfn leaf → IsLeafFor pool (upd host page x) set level gfn leaf
leaf_elsewhere pool host set page x own_ level gfn leaf scope on out L = leaf_same pool host set page x level gfn leaf L (λ e. absurd (apart e))
  where
    apart : page_of L.slot gfn ≢ page
    apart e =
        let B = behind_it L.slot gfn L.holds in
        let given : SlotGives pool set (page_of L.slot gfn) gfn = record { id = L.id; slot = L.slot; live = L.live; has = B.0; is = B.1 } in
        out (scope.covers page gfn on (subst (λ p. SlotGives pool set p gfn) e given))
