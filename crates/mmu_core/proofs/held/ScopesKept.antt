-- Each step of a part keeps that open invalidations of a host page are of the guest frames that the published slots give to it.
use Rattle.std.proofs.Common.{◌≡◌, ◌≢◌, ◌⊎◌, inl, inr, ◌+◌, ◌-◌, ◌<◌, ℕ, refl, sym, subst, ap, ◌∙◌, arith}
use Rattle.std.specs.Prelude.{Bool, true, false, ◌==◌, ◌&&◌, ◌||◌, if◌then◌else◌, nat_lt, Some, Option, is_some, None}
use Rattle.std.proofs.lemmas.Bool.Decides.{nat_tests}
use Rattle.core_views.specs.declared.sizes.Sizes.{Sizes}
use Rattle.core_views.specs.declared.topics.HostLook.{HostLook}
use Rattle.core_views.specs.declared.topics.Invalidated.{Invalidated}
use Rattle.core_views.specs.declared.topics.OwnedPage.{OwnedPage}
use Rattle.core_views.specs.declared.topics.Stay.TheVariants.{Outside}
use Rattle.core_views.specs.declared.topics.Topics.{Topics}
use Rattle.core_views.specs.declared.trace.Slot.{Slot as SlotOf}
use Rattle.core_views.specs.Held.{Held}
use Rattle.core_views.specs.Sizes.{actors_of}
use Rattle.core_views.specs.Slots.{has_host_page}
use Rattle.spte_words.specs.declared.area.Area.TheVariants as area
use Rattle.part_steps.specs.declared.part_step.PartStep.{PartStep}
use Rattle.part_steps.specs.declared.part_step.PartStep.TheVariants as part
use Rattle.part_steps.specs.declared.invalidations.Target.{Target}
use Rattle.part_steps.specs.declared.invalidations.Target.TheVariants as aim
use Rattle.part_steps.specs.InvalidationHoldings.{IsOpening, MayOpen, knows_count}
use Rattle.core_views.specs.declared.topics.HostRow.{HostRow}
use Rattle.core_views.specs.declared.topics.PageRun.{PageRun}
use Rattle.part_steps.specs.InvalidationRange.{gfn_behind, has_found, invalidated_by, page_looked, run_of_look}
use Rattle.part_steps.specs.PageRuns.{changed_more, is_single, level_looked, run_of}
use Rattle.part_steps.specs.PartTasks.{page_to_change, word_next}
use Rattle.mmu_core.specs.invariant.HeldPart.{HasRetired, HoldsOld}
use Rattle.mmu_core.specs.invariant.InvalidatedPart.{GivesOne, HasCollected, IsOfPages, ScopePart, SlotGives}
use Rattle.mmu_core.specs.invariant.SlotSetPart.{IsLiveIn}
use Rattle.mmu_core.specs.invariant.TopicsInvariant.{TopicsInvariant}
use Rattle.mmu_core.specs.machine.View.{View, part_stepped, answer_in}
use Rattle.mmu_core.proofs.held.OpenFrames.{opened_by, others_closed}
use Rattle.mmu_core.proofs.held.PageRuns.{on_changed, some_changed, this_page, was_on}
use Rattle.mmu_core.proofs.machine.Columns.{at_upd}
use Rattle.mmu_core.proofs.machine.PartStepping.{AreApart, IsPart, is_publish}
use Rattle.mmu_core.proofs.slots.LiveStay.{StayLive}
use Rattle.mmu_core.proofs.slots.LiveStays.{SetStays, published_stays}
use Rattle.mmu_core.proofs.slots.SlotsStay.{is_live_stays, is_live_was}
use Rattle.mmu_core.proofs.words.PartTopics.{behind_step, part_behind}
use Rattle.mmu_core.proofs.words.PartWords.{slots_are, slots_same}
use Rattle.part_steps.specs.StayTopics.{has_lock}
use Rattle.part_steps.specs.PartTopics.{part_topics}
use Rattle.part_steps.specs.PartTasks.{part_task}
use Rattle.mmu_core.proofs.forms.access.FaultSame.{both}

-- Where the same slots are live, it is of the same frames.
same_scope : (before after : ℕ → ℕ) (set other : ℕ) (own_ : Invalidated) → StayLive before set after other → StayLive after other before set
    → IsOfPages before set own_ → IsOfPages after other own_
same_scope before after set other own_ on back O = record {
  covers = λ page gfn in_run G. O.covers page gfn in_run (record { id = G.id; slot = G.slot; live = back G.id G.slot G.live; has = G.has; is = G.is });
  first = λ some. given (O.first some);
  last = λ some. given (O.last some);
}
  where
    given : {gfn : ℕ} → GivesOne before set own_.pages gfn → GivesOne after other own_.pages gfn
    given P = let G = P.2 in (P.0, P.1, record { id = G.id; slot = G.slot; live = on G.id G.slot G.live; has = G.has; is = G.is })

-- What the search has found is of the frames that the slots of its set give to the page.
scope_found : (pool : ℕ → ℕ) (set page : ℕ) (found : Bool) (id : ℕ) (slot : SlotOf) (start end_ : ℕ) → AreApart pool set
    → start ≡ (if found then gfn_behind page slot else 0) → end_ ≡ (if found then gfn_behind page slot + 1 else 0)
    → (found ≡ true → IsLiveIn pool set id slot × (has_host_page page slot ≡ true))
    → (found ≡ false → (i : ℕ) (other : SlotOf) → IsLiveIn pool set i other → has_host_page page other ≡ true → ⊥)
    → IsOfPages pool set (record { pages = Some (run_of page); start = start; end = end_ })
scope_found pool set page true id slot start end_ apart starts ends there none =
    let T = there refl in
    record {
      covers = λ other gfn on given.
          let G = subst (λ p. SlotGives pool set p gfn) (this_page other page on) given in
          let same = ap (gfn_behind page) (apart page G.id id G.slot slot G.live T.0 G.has T.1) in
          let is = G.is in
          (omega (arith, is, same, starts), omega (arith, is, same, ends));
      first = λ some. (page, refl, record { id = id; slot = slot; live = T.0; has = T.1; is = starts });
      last = λ some. (page, refl, record { id = id; slot = slot; live = T.0; has = T.1; is = omega (arith, ends) });
    }
scope_found pool set page false id slot start end_ apart starts ends there none = record {
  covers = λ other gfn on given.
      let G = subst (λ p. SlotGives pool set p gfn) (this_page other page on) given in absurd (none refl G.id G.slot G.live G.has);
  first = λ some. absurd (omega (arith, some, starts, ends));
  last = λ some. absurd (omega (arith, some, starts, ends));
}

-- What the search for a run of several pages has collected from all slots is of the frames that these give to it.
scope_collected : (pool : ℕ → ℕ) (set : ℕ) (run : PageRun) (row : HostRow) → HasCollected pool set 32 run row
    → IsOfPages pool set (record { pages = Some run; start = row.start; end = row.end })
scope_collected pool set run row C = record {
  covers = λ page gfn on G.
      let low = G.live.low in
      let is = G.is in
      let B = C.covers G.id page G.slot G.live (omega (arith, low)) on G.has in
      (omega (arith, is, B.0), omega (arith, is, B.1));
  first = C.first;
  last = λ some. C.last (omega (arith, some));
}

-- The one host page that may be changed is the one that was looked at.
looked_page : (owned : Option OwnedPage) (host : Option HostLook) (row : HostRow) (page : ℕ)
    → (if is_some owned then None else run_of_look host row) ≡ Some (run_of page) → page_looked host ≡ page
looked_page (Some o) host row page is = absurd (cc is)
looked_page None None row page is = absurd (cc is)
looked_page None (Some look) row page is = by (nat_lt 1 (level_looked look row)) (cc is)
  where
    by : (b : Bool) → (if b then record { first = look.page; level = level_looked look row; word = look.word; changed = 0 } else run_of look.page) ≡ run_of page
        → look.page ≡ page
    by true e = ap (λ (r : PageRun). r.first) e
    by false e = ap (λ (r : PageRun). r.first) e

some_set : (o : Option ℕ) → is_some o ≡ true → (set : ℕ) × (o ≡ Some set)
some_set None some = absurd (cc some)
some_set (Some set) some = (set, refl)

module _ (z : Sizes) (v : View) (a : ℕ) (I : TopicsInvariant z v) (there : a < actors_of z) where
  abbrev t : Topics
  t = (v.hand a).topics

  -- The set that is searched outside of every section is the published one.
  searched_published : (set : ℕ) → t.stay ≡ Outside → t.search.set ≡ Some set → set ≡ v.words area.Slots 0
  searched_published set out held = by (I.sets a set there held)
    where
      by : (set ≡ v.words area.Slots 0) ⊎ HoldsOld HasRetired (actors_of z) (λ j. (v.hand j).topics) a set → set ≡ v.words area.Slots 0
      by (inl e) = e
      by (inr H) = absurd (let inside = H.inside in cc (out, inside))

  page_scope : (page : ℕ) → IsOpening (aim.Page page) t → t.invalidations.own ≡ invalidated_by (aim.Page page) t.search t.row
      → AreApart (v.words area.Pool) (v.words area.Slots 0) → IsOfPages (v.words area.Pool) (v.words area.Slots 0) t.invalidations.own
  page_scope page O own_ apart =
      subst (IsOfPages (v.words area.Pool) (v.words area.Slots 0)) (sym own_)
      (scope_found (v.words area.Pool) (v.words area.Slots 0) page (has_found page t.search) (t.search.id - 1) t.search.slot _ _ apart refl refl
      (λ e. let B = both t.search.whole (has_host_page page t.search.slot) e in (found B.0, B.1)) passed)
    where
      looked : page_looked t.host ≡ page
      looked = looked_page t.owned t.host t.row page O.aimed.0

      held : (set : ℕ) × (t.search.set ≡ Some set)
      held = some_set t.search.set O.holds_set

      published : held.0 ≡ v.words area.Slots 0
      published = searched_published held.0 O.outside held.1

      found : t.search.whole ≡ true → IsLiveIn (v.words area.Pool) (v.words area.Slots 0) (t.search.id - 1) t.search.slot
      found whole = subst (λ s. IsLiveIn (v.words area.Pool) s (t.search.id - 1) t.search.slot) published ((I.searches a there).whole held.0 held.1 whole).1

      -- Where none was found, the search has come to its end, and passed all.
      passed : has_found page t.search ≡ false → (i : ℕ) (other : SlotOf) → IsLiveIn (v.words area.Pool) (v.words area.Slots 0) i other
          → has_host_page page other ≡ true → ⊥
      passed none i other L has =
          let last : t.search.id ≡ 32 =
          let over = O.searched in let end_ = or_over (has_found page t.search) (t.search.id == 32) none over in grind (arith, nat_tests) in
          let low = L.low in
          let P =
          I.passed a there O.alone O.outside (ap is_single O.aimed.0) held.0 held.1 i other
          (subst (λ s. IsLiveIn (v.words area.Pool) s i other) (sym published) L) (omega (arith, low, last))
          (ap (λ p. has_host_page p other) looked ∙ has) in
          let yes : has_found page t.search ≡ true = ap (λ (b : Bool). b && has_host_page page t.search.slot) P.0 ∙ (ap (has_host_page page) (sym P.1) ∙ has) in
          cc (none, yes)
        where
          or_over : (x y : Bool) → x ≡ false → (x || y) ≡ true → y ≡ true
          or_over true y e over = absurd (cc e)
          or_over false y e over = over

  run_scope : (run : PageRun) → IsOpening (aim.Run run) t → t.invalidations.own ≡ invalidated_by (aim.Run run) t.search t.row
      → IsOfPages (v.words area.Pool) (v.words area.Slots 0) t.invalidations.own
  run_scope run O own_ =
      let held = some_set t.search.set O.holds_set in
      let C = I.collected a there O.alone O.outside run O.aimed.0 O.aimed.1 held.0 held.1 in
      let over : t.search.id ≡ 32 = (let last = O.searched in grind (arith, nat_tests)) in
      subst (IsOfPages (v.words area.Pool) (v.words area.Slots 0)) (sym own_)
      (scope_collected (v.words area.Pool) (v.words area.Slots 0) run t.row
      (subst (λ s. HasCollected (v.words area.Pool) s 32 run t.row) (searched_published held.0 O.outside held.1)
      (subst (λ n. HasCollected (v.words area.Pool) held.0 n run t.row) over C)))

  opens_scope : MayOpen t → AreApart (v.words area.Pool) (v.words area.Slots 0) → is_some t.invalidations.own.pages ≡ true
      → IsOfPages (v.words area.Pool) (v.words area.Slots 0) t.invalidations.own
  opens_scope M apart some = by M.target M.opening M.own_
    where
      by : (target : Target) → IsOpening target t → t.invalidations.own ≡ invalidated_by target t.search t.row
          → IsOfPages (v.words area.Pool) (v.words area.Slots 0) t.invalidations.own
      by (aim.Slot slot) O own_ = absurd (let none = ap (λ (n : Invalidated). is_some n.pages) own_ in cc (none, some))
      by (aim.Page page) O own_ = page_scope page O own_ apart
      by (aim.Run run) O own_ = run_scope run O own_

-- It is of the same frames once one more page of its run is changed.
changed_scope : (pool : ℕ → ℕ) (set : ℕ) (won : Bool) (own_ : Invalidated) → IsOfPages pool set own_
    → IsOfPages pool set (record own_ { pages = changed_more won own_.pages })
changed_scope pool set won own_ O = record {
  covers = λ page gfn on. O.covers page gfn (was_on won page own_.pages on);
  first = λ some. let P = O.first some in (P.0, on_changed won P.0 own_.pages P.1, P.2);
  last = λ some. let P = O.last some in (P.0, on_changed won P.0 own_.pages P.1, P.2);
}

-- of the words as they were
abbrev ScopesIn : Sizes → (ℕ → ℕ) → ℕ → View → Type 0
ScopesIn z pool slots v = ScopePart (actors_of z) pool slots (λ i. (v.hand i).topics)

scopes_behind : (z : Sizes) (v : View) (a note : ℕ) (step : PartStep) → IsPart z v a step → TopicsInvariant z v
    → ScopesIn z (v.words area.Pool) (v.words area.Slots 0) (part_behind a step note v)
scopes_behind z v a note step S I =
    at_upd (λ i (k : Held). i < actors_of z → k.topics.invalidations.opened ≡ true → is_some k.topics.invalidations.own.pages ≡ true
    → IsOfPages (v.words area.Pool) (v.words area.Slots 0) k.topics.invalidations.own) v.hand a _ (λ lt. own step S) (λ i ne. I.scopes i)
  where
    own : (step : PartStep) → IsPart z v a step
        → (part_topics step (v.hand a).topics (answer_in (part_task step a (v.hand a).topics note) v.words)).invalidations.opened ≡ true
        → is_some (part_topics step (v.hand a).topics (answer_in (part_task step a (v.hand a).topics note) v.words)).invalidations.own.pages ≡ true
        → IsOfPages (v.words area.Pool) (v.words area.Slots 0)
        (part_topics step (v.hand a).topics (answer_in (part_task step a (v.hand a).topics note) v.words)).invalidations.own
    own (part.SetStart first gfn) T is = absurd (let closed = T.needs.0.opening.closed in cc (is, closed))
    own (part.SetEnd last gfn) T is = absurd (let closed = T.needs.0.opening.closed in cc (is, closed))
    own (part.SetCount count) T more =
        opens_scope z v a I T.there (T.needs.0.opens (opened_by z v a I T.there (v.hand a).topics.invalidations.opened count refl T.needs.0.is more))
        T.replaces.apart
    own part.ChangeNext T is = λ some.
        let n : Invalidated = (v.hand a).topics.invalidations.own in
        let won : Bool = v.words area.Host (page_to_change n.pages) == word_next n.pages in
        changed_scope (v.words area.Pool) (v.words area.Slots 0) won n (I.scopes a T.there is (sym (some_changed won n.pages) ∙ some))
    own _ T is = I.scopes a T.there is

-- No actor has an invalidation of a host page open.
abbrev NoneOfPage : Sizes → View → Type 0
NoneOfPage z v =
    (i : ℕ) → i < actors_of z → (v.hand i).topics.invalidations.opened ≡ true → is_some (v.hand i).topics.invalidations.own.pages ≡ true → ⊥

-- A slot set is published where no invalidation is open but the publisher's own,
pub none_beside : (z : Sizes) (v : View) (a : ℕ) → IsPart z v a part.Publish → TopicsInvariant z v → (i : ℕ) → i ≢ a → i < actors_of z
    → (v.hand i).topics.invalidations.opened ≡ true → ⊥
none_beside z v a S I i ne lt =
    others_closed (actors_of z) (v.words area.Count 0) (λ j. (v.hand j).topics.invalidations.opened) a i S.there lt ne I.counts
    (sym ((I.checks a S.there).counted (ap has_lock S.needs.alone) (ap knows_count S.needs.looked)) ∙ S.needs.none_open)

-- which is of no host page.
none_published : (z : Sizes) (v : View) (a note : ℕ) (step : PartStep) → IsPart z v a step → TopicsInvariant z v → is_publish step ≡ true
    → NoneOfPage z (part_behind a step note v)
none_published z v a note part.Publish S I is =
    at_upd (λ i (k : Held). i < actors_of z → k.topics.invalidations.opened ≡ true → is_some k.topics.invalidations.own.pages ≡ true → ⊥) v.hand a _
    (λ lt opened some. absurd (let none = ap is_some (S.needs.of_no_page opened) in cc (none, some)))
    (λ i ne lt opened some. none_beside z v a S I i ne lt opened)
none_published z v a note _ S I is = absurd (cc is)

pub scopes_kept : (z : Sizes) (v : View) (a : ℕ) (step : PartStep) (note : ℕ) → IsPart z v a step → TopicsInvariant z v
    → ScopePart (actors_of z) ((part_stepped a step note v).words area.Pool) ((part_stepped a step note v).words area.Slots 0)
    (λ i. ((part_stepped a step note v).hand i).topics)
scopes_kept z v a step note S I i lt opened some = by (is_publish step) refl
  where
    after : ℕ → ℕ
    after = (part_stepped a step note v).words area.Pool

    stays : SetStays (v.words area.Slots 0) (v.words area.Pool) after
    stays = published_stays z v a step note S I

    by : (b : Bool) → is_publish step ≡ b
        → IsOfPages after ((part_stepped a step note v).words area.Slots 0) ((part_stepped a step note v).hand i).topics.invalidations.own
    by true is =
        absurd (behind_step (NoneOfPage z) z v a step note S (none_published z v a note step S I is) i lt opened some)
    by false is =
        subst (λ s. IsOfPages after s ((part_stepped a step note v).hand i).topics.invalidations.own)
        (sym (slots_are v a step note ∙ slots_same step (v.hand a).topics (v.words area.Slots 0) is))
        (same_scope (v.words area.Pool) after (v.words area.Slots 0) (v.words area.Slots 0) _
        (is_live_stays (v.words area.Slots 0) (v.words area.Pool) after stays) (is_live_was (v.words area.Slots 0) (v.words area.Pool) after stays)
        (behind_step (ScopesIn z (v.words area.Pool) (v.words area.Slots 0)) z v a step note S (scopes_behind z v a note step S I) i lt opened some))
