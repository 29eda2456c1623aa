-- A leaf over a run: where the look-up of one guest frame is fresh, the host maps the run of its page as one, and the slot has the run whole, no open
-- invalidation meets the run, and the leaf over it is the one that slots and host give each of its guest frames.
use Rattle.std.proofs.Common.{◌≡◌, ◌⊎◌, inl, inr, ◌+◌, ◌-◌, ◌/◌, ◌%◌, ◌<◌, ◌≤◌, ℕ, refl, sym, subst, ap, ◌∙◌, arith}
use Rattle.std.specs.Prelude.{Bool, true, ◌&&◌, not, Option, Some, None, is_some}
use Rattle.std.proofs.lemmas.Bool.{cases_lt}
use Rattle.core_views.specs.declared.sizes.Sizes.{Sizes}
use Rattle.core_views.specs.declared.topics.Invalidated.{Invalidated}
use Rattle.core_views.specs.declared.topics.PageRun.{PageRun}
use Rattle.core_views.specs.declared.topics.Topics.{Topics}
use Rattle.core_views.specs.declared.trace.Slot.{Slot as SlotOf}
use Rattle.core_views.specs.Sizes.{AreSizes, actors_of}
use Rattle.core_views.specs.Slots.{contains}
use Rattle.spte_words.specs.declared.area.Area.TheVariants as area
use Rattle.spte_words.specs.Entries.{leaf_word, level_span}
use Rattle.spte_words.specs.HostWords.{host_frame, host_level, host_present}
use Rattle.part_steps.specs.PageRuns.{IsOnRun}
use Rattle.part_steps.specs.PartHoldings.{MayEnter}
use Rattle.part_steps.specs.PartTasks.{word_looked}
use Rattle.part_steps.specs.RunHoldings.{HasRun}
use Rattle.part_steps.specs.SlotWords.{leaf_at, page_of, slot_at}
use Rattle.part_steps.specs.StayTopics.{has_lock}
use Rattle.mmu_core.specs.invariant.CachedPart.{IsLeafFor}
use Rattle.mmu_core.specs.invariant.InvalidatedPart.{GivesOne, IsIn, IsOfPages, SlotGives, keeps_empty}
use Rattle.mmu_core.specs.invariant.RunsPart.{HasOwnerOf, IsInRun, IsOneRun}
use Rattle.mmu_core.specs.invariant.SearchPart.{IsInvalidating, IsOnPage}
use Rattle.mmu_core.specs.invariant.SlotSetPart.{AreSlots, IsLiveIn}
use Rattle.mmu_core.specs.invariant.TopicsInvariant.{TopicsInvariant}
use Rattle.mmu_core.specs.machine.View.{View}
use Rattle.mmu_core.proofs.held.PageRuns.{some_run}
use Rattle.mmu_core.proofs.held.KeptEmpty.{empty_open, empty_slot}
use Rattle.mmu_core.proofs.held.FreshFrames.{behind_it, found_live, fresh_in_none, looked_word}
use Rattle.mmu_core.proofs.held.WalkSpans.{one_frame}
use Rattle.mmu_core.proofs.words.RunPlaces.{begins_run, between, given_back, holds_between, run_begins, run_of_other, run_places}
use Rattle.mmu_core.proofs.words.RunSpans.{begins_lowest, begins_whole, between_spans, in_wider}

-- ---- a fresh look-up of one guest frame of the run

module _ (z : Sizes) (v : View) (a level gfn : ℕ) (there : a < actors_of z) (I : TopicsInvariant z v)
    (slots : AreSlots z (v.words area.Pool) (v.words area.Slots 0)) (M : MayEnter gfn (v.hand a).topics) (from : 1 ≤ level) (most : level ≤ 4)
    (run : HasRun level gfn (v.hand a).topics.search.slot) (large : level ≤ host_level (word_looked (v.hand a).topics.host)) where
  abbrev t : Topics
  t = (v.hand a).topics

  abbrev slot : SlotOf
  slot = t.search.slot

  abbrev page : ℕ
  page = page_of slot gfn

  live : IsLiveIn (v.words area.Pool) (v.words area.Slots 0) (t.search.id - 1) slot
  live = found_live z v a gfn there I M

  lock : has_lock t.hold ≡ true
  lock = ap has_lock M.shares

  looked : word_looked t.host ≡ v.words area.Host page
  looked = looked_word z v a gfn there I M

  -- The page is one of the machine's.
  in_machine : page < z.pages
  in_machine = (I.looks a there).there (record { page = page; word = M.looked_up.word }) M.looked_up.host

  -- the places of another guest frame of the run
  places : (other : ℕ) → IsInRun level gfn other
      → (slot.base ≤ other) × (other < slot.base + slot.pages) × (page_of slot other / level_span level ≡ page / level_span level)
      × (page_of slot other % level_span level ≡ other % level_span level)
  places other in_run = run_places level from most slot.base slot.pages slot.host gfn other in_run run.from run.to run.alike

  holds : (other : ℕ) → IsInRun level gfn other → contains other slot ≡ true
  holds other in_run = let P = places other in_run in holds_between slot other P.0 P.1

  -- No invalidation of its page is open.
  quiet : (j : ℕ) → j < actors_of z → IsInvalidating (IsOnPage page) (v.hand j).topics → ⊥
  quiet j lt U =
      let B = behind_it slot gfn M.looked_up.found.holds in
      let given : SlotGives (v.words area.Pool) (v.words area.Slots 0) page gfn =
      record { id = t.search.id - 1; slot = slot; live = live; has = B.0; is = B.1 } in
      fresh_in_none z v a j gfn I there lt lock M.fresh U.opened
      ((I.scopes j lt U.opened (some_run page (v.hand j).topics.invalidations.own.pages U.of_it)).covers page gfn U.of_it given)

  -- So the pages of the run are mapped alike.
  alike : (other : ℕ) → IsInRun level page other → (other < z.pages) × IsOneRun level (v.words area.Host) page other × HasOwnerOf z page other
  alike other in_run = I.runs page level other in_machine quiet from (subst (λ w. level ≤ host_level w) looked large) in_run

  -- The live slot with a guest frame of the run is the one that was found.
  same_slot : (other id : ℕ) (o : SlotOf) → IsInRun level gfn other → IsLiveIn (v.words area.Pool) (v.words area.Slots 0) id o → contains other o ≡ true
      → o ≡ slot
  same_slot other id o in_run is has =
      let same : id ≡ t.search.id - 1 =
      slots.guest_apart other id (t.search.id - 1) is.low live.low is.live live.live (ap (contains other) is.is ∙ has)
      (ap (contains other) live.is ∙ holds other in_run) in
      sym is.is ∙ ap (slot_at (v.words area.Pool) (v.words area.Slots 0)) same ∙ live.is

  -- No open invalidation is of a guest frame of the run, but a slot's whose actor has published since.
  module _ (i other : ℕ) (lt : i < actors_of z) (in_run : IsInRun level gfn other) (emptied : keeps_empty (v.hand i).topics ≡ true) where
    abbrev own_ : Invalidated
    own_ = (v.hand i).topics.invalidations.own

    opened : (v.hand i).topics.invalidations.opened ≡ true
    opened = empty_open (v.hand i).topics emptied

    fresh : IsIn own_ gfn → ⊥
    fresh is_in = fresh_in_none z v a i gfn I there lt lock M.fresh opened is_in

    slot_meets : own_.pages ≡ None → IsIn own_ other → ⊥
    slot_meets of_none is_in =
        let O = I.slot_scopes i lt opened of_none (empty_slot (v.hand i).topics emptied of_none) in
        let start = O.start in
        let end_ = O.end_ in
        let from = is_in.0 in
        let to = is_in.1 in
        let same = same_slot other O.id O.slot in_run O.live (holds_between O.slot other (omega (arith, start, from)) (omega (arith, end_, to))) in
        let B = between slot gfn M.looked_up.found.holds in
        let low = B.0 in
        let high = B.1 in
        let base : O.slot.base ≡ slot.base = ap (λ (s : SlotOf). s.base) same in
        let pages : O.slot.pages ≡ slot.pages = ap (λ (s : SlotOf). s.pages) same in
        fresh (omega (arith, start, base, low), omega (arith, end_, base, pages, high))

    -- No slot gives a guest frame of the run to a page of an invalidated run: this run would have the page, too, and the invalidation its guest frame.
    gives_none : (run : PageRun) → own_.pages ≡ Some run → (e : ℕ) → IsInRun level gfn e
        → GivesOne (v.words area.Pool) (v.words area.Slots 0) own_.pages e → ⊥
    gives_none run is e near given =
        let p : ℕ = given.0 in
        let G = given.2 in
        let back = given_back G.slot p e G.has G.is in
        let behind : page_of slot e ≡ p = ap (λ (s : SlotOf). page_of s e) (sym (same_slot e G.id G.slot near G.live back.0)) ∙ back.1 in
        let with_page : p / level_span level ≡ page / level_span level = sym (ap (λ n. n / level_span level) behind) ∙ (places e near).2 in
        let on_run : IsOnRun p (Some run) = subst (IsOnRun p) is given.1 in
        let O = I.own_pages i run lt opened is in
        let same = (alike p with_page).1.same_level in
        let most_there = O.most p on_run in
        let least : level ≤ host_level (v.words area.Host page) = subst (λ w. level ≤ host_level w) looked large in
        let in_one : p / level_span run.level ≡ page / level_span run.level =
        in_wider level run.level p page from (omega (arith, same, most_there, least)) (let top = O.level.1 in omega (arith, top)) with_page in
        let page_on : IsOnRun page own_.pages = subst (IsOnRun page) (sym is) (sym in_one ∙ on_run) in
        let B = behind_it slot gfn M.looked_up.found.holds in
        fresh ((I.scopes i lt opened (ap is_some is)).covers page gfn page_on
        (record { id = t.search.id - 1; slot = slot; live = live; has = B.0; is = B.1 }))

    page_meets : (run : PageRun) → own_.pages ≡ Some run → IsIn own_ other → ⊥
    page_meets run is is_in = by (cases_lt gfn own_.start) (cases_lt gfn own_.end)
      where
        O : IsOfPages (v.words area.Pool) (v.words area.Slots 0) own_
        O = I.scopes i lt opened (ap is_some is)

        some : own_.start < own_.end
        some = let low = is_in.0 in let high = is_in.1 in omega (arith, low, high)

        by : (gfn < own_.start) ⊎ (own_.start ≤ gfn) → (gfn < own_.end) ⊎ (own_.end ≤ gfn) → ⊥
        by (inl below) x =
            gives_none run is own_.start (between_spans level from most gfn other own_.start in_run (omega (arith, below)) is_in.0) (O.first some)
        by (inr low) (inl high) = fresh (low, high)
        by (inr low) (inr above) =
            let last : ℕ = own_.end - 1 in
            let before : other ≤ last = (let high = is_in.1 in omega (arith, high)) in
            let at = between_spans level from most other gfn last (sym in_run) before (omega (arith, above, some)) in
            gives_none run is last (at ∙ in_run) (O.last some)

    pub none_meets : IsIn own_ other → ⊥
    none_meets is_in = by own_.pages refl
      where
        by : (p : Option PageRun) → own_.pages ≡ p → ⊥
        by None is = slot_meets is is_in
        by (Some run) is = page_meets run is is_in

  -- The leaf over the run is the one that slots and host give each guest frame of it.
  pub run_leaf : AreSizes z → (writes : Bool) (other : ℕ) → IsInRun level gfn other
      → IsLeafFor (v.words area.Pool) (v.words area.Host) (v.words area.Slots 0) level other
      (leaf_at level (host_frame (word_looked t.host) - gfn % level_span level) writes slot (word_looked t.host))
  run_leaf sizes writes other in_run = record {
    id = t.search.id - 1;
    slot = slot;
    live = live;
    holds = holds other in_run;
    run = run_of_other slot gfn other level from most run in_run;
    writes = writes;
    first = first;
    is = ap (leaf_at level first writes slot) looked ∙ ap by_writes (sym A.writes);
    frame = frame;
    in_place = by_place (cases_lt 1 level);
    present = by_level (cases_lt 1 level);
    small = omega (arith, (I.hosts (page_of slot other) (alike (page_of slot other) P.2).0).1, sizes.frames.1);
  }
    where
      P : (slot.base ≤ other) × (other < slot.base + slot.pages) × (page_of slot other / level_span level ≡ page / level_span level)
          × (page_of slot other % level_span level ≡ other % level_span level)
      P = places other in_run

      A : IsOneRun level (v.words area.Host) page (page_of slot other)
      A = (alike (page_of slot other) P.2).1

      first : ℕ
      first = host_frame (word_looked t.host) - gfn % level_span level

      -- the leaf, by whether the host allows writes
      by_writes : Bool → ℕ
      by_writes b = leaf_word level first (writes && (b && not slot.read_only)) b (b && not slot.read_only)

      present : host_present (v.words area.Host page) ≡ true
      present = ap host_present (sym looked) ∙ M.present

      by_level : (1 < level) ⊎ (level ≤ 1) → host_present (v.words area.Host (page_of slot other)) ≡ true
      by_level (inl above) = A.present (omega (arith, above))
      by_level (inr lowest) =
          ap (λ n. host_present (v.words area.Host n)) (one_frame level (page_of slot other) page (omega (arith, from, lowest)) P.2) ∙ present

      by_place : (1 < level) ⊎ (level ≤ 1) → first % level_span level ≡ 0
      by_place (inr lowest) = begins_lowest level first (omega (arith, from, lowest))
      by_place (inl above) =
          begins_whole level from most (host_frame (word_looked t.host)) gfn
          (ap (λ w. host_frame w % level_span level) looked ∙ (alike page refl).1.in_place (omega (arith, above)) ∙ run.alike)

      frame : host_frame (v.words area.Host (page_of slot other)) ≡ first + other % level_span level
      frame = by (begins_run level from most page)
        where
          by : IsInRun level page (page - page % level_span level) → host_frame (v.words area.Host (page_of slot other)) ≡ first + other % level_span level
          by begins =
              let least = run_begins level from most page (host_frame (v.words area.Host page)) _ (alike (page - page % level_span level) begins).1.frames in
              let names : host_frame (word_looked t.host) ≡ host_frame (v.words area.Host page) = ap host_frame looked in
              let same = A.frames in
              let place = P.3 in
              let at = run.alike in
              omega (arith, least, names, same, place, at)
