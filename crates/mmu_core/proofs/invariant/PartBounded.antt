-- What the steps of the parts rest on holds of each hand, by the invariant.
use Rattle.std.proofs.Common.{◌≡◌, ◌⊎◌, inl, inr, ◌<◌, ◌≤◌, ◌+◌, ◌-◌, ℕ, refl, sym, subst, ap, ◌∙◌, arith}
use Rattle.std.specs.Prelude.{Bool, Some, true, false, if◌then◌else◌, nat_lt}
use Rattle.std.proofs.lemmas.Bool.{cases_lt}
use Rattle.std.proofs.lemmas.List.Elements.{All-weaker}
use Rattle.core_views.specs.declared.sizes.Sizes.{Sizes}
use Rattle.core_views.specs.declared.topics.HostLook.{HostLook}
use Rattle.core_views.specs.declared.topics.PageRun.{PageRun}
use Rattle.core_views.specs.Held.{Held}
use Rattle.core_views.specs.Sizes.{AreSizes, actors_of, index_of}
use Rattle.spte_words.specs.declared.area.Area.TheVariants as area
use Rattle.spte_words.specs.HostWords.{host_allows_write, host_frame, host_present}
use Rattle.spte_words.proofs.ReadsHost.{host_has_frame}
use Rattle.part_steps.specs.PartBounds.{IsAtLeafLevel}
use Rattle.part_steps.specs.PartBounds.{CountersPart}
use Rattle.mmu_core.specs.invariant.HeldPart.{HasRetired, HeldPart, HoldsOld}
use Rattle.mmu_core.specs.invariant.HostWordsPart.{owns_page}
use Rattle.mmu_core.specs.invariant.Invariant.{Invariant, OwnLines}
use Rattle.mmu_core.specs.invariant.SlotSetPart.{Fits, IsLiveIn}
use Rattle.mmu_core.specs.invariant.LockPart.{SawWriter}
use Rattle.part_steps.specs.PageRuns.{level_put, page_next, word_given, word_seen}
use Rattle.part_steps.specs.PartBounds.{IsRunOf, PartRests}
use Rattle.part_steps.specs.PartTasks.{own_index, table_page}
use Rattle.part_steps.specs.SweepTopics.{gone_up}
use Rattle.mmu_core.specs.invariant.TopicsInvariant.{TopicsInvariant}
use Rattle.mmu_core.specs.invariant.TreePart.{stands}
use Rattle.mmu_core.proofs.pages.FrameUses.{owned_frame_there}
use Rattle.mmu_core.proofs.pages.Paths.{up_stands, whole_path}
use Rattle.mmu_core.proofs.pages.PoolPages.{left_there, owned_there, slots_there}
use Rattle.mmu_core.specs.machine.View.{View}
use Rattle.mmu_core.proofs.words.HostStays.{put_low}
use Rattle.mmu_core.proofs.held.OldSets.{held_are_slots}
use Rattle.mmu_core.proofs.held.OwnPages.{own_of, own_page, owner_within}
use Rattle.mmu_core.specs.invariant.CachedPart.{FitsMachine}

pub part_rests_at : (z : Sizes) (v : View) (i : ℕ) → Invariant z v → TopicsInvariant z v → i < actors_of z → PartRests (v.hand i)
part_rests_at z v i I P there = record {
  sizes = subst AreSizes (sym same) I.sizes;
  own_place =
      subst (λ n. n < actors_of h.state.sizes) (sym (ap (λ y. index_of y h.state.actor) same ∙ O.index))
      (subst (λ (y : Sizes). i < actors_of y) (sym same) there);
  level = level (cases_lt 0 h.topics.walk.level);
  table = λ from. subst (λ (y : Sizes). table_page h.topics.walk < y.pool) (sym same) (P.tree.there _ _ (H.table from)).0;
  above = λ from. subst (λ (y : Sizes). table_page (gone_up h.topics.walk) < y.pool) (sym same)
      (P.tree.there _ _ (up_stands (stands P.up P.spot) h.topics H (P.paths i there) from (P.tree.there _ _ (H.table from)).2)).0;
  root = λ from. subst (λ (y : Sizes). h.topics.walk.root < y.pool) (sym same)
      (P.tree.there _ _ (whole_path (stands P.up P.spot) h.topics H (P.paths i there) 4 from (P.tree.there _ _ (H.table from)).2 (omega arith))).0;
  set = λ k is. subst (λ (y : Sizes). k < y.pool) (sym same) (set_there k is);
  page = λ o is. subst (λ (y : Sizes). o.page < y.pool) (sym same) (owned_there P.uses i o there is);
  left = λ k is. subst (λ (y : Sizes). k < y.pool) (sym same) (left_there P.uses i k there is);
  frame = λ o is. subst (λ (y : Sizes). o.frame < y.frames) (sym same) (owned_frame_there P.frames i o there is);
  filled = λ o is. (P.filled i o there is).most;
  counters = subst (λ y. CountersPart y h.topics) (sym same) (P.counters i there);
  found = λ whole. subst (λ (y : Sizes). h.topics.search.slot.host + h.topics.search.slot.pages ≤ y.pages) (sym same) (found whole).pages;
  flags = (P.searches i there).before_flags;
  frames = λ whole. (found whole).frames;
  cache = subst (λ n. 1 ≤ n) (sym O.cache) I.sizes.cache.0;
  levels = All-weaker (FitsMachine z) IsAtLeafLevel (λ t fits. fits.level) h.cached.items (I.cached i there);
  looked = λ look is. subst (λ (y : Sizes). (look.page < y.pages) × (host_frame look.word < y.frames)) (sym same) (looked look is);
  large = λ look is own_ page on.
      own_of h.state.sizes (own_index h) look.page page h.state.actor own_ refl
      (owns_back page ((P.own_rows i look there is (owns_at look.page (own_page h.state.sizes (own_index h) look.page h.state.actor own_ refl))).owns page on));
  row = P.low_rows i there;
  changing = λ run opened unraised is several. subst (λ (y : Sizes). IsRunOf y run) (sym same) (run_there run opened unraised is several);
  saw_writer = λ word is. subst SawWriter is (P.saw_writer i there);
  owes = P.owed i there;
}
  where
    h : Held
    h = v.hand i

    O : OwnLines z i h
    O = I.lines i there

    same : h.state.sizes ≡ z
    same = O.sizes

    H : HeldPart (stands P.up P.spot) h.topics
    H = P.held i there

    level : (0 < h.topics.walk.level) ⊎ (h.topics.walk.level ≤ 0) → h.topics.walk.level ≤ 4
    level (inl from) = (P.tree.there _ _ (H.table from)).2
    level (inr none) = omega (arith, none)

    -- The slot set that is held is a page of the pool.
    set_there : (k : ℕ) → h.topics.search.set ≡ Some k → k < z.pool
    set_there k is = by (P.sets i k there is)
      where
        by : (k ≡ v.words area.Slots 0) ⊎ HoldsOld HasRetired (actors_of z) (λ j. (v.hand j).topics) i k → k < z.pool
        by (inl e) = subst (λ n. n < z.pool) (sym e) (slots_there P.uses)
        by (inr O) = left_there P.uses O.by k O.there O.leaves

    -- The slot that was loaded whole is one of the set that is held, so it fits the machine.
    found : h.topics.search.whole ≡ true → Fits z h.topics.search.slot
    found whole =
        let S = P.searches i there in
        let own = S.held whole in
        let live : IsLiveIn (v.words area.Pool) own.0 (h.topics.search.id - 1) h.topics.search.slot =
        (S.whole own.0 own.1 whole).1 in
        subst (Fits z) live.is ((held_are_slots z v i own.0 there P I.set_part.slots own.1).fits (h.topics.search.id - 1) live.low live.live)

    looked : (look : HostLook) → h.topics.host ≡ Some look → (look.page < z.pages) × (host_frame look.word < z.frames)
    looked look is =
        let L = P.looks i there in
        (L.there look is, (L.is_word look is).1)

    owns_at : (page : ℕ) → owns_page h.state.sizes (own_index h) page ≡ true → owns_page z i page ≡ true
    owns_at page owns =
        subst (λ n. owns_page z n page ≡ true) O.index (subst (λ (y : Sizes). owns_page y (index_of y h.state.actor) page ≡ true) same owns)

    owns_back : (page : ℕ) → owns_page z i page ≡ true → owns_page h.state.sizes (own_index h) page ≡ true
    owns_back page owns =
        subst (λ (y : Sizes). owns_page y (index_of y h.state.actor) page ≡ true) (sym same)
        (subst (λ n. owns_page z n page ≡ true) (sym O.index) owns)

    -- The pages that it is changing are the machine's, and each of them was seen at a frame of it.
    run_there : (run : PageRun) → h.topics.invalidations.opened ≡ true → h.topics.invalidations.raised ≡ false
        → h.topics.invalidations.own.pages ≡ Some run → 2 ≤ run.level → IsRunOf z run
    run_there run opened unraised is several =
        let own_ = P.own_pages i run there opened is in
        let C = P.changes i run there opened unraised is several in record {
          most = own_.level.1;
          there = λ page on. owner_within z I.sizes i page (own_.owns page on);
          frames = λ page on.
              let fits = (P.hosts page (owner_within z I.sizes i page (own_.owns page on))).1 in
              seen_fits run own_.level.1 page (nat_lt page (page_next run))
              (subst (λ w. host_frame w < z.frames) (C.words page on) fits);
        }
      where
        seen_fits : (run : PageRun) → run.level ≤ 3 → (page : ℕ) (b : Bool) → host_frame (if b then word_given run page else word_seen run page) < z.frames
            → host_frame (word_seen run page) < z.frames
        seen_fits run run_most page true fits =
            subst (λ f. f < z.frames)
            (host_has_frame (host_frame (word_seen run page)) (host_present (word_seen run page)) (host_allows_write (word_seen run page))
            (level_put run) (put_low run run_most)) fits
        seen_fits run run_most page false fits = fits
