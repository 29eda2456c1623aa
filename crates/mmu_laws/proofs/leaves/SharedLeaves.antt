-- A leaf that an actor has loaded which shares the lock, outside of every section and of the guest: slots and host give it still.
use Rattle.std.proofs.Common.{◌≡◌, ◌≢◌, ◌⊎◌, inl, inr, ◌+◌, ◌*◌, ◌/◌, ◌<◌, ◌≤◌, ℕ, refl, sym, subst, ap, ◌∙◌, arith}
use Rattle.std.specs.Prelude.{Bool, true, false, ◌==◌, ◌&&◌, not, if◌then◌else◌, Option, Some, None, is_some}
use Rattle.core_views.specs.declared.sizes.Sizes.{Sizes}
use Rattle.core_views.specs.declared.topics.Flush.{Flush}
use Rattle.core_views.specs.declared.topics.Hold.{Hold}
use Rattle.core_views.specs.declared.topics.Hold.TheVariants.{Exclusive, Loose, Shared}
use Rattle.core_views.specs.declared.topics.OwnedPage.{OwnedPage}
use Rattle.core_views.specs.declared.topics.Stay.{Stay}
use Rattle.core_views.specs.declared.topics.Stay.TheVariants.{Outside}
use Rattle.core_views.specs.declared.topics.TableWalk.{TableWalk}
use Rattle.core_views.specs.declared.topics.Topics.{Topics}
use Rattle.core_views.specs.Held.{Held}
use Rattle.core_views.specs.Sizes.{AreSizes, actors_of}
use Rattle.spte_words.specs.declared.area.Area.TheVariants as area
use Rattle.spte_words.specs.declared.spte_kind.SpteKind.TheVariants.{Leaf}
use Rattle.spte_words.specs.Areas.{pool_index}
use Rattle.spte_words.specs.Entries.{kind_of, level_span}
use Rattle.part_steps.specs.declared.part_step.PartStep.{PartStep}
use Rattle.part_steps.specs.declared.part_step.PartStep.TheVariants as part
use Rattle.part_steps.specs.InvalidationRange.{page_looked}
use Rattle.part_steps.specs.PageRuns.{IsOnRun}
use Rattle.part_steps.specs.PageTopics.{still_retired}
use Rattle.part_steps.specs.PartTasks.{entry_index, table_page, word_looked}
use Rattle.part_steps.specs.SlotWords.{page_of}
use Rattle.part_steps.specs.StayTopics.{has_lock, may_walk, no_flush}
use Rattle.part_steps.specs.WalkTopics.{linked_page}
use Rattle.mmu_core.specs.invariant.CachedPart.{IsLeafFor}
use Rattle.mmu_core.specs.invariant.InvalidatedPart.{IsIn, SlotGives, keeps_empty}
use Rattle.mmu_core.specs.invariant.Invariant.{Invariant}
use Rattle.mmu_core.specs.invariant.Laws.{IsSound}
use Rattle.mmu_core.specs.invariant.TopicsInvariant.{TopicsInvariant}
use Rattle.mmu_core.specs.invariant.TreePart.{HangsBelow, Position, at, stands}
use Rattle.mmu_core.specs.machine.Enabled.{mmu}
use Rattle.mmu_core.specs.machine.Machine.{World, hand_in}
use Rattle.mmu_core.specs.machine.View.{View, part_stepped, upd, view, word_in}
use Rattle.mmu_core.proofs.held.FreshFrames.{behind_it, leaf_brought, leaf_same}
use Rattle.mmu_core.proofs.held.InvalidationsKept.{alone_holds}
use Rattle.mmu_core.proofs.held.KeptEmpty.{changed_empty, empty_open, page_empty}
use Rattle.mmu_core.proofs.held.NextPages.{next_on_own, next_page, next_words}
use Rattle.mmu_core.proofs.held.PageRuns.{on_it, some_run}
use Rattle.mmu_core.proofs.machine.Columns.{at_upd, same_or, upd_same}
use Rattle.mmu_core.proofs.machine.PartStepping.{IsPart}
use Rattle.mmu_core.proofs.pages.LeavesOver.{leaf_for}
use Rattle.mmu_core.proofs.pages.Standing.{spot_of}
use Rattle.mmu_core.proofs.slots.LiveStay.{leaf_stays}
use Rattle.mmu_core.proofs.slots.LiveStays.{live_in_stays, part_live_stays}
use Rattle.mmu_core.proofs.words.PartTopics.{behind_step, part_behind, stepped_hand}
use Rattle.mmu_laws.proofs.leaves.OwnLeaves.{StandsThere, gone_found}
use Rattle.mmu_laws.proofs.leaves.TopicRuns.{SaidOf}
use Rattle.mmu_core.proofs.pages.Linked.{walk_linked}

-- Who holds the lock so, is there and walks so shares the lock outside, and has loaded a leaf which is over the guest frame.
pub record SharesLeaf (gfn : ℕ) (hold : Hold) (stay : Stay) (walk : TableWalk) : Type 0 where
  pub shares : hold ≡ Shared
  pub outside : stay ≡ Outside
  pub from : 1 ≤ walk.level
  pub loaded : walk.index < 512
  pub leaf : kind_of walk.level walk.entry ≡ Leaf
  pub over : gfn / level_span walk.level ≡ walk.prefix * 512 + walk.index

abbrev Shares : ℕ → Topics → Type 0
Shares gfn t = SharesLeaf gfn t.hold t.stay t.walk

-- No actor's invalidation is of the guest frame that has asked for a flush: so it was swept when none was.
abbrev pub IsUnswept : ℕ → (ℕ → Topics) → ℕ → Type 0
IsUnswept n topics gfn =
    (j : ℕ) → j < n → keeps_empty (topics j) ≡ true → 1 ≤ (topics j).flush.asked → IsIn (topics j).invalidations.own gfn → ⊥

-- The leaf that the actor's walk has loaded is the guest frame's still.
pub record StaysGiven (z : Sizes) (pool host : ℕ → ℕ) (set : ℕ) (topics : ℕ → Topics) (gfn : ℕ) (walk : TableWalk) : Type 0 where
  pub given : IsLeafFor pool host set walk.level gfn walk.entry
  pub unswept : IsUnswept (actors_of z) topics gfn

abbrev pub SharedPart : Sizes → (ℕ → ℕ) → (ℕ → ℕ) → ℕ → (ℕ → Topics) → Type 0
SharedPart z pool host set topics =
    (i gfn : ℕ) → i < actors_of z → Shares gfn (topics i) → StaysGiven z pool host set topics gfn (topics i).walk

-- So it is of what the actor has loaded, and stands in its table.
abbrev pub SharedOwn : Sizes → ℕ → (ℕ → ℕ) → (ℕ → ℕ) → ℕ → (ℕ → Topics) → Type 0
SharedOwn z a pool host set topics =
    (gfn : ℕ) → Shares gfn (topics a) → StandsThere pool (topics a).walk → StaysGiven z pool host set topics gfn (topics a).walk

-- ---- in a sound world

zapped_here : (z : Sizes) (u : World Held) (G : IsSound z u) (j k level prefix entry gfn : ℕ) → j < actors_of z
    → keeps_empty (hand_in mmu u j).topics ≡ true → 1 ≤ (hand_in mmu u j).topics.flush.asked
    → HangsBelow G.topics.up (word_in z u area.Root 0) k → stands G.topics.up G.topics.spot k ≡ Some (at level prefix) → entry < 512
    → gfn / level_span level ≡ prefix * 512 + entry
    → kind_of level (word_in z u area.Pool (pool_index k entry)) ≡ Leaf → IsIn (hand_in mmu u j).topics.invalidations.own gfn → ⊥
zapped_here z u G j k level prefix entry gfn lt keeps asked R at_k low over leaf is_in =
    let here : G.topics.spot k ≡ at level prefix = (spot_of G.topics.up G.topics.spot k (at level prefix) at_k).1 in
    G.topics.zapped j lt keeps asked k entry gfn R
    (low, subst (λ (p : Position). gfn / level_span p.level ≡ p.prefix * 512 + entry) (sym here) over) is_in
    (subst (λ (p : Position). kind_of p.level (word_in z u area.Pool (pool_index k entry)) ≡ Leaf) (sym here) leaf)

pub shared_own : (z : Sizes) (u : World Held) (a : ℕ) → IsSound z u → a < actors_of z → SaidOf (SharedOwn z a) (view z u)
shared_own z u a G lt gfn H found =
    let walk : TableWalk = (hand_in mmu u a).topics.walk in
    let leaf = ap (kind_of walk.level) found ∙ H.leaf in
    let stands_ = (G.topics.held a lt).table H.from in
    let linked = walk_linked z (view z u) G.topics a lt H.from in
    record {
      given = subst (IsLeafFor (word_in z u area.Pool) (word_in z u area.Host) (word_in z u area.Slots 0) walk.level gfn) found
          (leaf_for z (view z u) G.topics (table_page walk) walk.level walk.prefix walk.index gfn linked stands_ H.loaded H.over leaf);
      unswept = λ j low keeps asked is_in.
          zapped_here z u G j (table_page walk) walk.level walk.prefix walk.index gfn low keeps asked linked stands_ H.loaded H.over leaf is_in;
    }

-- ---- one step of a part

not_shared : (won : Bool) (hold : Hold) → hold ≡ Loose → (if won then Exclusive else hold) ≡ Shared → ⊥
not_shared true hold loose is = cc is
not_shared false hold loose is = cc (loose, is)

flush_stays : (won opened : Bool) (flush : Flush) → opened ≡ true → (if won && not opened then no_flush else flush) ≡ flush
flush_stays true true flush is = refl
flush_stays false opened flush is = refl
flush_stays true false flush is = absurd (cc is)

retired_stays : (owned : Option OwnedPage) (retired : Option ℕ) → is_some owned ≡ true → still_retired owned retired ≡ retired
retired_stays None retired owns = absurd (cc owns)
retired_stays (Some o) retired owns = refl

module _ (z : Sizes) (v : View) (a note : ℕ) where
  abbrev t : Topics
  t = (v.hand a).topics

  abbrev now : PartStep → Topics
  now step = (stepped_hand a step note v).topics

  -- A leaf that the actor's walk holds so it has held so before, or it stands in its table.
  own_shares : (step : PartStep) (gfn : ℕ) → IsPart z v a step → TopicsInvariant z v → Shares gfn (now step)
      → (Shares gfn t × ((now step).walk ≡ t.walk)) ⊎ StandsThere ((part_stepped a step note v).words area.Pool) (now step).walk
  own_shares part.Enter gfn S I H = let out = H.outside in absurd (cc out)
  own_shares part.Begin gfn S I H = let out = H.outside in absurd (cc out)
  own_shares part.Leave gfn S I H = let from = H.from in absurd (omega (arith, from))
  own_shares part.End gfn S I H = let from = H.from in absurd (omega (arith, from))
  own_shares part.Share gfn S I H =
      let none = (I.held a S.there).no_table (ap (λ (s : Stay). may_walk s t.hold) H.outside ∙ ap (may_walk Outside) S.needs) in
      let from = H.from in absurd (omega (arith, from, none))
  own_shares part.Exclude gfn S I H = absurd (not_shared (v.words area.Lock 0 == 0) t.hold S.needs H.shares)
  own_shares part.Unshare gfn S I H = let shares = H.shares in absurd (cc shares)
  own_shares part.Release gfn S I H = let shares = H.shares in absurd (cc shares)
  own_shares part.Root gfn S I H = let low = H.loaded in absurd (omega (arith, low))
  own_shares (part.Walk g) gfn S I H =
      let w : ℕ = v.words area.Pool (pool_index (table_page t.walk) (entry_index g t.walk.level)) in
      inr (gone_found (v.words area.Pool) t.walk (entry_index g t.walk.level) w (linked_page (kind_of t.walk.level w)) refl H.loaded)
  own_shares (part.Sweep g) gfn S I H = absurd (let shares = H.shares in let alone = S.needs.alone in cc (shares, alone))
  own_shares (part.WalkAnew g) gfn S I H = absurd (let shares = H.shares in let alone = S.needs.alone in cc (shares, alone))
  own_shares (part.Zap g) gfn S I H = absurd (let shares = H.shares in let alone = S.needs.alone in cc (shares, alone))
  own_shares (part.Protect g) gfn S I H = absurd (let shares = H.shares in let alone = S.needs.alone in cc (shares, alone))
  own_shares (part.Link g) gfn S I H = absurd (let out = H.outside in let section = S.needs.0.section in cc (out, section))
  own_shares (part.Leaf g write) gfn S I H = absurd (let out = H.outside in let section = S.needs.0.section in cc (out, section))
  own_shares (part.Fix g) gfn S I H = absurd (let out = H.outside in let section = S.needs.section in cc (out, section))
  own_shares _ gfn S I H = inl (H, refl)

  -- While an actor shares the lock nobody has it alone.
  none_alone : (i : ℕ) → TopicsInvariant z v → a < actors_of z → i < actors_of z → (v.hand i).topics.hold ≡ Shared → t.hold ≡ Exclusive → ⊥
  none_alone i I there lt shares alone = by (same_or i a)
    where
      by : (i ≡ a) ⊎ (i ≢ a) → ⊥
      by (inl e) = let mine : t.hold ≡ Shared = ap (λ j. (v.hand j).topics.hold) (sym e) ∙ shares in cc (mine, alone)
      by (inr ne) =
          let none = alone_holds (actors_of z) (v.words area.Lock 0) (λ j. (v.hand j).topics.hold) a i there lt ne I.lock_part alone in
          let has = ap has_lock shares in cc (none, has)

  -- So none begins to be swept.
  swept_before : (step : PartStep) (gfn : ℕ) → IsPart z v a step → (t.hold ≡ Exclusive → ⊥) → keeps_empty (now step) ≡ true → 1 ≤ (now step).flush.asked
      → IsIn (now step).invalidations.own gfn → (keeps_empty t ≡ true) × (1 ≤ t.flush.asked) × IsIn t.invalidations.own gfn
  swept_before (part.SetStart first g) gfn S none keeps asked is_in = absurd (none S.needs.0.opening.alone)
  swept_before (part.SetEnd last g) gfn S none keeps asked is_in = absurd (none S.needs.0.opening.alone)
  swept_before (part.SetCount count) gfn S none keeps asked is_in = absurd (none S.needs.0.alone)
  swept_before part.Publish gfn S none keeps asked is_in = absurd (none S.needs.alone)
  swept_before (part.Ask index) gfn S none keeps asked is_in = absurd (none (S.needs.alone (empty_open (now (part.Ask index)) keeps)))
  swept_before part.Exclude gfn S none keeps asked is_in = (
    keeps,
    subst (λ (f : Flush). 1 ≤ f.asked)
        (flush_stays (v.words area.Lock 0 == 0) t.invalidations.opened t.flush (empty_open (now part.Exclude) keeps)) asked,
    is_in,
  )
  swept_before part.Give gfn S none keeps asked is_in = (
    subst (λ (r : Option ℕ). keeps_empty (record t { retired = r }) ≡ true) (retired_stays t.owned t.retired S.needs.0) keeps,
    asked,
    is_in,
  )
  swept_before part.GiveOld gfn S none keeps asked is_in =
      absurd (let on = empty_open (now part.GiveOld) keeps in let off = S.needs.closed in cc (on, off))
  swept_before part.ChangeNext gfn S none keeps asked is_in = (changed_empty t _ keeps, asked, is_in)
  swept_before _ gfn S none keeps asked is_in = (keeps, asked, is_in)

  unswept_stays : (step : PartStep) (gfn : ℕ) → IsPart z v a step → (t.hold ≡ Exclusive → ⊥) → IsUnswept (actors_of z) (λ j. (v.hand j).topics) gfn
      → IsUnswept (actors_of z) (λ j. (upd v.hand a (stepped_hand a step note v) j).topics) gfn
  unswept_stays step gfn S none U =
      at_upd (λ j (h : Held). j < actors_of z → keeps_empty h.topics ≡ true → 1 ≤ h.topics.flush.asked → IsIn h.topics.invalidations.own gfn → ⊥) v.hand a
      (stepped_hand a step note v)
      (λ lt keeps asked is_in. let was = swept_before step gfn S none keeps asked is_in in U a lt was.0 was.1 was.2) (λ j ne. U j)

  -- What slots and host give they give still where a page is changed of the run of an own invalidation that has asked for flushes.
  changed_stays : (page word level gfn leaf : ℕ) → a < actors_of z → TopicsInvariant z v → t.invalidations.opened ≡ true
      → IsOnRun page t.invalidations.own.pages → 1 ≤ t.flush.asked → IsUnswept (actors_of z) (λ j. (v.hand j).topics) gfn
      → IsLeafFor (v.words area.Pool) (v.words area.Host) (v.words area.Slots 0) level gfn leaf
      → IsLeafFor (v.words area.Pool) (upd (v.words area.Host) page word) (v.words area.Slots 0) level gfn leaf
  changed_stays page word level gfn leaf there I opened on asked U L = by (same_or (page_of L.slot gfn) page)
    where
      by : (page_of L.slot gfn ≡ page) ⊎ (page_of L.slot gfn ≢ page)
          → IsLeafFor (v.words area.Pool) (upd (v.words area.Host) page word) (v.words area.Slots 0) level gfn leaf
      by (inl e) =
          let B = behind_it L.slot gfn L.holds in
          let given : SlotGives (v.words area.Pool) (v.words area.Slots 0) (page_of L.slot gfn) gfn =
          record { id = L.id; slot = L.slot; live = L.live; has = B.0; is = B.1 } in
          absurd (U a there (page_empty t page opened on) asked
          ((I.scopes a there opened (some_run page t.invalidations.own.pages on)).covers page gfn on
          (subst (λ p. SlotGives (v.words area.Pool) (v.words area.Slots 0) p gfn) e given)))
      by (inr ne) = leaf_same (v.words area.Pool) (v.words area.Host) (v.words area.Slots 0) page word level gfn leaf L (λ e. absurd (ne e))

  some_asked : AreSizes z → (v.hand a).state.sizes ≡ z → (v.hand a).state.sizes.vcpus ≤ t.flush.asked → 1 ≤ t.flush.asked
  some_asked sizes same all =
      let some = sizes.some in
      let each = subst (λ (y : Sizes). y.vcpus ≤ t.flush.asked) same all in omega (arith, some, each)

  -- And what slots and host give they give still.
  given_stays : (step : PartStep) (level gfn leaf : ℕ) → IsPart z v a step → TopicsInvariant z v → (t.hold ≡ Exclusive → ⊥)
      → IsUnswept (actors_of z) (λ j. (v.hand j).topics) gfn
      → IsLeafFor (v.words area.Pool) (v.words area.Host) (v.words area.Slots 0) level gfn leaf
      → IsLeafFor ((part_stepped a step note v).words area.Pool) ((part_stepped a step note v).words area.Host)
      ((part_stepped a step note v).words area.Slots 0) level gfn leaf
  given_stays part.Publish level gfn leaf S I none U L = absurd (none S.needs.alone)
  given_stays part.Bring level gfn leaf S I none U L =
      leaf_brought (v.words area.Pool) (v.words area.Host) (v.words area.Slots 0) (page_looked t.host) (word_looked t.host) level gfn leaf S.needs.absent L
  given_stays (part.Change new_) level gfn leaf S I none U L =
      changed_stays (page_looked t.host) _ level gfn leaf S.there I S.needs.0.opened (on_it (page_looked t.host) t.invalidations.own.pages S.needs.0.invalid)
      (some_asked S.is_sizes S.sizes S.needs.0.asked) U L
  given_stays part.ChangeNext level gfn leaf S I none U L =
      subst (λ (host : ℕ → ℕ). IsLeafFor (v.words area.Pool) host (v.words area.Slots 0) level gfn leaf) (sym (next_words z v a S I note))
      (changed_stays (next_page z v a S I) _ level gfn leaf S.there I S.needs.opened (next_on_own z v a S I)
      (some_asked S.is_sizes S.sizes S.needs.asked) U L)
  given_stays step level gfn leaf S I none U L =
      leaf_stays (v.words area.Pool) (v.words area.Slots 0) ((part_stepped a step note v).words area.Pool) (v.words area.Slots 0)
      (λ id slot live. live_in_stays (v.words area.Slots 0) (v.words area.Pool) ((part_stepped a step note v).words area.Pool) id slot
      (part_live_stays z v a step note S I) live) (v.words area.Host) level gfn leaf L

-- ---- each step of a part

module _ (z : Sizes) (v : View) (a note : ℕ) (step : PartStep) (S : IsPart z v a step) (I : TopicsInvariant z v) (Q : SaidOf (SharedPart z) v) where
  abbrev after : ℕ → Topics
  after i = (upd v.hand a (stepped_hand a step note v) i).topics

  abbrev pool_now : ℕ → ℕ
  pool_now = (part_stepped a step note v).words area.Pool

  abbrev host_words : ℕ → ℕ
  host_words = (part_stepped a step note v).words area.Host

  abbrev set_now : ℕ
  set_now = (part_stepped a step note v).words area.Slots 0

  -- A leaf that was loaded before.
  goes_on : (i gfn : ℕ) → i < actors_of z → Shares gfn (v.hand i).topics → StaysGiven z pool_now host_words set_now after gfn (v.hand i).topics.walk
  goes_on i gfn lt H =
      let none = none_alone z v a note i I S.there lt H.shares in
      let G = Q i gfn lt H in
      record {
        given = given_stays z v a note step (v.hand i).topics.walk.level gfn (v.hand i).topics.walk.entry S I none G.unswept G.given;
        unswept = unswept_stays z v a note step gfn S none G.unswept;
      }

  shared_behind : ((gfn : ℕ) → Shares gfn (now z v a note step) → StandsThere pool_now (now z v a note step).walk
      → StaysGiven z pool_now host_words set_now after gfn (now z v a note step).walk) → SharedPart z pool_now host_words set_now after
  shared_behind own i gfn =
      at_upd (λ j (h : Held). j < actors_of z → Shares gfn h.topics → StaysGiven z pool_now host_words set_now after gfn h.topics.walk) v.hand a
      (stepped_hand a step note v) (λ lt H. mine lt H (own_shares z v a note step gfn S I H)) (λ j ne lt H. goes_on j gfn lt H) i
    where
      mine : a < actors_of z → Shares gfn (now z v a note step)
          → (Shares gfn (v.hand a).topics × ((now z v a note step).walk ≡ (v.hand a).topics.walk)) ⊎ StandsThere pool_now (now z v a note step).walk
          → StaysGiven z pool_now host_words set_now after gfn (now z v a note step).walk
      mine lt H (inl was) = subst (StaysGiven z pool_now host_words set_now after gfn) (sym was.1) (goes_on a gfn lt was.0)
      mine lt H (inr found) = own gfn H found

pub shared_kept : (z : Sizes) (v : View) (a note : ℕ) (step : PartStep) → IsPart z v a step → Invariant z v → TopicsInvariant z v
    → SaidOf (SharedOwn z a) (part_stepped a step note v) → SaidOf (SharedPart z) v → SaidOf (SharedPart z) (part_stepped a step note v)
shared_kept z v a note step S I P own Q =
    behind_step (λ w. SharedOwn z a pool host set (λ i. (w.hand i).topics) → SharedPart z pool host set (λ i. (w.hand i).topics)) z v a step note S
    (λ mine. shared_behind z v a note step S P Q
    (subst (λ (h : Held). (gfn : ℕ) → Shares gfn h.topics → StandsThere pool h.topics.walk
    → StaysGiven z pool host set (λ i. ((part_behind a step note v).hand i).topics) gfn h.topics.walk)
    (upd_same v.hand a (stepped_hand a step note v)) mine)) own
  where
    pool : ℕ → ℕ
    pool = (part_stepped a step note v).words area.Pool

    host : ℕ → ℕ
    host = (part_stepped a step note v).words area.Host

    set : ℕ
    set = (part_stepped a step note v).words area.Slots 0
