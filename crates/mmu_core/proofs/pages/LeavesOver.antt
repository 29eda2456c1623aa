-- Each leaf to which links lead from the root is the one that slots and host give the guest frames that it is over: each step of a part keeps it.
use Rattle.std.proofs.Common.{◌≡◌, ◌+◌, ◌*◌, ◌/◌, ◌<◌, ℕ, refl, sym, subst, ap, ◌∙◌, arith, ◌≤◌, ◌⊎◌, ◌≢◌, inl, inr}
use Rattle.std.specs.Prelude.{Some, false, Bool, true, is_some, not, ◌&&◌}
use Rattle.core_views.specs.declared.sizes.Sizes.{Sizes}
use Rattle.spte_words.specs.declared.area.Area.TheVariants as area
use Rattle.spte_words.specs.declared.spte_kind.SpteKind.TheVariants as entry_kind
use Rattle.spte_words.specs.Areas.{pool_index}
use Rattle.spte_words.specs.Entries.{kind_of, level_span, can_write, host_writable, leaf_word, mmu_writable, with_write, without_write}
use Rattle.spte_words.specs.HostWords.{host_allows_write}
use Rattle.spte_words.proofs.ReadsEntries.{kind_of_absent, kind_of_table, leaf_mmu_writable, leaf_with_write, leaf_without_write}
use Rattle.part_steps.specs.declared.part_step.PartStep.{PartStep}
use Rattle.part_steps.specs.declared.part_step.PartStep.TheVariants as part
use Rattle.part_steps.specs.PartTasks.{page_owned, word_looked}
use Rattle.part_steps.specs.SlotWords.{page_of, may_write}
use Rattle.mmu_core.specs.invariant.AllOver.{AllOver, IsEntryOver, LeafIsFor}
use Rattle.mmu_core.specs.invariant.CachedPart.{IsLeafFor}
use Rattle.mmu_core.specs.invariant.SlotSetPart.{IsLiveIn}
use Rattle.mmu_core.specs.invariant.TopicsInvariant.{TopicsInvariant}
use Rattle.mmu_core.specs.invariant.TreePart.{HangsBelow, Position, Use, at, is_table, stands}
use Rattle.mmu_core.specs.machine.View.{View, part_stepped, upd}
use Rattle.mmu_core.proofs.pages.AllOver.{IsLight, over_weaker}
use Rattle.mmu_core.proofs.pages.OverSteps.{OfNewLeaf, over_step}
use Rattle.mmu_core.proofs.pages.SplitLeaves.{leaves_inherited}
use Rattle.mmu_core.proofs.slots.LiveStay.{StayLive, leaf_lives, leaf_stays}
use Rattle.mmu_core.proofs.slots.LiveStays.{live_in_stays, part_live_stays}
use Rattle.mmu_core.proofs.machine.PartStepping.{IsFlushedOut, IsPart, changes_word, flushed_within, is_publish}
use Rattle.mmu_core.proofs.words.HostFrames.{first_small}
use Rattle.mmu_core.proofs.words.HostStays.{host_stays}
use Rattle.mmu_core.proofs.words.PartWords.{areas_stay, slots_are, slots_behind}
use Rattle.mmu_core.proofs.pages.Standing.{spot_after, spot_of, up_after}
use Rattle.mmu_core.proofs.held.KeptEmpty.{page_empty, slot_empty, some_empty}
use Rattle.mmu_core.proofs.held.FreshFrames.{behind_it, leaf_brought, leaf_same}
use Rattle.mmu_core.proofs.pages.PutLeaves.{put_leaf}
use Rattle.part_steps.specs.InvalidationRange.{page_looked}
use Rattle.mmu_core.specs.invariant.InvalidatedPart.{IsNoLeafIn, SlotGives}
use Rattle.mmu_core.proofs.machine.Columns.{same_or}
use Rattle.part_steps.specs.PartHoldings.{is_fixable}
use Rattle.mmu_core.proofs.forms.access.FaultSame.{both}
use Rattle.mmu_core.proofs.held.NextPages.{next_on_own, next_page, next_words}
use Rattle.mmu_core.proofs.held.PageRuns.{on_it, some_run}
use Rattle.core_views.specs.Sizes.{actors_of}
use Rattle.part_steps.specs.PageRuns.{IsOnRun}

-- It says nothing of what is no leaf.
pub leaves_light : (pool host : ℕ → ℕ) (set : ℕ) → IsLight (LeafIsFor pool host set)
leaves_light pool host set = record {
  absent = λ level gfn leaf. let none = kind_of_absent level in absurd (cc (none, leaf));
  link = λ level gfn page upper small leaf. let links = kind_of_table level page upper small in absurd (cc (links, leaf));
}

-- What was live is live, and the same, in the slot set that is published after a step that publishes none.
stays_live : (z : Sizes) (v : View) (a : ℕ) (step : PartStep) (note : ℕ) → is_publish step ≡ false → IsPart z v a step → TopicsInvariant z v
    → StayLive (v.words area.Pool) (v.words area.Slots 0) ((part_stepped a step note v).words area.Pool)
    (slots_behind step (v.hand a).topics (v.words area.Slots 0))
stays_live z v a part.Publish note never S I = absurd (cc never)
stays_live z v a step note never S I =
    λ id slot live. live_in_stays (v.words area.Slots 0) (v.words area.Pool) ((part_stepped a step note v).words area.Pool) id slot
    (part_live_stays z v a step note S I) live

-- A leaf that slots and host give, with nothing but the write forbidden, is the one that allows it, once it is allowed.
fixed_leaf : (pool host : ℕ → ℕ) (set level gfn leaf : ℕ) → is_fixable leaf ≡ true → IsLeafFor pool host set level gfn leaf
    → IsLeafFor pool host set level gfn (with_write leaf)
fixed_leaf pool host set level gfn leaf fixable L = record {
  id = L.id;
  slot = L.slot;
  live = L.live;
  holds = L.holds;
  run = L.run;
  writes = true;
  first = L.first;
  is =
      ap with_write L.is ∙ leaf_with_write level L.first (L.writes && may_write L.slot word) (host_allows_write word) (may_write L.slot word)
      ∙ ap (λ (b : Bool). leaf_word level L.first b (host_allows_write word) (may_write L.slot word)) (sym may);
  frame = L.frame;
  in_place = L.in_place;
  present = L.present;
  small = L.small;
}
  where
    word : ℕ
    word = host (page_of L.slot gfn)

    allows : mmu_writable leaf ≡ true
    allows = (both (host_writable leaf) (mmu_writable leaf) (both (not (can_write leaf)) _ fixable).1).1

    may : may_write L.slot word ≡ true
    may =
        sym (leaf_mmu_writable level L.first (L.writes && may_write L.slot word) (host_allows_write word) (may_write L.slot word)
        (first_small pool host set level gfn leaf L))
        ∙ ap mmu_writable (sym L.is) ∙ allows

-- And it is one that slots and host give, once writes are forbidden in it.
pub left_leaf_for : (pool host : ℕ → ℕ) (set level gfn leaf : ℕ) → IsLeafFor pool host set level gfn leaf
    → IsLeafFor pool host set level gfn (without_write leaf)
left_leaf_for pool host set level gfn leaf L = record {
  id = L.id;
  slot = L.slot;
  live = L.live;
  holds = L.holds;
  run = L.run;
  writes = false;
  first = L.first;
  is =
      ap without_write L.is
      ∙ leaf_without_write level L.first (L.writes && may_write L.slot word) (host_allows_write word) (may_write L.slot word);
  frame = L.frame;
  in_place = L.in_place;
  present = L.present;
  small = L.small;
}
  where
    word : ℕ
    word = host (page_of L.slot gfn)

-- A new leaf is the one for each guest frame of its run.
pub new_leaf : (z : Sizes) (v : View) (a : ℕ) (step : PartStep) → IsPart z v a step → TopicsInvariant z v
    → OfNewLeaf step (v.hand a).topics v (LeafIsFor (v.words area.Pool) (v.words area.Host) (v.words area.Slots 0))
new_leaf z v a (part.Fix gfn) S I = λ won other over was leaf.
    fixed_leaf (v.words area.Pool) (v.words area.Host) (v.words area.Slots 0) (v.hand a).topics.walk.level other _ S.needs.fixable (was S.needs.leaf)
new_leaf z v a (part.Protect gfn) S I = λ found other leaf was now_.
    left_leaf_for (v.words area.Pool) (v.words area.Host) (v.words area.Slots 0) (v.hand a).topics.walk.level other found (was leaf)
new_leaf z v a (part.Leaf gfn write) S I = λ won other over leaf. put_leaf z v a gfn write other S I over
new_leaf z v a _ S I = tt

-- Of the frames of the actor's own invalidation there is no leaf below this table, where the step changes a host word; nor where it publishes a slot set, if
-- the invalidation is flushed.
abbrev pub EmptiedFor : (z : Sizes) (v : View) (a : ℕ) → TopicsInvariant z v → ℕ → PartStep → Type 0
EmptiedFor z v a I m (part.Change new_) = AllOver I.up I.spot (v.words area.Pool) m (IsNoLeafIn (v.hand a).topics.invalidations.own)
EmptiedFor z v a I m part.ChangeNext = AllOver I.up I.spot (v.words area.Pool) m (IsNoLeafIn (v.hand a).topics.invalidations.own)
EmptiedFor z v a I m part.Publish =
    (v.hand a).topics.invalidations.opened ≡ true → z.vcpus ≤ (v.hand a).topics.flush.asked → z.vcpus ≤ (v.hand a).topics.flush.awaited
    → AllOver I.up I.spot (v.words area.Pool) m (IsNoLeafIn (v.hand a).topics.invalidations.own)
EmptiedFor z v a I m _ = Unit {0}

-- Each leaf below a table agrees: before a step, and after it.
module _ (z : Sizes) (v : View) (a : ℕ) (I : TopicsInvariant z v) (m : ℕ) (table : is_table (I.up m) ≡ true) where
  abbrev AgreesBelow : Type 0
  AgreesBelow = AllOver I.up I.spot (v.words area.Pool) m (LeafIsFor (v.words area.Pool) (v.words area.Host) (v.words area.Slots 0))

  abbrev AgreesBehind : PartStep → ℕ → Type 0
  AgreesBehind step note =
      AllOver (up_after step a (v.hand a).topics v I.up) (spot_after step (v.hand a).topics v I.spot) ((part_stepped a step note v).words area.Pool) m
      (LeafIsFor ((part_stepped a step note v).words area.Pool) ((part_stepped a step note v).words area.Host)
      ((part_stepped a step note v).words area.Slots 0))

  -- After a step that publishes no slot set and changes no host word.
  quiet_leaves : (step : PartStep) (note : ℕ) → IsPart z v a step → changes_word step ≡ false → is_publish step ≡ false → AgreesBelow → AgreesBehind step note
  quiet_leaves step note S other never A =
      let w : View = part_stepped a step note v in
      let up : ℕ → Use = up_after step a (v.hand a).topics v I.up in
      let spot : ℕ → Position = spot_after step (v.hand a).topics v I.spot in
      let set : ℕ = v.words area.Slots 0 in
      let before : ℕ → ℕ = v.words area.Pool in
      let behind : ℕ = slots_behind step (v.hand a).topics set in
      let host : ℕ → ℕ = v.words area.Host in
      subst (λ (h : ℕ → ℕ). AllOver up spot (w.words area.Pool) m (LeafIsFor (w.words area.Pool) h (w.words area.Slots 0)))
      (sym (host_stays v a step note other))
      (subst (λ s. AllOver up spot (w.words area.Pool) m (LeafIsFor (w.words area.Pool) host s)) (sym (slots_are v a step note))
      (over_weaker up spot (w.words area.Pool) m (LeafIsFor before host set) (LeafIsFor (w.words area.Pool) host behind)
      (λ level gfn word so leaf. leaf_stays before set (w.words area.Pool) behind (stays_live z v a step note never S I) host level gfn word (so leaf))
      (over_step z v a step note S I m (LeafIsFor before host set) table (leaves_light before host set)
      (leaves_inherited before host set) (new_leaf z v a step S I) A)))

  -- Of a slot that goes with a publication there is no leaf.
  published_leaves : (note : ℕ) → IsPart z v a part.Publish → EmptiedFor z v a I m part.Publish → AgreesBelow → AgreesBehind part.Publish note
  published_leaves note S emptied A =
      over_step z v a part.Publish note S I m (LeafIsFor (v.words area.Pool) (v.words area.Host) page) table
      (leaves_light (v.words area.Pool) (v.words area.Host) page) (leaves_inherited (v.words area.Pool) (v.words area.Host) page) tt
      (λ table entry gfn R O leaf.
      let is = A table entry gfn R O leaf in stays table entry gfn R O leaf is (S.replaces.stay is.id is.slot is.live))
    where
      page : ℕ
      page = page_owned (v.hand a).topics.owned

      stays : (table entry gfn : ℕ) → HangsBelow I.up m table → IsEntryOver (I.spot table) entry gfn
          → kind_of (I.spot table).level (v.words area.Pool (pool_index table entry)) ≡ entry_kind.Leaf
          → (L : IsLeafFor (v.words area.Pool) (v.words area.Host) (v.words area.Slots 0) (I.spot table).level gfn
          (v.words area.Pool (pool_index table entry)))
          → IsLiveIn (v.words area.Pool) page L.id L.slot ⊎ IsFlushedOut z.vcpus L.slot (v.hand a).topics
          → IsLeafFor (v.words area.Pool) (v.words area.Host) page (I.spot table).level gfn (v.words area.Pool (pool_index table entry))
      stays table entry gfn R O leaf L (inl same) =
          leaf_lives (v.words area.Pool) (v.words area.Host) (v.words area.Slots 0) (I.spot table).level gfn _ L (v.words area.Pool) page same
      stays table entry gfn R O leaf L (inr F) =
          absurd (emptied F.opened F.asked F.awaited table entry gfn R O (flushed_within z.vcpus gfn L.slot (v.hand a).topics F L.holds) leaf)

  -- Of a page of an open invalidation there is no leaf. So leaves agree whatever its word is.
  emptied_leaves : (page now_ : ℕ) → a < actors_of z → (v.hand a).topics.invalidations.opened ≡ true → IsOnRun page (v.hand a).topics.invalidations.own.pages
      → AllOver I.up I.spot (v.words area.Pool) m (IsNoLeafIn (v.hand a).topics.invalidations.own) → AgreesBelow
      → AllOver I.up I.spot (v.words area.Pool) m (LeafIsFor (v.words area.Pool) (upd (v.words area.Host) page now_) (v.words area.Slots 0))
  emptied_leaves page now_ there opened on emptied A table entry gfn R O leaf =
      let is = A table entry gfn R O leaf in by is (same_or (page_of is.slot gfn) page)
    where
      word : ℕ
      word = v.words area.Pool (pool_index table entry)

      level : ℕ
      level = (I.spot table).level

      by : (L : IsLeafFor (v.words area.Pool) (v.words area.Host) (v.words area.Slots 0) level gfn word)
          → (page_of L.slot gfn ≡ page) ⊎ (page_of L.slot gfn ≢ page)
          → IsLeafFor (v.words area.Pool) (upd (v.words area.Host) page now_) (v.words area.Slots 0) level gfn word
      by L (inl e) =
          let B = behind_it L.slot gfn L.holds in
          let given : SlotGives (v.words area.Pool) (v.words area.Slots 0) (page_of L.slot gfn) gfn =
          record { id = L.id; slot = L.slot; live = L.live; has = B.0; is = B.1 } in
          absurd (emptied table entry gfn R O
          ((I.scopes a there opened (some_run page (v.hand a).topics.invalidations.own.pages on)).covers page gfn on
          (subst (λ p. SlotGives (v.words area.Pool) (v.words area.Slots 0) p gfn) e given)) leaf)
      by L (inr ne) = leaf_same (v.words area.Pool) (v.words area.Host) (v.words area.Slots 0) page _ level gfn word L (λ e. absurd (ne e))

  -- So they do where it is changed.
  changed_leaves : (new_ note : ℕ) → IsPart z v a (part.Change new_) → EmptiedFor z v a I m (part.Change new_) → AgreesBelow
      → AgreesBehind (part.Change new_) note
  changed_leaves new_ note S emptied A =
      let page : ℕ = page_looked (v.hand a).topics.host in
      emptied_leaves page _ S.there S.needs.0.opened (on_it page (v.hand a).topics.invalidations.own.pages S.needs.0.invalid) emptied A

  -- Nor is there of a page of a run.
  next_leaves : (note : ℕ) → IsPart z v a part.ChangeNext → EmptiedFor z v a I m part.ChangeNext → AgreesBelow → AgreesBehind part.ChangeNext note
  next_leaves note S emptied A =
      subst (λ (h : ℕ → ℕ). AllOver I.up I.spot (v.words area.Pool) m (LeafIsFor (v.words area.Pool) h (v.words area.Slots 0)))
      (sym (next_words z v a S I note)) (emptied_leaves (next_page z v a S I) _ S.there S.needs.opened (next_on_own z v a S I) emptied A)

  -- Of a page that is brought in there is none either: it wasn't present.
  brought_leaves : (note : ℕ) → IsPart z v a part.Bring → AgreesBelow → AgreesBehind part.Bring note
  brought_leaves note S A =
      over_weaker I.up I.spot (v.words area.Pool) m (LeafIsFor (v.words area.Pool) (v.words area.Host) (v.words area.Slots 0))
      (LeafIsFor (v.words area.Pool) ((part_stepped a part.Bring note v).words area.Host) (v.words area.Slots 0))
      (λ level gfn word so leaf.
      leaf_brought (v.words area.Pool) (v.words area.Host) (v.words area.Slots 0) (page_looked (v.hand a).topics.host) (word_looked (v.hand a).topics.host)
      level gfn word S.needs.absent (so leaf)) A

  pub agrees_still : (step : PartStep) (note : ℕ) → IsPart z v a step → EmptiedFor z v a I m step → AgreesBelow → AgreesBehind step note
  agrees_still part.Bring note S emptied A = brought_leaves note S A
  agrees_still (part.Change new_) note S emptied A = changed_leaves new_ note S emptied A
  agrees_still part.ChangeNext note S emptied A = next_leaves note S emptied A
  agrees_still part.Publish note S emptied A = published_leaves note S emptied A
  agrees_still step note S emptied A = quiet_leaves step note S refl refl A

-- Below the root there is none: the frames were zapped.
pub root_emptied : (z : Sizes) (v : View) (a : ℕ) (step : PartStep) → IsPart z v a step → (I : TopicsInvariant z v)
    → EmptiedFor z v a I (v.words area.Root 0) step
root_emptied z v a (part.Change new_) S I =
    let page : ℕ = page_looked (v.hand a).topics.host in
    let some = S.is_sizes.some in
    let sizes : (v.hand a).state.sizes.vcpus ≡ z.vcpus = ap (λ (y : Sizes). y.vcpus) S.sizes in
    let asked = S.needs.0.asked in
    I.zapped a S.there (page_empty (v.hand a).topics page S.needs.0.opened (on_it page (v.hand a).topics.invalidations.own.pages S.needs.0.invalid))
    (omega (arith, some, sizes, asked))
root_emptied z v a part.ChangeNext S I =
    let some = S.is_sizes.some in
    let sizes : (v.hand a).state.sizes.vcpus ≡ z.vcpus = ap (λ (y : Sizes). y.vcpus) S.sizes in
    let asked = S.needs.asked in
    I.zapped a S.there (some_empty (v.hand a).topics S.needs.opened (ap is_some S.needs.is)) (omega (arith, some, sizes, asked))
root_emptied z v a part.Publish S I = λ opened asked awaited.
    let some = S.is_sizes.some in
    I.zapped a S.there (slot_empty (v.hand a).topics opened S.needs.none_retired) (omega (arith, some, asked))
root_emptied z v a _ S I = tt

pub leaves_kept : (z : Sizes) (v : View) (a : ℕ) (step : PartStep) (note : ℕ) → IsPart z v a step → (I : TopicsInvariant z v)
    → AllOver (up_after step a (v.hand a).topics v I.up) (spot_after step (v.hand a).topics v I.spot) ((part_stepped a step note v).words area.Pool)
    ((part_stepped a step note v).words area.Root 0)
    (LeafIsFor ((part_stepped a step note v).words area.Pool) ((part_stepped a step note v).words area.Host) ((part_stepped a step note v).words area.Slots 0))
leaves_kept z v a step note S I =
    let w : View = part_stepped a step note v in
    subst (λ (r : ℕ → ℕ). AllOver (up_after step a (v.hand a).topics v I.up) (spot_after step (v.hand a).topics v I.spot) (w.words area.Pool) (r 0)
    (LeafIsFor (w.words area.Pool) (w.words area.Host) (w.words area.Slots 0)))
    (sym (areas_stay v a step note area.Root refl))
    (agrees_still z v a I (v.words area.Root 0) (ap is_table I.tree.top) step note S (root_emptied z v a step S I) I.leaves)

-- A leaf in a table below which leaves agree, and that stands here, is the one for each guest frame that its entry is over.
pub leaf_below : (z : Sizes) (v : View) (I : TopicsInvariant z v) (m k level prefix entry gfn : ℕ)
    → AllOver I.up I.spot (v.words area.Pool) m (LeafIsFor (v.words area.Pool) (v.words area.Host) (v.words area.Slots 0))
    → HangsBelow I.up m k → stands I.up I.spot k ≡ Some (at level prefix)
    → entry < 512 → gfn / level_span level ≡ prefix * 512 + entry
    → kind_of level (v.words area.Pool (pool_index k entry)) ≡ entry_kind.Leaf
    → IsLeafFor (v.words area.Pool) (v.words area.Host) (v.words area.Slots 0) level gfn (v.words area.Pool (pool_index k entry))
leaf_below z v I m k level prefix entry gfn A R at_k low over =
    let here : I.spot k ≡ at level prefix = (spot_of I.up I.spot k (at level prefix) at_k).1 in
    subst (λ (p : Position). LeafIsFor (v.words area.Pool) (v.words area.Host) (v.words area.Slots 0) p.level gfn (v.words area.Pool (pool_index k entry))) here
    (A k entry gfn R
    (low, subst (λ (p : Position). gfn / level_span p.level ≡ p.prefix * 512 + entry) (sym here) over))

-- So is a leaf in a linked table.
pub leaf_for : (z : Sizes) (v : View) (I : TopicsInvariant z v) (k level prefix entry gfn : ℕ) → HangsBelow I.up (v.words area.Root 0) k
    → stands I.up I.spot k ≡ Some (at level prefix)
    → entry < 512 → gfn / level_span level ≡ prefix * 512 + entry
    → kind_of level (v.words area.Pool (pool_index k entry)) ≡ entry_kind.Leaf
    → IsLeafFor (v.words area.Pool) (v.words area.Host) (v.words area.Slots 0) level gfn (v.words area.Pool (pool_index k entry))
leaf_for z v I k level prefix entry gfn = leaf_below z v I (v.words area.Root 0) k level prefix entry gfn I.leaves
