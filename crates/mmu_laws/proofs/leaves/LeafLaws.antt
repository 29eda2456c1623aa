-- Each leaf that stands, is cached, or is used agrees with slots and host.
use Rattle.std.proofs.Common.{◌≡◌, inl, inr, ◌/◌, ◌%◌, ◌^◌, ◌<◌, ◌≤◌, ℕ, zero, suc, refl, sym, subst, ap, ◌∙◌, arith}
use Rattle.std.specs.Prelude.{Bool, true, false, ◌&&◌, not, if◌then◌else◌, Option, Some, None, is_some}
use Rattle.core_views.specs.declared.place.AccessPlace.TheVariants.{Touch}
use Rattle.core_views.specs.declared.place.Place.{Place}
use Rattle.core_views.specs.declared.place.Place.TheVariants as place
use Rattle.core_views.specs.declared.sizes.Sizes.{Sizes}
use Rattle.core_views.specs.declared.topics.TableWalk.{TableWalk}
use Rattle.core_views.specs.declared.trace.Command.{Command}
use Rattle.core_views.specs.declared.trace.Command.TheVariants.{Access}
use Rattle.core_views.specs.declared.trace.Op.{Op}
use Rattle.core_views.specs.declared.trace.Op.TheVariants.{Read}
use Rattle.core_views.specs.declared.trace.Slot.{Slot}
use Rattle.core_views.specs.Held.{Held}
use Rattle.core_views.specs.Sizes.{actors_of}
use Rattle.core_views.specs.Slots.{contains, is_write, page_in, slot_of}
use Rattle.spte_words.specs.declared.area.Area.TheVariants as area
use Rattle.spte_words.specs.declared.spte_kind.SpteKind.TheVariants as entry_kind
use Rattle.spte_words.specs.Areas.{pool_index}
use Rattle.spte_words.specs.Entries.{can_write, frame_in, host_writable, kind_of, leaf_word, level_span, mapped_frame, mmu_writable}
use Rattle.spte_words.specs.HostWords.{host_allows_write}
use Rattle.spte_words.proofs.ReadsEntries.{leaf_can_write, leaf_frame, leaf_host_writable, leaf_mmu_writable}
use Rattle.spte_words.proofs.ProtectedEntries.{leaf_level}
use Rattle.spte_words.proofs.Spans.{span_4}
use Rattle.mmu_core.specs.machine.Enabled.{mmu}
use Rattle.mmu_core.specs.alone.FaultAlone.{LeadsTo}
use Rattle.mmu_core.specs.forms.access.FaultSteps.{allows_access}
use Rattle.mmu_core.specs.invariant.Invariant.{IsLeafFor, KnowsPart, SlotSetPart}
use Rattle.mmu_core.specs.invariant.Laws.{IsSound}
use Rattle.mmu_core.specs.invariant.CachedPart.{FitsMachine}
use Rattle.mmu_core.specs.forms.access.Cached.{covers}
use Rattle.mmu_laws.specs.leaves.LeafLaws.{CachedAgrees, CoversSpan, LeafAgrees}
use Rattle.mmu_core.specs.machine.Machine.{World, hand_in}
use Rattle.part_steps.specs.PartBounds.{IsAtLeafLevel}
use Rattle.part_steps.specs.PartTasks.{entry_index, table_page}
use Rattle.part_steps.specs.PartHoldings.{IsOver}
use Rattle.part_steps.specs.SlotWords.{may_write, page_of, slot_at, slots_below}
use Rattle.mmu_core.specs.invariant.TreePart.{Position, HangsBelow, TreePart, Use, at, stands}
use Rattle.mmu_core.specs.machine.View.{view, word_in}
use Rattle.mmu_core.specs.invariant.AllOver.{AllOver, LeafSays, LeavesSay}
use Rattle.mmu_core.proofs.pages.AllOver.{reaches_on}
use Rattle.mmu_core.proofs.pages.LeavesOver.{leaf_for}
use Rattle.mmu_core.proofs.pages.TreePlaces.{root_stands}
use Rattle.mmu_core.proofs.pages.NoneBelow.{over_frame}
use Rattle.mmu_laws.proofs.leaves.LeadsDown.{leads_at, leads_linked, link_below, one_below}
use Rattle.mmu_core.proofs.words.HostFrames.{first_small, leaf_maps}
use Rattle.mmu_core.proofs.words.SlotLists.{only_one_holds}
use Rattle.mmu_core.proofs.forms.access.CachedKept.{used_covers, vcpu_below}
use Rattle.mmu_core.proofs.forms.access.UsedTranslations.{uses_allows}
use Rattle.mmu_core.proofs.machine.Stepping.{line_allowed}
use Rattle.mmu_core.proofs.held.UsableKept.{used_agrees}
use Rattle.core_views.specs.Traces.{IsCommandFor}
use Rattle.mmu_core.proofs.forms.access.FaultSame.{both}
use Rattle.mmu_core.proofs.pages.Linked.{walk_linked}

-- A write gets the page of its slot, where the slot isn't read-only.
gets_page : (write read_only : Bool) (page : ℕ) → write ≡ true → is_some (if write && read_only then None else Some page) ≡ not read_only
gets_page true true page is = refl
gets_page true false page is = refl
gets_page false read_only page is = absurd (cc is)

-- The leaf of a page in its slot agrees.
leaf_agrees : (z : Sizes) (set : ℕ) (role pool host : ℕ → ℕ) (level gfn leaf : ℕ) → SlotSetPart z set role pool
    → IsLeafFor pool host set level gfn leaf → LeafAgrees set pool host level gfn leaf
leaf_agrees z set role pool host level gfn leaf P L = record {
  page = page_of slot gfn;
  behind = ap (page_in gfn Read) found;
  present = L.present;
  frame = leaf_maps pool host set level gfn leaf L;
  host_bit = ap host_writable L.is ∙ leaf_host_writable level L.first allowed (host_allows_write word) (may_write slot word) small;
  mmu_bit = λ op is. mmu_is
      ∙ ap (λ b. host_allows_write word && b)
      (sym (ap (λ (o : Option Slot). is_some (page_in gfn op o)) found ∙ gets_page (is_write op) slot.read_only (page_of slot gfn) is));
  writes = λ is. mmu_is ∙ (both L.writes (may_write slot word) (sym writes_are ∙ is)).1;
}
  where
    slot : Slot
    slot = L.slot

    word : ℕ
    word = host (page_of slot gfn)

    allowed : Bool
    allowed = L.writes && may_write slot word

    small : L.first < 2 ^ 40
    small = first_small pool host set level gfn leaf L

    writes_are : can_write leaf ≡ allowed
    writes_are = ap can_write L.is ∙ leaf_can_write level L.first allowed (host_allows_write word) (may_write slot word)

    mmu_is : mmu_writable leaf ≡ may_write slot word
    mmu_is = ap mmu_writable L.is ∙ leaf_mmu_writable level L.first allowed (host_allows_write word) (may_write slot word) small

    holds : contains gfn (slot_at pool set L.id) ≡ true
    holds = ap (contains gfn) L.live.is ∙ L.holds

    found : slot_of (slots_below pool set 32) gfn ≡ Some slot
    found =
        only_one_holds gfn pool set L.id 32 (omega (arith, L.live.low)) L.live.live holds
        (λ i lt live too. P.slots.guest_apart gfn i L.id (omega arith) L.live.low live L.live.live too holds)
        ∙ ap Some L.live.is

-- So it says of its guest frame what slots and host say.
leaf_says : (pool host : ℕ → ℕ) (set level gfn leaf : ℕ) → IsLeafFor pool host set level gfn leaf → LeafSays pool host set level gfn leaf
unfolding mapped_frame
leaf_says pool host set level gfn leaf L = record {
  id = L.id;
  slot = slot;
  live = L.live;
  holds = L.holds;
  run = L.run;
  word = L.is ∙ leaf_from (sym frame_is) (sym writes_are) (sym host_is) (sym mmu_is);
  frame = sym (leaf_maps pool host set level gfn leaf L);
  in_place = ap (λ n. n % level_span level) frame_is ∙ L.in_place;
  writes = λ is. (both L.writes (may_write slot word) (sym writes_are ∙ is)).1;
  host_bit = λ is. sym host_is ∙ is;
  mmu_bit = λ is. sym mmu_is ∙ is;
}
  where
    slot : Slot
    slot = L.slot

    word : ℕ
    word = host (page_of slot gfn)

    allowed : Bool
    allowed = L.writes && may_write slot word

    small : L.first < 2 ^ 40
    small = first_small pool host set level gfn leaf L

    frame_is : frame_in leaf ≡ L.first
    frame_is = ap frame_in L.is ∙ leaf_frame level L.first allowed (host_allows_write word) (may_write slot word) small

    writes_are : can_write leaf ≡ allowed
    writes_are = ap can_write L.is ∙ leaf_can_write level L.first allowed (host_allows_write word) (may_write slot word)

    host_is : host_writable leaf ≡ host_allows_write word
    host_is = ap host_writable L.is ∙ leaf_host_writable level L.first allowed (host_allows_write word) (may_write slot word) small

    mmu_is : mmu_writable leaf ≡ may_write slot word
    mmu_is = ap mmu_writable L.is ∙ leaf_mmu_writable level L.first allowed (host_allows_write word) (may_write slot word) small

    leaf_from : {frame other : ℕ} {w v hw hv mw mv : Bool} → frame ≡ other → w ≡ v → hw ≡ hv → mw ≡ mv
        → leaf_word level frame w hw mw ≡ leaf_word level other v hv mv
    leaf_from f w h m = cc (f, w, h, m)

-- All leaves in the tables below the root do, and so do those below any table that the root reaches.
pub leaves_say : (z : Sizes) (w : World Held) (sound : IsSound z w) (k : ℕ) → HangsBelow sound.topics.up (word_in z w area.Root 0) k
    → AllOver sound.topics.up sound.topics.spot (word_in z w area.Pool) k (LeavesSay (word_in z w area.Pool) (word_in z w area.Host) (word_in z w area.Slots 0))
leaves_say z w sound k R table entry gfn Q O leaf =
    let P = sound.topics in
    leaf_says (word_in z w area.Pool) (word_in z w area.Host) (word_in z w area.Slots 0) (P.spot table).level gfn
    (word_in z w area.Pool (pool_index table entry)) (P.leaves table entry gfn (reaches_on P.up (word_in z w area.Root 0) k table R Q) O leaf)

-- ---- where links lead

module _ {pages root : ℕ} {role pool : ℕ → ℕ} {up : ℕ → Use} {spot : ℕ → Position} (T : TreePart pages root role pool up spot)
    (few : pages ≤ 2 ^ 32) (gfn low entry : ℕ) where
  -- The entry to which they lead from a table over the guest frame is one of a table over it.
  end_table : (level page : ℕ) → HangsBelow up root page → stands up spot page ≡ Some (over_frame level gfn) → LeadsTo pool level page gfn low entry
      → (k : ℕ) × (stands up spot k ≡ Some (over_frame low gfn)) × (pool (pool_index k (entry_index gfn low)) ≡ entry) × HangsBelow up root k
  end_table zero page R at_page leads = absurd leads
  end_table (suc level) page R at_page (inl E) = (
    page,
    at_page ∙ ap (λ n. Some (over_frame n gfn)) (sym E.here),
    ap (λ n. pool (pool_index page (entry_index gfn n))) E.here ∙ E.is,
    R,
  )
  end_table (suc level) page R at_page (inr down) =
      end_table level down.0 (link_below T few gfn (suc level) _ page down.0 R at_page down.1)
      (one_below T few gfn (suc level) page down.0 at_page down.1 ∙ ap (λ n. Some (over_frame n gfn)) (omega arith)) down.2

  pub from_root : gfn < 2 ^ 36 → LeadsTo pool 4 root gfn low entry
      → (k : ℕ) × (stands up spot k ≡ Some (over_frame low gfn)) × (pool (pool_index k (entry_index gfn low)) ≡ entry) × HangsBelow up root k
  from_root small leads =
      let first : 0 ≡ gfn / level_span 4 / 512 = rw span_4 (omega (arith, small)) in
      end_table 4 root (0, refl) (root_stands T ∙ ap (λ n. Some (at 4 n)) first) leads

-- A leaf of such a table is the guest frame's.
standing_leaf : (z : Sizes) (w : World Held) (gfn low entry k : ℕ) (sound : IsSound z w)
    → HangsBelow sound.topics.up (word_in z w area.Root 0) k → stands sound.topics.up sound.topics.spot k ≡ Some (over_frame low gfn)
    → word_in z w area.Pool (pool_index k (entry_index gfn low)) ≡ entry
    → kind_of low entry ≡ entry_kind.Leaf → IsLeafFor (word_in z w area.Pool) (word_in z w area.Host) (word_in z w area.Slots 0) low gfn entry
standing_leaf z w gfn low entry k sound R at_k is leaf =
    subst (IsLeafFor (word_in z w area.Pool) (word_in z w area.Host) (word_in z w area.Slots 0) low gfn) is
    (leaf_for z (view z w) sound.topics k low (gfn / level_span low / 512) (entry_index gfn low) gfn R at_k (omega arith) (omega arith)
    (ap (kind_of low) is ∙ leaf))

pub leaves_agree : (z : Sizes) (w : World Held) (gfn low entry : ℕ) → IsSound z w → gfn < 2 ^ 36
    → LeadsTo (word_in z w area.Pool) 4 (word_in z w area.Root 0) gfn low entry → kind_of low entry ≡ entry_kind.Leaf
    → LeafAgrees (word_in z w area.Slots 0) (word_in z w area.Pool) (word_in z w area.Host) low gfn entry
leaves_agree z w gfn low entry sound small leads leaf =
    let end_ = from_root sound.topics.tree (let most = sound.holds.sizes.pool.1 in omega (arith, most)) gfn low entry small leads in
    leaf_agrees z (word_in z w area.Slots 0) (word_in z w area.Role) (word_in z w area.Pool) (word_in z w area.Host) low gfn entry
    sound.holds.set_part (standing_leaf z w gfn low entry end_.0 sound end_.3 end_.1 end_.2 leaf)

-- It is the leaf of each guest frame of its span: the table that has it stands over all of them, and has them in one entry.
pub leaves_cover_spans : (z : Sizes) (w : World Held) (gfn low entry : ℕ) → IsSound z w → gfn < 2 ^ 36
    → LeadsTo (word_in z w area.Pool) 4 (word_in z w area.Root 0) gfn low entry → kind_of low entry ≡ entry_kind.Leaf
    → CoversSpan (word_in z w area.Pool) (word_in z w area.Root 0) low gfn entry
leaves_cover_spans z w gfn low entry sound small leads leaf =
    let end_ = from_root sound.topics.tree (let most = sound.holds.sizes.pool.1 in omega (arith, most)) gfn low entry small leads in
    let from : 1 ≤ low = (sound.topics.tree.there end_.0 _ end_.1).1 in record {
      from = from;
      to = leaf_level low entry leaf;
      leads = λ other in_run. (leads_linked z w other end_.0 low low entry sound end_.3 (end_.1 ∙ ap (λ n. Some (at low (n / 512))) (sym in_run))).above
          (leads_at (word_in z w area.Pool) low end_.0 other entry from
          (ap (λ n. word_in z w area.Pool (pool_index end_.0 (n % 512))) in_run ∙ end_.2) leaf);
    }

-- From a table that is held links lead where they lead from the root.
pub held_leaves_agree : (z : Sizes) (w : World Held) (actor gfn low entry : ℕ) → IsSound z w → actor < actors_of z
    → IsOver gfn (hand_in mmu w actor).topics.walk
    → LeadsTo (word_in z w area.Pool) (hand_in mmu w actor).topics.walk.level (table_page (hand_in mmu w actor).topics.walk) gfn low entry
    → kind_of low entry ≡ entry_kind.Leaf → LeafAgrees (word_in z w area.Slots 0) (word_in z w area.Pool) (word_in z w area.Host) low gfn entry
held_leaves_agree z w actor gfn low entry sound lt over leads leaf =
    let walk : TableWalk = (hand_in mmu w actor).topics.walk in
    let at_page : stands sound.topics.up sound.topics.spot (table_page walk) ≡ Some (at walk.level (gfn / level_span walk.level / 512)) =
    (sound.topics.held actor lt).table over.there ∙ ap (λ n. Some (at walk.level n)) (sym over.span) in
    leaves_agree z w gfn low entry sound over.small
    ((leads_linked z w gfn (table_page walk) walk.level low entry sound (walk_linked z (view z w) sound.topics actor lt over.there) at_page).above leads) leaf

-- ---- what is cached and used

pub cached_leaves_agree : (z : Sizes) (w : World Held) (actor : ℕ) → IsSound z w → actor < actors_of z → CachedAgrees z w actor
cached_leaves_agree z w actor sound lt = record {
  fits = sound.holds.cached actor lt;
  agrees = λ low may k d there gfn over. leaf_agrees z (word_in z w area.Slots 0) (word_in z w area.Role) (word_in z w area.Pool) (word_in z w area.Host)
      _ gfn _ sound.holds.set_part (sound.usable.agrees actor low may k d there gfn over);
  others = sound.usable.others actor lt;
}

-- what its access knows at the touch
knows_touch : (h : Held) (p : Place) (c : Command) (gfn word : ℕ) (op : Op) → p ≡ place.Access Touch → c ≡ Access gfn word op → KnowsPart p c h
    → KnowsPart (place.Access Touch) (Access gfn word op) h
knows_touch h p c gfn word op at is knows =
    subst (λ (d : Command). KnowsPart (place.Access Touch) d h) is (subst (λ (q : Place). KnowsPart q c h) at knows)

pub used_leaves_agree : (z : Sizes) (w : World Held) (actor gfn word : ℕ) (op : Op) → IsSound z w → actor < actors_of z
    → (hand_in mmu w actor).state.place ≡ place.Access Touch → (hand_in mmu w actor).state.line.command ≡ Access gfn word op
    → LeafAgrees (word_in z w area.Slots 0) (word_in z w area.Pool) (word_in z w area.Host) (hand_in mmu w actor).state.used.level gfn
    (hand_in mmu w actor).state.used.leaf
    × (allows_access (is_write op) (hand_in mmu w actor).state.used.leaf ≡ true) × IsAtLeafLevel (hand_in mmu w actor).state.used
    × (covers gfn (hand_in mmu w actor).state.used ≡ true)
used_leaves_agree z w actor gfn word op sound lt at is =
    let I = sound.holds in
    let h : Held = hand_in mmu w actor in
    let O = I.lines actor lt in
    let K = knows_touch h h.state.place h.state.line.command gfn word op at is (I.knows actor lt) in
    let may : IsCommandFor z h.state.actor (Access gfn word op) =
    subst (IsCommandFor z h.state.actor) is (line_allowed z actor h (place.Access Touch) O at tt) in
    let low : actor < z.vcpus = subst (λ i. i < z.vcpus) O.index (vcpu_below z h.state.actor gfn word op may) in
    let used = used_agrees z (view z w) actor gfn (is_write op) sound.usable low K.0.guest K.1 in
    let fits = used_covers (FitsMachine z) gfn (is_write op) h.cached.items h.state.used (I.cached actor lt) K.1 in (
      leaf_agrees z (word_in z w area.Slots 0) (word_in z w area.Role) (word_in z w area.Pool) (word_in z w area.Host) h.state.used.level gfn
          h.state.used.leaf I.set_part used,
      uses_allows gfn (is_write op) h K.1,
      fits.0.level,
      fits.1,
    )
