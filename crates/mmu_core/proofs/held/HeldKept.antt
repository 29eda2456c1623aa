-- Each step of a part keeps what is said of what actors hold of tables and slot sets, and of their counters.
use Rattle.std.proofs.Common.{◌≡◌, ◌^◌, ◌<◌, ◌≤◌, ℕ, refl, sym, subst, ap, ◌∙◌, arith}
use Rattle.std.specs.Prelude.{Bool, true, false, ◌==◌, Option, Some, None, is_some}
use Rattle.core_views.specs.declared.sizes.Sizes.{Sizes}
use Rattle.core_views.specs.declared.topics.Hold.TheVariants.{Exclusive}
use Rattle.core_views.specs.declared.topics.Stay.TheVariants.{Outside, Guest, Section}
use Rattle.core_views.specs.declared.topics.TableWalk.{TableWalk}
use Rattle.core_views.specs.declared.topics.Topics.{Topics}
use Rattle.core_views.specs.Held.{Held}
use Rattle.core_views.specs.Sizes.{actors_of}
use Rattle.spte_words.specs.declared.area.Area.TheVariants as area
use Rattle.spte_words.specs.declared.spte_kind.SpteKind.TheVariants.{Leaf}
use Rattle.spte_words.specs.Entries.{kind_of}
use Rattle.part_steps.specs.declared.part_step.PartStep.{PartStep}
use Rattle.part_steps.specs.declared.part_step.PartStep.TheVariants as part
use Rattle.mmu_core.specs.invariant.HeldPart.{HeldPart}
use Rattle.part_steps.specs.PartTasks.{entry_index, leaf_written, link_written, page_owned, table_page, leaf_fixed}
use Rattle.part_steps.specs.PartTopics.{exchanged}
use Rattle.mmu_core.specs.invariant.TopicsInvariant.{TopicsInvariant}
use Rattle.part_steps.specs.StayTopics.{is_loose, may_walk}
use Rattle.part_steps.specs.SweepTopics.{at_top, gone_up}
use Rattle.part_steps.specs.WalkTopics.{linked_page}
use Rattle.part_steps.specs.ControlBits.{has_writer}
use Rattle.mmu_core.specs.invariant.TreePart.{Position, at, stands}
use Rattle.mmu_core.specs.invariant.TreePart.Use.{Under}
use Rattle.mmu_core.specs.machine.View.{View, part_stepped, upd}
use Rattle.mmu_core.proofs.machine.Columns.{at_upd, upd_same}
use Rattle.mmu_core.proofs.machine.PartStepping.{IsPart}
use Rattle.mmu_core.proofs.words.PartTopics.{behind_step, part_behind}
use Rattle.mmu_core.proofs.pages.PoolPages.{owned_there}
use Rattle.mmu_core.proofs.pages.Standing.{at_spot, entry_now, position_below, spot_after, up_after, upd_if}
use Rattle.mmu_core.proofs.pages.TreePlaces.{root_stands}
use Rattle.mmu_core.proofs.pages.UsesStay.{stays_standing}
use Rattle.mmu_core.proofs.pages.Owned.{table_owned}
use Rattle.mmu_core.proofs.pages.Paths.{top_stands, up_stands}
use Rattle.mmu_core.proofs.pages.NewLeaves.{fixed_is_leaf, leaf_is}
use Rattle.mmu_core.proofs.held.LeadsDown.{LeadsDown, entry_leads_down, link_leads_down}
use Rattle.mmu_core.proofs.held.HeldTopics.{never_or, begun_held, shared_held, excluded_held, let_go_held, root_held, slots_held, slot_held, snapshot_held}
use Rattle.mmu_core.proofs.held.HeldTopics.{same_held, held_stays, gone_held}

-- what is said of what each hand holds, and of its counters, of a view
abbrev pub HeldAt : Sizes → (ℕ → Option Position) → View → Type 0
HeldAt z stands v = (i : ℕ) → i < actors_of z → HeldPart stands (v.hand i).topics

-- ---- Each step.

-- where the tables stand after the step
abbrev stands_after : (z : Sizes) (v : View) → ℕ → PartStep → TopicsInvariant z v → ℕ → Option Position
stands_after z v a step I = stands (up_after step a (v.hand a).topics v I.up) (spot_after step (v.hand a).topics v I.spot)

abbrev HeldBehind : Sizes → View → ℕ → ℕ → PartStep → Type 0
HeldBehind z v a note step = IsPart z v a step → (I : TopicsInvariant z v) → HeldAt z (stands_after z v a step I) (part_behind a step note v)

-- what all hands hold, where the actor's holds so
all_held : (z : Sizes) (v : View) (a : ℕ) (step : PartStep) (h : Held) → IsPart z v a step → (I : TopicsInvariant z v)
    → HeldPart (stands_after z v a step I) h.topics → HeldAt z (stands_after z v a step I) (record { words = v.words; hand = upd v.hand a h })
all_held z v a step h S I here =
    at_upd (λ i (k : Held). i < actors_of z → HeldPart (stands_after z v a step I) k.topics) v.hand a h (λ lt. here)
    (λ i ne lt. held_stays (stands I.up I.spot) (stands_after z v a step I) (v.hand i).topics (stays_standing z v a step S I) (I.held i lt))

-- where it holds so with the tables where they stood
still_held : (z : Sizes) (v : View) (a : ℕ) (step : PartStep) (h : Held) → IsPart z v a step → (I : TopicsInvariant z v)
    → HeldPart (stands I.up I.spot) h.topics → HeldAt z (stands_after z v a step I) (record { words = v.words; hand = upd v.hand a h })
still_held z v a step h S I here =
    all_held z v a step h S I (held_stays (stands I.up I.spot) (stands_after z v a step I) h.topics (stays_standing z v a step S I) here)

-- The walk's table is at level 4 at most.
walk_level : (z : Sizes) (v : View) (a : ℕ) → a < actors_of z → TopicsInvariant z v → 1 ≤ (v.hand a).topics.walk.level → (v.hand a).topics.walk.level ≤ 4
walk_level z v a lt I from = (I.tree.there _ _ ((I.held a lt).table from)).2

walk_held : (z : Sizes) (v : View) (a note gfn : ℕ) → HeldBehind z v a note (part.Walk gfn)
walk_held z v a note gfn S I =
    let t : Topics = (v.hand a).topics in
    let from = S.needs.0.there in
    let j : ℕ = entry_index gfn t.walk.level in
    let H = I.held a S.there in
    still_held z v a (part.Walk gfn) _ S I (gone_held (stands I.up I.spot) t _ j _ _ refl refl refl refl (walk_level z v a S.there I from)
    (entry_leads_down I.tree (table_page t.walk) (at t.walk.level t.walk.prefix) j _ (omega (arith, S.is_sizes.pool.1)) (H.table from)
    (I.tree.entries (table_page t.walk) _ (H.table from) j (omega arith))) H)

-- The walk goes up to a table that it has gone through, and on from there.
sweep_held : (z : Sizes) (v : View) (a note gfn : ℕ) → HeldBehind z v a note (part.Sweep gfn)
sweep_held z v a note gfn S I =
    let t : Topics = (v.hand a).topics in
    let up : TableWalk = gone_up t.walk in
    let j : ℕ = entry_index gfn up.level in
    let H = I.held a S.there in
    let at_up = up_stands (stands I.up I.spot) t H (I.paths a S.there) S.needs.there (walk_level z v a S.there I S.needs.there) in
    let alone : may_walk t.stay t.hold ≡ may_walk t.stay Exclusive = ap (may_walk t.stay) S.needs.alone in
    still_held z v a (part.Sweep gfn) _ S I (gone_held (stands I.up I.spot) (record t { walk = up }) _ j _ _ refl refl refl refl (I.tree.there _ _ at_up).2
    (entry_leads_down I.tree (table_page up) (at up.level up.prefix) j _ (omega (arith, S.is_sizes.pool.1)) at_up
    (I.tree.entries (table_page up) _ at_up j (omega arith)))
    (record { table = λ from. at_up; no_table = λ f. absurd (never_or _ (sym alone ∙ f)); no_set = H.no_set }))

-- The walk begins anew at its root.
anew_held : (z : Sizes) (v : View) (a note gfn : ℕ) → HeldBehind z v a note (part.WalkAnew gfn)
anew_held z v a note gfn S I =
    let t : Topics = (v.hand a).topics in
    let top : TableWalk = at_top t.walk in
    let j : ℕ = entry_index gfn 4 in
    let H = I.held a S.there in
    let at_root = top_stands I.tree t H (I.paths a S.there) S.needs.there in
    let alone : may_walk t.stay t.hold ≡ may_walk t.stay Exclusive = ap (may_walk t.stay) S.needs.alone in
    still_held z v a (part.WalkAnew gfn) _ S I (gone_held (stands I.up I.spot) (record t { walk = top }) _ j _ _ refl refl refl refl (omega arith)
    (entry_leads_down I.tree t.walk.root (at 4 0) j _ (omega (arith, S.is_sizes.pool.1)) at_root (I.tree.entries t.walk.root _ at_root j (omega arith)))
    (record { table = λ from. at_root; no_table = λ f. absurd (never_or _ (sym alone ∙ f)); no_set = H.no_set }))

-- an exchange, won or lost
exchanged_held : (stands : ℕ → Option Position) (t : Topics) (won : Bool) (j new_ v : ℕ) → t.walk.level ≤ 4 → (won ≡ true → LeadsDown stands
    (at t.walk.level t.walk.prefix) j (linked_page (kind_of t.walk.level new_))) → HeldPart stands t → HeldPart stands (exchanged won j new_ t v)
exchanged_held stands t true j new_ v to leads H = gone_held stands t _ j new_ (linked_page (kind_of t.walk.level new_)) refl refl refl refl to (leads refl) H
exchanged_held stands t false j new_ v to leads H = gone_held stands t _ j v None refl refl refl refl to tt H

link_held : (z : Sizes) (v : View) (a note gfn : ℕ) → HeldBehind z v a note (part.Link gfn)
link_held z v a note gfn S I =
    all_held z v a (part.Link gfn) _ S I
    (exchanged_held after t won (entry_index gfn t.walk.level) (link_written t) _ (walk_level z v a S.there I S.needs.0.saw.over.there)
    (λ is. link_leads_down after (at t.walk.level t.walk.prefix) (entry_index gfn t.walk.level) page S.needs.0.upper small (added won is))
    (held_stays (stands I.up I.spot) after t (stays_standing z v a (part.Link gfn) S I) (I.held a S.there)))
  where
    t : Topics
    t = (v.hand a).topics

    won : Bool
    won = entry_now gfn t v == t.walk.entry

    page : ℕ
    page = page_owned t.owned

    after : ℕ → Option Position
    after = stands_after z v a (part.Link gfn) I

    small : page < 2 ^ 32
    small =
        let O = table_owned t S.needs.1 in omega (arith, ap page_owned O.is, owned_there I.uses a O.owned S.there O.is, S.is_sizes.pool.1)

    -- the page that was linked stands where it was linked
    added : (b : Bool) → b ≡ true → stands (upd_if b I.up page (Under (table_page t.walk) (entry_index gfn t.walk.level)))
        (upd_if b I.spot page (position_below gfn t)) page ≡ Some (position_below gfn t)
    added false is = absurd (cc is)
    added true is =
        at_spot (upd I.up page (Under (table_page t.walk) (entry_index gfn t.walk.level))) (upd I.spot page (position_below gfn t)) page
        (Under (table_page t.walk) (entry_index gfn t.walk.level)) (upd_same I.up page (Under (table_page t.walk) (entry_index gfn t.walk.level))) refl
        ∙ ap Some (upd_same I.spot page (position_below gfn t))

-- A leaf is put, or writes are allowed in one.
put_held : (z : Sizes) (v : View) (a gfn new_ : ℕ) → a < actors_of z → (I : TopicsInvariant z v) → 1 ≤ (v.hand a).topics.walk.level
    → kind_of (v.hand a).topics.walk.level new_ ≡ Leaf
    → HeldPart (stands I.up I.spot) (exchanged (entry_now gfn (v.hand a).topics v == (v.hand a).topics.walk.entry)
    (entry_index gfn (v.hand a).topics.walk.level) new_ (v.hand a).topics (entry_now gfn (v.hand a).topics v))
put_held z v a gfn new_ lt I there leaf =
    let t : Topics = (v.hand a).topics in
    exchanged_held (stands I.up I.spot) t (entry_now gfn t v == t.walk.entry) (entry_index gfn t.walk.level) new_ _ (walk_level z v a lt I there)
    (λ is. subst (LeadsDown (stands I.up I.spot) (at t.walk.level t.walk.prefix) (entry_index gfn t.walk.level)) (sym (ap linked_page leaf)) tt) (I.held a lt)

held_behind : (z : Sizes) (v : View) (a note : ℕ) (step : PartStep) → HeldBehind z v a note step
held_behind z v a note part.Enter = λ S I. still_held z v a part.Enter _ S I (begun_held (stands I.up I.spot) Guest (v.hand a).topics)
held_behind z v a note part.Leave = λ S I. still_held z v a part.Leave _ S I (begun_held (stands I.up I.spot) Outside (v.hand a).topics)
held_behind z v a note part.Begin = λ S I. still_held z v a part.Begin _ S I (begun_held (stands I.up I.spot) Section (v.hand a).topics)
held_behind z v a note part.End = λ S I. still_held z v a part.End _ S I (begun_held (stands I.up I.spot) Outside (v.hand a).topics)
held_behind z v a note part.Share = λ S I. still_held z v a part.Share _ S I
    (shared_held (stands I.up I.spot) (v.hand a).topics (has_writer (v.words area.Lock 0)) (v.words area.Lock 0) S.needs (I.held a S.there))
held_behind z v a note part.Unshare =
    λ S I. still_held z v a part.Unshare _ S I (let_go_held (stands I.up I.spot) (v.hand a).topics (v.hand a).topics.stay (I.held a S.there))
held_behind z v a note part.Exclude =
    λ S I. still_held z v a part.Exclude _ S I (excluded_held (stands I.up I.spot) (v.hand a).topics (v.words area.Lock 0 == 0) _ (I.held a S.there))
held_behind z v a note part.Release =
    λ S I. still_held z v a part.Release _ S I (let_go_held (stands I.up I.spot) (v.hand a).topics (v.hand a).topics.stay (I.held a S.there))
held_behind z v a note part.Slots =
    λ S I. still_held z v a part.Slots _ S I (slots_held (v.words area.Slots 0) (stands I.up I.spot) (v.hand a).topics _ (I.held a S.there))
held_behind z v a note part.Slot =
    λ S I. still_held z v a part.Slot _ S I (slot_held (stands I.up I.spot) (v.hand a).topics (is_some (v.hand a).topics.search.set) _ _ (I.held a S.there))
held_behind z v a note part.Seq = λ S I. still_held z v a part.Seq _ S I
    (snapshot_held (stands I.up I.spot) (v.hand a).topics _ (is_loose (v.hand a).topics.hold) refl refl refl refl (I.held a S.there))
held_behind z v a note part.Publish =
    λ S I. still_held z v a part.Publish _ S I (snapshot_held (stands I.up I.spot) (v.hand a).topics _ true refl refl refl refl (I.held a S.there))
held_behind z v a note part.Root =
    λ S I. still_held z v a part.Root _ S I (root_held (v.words area.Root 0) (stands I.up I.spot) (v.hand a).topics (root_stands I.tree) (I.held a S.there))
held_behind z v a note (part.Walk gfn) = walk_held z v a note gfn
held_behind z v a note (part.Sweep gfn) = sweep_held z v a note gfn
held_behind z v a note (part.WalkAnew gfn) = anew_held z v a note gfn
held_behind z v a note (part.Link gfn) = link_held z v a note gfn
held_behind z v a note (part.Leaf gfn write) = λ S I.
    still_held z v a (part.Leaf gfn write) _ S I (put_held z v a gfn (leaf_written gfn write (v.hand a).topics) S.there I S.needs.0.saw.over.there
    (leaf_is gfn write (v.hand a).topics S.needs.0.saw.over.there S.needs.1.most))
held_behind z v a note (part.Fix gfn) = λ S I.
    still_held z v a (part.Fix gfn) _ S I (put_held z v a gfn (leaf_fixed (v.hand a).topics) S.there I S.needs.saw.over.there
    (fixed_is_leaf (v.hand a).topics S.needs))
held_behind z v a note (part.Zap gfn) = λ S I.
    still_held z v a (part.Zap gfn) _ S I (gone_held (stands I.up I.spot) (v.hand a).topics _ _ 0 None refl refl refl refl
    (walk_level z v a S.there I S.needs.saw.over.there) tt (I.held a S.there))
held_behind z v a note (part.Protect gfn) = λ S I.
    still_held z v a (part.Protect gfn) _ S I (gone_held (stands I.up I.spot) (v.hand a).topics _ _ _ None refl refl refl refl
    (walk_level z v a S.there I S.needs.saw.over.there) tt (I.held a S.there))
held_behind z v a note step = λ S I. still_held z v a step _ S I (same_held (stands I.up I.spot) (v.hand a).topics _ refl refl refl refl (I.held a S.there))

pub held_kept : (z : Sizes) (v : View) (a : ℕ) (step : PartStep) (note : ℕ) → IsPart z v a step → (I : TopicsInvariant z v)
    → HeldAt z (stands_after z v a step I) (part_stepped a step note v)
held_kept z v a step note S I = behind_step (HeldAt z (stands_after z v a step I)) z v a step note S (held_behind z v a note step S I)
