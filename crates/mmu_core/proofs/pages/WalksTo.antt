-- Where a step of a part leaves a walk: at the root, or at a table to which links lead from one that it had come to or gone through.
use Rattle.std.proofs.Common.{arith, inl, inr, refl, suc, sym, subst, ap, zero, ℕ, ◌+◌, ◌-◌, ◌*◌, ◌<◌, ◌∙◌, ◌≡◌, ◌≤◌, ◌^◌, ◌⊎◌}
use Rattle.std.specs.Prelude.{Bool, true, false, not, Option, Some, None}
use Rattle.core_views.specs.declared.sizes.Sizes.{Sizes}
use Rattle.core_views.specs.declared.topics.Hold.{Hold}
use Rattle.core_views.specs.declared.topics.Hold.TheVariants.{Exclusive}
use Rattle.core_views.specs.declared.topics.Stay.{Stay}
use Rattle.core_views.specs.declared.topics.Stay.TheVariants.{Guest, Outside}
use Rattle.core_views.specs.declared.topics.TableWalk.{TableWalk}
use Rattle.core_views.specs.declared.topics.Topics.{Topics}
use Rattle.core_views.specs.Sizes.{actors_of}
use Rattle.spte_words.specs.declared.area.Area.TheVariants as area
use Rattle.spte_words.specs.Areas.{pool_index}
use Rattle.spte_words.specs.Entries.{kind_of}
use Rattle.spte_words.proofs.ReadsEntries.{kind_of_absent, kind_of_table}
use Rattle.part_steps.specs.declared.part_step.PartStep.{PartStep}
use Rattle.part_steps.specs.declared.part_step.PartStep.TheVariants as part
use Rattle.part_steps.specs.ControlBits.{has_writer}
use Rattle.part_steps.specs.ControlTopics.{at_root}
use Rattle.part_steps.specs.PartTasks.{entry_index, part_task, table_page}
use Rattle.part_steps.specs.PartTopics.{part_topics}
use Rattle.part_steps.specs.StayTopics.{is_outside, kept_walk, may_walk}
use Rattle.part_steps.specs.SweepTopics.{at_top, gone_up}
use Rattle.part_steps.specs.WalkTopics.{gone_down, linked_page, walked}
use Rattle.mmu_core.specs.invariant.HeldPart.{table_at}
use Rattle.mmu_core.specs.invariant.TopicsInvariant.{TopicsInvariant}
use Rattle.mmu_core.specs.invariant.TreePart.{Below, EntryPart, HangsBelow, Position, TreePart, Use, at, is_table, stands}
use Rattle.mmu_core.specs.invariant.TreePart.Use.{Under}
use Rattle.mmu_core.specs.machine.View.{View, answer_in}
use Rattle.mmu_core.proofs.held.HeldTopics.{page_below}
use Rattle.mmu_core.proofs.machine.PartStepping.{IsPart}
use Rattle.mmu_core.proofs.pages.AllOver.{hangs_by, through_of}
use Rattle.mmu_core.proofs.pages.Paths.{top_stands, up_goes, up_level, up_stands}
use Rattle.mmu_core.proofs.pages.Standing.{up_after}
use Rattle.mmu_core.proofs.pages.SweptKept.{shared_never}
use Rattle.mmu_core.proofs.pages.TreePlaces.{link_stands}
use Rattle.mmu_core.proofs.pages.UsesStay.{tables_stay}

-- ---- What hangs below a table hangs below it after the step.

below_stays : (up more : ℕ → Use) → ((k : ℕ) → is_table (up k) ≡ true → more k ≡ up k) → (m links l : ℕ) → Below up m links l → Below more m links l
below_stays up more same m zero l e = e
below_stays up more same m (suc links) l hangs =
    let T = through_of (up l) (Below up m links) hangs in
    hangs_by more m l T.0 T.1 links (same l (ap is_table T.2) ∙ T.2) (below_stays up more same m links T.0 T.3)

pub hangs_still : (z : Sizes) (v : View) (a : ℕ) (step : PartStep) → IsPart z v a step → (I : TopicsInvariant z v) → (m l : ℕ) → HangsBelow I.up m l
    → HangsBelow (up_after step a (v.hand a).topics v I.up) m l
hangs_still z v a step S I m l R =
    (R.0, below_stays I.up (up_after step a (v.hand a).topics v I.up) (tables_stay z v a step S I).use_ m R.0 l R.1)

-- ---- A walk goes down where it has loaded a link.

-- What an entry links to, if it is a link, is under this entry.
abbrev LinksDown : (ℕ → Use) → ℕ → Position → ℕ → Option ℕ → Type 0
LinksDown up k p j None = Unit {0}
LinksDown up k p j (Some page) = (2 ≤ p.level) × (up page ≡ Under k j)

entry_links_down : {pages root : ℕ} {role pool : ℕ → ℕ} {up : ℕ → Use} {spot : ℕ → Position} (T : TreePart pages root role pool up spot) (k : ℕ)
    (p : Position) (j w : ℕ) → pages ≤ 2 ^ 32 → stands up spot k ≡ Some p → EntryPart up k p j w → LinksDown up k p j (linked_page (kind_of p.level w))
entry_links_down {up = up} T k p j w small at_k (inl absent) =
    subst (LinksDown up k p j) (sym (ap (λ x. linked_page (kind_of p.level x)) absent ∙ ap linked_page (kind_of_absent p.level))) tt
entry_links_down {up = up} T k p j w small at_k (inr (inl link)) =
    let there = T.there link.page (at (p.level - 1) (p.prefix * 512 + j)) (link_stands T k p j w at_k link) in
    subst (λ x. LinksDown up k p j (linked_page (kind_of p.level x))) (sym link.is)
    (subst (LinksDown up k p j) (sym (ap linked_page (kind_of_table p.level link.page link.upper (omega (arith, small, there.0))))) (link.upper, link.below))
entry_links_down {up = up} T k p j w small at_k (inr (inr leaf)) = subst (LinksDown up k p j) (sym (ap linked_page leaf)) tt

down_hangs : (up : ℕ → Use) (o : Option ℕ) (walk : TableWalk) (p : Position) (j v : ℕ) → p.level ≡ walk.level → walk.level ≤ 4
    → LinksDown up (table_page walk) p j o → HangsBelow up (table_page walk) (table_page (gone_down o walk j v))
down_hangs up None walk p j v same most leads = (0, refl)
down_hangs up (Some page) walk p j v same most leads =
    let upper = leads.0 in
    subst (HangsBelow up (table_page walk)) (sym (page_below walk.level walk.root walk.third walk.second walk.first page (omega (arith, upper, same)) most))
    (1, hangs_by up (table_page walk) page (table_page walk) j 0 leads.1 refl)

-- where the walk's table stands, and which entry of it was loaded
walk_down : (z : Sizes) (v : View) (I : TopicsInvariant z v) (walk : TableWalk) (j : ℕ) → z.pool ≤ 2 ^ 32 → j < 512
    → stands I.up I.spot (table_page walk) ≡ Some (at walk.level walk.prefix)
    → HangsBelow I.up (table_page walk) (table_page (walked walk j (v.words area.Pool (pool_index (table_page walk) j))))
walk_down z v I walk j small low at_walk =
    let w : ℕ = v.words area.Pool (pool_index (table_page walk) j) in
    let there = I.tree.there (table_page walk) (at walk.level walk.prefix) at_walk in
    down_hangs I.up (linked_page (kind_of walk.level w)) walk (at walk.level walk.prefix) j w refl there.2
    (entry_links_down I.tree (table_page walk) (at walk.level walk.prefix) j w small at_walk
    (I.tree.entries (table_page walk) (at walk.level walk.prefix) at_walk j low))

-- ---- In the guest.

-- The walk is at the root now; or at a table that hangs below the one to which it had come, or at this one.
abbrev pub ComesTo : (ℕ → Use) → ℕ → TableWalk → TableWalk → Type 0
ComesTo up root before after = (table_page after ≡ root) ⊎ ((1 ≤ before.level) × HangsBelow up (table_page before) (table_page after))

kept_comes : (up : ℕ → Use) (root : ℕ) (b : Bool) (walk : TableWalk) → 1 ≤ (kept_walk b walk).level → ComesTo up root walk (kept_walk b walk)
kept_comes up root true walk from = inr (from, (0, refl))
kept_comes up root false walk from = absurd (omega (arith, from))

rooted_comes : (up : ℕ → Use) (b : Bool) (walk : TableWalk) (root : ℕ) → 1 ≤ (at_root b walk root).level → ComesTo up root walk (at_root b walk root)
rooted_comes up true walk root from = inl refl
rooted_comes up false walk root from = absurd (omega (arith, from))

guest_or_out : {X : Type 0} (stay : Stay) → stay ≡ Outside → stay ≡ Guest → X
guest_or_out stay out guest = absurd (cc (out, guest))

module _ (z : Sizes) (v : View) (a note : ℕ) (I : TopicsInvariant z v) where
  abbrev t : Topics
  t = (v.hand a).topics

  abbrev root : ℕ
  root = v.words area.Root 0

  abbrev after : PartStep → Topics
  after step = part_topics step t (answer_in (part_task step a t note) v.words)

  pub guest_comes : (step : PartStep) → IsPart z v a step → (after step).stay ≡ Guest → 1 ≤ (after step).walk.level
      → (t.stay ≡ Guest) × ComesTo I.up root t.walk (after step).walk
  guest_comes part.Enter S guest from = absurd (omega (arith, from))
  guest_comes part.Leave S guest from = absurd (omega (arith, from))
  guest_comes part.Begin S guest from = absurd (omega (arith, from))
  guest_comes part.End S guest from = absurd (omega (arith, from))
  guest_comes part.Unshare S guest from = (guest, kept_comes I.up root (not (is_outside t.stay)) t.walk from)
  guest_comes part.Release S guest from = (guest, kept_comes I.up root (not (is_outside t.stay)) t.walk from)
  guest_comes part.Root S guest from = (guest, rooted_comes I.up (may_walk t.stay t.hold) t.walk root from)
  guest_comes (part.Walk gfn) S guest from = (
    guest,
    inr (
      S.needs.0.there,
      walk_down z v I t.walk (entry_index gfn t.walk.level) (let most = S.is_sizes.pool.1 in omega (arith, most)) (omega arith)
          ((I.held a S.there).table S.needs.0.there),
    ),
  )
  guest_comes (part.Sweep gfn) S guest from = guest_or_out t.stay S.needs.outside guest
  guest_comes (part.WalkAnew gfn) S guest from = guest_or_out t.stay S.needs.outside guest
  guest_comes (part.Link gfn) S guest from = absurd (let section = S.needs.0.section in cc (section, guest))
  guest_comes (part.Leaf gfn write) S guest from = absurd (let section = S.needs.0.section in cc (section, guest))
  guest_comes (part.Fix gfn) S guest from = absurd (let section = S.needs.section in cc (section, guest))
  guest_comes (part.Zap gfn) S guest from = guest_or_out t.stay S.needs.outside guest
  guest_comes (part.Protect gfn) S guest from = guest_or_out t.stay S.needs.outside guest
  guest_comes _ S guest from = (guest, inr (from, (0, refl)))

  -- ---- Under the lock alone, outside of every section.

  -- The actor was there before, if it walks there.
  pub alone_before : (step : PartStep) → IsPart z v a step → (after step).hold ≡ Exclusive → (after step).stay ≡ Outside → 1 ≤ (after step).walk.level
      → (t.hold ≡ Exclusive) × (t.stay ≡ Outside)
  alone_before part.Enter S alone out from = absurd (omega (arith, from))
  alone_before part.Leave S alone out from = absurd (omega (arith, from))
  alone_before part.Begin S alone out from = absurd (omega (arith, from))
  alone_before part.End S alone out from = absurd (omega (arith, from))
  alone_before part.Share S alone out from = absurd (shared_never (has_writer (v.words area.Lock 0)) (v.words area.Lock 0) alone)
  alone_before part.Unshare S alone out from = absurd (cc alone)
  alone_before part.Release S alone out from = absurd (cc alone)
  alone_before part.Exclude S alone out from =
      let none : t.walk.level ≡ 0 = (I.held a S.there).no_table (ap (λ (s : Stay). may_walk s t.hold) out ∙ ap (λ (h : Hold). may_walk Outside h) S.needs) in
      absurd (omega (arith, none, from))
  alone_before _ S alone out from = (alone, out)

  -- The walk is at the root now; or at a table that hangs below one that it had come to or gone through.
  abbrev pub ComesFrom : TableWalk → Type 0
  ComesFrom walk =
      (table_page walk ≡ root)
      ⊎ ((level : ℕ) × (1 ≤ t.walk.level) × (t.walk.level ≤ level) × (level ≤ 4) × HangsBelow I.up (table_at level t.walk) (table_page walk))

  comes_on : a < actors_of z → (walk : TableWalk) → 1 ≤ t.walk.level → HangsBelow I.up (table_page t.walk) (table_page walk) → ComesFrom walk
  comes_on lt walk from hangs =
      inr (t.walk.level, from, omega arith, (I.tree.there (table_page t.walk) _ ((I.held a lt).table from)).2, hangs)

  rooted_from : (b : Bool) → 1 ≤ (at_root b t.walk root).level → ComesFrom (at_root b t.walk root)
  rooted_from true from = inl refl
  rooted_from false from = absurd (omega (arith, from))

  pub alone_comes : (step : PartStep) → IsPart z v a step → t.hold ≡ Exclusive → t.stay ≡ Outside → 1 ≤ (after step).walk.level
      → ComesFrom (after step).walk
  alone_comes part.Enter S alone out from = absurd (omega (arith, from))
  alone_comes part.Leave S alone out from = absurd (omega (arith, from))
  alone_comes part.Begin S alone out from = absurd (omega (arith, from))
  alone_comes part.End S alone out from = absurd (omega (arith, from))
  alone_comes part.Unshare S alone out from =
      let none = ap (λ (s : Stay). (kept_walk (not (is_outside s)) t.walk).level) out in absurd (omega (arith, none, from))
  alone_comes part.Release S alone out from =
      let none = ap (λ (s : Stay). (kept_walk (not (is_outside s)) t.walk).level) out in absurd (omega (arith, none, from))
  alone_comes part.Root S alone out from = rooted_from (may_walk t.stay t.hold) from
  alone_comes (part.Walk gfn) S alone out from =
      comes_on S.there (after (part.Walk gfn)).walk S.needs.0.there
      (walk_down z v I t.walk (entry_index gfn t.walk.level) (let most = S.is_sizes.pool.1 in omega (arith, most))
      (omega arith) ((I.held a S.there).table S.needs.0.there))
  alone_comes (part.Sweep gfn) S alone out from =
      let up : TableWalk = gone_up t.walk in
      let H = I.held a S.there in
      let most = (I.tree.there (table_page t.walk) _ (H.table S.needs.there)).2 in
      let on = up_goes t.walk up.level S.needs.there (omega arith) (up_level t.walk most) in
      inr (
        up.level,
        S.needs.there,
        on.down,
        up_level t.walk most,
        subst (λ k. HangsBelow I.up k (table_page (after (part.Sweep gfn)).walk)) on.table
            (walk_down z v I up (entry_index gfn up.level) (let pool = S.is_sizes.pool.1 in omega (arith, pool)) (omega arith)
            (up_stands (stands I.up I.spot) t H (I.paths a S.there) S.needs.there most)),
      )
  alone_comes (part.WalkAnew gfn) S alone out from =
      let H = I.held a S.there in
      let most = (I.tree.there (table_page t.walk) _ (H.table S.needs.there)).2 in
      inr (
        4,
        S.needs.there,
        most,
        omega arith,
        walk_down z v I (at_top t.walk) (entry_index gfn 4) (let pool = S.is_sizes.pool.1 in omega (arith, pool))
            (omega arith) (top_stands I.tree t H (I.paths a S.there) S.needs.there),
      )
  alone_comes (part.Link gfn) S alone out from = absurd (let section = S.needs.0.section in cc (section, out))
  alone_comes (part.Leaf gfn write) S alone out from = absurd (let section = S.needs.0.section in cc (section, out))
  alone_comes (part.Fix gfn) S alone out from = absurd (let section = S.needs.section in cc (section, out))
  alone_comes (part.Zap gfn) S alone out from = comes_on S.there (after (part.Zap gfn)).walk S.needs.saw.over.there (0, refl)
  alone_comes (part.Protect gfn) S alone out from = comes_on S.there (after (part.Protect gfn)).walk S.needs.saw.over.there (0, refl)
  alone_comes step S alone out from = comes_on S.there t.walk from (0, refl)
