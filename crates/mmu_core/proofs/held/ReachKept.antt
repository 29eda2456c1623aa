-- To what leaves a virtual processor comes in the guest, from the table of its walk: each step of a part keeps what is said of them.
use Rattle.std.proofs.Common.{arith, inl, inr, sym, subst, ap, ℕ, ◌<◌, ◌≡◌, ◌≤◌, ◌⊎◌}
use Rattle.std.proofs.lemmas.Bool.{cases_lt}
use Rattle.std.specs.Prelude.{true, is_some}
use Rattle.core_views.specs.declared.sizes.Sizes.{Sizes}
use Rattle.core_views.specs.declared.topics.Invalidated.{Invalidated}
use Rattle.core_views.specs.declared.topics.Stay.TheVariants.{Guest}
use Rattle.core_views.specs.declared.topics.Topics.{Topics}
use Rattle.core_views.specs.Held.{Held}
use Rattle.core_views.specs.Sizes.{actors_of}
use Rattle.spte_words.specs.declared.area.Area.TheVariants as area
use Rattle.part_steps.specs.declared.part_step.PartStep.{PartStep}
use Rattle.part_steps.specs.declared.part_step.PartStep.TheVariants as part
use Rattle.part_steps.specs.PartTasks.{page_looked, part_task, table_page}
use Rattle.part_steps.specs.PartTopics.{part_topics}
use Rattle.mmu_core.specs.invariant.AllOver.{AllOver, LeafIsFor}
use Rattle.mmu_core.specs.invariant.InvalidatedPart.{IsNoLeafIn, keeps_empty, may_use}
use Rattle.mmu_core.specs.invariant.ReachPart.{InReach, ReachFlushPart, ReachPart}
use Rattle.mmu_core.specs.invariant.TopicsInvariant.{TopicsInvariant}
use Rattle.mmu_core.specs.invariant.HeldPart.{table_at}
use Rattle.mmu_core.specs.invariant.TreePart.{HangsBelow, Position, Use, is_table, stands}
use Rattle.mmu_core.specs.machine.View.{View, answer_in, part_stepped, upd}
use Rattle.mmu_core.proofs.held.FlushSteps.{Flushes, part_flushed}
use Rattle.mmu_core.proofs.held.KeptEmpty.{page_empty, slot_empty, some_empty}
use Rattle.mmu_core.proofs.held.PageRuns.{on_it}
use Rattle.mmu_core.proofs.machine.Columns.{at_upd, upd_other, upd_same}
use Rattle.mmu_core.proofs.machine.PartStepping.{IsPart}
use Rattle.mmu_core.proofs.pages.AllOver.{reaches_on}
use Rattle.mmu_core.proofs.pages.LeavesOver.{EmptiedFor, agrees_still, root_emptied}
use Rattle.mmu_core.proofs.pages.OverSteps.{over_step}
use Rattle.mmu_core.proofs.pages.Paths.{in_table, part_goes, top_span, whole_path}
use Rattle.mmu_core.proofs.pages.Standing.{spot_after, spot_of, up_after}
use Rattle.mmu_core.proofs.pages.WalksTo.{ComesTo, guest_comes, hangs_still}
use Rattle.mmu_core.proofs.pages.ZappedKept.{new_leaf, no_leaf_inherited, no_leaf_light}
use Rattle.mmu_core.proofs.words.PartTopics.{behind_step, stepped_hand}

-- What is so below a table is so below each table that hangs below it.
over_below : (up : ℕ → Use) (spot : ℕ → Position) (pool : ℕ → ℕ) (m k : ℕ) (IsSo : ℕ → ℕ → ℕ → Type 0) → HangsBelow up m k → AllOver up spot pool m IsSo
    → AllOver up spot pool k IsSo
over_below up spot pool m k IsSo H A table entry gfn R = A table entry gfn (reaches_on up m k table H R)

module _ (z : Sizes) (v : View) (a note : ℕ) (step : PartStep) (S : IsPart z v a step) (I : TopicsInvariant z v) where
  abbrev t : Topics
  t = (v.hand a).topics

  abbrev root : ℕ
  root = v.words area.Root 0

  abbrev after : Topics
  after = part_topics step t (answer_in (part_task step a t note) v.words)

  abbrev up : ℕ → Use
  up = up_after step a t v I.up

  abbrev spot : ℕ → Position
  spot = spot_after step t v I.spot

  abbrev pool : ℕ → ℕ
  pool = (part_stepped a step note v).words area.Pool

  -- The walk of an actor has come to tables, and gone through tables.
  walker_table : (k level : ℕ) → k < actors_of z → 1 ≤ (v.hand k).topics.walk.level → (v.hand k).topics.walk.level ≤ level → level ≤ 4
      → is_table (I.up (table_at level (v.hand k).topics.walk)) ≡ true
  walker_table k level lt from down most =
      (spot_of I.up I.spot (table_at level (v.hand k).topics.walk) _
      (whole_path (stands I.up I.spot) (v.hand k).topics (I.held k lt) (I.paths k lt) level from down most)).0

  -- In the guest a walk comes to what is so after the step, if it is so below the root, and below each table that the walk had come to or gone through.
  module _ (IsSo : ℕ → ℕ → ℕ → Type 0) (guest : after.stay ≡ Guest) (below_root : AllOver up spot pool root IsSo)
      (below : t.stay ≡ Guest → (level : ℕ) → 1 ≤ t.walk.level → t.walk.level ≤ level → level ≤ 4 → AllOver up spot pool (table_at level t.walk) IsSo) where
    here_reach : 1 ≤ after.walk.level → AllOver up spot pool (table_page after.walk) IsSo
    here_reach from = by comes.1
      where
        comes : (t.stay ≡ Guest) × ComesTo I.up root t.walk after.walk
        comes = guest_comes z v a note I step S guest from

        by : ComesTo I.up root t.walk after.walk → AllOver up spot pool (table_page after.walk) IsSo
        by (inl e) = subst (λ m. AllOver up spot pool m IsSo) (sym e) below_root
        by (inr D) =
            let most = (I.tree.there (table_page t.walk) _ ((I.held a S.there).table D.0)).2 in
            over_below up spot pool (table_page t.walk) (table_page after.walk) IsSo
            (hangs_still z v a step S I (table_page t.walk) (table_page after.walk) D.1)
            (below comes.0 t.walk.level D.0 (omega arith) most)

    reach_of : (level : ℕ) → 1 ≤ after.walk.level → after.walk.level ≤ level → level ≤ 4 → AllOver up spot pool (table_at level after.walk) IsSo
    reach_of level from down most = by (cases_lt after.walk.level level)
      where
        by : (after.walk.level < level) ⊎ (level ≤ after.walk.level) → AllOver up spot pool (table_at level after.walk) IsSo
        by (inl above) =
            let on = part_goes step t (answer_in (part_task step a t note) v.words)
            (in_table step (v.hand a) S.needs (top_span I.tree t (I.held a S.there) (I.paths a S.there))) level from above most in
            subst (λ m. AllOver up spot pool m IsSo) (sym on.table) (below (guest_comes z v a note I step S guest from).0 level on.from on.down most)
        by (inr not_above) =
            let same : after.walk.level ≡ level = omega (arith, down, not_above) in
            subst (λ l. AllOver up spot pool (table_at l after.walk) IsSo) same (here_reach from)

  -- What is so in reach of an actor in the guest is so after the step, if what is so below a table stays so, and is so below the root.
  module _ (IsSo : ℕ → ℕ → ℕ → Type 0) (carried : (m : ℕ) → is_table (I.up m) ≡ true → AllOver I.up I.spot (v.words area.Pool) m IsSo
      → AllOver up spot pool m IsSo) where
    pub other_reach : (k : ℕ) → k < actors_of z → InReach I.up I.spot (v.words area.Pool) (v.hand k).topics IsSo → InReach up spot pool (v.hand k).topics IsSo
    other_reach k lt reach guest level from down most =
        carried (table_at level (v.hand k).topics.walk) (walker_table k level lt from down most) (reach guest level from down most)

    pub own_reach : AllOver I.up I.spot (v.words area.Pool) root IsSo → InReach I.up I.spot (v.words area.Pool) t IsSo → InReach up spot pool after IsSo
    own_reach below_root reach guest = reach_of IsSo guest (carried root (ap is_table I.tree.top) below_root)
        (λ was level from down most. other_reach a S.there reach was level from down most)

  -- ---- It agrees.

  -- Of the frames of an invalidation that is flushed nothing is in reach.
  reach_emptied : (step : PartStep) (k level : ℕ) → IsPart z v a step → k < z.vcpus → (v.hand k).topics.stay ≡ Guest → 1 ≤ (v.hand k).topics.walk.level
      → (v.hand k).topics.walk.level ≤ level → level ≤ 4 → EmptiedFor z v a I (table_at level (v.hand k).topics.walk) step
  reach_emptied (part.Change new_) k level S low guest from down most =
      let sizes : (v.hand a).state.sizes.vcpus ≡ z.vcpus = ap (λ (y : Sizes). y.vcpus) S.sizes in
      (I.reach_flushed a k S.there low (page_empty t _ S.needs.0.opened (on_it (page_looked t.host) t.invalidations.own.pages S.needs.0.invalid))).awaits
      (omega (arith, low, sizes, S.needs.0.asked)) (omega (arith, low, sizes, S.needs.0.awaited)) (ap (may_use (v.words area.State k)) guest)
      guest level from down most
  reach_emptied part.ChangeNext k level S low guest from down most =
      let sizes : (v.hand a).state.sizes.vcpus ≡ z.vcpus = ap (λ (y : Sizes). y.vcpus) S.sizes in
      (I.reach_flushed a k S.there low (some_empty t S.needs.opened (ap is_some S.needs.is))).awaits
      (omega (arith, low, sizes, S.needs.asked)) (omega (arith, low, sizes, S.needs.awaited)) (ap (may_use (v.words area.State k)) guest)
      guest level from down most
  reach_emptied part.Publish k level S low guest from down most = λ opened asked awaited.
      (I.reach_flushed a k S.there low (slot_empty t opened S.needs.none_retired)).awaits (omega (arith, low, asked)) (omega (arith, low, awaited))
      (ap (may_use (v.words area.State k)) guest) guest level from down most
  reach_emptied _ k level S low guest from down most = tt

  -- ---- It is of no frames of a flushed invalidation.

  abbrev NoneIn : ℕ → ℕ → ℕ → ℕ → Type 0
  NoneIn i = IsNoLeafIn (v.hand i).topics.invalidations.own

  none_carried : (i : ℕ) → i < actors_of z → keeps_empty (v.hand i).topics ≡ true → (m : ℕ) → is_table (I.up m) ≡ true
      → AllOver I.up I.spot (v.words area.Pool) m (NoneIn i) → AllOver up spot pool m (NoneIn i)
  none_carried i lt opened m table A =
      over_step z v a step note S I m (NoneIn i) table (no_leaf_light (v.hand i).topics.invalidations.own)
      (no_leaf_inherited (v.hand i).topics.invalidations.own)
      (new_leaf z v a i step S I lt opened) A

  -- Who enters the guest has loaded nothing in it.
  entered_reach : (step : PartStep) (IsSo : ℕ → ℕ → ℕ → Type 0)
      → Flushes z v a note step (InReach up spot pool (part_topics step t (answer_in (part_task step a t note) v.words)) IsSo)
  entered_reach part.Enter IsSo = λ asks guest level from. absurd (omega (arith, from))
  entered_reach _ IsSo = tt

-- ---- After each step.

pub reach_kept : (z : Sizes) (v : View) (a : ℕ) (step : PartStep) (note : ℕ) → IsPart z v a step → (I : TopicsInvariant z v)
    → ReachPart z.vcpus (up_after step a (v.hand a).topics v I.up) (spot_after step (v.hand a).topics v I.spot) ((part_stepped a step note v).words area.Pool)
    ((part_stepped a step note v).words area.Host) ((part_stepped a step note v).words area.Slots 0) (λ i. ((part_stepped a step note v).hand i).topics)
reach_kept z v a step note S I =
    behind_step (λ (w : View). (k : ℕ) → IsKept k (w.hand k)) z v a step note S
    (at_upd IsKept v.hand a _ (λ low guest. own low guest) (λ k ne low guest level from down most. other k low guest level from down most))
  where
    w : View
    w = part_stepped a step note v

    IsKept : ℕ → Held → Type 0
    IsKept k h =
        k < z.vcpus → InReach (up_after step a (v.hand a).topics v I.up) (spot_after step (v.hand a).topics v I.spot) (w.words area.Pool) h.topics
        (LeafIsFor (w.words area.Pool) (w.words area.Host) (w.words area.Slots 0))

    other : (k : ℕ) → IsKept k (v.hand k)
    other k low guest level from down most =
        agrees_still z v a I (table_at level (v.hand k).topics.walk) (walker_table z v a note step S I k level (omega (arith, low)) from down most) step note S
        (reach_emptied z v a note step S I step k level S low guest from down most) (I.reach k low guest level from down most)

    own : a < z.vcpus → InReach (up_after step a (v.hand a).topics v I.up) (spot_after step (v.hand a).topics v I.spot) (w.words area.Pool)
        (part_topics step (v.hand a).topics (answer_in (part_task step a (v.hand a).topics note) v.words))
        (LeafIsFor (w.words area.Pool) (w.words area.Host) (w.words area.Slots 0))
    own low guest =
        reach_of z v a note step S I (LeafIsFor (w.words area.Pool) (w.words area.Host) (w.words area.Slots 0)) guest
        (agrees_still z v a I (v.words area.Root 0) (ap is_table I.tree.top) step note S (root_emptied z v a step S I) I.leaves)
        (λ was level from down most. other a low was level from down most)

pub reach_flushed_kept : (z : Sizes) (v : View) (a : ℕ) (step : PartStep) (note : ℕ) → IsPart z v a step → (I : TopicsInvariant z v)
    → ReachFlushPart (actors_of z) z.vcpus (up_after step a (v.hand a).topics v I.up) (spot_after step (v.hand a).topics v I.spot)
    ((part_stepped a step note v).words area.Pool) ((part_stepped a step note v).words area.State) (λ i. ((part_stepped a step note v).hand i).topics)
reach_flushed_kept z v a step note S I =
    behind_step (λ (w : View). ReachFlushPart (actors_of z) z.vcpus (up_after step a (v.hand a).topics v I.up) (spot_after step (v.hand a).topics v I.spot)
    ((part_stepped a step note v).words area.Pool) (w.words area.State) (λ i. (w.hand i).topics)) z v a step note S
    (part_flushed z v a note Was Is step behind S I (λ k reach. reach)
    (λ i lt low opened. (
      enters (v.hand i).topics.invalidations.own,
      λ asked reach. subst (λ (y : Held). Now y.topics (v.hand i).topics.invalidations.own) (sym (upd_same v.hand a behind))
          (own_reach z v a note step S I (IsNoLeafIn (v.hand i).topics.invalidations.own) (none_carried z v a note step S I i lt opened)
          (I.zapped i lt opened (omega (arith, asked))) reach),
    ))
    (λ i k lt low ne opened asked reach.
    subst (λ (y : Held). Now y.topics (v.hand i).topics.invalidations.own) (sym (upd_other v.hand a k behind ne))
    (other_reach z v a note step S I (IsNoLeafIn (v.hand i).topics.invalidations.own) (none_carried z v a note step S I i lt opened) k
    (omega (arith, low)) reach))
    I.reach_flushed)
  where
    behind : Held
    behind = stepped_hand a step note v

    Now : Topics → Invalidated → Type 0
    Now held own_ =
        InReach (up_after step a (v.hand a).topics v I.up) (spot_after step (v.hand a).topics v I.spot) ((part_stepped a step note v).words area.Pool) held
        (IsNoLeafIn own_)

    Was : Invalidated → ℕ → Type 0
    Was own_ k = InReach I.up I.spot (v.words area.Pool) (v.hand k).topics (IsNoLeafIn own_)

    Is : Invalidated → ℕ → Type 0
    Is own_ k = Now (upd v.hand a behind k).topics own_

    enters : (own_ : Invalidated) → Flushes z v a note step (Is own_ a)
    enters own_ = subst (λ (y : Held). Flushes z v a note step (Now y.topics own_)) (sym (upd_same v.hand a behind))
        (entered_reach z v a note step S I step (IsNoLeafIn own_))
