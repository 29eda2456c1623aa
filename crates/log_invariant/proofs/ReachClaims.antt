-- What is said of the guest frames of leaves that allow writes and are in reach of a virtual processor in the guest, in each account of the tables, is so after
-- each step, if it is so of the leaf that it puts, and of those below the root.
use Rattle.std.proofs.Common.{arith, ap, refl, subst, sym, ℕ, ◌<◌, ◌≡◌, ◌≢◌, ◌≤◌, ◌∙◌}
use Rattle.std.specs.Prelude.{None, Option, Some, true}
use Rattle.core_views.specs.declared.sizes.Sizes.{Sizes}
use Rattle.core_views.specs.declared.topics.Stay.TheVariants.{Guest}
use Rattle.core_views.specs.declared.topics.Topics.{Topics}
use Rattle.core_views.specs.declared.trace.Op.TheVariants.{Read}
use Rattle.core_views.specs.declared.trace.Op.{Op}
use Rattle.core_views.specs.Held.{Held}
use Rattle.core_views.specs.Sizes.{actors_of}
use Rattle.spte_words.specs.declared.area.Area.{Area}
use Rattle.spte_words.specs.declared.area.Area.TheVariants as area
use Rattle.part_steps.specs.declared.part_step.PartStep.TheVariants as part
use Rattle.part_steps.specs.declared.part_step.PartStep.{PartStep}
use Rattle.part_steps.specs.declared.task.Task.{Task}
use Rattle.part_steps.specs.PartTasks.{own_index, part_task}
use Rattle.part_steps.specs.PartTopics.{part_topics}
use Rattle.part_steps.specs.Tasks.{kind_of_task}
use Rattle.part_steps.specs.TopicSteps.{topics_after}
use Rattle.mmu_core.specs.forms.access.AccessSteps.{touch_of}
use Rattle.mmu_core.specs.invariant.AllOver.{AllOver}
use Rattle.mmu_core.specs.invariant.HeldPart.{HeldPart, PathPart, table_at}
use Rattle.mmu_core.specs.invariant.ReachPart.{InReach}
use Rattle.mmu_core.specs.invariant.TopicsInvariant.{TopicsInvariant}
use Rattle.mmu_core.specs.invariant.TreePart.{Position, TreePart, Use, is_table, stands}
use Rattle.mmu_core.specs.machine.View.{View, answer_in, part_stepped, upd, words_after}
use Rattle.mmu_core.proofs.held.HeldKept.{held_kept}
use Rattle.mmu_core.proofs.held.ReachKept.{other_reach, own_reach}
use Rattle.mmu_core.proofs.held.UsableSteps.{asks_of, other_asks}
use Rattle.mmu_core.proofs.lines.KnowsKept.{touch_topics}
use Rattle.mmu_core.proofs.machine.Columns.{at_upd}
use Rattle.mmu_core.proofs.machine.PartStepping.{IsPart}
use Rattle.mmu_core.proofs.machine.SumsBelow.{column_upd, upd_id}
use Rattle.mmu_core.proofs.pages.AllOver.{over_weaker}
use Rattle.mmu_core.proofs.pages.Paths.{paths_kept}
use Rattle.mmu_core.proofs.pages.Standing.{spot_after, up_after}
use Rattle.mmu_core.proofs.pages.TreeKept.{tree_kept}
use Rattle.mmu_core.proofs.pages.WalksTo.{guest_comes}
use Rattle.mmu_core.proofs.words.PartTopics.{behind_step, stepped_hand}
use Rattle.log_invariant.proofs.Accounts.{reach_accounts}
use Rattle.log_invariant.proofs.CachesCarried.{AsksStill}
use Rattle.log_invariant.proofs.LeafClaims.{GivenAndGuarded, OfNewWrites, given_step}
use Rattle.log_invariant.proofs.StepPlaces.{Makes, StepAt, Touches}
use Rattle.log_invariant.specs.LogInvariant.{LeafIsGuarded}

-- It is said of each leaf that allows writes and is in reach of a virtual processor, of these words, where actors hold this.
abbrev pub ReachIs : Sizes → (Area → ℕ → ℕ) → (ℕ → Topics) → (ℕ → ℕ → Type 0) → Type 0
ReachIs z words topics IsSo =
    (up : ℕ → Use) (spot : ℕ → Position) → TreePart z.pool (words area.Root 0) (words area.Role) (words area.Pool) up spot → (k : ℕ) → k < z.vcpus
    → HeldPart (stands up spot) (topics k) → PathPart (stands up spot) (topics k).walk
    → InReach up spot (words area.Pool) (topics k) (LeafIsGuarded (IsSo k))

-- Actor k was in the guest before a step that leaves these state words, and is asked for a flush still, if it was.
abbrev pub WasThere : View → (ℕ → ℕ) → ℕ → Type 0
WasThere v states k = ((v.hand k).topics.stay ≡ Guest) × AsksStill (v.words area.State k) (states k)

-- What is to be so after a step of actor a, of such a virtual processor: it is so of the leaf that the step puts, and was so of those in reach; and of those
-- below the root, to which actor a may come with its step.
pub record GoesOnInReach (z : Sizes) (v : View) (a : ℕ) (P : TopicsInvariant z v) (named : Option PartStep) (states : ℕ → ℕ) (IsThen : ℕ → ℕ → Type 0)
    : Type 0 where
  pub new_ : (step : PartStep) → named ≡ Some step → (k : ℕ) → k < z.vcpus → WasThere v states k → OfNewWrites step (v.hand a).topics v (IsThen k)
  pub below_root : a < z.vcpus → WasThere v states a → AllOver P.up P.spot (v.words area.Pool) (v.words area.Root 0) (LeafIsGuarded (IsThen a))
  pub before : (k : ℕ) → k < z.vcpus → WasThere v states k → InReach P.up P.spot (v.words area.Pool) (v.hand k).topics (LeafIsGuarded (IsThen k))

-- ---- a step of a part

module _ (z : Sizes) (v : View) (a note : ℕ) (step : PartStep) (S : IsPart z v a step) (P : TopicsInvariant z v) (IsThen : ℕ → ℕ → Type 0)
    (G : GoesOnInReach z v a P (Some step) ((part_stepped a step note v).words area.State) IsThen) where
  abbrev t : Topics
  t = (v.hand a).topics

  abbrev after : Topics
  after = part_topics step t (answer_in (part_task step a t note) v.words)

  abbrev up : ℕ → Use
  up = up_after step a t v P.up

  abbrev spot : ℕ → Position
  spot = spot_after step t v P.spot

  abbrev w : View
  w = part_stepped a step note v

  abbrev Both : ℕ → ℕ → ℕ → ℕ → Type 0
  Both k = GivenAndGuarded v (IsThen k)

  -- Where its walk stands in the guest after the step, the actor was there before, and is asked for a flush still.
  walks_still : (step : PartStep) → 1 ≤ (part_topics step t (answer_in (part_task step a t note) v.words)).walk.level
      → AsksStill (v.words area.State a) (words_after (part_task step a t note) v.words area.State a)
  walks_still part.Enter from = absurd (omega (arith, from))
  walks_still part.Leave from = absurd (omega (arith, from))
  walks_still part.Begin from = absurd (omega (arith, from))
  walks_still part.End from = absurd (omega (arith, from))
  walks_still (part.Ask index) from = asks_of z v a note (v.hand a).cached (v.hand a) index a
  walks_still _ from = λ asks. asks

  by_place : (k : ℕ) → AsksStill (v.words area.State k) (words_after (part_task step a t note) v.words area.State k)
      → AsksStill (v.words area.State k) (w.words area.State k)
  by_place k = subst (λ i. AsksStill (v.words area.State k) (words_after (part_task step i t note) v.words area.State k)) (sym S.own_place)

  own_there : after.stay ≡ Guest → 1 ≤ after.walk.level → WasThere v (w.words area.State) a
  own_there guest from = ((guest_comes z v a note P step S guest from).0, by_place a (walks_still step from))

  other_there : (k : ℕ) → k ≢ a → (v.hand k).topics.stay ≡ Guest → WasThere v (w.words area.State) k
  other_there k ne guest = (guest, by_place k (other_asks z v a note (v.hand a).cached (v.hand a) step k ne))

  -- What was in reach were leaves that slots and host gave, too.
  both_before : (k : ℕ) → k < z.vcpus → WasThere v (w.words area.State) k → InReach P.up P.spot (v.words area.Pool) (v.hand k).topics (Both k)
  both_before k low was guest level from down most table entry gfn R O =
      (P.reach k low guest level from down most table entry gfn R O, G.before k low was guest level from down most table entry gfn R O)

  -- Below each table it is so after the step.
  carried : (k : ℕ) → k < z.vcpus → WasThere v (w.words area.State) k → (m : ℕ) → is_table (P.up m) ≡ true → AllOver P.up P.spot (v.words area.Pool) m (Both k)
      → AllOver up spot (w.words area.Pool) m (Both k)
  carried k low was m table = given_step z v a step note S P (IsThen k) (G.new_ step refl k low was) m table

  guarded : (k m : ℕ) → AllOver up spot (w.words area.Pool) m (Both k) → AllOver up spot (w.words area.Pool) m (LeafIsGuarded (IsThen k))
  guarded k m = over_weaker up spot (w.words area.Pool) m (Both k) (LeafIsGuarded (IsThen k)) (λ level gfn word so. so.1)

  other_guarded : (k : ℕ) → k ≢ a → k < z.vcpus → InReach up spot (w.words area.Pool) (v.hand k).topics (LeafIsGuarded (IsThen k))
  other_guarded k ne low guest level from down most =
      let was = other_there k ne guest in
      guarded k (table_at level (v.hand k).topics.walk)
      (other_reach z v a note step S P (Both k) (carried k low was) k (omega (arith, low)) (both_before k low was) guest level from down most)

  own_guarded : a < z.vcpus → InReach up spot (w.words area.Pool) after (LeafIsGuarded (IsThen a))
  own_guarded low guest level from down most =
      let was = own_there guest from in
      guarded a (table_at level after.walk)
      (own_reach z v a note step S P (Both a) (carried a low was)
      (λ table entry gfn R O. (P.leaves table entry gfn R O, G.below_root low was table entry gfn R O)) (both_before a low was) guest level from down most)

  -- In one account of the tables, and so in each.
  all_guarded : (k : ℕ) → k < z.vcpus → InReach up spot (w.words area.Pool) (w.hand k).topics (LeafIsGuarded (IsThen k))
  all_guarded =
      behind_step (λ (u : View). (k : ℕ) → k < z.vcpus → InReach up spot (w.words area.Pool) (u.hand k).topics (LeafIsGuarded (IsThen k))) z v a step note S
      (at_upd (λ k (h : Held). k < z.vcpus → InReach up spot (w.words area.Pool) h.topics (LeafIsGuarded (IsThen k))) v.hand a (stepped_hand a step note v)
      own_guarded other_guarded)

  part_reach : ReachIs z w.words (λ i. (w.hand i).topics) IsThen
  part_reach more place T k low H K =
      let lt : k < actors_of z = omega (arith, low) in
      reach_accounts (tree_kept z v a step note S P) T (LeafIsGuarded (IsThen k)) (w.hand k).topics (held_kept z v a step note S P k lt)
      (paths_kept z v a step note S P k lt) H K (all_guarded k low)

-- ---- a task

-- What actors hold after a task of actor a.
abbrev pub topics_behind : View → ℕ → Task → ℕ → Topics
topics_behind v a task =
    upd (λ i. (v.hand i).topics) a (topics_after (v.hand a).state.sizes (kind_of_task (v.hand a).state.sizes task) (v.hand a).topics (answer_in task v.words))

-- A touch leaves the tables, the state words and what actors hold.
touch_reach : (z : Sizes) (v : View) (a : ℕ) (P : TopicsInvariant z v) (op : Op) (index : ℕ) (IsThen : ℕ → ℕ → Type 0)
    → GoesOnInReach z v a P None (words_after (touch_of op index) v.words area.State) IsThen
    → ReachIs z (words_after (touch_of op index) v.words) (λ i. (v.hand i).topics) IsThen
touch_reach z v a P Read index IsThen G more place T k low H K =
    let lt : k < actors_of z = omega (arith, low) in
    reach_accounts P.tree T (LeafIsGuarded (IsThen k)) (v.hand k).topics (P.held k lt) (P.paths k lt) H K
    (λ guest. G.before k low (guest, λ asks. asks) guest)
touch_reach z v a P _ index IsThen G more place T k low H K =
    let lt : k < actors_of z = omega (arith, low) in
    reach_accounts P.tree T (LeafIsGuarded (IsThen k)) (v.hand k).topics (P.held k lt) (P.paths k lt) H K
    (λ guest. G.before k low (guest, λ asks. asks) guest)

-- So it is after each task of a step.
pub task_reach : (z : Sizes) (v : View) (a : ℕ) (P : TopicsInvariant z v) (named : Option PartStep) (task : Task) → StepAt z v a named task
    → (IsThen : ℕ → ℕ → Type 0) → GoesOnInReach z v a P named (words_after task v.words area.State) IsThen
    → ReachIs z (words_after task v.words) (topics_behind v a task) IsThen
task_reach z v a P named _ (Makes step note is S) IsThen G =
    let task : Task = part_task step (own_index (v.hand a)) (v.hand a).topics note in
    subst (λ (topics : ℕ → Topics). ReachIs z (words_after task v.words) topics IsThen) (column_upd (λ (h : Held). h.topics) v.hand a _)
    (part_reach z v a note step S P IsThen (subst (λ (s : Option PartStep). GoesOnInReach z v a P s (words_after task v.words area.State) IsThen) is G))
task_reach z v a P named _ (Touches op index none) IsThen G =
    let task : Task = touch_of op index in
    subst (λ (topics : ℕ → Topics). ReachIs z (words_after task v.words) topics IsThen)
    (sym (ap (λ (t : Topics). upd (λ i. (v.hand i).topics) a t)
    (touch_topics (v.hand a).state.sizes op index (v.hand a).topics (answer_in task v.words)) ∙ upd_id (λ i. (v.hand i).topics) a))
    (touch_reach z v a P op index IsThen (subst (λ (s : Option PartStep). GoesOnInReach z v a P s (words_after task v.words area.State) IsThen) none G))
