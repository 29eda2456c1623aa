-- What is said of the words of the parts and of what actors hold speaks of hands by their topics alone.
use Rattle.std.proofs.Common.{◌≡◌, ◌<◌, ℕ, sym, subst}
use Rattle.core_views.specs.declared.sizes.Sizes.{Sizes}
use Rattle.core_views.specs.declared.topics.Topics.{Topics}
use Rattle.core_views.specs.Held.{Held}
use Rattle.core_views.specs.Sizes.{actors_of}
use Rattle.mmu_core.specs.invariant.TopicsInvariant.{CountersPart, FilledPart, FramesPart, HeldPart, LockPart, LookPart, OwedPart}
use Rattle.mmu_core.specs.invariant.TopicsInvariant.{OwnLooksPart, SawWriter, SearchPart}
use Rattle.mmu_core.specs.invariant.TopicsInvariant.{StatesPart, TopicsInvariantOf, SetsPart, OldSetsPart, PathPart, UsePart, stands, CountPart}
use Rattle.mmu_core.specs.invariant.TopicsInvariant.{CheckedPart, HeldSlotsPart, KnownRangePart, LoadedPart, LookedFramesPart, PassedPart, RangePart}
use Rattle.mmu_core.specs.invariant.TopicsInvariant.{ChangesPart, CollectedPart, IsLowRow, OwnPagesPart, OwnRowsPart}
use Rattle.mmu_core.specs.invariant.TopicsInvariant.{LinkedPart, ReachFlushPart, ReachPart}
use Rattle.mmu_core.specs.invariant.TopicsInvariant.{RunsPart, ScopePart, SlotScopePart, SweptPart, ZappedPart}

pub same_topics : (z : Sizes) (lock root slots seq count start end_ : ℕ) (states map frame_map host role pool : ℕ → ℕ) (hand other : ℕ → Held)
    → ◌≡◌ {A = ℕ → Topics} (λ i. (other i).topics) (λ i. (hand i).topics)
    → TopicsInvariantOf z lock root slots seq count start end_ states map frame_map host role pool hand
    → TopicsInvariantOf z lock root slots seq count start end_ states map frame_map host role pool other
same_topics z lock root slots seq count start end_ states map frame_map host role pool hand other same I = record {
  up = I.up;
  spot = I.spot;
  use_of = I.use_of;
  lock_part = subst (λ (t : ℕ → Topics). LockPart (actors_of z) lock (λ i. (t i).hold)) (sym same) I.lock_part;
  saw_writer = subst (λ (t : ℕ → Topics). (i : ℕ) → i < actors_of z → SawWriter (t i).hold) (sym same) I.saw_writer;
  states_part = subst (λ (t : ℕ → Topics). StatesPart (actors_of z) states (λ i. (t i).stay)) (sym same) I.states_part;
  uses = subst (λ (t : ℕ → Topics). UsePart (actors_of z) z.pool slots map (λ i. (t i).owned) (λ i. (t i).retired) I.up) (sym same) I.uses;
  tree = I.tree;
  leaves = I.leaves;
  filled = subst (λ (t : ℕ → Topics). FilledPart (actors_of z) role pool (λ i. (t i).owned)) (sym same) I.filled;
  held = subst (λ (t : ℕ → Topics). (i : ℕ) → i < actors_of z → HeldPart (stands I.up I.spot) (t i)) (sym same) I.held;
  paths = subst (λ (t : ℕ → Topics). (i : ℕ) → i < actors_of z → PathPart (stands I.up I.spot) (t i).walk) (sym same) I.paths;
  linked = subst (λ (t : ℕ → Topics). (i : ℕ) → i < actors_of z → LinkedPart I.up root (t i)) (sym same) I.linked;
  reach = subst (λ (t : ℕ → Topics). ReachPart z.vcpus I.up I.spot pool host slots t) (sym same) I.reach;
  owed = subst (λ (t : ℕ → Topics). (i : ℕ) → i < actors_of z → OwedPart (t i)) (sym same) I.owed;
  sets = subst (λ (t : ℕ → Topics). SetsPart (actors_of z) slots t) (sym same) I.sets;
  old_sets = subst (λ (t : ℕ → Topics). OldSetsPart z (actors_of z) pool (λ i. (t i).retired)) (sym same) I.old_sets;
  held_slots = subst (λ (t : ℕ → Topics). HeldSlotsPart (actors_of z) seq pool slots t) (sym same) I.held_slots;
  searches = subst (λ (t : ℕ → Topics). (i : ℕ) → i < actors_of z → SearchPart pool (t i).search) (sym same) I.searches;
  hosts = I.hosts;
  frames = subst (λ (t : ℕ → Topics). FramesPart z (actors_of z) frame_map host (λ i. (t i).frames.owned) I.use_of) (sym same) I.frames;
  looked_frames = subst (λ (t : ℕ → Topics). LookedFramesPart z (actors_of z) host t) (sym same) I.looked_frames;
  looks = subst (λ (t : ℕ → Topics). (i : ℕ) → i < actors_of z → LookPart z (actors_of z) seq host t (t i)) (sym same) I.looks;
  own_looks = subst (λ (t : ℕ → Topics). OwnLooksPart z (actors_of z) host t) (sym same) I.own_looks;
  counts = subst (λ (t : ℕ → Topics). CountPart (actors_of z) count (λ i. (t i).invalidations.opened)) (sym same) I.counts;
  checks = subst (λ (t : ℕ → Topics). (i : ℕ) → i < actors_of z → CheckedPart count start end_ seq (t i)) (sym same) I.checks;
  known = subst (λ (t : ℕ → Topics). (i : ℕ) → i < actors_of z → KnownRangePart start end_ (t i)) (sym same) I.known;
  loaded = subst (λ (t : ℕ → Topics). (i : ℕ) → i < actors_of z → LoadedPart pool (t i)) (sym same) I.loaded;
  ranges = subst (λ (t : ℕ → Topics). RangePart (actors_of z) start end_ t) (sym same) I.ranges;
  passed = subst (λ (t : ℕ → Topics). (i : ℕ) → i < actors_of z → PassedPart pool (t i)) (sym same) I.passed;
  scopes = subst (λ (t : ℕ → Topics). ScopePart (actors_of z) pool slots t) (sym same) I.scopes;
  slot_scopes = subst (λ (t : ℕ → Topics). SlotScopePart (actors_of z) pool slots t) (sym same) I.slot_scopes;
  reach_flushed = subst (λ (t : ℕ → Topics). ReachFlushPart (actors_of z) z.vcpus I.up I.spot pool states t) (sym same) I.reach_flushed;
  runs = subst (λ (t : ℕ → Topics). RunsPart z (actors_of z) host t) (sym same) I.runs;
  own_pages = subst (λ (t : ℕ → Topics). OwnPagesPart z (actors_of z) host t) (sym same) I.own_pages;
  changes = subst (λ (t : ℕ → Topics). ChangesPart (actors_of z) host t) (sym same) I.changes;
  own_rows = subst (λ (t : ℕ → Topics). OwnRowsPart z (actors_of z) host t) (sym same) I.own_rows;
  collected = subst (λ (t : ℕ → Topics). (i : ℕ) → i < actors_of z → CollectedPart pool (t i)) (sym same) I.collected;
  low_rows = subst (λ (t : ℕ → Topics). (i : ℕ) → i < actors_of z → IsLowRow (t i).row) (sym same) I.low_rows;
  swept = subst (λ (t : ℕ → Topics). SweptPart (actors_of z) I.up I.spot pool root t) (sym same) I.swept;
  zapped = subst (λ (t : ℕ → Topics). ZappedPart (actors_of z) I.up I.spot pool root t) (sym same) I.zapped;
  few_ended = I.few_ended;
  counters = subst (λ (t : ℕ → Topics). (i : ℕ) → i < actors_of z → CountersPart z (t i)) (sym same) I.counters;
}
