-- What holds at every moment of the words of the machine's parts and of what actors hold of them.
use Rattle.std.specs.Prelude.{◌^◌, ◌<◌, ℕ}
use Rattle.core_views.specs.declared.sizes.Sizes.{Sizes}
use Rattle.core_views.specs.Held.{Held}
use Rattle.core_views.specs.Sizes.{actors_of}
use Rattle.spte_words.specs.declared.area.Area.TheVariants as area
use Rattle.mmu_core.specs.machine.View.{View}
pub use Rattle.part_steps.specs.PartBounds.{CountersPart, IsLowRow}
pub use Rattle.mmu_core.specs.invariant.AllOver.{AllOver, LeafIsFor}
pub use Rattle.mmu_core.specs.invariant.FramesPart.{CopiedPart, FrameUse, FramesPart, LookedFramesPart}
pub use Rattle.mmu_core.specs.invariant.HostWordsPart.{HostWordsPart, IsHostWord, OwnLooksPart}
pub use Rattle.mmu_core.specs.invariant.HeldPart.{HeldPart, HoldsOld, OldSetsPart, OwedPart, PathPart, SetsPart}
pub use Rattle.mmu_core.specs.invariant.InvalidationsPart.{CheckedPart, CountPart, KnownRangePart, LoadedPart}
pub use Rattle.mmu_core.specs.invariant.InvalidatedPart.{CollectedPart, PassedPart, RangePart, ScopePart, SweptPart, ZappedPart}
pub use Rattle.mmu_core.specs.invariant.LockPart.{LockPart, SawWriter}
pub use Rattle.mmu_core.specs.invariant.PoolPart.{FilledPart, IsFilled, UsePart, is_retired}
pub use Rattle.mmu_core.specs.invariant.ReachPart.{LinkedPart, ReachFlushPart, ReachPart}
pub use Rattle.mmu_core.specs.invariant.RunsPart.{ChangesPart, OwnPagesPart, OwnRowsPart, RunsPart, SlotScopePart}
pub use Rattle.mmu_core.specs.invariant.SearchPart.{HeldSlotsPart, IsInvalidating, LookPart, SearchPart}
pub use Rattle.mmu_core.specs.invariant.StatesPart.{StatesPart}
pub use Rattle.mmu_core.specs.invariant.TreePart.{Position, TreePart, Use, stands}

-- All parts, of the columns of words and the column of hands; what each page of the pool is, and where it stands if it is a table; and what each frame is.
pub record TopicsInvariantOf (z : Sizes) (lock root slots seq count start end_ : ℕ) (states map frame_map host role pool : ℕ → ℕ) (hand : ℕ → Held)
    : Type 0 where
  pub up : ℕ → Use
  pub spot : ℕ → Position
  pub use_of : ℕ → FrameUse
  pub lock_part : LockPart (actors_of z) lock (λ i. (hand i).topics.hold)
  pub saw_writer : (i : ℕ) → i < actors_of z → SawWriter (hand i).topics.hold
  pub states_part : StatesPart (actors_of z) states (λ i. (hand i).topics.stay)
  pub uses : UsePart (actors_of z) z.pool slots map (λ i. (hand i).topics.owned) (λ i. (hand i).topics.retired) up
  pub tree : TreePart z.pool root role pool up spot
  pub leaves : AllOver up spot pool root (LeafIsFor pool host slots)
  pub filled : FilledPart (actors_of z) role pool (λ i. (hand i).topics.owned)
  pub held : (i : ℕ) → i < actors_of z → HeldPart (stands up spot) (hand i).topics
  pub paths : (i : ℕ) → i < actors_of z → PathPart (stands up spot) (hand i).topics.walk
  pub linked : (i : ℕ) → i < actors_of z → LinkedPart up root (hand i).topics
  pub reach : ReachPart z.vcpus up spot pool host slots (λ i. (hand i).topics)
  pub owed : (i : ℕ) → i < actors_of z → OwedPart (hand i).topics
  pub sets : SetsPart (actors_of z) slots (λ i. (hand i).topics)
  pub old_sets : OldSetsPart z (actors_of z) pool (λ i. (hand i).topics.retired)
  pub held_slots : HeldSlotsPart (actors_of z) seq pool slots (λ i. (hand i).topics)
  pub searches : (i : ℕ) → i < actors_of z → SearchPart pool (hand i).topics.search
  pub hosts : HostWordsPart z host
  pub frames : FramesPart z (actors_of z) frame_map host (λ i. (hand i).topics.frames.owned) use_of
  pub looked_frames : LookedFramesPart z (actors_of z) host (λ i. (hand i).topics)
  pub looks : (i : ℕ) → i < actors_of z → LookPart z (actors_of z) seq host (λ j. (hand j).topics) (hand i).topics
  pub own_looks : OwnLooksPart z (actors_of z) host (λ i. (hand i).topics)
  pub counts : CountPart (actors_of z) count (λ i. (hand i).topics.invalidations.opened)
  pub checks : (i : ℕ) → i < actors_of z → CheckedPart count start end_ seq (hand i).topics
  pub known : (i : ℕ) → i < actors_of z → KnownRangePart start end_ (hand i).topics
  pub loaded : (i : ℕ) → i < actors_of z → LoadedPart pool (hand i).topics
  pub ranges : RangePart (actors_of z) start end_ (λ i. (hand i).topics)
  pub passed : (i : ℕ) → i < actors_of z → PassedPart pool (hand i).topics
  pub scopes : ScopePart (actors_of z) pool slots (λ i. (hand i).topics)
  pub slot_scopes : SlotScopePart (actors_of z) pool slots (λ i. (hand i).topics)
  pub swept : SweptPart (actors_of z) up spot pool root (λ i. (hand i).topics)
  pub zapped : ZappedPart (actors_of z) up spot pool root (λ i. (hand i).topics)
  pub reach_flushed : ReachFlushPart (actors_of z) z.vcpus up spot pool states (λ i. (hand i).topics)
  pub runs : RunsPart z (actors_of z) host (λ i. (hand i).topics)
  pub own_pages : OwnPagesPart z (actors_of z) host (λ i. (hand i).topics)
  pub changes : ChangesPart (actors_of z) host (λ i. (hand i).topics)
  pub own_rows : OwnRowsPart z (actors_of z) host (λ i. (hand i).topics)
  pub collected : (i : ℕ) → i < actors_of z → CollectedPart pool (hand i).topics
  pub low_rows : (i : ℕ) → i < actors_of z → IsLowRow (hand i).topics.row
  pub few_ended : seq < 2 ^ 40
  pub counters : (i : ℕ) → i < actors_of z → CountersPart z (hand i).topics

abbrev pub TopicsInvariant : Sizes → View → Type 0
TopicsInvariant z v =
    TopicsInvariantOf z (v.words area.Lock 0) (v.words area.Root 0) (v.words area.Slots 0) (v.words area.Seq 0) (v.words area.Count 0)
    (v.words area.RangeStart 0) (v.words area.RangeEnd 0) (v.words area.State) (v.words area.PoolMap) (v.words area.FrameMap) (v.words area.Host)
    (v.words area.Role) (v.words area.Pool) v.hand
