-- Frames of the host: what each of them is used for after a run, what moves have copied, and how frames are taken and given back.
use Rattle.std.specs.Prelude.{◌≡◌, ◌≢◌, ◌⊎◌, ◌<◌, ◌≤◌, ℕ, All, List, [], ◌∷◌, ◌++◌, true, Some}
use Rattle.core_views.specs.declared.kind.Kind.{Kind}
use Rattle.core_views.specs.declared.kind.StepKind.TheVariants as kind
use Rattle.core_views.specs.declared.sizes.Sizes.{Sizes}
use Rattle.core_views.specs.declared.topics.HostLook.{HostLook}
use Rattle.core_views.specs.declared.topics.OwnedFrame.{OwnedFrame}
use Rattle.core_views.specs.declared.topics.Stay.TheVariants.{Section}
use Rattle.core_views.specs.declared.topics.Topics.{Topics}
use Rattle.core_views.specs.declared.trace.Line.{Line}
use Rattle.core_views.specs.Held.{Held}
use Rattle.core_views.specs.Kinds.{code_of}
use Rattle.core_views.specs.Sizes.{actors_of}
use Rattle.spte_words.specs.declared.area.Area.TheVariants as area
use Rattle.spte_words.specs.Entries.{mapped_frame}
use Rattle.mmu_core.specs.forms.access.Cached.{covers}
use Rattle.spte_words.specs.HostWords.{host_frame}
use Rattle.mmu_core.specs.invariant.FramesPart.{CopiedPart, FrameUse}
use Rattle.mmu_core.specs.invariant.FramesPart.FrameUse.{Free, Outside, Page, Owned}
use Rattle.mmu_core.specs.invariant.InvalidatedPart.{may_use}
use Rattle.mmu_core.specs.invariant.PoolPart.{is_free}
use Rattle.mmu_core.specs.machine.Enabled.{mmu}
use Rattle.mmu_core.specs.machine.Machine.{Step, World, effect, hand_in, run}
use Rattle.mmu_core.specs.machine.View.{word_in}
use Rattle.mmu_laws.specs.leaves.LoadedLeaves.{HasLeafTo, LoadedLeavesPart}
use Rattle.core_theorem.specs.Runs.{AfterEveryRun, IsRun}

-- The actor owns this frame.
pub record OwnsFrame (frame : ℕ) (h : Held) : Type 0 where
  pub owned : OwnedFrame
  pub is : h.topics.frames.owned ≡ Some owned
  pub of_frame : owned.frame ≡ frame

-- The frame is used so in this world: it is free, the one that a host page names, present or not, owned by the actor at a place, or outside of the machine.
abbrev pub IsFrameUsedFor : Sizes → World Held → ℕ → FrameUse → Type 0
IsFrameUsedFor z w frame Free = is_free (word_in z w area.FrameMap) frame ≡ true
IsFrameUsedFor z w frame (Page page) = (page < z.pages) × (host_frame (word_in z w area.Host page) ≡ frame)
IsFrameUsedFor z w frame (Owned actor) = (actor < actors_of z) × OwnsFrame frame (hand_in mmu w actor)
IsFrameUsedFor z w frame Outside = z.frames ≤ frame

-- Each frame has one use and no other one: so no two host pages name one frame.
pub record FramesAreUsed (z : Sizes) (w : World Held) : Type 0 where
  pub use_of : ℕ → FrameUse
  pub each : (frame : ℕ) → IsFrameUsedFor z w frame (use_of frame)
  pub only : (frame : ℕ) (use_ : FrameUse) → IsFrameUsedFor z w frame use_ → use_of frame ≡ use_

abbrev pub EachFrameHasOneUse : Type 0
EachFrameHasOneUse = AfterEveryRun (λ z w. FramesAreUsed z w)

-- While its actor's invalidation is open, each word that a move has copied is the page's.
abbrev pub CopiedWordsAreThePages : Type 0
CopiedWordsAreThePages = AfterEveryRun (λ z w. CopiedPart z (actors_of z) (word_in z w area.Content) (λ i. (hand_in mmu w i).topics))

-- The step, made in this world, is a claim that wins this frame.
pub record WinsFrame (frame : ℕ) (w : World Held) (s : Step Kind) : Type 0 where
  pub claims : s.kind.code ≡ code_of kind.Frame
  pub owns : OwnsFrame frame (hand_in mmu (effect mmu w s) s.actor)

-- It gives this frame back.
pub record GivesFrame (frame : ℕ) (w : World Held) (s : Step Kind) : Type 0 where
  pub gives : s.kind.code ≡ code_of kind.Unframe
  pub had : OwnsFrame frame (hand_in mmu w s.actor)

-- In the section that it is in, the actor has looked at a host page that was at this frame.
pub record LooksAtFrame (frame : ℕ) (t : Topics) : Type 0 where
  pub section : t.stay ≡ Section
  pub look : HostLook
  pub is : t.host ≡ Some look
  pub of_frame : host_frame look.word ≡ frame

-- The frame to which a leaf leads that an actor's walk holds is a page's; or another actor owns it, and hasn't watched this one since a page was moved out of
-- it.
abbrev pub LoadedLeavesAreKept : Type 0
LoadedLeavesAreKept = AfterEveryRun (λ z w. LoadedLeavesPart z (word_in z w area.Host) (λ i. (hand_in mmu w i).topics))

-- No other actor owns the frame, or has looked at a page there in the section that it is in, or has a walk that holds a leaf which leads there; no translation
-- to
-- it is cached that its virtual processor may use; and no host page names it.
pub record IsNobodyElses (z : Sizes) (actor frame : ℕ) (w : World Held) : Type 0 where
  pub others : (other : ℕ) → other < actors_of z → other ≢ actor → OwnsFrame frame (hand_in mmu w other) → ⊥
  pub looks : (other : ℕ) → other < actors_of z → other ≢ actor → LooksAtFrame frame (hand_in mmu w other).topics → ⊥
  pub loads : (other : ℕ) → other < actors_of z → other ≢ actor → HasLeafTo frame (hand_in mmu w other).topics.walk → ⊥
  pub unused : (vcpu : ℕ) → vcpu < z.vcpus → may_use (word_in z w area.State vcpu) (hand_in mmu w vcpu).topics.stay ≡ true
      → All (λ t. (gfn : ℕ) → covers gfn t ≡ true → mapped_frame t.level t.leaf gfn ≢ frame) (hand_in mmu w vcpu).cached.items
  pub pages : (page : ℕ) → page < z.pages → host_frame (word_in z w area.Host page) ≢ frame

-- Where a frame is claimed, and where it is given back, it is nobody else's.
abbrev pub FramesAreReusedAlone : Type 0
FramesAreReusedAlone =
    (z : Sizes) (lines : List Line) (w : World Held) (ss : List (Step Kind)) (s : Step Kind) → IsRun z lines w (ss ++ s ∷ []) → (frame : ℕ)
    → (WinsFrame frame (run mmu w ss) s → IsNobodyElses z s.actor frame (run mmu w ss))
    × (GivesFrame frame (run mmu w ss) s → IsNobodyElses z s.actor frame (run mmu w ss))

-- No actor that a watch has passed, since the watcher has moved a page out of a frame, has looked at a page there in the section that it is in, or has a walk
-- that
-- holds a leaf which leads there.
abbrev pub WatchedHoldNoOldFrame : Type 0
WatchedHoldNoOldFrame = AfterEveryRun (λ z w.
    (watcher other frame : ℕ) → watcher < actors_of z
    → other < actors_of z → OwnsFrame frame (hand_in mmu w watcher) → other < (hand_in mmu w watcher).topics.watched
    → LooksAtFrame frame (hand_in mmu w other).topics ⊎ HasLeafTo frame (hand_in mmu w other).topics.walk → ⊥)
