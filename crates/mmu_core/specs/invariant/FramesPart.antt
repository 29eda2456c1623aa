-- The frames of the host: what each of them is used for, and at which of them actors have looked in their sections; and what an actor has copied of a page that
-- it moves (page_migration.rst).
use Rattle.std.specs.Prelude.{◌≡◌, ◌+◌, ◌*◌, ◌<◌, ℕ, Bool, true, false, ◌==◌, nat_le, Option, Some, None}
use Rattle.core_views.specs.declared.sizes.Sizes.{Sizes}
use Rattle.core_views.specs.declared.topics.HostLook.{HostLook}
use Rattle.core_views.specs.declared.topics.OwnedFrame.{OwnedFrame}
use Rattle.core_views.specs.declared.topics.Stay.{Stay}
use Rattle.core_views.specs.declared.topics.Stay.TheVariants.{Section}
use Rattle.core_views.specs.declared.topics.Topics.{Topics}
use Rattle.spte_words.specs.HostWords.{host_frame}
use Rattle.part_steps.specs.PartTasks.{word_looked}
use Rattle.mmu_core.specs.invariant.AreUsed.{AreUsed, has_at, is_number}
use Rattle.mmu_core.specs.invariant.HeldPart.{HeldStill}
use Rattle.mmu_core.specs.invariant.PoolPart.{is_free}

-- what a frame is: free; that of a host page, present or not; owned by the actor at a place; or none, since its number is outside of the machine
pub data FrameUse : Type 0 where
  Free Outside : FrameUse
  Page : (page : ℕ) → FrameUse
  Owned : (actor : ℕ) → FrameUse

-- Two uses are one.
abbrev pub is_frame_use : FrameUse → FrameUse → Bool
is_frame_use FrameUse.Free FrameUse.Free = true
is_frame_use FrameUse.Outside FrameUse.Outside = true
is_frame_use (FrameUse.Page p) (FrameUse.Page q) = p == q
is_frame_use (FrameUse.Owned i) (FrameUse.Owned j) = i == j
is_frame_use _ _ = false

-- The host word names the frame.
abbrev pub is_in : ℕ → ℕ → Bool
is_in word frame = host_frame word == frame

-- The host page, of so many, names the frame.
abbrev pub names : ℕ → (ℕ → ℕ) → ℕ → ℕ → Bool
names pages host page frame = has_at is_in pages host page frame

-- The frame is the one that is owned.
abbrev pub is_frame_of : Option OwnedFrame → ℕ → Bool
is_frame_of owned frame = is_number (λ (o : OwnedFrame). o.frame) owned frame

-- Actor i, of n, owns the frame.
abbrev pub owns_frame : ℕ → (ℕ → Option OwnedFrame) → ℕ → ℕ → Bool
owns_frame n owned i frame = has_at is_frame_of n owned i frame

-- What tells that a frame has a use. It is free where its bit in the map of frames is set; a page's where the page names it; an actor's where the actor owns
-- it; and outside of the machine from the end of its frames on. So no two pages have one frame.
abbrev pub frame_told : Sizes → ℕ → (ℕ → ℕ) → (ℕ → ℕ) → (ℕ → Option OwnedFrame) → FrameUse → ℕ → Bool
frame_told z n map host owned FrameUse.Free frame = is_free map frame
frame_told z n map host owned (FrameUse.Page page) frame = names z.pages host page frame
frame_told z n map host owned (FrameUse.Owned i) frame = owns_frame n owned i frame
frame_told z n map host owned FrameUse.Outside frame = nat_le z.frames frame

-- What each frame is used for, as `use_of` says: each has exactly one use.
pub record FramesPart (z : Sizes) (n : ℕ) (map host : ℕ → ℕ) (owned : ℕ → Option OwnedFrame) (use_of : ℕ → FrameUse) : Type 0 where
  pub told : AreUsed FrameUse is_frame_use (frame_told z n map host owned) use_of

-- the frame at which an actor has looked at a host page, in the section that it is in
abbrev pub frame_looked : Option HostLook → Stay → Option ℕ
frame_looked (Some look) Section = Some (host_frame look.word)
frame_looked _ _ = None

-- the frame that an actor owns
abbrev pub number_owned : Option OwnedFrame → Option ℕ
number_owned None = None
number_owned (Some o) = Some o.frame

-- An actor with these topics has looked at the frame in its section; and it owns the frame.
abbrev pub HasLookedAt : Topics → ℕ → Type 0
HasLookedAt t frame = frame_looked t.host t.stay ≡ Some frame

abbrev pub HasFrame : Topics → ℕ → Type 0
HasFrame t frame = number_owned t.frames.owned ≡ Some frame

-- One of so many host pages names the frame.
abbrev pub IsNamed : ℕ → (ℕ → ℕ) → ℕ → Type 0
IsNamed pages host frame = (page : ℕ) × (page < pages) × (host_frame (host page) ≡ frame)

-- The frame at which an actor has looked at a host page, in the section that it is in, is a page's, or owned by another actor, which hasn't watched it since.
abbrev pub LookedFramesPart : Sizes → ℕ → (ℕ → ℕ) → (ℕ → Topics) → Type 0
LookedFramesPart z n host topics =
    HeldStill HasLookedAt HasFrame n (IsNamed z.pages host) topics

-- Each word of its frame that an actor has filled is the one of the page that it looked at, and so is the one that it has copied for the next, if the frame
-- has one.
pub record IsCopied (words : ℕ) (content : ℕ → ℕ) (t : Topics) (o : OwnedFrame) : Type 0 where
  pub stored : (j : ℕ) → j < o.filled → content (words * o.frame + j) ≡ content (words * host_frame (word_looked t.host) + j)
  pub held : (v : ℕ) → o.copied ≡ Some v → (o.filled < words) × (content (words * host_frame (word_looked t.host) + o.filled) ≡ v)

-- So it is for each actor whose own invalidation is open.
abbrev pub CopiedPart : Sizes → ℕ → (ℕ → ℕ) → (ℕ → Topics) → Type 0
CopiedPart z n content topics =
    (i : ℕ) (o : OwnedFrame) → i < n → (topics i).invalidations.opened ≡ true → (topics i).frames.owned ≡ Some o → IsCopied z.words content (topics i) o
