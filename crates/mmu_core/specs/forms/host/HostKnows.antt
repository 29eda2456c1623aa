-- What a line knows that changes a host page, at each of its places, from what its actor holds alone.
use Rattle.std.specs.Prelude.{◌≡◌, ◌<◌, ◌≤◌, ℕ, Bool, true, false, Option, Some, None, is_some}
use Rattle.core_views.specs.declared.place.EndPlace.TheVariants as ends
use Rattle.core_views.specs.declared.place.HostPlace.{HostPlace}
use Rattle.core_views.specs.declared.place.HostPlace.TheVariants.{Look, Claim, Begin, Copy, Store, Change, End, Watch, Free}
use Rattle.core_views.specs.declared.topics.Frames.{Frames as HeldFrames}
use Rattle.core_views.specs.declared.topics.OwnedFrame.{OwnedFrame}
use Rattle.core_views.specs.declared.trace.HostChange.{HostChange}
use Rattle.core_views.specs.declared.trace.HostChange.TheVariants.{Move}
use Rattle.core_views.specs.Held.{Held}
use Rattle.core_views.specs.HostChanges.{is_own}
use Rattle.core_views.specs.Sizes.{actors_of}
use Rattle.spte_words.specs.Areas.{words_of_bits}
use Rattle.part_steps.specs.declared.invalidations.Target.TheVariants as aim
use Rattle.part_steps.specs.InvalidationRange.{run_of}
use Rattle.part_steps.specs.FrameHoldings.{MayGiveFrame}
use Rattle.part_steps.specs.FrameTopics.{copy_held, is_uncopied, words_moved}
use Rattle.part_steps.specs.PartSteps.{IsAtRest}
use Rattle.part_steps.specs.PartTasks.{page_looked, word_looked}
use Rattle.mmu_core.specs.orders.InvalidateKnows.{BeginKnows, EndKnows, IsOpen}
use Rattle.mmu_core.specs.orders.InvalidateSteps.{is_among_open}
use Rattle.mmu_core.specs.lines.PartWaits.{saw_open}
use Rattle.mmu_core.specs.orders.WatchSteps.{looked_at}
use Rattle.mmu_core.specs.forms.host.HostSteps.{maps_large}

abbrev pub is_move : HostChange → Bool
is_move Move = true
is_move _ = false

-- The page is the actor's own, and its host word was looked up, and no other in a row with it.
pub record LooksAt (page : ℕ) (h : Held) : Type 0 where
  pub own_ : is_own h.state.sizes h.state.actor page ≡ true
  pub looked : is_some h.topics.host ≡ true
  pub at : page_looked h.topics.host ≡ page
  pub alone : h.topics.row.looked ≡ 1

-- It saw that the page is a small one.
abbrev pub SawSmall : Held → Type 0
SawSmall h = maps_large (word_looked h.topics.host) ≡ false

-- Its invalidation of the page is open, and each virtual processor was asked for a flush, and awaited.
pub record HasFlushed (page : ℕ) (h : Held) : Type 0 where
  pub owns_none : h.topics.owned ≡ None
  pub opened : IsOpen h.topics
  pub invalid : h.topics.invalidations.own.pages ≡ Some (run_of page)
  pub asked : h.state.sizes.vcpus ≤ h.topics.flush.asked
  pub awaited : h.state.sizes.vcpus ≤ h.topics.flush.awaited

-- A frame is claimed by a line that moves its page; it owns none yet.
pub record ClaimsFrame (begun : Bool) (change : HostChange) (frames : HeldFrames) (words : ℕ) : Type 0 where
  pub moves : is_move change ≡ true
  pub owns_none : frames.owned ≡ None
  pub within : begun ≡ true → frames.claim.at < words

-- The line owns a frame exactly where it moves its page, and has copied none of its words.
pub record OwnsToMove (change : HostChange) (owned : Option OwnedFrame) : Type 0 where
  pub owns : is_some owned ≡ is_move change
  pub uncopied : is_uncopied owned ≡ true

-- Some of the page's words are copied into the frame that the line owns, and not all.
pub record IsCopying (change : HostChange) (owned : Option OwnedFrame) (words : ℕ) : Type 0 where
  pub moves : is_move change ≡ true
  pub owns : is_some owned ≡ true
  pub left : words_moved owned < words

-- The line owns a frame exactly where it moves its page, and then all of the page's words are copied into it.
pub record HasCopiedAll (change : HostChange) (owned : Option OwnedFrame) (words : ℕ) : Type 0 where
  pub owns : is_some owned ≡ is_move change
  pub all : is_move change ≡ true → words_moved owned ≡ words

-- The line has moved its page, and owns the old frame.
pub record HasMoved (change : HostChange) (h : Held) : Type 0 where
  pub moves : is_move change ≡ true
  pub owns : is_some h.topics.frames.owned ≡ true
  pub closed : h.topics.invalidations.opened ≡ false

-- What its last step asks besides its needs: it saw no invalidation of others open, so giving the lock back is no wait.
abbrev pub HostRests : HostPlace → Held → Type 0
HostRests (End ends.Release) h = saw_open h.topics.invalidations ≡ false
HostRests _ h = Unit {0}

-- what it knows at each place
abbrev pub HostKnows : HostPlace → ℕ → HostChange → Held → Type 0
HostKnows (Look moves) page change h = IsAtRest h.topics × (moves ≡ is_move change) × (h.topics.frames.owned ≡ None)
HostKnows (Claim begun) page change h =
    IsAtRest h.topics × LooksAt page h × ClaimsFrame begun change h.topics.frames (words_of_bits h.state.sizes.frames) × SawSmall h
HostKnows (Begin p) page change h =
    LooksAt page h × BeginKnows p h.state.sizes (aim.Page page) h.topics × OwnsToMove change h.topics.frames.owned × (h.topics.owned ≡ None)
    × SawSmall h
HostKnows Copy page change h = LooksAt page h × HasFlushed page h × IsCopying change h.topics.frames.owned h.state.sizes.words
HostKnows Store page change h =
    LooksAt page h × HasFlushed page h × IsCopying change h.topics.frames.owned h.state.sizes.words
    × (is_some (copy_held h.topics.frames.owned) ≡ true)
HostKnows Change page change h = LooksAt page h × HasFlushed page h × HasCopiedAll change h.topics.frames.owned h.state.sizes.words
HostKnows (End p) page change h =
    LooksAt page h × EndKnows p h.topics × OwnsToMove change h.topics.frames.owned × (h.topics.watched ≡ 0) × (h.topics.owned ≡ None)
HostKnows Watch page change h = LooksAt page h × IsAtRest h.topics × HasMoved change h × (looked_at h < actors_of h.state.sizes)
HostKnows Free page change h = LooksAt page h × IsAtRest h.topics × HasMoved change h × MayGiveFrame h

-- An invalidation of its own is open only from the store of one more to that of one less.
abbrev pub host_opens : HostPlace → Bool
host_opens (Begin p) = is_among_open p
host_opens Copy = true
host_opens Store = true
host_opens Change = true
host_opens (End ends.Release) = false
host_opens (End p) = true
host_opens _ = false

-- A frame is owned only from its claim on, up to the end of the line.
abbrev pub host_owns_frame : HostPlace → Bool
host_owns_frame (Look moves) = false
host_owns_frame (Claim begun) = false
host_owns_frame p = true
