-- What the steps of the parts may rest on, from the hand alone: bounds.
use Rattle.std.specs.Prelude.{◌≡◌, ◌+◌, ◌/◌, ◌^◌, ◌<◌, ◌≤◌, ℕ, All, Some, None, true, false}
use Rattle.core_views.specs.declared.topics.Hold.TheVariants.{Owing}
use Rattle.core_views.specs.declared.place.SlotField.TheVariants.{Flags}
use Rattle.core_views.specs.declared.topics.HostLook.{HostLook}
use Rattle.core_views.specs.declared.topics.HostRow.{HostRow}
use Rattle.core_views.specs.declared.topics.Frames.{Frames}
use Rattle.core_views.specs.declared.topics.OwnedFrame.{OwnedFrame}
use Rattle.core_views.specs.declared.topics.OwnedPage.{OwnedPage}
use Rattle.core_views.specs.declared.topics.PageRun.{PageRun}
use Rattle.core_views.specs.Held.{Held}
use Rattle.core_views.specs.declared.cache.Translation.{Translation}
use Rattle.core_views.specs.declared.sizes.Sizes.{Sizes}
use Rattle.core_views.specs.declared.topics.Topics.{Topics}
use Rattle.spte_words.specs.Areas.{words_of_bits}
use Rattle.core_views.specs.Sizes.{AreSizes, actors_of}
use Rattle.core_views.specs.HostChanges.{is_own}
use Rattle.spte_words.specs.Entries.{level_span}
use Rattle.spte_words.specs.HostWords.{host_frame, host_level}
use Rattle.part_steps.specs.PageRuns.{IsOnRun, word_seen}
use Rattle.part_steps.specs.FrameTopics.{word_held, words_moved}
use Rattle.part_steps.specs.PartTasks.{own_index, table_page}
use Rattle.part_steps.specs.ControlBits.{has_writer}
use Rattle.part_steps.specs.StayTopics.{is_section}
use Rattle.part_steps.specs.SweepTopics.{gone_up}

-- Its leaf is one of a level that has leaves, 1 to 3.
abbrev pub IsAtLeafLevel : Translation → Type 0
IsAtLeafLevel t = (1 ≤ t.level) × (t.level ≤ 3)

-- The counters of an actor's frames stay within what they count: the words of their map, and those of the frame that is owned; the word copied for it is one
-- of 64 bits.
pub record FrameCountersPart (z : Sizes) (f : Frames) : Type 0 where
  pub claim : f.claim.at ≤ words_of_bits z.frames
  pub seen : f.claim.seen < 2 ^ 64
  pub filled : words_moved f.owned ≤ z.words
  pub copied : word_held f.owned < 2 ^ 64

-- The counters of an actor stay within what they count.
pub record CountersPart (z : Sizes) (t : Topics) : Type 0 where
  pub slots : t.search.id ≤ 32
  pub claim : t.claim.at ≤ words_of_bits z.pool
  pub seen : t.claim.seen < 2 ^ 64
  pub watched : t.watched ≤ actors_of z
  pub span : 1 ≤ t.walk.level → t.walk.prefix < 2 ^ 36
  pub entry : t.walk.entry < 2 ^ 64
  pub counted : t.invalidations.count ≤ actors_of z
  pub seq : t.invalidations.seq < 2 ^ 40
  pub asked : t.flush.asked ≤ z.vcpus
  pub range : (t.invalidations.start < 2 ^ 64) × (t.invalidations.end < 2 ^ 64)
  pub frames : FrameCountersPart z t.frames

-- The guest frames that a search has collected lie below 2 ^ 36.
pub record IsLowRow (row : HostRow) : Type 0 where
  pub start : row.start ≤ 2 ^ 36
  pub end_ : row.end ≤ 2 ^ 36

-- While the pages of a run are changed they are pages of the machine, at frames of it.
pub record IsRunOf (z : Sizes) (run : PageRun) : Type 0 where
  pub most : run.level ≤ 3
  pub there : (page : ℕ) → IsOnRun page (Some run) → page < z.pages
  pub frames : (page : ℕ) → IsOnRun page (Some run) → host_frame (word_seen run page) < z.frames

-- What holds of every hand that some world has: its actor is one of the machine's, its pages are pages of the pool, its frame is one of the machine's, its
-- counters stay within what they count, its cache has room for a translation, the pages that the host maps as one with its own are its own, where it has yet to
-- take itself out of the lock's readers it saw a writer, and outside of a section no mark is owed.
pub record PartRests (h : Held) : Type 0 where
  pub sizes : AreSizes h.state.sizes
  pub own_place : own_index h < actors_of h.state.sizes
  pub level : h.topics.walk.level ≤ 4
  pub table : 1 ≤ h.topics.walk.level → table_page h.topics.walk < h.state.sizes.pool
  pub above : 1 ≤ h.topics.walk.level → table_page (gone_up h.topics.walk) < h.state.sizes.pool
  pub root : 1 ≤ h.topics.walk.level → h.topics.walk.root < h.state.sizes.pool
  pub set : (k : ℕ) → h.topics.search.set ≡ Some k → k < h.state.sizes.pool
  pub page : (o : OwnedPage) → h.topics.owned ≡ Some o → o.page < h.state.sizes.pool
  pub left : (k : ℕ) → h.topics.retired ≡ Some k → k < h.state.sizes.pool
  pub frame : (o : OwnedFrame) → h.topics.frames.owned ≡ Some o → o.frame < h.state.sizes.frames
  pub filled : (o : OwnedPage) → h.topics.owned ≡ Some o → o.filled ≤ 513
  pub counters : CountersPart h.state.sizes h.topics
  pub found : h.topics.search.whole ≡ true → h.topics.search.slot.host + h.topics.search.slot.pages ≤ h.state.sizes.pages
  pub flags : h.topics.search.whole ≡ true → h.topics.search.next ≡ Flags
  pub frames : h.topics.search.whole ≡ true → h.topics.search.slot.base + h.topics.search.slot.pages ≤ 2 ^ 36
  pub cache : 1 ≤ h.cached.capacity
  pub levels : All IsAtLeafLevel h.cached.items
  pub looked : (look : HostLook) → h.topics.host ≡ Some look → (look.page < h.state.sizes.pages) × (host_frame look.word < h.state.sizes.frames)
  pub large : (look : HostLook) → h.topics.host ≡ Some look → is_own h.state.sizes h.state.actor look.page ≡ true → (page : ℕ)
      → page / level_span (host_level look.word) ≡ look.page / level_span (host_level look.word) → is_own h.state.sizes h.state.actor page ≡ true
  pub row : IsLowRow h.topics.row
  pub changing : (run : PageRun) → h.topics.invalidations.opened ≡ true → h.topics.invalidations.raised ≡ false
      → h.topics.invalidations.own.pages ≡ Some run → 2 ≤ run.level → IsRunOf h.state.sizes run
  pub saw_writer : (word : ℕ) → h.topics.hold ≡ Owing word → has_writer word ≡ true
  pub owes : is_section h.topics.stay ≡ false → h.topics.owed ≡ None
