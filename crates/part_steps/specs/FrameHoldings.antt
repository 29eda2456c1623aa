-- What a hand holds that a step needs which moves a host page: of frames, and of the page's words (page_migration.rst).
use Rattle.std.specs.Prelude.{◌≡◌, ◌+◌, ◌*◌, ◌<◌, ◌≤◌, ℕ, Bool, true, false, ◌==◌, ◌&&◌, ◌||◌, Option, Some, None, is_some}
use Rattle.core_views.specs.declared.topics.OwnedFrame.{OwnedFrame}
use Rattle.core_views.specs.Held.{Held}
use Rattle.core_views.specs.Sizes.{actors_of}
use Rattle.spte_words.specs.HostWords.{host_frame, with_frame, with_presence, with_writes}
use Rattle.part_steps.specs.FrameTopics.{copy_held, frame_owned, words_moved}
use Rattle.part_steps.specs.InvalidationHoldings.{MayChange}
use Rattle.part_steps.specs.PartHoldings.{next_watched}
use Rattle.part_steps.specs.PartTasks.{own_index, word_looked}

-- The new host word moves the page of the old one to the frame that is owned, which has all of so many words of the page; or, where none is owned, it allows
-- writes to the page, or forbids them, or takes the page away. It is the same else.
abbrev pub revises : ℕ → Option OwnedFrame → ℕ → ℕ → Bool
revises words None word new_ = (new_ == with_writes true word) || (new_ == with_writes false word) || (new_ == with_presence false word)
revises words (Some o) word new_ = (o.filled == words) && (new_ == with_frame o.frame word)

-- The next word of the page may be copied, which has this index: the actor may change the page, and owns a frame that has yet to be filled.
pub record MayCopy (index : ℕ) (h : Held) : Type 0 where
  pub change : MayChange h
  pub owns : is_some h.topics.frames.owned ≡ true
  pub left : words_moved h.topics.frames.owned < h.state.sizes.words
  pub is : index ≡ h.state.sizes.words * host_frame (word_looked h.topics.host) + words_moved h.topics.frames.owned

-- What was copied may be stored in the next word of the frame, which has this index. The actor owns no page of the pool.
pub record MayStore (index : ℕ) (h : Held) : Type 0 where
  pub change : MayChange h
  pub copied : is_some (copy_held h.topics.frames.owned) ≡ true
  pub left : words_moved h.topics.frames.owned < h.state.sizes.words
  pub is : index ≡ h.state.sizes.words * frame_owned h.topics.frames.owned + words_moved h.topics.frames.owned
  pub no_page : h.topics.owned ≡ None

-- A frame is owned, and each other actor was watched since a page was last moved out of it; no invalidation of the actor's own is open.
pub record MayGiveFrame (h : Held) : Type 0 where
  pub owns : is_some h.topics.frames.owned ≡ true
  pub closed : h.topics.invalidations.opened ≡ false
  pub watched : actors_of h.state.sizes ≤ next_watched (own_index h) h.topics.watched
