-- The steps of a move of a host page to another frame (page_migration.rst): a word of the page is copied, and stored in the frame that is owned; and the old
-- frame is given back.
use Rattle.std.specs.Prelude.{◌≡◌, ◌≢◌, ℕ, true}
use Rattle.core_views.specs.declared.sizes.Sizes.{Sizes}
use Rattle.core_views.specs.declared.topics.Topics.{Topics}
use Rattle.core_views.specs.Held.{Held}
use Rattle.spte_words.specs.declared.area.Area.{Area}
use Rattle.spte_words.specs.declared.area.Area.TheVariants as area
use Rattle.spte_words.specs.HostWords.{host_frame}
use Rattle.part_steps.specs.declared.part_step.PartStep.TheVariants.{Copy, GiveFrame, Store}
use Rattle.part_steps.specs.FrameTopics.{frame_given, frame_owned, word_copied, word_held, word_stored, words_moved}
use Rattle.part_steps.specs.PartTasks.{word_looked}
use Rattle.mmu_core.specs.invariant.PoolPart.{is_free}
use Rattle.mmu_core.specs.machine.Machine.{World}
use Rattle.mmu_core.specs.machine.View.{word_in}
use Rattle.step_seats.specs.PartTurns.{WherePartMade}
use Rattle.step_seats.specs.Seats.{Seat}
use Rattle.host_map.specs.Touching.{content_in}

-- the frame of the page that was looked up
abbrev pub frame_of_look : Topics → ℕ
frame_of_look t = host_frame (word_looked t.host)

-- what is held after a copy that found this word: it is to be stored next. Nothing else has changed.
abbrev pub holding_copy : ℕ → Topics → Topics
holding_copy found t = record t { frames = record t.frames { owned = word_copied t.frames.owned found } }

-- After a store: the frame has one word more of the page.
abbrev pub holding_stored : Topics → Topics
holding_stored t = record t { frames = record t.frames { owned = word_stored t.frames.owned } }

-- After a frame was given back: none is owned, and its claim has yet to see again what is free.
abbrev pub holding_no_frame : Topics → Topics
holding_no_frame t = record t { frames = frame_given t.frames }

-- Where the copy was made, its answer is the word of the page that is next: the one after those that are filled.
abbrev pub CopiedNextWord : ℕ → ℕ → ℕ → Seat → Seat → Type 0
CopiedNextWord index note answer before after =
    WherePartMade (Copy index) note before after
    (λ w v. answer ≡ content_in before.hand.state.sizes (frame_of_look before.hand.topics) (words_moved before.hand.topics.frames.owned) w)

-- The next word of the frame that is owned holds what was copied for it, and every other word of the machine what it held before.
pub record StoresCopy (z : Sizes) (t : Topics) (index : ℕ) (w v : World Held) : Type 0 where
  pub holds : content_in z (frame_owned t.frames.owned) (words_moved t.frames.owned) v ≡ word_held t.frames.owned
  pub others : (a : Area) (i : ℕ) → (a ≡ area.Content → i ≢ index) → word_in z v a i ≡ word_in z w a i

abbrev pub StoresWhereMade : ℕ → ℕ → Seat → Seat → Type 0
StoresWhereMade index note before after =
    WherePartMade (Store index) note before after (StoresCopy before.hand.state.sizes before.hand.topics index)

-- The frame is free, and every other frame is free where it was free before.
pub record FreesFrame (z : Sizes) (frame : ℕ) (w v : World Held) : Type 0 where
  pub free : is_free (word_in z v area.FrameMap) frame ≡ true
  pub others : (k : ℕ) → k ≢ frame → is_free (word_in z v area.FrameMap) k ≡ is_free (word_in z w area.FrameMap) k

abbrev pub FreesWhereMade : ℕ → Seat → Seat → Type 0
FreesWhereMade note before after =
    WherePartMade GiveFrame note before after (FreesFrame before.hand.state.sizes (frame_owned before.hand.topics.frames.owned))
