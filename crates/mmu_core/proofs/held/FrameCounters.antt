-- Counters stay within what they count: of a claim in a map, and of the frame that an actor owns; and numbers that were loaded.
use Rattle.std.proofs.Common.{◌+◌, ◌*◌, ◌^◌, ◌<◌, ◌≤◌, ℕ, arith}
use Rattle.std.specs.Prelude.{Bool, true, false, if◌then◌else◌, ◌==◌, Option, Some, None}
use Rattle.core_views.specs.declared.sizes.Sizes.{Sizes}
use Rattle.core_views.specs.declared.topics.Flush.{Flush}
use Rattle.core_views.specs.declared.topics.Frames.{Frames}
use Rattle.core_views.specs.declared.topics.MapClaim.{MapClaim}
use Rattle.core_views.specs.declared.topics.OwnedFrame.{OwnedFrame}
use Rattle.spte_words.specs.Areas.{words_of_bits}
use Rattle.part_steps.specs.FrameTopics.{frame_after, frame_claimed, frame_given, frame_left, frame_tried, word_copied, word_held, word_stored, words_moved}
use Rattle.part_steps.specs.PageTopics.{is_won, tried_bit}
use Rattle.part_steps.specs.PartBounds.{FrameCountersPart}
use Rattle.part_steps.specs.StayTopics.{no_flush}

-- ---- A claim.

pub one_more : (b : Bool) (n most : ℕ) → n < most → n + (if b then 1 else 0) ≤ most
one_more true n most lt = omega (arith, lt)
one_more false n most lt = omega (arith, lt)

pub tried_at : (b : Bool) (n most : ℕ) → n ≤ most → (if b then 0 else n) ≤ most
tried_at true n most le = omega arith
tried_at false n most le = omega (arith, le)

pub tried_seen : (b : Bool) (n : ℕ) → n < 2 ^ 64 → (if b then 0 else n) < 2 ^ 64
tried_seen true n lt = omega arith
tried_seen false n lt = omega (arith, lt)

-- ---- Other numbers.

pub one_more_unless : (b : Bool) (n most : ℕ) → n < most → n + (if b then 0 else 1) ≤ most
one_more_unless true n most lt = omega (arith, lt)
one_more_unless false n most lt = omega (arith, lt)

-- A sequence number is the word's, or the one that was loaded before.
pub seq_few : (b : Bool) (v n : ℕ) → v < 2 ^ 40 → n < 2 ^ 40 → (if b then v else n) < 2 ^ 40
seq_few true v n few was = few
seq_few false v n few was = was

pub flush_few : (b : Bool) (f : Flush) (n : ℕ) → f.asked ≤ n → (if b then no_flush else f).asked ≤ n
flush_few true f n few = omega arith
flush_few false f n few = few

-- ---- The frame that is owned: few of its words are filled, and a word was copied.

record FewMoved (words : ℕ) (owned : Option OwnedFrame) : Type 0 where
  filled : words_moved owned ≤ words
  copied : word_held owned < 2 ^ 64

claimed_few : (words v : ℕ) (claim : MapClaim) → FewMoved words (frame_claimed claim v)
claimed_few words v claim = by (is_won claim v)
  where
    by : (won : Bool) → FewMoved words (if won then Some (record { frame = 64 * claim.at + tried_bit claim; filled = 0; copied = None }) else None)
    by true = record { filled = omega arith; copied = omega arith }
    by false = record { filled = omega arith; copied = omega arith }

copied_few : (words v : ℕ) (owned : Option OwnedFrame) → v < 2 ^ 64 → FewMoved words owned → FewMoved words (word_copied owned v)
copied_few words v None small few = few
copied_few words v (Some o) small few = record { filled = few.filled; copied = small }

stored_few : (words : ℕ) (owned : Option OwnedFrame) → words_moved owned < words → FewMoved words (word_stored owned)
stored_few words None left = record { filled = omega arith; copied = omega arith }
stored_few words (Some o) left = record { filled = omega (arith, left); copied = omega arith }

left_few : (words frame : ℕ) (owned : Option OwnedFrame) → FewMoved words (frame_left frame owned)
left_few words frame None = record { filled = omega arith; copied = omega arith }
left_few words frame (Some o) = record { filled = omega arith; copied = omega arith }

after_few : (words frame : ℕ) (won : Bool) (owned : Option OwnedFrame) → FewMoved words owned → FewMoved words (frame_after won frame owned)
after_few words frame true owned few = left_few words frame owned
after_few words frame false owned few = few

-- ---- Both, after each step of frames.

module _ (z : Sizes) (f : Frames) (F : FrameCountersPart z f) where
  few : FewMoved z.words f.owned
  few = record { filled = F.filled; copied = F.copied }

  -- The claim is as it was.
  still_claims : (owned : Option OwnedFrame) → FewMoved z.words owned → FrameCountersPart z (record f { owned = owned })
  still_claims owned is = record { claim = F.claim; seen = F.seen; filled = is.filled; copied = is.copied }

  pub map_frames : (word v : ℕ) → word < words_of_bits z.frames → v < 2 ^ 64
      → FrameCountersPart z (record f { claim = record { at = word + (if v == 0 then 1 else 0); seen = v } })
  map_frames word v lt small = record { claim = one_more (v == 0) word (words_of_bits z.frames) lt; seen = small; filled = F.filled; copied = F.copied }

  pub tried_frames : (v : ℕ) → v < 2 ^ 64 → FrameCountersPart z (frame_tried f v)
  tried_frames v small =
      let is = claimed_few z.words v f.claim in
      record {
        claim = tried_at (is_won f.claim v) f.claim.at (words_of_bits z.frames) F.claim;
        seen = tried_seen (is_won f.claim v) v small;
        filled = is.filled;
        copied = is.copied;
      }

  pub copied_frames : (v : ℕ) → v < 2 ^ 64 → FrameCountersPart z (record f { owned = word_copied f.owned v })
  copied_frames v small = still_claims _ (copied_few z.words v f.owned small few)

  pub stored_frames : words_moved f.owned < z.words → FrameCountersPart z (record f { owned = word_stored f.owned })
  stored_frames left = still_claims _ (stored_few z.words f.owned left)

  pub changed_frames : (won : Bool) (frame : ℕ) → FrameCountersPart z (record f { owned = frame_after won frame f.owned })
  changed_frames won frame = still_claims _ (after_few z.words frame won f.owned few)

  pub given_frames : FrameCountersPart z (frame_given f)
  given_frames = record { claim = F.claim; seen = omega arith; filled = omega arith; copied = omega arith }
