-- What an actor holds of the frames of the host: its claim of one, the one that it owns, and the words of a page that it has copied into this.
use Rattle.std.specs.Prelude.{◌+◌, ◌*◌, ℕ, Bool, true, ◌==◌, ◌&&◌, if◌then◌else◌, not, Option, Some, None, is_some}
use Rattle.core_views.specs.declared.topics.Frames.{Frames}
use Rattle.core_views.specs.declared.topics.MapClaim.{MapClaim}
use Rattle.core_views.specs.declared.topics.OwnedFrame.{OwnedFrame}
use Rattle.part_steps.specs.PageTopics.{is_won, tried, tried_bit, unseen}

-- the frame that is owned, how many of its words are filled, and the word that was copied for the next one of them
abbrev pub frame_owned : Option OwnedFrame → ℕ
frame_owned None = 0
frame_owned (Some o) = o.frame

abbrev pub words_moved : Option OwnedFrame → ℕ
words_moved None = 0
words_moved (Some o) = o.filled

abbrev pub copy_held : Option OwnedFrame → Option ℕ
copy_held None = None
copy_held (Some o) = o.copied

abbrev pub number_held : Option ℕ → ℕ
number_held None = 0
number_held (Some v) = v

abbrev pub word_held : Option OwnedFrame → ℕ
word_held owned = number_held (copy_held owned)

-- None of the words of a page is copied into the frame that is owned, if there is one.
abbrev pub is_uncopied : Option OwnedFrame → Bool
is_uncopied None = true
is_uncopied (Some o) = (o.filled == 0) && not (is_some o.copied)

-- what is owned after a claim's try of a frame, which found v
abbrev pub frame_claimed : MapClaim → ℕ → Option OwnedFrame
frame_claimed claim v = if is_won claim v then Some (record { frame = 64 * claim.at + tried_bit claim; filled = 0; copied = None }) else None

-- after a claim's try: what is owned, and the claim, which is over or has the bits seen now
abbrev pub frame_tried : Frames → ℕ → Frames
frame_tried f v = record { claim = tried f.claim v; owned = frame_claimed f.claim v }

-- A word of the page was copied.
abbrev pub word_copied : Option OwnedFrame → ℕ → Option OwnedFrame
word_copied None v = None
word_copied (Some o) v = Some (record { frame = o.frame; filled = o.filled; copied = Some v })

-- It was stored in the frame.
abbrev pub word_stored : Option OwnedFrame → Option OwnedFrame
word_stored None = None
word_stored (Some o) = Some (record { frame = o.frame; filled = o.filled + 1; copied = None })

-- Who owns a frame owns this one in its place, of which nothing is filled.
abbrev pub frame_left : ℕ → Option OwnedFrame → Option OwnedFrame
frame_left frame None = None
frame_left frame (Some o) = Some (record { frame = frame; filled = 0; copied = None })

-- Where the page was moved into the frame that is owned, the page's old one is owned.
abbrev pub frame_after : Bool → ℕ → Option OwnedFrame → Option OwnedFrame
frame_after won frame owned = if won then frame_left frame owned else owned

-- The frame was given back: a claim has yet to see again which frames are free in its word of the map.
abbrev pub frame_given : Frames → Frames
frame_given f = record { claim = unseen f.claim; owned = None }
