-- What is kept of what happened before, for the laws on dirty logs: which lines write under way, and which frames were written.
use Rattle.std.specs.Prelude.{ℕ, List, [], ◌∷◌, Bool, false, not, ◌==◌, ◌||◌, if◌then◌else◌, filter, Option, Some, None}
use Rattle.std.specs.List.{list_any}
use Rattle.core_views.specs.declared.actor.Actor.{Actor}
use Rattle.core_views.specs.declared.memory_slot.MemorySlot.{MemorySlot}
use Rattle.core_views.specs.declared.trace.Command.{Command}
use Rattle.core_views.specs.declared.trace.Command.TheVariants.{Access}
use Rattle.core_views.specs.Actors.{is_same}
use Rattle.core_views.specs.Slots.{contains, is_write}

-- a set of guest frames
abbrev pub FrameSet : Type 0
FrameSet = ℕ → Bool

-- A write that is under way may still reach its frame, or have done so.
pub record Past : Type 0 where
  pub writes : List (Actor × ℕ)  -- the lines under way that write: the actor of each, and its guest frame
  pub due : FrameSet  -- The frame was dirty as a log last began to be read, and no such line was under way then, or the guest was stopped.
  pub recent : FrameSet  -- Such a line was under way at some moment since a log last began to be read, and since the frame's slot was last changed.
  -- One was since that reading began that took the frame out of its log last, and since the frame's slot was last changed; or each page of the slot was
  -- dirty as its log began, and the frame wasn't taken out since.
  pub causes : FrameSet

-- At the start no line is under way.
abbrev pub first_past : Past
first_past = record { writes = []; due = λ gfn. false; recent = λ gfn. false; causes = λ gfn. false }

-- the guest frame that a line with this command writes, or none
abbrev pub written_frame : Command → Option ℕ
written_frame (Access gfn word op) = if is_write op then Some gfn else None
written_frame _ = None

-- A line under way writes the frame.
abbrev pub is_being_written : List (Actor × ℕ) → ℕ → Bool
is_being_written writes gfn = list_any (λ write. write.1 == gfn) writes

-- the writes of other actors
abbrev pub of_others : Actor → List (Actor × ℕ) → List (Actor × ℕ)
of_others actor writes = filter (λ write. not (is_same actor write.0)) writes

-- these frames, and one more
abbrev pub with_guest_frame : ℕ → FrameSet → FrameSet
with_guest_frame gfn frames = λ other. gfn == other || frames other

-- A line begins that writes this frame, or none. Its actor's last line is over.
abbrev pub past_begun : Actor → Option ℕ → Past → Past
past_begun actor None past = record past { writes = of_others actor past.writes }
past_begun actor (Some gfn) past = record {
  writes = (actor, gfn) ∷ of_others actor past.writes;
  due = past.due;
  recent = with_guest_frame gfn past.recent;
  causes = with_guest_frame gfn past.causes;
}

-- The slot, if there is one, has the guest frame.
abbrev pub has_gfn : Option MemorySlot → ℕ → Bool
has_gfn None gfn = false
has_gfn (Some slot) gfn = contains gfn slot.slot

-- these frames, where the slot at an ID is changed: each frame of the one that was there, and of the one that is there now, counts anew, from now on, with
-- the writes that are under way now
abbrev pub counted_anew : Option MemorySlot → Option MemorySlot → List (Actor × ℕ) → FrameSet → FrameSet
counted_anew was slot writes frames = λ gfn. if has_gfn was gfn || has_gfn slot gfn then is_being_written writes gfn else frames gfn
