-- What one actor holds, as contracts see it.
use Rattle.std.specs.Prelude.{ℕ, Bool, List, [], ◌∷◌, ◌++◌, length, nat_lt, slice_get, unwrap_or}
use Rattle.circular_buffer.specs.Buffer.{Buffer, buffer}
use Rattle.core_views.specs.declared.actor.Actor.{Actor}
use Rattle.core_views.specs.declared.answer.AnsweredLine.{AnsweredLine}
use Rattle.core_views.specs.declared.cache.Translation.{Translation}
use Rattle.core_views.specs.declared.progress.Progress.{Progress}
use Rattle.core_views.specs.declared.place.Place.{Place}
use Rattle.core_views.specs.declared.place.Place.TheVariants.{Between}
use Rattle.core_views.specs.declared.sizes.Sizes.{Sizes}
use Rattle.core_views.specs.declared.topics.Topics.{Topics}
use Rattle.core_views.specs.declared.trace.Line.{Line}
pub use Rattle.core_views.specs.FirstTopics.{first_topics, no_claim, no_invalidations, no_search, no_slot, no_walk}
use Rattle.core_views.specs.Flat.{no_line}
use Rattle.core_views.specs.SlotSets.{MemorySlots}

-- where an actor's line stands, and what it loaded and counted
pub record State : Type 0 where
  pub sizes : Sizes
  pub actor : Actor
  pub place : Place
  pub line : Line  -- the line under way, or the last one
  pub used : Translation  -- the translation that the access uses
  pub steps : ℕ
  pub delays : ℕ

-- what steps read and change: all but the room that was taken
pub record Held : Type 0 where
  pub state : State
  pub topics : Topics
  pub cached : Buffer Translation  -- the newest first
  pub slots : MemorySlots  -- the manager's own record of the slots
  pub harvest : List ℕ  -- the words that its line under way has read of a dirty log, the first one first
  pub lines : List Line
  pub answers : List AnsweredLine

-- a hand, with the room for answers that was taken for it
pub record Handful : Type 0 where
  pub core : Held
  pub room : ℕ

-- the first of a hand's lines that has no answer, where n of these have one
abbrev pub line_of : List Line → ℕ → Line
line_of lines n = unwrap_or (slice_get lines n) no_line

abbrev pub next_line : Held → Line
next_line h = line_of h.lines (length h.answers)

-- the line that the hand's next step is of: the one under way, or the next one
abbrev pub line_at : Place → Held → Line
line_at Between h = next_line h
line_at _ h = h.state.line

-- A line is left that has no answer.
abbrev pub has_line : Held → Bool
has_line h = nat_lt (length h.answers) (length h.lines)

-- A hand keeps its lines and how many are answered, and no line apart: under way is the first that isn't answered, and between lines the
-- last one was the one before it.
abbrev pub line_under : Place → List Line → ℕ → Line
line_under Between lines n = unwrap_or (slice_get (no_line ∷ lines) n) no_line
line_under _ lines n = unwrap_or (slice_get lines n) no_line

abbrev pub state_of : Progress → List Line → ℕ → State
state_of p lines n = record {
  sizes = p.sizes;
  actor = p.actor;
  place = p.place;
  line = line_under p.place lines n;
  used = p.used;
  steps = p.steps;
  delays = p.delays;
}

abbrev pub progress_of : State → Progress
progress_of s = record { sizes = s.sizes; actor = s.actor; place = s.place; used = s.used; steps = s.steps; delays = s.delays }

-- the hand with one more answer
abbrev pub answered : AnsweredLine → Held → Held
answered answer h = record {
  state = state_of (progress_of h.state) h.lines (length (h.answers ++ answer ∷ []));
  topics = h.topics;
  cached = h.cached;
  slots = h.slots;
  harvest = h.harvest;
  lines = h.lines;
  answers = h.answers ++ answer ∷ [];
}

abbrev pub no_translation : Translation
no_translation = record { gfn = 0; level = 1; leaf = 0 }

-- what an actor holds before its first line
abbrev pub first_progress : Sizes → Actor → Progress
first_progress z actor = record { sizes = z; actor = actor; place = Between; used = no_translation; steps = 0; delays = 0 }

abbrev pub first_state : Sizes → Actor → State
first_state z actor = record { sizes = z; actor = actor; place = Between; line = no_line; used = no_translation; steps = 0; delays = 0 }

abbrev pub first_held : Sizes → Actor → List Line → Held
first_held z actor lines = record {
  state = first_state z actor;
  topics = first_topics;
  cached = buffer [] z.cache;
  slots = [];
  harvest = [];
  lines = lines;
  answers = [];
}
