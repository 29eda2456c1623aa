-- What is printed waits, and is written in pieces: how much is missing where the writing stops.
use Rattle.std.specs.Prelude.{◌≡◌, ◌≤◌, ◌+◌, ◌⊎◌, ℕ, List, [], ◌++◌, Option, length, take}
use Rattle.std.specs.Io.KnownBytes.{Appends}
use Rattle.core_views.specs.declared.actor.Actor.{Actor}
use Rattle.core_views.specs.declared.answer.Answer.{Answer}
use Rattle.core_views.specs.declared.trace.Line.{Line}
use Rattle.core_views.specs.Text.{line_text}
use Rattle.turn_loops.specs.Weaves.{unfinished_text}

-- at most so many bytes wait to be written, between two answers
abbrev pub most_waiting : ℕ
most_waiting = 8192

-- A prefix of the text was written. It lacks at most 8,192 bytes, and besides at most the text's last line.
pub record LeavesFew (IsLine : List ℕ → Type 0) (before after : Option (List ℕ)) (text : List ℕ) : Type 0 where
  pub earlier : List ℕ
  pub last : List ℕ
  pub are : text ≡ earlier ++ last
  pub one_line : (last ≡ []) ⊎ IsLine last
  pub count : ℕ
  pub within : count ≤ length text
  pub written : Appends before after (take count text)
  pub few : length earlier ≤ count + most_waiting

-- a line that a run prints: what a line of the trace is answered, or the first line of the file that has no answer
abbrev pub IsPrintedLine : List ℕ → Type 0
IsPrintedLine bytes =
    ((number : ℕ) × (actor : Actor) × (answer : Answer) × (bytes ≡ line_text number actor answer)) ⊎ ((line : Line) × (bytes ≡ unfinished_text line))

-- the same of a text of such lines
abbrev pub WritesMost : Option (List ℕ) → Option (List ℕ) → List ℕ → Type 0
WritesMost before after text = LeavesFew IsPrintedLine before after text
